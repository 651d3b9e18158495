-- What a script sees of what is kept after a transaction.
use Rattle.std.proofs.Common.{◌≡◌, ◌⊎◌, ⊎_elim, inl, inr, ℕ, true, List, [], Some, None, refl, sym, ap, ap₂, ◌∙◌, subst, arith}
use Rattle.plain_model.specs.declared.object.Object.{Object}
use Rattle.plain_model.specs.declared.calls.Call.TheVariants as call
use Rattle.plain_model.specs.Graphs.{root, has_object}
use Rattle.plain_model.specs.Machine.{State, step}
use Rattle.plain_model.specs.History.{end_of}
use Rattle.plain_laws.specs.Sound.{IsSoundGraph}
use Rattle.restart_laws.proofs.QuietLaws.{same-same}
use Rattle.disk_model.specs.declared.area.Area.{Area}
use Rattle.disk_model.specs.Areas.{Bytes}
use Rattle.disk_model.specs.Causes.{Rose}
use Rattle.disk_model.specs.Told.{IsImage, EachImage}
use Rattle.cell_model.specs.Graph.{graph_of}
use Rattle.core_store.specs.JournalView.{JournalView}
use Rattle.logged_journal.specs.View.{LoggedView}
use Rattle.logged_journal.specs.Calls.{FailsCommit}
use Rattle.map_calls.specs.declared.failure.Failure.{Failure}
use Rattle.map_calls.specs.declared.failure.Failure.TheVariants as failure
use Rattle.map_calls.specs.Maps.{MapState}
use Rattle.map_calls.specs.Views.{StoreView, Leaving, LeavesOne, LeavesEither, LeavesThen, GoesOn, Fails}
use Rattle.object_map.specs.Maps.{IsMap}
use Rattle.object_map.specs.Seen.{Seen, seen_of, held}
use Rattle.object_map.specs.Clients.{ClientView, client_at, state_of, seen, free_ids, IsClient, Asks}
use Rattle.stored_map.specs.declared.kept.Kept.{Kept}
use Rattle.stored_map.specs.declared.kept.Kept.TheVariants.{Idle, Looking, Stopped, Shut, Taken}
use Rattle.stored_map.specs.Graphs.{KeepsMap, map_of, pairs_in, reached_in}
use Rattle.stored_map.specs.Stores.{state_in, IsUnmarked, IsIdle, IsLooking, IsKnown, view_at, view_of, left_of, leaving, disk_of, OpensToSame, OpensToMap}
use Rattle.stored_map.specs.Steps.{IsMarkedBy, Stays, KeepsMarks, Refuses, IsAtWork, IsWorking, IsLooked, Commits, LosesCommit, LeavesSameThen, FailsOn}
use Rattle.stored_map.proofs.GraphLaws.{map_same}
use Rattle.stored_map.proofs.LeftLaws.{same_back}
use Rattle.stored_map.proofs.ReachedLaws.{reached_same}
use Rattle.stored_map.proofs.TransactionLaws.{asked_graph, asked_sound, asked_stored}
use Rattle.stored_map.proofs.StepLaws.{unmarked_then, marked_none, asks_stays, asks_marks, run_number}

-- ---- what a power loss leaves

-- a store in which the root reaches the same keeps the map
pub same_map : (ids : ℕ) (g : List Object) (image : Bytes) → IsSoundGraph g → KeepsMap g → OpensToSame ids g image → OpensToMap image (map_of ids g)
same_map ids g image s m o = record {
  cells = o.cells;
  opened = o.opened;
  size = o.size;
  map = map_same g (graph_of o.cells) (pairs_in g) s o.reach m;
  reach = same-same (graph_of o.cells) g (reached_in g) o.reach (same_back (reached_in g) g (reached_same g s));
}

disk_same : {D : Type 0} (a b : D) → Some a ≡ Some b → a ≡ b
disk_same a b e = cc

pub left_image : {D : Type 0} (may_leave : D → Area → List ℕ → Type 0) (kept : Kept D) (disk : D) (image : Bytes) → disk_of kept ≡ Some disk → left_of may_leave kept image → IsImage may_leave disk image
left_image may_leave (Idle v) disk image e l = subst (λ (x : _). IsImage may_leave x image) (disk_same v.disk disk e) l
left_image may_leave (Looking v) disk image e l = subst (λ (x : _). IsImage may_leave x image) (disk_same v.disk disk e) l
left_image may_leave (Stopped v) disk image e l = subst (λ (x : _). IsImage may_leave x image) (disk_same v.disk disk e) l
left_image may_leave (Shut d) disk image e l = subst (λ (x : _). IsImage may_leave x image) (disk_same d disk e) l
left_image may_leave Taken disk image e l = absurd l

pub leaves_one : {D : Type 0} (may_leave : D → Area → List ℕ → Type 0) (kept : Kept D) (disk : D) (ids : ℕ) (g : List Object) → disk_of kept ≡ Some disk → IsSoundGraph g → KeepsMap g → EachImage may_leave disk (OpensToSame ids g) → LeavesOne (leaving may_leave kept) (map_of ids g)
leaves_one may_leave kept disk ids g e s m each image l = same_map ids g image s m (each image (left_image may_leave kept disk image e l))

leaves_either : {D : Type 0} (may_leave : D → Area → List ℕ → Type 0) (kept : Kept D) (disk : D) (ids : ℕ) (g h : List Object) (IsAsked : MapState → Type 0) → disk_of kept ≡ Some disk → IsSoundGraph g → IsSoundGraph h → KeepsMap g → KeepsMap h → IsAsked (map_of ids h)
    → EachImage may_leave disk (λ image. OpensToSame ids g image ⊎ OpensToSame ids h image) → LeavesEither (leaving may_leave kept) (map_of ids g) IsAsked
leaves_either may_leave kept disk ids g h IsAsked e s t m n a each image l = ⊎_elim
    (λ (o : OpensToSame ids g image). inl (same_map ids g image s m o))
    (λ (o : OpensToSame ids h image). inr (map_of ids h, a, same_map ids h image t n o))
    (each image (left_image may_leave kept disk image e l))

-- the map of a graph is left that is the map of before
pub leaves_map : {D : Type 0} (may_leave : D → Area → List ℕ → Type 0) (kept : Kept D) (disk : D) (ids : ℕ) (g : List Object) (m : MapState) → disk_of kept ≡ Some disk → IsSoundGraph g → KeepsMap g → map_of ids g ≡ m → EachImage may_leave disk (OpensToSame ids g) → LeavesOne (leaving may_leave kept) m
leaves_map may_leave kept disk ids g m e s k f each = subst (λ (x : MapState). LeavesOne (leaving may_leave kept) x) f (leaves_one may_leave kept disk ids g e s k each)

-- ---- the store goes on

pub goes_idle : {D : Type 0} (faults : D → ℕ) (may_leave : D → Area → List ℕ → Type 0) (v : LoggedView D) → IsUnmarked v → IsKnown (state_in v) → KeepsMap (state_in v).committed → EachImage may_leave v.disk (OpensToSame (state_in v).ids (state_in v).committed)
    → GoesOn (view_of faults (Idle v)) (leaving may_leave (Idle v))
goes_idle faults may_leave v u k m each = record {
  running = refl;
  unmarked = (u.history, u.log);
  left = leaves_one may_leave (Idle v) v.disk (state_in v).ids (state_in v).committed refl k.sound.committed m each;
}

pub goes_looking : {D : Type 0} (faults : D → ℕ) (may_leave : D → Area → List ℕ → Type 0) (v : LoggedView D) → IsUnmarked v → IsSoundGraph (state_in v).committed → KeepsMap (state_in v).committed → EachImage may_leave v.disk (OpensToSame (state_in v).ids (state_in v).committed)
    → GoesOn (view_of faults (Looking v)) (leaving may_leave (Looking v))
goes_looking faults may_leave v u k m each = record {
  running = refl;
  unmarked = (u.history, u.log);
  left = leaves_one may_leave (Looking v) v.disk (state_in v).ids (state_in v).committed refl k m each;
}

-- ---- a call that was refused

one_then : (cause : Failure) (l : Leaving) (m : MapState) (IsAsked : MapState → Type 0) → (cause ≡ failure.Disk → ⊥) → LeavesOne l m → LeavesThen cause l m IsAsked
one_then failure.Disk l m IsAsked n h = absurd (n refl)
one_then failure.HistoryFull l m IsAsked n h = h
one_then failure.LogFull l m IsAsked n h = h
one_then failure.Memory l m IsAsked n h = h

-- it fails for that cause, where the map of before is left
pub fails_marked : {D : Type 0} (faults : D → ℕ) (may_leave : D → Area → List ℕ → Type 0) (cause : Failure) (before : StoreView) (v : LoggedView D) (IsAsked : MapState → Type 0) → (cause ≡ failure.Disk → ⊥) → IsMarkedBy cause v → LeavesOne (leaving may_leave (Stopped v)) before.map
    → Fails cause before (view_of faults (Stopped v)) (leaving may_leave (Stopped v)) IsAsked
fails_marked faults may_leave cause before v IsAsked n m l = record {
  disk = λ e. absurd (n e);
  history = m.history;
  log = m.log;
  left = one_then cause (leaving may_leave (Stopped v)) before.map IsAsked n l;
}

back_to : {D : Type 0} (may_leave : D → Area → List ℕ → Type 0) (u v : LoggedView D) → Stays u v → EachImage may_leave v.disk (OpensToSame (state_in v).ids (state_in v).committed) → EachImage may_leave v.disk (OpensToSame (state_in u).ids (state_in u).committed)
back_to may_leave u v s each image is = subst (λ (i : ℕ). OpensToSame i (state_in u).committed image) s.ids (subst (λ (g : List Object). OpensToSame (state_in v).ids g image) s.committed (each image is))

-- for want of memory or of room
pub fails_refused : {D : Type 0} (faults : D → ℕ) (may_leave : D → Area → List ℕ → Type 0) (cause : Failure) (before : StoreView) (u v : LoggedView D) (IsAsked : MapState → Type 0) → map_of (state_in u).ids (state_in u).committed ≡ before.map → IsSoundGraph (state_in u).committed → KeepsMap (state_in u).committed
    → Refuses cause u v → EachImage may_leave v.disk (OpensToSame (state_in v).ids (state_in v).committed) → Fails cause before (view_of faults (Stopped v)) (leaving may_leave (Stopped v)) IsAsked
fails_refused faults may_leave cause before u v IsAsked e s k r each =
    fails_marked faults may_leave cause before v IsAsked r.no_disk r.marked
    (leaves_map may_leave (Stopped v) v.disk (state_in u).ids (state_in u).committed before.map refl s k e (back_to may_leave u v r.stays each))

-- ---- a commit that was lost

either_then : {D : Type 0} (may_leave : D → Area → List ℕ → Type 0) (cause : Failure) (kept : Kept D) (disk : D) (ids : ℕ) (g h : List Object) (IsAsked : MapState → Type 0) → disk_of kept ≡ Some disk → IsSoundGraph g → IsSoundGraph h → KeepsMap g → KeepsMap h → (cause ≡ failure.Disk → IsAsked (map_of ids h))
    → LeavesSameThen may_leave cause disk ids g h → LeavesThen cause (leaving may_leave kept) (map_of ids g) IsAsked
either_then may_leave failure.Disk kept disk ids g h IsAsked e s t k m a l = leaves_either may_leave kept disk ids g h IsAsked e s t k m (a refl) l
either_then may_leave failure.HistoryFull kept disk ids g h IsAsked e s t k m a l = leaves_one may_leave kept disk ids g e s k l
either_then may_leave failure.LogFull kept disk ids g h IsAsked e s t k m a l = leaves_one may_leave kept disk ids g e s k l
either_then may_leave failure.Memory kept disk ids g h IsAsked e s t k m a l = leaves_one may_leave kept disk ids g e s k l

-- so it fails as a script sees it
pub fails_lost : {D : Type 0} (faults : D → ℕ) (may_leave : D → Area → List ℕ → Type 0) (cause : Failure) (before : StoreView) (c : ClientView D) (v : LoggedView D) (IsAsked : MapState → Type 0) → IsWorking faults before c → KeepsMap (seen c).graph → (cause ≡ failure.Disk → IsAsked (map_of (state_of c).ids (seen c).graph)) → FailsOn faults may_leave cause c v
    → Fails cause before (view_of faults (Stopped v)) (leaving may_leave (Stopped v)) IsAsked
fails_lost faults may_leave cause before c v IsAsked w m a f = record {
  disk = λ e. subst (λ n. Rose n (faults v.disk)) w.disk (f.disk e);
  history = f.marked.history;
  log = f.marked.log;
  left = subst (λ (x : MapState). LeavesThen cause (leaving may_leave (Stopped v)) x IsAsked) w.map
      (either_then may_leave cause (Stopped v) v.disk (state_of c).ids (state_of c).committed (seen c).graph IsAsked refl w.at_work.sound f.sound w.at_work.kept m a f.left);
}

-- the client's number is 1
pub seen_one : {D : Type 0} (c : ClientView D) → c.number ≡ 1 → seen (client_at c.store 1) ≡ seen c
seen_one c e = ap (λ n. seen_of (state_of c) n) (sym e)

pub client_one : {D : Type 0} (c : ClientView D) → c.number ≡ 1 → IsClient c.store c.number → IsClient c.store 1
client_one c e i = subst (λ n. IsClient c.store n) e i

same_then : {D : Type 0} (may_leave : D → Area → List ℕ → Type 0) (cause : Failure) (disk : D) (ids : ℕ) (g h : List Object) → (cause ≡ failure.Disk → ⊥) → EachImage may_leave disk (OpensToSame ids g) → LeavesSameThen may_leave cause disk ids g h
same_then may_leave failure.Disk disk ids g h n l = absurd (n refl)
same_then may_leave failure.HistoryFull disk ids g h n l = l
same_then may_leave failure.LogFull disk ids g h n l = l
same_then may_leave failure.Memory disk ids g h n l = l

module _ {D : Type 0} (faults : D → ℕ) (may_leave : D → Area → List ℕ → Type 0) (c : ClientView D) (v : LoggedView D) (number : c.number ≡ 1) (client : IsClient c.store c.number) (unmarked : IsUnmarked c.store) where
  -- the graph that the client asks for
  asked_is : (step (state_of c) 1 call.Commit).1.committed ≡ (seen c).graph
  asked_is = asked_graph (state_of c) (client_one c number client).alone ∙ ap (λ (s : Seen). s.graph) (seen_one c number)

  seen_sound : IsSoundGraph (seen c).graph
  seen_sound = subst IsSoundGraph asked_is (asked_sound (state_of c) (client_one c number client).alone)

  -- the commit was refused
  refused_on : (cause : Failure) → Refuses cause c.store v → EachImage may_leave v.disk (OpensToSame (state_in v).ids (state_in v).committed) → FailsOn faults may_leave cause c v
  refused_on cause r each = record {
    disk = λ e. absurd (r.no_disk e);
    marked = r.marked;
    sound = seen_sound;
    within = λ e. absurd (r.no_disk e);
    left = same_then may_leave cause v.disk (state_of c).ids (state_of c).committed (seen c).graph r.no_disk (back_to may_leave c.store v r.stays each);
  }

  -- the disk failed it
  lost_on : IsKnown (state_in v) → FailsCommit faults c.store v 1 call.Commit
      → ((pass count : ℕ) → v.failed ≡ Some (record { commit = Some pass; faults = count }) → EachImage may_leave v.disk (λ image. OpensToSame (state_in v).ids (state_in v).committed image ⊎ OpensToSame (state_in v).ids (step (state_in v) pass call.Commit).1.committed image))
      → FailsOn faults may_leave failure.Disk c v
  lost_on k f either =
      let same : state_in v ≡ state_of c = ap (λ (j : JournalView). (end_of j.history).state) f.journal in
      let marks : KeepsMarks c.store v = record { history = ap (λ (j : JournalView). j.marks.trace) f.journal; log = f.marks.0 } in
      record {
        disk = λ e. f.rose;
        marked = marked_none failure.Disk v (unmarked_then c.store v unmarked marks) (λ e. absurd (cc (e))) (λ e. absurd (cc (e)));
        sound = seen_sound;
        within = λ e id h.
            (subst IsKnown same k).stored id (asked_stored (state_of c) (client_one c number client).alone id (subst (λ (g : List Object). has_object g id ≡ true) (sym asked_is) h));
        left = λ image is.
            subst (λ (g : List Object). OpensToSame (state_of c).ids (state_of c).committed image ⊎ OpensToSame (state_of c).ids g image) asked_is
            (subst (λ (s : State). OpensToSame s.ids s.committed image ⊎ OpensToSame s.ids (step s 1 call.Commit).1.committed image) same (either 1 (faults v.disk) f.told image is));
      }

  pub fails_on : (cause : Failure) → IsKnown (state_in v) → LosesCommit faults cause c.store v → (v.failed ≡ None → EachImage may_leave v.disk (OpensToSame (state_in v).ids (state_in v).committed))
      → ((pass count : ℕ) → v.failed ≡ Some (record { commit = Some pass; faults = count }) → EachImage may_leave v.disk (λ image. OpensToSame (state_in v).ids (state_in v).committed image ⊎ OpensToSame (state_in v).ids (step (state_in v) pass call.Commit).1.committed image))
      → FailsOn faults may_leave cause c v
  fails_on cause k lost left either = ⊎_elim
      (λ (r : Refuses cause c.store v). refused_on cause r (left r.stays.running))
      (λ (d : (cause ≡ failure.Disk) × FailsCommit faults c.store v 1 call.Commit). subst (λ (x : Failure). FailsOn faults may_leave x c v) (sym d.0) (lost_on k d.1 either))
      lost

-- ---- the client's transaction

pub works_on : {D : Type 0} (c d : ClientView D) → IsAtWork c → Stays c.store d.store → KeepsMarks c.store d.store → d.number ≡ c.number → IsAtWork d
works_on c d w s m n = record {
  number = n ∙ w.number;
  kept = subst KeepsMap (sym s.committed) w.kept;
  sound = subst IsSoundGraph (sym s.committed) w.sound;
  running = s.running;
  unmarked = unmarked_then c.store d.store w.unmarked m;
  limits = s.limits ∙ w.limits;
}

pub working_on : {D : Type 0} (faults : D → ℕ) (before : StoreView) (c d : ClientView D) → IsWorking faults before c → Stays c.store d.store → KeepsMarks c.store d.store → d.number ≡ c.number → IsWorking faults before d
working_on faults before c d w s m n = record {
  at_work = works_on c d w.at_work s m n;
  map = ap₂ map_of s.ids s.committed ∙ w.map;
  disk = ap faults s.disk ∙ w.disk;
}

-- calls that change nothing leave it as it was
pub looked_on : {D : Type 0} (faults : D → ℕ) (before : StoreView) (c d : ClientView D) → IsLooked faults before c → Stays c.store d.store → KeepsMarks c.store d.store → d.number ≡ c.number → held (seen d) 0 ≡ Some root → (seen d).graph ≡ (seen c).graph → free_ids (state_of d) ≡ free_ids (state_of c) → IsLooked faults before d
looked_on faults before c d l s m n r g f = record {
  working = working_on faults before c d l.working s m n;
  rooted = r;
  same = g ∙ (l.same ∙ sym s.committed);
  room = f ∙ l.room;
}

pub looked_more : {D : Type 0} (faults : D → ℕ) (before : StoreView) (looks : ℕ) (c d : ClientView D) → IsLooked faults before c → c.store.failed ≡ None → Asks looks [] c d → held (seen d) 0 ≡ Some root → (seen d).graph ≡ (seen c).graph → IsLooked faults before d
looked_more faults before looks c d l running a r g =
    let free : free_ids (state_of d) ≡ free_ids (state_of c) = (let f = a.free in omega (arith, f)) in
    looked_on faults before c d l (asks_stays looks [] c d running a) (asks_marks looks [] c d a) (run_number a.made c d a.run) r g free

-- the graph that it sees keeps the map
pub looked_map : {D : Type 0} (faults : D → ℕ) (before : StoreView) (c : ClientView D) → IsLooked faults before c → IsMap 13 (seen c).graph before.map.pairs
looked_map faults before c l =
    subst (λ (m : MapState). IsMap 13 (seen c).graph m.pairs) l.working.map (subst (λ (g : List Object). IsMap 13 g (pairs_in (state_of c).committed)) (sym l.same) l.working.at_work.kept)

pub looked_keeps : {D : Type 0} (faults : D → ℕ) (before : StoreView) (c : ClientView D) → IsLooked faults before c → KeepsMap (seen c).graph
looked_keeps faults before c l = subst KeepsMap (sym l.same) l.working.at_work.kept

pub looked_pairs : {D : Type 0} (faults : D → ℕ) (before : StoreView) (c : ClientView D) → IsLooked faults before c → pairs_in (seen c).graph ≡ before.map.pairs
looked_pairs faults before c l = ap pairs_in l.same ∙ ap (λ (m : MapState). m.pairs) l.working.map

-- a commit of it is to leave the map
pub looked_asked : {D : Type 0} (faults : D → ℕ) (before : StoreView) (c : ClientView D) → IsLooked faults before c → map_of (state_of c).ids (seen c).graph ≡ before.map
looked_asked faults before c l = ap (λ (g : List Object). map_of (state_of c).ids g) l.same ∙ l.working.map

-- a commit of a client that looked leaves the map
pub looked_commits : {D : Type 0} (faults : D → ℕ) (before : StoreView) (c : ClientView D) (v : LoggedView D) → IsLooked faults before c → Commits faults c.store v → (view_of faults (Idle v)).map ≡ before.map
looked_commits faults before c v l k = ap₂ map_of k.ids (k.committed ∙ ap (λ (s : Seen). s.graph) (seen_one c l.working.at_work.number) ∙ l.same) ∙ l.working.map

-- ---- the begin of a transaction

pub begun_looked : {D : Type 0} (faults : D → ℕ) (u v : LoggedView D) → IsIdle u → Stays u v → IsSoundGraph (state_in v).committed → IsUnmarked v → held (seen (client_at v 1)) 0 ≡ Some root → (seen (client_at v 1)).graph ≡ (state_in v).committed → free_ids (state_in v) ≡ free_ids (state_in u)
    → IsLooked faults (view_at faults true u) (client_at v 1)
begun_looked faults u v i s w m r g f = record {
  working = record {
    at_work = record { number = refl; kept = subst KeepsMap (sym s.committed) i.map; sound = w; running = s.running; unmarked = m; limits = s.limits ∙ i.quiet.limits };
    map = ap₂ map_of s.ids s.committed;
    disk = ap faults s.disk;
  };
  rooted = r;
  same = g;
  room = f;
}

pub still_looked : {D : Type 0} (faults : D → ℕ) (v : LoggedView D) → IsLooking v → IsSoundGraph (state_in v).committed → IsLooked faults (view_of faults (Looking v)) (client_at v 1)
still_looked faults v l w = record {
  working = record {
    at_work = record { number = refl; kept = l.map; sound = w; running = l.begun.client.running; unmarked = l.begun.unmarked; limits = l.begun.limits };
    map = refl;
    disk = refl;
  };
  rooted = l.begun.rooted;
  same = l.begun.same;
  room = refl;
}
