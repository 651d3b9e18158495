-- What the calls of the map answer, by the way that they went.
use Rattle.std.proofs.Common.{◌≡◌, ◌⊎◌, ⊎_elim, inl, ℕ, ◌<◌, ◌≤◌, true, List, Option, Ok, Err, length, sym, ap, ap₂, ◌∙◌, subst, arith}
use Rattle.plain_model.specs.declared.object.Object.{Object}
use Rattle.plain_model.specs.Graphs.{has_object}
use Rattle.plain_model.specs.History.{IsId}
use Rattle.plain_laws.specs.Sound.{IsSoundGraph}
use Rattle.disk_model.specs.declared.area.Area.{Area}
use Rattle.disk_model.specs.Told.{EachImage}
use Rattle.logged_journal.specs.View.{LoggedView}
use Rattle.map_calls.specs.declared.failure.Failure.{Failure}
use Rattle.map_calls.specs.declared.failure.Failure.TheVariants as failure
use Rattle.map_calls.specs.declared.put.Put.TheVariants.{Stored, NoRoom}
use Rattle.map_calls.specs.Maps.{MapState, needs, Puts, Deletes}
use Rattle.map_calls.specs.Views.{StoreView, Leaving, LeavesThen, GoesOn, Fails}
use Rattle.plain_map.specs.Pairs.{Pairs, value_of, with_pair, without_key}
use Rattle.object_map.specs.declared.refusal.MapRefusal.{MapRefusal}
use Rattle.object_map.specs.Changes.{KeepsOthers, Gains, Loses, ChangesOne, ids_needed, ids_held}
use Rattle.object_map.specs.Clients.{ClientView, state_of, seen, free_ids, Fails as StopsAt, no_id}
use Rattle.object_map.specs.Maps.{IsMap}
use Rattle.object_map.specs.Seen.{Seen}
use Rattle.stored_map.specs.declared.kept.Kept.{Kept}
use Rattle.stored_map.specs.declared.kept.Kept.TheVariants.{Idle, Stopped}
use Rattle.stored_map.specs.Calls.{Looks, PutsPair, RemovesKey}
use Rattle.stored_map.specs.Graphs.{KeepsMap, map_of, pairs_in}
use Rattle.stored_map.specs.Stores.{state_in, IsKnown, IsKept, view_of, leaving, OpensToSame}
use Rattle.stored_map.specs.Steps.{Stays, KeepsMarks, Refuses, IsWorking, IsLooked, Commits, FailsOn, failure_in}
use Rattle.stored_map.proofs.ChangeLaws.{needs_same, puts, deletes}
use Rattle.stored_map.proofs.StepLaws.{fails_refuses}
use Rattle.stored_map.proofs.ViewLaws.{fails_refused, fails_lost, looked_asked, looked_keeps, looked_commits, seen_one}

-- ---- the answers

pub looks_done : {A : Type 0} (is : A → Type 0) (value : A) (before now : StoreView) (leaves : Leaving) → is value → now.map ≡ before.map → GoesOn now leaves → before.faults ≤ now.faults → Looks (Ok value) is before now leaves
looks_done is value before now leaves v m g l = record { value = v; same = m; goes = g; failed = tt; later = l }

pub looks_failed : {A : Type 0} (is : A → Type 0) (f : Failure) (before now : StoreView) (leaves : Leaving) → Fails f before now leaves (λ n. n ≡ before.map) → before.faults ≤ now.faults → Looks (Err f) is before now leaves
looks_failed is f before now leaves h l = record { value = tt; same = tt; goes = tt; failed = h; later = l }

-- where its transaction didn't begin
wider_then : (cause : Failure) (l : Leaving) (m : MapState) (IsAsked : MapState → Type 0) → LeavesThen cause l m (λ n. ⊥) → LeavesThen cause l m IsAsked
wider_then failure.Disk l m IsAsked h = λ image is. ⊎_elim (λ (a : l.keeps image m). inl a) (λ (b : (n : MapState) × ⊥ × l.keeps image n). absurd b.1) (h image is)
wider_then failure.HistoryFull l m IsAsked h = h
wider_then failure.LogFull l m IsAsked h = h
wider_then failure.Memory l m IsAsked h = h

fails_wider : (f : Failure) (before now : StoreView) (leaves : Leaving) (IsAsked : MapState → Type 0) → Fails f before now leaves (λ n. ⊥) → Fails f before now leaves IsAsked
fails_wider f before now leaves IsAsked h = record { disk = h.disk; history = h.history; log = h.log; left = wider_then f leaves before.map IsAsked h.left }

pub looks_unbegun : {A : Type 0} (is : A → Type 0) (f : Failure) (before now : StoreView) (leaves : Leaving) → Fails f before now leaves (λ n. ⊥) → before.faults ≤ now.faults → Looks (Err f) is before now leaves
looks_unbegun is f before now leaves h l = looks_failed is f before now leaves (fails_wider f before now leaves (λ n. n ≡ before.map) h) l

pub put_stored : (key value : ℕ) (old : Option ℕ) (before now : StoreView) (leaves : Leaving) → old ≡ value_of key before.map.pairs → Puts key value before.map now.map → GoesOn now leaves → before.faults ≤ now.faults → PutsPair (Ok (Stored old)) key value before now leaves
put_stored key value old before now leaves o p g l = record { put = (o, p); goes = g; failed = tt; later = l }

pub put_no_room : (key value : ℕ) (before now : StoreView) (leaves : Leaving) → before.room < needs key before.map.pairs → now.map ≡ before.map → GoesOn now leaves → before.faults ≤ now.faults → PutsPair (Ok NoRoom) key value before now leaves
put_no_room key value before now leaves r m g l = record { put = (r, m); goes = g; failed = tt; later = l }

pub put_failed : (key value : ℕ) (f : Failure) (before now : StoreView) (leaves : Leaving) → Fails f before now leaves (Puts key value before.map) → before.faults ≤ now.faults → PutsPair (Err f) key value before now leaves
put_failed key value f before now leaves h l = record { put = tt; goes = tt; failed = h; later = l }

pub put_unbegun : (key value : ℕ) (f : Failure) (before now : StoreView) (leaves : Leaving) → Fails f before now leaves (λ n. ⊥) → before.faults ≤ now.faults → PutsPair (Err f) key value before now leaves
put_unbegun key value f before now leaves h l = put_failed key value f before now leaves (fails_wider f before now leaves (Puts key value before.map) h) l

pub key_removed : (key : ℕ) (value : Option ℕ) (before now : StoreView) (leaves : Leaving) → value ≡ value_of key before.map.pairs → Deletes key before.map now.map → GoesOn now leaves → before.faults ≤ now.faults → RemovesKey (Ok value) key before now leaves
key_removed key value before now leaves v d g l = record { value = v; removed = d; goes = g; failed = tt; later = l }

pub remove_failed : (key : ℕ) (f : Failure) (before now : StoreView) (leaves : Leaving) → Fails f before now leaves (Deletes key before.map) → before.faults ≤ now.faults → RemovesKey (Err f) key before now leaves
remove_failed key f before now leaves h l = record { value = tt; removed = tt; goes = tt; failed = h; later = l }

pub remove_unbegun : (key : ℕ) (f : Failure) (before now : StoreView) (leaves : Leaving) → Fails f before now leaves (λ n. ⊥) → before.faults ≤ now.faults → RemovesKey (Err f) key before now leaves
remove_unbegun key f before now leaves h l = remove_failed key f before now leaves (fails_wider f before now leaves (Deletes key before.map) h) l

-- ---- a call of the client that was refused

-- the store is kept from which the client comes back
pub record StopsWith {D : Type 0} (faults : D → ℕ) (may_leave : D → Area → List ℕ → Type 0) (f : Failure) (before : StoreView) (kept : Kept D) (IsAsked : MapState → Type 0) : Type 0 where
  pub fails : Fails f before (view_of faults kept) (leaving may_leave kept) IsAsked
  pub later : before.faults ≤ (view_of faults kept).faults
  pub is_kept : IsKept kept

stops_at : {D : Type 0} (faults : D → ℕ) (may_leave : D → Area → List ℕ → Type 0) (f : Failure) (before : StoreView) (c : ClientView D) (v : LoggedView D) (IsAsked : MapState → Type 0) → IsWorking faults before c → Refuses f c.store v → EachImage may_leave v.disk (OpensToSame (state_in v).ids (state_in v).committed) → StopsWith faults may_leave f before (Stopped v) IsAsked
stops_at faults may_leave f before c v IsAsked w r each =
    let one : faults v.disk ≡ faults c.store.disk = ap faults r.stays.disk in
    let two : faults c.store.disk ≡ before.faults = w.disk in
    let later : before.faults ≤ faults v.disk = omega (arith, one, two) in
    record {
      fails = fails_refused faults may_leave f before c.store v IsAsked w.map w.at_work.sound w.at_work.kept r each;
      later = later;
      is_kept = r.stays.limits ∙ w.at_work.limits;
    }

pub stops_with : {D : Type 0} (faults : D → ℕ) (may_leave : D → Area → List ℕ → Type 0) (f : Failure) (before : StoreView) (c d : ClientView D) (kept : Kept D) (IsAsked : MapState → Type 0) → IsWorking faults before c → Refuses f c.store d.store → kept ≡ Stopped d.store
    → EachImage may_leave d.store.disk (OpensToSame (state_of d).ids (state_of d).committed) → StopsWith faults may_leave f before kept IsAsked
stops_with faults may_leave f before c d kept IsAsked w r e each = subst (λ (k : Kept _). StopsWith faults may_leave f before k IsAsked) (sym e) (stops_at faults may_leave f before c d.store IsAsked w r each)

-- the map refused its call
pub map_stops : {D : Type 0} (faults : D → ℕ) (may_leave : D → Area → List ℕ → Type 0) (why : MapRefusal) (f : Failure) (before : StoreView) (c d : ClientView D) (kept : Kept D) (IsAsked : MapState → Type 0) → IsWorking faults before c → StopsAt why c d → (why ≡ no_id → ⊥) → f ≡ failure_in why → kept ≡ Stopped d.store
    → EachImage may_leave d.store.disk (OpensToSame (state_of d).ids (state_of d).committed) → StopsWith faults may_leave f before kept IsAsked
map_stops faults may_leave why f before c d kept IsAsked w h n e k each =
    subst (λ (x : Failure). StopsWith faults may_leave x before kept IsAsked) (sym e)
    (stops_with faults may_leave (failure_in why) before c d kept IsAsked w (fails_refuses why c d w.at_work.running w.at_work.unmarked h n) k each)

-- ---- a commit that was lost

pub commit_stops : {D : Type 0} (faults : D → ℕ) (may_leave : D → Area → List ℕ → Type 0) (f : Failure) (before : StoreView) (c : ClientView D) (kept : Kept D) (IsAsked : MapState → Type 0) → IsWorking faults before c → KeepsMap (seen c).graph
    → (IsSoundGraph (seen c).graph → ((id : ℕ) → has_object (seen c).graph id ≡ true → IsId (state_of c).ids id) → IsAsked (map_of (state_of c).ids (seen c).graph))
    → (v : LoggedView D) × (kept ≡ Stopped v) × FailsOn faults may_leave f c v → Fails f before (view_of faults kept) (leaving may_leave kept) IsAsked
commit_stops faults may_leave f before c kept IsAsked w m a h =
    subst (λ (k : Kept _). Fails f before (view_of faults k) (leaving may_leave k) IsAsked) (sym h.1) (fails_lost faults may_leave f before c h.0 IsAsked w m (λ e. a h.2.sound (h.2.within e)) h.2)

-- the disk's count of faults never falls
pub later_then : {D : Type 0} (faults : D → ℕ) (before : StoreView) (c : ClientView D) (n : ℕ) → IsWorking faults before c → faults c.store.disk ≤ n → before.faults ≤ n
later_then faults before c n w l = let e = w.disk in omega (arith, e, l)

-- ---- a commit that was done

abbrev pub Done : {D : Type 0} → (D → ℕ) → ClientView D → Kept D → Type 0
Done {D} faults c kept = (v : LoggedView D) × (kept ≡ Idle v) × Commits faults c.store v × IsKnown (state_in v)

pub looks_same : {D : Type 0} (faults : D → ℕ) (before : StoreView) (c : ClientView D) (kept : Kept D) → IsLooked faults before c → Done faults c kept → (view_of faults kept).map ≡ before.map
looks_same faults before c kept l h = ap (λ (k : Kept _). (view_of faults k).map) h.1 ∙ looked_commits faults before c h.0 l h.2

-- what the client did is a change of the map
module _ {D : Type 0} (faults : D → ℕ) (before : StoreView) (c d : ClientView D) (l : IsLooked faults before c) (stays : Stays c.store d.store) (sound : IsSoundGraph (seen d).graph) (within : (x : ℕ) → has_object (seen d).graph x ≡ true → IsId (state_of d).ids x) where
  sound_before : IsSoundGraph (seen c).graph
  sound_before = subst IsSoundGraph (sym l.same) l.working.at_work.sound

  map_before : map_of (state_of d).ids (seen c).graph ≡ before.map
  map_before = ap (λ (n : ℕ). map_of n (seen c).graph) stays.ids ∙ looked_asked faults before c l

  pub put_asked : (key value : ℕ) → ((pairs : Pairs) → IsMap 13 (seen c).graph pairs → IsMap 13 (seen d).graph (with_pair key value pairs)) → KeepsOthers 13 (seen c) (seen d)
      → ((pairs : Pairs) → IsMap 13 (seen c).graph pairs → (xs : List ℕ) × ((length xs ≡ ids_needed key pairs) × Gains 13 xs (seen c) (seen d))) → Puts key value before.map (map_of (state_of d).ids (seen d).graph)
  put_asked key value m o g =
      let kept : KeepsMap (seen c).graph = looked_keeps faults before c l in
      let gains = g (pairs_in (seen c).graph) kept in
      subst (λ (x : MapState). Puts key value x (map_of (state_of d).ids (seen d).graph)) map_before
      (puts key value (state_of d).ids (seen c) (seen d) gains.0 sound_before sound within kept (m (pairs_in (seen c).graph) kept) o gains.1.0 gains.1.1)

  pub remove_asked : (key : ℕ) → ((pairs : Pairs) → IsMap 13 (seen c).graph pairs → IsMap 13 (seen d).graph (without_key key pairs)) → KeepsOthers 13 (seen c) (seen d)
      → ((pairs : Pairs) → IsMap 13 (seen c).graph pairs → (xs : List ℕ) × ((length xs ≡ ids_held key pairs) × Loses 13 xs (seen c) (seen d))) → ChangesOne (seen c) (seen d) → Deletes key before.map (map_of (state_of d).ids (seen d).graph)
  remove_asked key m o g one =
      let kept : KeepsMap (seen c).graph = looked_keeps faults before c l in
      let loses = g (pairs_in (seen c).graph) kept in
      subst (λ (x : MapState). Deletes key x (map_of (state_of d).ids (seen d).graph)) map_before
      (deletes key (state_of d).ids (seen c) (seen d) loses.0 sound_before sound within kept (m (pairs_in (seen c).graph) kept) o loses.1.0 loses.1.1 one)

-- the map that is committed is the one that the client saw
module _ {D : Type 0} (faults : D → ℕ) (before : StoreView) (c d : ClientView D) (v : LoggedView D) (l : IsLooked faults before c) (stays : Stays c.store d.store) (number : d.number ≡ c.number) (k : Commits faults d.store v) (known : IsKnown (state_in v)) where
  committed_is : (state_in v).committed ≡ (seen d).graph
  committed_is = k.committed ∙ ap (λ (s : Seen). s.graph) (seen_one d (number ∙ l.working.at_work.number))

  sound_now : IsSoundGraph (seen d).graph
  sound_now = subst IsSoundGraph committed_is known.sound.committed

  within_now : (x : ℕ) → has_object (seen d).graph x ≡ true → IsId (state_of d).ids x
  within_now x h = subst (λ (n : ℕ). IsId n x) k.ids (known.ids x (subst (λ (g : List Object). has_object g x ≡ true) (sym committed_is) h))

  map_now : map_of (state_of d).ids (seen d).graph ≡ map_of (state_in v).ids (state_in v).committed
  map_now = ap (λ (n : ℕ). map_of n (seen d).graph) (sym k.ids) ∙ ap (λ (g : List Object). map_of (state_in v).ids g) (sym committed_is)

  pub put_done : (key value : ℕ) → ((pairs : Pairs) → IsMap 13 (seen c).graph pairs → IsMap 13 (seen d).graph (with_pair key value pairs)) → KeepsOthers 13 (seen c) (seen d)
      → ((pairs : Pairs) → IsMap 13 (seen c).graph pairs → (xs : List ℕ) × ((length xs ≡ ids_needed key pairs) × Gains 13 xs (seen c) (seen d))) → Puts key value before.map (map_of (state_in v).ids (state_in v).committed)
  put_done key value m o g = subst (λ (x : MapState). Puts key value before.map x) map_now (put_asked faults before c d l stays sound_now within_now key value m o g)

  pub remove_done : (key : ℕ) → ((pairs : Pairs) → IsMap 13 (seen c).graph pairs → IsMap 13 (seen d).graph (without_key key pairs)) → KeepsOthers 13 (seen c) (seen d)
      → ((pairs : Pairs) → IsMap 13 (seen c).graph pairs → (xs : List ℕ) × ((length xs ≡ ids_held key pairs) × Loses 13 xs (seen c) (seen d))) → ChangesOne (seen c) (seen d) → Deletes key before.map (map_of (state_in v).ids (state_in v).committed)
  remove_done key m o g one = subst (λ (x : MapState). Deletes key before.map x) map_now (remove_asked faults before c d l stays sound_now within_now key m o g one)

module _ {D : Type 0} (faults : D → ℕ) (before : StoreView) (c d : ClientView D) (kept : Kept D) (l : IsLooked faults before c) (stays : Stays c.store d.store) (number : d.number ≡ c.number) (h : Done faults d kept) where
  pub put_changes : (key value : ℕ) → ((pairs : Pairs) → IsMap 13 (seen c).graph pairs → IsMap 13 (seen d).graph (with_pair key value pairs)) → KeepsOthers 13 (seen c) (seen d)
      → ((pairs : Pairs) → IsMap 13 (seen c).graph pairs → (xs : List ℕ) × ((length xs ≡ ids_needed key pairs) × Gains 13 xs (seen c) (seen d))) → Puts key value before.map (view_of faults kept).map
  put_changes key value m o g = subst (λ (k : Kept _). Puts key value before.map (view_of faults k).map) (sym h.1) (put_done faults before c d h.0 l stays number h.2 h.3 key value m o g)

  pub remove_changes : (key : ℕ) → ((pairs : Pairs) → IsMap 13 (seen c).graph pairs → IsMap 13 (seen d).graph (without_key key pairs)) → KeepsOthers 13 (seen c) (seen d)
      → ((pairs : Pairs) → IsMap 13 (seen c).graph pairs → (xs : List ℕ) × ((length xs ≡ ids_held key pairs) × Loses 13 xs (seen c) (seen d))) → ChangesOne (seen c) (seen d) → Deletes key before.map (view_of faults kept).map
  remove_changes key m o g one = subst (λ (k : Kept _). Deletes key before.map (view_of faults k).map) (sym h.1) (remove_done faults before c d h.0 l stays number h.2 h.3 key m o g one)

-- ---- no id was free

-- the store is kept after an abort, and has the map of before
pub record GivesUp {D : Type 0} (faults : D → ℕ) (before : StoreView) (kept : Kept D) : Type 0 where
  pub map : (view_of faults kept).map ≡ before.map
  pub later : before.faults ≤ (view_of faults kept).faults

gives_back : {D : Type 0} (faults : D → ℕ) (before : StoreView) (c : ClientView D) (v : LoggedView D) → IsWorking faults before c → Stays c.store v → GivesUp faults before (Idle v)
gives_back faults before c v w s =
    let same : faults v.disk ≡ before.faults = ap faults s.disk ∙ w.disk in
    let later : before.faults ≤ faults v.disk = omega (arith, same) in
    record { map = ap₂ map_of s.ids s.committed ∙ w.map; later = later }

pub gives_up : {D : Type 0} (faults : D → ℕ) (before : StoreView) (c : ClientView D) (kept : Kept D) → IsWorking faults before c → (v : LoggedView D) × (kept ≡ Idle v) × Stays c.store v × KeepsMarks c.store v × (free_ids (state_in v) ≡ free_ids (state_of c)) → GivesUp faults before kept
gives_up faults before c kept w h = subst (λ (k : Kept _). GivesUp faults before k) (sym h.1) (gives_back faults before c h.0 w h.2)

pub no_room : (key room : ℕ) (before : StoreView) → room ≡ before.room → room < ids_needed key before.map.pairs → before.room < needs key before.map.pairs
no_room key room before e h =
    let same : ids_needed key before.map.pairs ≡ needs key before.map.pairs = needs_same key before.map.pairs in
    omega (arith, e, h, same)
