-- What is kept, by its kind.
use Rattle.std.proofs.Common.{◌≡◌, ⊎_elim, ℕ, ◌≤◌, true, false, List, [], Option, None, refl, sym, ap, ◌∙◌, subst, arith}
use Rattle.plain_model.specs.declared.object.Object.{Object}
use Rattle.plain_model.specs.declared.calls.Call.TheVariants.{Commit}
use Rattle.plain_laws.specs.Sound.{IsSoundGraph}
use Rattle.disk_model.specs.declared.area.Area.{Area}
use Rattle.disk_model.specs.Areas.{Bytes}
use Rattle.disk_model.specs.Told.{EachImage}
use Rattle.core_store.specs.JournalView.{JournalView}
use Rattle.logged_journal.specs.View.{LoggedView}
use Rattle.logged_journal.specs.Calls.{FailsCommit}
use Rattle.map_calls.specs.declared.failure.Failure.{Failure}
use Rattle.map_calls.specs.declared.failure.Failure.TheVariants as failure
use Rattle.map_calls.specs.declared.failure.Unopened.{Unopened}
use Rattle.map_calls.specs.declared.failure.Unopened.TheVariants as unopened
use Rattle.map_calls.specs.Views.{StoreView, GoesOn}
use Rattle.object_map.specs.Seen.{Seen, held, HasOnly}
use Rattle.object_map.specs.Clients.{ClientView, seen, free_ids, IsClient}
use Rattle.stored_map.specs.declared.kept.Kept.{Kept}
use Rattle.stored_map.specs.declared.kept.Kept.TheVariants.{Idle, Looking, Stopped, Shut, Taken}
use Rattle.stored_map.specs.Finding.{FindsMap, FindsNoMap}
use Rattle.stored_map.specs.Graphs.{KeepsMap, map_of}
use Rattle.stored_map.specs.Stores.{state_in, HasLimits, IsIdle, IsLooking, IsKept, IsKnown, is_running, view_at, view_of, leaving, OpensToSame}
use Rattle.stored_map.specs.Steps.{Stays, KeepsMarks, Refuses, IsAtWork, IsLooked, Commits, LosesCommit}
use Rattle.stored_map.proofs.CallLaws.{StopsWith}
use Rattle.stored_map.proofs.StepLaws.{unmarked_then}
use Rattle.stored_map.proofs.ViewLaws.{fails_refused, goes_looking, seen_one, client_one}

-- ---- a store that runs is neither stopped nor shut nor taken

pub not_stopped : {D : Type 0} (kept : Kept D) (v : LoggedView D) → kept ≡ Stopped v → is_running kept ≡ true → ⊥
not_stopped kept v e h = (let f : false ≡ true = subst (λ (k : Kept _). is_running k ≡ true) e h in absurd (cc (f)))

pub not_shut : {D : Type 0} (kept : Kept D) (disk : D) → kept ≡ Shut disk → is_running kept ≡ true → ⊥
not_shut kept disk e h = (let f : false ≡ true = subst (λ (k : Kept _). is_running k ≡ true) e h in absurd (cc (f)))

pub not_taken : {D : Type 0} (kept : Kept D) → kept ≡ Taken → IsKept kept → ⊥
not_taken kept e h = subst IsKept e h

-- a store that a script sees running does
pub runs : {D : Type 0} (faults : D → ℕ) (kept : Kept D) → (view_of faults kept).running ≡ true → is_running kept ≡ true
runs faults (Idle v) h = refl
runs faults (Looking v) h = refl
runs faults (Stopped v) h = h
runs faults (Shut disk) h = h
runs faults Taken h = h

pub is_idle : {D : Type 0} (kept : Kept D) (v : LoggedView D) → kept ≡ Idle v → IsKept kept → IsIdle v
is_idle kept v e h = subst IsKept e h

pub is_looking : {D : Type 0} (kept : Kept D) (v : LoggedView D) → kept ≡ Looking v → IsKept kept → IsLooking v
is_looking kept v e h = subst IsKept e h

-- ---- the client at its store

pub only_of : {D : Type 0} (v : LoggedView D) (pass : ℕ) → IsClient v pass → HasOnly (state_in v) pass
only_of v pass i = record { transaction = i.alone.transaction; active = i.alone.active; running = i.alone.running }

pub looking_at : {D : Type 0} (faults : D → ℕ) (before : StoreView) (c : ClientView D) → IsLooked faults before c → IsClient c.store c.number → IsLooking c.store
looking_at faults before c l i =
    let one = seen_one c l.working.at_work.number in
    record {
      begun = record {
        client = client_one c l.working.at_work.number i;
        rooted = ap (λ (s : Seen). held s 0) one ∙ l.rooted;
        same = ap (λ (s : Seen). s.graph) one ∙ l.same;
        unmarked = l.working.at_work.unmarked;
        limits = l.working.at_work.limits;
      };
      map = l.working.at_work.kept;
    }

-- ---- the begin was refused

pub begin_stops : {D : Type 0} (faults : D → ℕ) (may_leave : D → Area → List ℕ → Type 0) (f : Failure) (u v : LoggedView D) → IsIdle u → Refuses f u v → IsKnown (state_in v) → (v.failed ≡ None → EachImage may_leave v.disk (OpensToSame (state_in v).ids (state_in v).committed))
    → StopsWith faults may_leave f (view_at faults true u) (Stopped v) (λ n. ⊥)
begin_stops faults may_leave f u v i r k left =
    let same : faults v.disk ≡ faults u.disk = ap faults r.stays.disk in
    let later : faults u.disk ≤ faults v.disk = omega (arith, same) in
    record {
      fails = fails_refused faults may_leave f (view_at faults true u) u v (λ n. ⊥) refl (subst IsSoundGraph r.stays.committed k.sound.committed) i.map r (left r.stays.running);
      later = later;
      is_kept = r.stays.limits ∙ i.quiet.limits;
    }

-- ---- the commit

pub commit_keeps : {D : Type 0} (faults : D → ℕ) (c : ClientView D) (v : LoggedView D) → c.number ≡ 1 → Commits faults c.store v → KeepsMap (seen c).graph → KeepsMap (state_in v).committed
commit_keeps faults c v n k m = subst KeepsMap (sym (k.committed ∙ ap (λ (s : Seen). s.graph) (seen_one c n))) m

pub commit_idles : {D : Type 0} (faults : D → ℕ) (c : ClientView D) (v : LoggedView D) → IsAtWork c → Commits faults c.store v → KeepsMap (seen c).graph → IsIdle v
commit_idles faults c v w k m = record {
  quiet = record { running = k.running; none = k.none; unmarked = unmarked_then c.store v w.unmarked k.marks; limits = k.limits ∙ w.limits };
  map = commit_keeps faults c v w.number k m;
}

pub lost_limits : {D : Type 0} (faults : D → ℕ) (f : Failure) (u v : LoggedView D) → HasLimits u → LosesCommit faults f u v → HasLimits v
lost_limits faults f u v l h = ⊎_elim
    (λ (r : Refuses f u v). r.stays.limits ∙ l)
    (λ (d : (f ≡ failure.Disk) × FailsCommit faults u v 1 Commit). ap (λ (j : JournalView). j.limits) d.1.journal ∙ l)
    h

-- ---- the abort

pub abort_idles : {D : Type 0} (c : ClientView D) (v : LoggedView D) → IsAtWork c → Stays c.store v → KeepsMarks c.store v → (state_in v).active ≡ [] → IsIdle v
abort_idles c v w s m n = record {
  quiet = record { running = s.running; none = n; unmarked = unmarked_then c.store v w.unmarked m; limits = s.limits ∙ w.limits };
  map = subst KeepsMap (sym s.committed) w.kept;
}

-- ---- a look that leaves the transaction open

pub record Counted {D : Type 0} (faults : D → ℕ) (may_leave : D → Area → List ℕ → Type 0) (before : StoreView) (v : LoggedView D) : Type 0 where
  pub looking : IsLooking v
  pub map : map_of (state_in v).ids (state_in v).committed ≡ before.map
  pub room : free_ids (state_in v) ≡ before.room
  pub goes : GoesOn (view_of faults (Looking v)) (leaving may_leave (Looking v))
  pub later : before.faults ≤ faults v.disk

pub counted : {D : Type 0} (faults : D → ℕ) (may_leave : D → Area → List ℕ → Type 0) (before : StoreView) (c : ClientView D) (v : LoggedView D) → IsLooked faults before c → IsClient c.store c.number → v ≡ c.store → IsKnown (state_in v)
    → (v.failed ≡ None → EachImage may_leave v.disk (OpensToSame (state_in v).ids (state_in v).committed)) → Counted faults may_leave before v
counted faults may_leave before c v l i e known left =
    let same : faults v.disk ≡ before.faults = ap (λ (x : LoggedView _). faults x.disk) e ∙ l.working.disk in
    let later : before.faults ≤ faults v.disk = omega (arith, same) in
    let looking : IsLooking v = subst (λ (x : LoggedView _). IsLooking x) (sym e) (looking_at faults before c l i) in
    record {
      looking = looking;
      map = ap (λ (x : LoggedView _). map_of (state_in x).ids (state_in x).committed) e ∙ l.working.map;
      room = ap (λ (x : LoggedView _). free_ids (state_in x)) e ∙ l.room;
      goes = goes_looking faults may_leave v looking.begun.unmarked known.sound.committed looking.map (left looking.begun.client.running);
      later = later;
    }

-- ---- what was found

pub found_kept : {D : Type 0} (content : D → Area → Option (List ℕ)) (may_leave : D → Area → List ℕ → Type 0) (moment : D → ℕ) (left_since : D → ℕ → Bytes → Type 0) (faults : D → ℕ) (disk : D) (kept : Kept D) → FindsMap content may_leave moment left_since faults disk kept → IsKept kept
found_kept content may_leave moment left_since faults disk kept h = subst (λ (k : Kept _). IsKept k) (sym h.is) h.looking

pub unfound_kept : {D : Type 0} (content : D → Area → Option (List ℕ)) (may_leave : D → Area → List ℕ → Type 0) (moment : D → ℕ) (left_since : D → ℕ → Bytes → Type 0) (faults : D → ℕ) (disk : D) (cause : Unopened) (kept : Kept D) → FindsNoMap content may_leave moment left_since faults disk cause kept → IsKept kept
unfound_kept content may_leave moment left_since faults disk unopened.Power kept h = absurd h
unfound_kept content may_leave moment left_since faults disk (unopened.Refused e) kept h = subst (λ (k : Kept _). IsKept k) (sym h.is) tt
unfound_kept content may_leave moment left_since faults disk (unopened.NoMap id) kept h = subst (λ (k : Kept _). IsKept k) (sym h.is) tt
unfound_kept content may_leave moment left_since faults disk (unopened.Unread f) kept h = subst (λ (k : Kept _). IsKept k) (sym h.is) h.limits

-- a power loss then leaves its map
pub found_goes : {D : Type 0} (content : D → Area → Option (List ℕ)) (may_leave : D → Area → List ℕ → Type 0) (moment : D → ℕ) (left_since : D → ℕ → Bytes → Type 0) (faults : D → ℕ) (disk : D) (kept : Kept D) → FindsMap content may_leave moment left_since faults disk kept
    → GoesOn (view_of faults kept) (leaving may_leave kept)
found_goes content may_leave moment left_since faults disk kept h =
    subst (λ (k : Kept _). GoesOn (view_of faults k) (leaving may_leave k)) (sym h.is)
    (goes_looking faults may_leave h.view h.looking.begun.unmarked h.looking.begun.client.alone.sound.committed h.looking.map
    (subst (λ (g : List Object). EachImage may_leave h.view.disk (OpensToSame (state_in h.view).ids g)) (sym h.graph) h.holds.images))

-- ---- the limits of what is let go

pub idle_limits : {D : Type 0} (kept : Kept D) (v w : LoggedView D) → kept ≡ Idle v → IsKept kept → w ≡ v → HasLimits w
idle_limits kept v w e h f = subst (λ (x : LoggedView _). HasLimits x) (sym f) (is_idle kept v e h).quiet.limits

pub looking_limits : {D : Type 0} (kept : Kept D) (v w : LoggedView D) → kept ≡ Looking v → IsKept kept → w ≡ v → HasLimits w
looking_limits kept v w e h f = subst (λ (x : LoggedView _). HasLimits x) (sym f) (is_looking kept v e h).begun.limits

pub stopped_limits : {D : Type 0} (kept : Kept D) (v w : LoggedView D) → kept ≡ Stopped v → IsKept kept → w ≡ v → HasLimits w
stopped_limits kept v w e h f = (let l : HasLimits v = subst IsKept e h in subst (λ (x : LoggedView _). HasLimits x) (sym f) l)
