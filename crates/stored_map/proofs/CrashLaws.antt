-- A store after a loss of power, as a script sees it.
use Rattle.std.proofs.Common.{◌≡◌, ⊎_elim, ℕ, ◌≤◌, true, false, List, Option, Some, refl, sym, ap, ap₂, ◌∙◌, subst, arith}
use Rattle.std.specs.Prelude.{◌↔◌}
use Rattle.plain_laws.specs.Sound.{IsSoundGraph}
use Rattle.disk_model.specs.declared.area.Area.{Area}
use Rattle.disk_model.specs.Areas.{Bytes}
use Rattle.disk_model.specs.Causes.{Rose}
use Rattle.disk_model.specs.Told.{KeepsAll, LeavesOne as LosesPower, IsImage, EachImage}
use Rattle.cell_model.specs.Graph.{graph_of}
use Rattle.logged_journal.specs.View.{LoggedView}
use Rattle.store_opening.specs.declared.open_refusal.OpenRefusal.{OpenRefusal}
use Rattle.store_opening.specs.declared.open_refusal.OpenRefusal.TheVariants as refusal
use Rattle.journal_opening.specs.Openings.{OpensMeanwhile}
use Rattle.map_calls.specs.declared.failure.Failure.{Failure}
use Rattle.map_calls.specs.declared.failure.Failure.TheVariants as failure
use Rattle.map_calls.specs.declared.failure.Unopened.{Unopened}
use Rattle.map_calls.specs.declared.failure.Unopened.TheVariants as unopened
use Rattle.map_calls.specs.Maps.{MapState}
use Rattle.map_calls.specs.Views.{StoreView, Leaving, LeavesOne, LeavesThen, Fails, StaysShut, status_of_refusal, status_of_failure}
use Rattle.object_map.specs.Clients.{object_slots}
use Rattle.stored_map.specs.declared.kept.Kept.{Kept}
use Rattle.stored_map.specs.declared.kept.Kept.TheVariants.{Idle, Looking, Stopped, Shut}
use Rattle.stored_map.specs.Finding.{FindsMap, RefusesStore, FindsNone, FindsUnread, FindsNoMap}
use Rattle.stored_map.specs.Graphs.{map_of, pairs_in}
use Rattle.stored_map.specs.Stores.{state_in, IsIdle, IsLooking, IsKept, IsKnown, is_running, view_of, leaving, disk_of, OpensToSame, Tell}
use Rattle.stored_map.specs.Steps.{Holds}
use Rattle.stored_map.proofs.GraphLaws.{map_same}
use Rattle.stored_map.proofs.LossLaws.{same_state, reopened, images_after, never_refused}
use Rattle.stored_map.proofs.StepLaws.{no_mark}
use Rattle.stored_map.proofs.ViewLaws.{leaves_map}

rose_from : (a b c : ℕ) → a ≤ b → Rose b c → Rose a c
rose_from a b c le r = omega (arith, le, r)

-- ---- what the disk holds before it

pub idle_holds : {D : Type 0} (faults : D → ℕ) (may_leave : D → Area → List ℕ → Type 0) (kept : Kept D) (v : LoggedView D) (disk : D) → kept ≡ Idle v → IsIdle v → IsKnown (state_in v) → EachImage may_leave v.disk (OpensToSame (state_in v).ids (state_in v).committed) → disk ≡ v.disk → Holds may_leave (view_of faults kept) disk
idle_holds faults may_leave kept v disk e i k each d = record {
  ids = (state_in v).ids;
  graph = (state_in v).committed;
  map = ap (λ (x : Kept _). (view_of faults x).map) (sym e);
  keeps = i.map;
  sound = k.sound.committed;
  images = subst (λ (x : _). EachImage may_leave x (OpensToSame (state_in v).ids (state_in v).committed)) (sym d) each;
}

pub looking_holds : {D : Type 0} (faults : D → ℕ) (may_leave : D → Area → List ℕ → Type 0) (kept : Kept D) (v : LoggedView D) (disk : D) → kept ≡ Looking v → IsLooking v → IsKnown (state_in v) → EachImage may_leave v.disk (OpensToSame (state_in v).ids (state_in v).committed) → disk ≡ v.disk
    → Holds may_leave (view_of faults kept) disk
looking_holds faults may_leave kept v disk e i k each d = record {
  ids = (state_in v).ids;
  graph = (state_in v).committed;
  map = ap (λ (x : Kept _). (view_of faults x).map) (sym e);
  keeps = i.map;
  sound = k.sound.committed;
  images = subst (λ (x : _). EachImage may_leave x (OpensToSame (state_in v).ids (state_in v).committed)) (sym d) each;
}

-- ---- marks and statuses

no_disk_failure : (f : Failure) → (f ≡ failure.Disk → ⊥) → status_of_failure f ≡ 6 → ⊥
no_disk_failure failure.Disk n e = n refl
no_disk_failure failure.HistoryFull n e = absurd (omega (arith, e))
no_disk_failure failure.LogFull n e = absurd (omega (arith, e))
no_disk_failure failure.Memory n e = absurd (omega (arith, e))

disk_failure : (f : Failure) → status_of_failure f ≡ 6 → f ≡ failure.Disk
disk_failure failure.Disk e = refl
disk_failure failure.HistoryFull e = absurd (omega (arith, e))
disk_failure failure.LogFull e = absurd (omega (arith, e))
disk_failure failure.Memory e = absurd (omega (arith, e))

no_damage : (f : Failure) → status_of_failure f ≡ 7 → ⊥
no_damage failure.Disk e = absurd (omega (arith, e))
no_damage failure.HistoryFull e = absurd (omega (arith, e))
no_damage failure.LogFull e = absurd (omega (arith, e))
no_damage failure.Memory e = absurd (omega (arith, e))

disk_refusal : (e : OpenRefusal) → status_of_refusal e ≡ 6 → e ≡ refusal.Disk
disk_refusal refusal.Disk s = refl
disk_refusal (refusal.Damaged place at) s = absurd (omega (arith, s))
disk_refusal refusal.NoStore s = absurd (omega (arith, s))
disk_refusal (refusal.UnknownVersion byte) s = absurd (omega (arith, s))
disk_refusal (refusal.Unsound id rule) s = absurd (omega (arith, s))
disk_refusal refusal.Memory s = absurd (omega (arith, s))
disk_refusal refusal.LogFull s = absurd (omega (arith, s))

-- a failure tells the same as why a map is unread
same_mark : (f g : Failure) (P : Type 0) → (f ≡ g) ↔ P → (unopened.Unread f ≡ unopened.Unread g) ↔ P
same_mark f g P h = ((λ e. h.0 (same f g e)), λ p. ap (λ (x : Failure). unopened.Unread x) (h.1 p))
  where
    same : (x y : Failure) → unopened.Unread x ≡ unopened.Unread y → x ≡ y
    same x y e = cc (e)

-- ---- why it isn't opened again

-- what a script saw before, what its disk holds then, and the power loss
pub record Lost {D : Type 0} (content : D → Area → Option (List ℕ)) (may_leave : D → Area → List ℕ → Type 0) (faults : D → ℕ) (before : StoreView) (old new : D) : Type 0 where
  pub holds : Holds may_leave before old
  pub same : faults new ≡ before.faults
  pub lost : LosesPower content may_leave old new

module _ {D : Type 0} (content : D → Area → Option (List ℕ)) (may_leave : D → Area → List ℕ → Type 0) (moment : D → ℕ) (left_since : D → ℕ → Bytes → Type 0) (faults : D → ℕ) (counts : (disk : D) (t : ℕ) (b : Bytes) → t ≤ moment disk → IsImage may_leave disk b → left_since disk t b)
    (before : StoreView) (old new : D) (l : Lost content may_leave faults before old new) where
  -- what is left of the disk of what is kept leaves the map of before
  left_then : (kept : Kept D) (now : D) → disk_of kept ≡ Some now → OpensMeanwhile content may_leave moment left_since object_slots new now → Tell content → LeavesOne (leaving may_leave kept) before.map
  left_then kept now e m tell = leaves_map may_leave kept now l.holds.ids l.holds.graph before.map e l.holds.sound l.holds.keeps l.holds.map (images_after content tell may_leave old new l.lost l.holds.ids l.holds.graph l.holds.images now moment left_since counts m)

  -- so much is told of a store that stays shut, with what is kept of it
  pub record ShutAgain (cause : Unopened) (kept : Kept D) : Type 0 where
    pub shut : StaysShut (Tell content) cause before (view_of faults kept) (leaving may_leave kept)
    pub later : before.faults ≤ (view_of faults kept).faults
    pub kept_well : IsKept kept

  refused_at : (e : OpenRefusal) (kept : Kept D) (k : RefusesStore content may_leave moment left_since faults new e kept) → ShutAgain (unopened.Refused e) (Shut k.disk)
  refused_at e kept k =
      let q = l.same in
      let le : before.faults ≤ faults new = omega (arith, q) in
      let more : faults new ≤ faults k.disk = k.fault.later in
      let later : before.faults ≤ faults k.disk = omega (arith, le, more) in
      record {
        shut = record {
          disk = λ s. rose_from before.faults (faults new) (faults k.disk) le (k.fault.failed (disk_refusal e s));
          history = no_mark (unopened.Refused e ≡ unopened.Unread failure.HistoryFull) false (λ z. absurd (cc (z))) refl;
          log = no_mark (unopened.Refused e ≡ unopened.Unread failure.LogFull) false (λ z. absurd (cc (z))) refl;
          sound = λ tell s. never_refused content tell may_leave old new l.lost l.holds.ids l.holds.graph l.holds.images e k.refused.refused s;
          left = left_then (Shut k.disk) k.disk refl k.meanwhile;
        };
        later = later;
        kept_well = tt;
      }

  none_at : (id : ℕ) (kept : Kept D) (k : FindsNone content may_leave moment left_since faults new id kept) → ShutAgain (unopened.NoMap id) (Shut k.disk)
  none_at id kept k =
      let q = l.same in
      let r = k.holds.same in
      let later : before.faults ≤ faults k.disk = omega (arith, q, r) in
      let gone : Tell content → ⊥ = λ tell. k.none (pairs_in l.holds.graph) (map_same l.holds.graph (graph_of k.cells) (pairs_in l.holds.graph) l.holds.sound (reopened content tell may_leave old new l.lost l.holds.ids l.holds.graph l.holds.images k.cells k.holds.reads).0 l.holds.keeps) in
      record {
        shut = record {
          disk = λ s. absurd (omega (arith, s));
          history = no_mark (unopened.NoMap id ≡ unopened.Unread failure.HistoryFull) false (λ z. absurd (cc (z))) refl;
          log = no_mark (unopened.NoMap id ≡ unopened.Unread failure.LogFull) false (λ z. absurd (cc (z))) refl;
          sound = λ tell s. gone tell;
          left = left_then (Shut k.disk) k.disk refl k.holds.meanwhile;
        };
        later = later;
        kept_well = tt;
      }

  unread_at : (f : Failure) (kept : Kept D) (k : FindsUnread content may_leave moment left_since faults new f kept) → ShutAgain (unopened.Unread f) (Stopped k.view)
  unread_at f kept k =
      let q = l.same in
      let r = k.holds.same in
      let later : before.faults ≤ faults k.view.disk = omega (arith, q, r) in
      record {
        shut = record {
          disk = λ s. absurd (no_disk_failure f k.no_disk s);
          history = same_mark f failure.HistoryFull (k.view.journal.marks.trace ≡ true) k.marked.history;
          log = same_mark f failure.LogFull (k.view.log_full ≡ true) k.marked.log;
          sound = λ tell s. no_damage f s;
          left = left_then (Stopped k.view) k.view.disk refl k.holds.meanwhile;
        };
        later = later;
        kept_well = k.limits;
      }

  pub shut_again : (cause : Unopened) (kept : Kept D) → FindsNoMap content may_leave moment left_since faults new cause kept → ShutAgain cause kept
  shut_again unopened.Power kept h = absurd h
  shut_again (unopened.Refused e) kept h = subst (λ (k : Kept D). ShutAgain (unopened.Refused e) k) (sym h.is) (refused_at e kept h)
  shut_again (unopened.NoMap id) kept h = subst (λ (k : Kept D). ShutAgain (unopened.NoMap id) k) (sym h.is) (none_at id kept h)
  shut_again (unopened.Unread f) kept h = subst (λ (k : Kept D). ShutAgain (unopened.Unread f) k) (sym h.is) (unread_at f kept h)

  -- ---- it is opened again

  pub record FoundAgain (kept : Kept D) : Type 0 where
    pub running : is_running kept ≡ true
    pub same : Tell content → (view_of faults kept).map ≡ before.map
    pub later : before.faults ≤ (view_of faults kept).faults
    pub kept_well : IsKept kept

  found_at : (kept : Kept D) (k : FindsMap content may_leave moment left_since faults new kept) → FoundAgain (Looking k.view)
  found_at kept k =
      let q = l.same in
      let r = k.holds.same in
      let later : before.faults ≤ faults k.view.disk = omega (arith, q, r) in
      record {
        running = refl;
        same = λ tell.
            let again = reopened content tell may_leave old new l.lost l.holds.ids l.holds.graph l.holds.images k.cells k.holds.reads in
            let many = again.1 in
            let few = k.holds.size in
            let ids : (state_in k.view).ids ≡ l.holds.ids = omega (arith, many, few) in
            let sound : IsSoundGraph (graph_of k.cells) = subst IsSoundGraph k.graph k.looking.begun.client.alone.sound.committed in
            ap₂ map_of ids k.graph ∙ (same_state l.holds.ids l.holds.graph (graph_of k.cells) l.holds.sound sound l.holds.keeps again.0 ∙ l.holds.map);
        later = later;
        kept_well = k.looking;
      }

  pub found_again : (kept : Kept D) → FindsMap content may_leave moment left_since faults new kept → FoundAgain kept
  found_again kept h = subst (λ (k : Kept D). FoundAgain k) (sym h.is) (found_at kept h)

-- ---- the power loss failed

module _ {D : Type 0} (content : D → Area → Option (List ℕ)) (may_leave : D → Area → List ℕ → Type 0) (faults : D → ℕ) (before : StoreView) (old new : D) (h : Holds may_leave before old) (same : faults old ≡ before.faults) where
  still_left : KeepsAll content may_leave old new → EachImage may_leave new (OpensToSame h.ids h.graph)
  still_left k image is = h.images image (λ area. (k area).no_more _ (is area))

  pub power_fails : KeepsAll content may_leave old new → Rose (faults old) (faults new) → StaysShut (Tell content) unopened.Power before (view_of faults (Shut new)) (leaving may_leave (Shut new))
  power_fails k r = record {
    disk = λ s. rose_from before.faults (faults old) (faults new) (let q = same in omega (arith, q)) r;
    history = no_mark (unopened.Power ≡ unopened.Unread failure.HistoryFull) false (λ z. absurd (cc (z))) refl;
    log = no_mark (unopened.Power ≡ unopened.Unread failure.LogFull) false (λ z. absurd (cc (z))) refl;
    sound = λ tell s. absurd (omega (arith, s));
    left = λ tell. leaves_map may_leave (Shut new) new h.ids h.graph before.map refl h.sound h.keeps h.map (still_left k);
  }

-- ---- the keys aren't counted

one_left : (f : Failure) (l : Leaving) (m : MapState) → LeavesThen f l m (λ n. n ≡ m) → LeavesOne l m
one_left failure.Disk l m h = λ image is. ⊎_elim (λ (a : l.keeps image m). a) (λ (b : (n : MapState) × (n ≡ m) × l.keeps image n). subst (λ (n : MapState). l.keeps image n) b.1 b.2) (h image is)
one_left failure.HistoryFull l m h = h
one_left failure.LogFull l m h = h
one_left failure.Memory l m h = h

pub uncounted_shut : (told : Type 0) (f : Failure) (before mid now : StoreView) (l : Leaving) → before.faults ≤ mid.faults → (told → mid.map ≡ before.map) → Fails f mid now l (λ n. n ≡ mid.map) → StaysShut told (unopened.Unread f) before now l
uncounted_shut told f before mid now l le same h = record {
  disk = λ s. rose_from before.faults mid.faults now.faults le (h.disk (disk_failure f s));
  history = same_mark f failure.HistoryFull (now.history_full ≡ true) h.history;
  log = same_mark f failure.LogFull (now.log_full ≡ true) h.log;
  sound = λ t s. no_damage f s;
  left = λ t. subst (λ (m : MapState). LeavesOne l m) (same t) (one_left f l mid.map h.left);
}
