-- A store in which no client has a transaction, and its collection, as a script sees them.
use Rattle.std.proofs.Common.{◌≡◌, ℕ, ◌≤◌, Bool, true, List, [], None, refl, sym, ap, ap₂, ◌∙◌, subst, arith}
use Rattle.plain_model.specs.History.{end_of}
use Rattle.restart_laws.specs.Settled.{IsSettled}
use Rattle.disk_model.specs.declared.area.Area.{Area}
use Rattle.disk_model.specs.Told.{EachImage}
use Rattle.logged_journal.specs.View.{LoggedView}
use Rattle.map_calls.specs.declared.failure.Failure.{Failure}
use Rattle.map_calls.specs.declared.failure.Failure.TheVariants as failure
use Rattle.map_calls.specs.Maps.{MapState}
use Rattle.map_calls.specs.Views.{StoreView, GoesOn, Fails}
use Rattle.object_map.specs.Clients.{free_ids}
use Rattle.stored_map.specs.declared.kept.Kept.TheVariants.{Idle, Stopped}
use Rattle.stored_map.specs.Graphs.{KeepsMap, map_of}
use Rattle.stored_map.specs.Stores.{state_in, HasLimits, IsQuiet, IsIdle, IsLooking, IsKnown, view_at, view_of, leaving, OpensToSame}
use Rattle.stored_map.specs.Steps.{IsMarkedBy, Stays, KeepsMarks, Collects, IsExact}
use Rattle.stored_map.proofs.StepLaws.{unmarked_then}
use Rattle.stored_map.proofs.CollectLaws.{collected_map}
use Rattle.stored_map.proofs.ReachLaws.{exact_room}
use Rattle.stored_map.proofs.ViewLaws.{goes_idle, fails_marked, leaves_map}

-- ---- the transaction was undone

pub rest_idles : {D : Type 0} (u v : LoggedView D) → IsLooking u → Stays u v → KeepsMarks u v → (state_in v).active ≡ [] → IsIdle v
rest_idles u v l s m n = record {
  quiet = record { running = s.running; none = n; unmarked = unmarked_then u v l.begun.unmarked m; limits = s.limits ∙ l.begun.limits };
  map = subst KeepsMap (sym s.committed) l.map;
}

abbrev view_with : MapState → ℕ → ℕ → Bool → Bool → StoreView
view_with map room faults history log = record { map = map; room = room; running = true; faults = faults; history_full = history; log_full = log }

view_is : (m n : MapState) (r s f g : ℕ) (h i k l : Bool) → m ≡ n → r ≡ s → f ≡ g → h ≡ i → k ≡ l → view_with m r f h k ≡ view_with n s g i l
view_is m n r s f g h i k l a b c d e = cc (a, b, c, d, e)

pub rest_view : {D : Type 0} (faults : D → ℕ) (u v : LoggedView D) → Stays u v → KeepsMarks u v → free_ids (state_in v) ≡ free_ids (state_in u) → view_at faults true v ≡ view_at faults true u
rest_view faults u v s m f =
    view_is (map_of (state_in v).ids (state_in v).committed) (map_of (state_in u).ids (state_in u).committed) (free_ids (state_in v)) (free_ids (state_in u)) (faults v.disk) (faults u.disk) v.journal.marks.trace u.journal.marks.trace v.log_full u.log_full
    (ap₂ map_of s.ids s.committed) f (ap faults s.disk) m.history m.log

-- ---- the collection

module _ {D : Type 0} (faults : D → ℕ) (may_leave : D → Area → List ℕ → Type 0) (before : StoreView) (u v : LoggedView D) (i : IsIdle u) (same : view_at faults true u ≡ before) (c : Collects u v) (s : IsSettled (end_of u.journal.history)) (t : IsSettled (end_of v.journal.history)) (k : IsKnown (state_in u)) (n : IsKnown (state_in v))
    (left : v.failed ≡ None → EachImage may_leave v.disk (OpensToSame (state_in v).ids (state_in v).committed)) where
  both : KeepsMap (state_in v).committed × (map_of (state_in v).ids (state_in v).committed ≡ map_of (state_in u).ids (state_in u).committed)
  both = collected_map u v c s t k.sound n.sound i.map

  pub map_kept : map_of (state_in v).ids (state_in v).committed ≡ before.map
  map_kept = both.1 ∙ ap (λ (x : StoreView). x.map) same

  pub not_earlier : before.faults ≤ faults v.disk
  not_earlier = let e : faults v.disk ≡ before.faults = ap faults c.disk ∙ ap (λ (x : StoreView). x.faults) same in omega (arith, e)

  pub all_idles : IsQuiet v → IsIdle v
  all_idles q = record { quiet = q; map = both.0 }

  pub all_goes : IsQuiet v → GoesOn (view_of faults (Idle v)) (leaving may_leave (Idle v))
  all_goes q = goes_idle faults may_leave v q.unmarked n both.0 (left q.running)

  pub all_room : IsExact v → (view_of faults (Idle v)).room ≡ (view_of faults (Idle v)).map.free
  all_room e = exact_room (state_in v) n.sound.committed e

  pub all_fails : (f : Failure) → (f ≡ failure.Disk → ⊥) → IsMarkedBy f v → Fails f before (view_of faults (Stopped v)) (leaving may_leave (Stopped v)) (λ n. n ≡ before.map)
  all_fails f d m = fails_marked faults may_leave f before v (λ n. n ≡ before.map) d m (leaves_map may_leave (Stopped v) v.disk (state_in v).ids (state_in v).committed before.map refl n.sound.committed both.0 map_kept (left c.running))

  pub all_limits : HasLimits v
  all_limits = c.limits ∙ i.quiet.limits
