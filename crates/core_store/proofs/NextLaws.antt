-- The page that is wanted next is one of the store's, and can be put to the held ones.
use Rattle.std.proofs.Common.{◌≡◌, ◌≢◌, ℕ, ◌+◌, ◌<◌, ◌≤◌, List, [], ◌∷◌, ◌++◌, true, sym, ap, subst, ⊎_elim, arith, length, map}
use Rattle.std.specs.List.{AllByRecursion}
use Rattle.std.proofs.lemmas.List.{length-map, length-append}
use Rattle.plain_model.specs.declared.write.Place.{Place}
use Rattle.plain_model.specs.declared.write.Place.TheVariants.{Slot, Payload, Whole}
use Rattle.plain_model.specs.declared.write.Write.{Write}
use Rattle.plain_model.specs.declared.calls.Call.{Call as TransactionCall}
use Rattle.plain_laws.proofs.Entries.{same_or_apart}
use Rattle.cell_model.specs.Cells.{Cell, pointer_at, is_live}
use Rattle.store_model.specs.Core.{Core}
use Rattle.cell_page.specs.Format.{page_of_id}
use Rattle.core_store.specs.declared.plan.Plan.{Plan}
use Rattle.core_store.specs.declared.plan.Plan.TheVariants as plan
use Rattle.core_store.specs.declared.three.HeldFrame.{HeldFrame}
use Rattle.core_store.specs.declared.want.Want.TheVariants.{Page}
use Rattle.core_store.specs.Frames.{pages_held, AreOnce, IsNext}
use Rattle.core_store.specs.Logged.{want_of, if_any, object_and_targets, objects_of_undo}
use Rattle.core_store.specs.Plans.{IsGranted}
use Rattle.core_store.specs.Ready.{objects_of_plan}
use Rattle.core_store.specs.Work.{AreFew}
use Rattle.core_store.specs.Tables.{TablesView}
use Rattle.core_store.specs.Stands.{CanLay, Stands}
use Rattle.core_store.proofs.PlanLaws.{IsLiveId, live-id, granted-read, granted-make, granted-store, granted-get, granted-set}
use Rattle.core_store.proofs.WantLaws.{wanted-other, wanted-needed, wanted-room, needed-there}

pub next-of : {slots : ℕ} (ids : ℕ) (held : List (HeldFrame slots)) (objects : List ℕ) (p : ℕ) → AreOnce held → AreFew ids objects → want_of (map page_of_id objects) (pages_held held) ≡ Page p → IsNext ids held p
next-of ids held objects p once k wants = record {
  there = needed-there ids p objects k.within (wanted-needed (map page_of_id objects) held p wants);
  other = wanted-other (map page_of_id objects) held p wants;
  room = wanted-room (map page_of_id objects) held p wants (let l = length-map objects page_of_id in let f = k.few in omega (arith, l, f)) once;
}

-- ---- the objects of a change

few-any : (ids id : ℕ) → (id ≢ 0 → (0 < id) × (id ≤ ids)) → (length (if_any id) ≤ 1) × AllByRecursion (λ id. (0 < id) × (id ≤ ids)) (if_any id)
few-any ids id k =
    ⊎_elim
    (λ (z : id ≡ 0). subst (λ x. (length (if_any x) ≤ 1) × AllByRecursion (λ id. (0 < id) × (id ≤ ids)) (if_any x)) (sym z) (omega arith, tt))
    (λ (n : id ≢ 0). subst (λ xs. (length xs ≤ 1) × AllByRecursion (λ id. (0 < id) × (id ≤ ids)) xs) (sym (ap (λ b. Rattle.std.specs.Prelude.if◌then◌else◌ b [] (id ∷ [])) (Rattle.std.proofs.Common.ne_eqb id 0 n))) (omega arith, (k n, tt)))
    (same_or_apart id 0)

both-append : (ids : ℕ) (xs ys : List ℕ) → AllByRecursion (λ id. (0 < id) × (id ≤ ids)) xs → AllByRecursion (λ id. (0 < id) × (id ≤ ids)) ys → AllByRecursion (λ id. (0 < id) × (id ≤ ids)) (xs ++ ys)
both-append ids [] ys a b = b
both-append ids (x ∷ xs) ys a b = (a.0, both-append ids xs ys a.1 b)

pub few-change : (ids : ℕ) (cells : List Cell) (id slot target : ℕ) → (0 < id) × (id ≤ ids) → ((pointer_at cells id slot).target ≢ 0 → (0 < (pointer_at cells id slot).target) × ((pointer_at cells id slot).target ≤ ids)) → (target ≢ 0 → (0 < target) × (target ≤ ids))
    → AreFew ids (object_and_targets cells id slot target)
few-change ids cells id slot target here old new =
    let a = few-any ids (pointer_at cells id slot).target old in
    let b = few-any ids target new in
    let l = length-append (if_any (pointer_at cells id slot).target) (if_any target) in
    record { few = omega (arith, l, a.0, b.0); within = (here, both-append ids (if_any (pointer_at cells id slot).target) (if_any target) a.1 b.1) }

module _ {slots : ℕ} {v : TablesView} {core : Core} (h : Stands slots v core) where
  pub one-live : (id : ℕ) → IsLiveId core.cells core.moment.state.ids id → (0 < id) × (id ≤ v.ids)
  one-live id k = let w = k.within in let s = h.ids in (k.above, omega (arith, w, s))

  pub few-one : (id : ℕ) → (0 < id) × (id ≤ v.ids) → AreFew v.ids (id ∷ [])
  few-one id k = record { few = omega arith; within = (k, tt) }

  old-live : (id slot : ℕ) → is_live core.cells id ≡ true → (pointer_at core.cells id slot).target ≢ 0 → (0 < (pointer_at core.cells id slot).target) × ((pointer_at core.cells id slot).target ≤ v.ids)
  old-live id slot live n = one-live (pointer_at core.cells id slot).target (live-id h (pointer_at core.cells id slot).target (h.sound.consistent.exact.closed id slot live n))

  pub few-plan : (pass : ℕ) (c : TransactionCall) (p : Plan) → IsGranted v pass c p → AreFew v.ids (objects_of_plan core.cells p)
  few-plan pass c plan.Begin w = record { few = omega arith; within = tt }
  few-plan pass c plan.Commit w = record { few = omega arith; within = tt }
  few-plan pass c (plan.Release id) w = record { few = omega arith; within = tt }
  few-plan pass c (plan.Read id slot into) w = few-one id (one-live id (granted-read h pass w.0 slot into id w.2).names.there)
  few-plan pass c (plan.Make id into) w = let g = granted-make h pass into id w.1 w.2 in let top = g.is.1 in let s = h.ids in few-one id (g.is.0, omega (arith, top, s))
  few-plan pass c (plan.Get id) w = few-one id (one-live id (granted-get h pass w.0 id w.2).names.there)
  few-plan pass c (plan.Set id value) w = few-one id (one-live id (granted-set h pass w.0 value id w.2).names.there)
  few-plan pass c (plan.Store id slot target) w =
      let g = granted-store h pass w.0 slot w.1 id target w.3 w.4 in
      few-change v.ids core.cells id slot target (one-live id g.names.there) (old-live id slot g.names.there.live) (λ n. one-live target (g.target_there n))

  pub few-undo : (w : Write) → CanLay slots core.cells w → AreFew v.ids (objects_of_undo core.cells w)
  few-undo w k = by w.id w.place w.value k
    where
      by : (id : ℕ) (place : Place) (value : ℕ) → CanLay slots core.cells (record { id = id; place = place; value = value }) → AreFew v.ids (objects_of_undo core.cells (record { id = id; place = place; value = value }))
      by id (Slot slot) value k = few-change v.ids core.cells id slot value (one-live id (live-id h id k.0)) (old-live id slot k.0) (λ n. one-live value (live-id h value (k.1.1 n)))
      by id Payload value k = few-one id (one-live id (live-id h id k.0))
      by id Whole value k = absurd k.1

-- nothing is wanted where nothing is needed
pub next-nothing : {slots : ℕ} (ids : ℕ) (held : List (HeldFrame slots)) (p : ℕ) → AreOnce held → want_of [] (pages_held held) ≡ Page p → IsNext ids held p
next-nothing ids held p once wants = next-of ids held [] p once (record { few = omega arith; within = tt }) wants
