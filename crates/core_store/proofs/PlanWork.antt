-- The work of a plan is in range, and so are all targets.
use Rattle.std.proofs.Common.{◌≡◌, ℕ, zero, suc, ◌<◌, ◌≤◌, List, [], ◌∷◌, true, false, refl, ap, ◌∙◌, subst, None, ⊎_elim, arith, length, IfSome, get_or, replicate}
use Rattle.std.proofs.lemmas.Bool.{cases_lt}
use Rattle.plain_model.specs.declared.calls.Call.{Call as TransactionCall}
use Rattle.plain_model.specs.declared.calls.Call.TheVariants as call
use Rattle.plain_model.specs.Machine.{IsInRange}
use Rattle.plain_laws.proofs.Entries.{same_or_apart}
use Rattle.plain_laws.proofs.Ids.{true_or_false}
use Rattle.cell_model.specs.Cells.{Pointer, Cell, null, blank_cell, cell_at, pointer_in, pointer_at, is_live}
use Rattle.store_model.specs.Core.{Core}
use Rattle.core_store.specs.declared.plan.Plan.{Plan}
use Rattle.core_store.specs.declared.plan.Plan.TheVariants as plan
use Rattle.core_store.specs.Work.{work_of, IsWork, HasSmallTargets}
use Rattle.core_store.specs.Tables.{TablesView}
use Rattle.core_store.specs.Stands.{Stands}
use Rattle.core_store.specs.Plans.{IsGranted}
use Rattle.core_store.proofs.PlanLaws.{IsLiveId, live-id, granted-read, granted-make, granted-store, granted-get, granted-set}

-- ---- targets

nulls : (n slot : ℕ) → get_or (replicate n null) slot null ≡ null
nulls zero slot = refl
nulls (suc n) zero = refl
nulls (suc n) (suc slot) = nulls n slot

blank_target : (n slot : ℕ) → (pointer_in (blank_cell false n) slot).target ≡ 0
blank_target n slot = ap (λ (p : Pointer). p.target) (nulls n slot)

past : (cells : List Cell) (id : ℕ) → length cells ≤ id → cell_at cells id ≡ blank_cell false 0
past [] id l = refl
past (c ∷ cs) zero l = absurd (omega (arith, l))
past (c ∷ cs) (suc id) l = past cs id (omega (arith, l))

module _ {slots : ℕ} {v : TablesView} {core : Core} (h : Stands slots v core) where
  free_target : (id slot : ℕ) → is_live core.cells id ≡ false → (pointer_at core.cells id slot).target ≡ 0
  free_target id slot n =
      ⊎_elim
      (λ (l : id < length core.cells). ap (λ (c : Cell). (pointer_in c slot).target) (h.sound.consistent.empty id l n) ∙ blank_target core.moment.state.slots slot)
      (λ (l : length core.cells ≤ id). ap (λ (c : Cell). (pointer_in c slot).target) (past core.cells id l) ∙ blank_target 0 slot)
      (cases_lt id (length core.cells))

  -- what a slot holds is null or the id of a live cell
  pub small-targets : HasSmallTargets core.cells
  small-targets id slot =
      ⊎_elim
      (λ (a : is_live core.cells id ≡ true).
      ⊎_elim
      (λ (z : (pointer_at core.cells id slot).target ≡ 0). omega (arith, z))
      (λ n. (let few = (live-id h (pointer_at core.cells id slot).target (h.sound.consistent.exact.closed id slot a n)).few in omega (arith, few)))
      (same_or_apart (pointer_at core.cells id slot).target 0))
      (λ (a : is_live core.cells id ≡ false). let z = free_target id slot a in omega (arith, z))
      (true_or_false (is_live core.cells id))

  -- ---- plans

  work-on : (id ids : ℕ) → IsLiveId core.cells ids id → IsWork slots (record { id = id; change = None })
  work-on id ids l = record { above = l.above; small = (let few = l.few in omega (arith, few)); change = tt }

  pub plan-work : (pass : ℕ) (c : TransactionCall) (p : Plan) → IsInRange slots c → IsGranted v pass c p → IfSome (work_of p) (IsWork slots)
  plan-work pass c plan.Begin r w = tt
  plan-work pass c plan.Commit r w = tt
  plan-work pass c (plan.Release id) r w = tt
  plan-work pass c (plan.Read id slot into) r w = work-on id core.moment.state.ids (granted-read h pass w.0 slot into id w.2).names.there
  plan-work pass c (plan.Make id into) r w = let g = granted-make h pass into id w.1 w.2 in record { above = g.is.0; small = (let few = g.few in omega (arith, few)); change = tt }
  plan-work pass c (plan.Get id) r w = work-on id core.moment.state.ids (granted-get h pass w.0 id w.2).names.there
  plan-work pass c (plan.Set id value) r w = work-on id core.moment.state.ids (granted-set h pass w.0 value id w.2).names.there
  plan-work pass c (plan.Store id slot target) r w =
      let g = granted-store h pass w.0 slot w.1 id target w.3 w.4 in
      let k : IsInRange slots (call.Store w.0 slot w.1) = subst (λ c. IsInRange slots c) w.2 r in
      let small : target < 65536 =
      ⊎_elim (λ (z : target ≡ 0). omega (arith, z)) (λ n. (let few = (g.target_there n).few in omega (arith, few))) (same_or_apart target 0) in
      record { above = g.names.there.above; small = (let few = g.names.there.few in omega (arith, few)); change = (k.1, small) }
