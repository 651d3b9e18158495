-- What a call that is granted logs, and the pages that it works on.
use Rattle.std.proofs.Common.{◌≡◌, ℕ, List, [], refl, sym, ap, ◌∙◌, subst, Option, Some, None, map}
use Rattle.std.specs.Option.{option_map_or}
use Rattle.plain_model.specs.declared.calls.Call.{Call as TransactionCall}
use Rattle.plain_model.specs.declared.calls.Call.TheVariants as call
use Rattle.plain_model.specs.declared.calls.Reply.{Reply}
use Rattle.plain_model.specs.ActiveTransaction.{ActiveTransaction}
use Rattle.plain_model.specs.Machine.{State, transaction_of, refusal_of, IsInRange}
use Rattle.plain_model.specs.History.{Moment}
use Rattle.cell_model.specs.Cells.{Cell, cell_at}
use Rattle.store_model.specs.Core.{Core}
use Rattle.log_record.specs.declared.cell_record.CellRecord.{CellRecord}
use Rattle.log_record.specs.declared.cell_record.CellRecord.TheVariants as logs
use Rattle.cell_page.specs.Format.{page_of_id}
use Rattle.core_store.specs.declared.plan.Plan.{Plan}
use Rattle.core_store.specs.declared.plan.Plan.TheVariants as plan
use Rattle.core_store.specs.Changes.{stored_change, store_record}
use Rattle.core_store.specs.Logged.{stored_target, record_in, logged_by, objects_in, pages_for, object_and_targets}
use Rattle.core_store.specs.Work.{work_of, pages_of_work}
use Rattle.core_store.specs.Tables.{TablesView}
use Rattle.core_store.specs.Stands.{Stands}
use Rattle.core_store.specs.Plans.{IsGranted}
use Rattle.core_store.specs.Ready.{objects_of_plan, IsPlanInRange}
use Rattle.core_store.proofs.PlanLaws.{Grants, granted-begin, granted-read, granted-make, granted-store, granted-get, granted-release, granted-set, granted-commit}

-- the record of a plan, if it has one
abbrev pub record_of_plan : List Cell → ℕ → Plan → Option CellRecord
record_of_plan cells pass plan.Begin = Some (logs.Begin pass)
record_of_plan cells pass (plan.Read id slot into) = None
record_of_plan cells pass (plan.Make id into) = Some (logs.Make pass id)
record_of_plan cells pass (plan.Store id slot target) = Some (store_record pass id slot target (stored_change cells id slot target))
record_of_plan cells pass (plan.Get id) = None
record_of_plan cells pass (plan.Release id) = None
record_of_plan cells pass (plan.Set id value) = Some (logs.Pay pass id (cell_at cells id).payload value)
record_of_plan cells pass plan.Commit = Some (logs.Commit pass)

-- ---- a call that is refused

pub refused-logs : (s : State) (cells : List Cell) (pass : ℕ) (c : TransactionCall) (reply : Reply) → refusal_of s pass c ≡ Some reply → logged_by s cells pass c ≡ None
refused-logs s cells pass c reply e = ap (λ o. option_map_or (λ (reply : Reply). None) o (option_map_or (λ t. record_in s cells pass t c) (transaction_of s pass) (Some (logs.Begin pass)))) e

pub refused-pages : (s : State) (cells : List Cell) (pass : ℕ) (c : TransactionCall) (reply : Reply) → refusal_of s pass c ≡ Some reply → pages_for s cells pass c ≡ []
refused-pages s cells pass c reply e = ap (λ o. option_map_or (λ (reply : Reply). []) o (map page_of_id (option_map_or (λ t. objects_in s cells t c) (transaction_of s pass) []))) e

-- ---- a call that is granted

allowed-logs : (s : State) (cells : List Cell) (pass : ℕ) (c : TransactionCall) (o : Option ActiveTransaction) → refusal_of s pass c ≡ None → transaction_of s pass ≡ o → logged_by s cells pass c ≡ option_map_or (λ t. record_in s cells pass t c) o (Some (logs.Begin pass))
allowed-logs s cells pass c o e f =
    ap (λ o. option_map_or (λ (reply : Reply). None) o (option_map_or (λ t. record_in s cells pass t c) (transaction_of s pass) (Some (logs.Begin pass)))) e
    ∙ ap (λ o. option_map_or (λ t. record_in s cells pass t c) o (Some (logs.Begin pass))) f

allowed-pages : (s : State) (cells : List Cell) (pass : ℕ) (c : TransactionCall) (o : Option ActiveTransaction) → refusal_of s pass c ≡ None → transaction_of s pass ≡ o → pages_for s cells pass c ≡ map page_of_id (option_map_or (λ t. objects_in s cells t c) o [])
allowed-pages s cells pass c o e f =
    ap (λ o. option_map_or (λ (reply : Reply). []) o (map page_of_id (option_map_or (λ t. objects_in s cells t c) (transaction_of s pass) []))) e
    ∙ ap (λ o. map page_of_id (option_map_or (λ t. objects_in s cells t c) o [])) f

pub granted-logs : {slots : ℕ} {v : TablesView} {m : Moment} {pass : ℕ} {c : TransactionCall} → (cells : List Cell) (g : Grants slots v m pass c) → logged_by m.state cells pass c ≡ record_in m.state cells pass g.transaction c
granted-logs {slots} {v} {m} {pass} {c} cells g = allowed-logs m.state cells pass c (Some g.transaction) g.allowed g.found

pub granted-pages : {slots : ℕ} {v : TablesView} {m : Moment} {pass : ℕ} {c : TransactionCall} → (cells : List Cell) (g : Grants slots v m pass c) → pages_for m.state cells pass c ≡ map page_of_id (objects_in m.state cells g.transaction c)
granted-pages {slots} {v} {m} {pass} {c} cells g = allowed-pages m.state cells pass c (Some g.transaction) g.allowed g.found

module _ {slots : ℕ} {v : TablesView} {core : Core} (h : Stands slots v core) where
  -- the machine doesn't refuse a call that is granted
  pub unrefused-plan : (pass : ℕ) (c : TransactionCall) (p : Plan) → IsGranted v pass c p → refusal_of core.moment.state pass c ≡ None
  unrefused-plan pass c plan.Begin w = ap (refusal_of core.moment.state pass) w.0 ∙ (granted-begin h pass w.1).1
  unrefused-plan pass c (plan.Read id slot into) w = ap (refusal_of core.moment.state pass) w.1 ∙ (granted-read h pass w.0 slot into id w.2).grants.allowed
  unrefused-plan pass c (plan.Make id into) w = ap (refusal_of core.moment.state pass) w.0 ∙ (granted-make h pass into id w.1 w.2).grants.allowed
  unrefused-plan pass c (plan.Store id slot target) w = ap (refusal_of core.moment.state pass) w.2 ∙ (granted-store h pass w.0 slot w.1 id target w.3 w.4).grants.allowed
  unrefused-plan pass c (plan.Get id) w = ap (refusal_of core.moment.state pass) w.1 ∙ (granted-get h pass w.0 id w.2).grants.allowed
  unrefused-plan pass c (plan.Release id) w = ap (refusal_of core.moment.state pass) w.1 ∙ (granted-release h pass w.0 id w.2).grants.allowed
  unrefused-plan pass c (plan.Set id value) w = ap (refusal_of core.moment.state pass) w.1 ∙ (granted-set h pass w.0 value id w.2).grants.allowed
  unrefused-plan pass c plan.Commit w = ap (refusal_of core.moment.state pass) w.0 ∙ (granted-commit h pass w.1).allowed

  -- ---- the record

  -- what is logged is what the plan says
  pub logged-plan : (pass : ℕ) (c : TransactionCall) (p : Plan) → IsGranted v pass c p → logged_by core.moment.state core.cells pass c ≡ record_of_plan core.cells pass p
  logged-plan pass c plan.Begin w = let g = granted-begin h pass w.1 in ap (λ c. logged_by core.moment.state core.cells pass c) w.0 ∙ allowed-logs core.moment.state core.cells pass call.Begin None g.1 g.0
  logged-plan pass c (plan.Read id slot into) w = ap (λ c. logged_by core.moment.state core.cells pass c) w.1 ∙ granted-logs core.cells (granted-read h pass w.0 slot into id w.2).grants
  logged-plan pass c (plan.Make id into) w =
      let g = granted-make h pass into id w.1 w.2 in
      ap (λ c. logged_by core.moment.state core.cells pass c) w.0 ∙ (granted-logs core.cells g.grants ∙ ap (λ (n : ℕ). Some (logs.Make pass n)) g.id_is)
  logged-plan pass c (plan.Store id slot target) w =
      let g = granted-store h pass w.0 slot w.1 id target w.3 w.4 in
      ap (λ c. logged_by core.moment.state core.cells pass c) w.2
      ∙ (granted-logs core.cells g.grants
      ∙ (ap (λ (x : ℕ). Some (store_record pass x slot (stored_target g.grants.transaction w.1) (stored_change core.cells x slot (stored_target g.grants.transaction w.1)))) g.names.id_is
      ∙ ap (λ (y : ℕ). Some (store_record pass id slot y (stored_change core.cells id slot y))) (sym g.target_is)))
  logged-plan pass c (plan.Get id) w = ap (λ c. logged_by core.moment.state core.cells pass c) w.1 ∙ granted-logs core.cells (granted-get h pass w.0 id w.2).grants
  logged-plan pass c (plan.Release id) w = ap (λ c. logged_by core.moment.state core.cells pass c) w.1 ∙ granted-logs core.cells (granted-release h pass w.0 id w.2).grants
  logged-plan pass c (plan.Set id value) w =
      let g = granted-set h pass w.0 value id w.2 in
      ap (λ c. logged_by core.moment.state core.cells pass c) w.1 ∙ (granted-logs core.cells g.grants ∙ ap (λ (x : ℕ). Some (logs.Pay pass x (cell_at core.cells x).payload value)) g.names.id_is)
  logged-plan pass c plan.Commit w = ap (λ c. logged_by core.moment.state core.cells pass c) w.0 ∙ granted-logs core.cells (granted-commit h pass w.1)

  -- ---- the pages

  -- the call works on the objects of its plan
  pub pages-plan : (pass : ℕ) (c : TransactionCall) (p : Plan) → IsGranted v pass c p → pages_for core.moment.state core.cells pass c ≡ map page_of_id (objects_of_plan core.cells p)
  pages-plan pass c plan.Begin w = let g = granted-begin h pass w.1 in ap (λ c. pages_for core.moment.state core.cells pass c) w.0 ∙ allowed-pages core.moment.state core.cells pass call.Begin None g.1 g.0
  pages-plan pass c (plan.Read id slot into) w =
      let g = granted-read h pass w.0 slot into id w.2 in
      ap (λ c. pages_for core.moment.state core.cells pass c) w.1 ∙ (granted-pages core.cells g.grants ∙ ap (λ (x : ℕ). map page_of_id (objects_of_plan core.cells (plan.Get x))) g.names.id_is)
  pages-plan pass c (plan.Make id into) w =
      let g = granted-make h pass into id w.1 w.2 in
      ap (λ c. pages_for core.moment.state core.cells pass c) w.0 ∙ (granted-pages core.cells g.grants ∙ ap (λ (x : ℕ). map page_of_id (objects_of_plan core.cells (plan.Get x))) g.id_is)
  pages-plan pass c (plan.Store id slot target) w =
      let g = granted-store h pass w.0 slot w.1 id target w.3 w.4 in
      ap (λ c. pages_for core.moment.state core.cells pass c) w.2
      ∙ (granted-pages core.cells g.grants
      ∙ (ap (λ (x : ℕ). map page_of_id (object_and_targets core.cells x slot (stored_target g.grants.transaction w.1))) g.names.id_is
      ∙ ap (λ (y : ℕ). map page_of_id (object_and_targets core.cells id slot y)) (sym g.target_is)))
  pages-plan pass c (plan.Get id) w =
      let g = granted-get h pass w.0 id w.2 in
      ap (λ c. pages_for core.moment.state core.cells pass c) w.1 ∙ (granted-pages core.cells g.grants ∙ ap (λ (x : ℕ). map page_of_id (objects_of_plan core.cells (plan.Get x))) g.names.id_is)
  pages-plan pass c (plan.Release id) w = ap (λ c. pages_for core.moment.state core.cells pass c) w.1 ∙ granted-pages core.cells (granted-release h pass w.0 id w.2).grants
  pages-plan pass c (plan.Set id value) w =
      let g = granted-set h pass w.0 value id w.2 in
      ap (λ c. pages_for core.moment.state core.cells pass c) w.1 ∙ (granted-pages core.cells g.grants ∙ ap (λ (x : ℕ). map page_of_id (objects_of_plan core.cells (plan.Get x))) g.names.id_is)
  pages-plan pass c plan.Commit w = ap (λ c. pages_for core.moment.state core.cells pass c) w.0 ∙ granted-pages core.cells (granted-commit h pass w.1)

  -- and these are the pages of its work
  pub pages-work : (pass : ℕ) (c : TransactionCall) (p : Plan) → IsGranted v pass c p → pages_for core.moment.state core.cells pass c ≡ pages_of_work core.cells (work_of p)
  pages-work pass c p w = pages-plan pass c p w ∙ same p
    where
      same : (p : Plan) → map page_of_id (objects_of_plan core.cells p) ≡ pages_of_work core.cells (work_of p)
      same plan.Begin = refl
      same (plan.Read id slot into) = refl
      same (plan.Make id into) = refl
      same (plan.Store id slot target) = refl
      same (plan.Get id) = refl
      same (plan.Release id) = refl
      same (plan.Set id value) = refl
      same plan.Commit = refl

-- the plan of a call in range is in range
pub plan-in_range : (slots : ℕ) (v : TablesView) (pass : ℕ) (c : TransactionCall) (p : Plan) → IsInRange slots c → IsGranted v pass c p → IsPlanInRange slots p
plan-in_range slots v pass c plan.Begin r w = tt
plan-in_range slots v pass c (plan.Read id slot into) r w = let k : IsInRange slots (call.Read w.0 slot into) = subst (λ c. IsInRange slots c) w.1 r in (k.1, k.2)
plan-in_range slots v pass c (plan.Make id into) r w = subst (λ c. IsInRange slots c) w.0 r
plan-in_range slots v pass c (plan.Store id slot target) r w = let k : IsInRange slots (call.Store w.0 slot w.1) = subst (λ c. IsInRange slots c) w.2 r in k.1
plan-in_range slots v pass c (plan.Get id) r w = tt
plan-in_range slots v pass c (plan.Release id) r w = tt
plan-in_range slots v pass c (plan.Set id value) r w = tt
plan-in_range slots v pass c plan.Commit r w = tt
