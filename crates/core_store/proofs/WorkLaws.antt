-- What the calls and the undo steps work on, in the store of the tables.
use Rattle.std.proofs.Common.{◌≡◌, ℕ, List, [], refl, subst, Some, None, arith}
use Rattle.std.specs.Option.{option_map_or}
use Rattle.plain_model.specs.declared.write.Place.{Place}
use Rattle.plain_model.specs.declared.write.Place.TheVariants.{Slot, Payload, Whole}
use Rattle.plain_model.specs.declared.write.Write.{Write}
use Rattle.plain_model.specs.declared.calls.Call.{Call as TransactionCall}
use Rattle.plain_model.specs.Machine.{IsInRange}
use Rattle.cell_model.specs.Cells.{Cell}
use Rattle.store_model.specs.Core.{Core}
use Rattle.core_store.specs.declared.plan.Plan.{Plan}
use Rattle.core_store.specs.declared.plan.Plan.TheVariants as plan
use Rattle.core_store.specs.Logged.{objects_of_undo}
use Rattle.core_store.specs.Plans.{IsGranted}
use Rattle.core_store.specs.Ready.{objects_of_plan}
use Rattle.core_store.specs.Stands.{Stands}
use Rattle.core_store.specs.Tables.{TablesView}
use Rattle.core_store.specs.Work.{work_of, work_of_undo, objects_of, AreFew, IsWorkIn}
use Rattle.core_store.proofs.NextLaws.{few-plan, few-undo}
use Rattle.core_store.proofs.PlanUndo.{last_noted, can-lay, undo-work}
use Rattle.core_store.proofs.PlanWork.{plan-work}

-- no work is work in each store
pub no-work : (slots ids : ℕ) (cells : List Cell) → IsWorkIn slots ids cells None
no-work slots ids cells = record { small = tt; few = record { few = omega arith; within = tt } }

-- the objects of a plan are those of its work
objects-plan : (cells : List Cell) (p : Plan) → objects_of_plan cells p ≡ option_map_or (objects_of cells) (work_of p) []
objects-plan cells plan.Begin = refl
objects-plan cells (plan.Read id slot into) = refl
objects-plan cells (plan.Make id into) = refl
objects-plan cells (plan.Store id slot target) = refl
objects-plan cells (plan.Get id) = refl
objects-plan cells (plan.Release id) = refl
objects-plan cells (plan.Set id value) = refl
objects-plan cells plan.Commit = refl

-- and so are those of an undo step
objects-undo : (cells : List Cell) (w : Write) → objects_of_undo cells w ≡ objects_of cells (work_of_undo w)
objects-undo cells w = same w.id w.place w.value
  where
    same : (id : ℕ) (p : Place) (value : ℕ) → objects_of_undo cells (record { id = id; place = p; value = value }) ≡ objects_of cells (work_of_undo (record { id = id; place = p; value = value }))
    same id (Slot slot) value = refl
    same id Payload value = refl
    same id Whole value = refl

module _ {slots : ℕ} {v : TablesView} {core : Core} (h : Stands slots v core) where
  pub works-plan : (pass : ℕ) (c : TransactionCall) (p : Plan) → IsInRange slots c → IsGranted v pass c p → IsWorkIn slots v.ids core.cells (work_of p)
  works-plan pass c p r w = record {
    small = plan-work h pass c p r w;
    few = subst (λ (ids : List ℕ). AreFew v.ids ids) (objects-plan core.cells p) (few-plan h pass c p w);
  }

  pub works-undo : (pass : ℕ) (w : Write) → last_noted v pass ≡ Some w → IsWorkIn slots v.ids core.cells (Some (work_of_undo w))
  works-undo pass w e = record {
    small = (undo-work h pass w e).0;
    few = subst (λ (ids : List ℕ). AreFew v.ids ids) (objects-undo core.cells w) (few-undo h w (can-lay h pass w e));
  }
