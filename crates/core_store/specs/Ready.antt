-- What has to stand before an event, and what the event then does.
use Rattle.std.specs.Prelude.{◌≡◌, ℕ, ◌+◌, ◌<◌, Bool, true, List, [], ◌∷◌, Result}
use Rattle.std.specs.Option.{option_map_or}
use Rattle.plain_model.specs.declared.write.Write.{Write}
use Rattle.plain_model.specs.declared.write.Place.{Place}
use Rattle.plain_model.specs.declared.write.Place.TheVariants.{Slot}
use Rattle.plain_model.specs.declared.calls.Call.{Call as TransactionCall}
use Rattle.plain_model.specs.declared.calls.Reply.{Reply}
use Rattle.strict_locks.specs.Locks.{AddsOwner}
use Rattle.cell_model.specs.Cells.{Cell, is_live}
use Rattle.store_model.specs.Core.{Core}
use Rattle.core_store.specs.declared.three.HeldFrame.{HeldFrame}
use Rattle.core_store.specs.declared.plan.Plan.{Plan}
use Rattle.core_store.specs.declared.plan.Plan.TheVariants as plan
use Rattle.core_store.specs.declared.handlers.Performed.{Performed}
use Rattle.core_store.specs.Frames.{Agree, HasPages}
use Rattle.log_record.specs.declared.cell_record.CellRecord.{CellRecord}
use Rattle.log_record.specs.Records.{after_cell_record}
use Rattle.core_store.specs.Slots.{HoldsPagesOf, IsReadyToChange, IsReadyToEdit, CanChange, IsChanged}
use Rattle.core_store.specs.Logged.{object_and_targets, objects_of_undo, pages_for, logged_by_undo}
use Rattle.core_store.specs.Replaced.{next_to_restore}
use Rattle.core_store.specs.Transactions.{writing}
use Rattle.core_store.specs.Tables.{TablesView, changed_at}
use Rattle.core_store.specs.Stands.{Stands, DoesCall}
use Rattle.core_store.specs.Plans.{IsGranted, IsPlanned}

-- the tables stand for some journal, and the held pages for its cells
pub record IsStanding {slots : ℕ} (v : TablesView) (held : List (HeldFrame slots)) : Type 0 where
  pub core : Core
  pub stands : Stands slots v core
  pub agree : Agree core.cells held

-- the objects on which the plan works
abbrev pub objects_of_plan : List Cell → Plan → List ℕ
objects_of_plan cells (plan.Read id slot into) = id ∷ []
objects_of_plan cells (plan.Make id into) = id ∷ []
objects_of_plan cells (plan.Store id slot target) = object_and_targets cells id slot target
objects_of_plan cells (plan.Get id) = id ∷ []
objects_of_plan cells (plan.Set id value) = id ∷ []
objects_of_plan cells other = []

-- the slot and the register are there
abbrev pub IsPlanInRange : ℕ → Plan → Type 0
IsPlanInRange slots (plan.Read id slot into) = (slot < slots) × (into < 8)
IsPlanInRange slots (plan.Make id into) = into < 8
IsPlanInRange slots (plan.Store id slot target) = slot < slots
IsPlanInRange slots other = Unit {0}

-- the plan is that of a call that is granted, and the pages are held on which it works
pub record IsReady {slots : ℕ} (v : TablesView) (held : List (HeldFrame slots)) (pass : ℕ) (p : Plan) : Type 0 where
  pub call : TransactionCall
  pub granted : IsGranted v pass call p
  pub in_range : IsPlanInRange slots p
  pub standing : IsStanding v held
  pub pages : HoldsPagesOf held (objects_of_plan standing.core.cells p)

-- whatever call has this plan is done as the machine does it
abbrev pub Does : {slots : ℕ} → TablesView → TablesView → List (HeldFrame slots) → List (HeldFrame slots) → ℕ → Plan → Performed → Type 0
Does {slots} v w held new pass p outcome = (call : TransactionCall) → IsGranted v pass call p → DoesCall slots v w held new pass call outcome.reply outcome.logged

-- whatever call was planned so is done as the machine does it, or refused as the machine refuses it
abbrev pub DoesPlanned : {slots : ℕ} → TablesView → TablesView → List (HeldFrame slots) → List (HeldFrame slots) → ℕ → Result Plan Reply → Performed → Type 0
DoesPlanned {slots} v w held new pass planned outcome = (call : TransactionCall) → IsPlanned slots v pass call planned → DoesCall slots v w held new pass call outcome.reply outcome.logged

-- the client owns the object, and has noted what its write replaced
pub record OwnsToWrite (v w : TablesView) (pass id : ℕ) (replaced : Write) : Type 0 where
  pub ids : w.ids ≡ v.ids
  pub free : w.free ≡ v.free
  pub zeros : w.zeros ≡ v.zeros
  pub locks : AddsOwner v.locks w.locks pass id
  pub transactions : w.transactions ≡ changed_at pass (writing replaced) v.transactions
  pub owed : w.owed ≡ v.owed + 1
  pub references : w.references ≡ v.references
  pub queue : w.queue ≡ v.queue
  pub round : w.round ≡ v.round

-- the client is active, and the pages are held on which its next undo step works
pub record IsReadyToUndo {slots : ℕ} (v : TablesView) (held : List (HeldFrame slots)) (pass : ℕ) : Type 0 where
  pub standing : IsStanding v held
  pub pages : HoldsPagesOf held (option_map_or (objects_of_undo standing.core.cells) (next_to_restore standing.core.moment pass) [])

-- the pages are held on which the call works
pub record IsReadyToCall {slots : ℕ} (v : TablesView) (held : List (HeldFrame slots)) (pass : ℕ) (call : TransactionCall) : Type 0 where
  pub standing : IsStanding v held
  pub pages : HasPages v.ids (pages_for standing.core.moment.state standing.core.cells pass call) held

-- ---- the undo of a write

-- some store's cells are held, in which this can be laid again
abbrev pub IsReadyToRestore : {slots : ℕ} → List (HeldFrame slots) → List Bool → Write → Type 0
IsReadyToRestore held zeros w = by w.place
  where
    by : Place → Type 0
    by (Slot slot) = IsReadyToChange held zeros w.id slot w.value
    by other = IsReadyToEdit held w.id

-- this can be laid again in the cells
abbrev pub CanRestore : ℕ → ℕ → List Cell → Write → Type 0
CanRestore slots ids cells w = by w.place
  where
    by : Place → Type 0
    by (Slot slot) = CanChange slots ids cells w.id slot w.value
    by other = is_live cells w.id ≡ true

-- whatever cells are held in which this can be laid again, it is, with the record of that
abbrev pub Restores : {slots : ℕ} → List (HeldFrame slots) → List (HeldFrame slots) → List Bool → List Bool → ℕ → Write → CellRecord → Type 0
Restores {slots} held new zeros marks pass w result =
    (ids : ℕ) (cells : List Cell) → Agree cells held → CanRestore slots ids cells w → (result ≡ logged_by_undo cells pass w) × IsChanged cells (after_cell_record slots cells result) held new zeros marks
