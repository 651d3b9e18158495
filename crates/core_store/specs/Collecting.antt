-- What a step of the collector works on, and what it is answered.
use Rattle.std.specs.Prelude.{◌≡◌, ◌+◌, ◌≤◌, ℕ, Bool, true, false, List, [], ◌∷◌, ◌++◌, length, Option, Some, None}
use Rattle.cell_model.specs.Cells.{Cell}
use Rattle.store_model.specs.Core.{Core}
use Rattle.log_record.specs.declared.cell_record.CellRecord.{CellRecord}
use Rattle.log_record.specs.declared.cell_record.CellRecord.TheVariants as logs
use Rattle.core_store.specs.declared.three.HeldFrame.{HeldFrame}
use Rattle.core_store.specs.declared.want.Work.{Work}
use Rattle.core_store.specs.declared.act.Act.{Act}
use Rattle.core_store.specs.declared.trace.Trace.{Trace}
use Rattle.core_store.specs.declared.act.Act.TheVariants as act
use Rattle.core_store.specs.declared.collect.Collect.{Collect}
use Rattle.core_store.specs.declared.collect.Collect.TheVariants.{Did, Deleted}
use Rattle.core_store.specs.declared.round_at.RoundAt.{RoundAt}
use Rattle.core_store.specs.declared.round_at.RoundAt.TheVariants as at
use Rattle.core_store.specs.Frames.{Agree}
use Rattle.core_store.specs.Slots.{HoldsPagesOf}
use Rattle.std.specs.Option.{option_map_or}
use Rattle.core_store.specs.Work.{objects_of, pages_of_work}
use Rattle.core_store.specs.Events.{core_after}
use Rattle.core_store.specs.RoundView.{RoundView, asked, is_event, left_of, looked_past, Proceeds}
use Rattle.core_store.specs.Collects.{Collects, BeginsGreen, entry_of}
use Rattle.core_store.specs.Tables.{TablesView}
use Rattle.core_store.specs.Stands.{Stands, Moves}

-- the object that the collector looks at or works on, with the slot, which is to be null or to keep its target
abbrev pub work_at : RoundAt → Option Work
work_at (at.Look id slot) = Some (record { id = id; change = Some (slot, 0) })
work_at (at.Copy id) = Some (record { id = id; change = None })
work_at (at.Cut id slot) = Some (record { id = id; change = Some (slot, 0) })
work_at (at.Free id) = Some (record { id = id; change = None })
work_at (at.Test id slot) = Some (record { id = id; change = Some (slot, 0) })
work_at (at.Flip id) = Some (record { id = id; change = None })
work_at (at.Into «from» slot to) = Some (record { id = «from»; change = Some (slot, 0) })
work_at (at.Out «from» slot) = Some (record { id = «from»; change = None })
work_at (at.Strengthen «from» slot to) = Some (record { id = «from»; change = Some (slot, 0) })
work_at _ = None

-- the objects that it looks at or works on
abbrev pub objects_at : List Cell → RoundAt → List ℕ
objects_at cells r = option_map_or (objects_of cells) (work_at r) []

-- the pages that the collector's next look or event needs, in order: that of its object, and that of what the slot holds
abbrev pub pages_to_collect : List Cell → RoundView → List ℕ
pages_to_collect cells r = pages_of_work cells (work_at (asked r))

-- the pages are held that the next event needs, and it is no look
pub record IsReadyToCollect {slots : ℕ} (cells : List Cell) (r : RoundView) (held : List (HeldFrame slots)) : Type 0 where
  pub pages : HoldsPagesOf held (objects_at cells (asked r))
  pub event : is_event cells (asked r) ≡ true

-- the tables stand for some journal, and its next event can be made with the held pages
pub record CanCollect {slots : ℕ} (v : TablesView) (held : List (HeldFrame slots)) : Type 0 where
  pub core : Core
  pub stands : Stands slots v core
  pub agree : Agree core.cells held
  pub ready : IsReadyToCollect core.cells v.round held

-- the tables stand for some journal, and its next look can be made with the held pages, at which there is nothing to do
pub record CanPass {slots : ℕ} (v : TablesView) (held : List (HeldFrame slots)) : Type 0 where
  pub core : Core
  pub stands : Stands slots v core
  pub agree : Agree core.cells held
  pub pages : HoldsPagesOf held (objects_at core.cells (asked v.round))
  pub none : is_event core.cells (asked v.round) ≡ false

-- the round goes on after a look at which there was nothing to do, nothing else changes, and the tables stand for the journal as
-- before
pub record IsPassedBy (slots : ℕ) (c : Core) (v w : TablesView) : Type 0 where
  pub round : w.round ≡ looked_past slots c.cells v.round
  pub same : w ≡ record v { round = w.round }
  pub stands : Stands slots w c

-- the event is the one that came next, the new tables stand for the journal after it, and the round goes on after it
pub record Collected (slots : ℕ) (v w : TablesView) (c : Core) (held new : List (HeldFrame slots)) (event : Act) (logged : Option CellRecord) : Type 0 where
  pub proceeds : Proceeds slots v.ids v.round event logged w.round
  pub begins : event ≡ act.Judge → BeginsGreen c w.round
  pub moves : Moves slots c.cells held new logged
  pub core : Core
  pub after : core ≡ core_after slots c (entry_of logged) logged core.queue core.round
  pub collects : Collects slots c event logged core.queue core.round
  pub stands : Stands slots w core

-- whatever the tables and the held pages stand for, the collector makes this event of it
abbrev pub CollectsOne : (slots : ℕ) → TablesView → TablesView → List (HeldFrame slots) → List (HeldFrame slots) → Act → Option CellRecord → Type 0
CollectsOne slots v w held new act logged = (c : Core) → Stands slots v c → Agree c.cells held → IsReadyToCollect c.cells v.round held → Collected slots v w c held new act logged

-- the event took the first id out of the queue
abbrev pub is_pop : Act → Bool
is_pop (act.Skip id) = true
is_pop (act.Start id) = true
is_pop _ = false

-- what a step of the collector is answered that made this event, with so much work left
abbrev pub answer_of : Act → Option CellRecord → ℕ → Collect
answer_of act (Some (logs.Free id)) left = Deleted id left
answer_of act _ left = Did (is_pop act) left

-- the trace has the note of this event after the others, and else is as it was; what was reserved is given up
pub record IsNoted (t u : Trace) (event : Act) (logged : Option CellRecord) (left : ℕ) : Type 0 where
  pub items : u.notes.list ≡ t.notes.list ++ record { entry = entry_of logged; logged = logged; left = left; act = event } ∷ []
  pub len : length u.notes.list ≡ length t.notes.list + 1
  pub room : t.notes.room ≤ u.notes.room
  pub limits : u.limits ≡ t.limits
  pub marks : u.marks ≡ t.marks
  pub reserved : u.reserved ≡ false

-- the collector made the event that comes next, the trace has its note, and the answer tells of it
pub record EntersOne (slots : ℕ) (v w : TablesView) (held new : List (HeldFrame slots)) (t u : Trace) (answer : Collect) : Type 0 where
  pub event : Act
  pub logged : Option CellRecord
  pub collects : CollectsOne slots v w held new event logged
  pub noted : IsNoted t u event logged (left_of slots w.round)
  pub told : answer ≡ answer_of event logged (left_of slots w.round)
