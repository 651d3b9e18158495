-- Looks at slots: which slot is looked at, and whether its target is to be tested.
use Rattle.std.specs.Prelude.{ℕ, Bool, false, ◌&&◌, List, Option, Some, None}
use Rattle.cell_model.specs.Cells.{Cell, cell_at}
use Rattle.green_walk.specs.Greening.{waits}
use Rattle.core_store.specs.declared.round_at.RoundAt.{RoundAt}
use Rattle.core_store.specs.declared.round_at.RoundAt.TheVariants as at
use Rattle.core_store.specs.Changes.{has_no_strong}
use Rattle.core_store.specs.RoundView.{RoundView, Sweeping}

-- the slot that is looked at, with its object, where there is nothing to do at a null one
abbrev pub slot_at : RoundAt → Option (ℕ × ℕ)
slot_at (at.Look id slot) = Some (id, slot)
slot_at (at.Cut id slot) = Some (id, slot)
slot_at (at.Test id slot) = Some (id, slot)
slot_at (at.Out «from» slot) = Some («from», slot)
slot_at _ = None

-- the object waits for the green walk
abbrev pub waits_in : RoundView → ℕ → Bool
waits_in (Sweeping w s slot g) id = waits g id
waits_in _ id = false

-- it waits, and no strong pointer leads to it
abbrev pub is_white_in : List Cell → RoundView → ℕ → Bool
is_white_in cells r id = waits_in r id && has_no_strong (cell_at cells id)
