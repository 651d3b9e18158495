-- Slots at which there is nothing to do, over which the collector goes on.
use Rattle.std.proofs.Common.{◌≡◌, ℕ, false, List}
use Rattle.cell_model.specs.Cells.{Cell, pointer_at}
use Rattle.core_store.specs.declared.round_at.RoundAt.{RoundAt}
use Rattle.core_store.specs.declared.round_at.RoundAt.TheVariants as at
use Rattle.core_store.specs.Changes.{is_counted_strong}
use Rattle.core_store.specs.RoundView.{RoundView}
use Rattle.core_store.specs.SlotLooks.{is_white_in}

-- the same look at another slot of the object
abbrev pub at_slot : RoundAt → ℕ → RoundAt
at_slot (at.Look id slot) other = at.Look id other
at_slot (at.Cut id slot) other = at.Cut id other
at_slot (at.Test id slot) other = at.Test id other
at_slot (at.Out «from» slot) other = at.Out «from» other
at_slot r other = r

-- it is a look at a slot at which there is nothing to do: one that holds no strong pointer, in the sweep a null one, or at a
-- green object one to no object that is to be tested
abbrev pub IsIdleAt : List Cell → RoundView → RoundAt → Type 0
IsIdleAt cells r (at.Look id slot) = is_counted_strong cells (pointer_at cells id slot) ≡ false
IsIdleAt cells r (at.Cut id slot) = (pointer_at cells id slot).target ≡ 0
IsIdleAt cells r (at.Test id slot) = is_counted_strong cells (pointer_at cells id slot) ≡ false
IsIdleAt cells r (at.Out «from» slot) = is_white_in cells r (pointer_at cells «from» slot).target ≡ false
IsIdleAt cells r _ = ⊥
