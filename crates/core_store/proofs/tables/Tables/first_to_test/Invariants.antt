use Rattle.std.proofs.Common.{◌≡◌, ℕ, ◌<◌, ◌≤◌, false, get_or}
use Rattle.store_model.specs.Core.{Core}
use Rattle.core_store.specs.SlotLooks.{is_white_in}
use Rattle.core_store.specs.Stands.{Stands}
use Rattle.core_store.specs.Views.{view_of}
use Rattle.core_store.proofs.tables.Tables.first_to_test.Given as goal

-- none of the slots so far leads to an object that is to be tested
abbrev pub invariant-loop-place : goal.invariant-loop-place
invariant-loop-place g l = (c : Core) → Stands g.row.SLOTS (view_of l.self) c → (k : ℕ) → l.from ≤ k → k < l.place → is_white_in c.cells (view_of l.self).round (get_or l.slots k 0) ≡ false
