use Rattle.std.proofs.Common.{◌≡◌, drop}
use Rattle.cell_page.specs.Fields.{sets_null_bit}
use Rattle.cell_page.proofs.decode.sets_null_bit.Given as goal

-- the slots that are left decide
abbrev pub invariant-loop-slot : goal.invariant-loop-slot
invariant-loop-slot g l = sets_null_bit l.cell.bits l.slot (drop l.slot l.cell.slots) ≡ sets_null_bit l.cell.bits 0 l.cell.slots
