use Rattle.std.proofs.Common.{◌≡◌, ◌+◌, ◌*◌, false, drop}
use Rattle.cell_page.specs.Fields.{slot_fields, first_broken}
use Rattle.cell_page.proofs.decode.first_pointer.Given as goal

-- the slots that are left decide
abbrev pub invariant-loop-slot : goal.invariant-loop-slot
invariant-loop-slot l = first_broken (slot_fields false (24 + 4 * l.slot) (drop l.slot l.slots)) ≡ first_broken (slot_fields false 24 l.slots)
