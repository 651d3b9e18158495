-- How many slots the program's objects have.
use Rattle.std.proofs.Common.{refl, inr}
use Rattle.cell_page.specs.Format.{IsSlotCount}
use Rattle.script_lines.specs.Numbers.{object_slots}

-- as many as a page may be made for
pub known-slots : IsSlotCount object_slots
known-slots = inr refl
