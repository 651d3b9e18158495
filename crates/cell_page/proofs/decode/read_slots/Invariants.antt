use Rattle.std.proofs.Common.{◌≡◌, drop, take, length}
use Rattle.cell_page.specs.Fields.{numbers_in}
use Rattle.cell_page.proofs.decode.read_slots.Given as goal

abbrev pub invariant-loop-slot : goal.invariant-loop-slot
invariant-loop-slot g l = record { count : length l.slots ≡ g.row.SLOTS; read : take l.slot l.slots ≡ numbers_in l.slot (drop 24 l.bytes) }
