use Rattle.std.proofs.Common.{◌≡◌, ◌+◌, ◌*◌, ◌++◌, take}
use Rattle.std.specs.Int.{w32, to_be_bytes}
use Rattle.std.specs.List.{flat_map}
use Rattle.cell_page.proofs.encode.encode_slots.Given as goal

abbrev pub invariant-loop-slot : goal.invariant-loop-slot
invariant-loop-slot l = take (24 + 4 * l.slot) l.into ≡ take 24 l.initial.into ++ flat_map (to_be_bytes w32) (take l.slot l.slots)
