use Rattle.std.proofs.Common.{◌≡◌, not, take}
use Rattle.std.specs.Prelude.{◌==◌}
use Rattle.std.specs.List.{list_any}
use Rattle.cell_page.proofs.decode.has_nonzero.Given as goal

-- the bits are 0 as long as all bytes are
abbrev pub invariant-loop-byte : goal.invariant-loop-byte
invariant-loop-byte l = (l.bits == 0) ≡ not (list_any (λ byte. not (byte == 0)) (take l.byte-index l.bytes))
