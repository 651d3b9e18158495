use Rattle.std.proofs.Common.{◌≡◌, ◌++◌, take, codes}
use Rattle.std.specs.Prelude.{string_bytes, flat_map}
use Rattle.map_calls.specs.Output.{pair_text}
use Rattle.map_calls.proofs.output.list_line.Given as goal

abbrev pub invariant-loop-pair : goal.invariant-loop-pair
invariant-loop-pair l = string_bytes l.line ≡ codes "list:" ++ flat_map pair_text (take l.pair-index l.pairs)
