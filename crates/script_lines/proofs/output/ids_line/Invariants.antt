use Rattle.std.proofs.Common.{◌≡◌, ◌++◌, take}
use Rattle.std.specs.Prelude.{string_bytes}
use Rattle.plain_model.specs.Text.{numbers}
use Rattle.script_lines.proofs.output.ids_line.Given as goal

abbrev pub invariant-loop-id : goal.invariant-loop-id
invariant-loop-id l = string_bytes l.line ≡ l.head ++ numbers (take l.id-index l.ids)
