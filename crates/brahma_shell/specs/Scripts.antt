-- What a script has left, which is read line by line.
use Rattle.std.specs.Prelude.{ℕ, List, Option}
use Rattle.std.specs.Io.KnownBytes.{prepend_known}
use Rattle.script_lines.specs.LineReader.{pending}
use Rattle.brahma_shell.specs.declared.script.Script.{Script}

-- what the source has left, after what the script has read and not taken yet
abbrev pub left_in : Script → Option (List ℕ) → Option (List ℕ)
left_in script left = prepend_known (pending script.lines) left
