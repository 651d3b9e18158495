-- The line of all pairs.
use Rattle.std.specs.Prelude.{ℕ, List, Option}
use Rattle.std.specs.Io.KnownBytes.{Keeps}
use Rattle.script_lines.specs.Output.{AppendsFront}
use Rattle.map_calls.specs.Output.{list_line}
use Rattle.map_calls.specs.declared.failure.Failure.TheVariants as failure
use Rattle.map_script.specs.declared.stop.Stop.{Stop}
use Rattle.map_script.specs.declared.stop.Stop.TheVariants as stop
use Rattle.plain_map.specs.Pairs.{Pairs}

-- the line of these pairs isn't written whole: the sink failed, or there was no memory for it
abbrev pub StopsList : Stop → Pairs → Option (List ℕ) → Option (List ℕ) → Type 0
StopsList stop.Write pairs before written = AppendsFront before written (list_line pairs)
StopsList (stop.Failed failure.Memory) pairs before written = Keeps before written
StopsList _ pairs before written = ⊥
