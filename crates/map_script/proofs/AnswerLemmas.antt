-- What a line is answered.
use Rattle.std.proofs.Common.{◌≡◌, ℕ, List, Option, Some, sym, subst, Ok, Err}
use Rattle.std.specs.Prelude.{Result, OnOk, IfErr}
use Rattle.std.specs.Io.KnownBytes.{Appends}
use Rattle.disk_model.specs.Causes.{Rose}
use Rattle.script_lines.specs.Output.{AppendsFront}
use Rattle.map_calls.specs.declared.grammar.Line.{Line}
use Rattle.map_calls.specs.Grammar.{IsAccepted, meaning_of}
use Rattle.map_script.specs.declared.stop.Stop.{Stop}
use Rattle.map_script.specs.declared.stop.Stop.TheVariants as stop
use Rattle.map_script.specs.Machine.{Does}
use Rattle.map_calls.specs.Views.{StoreView, Leaving, GoesOn}
use Rattle.map_script.specs.Stopping.{Answers, StopsAnswer, DoesLine, StopsLine}

-- the line of what was done is written
pub answers : (told : Type 0) (r : Result (Unit {0}) Stop) (line : Line) (old new : StoreView) (leaves : Leaving) (before written : Option (List ℕ)) (text : List ℕ) → Does told line old.map new.map text → GoesOn new leaves → OnOk r (Appends before written text) → OnOk r (Answers told line old new leaves before written)
answers told (Ok u) line old new leaves before written text d g a = (text, d, g, a)
answers told (Err s) line old new leaves before written text d g a = tt

-- or the sink fails it
pub stops-writing : (told : Type 0) (r : Result (Unit {0}) Stop) (line : Line) (old new : StoreView) (leaves : Leaving) (before written : Option (List ℕ)) (text : List ℕ) (a b : ℕ) → Does told line old.map new.map text → GoesOn new leaves → IfErr r (λ s. (s ≡ stop.Write) × AppendsFront before written text × Rose a b) → IfErr r (λ s. StopsAnswer told s line old new leaves before written)
stops-writing told (Ok u) line old new leaves before written text a b d g h = tt
stops-writing told (Err s) line old new leaves before written text a b d g h =
    subst (λ (t : Stop). StopsAnswer told t line old new leaves before written) (sym h.0) (text, d, g, h.1)

-- the line that asked it was done
pub line-done : (told : Type 0) (r : Result (Unit {0}) Stop) (number : ℕ) (bytes : List ℕ) (line : Line) (old new : StoreView) (leaves : Leaving) (before written : Option (List ℕ)) → IsAccepted number bytes → meaning_of bytes ≡ Some line → OnOk r (Answers told line old new leaves before written) → OnOk r (DoesLine told number bytes old new leaves before written)
line-done told (Ok u) number bytes line old new leaves before written a m h = (h.0, (line, (a, m), h.1), h.2, h.3)
line-done told (Err s) number bytes line old new leaves before written a m h = tt

stops-asked : (told : Type 0) (s : Stop) (number : ℕ) (bytes : List ℕ) (line : Line) (old new : StoreView) (leaves : Leaving) (before written : Option (List ℕ)) → IsAccepted number bytes → meaning_of bytes ≡ Some line → StopsAnswer told s line old new leaves before written → StopsLine told s number bytes old new leaves before written
stops-asked told (stop.Line k) number bytes line old new leaves before written a m h = absurd h
stops-asked told stop.Read number bytes line old new leaves before written a m h = absurd h
stops-asked told stop.Write number bytes line old new leaves before written a m h = (line, (a, m), h)
stops-asked told (stop.Failed cause) number bytes line old new leaves before written a m h = (line, (a, m), h)
stops-asked told (stop.Unopened cause) number bytes line old new leaves before written a m h = (line, (a, m), h)

-- or stops the script
pub line-stopped : (told : Type 0) (r : Result (Unit {0}) Stop) (number : ℕ) (bytes : List ℕ) (line : Line) (old new : StoreView) (leaves : Leaving) (before written : Option (List ℕ)) → IsAccepted number bytes → meaning_of bytes ≡ Some line → IfErr r (λ s. StopsAnswer told s line old new leaves before written) → IfErr r (λ s. StopsLine told s number bytes old new leaves before written)
line-stopped told (Ok u) number bytes line old new leaves before written a m h = tt
line-stopped told (Err s) number bytes line old new leaves before written a m h = stops-asked told s number bytes line old new leaves before written a m h
