-- The line of a list.
use Rattle.std.proofs.Common.{◌≡◌, ℕ, List, Option, sym, ap, subst, Ok, Err}
use Rattle.std.specs.Prelude.{Result, OnOk, IfErr}
use Rattle.std.specs.Io.KnownBytes.{Appends}
use Rattle.disk_model.specs.Causes.{Rose}
use Rattle.script_lines.specs.Output.{AppendsFront}
use Rattle.map_calls.specs.declared.grammar.Line.TheVariants as line
use Rattle.map_calls.specs.Output.{list_line}
use Rattle.map_calls.specs.declared.failure.Failure.TheVariants as failure
use Rattle.map_script.specs.declared.stop.Stop.{Stop}
use Rattle.map_script.specs.declared.stop.Stop.TheVariants as stop
use Rattle.plain_map.specs.Pairs.{Pairs}
use Rattle.map_calls.specs.Views.{StoreView, Leaving, GoesOn}
use Rattle.map_script.specs.Stopping.{StopsAnswer}
use Rattle.map_script.specs.Listing.{StopsList}
use Rattle.map_script.proofs.StoreLemmas.{starved}

pub written-as : (r : Result (Unit {0}) Stop) (before written : Option (List ℕ)) (text wanted : List ℕ) → text ≡ wanted → OnOk r (Appends before written text) → OnOk r (Appends before written wanted)
written-as r before written text wanted e h = subst (λ (t : List ℕ). OnOk r (Appends before written t)) e h

pub stops-list : (r : Result (Unit {0}) Stop) (before written : Option (List ℕ)) (text : List ℕ) (pairs : Pairs) (a b : ℕ) → text ≡ list_line pairs → IfErr r (λ s. (s ≡ stop.Write) × AppendsFront before written text × Rose a b) → IfErr r (λ s. StopsList s pairs before written)
stops-list (Ok u) before written text pairs a b e h = tt
stops-list (Err s) before written text pairs a b e h =
    subst (λ (t : Stop). StopsList t pairs before written) (sym h.0) (subst (λ (t : List ℕ). AppendsFront before written t) e h.1)

list-stops : (told : Type 0) (s : Stop) (old new : StoreView) (leaves : Leaving) (before written : Option (List ℕ)) (pairs : Pairs) → pairs ≡ old.map.pairs → new.map ≡ old.map → GoesOn new leaves → StopsList s pairs before written → StopsAnswer told s line.List old new leaves before written
list-stops told (stop.Line k) old new leaves before written pairs e same g h = absurd h
list-stops told stop.Read old new leaves before written pairs e same g h = absurd h
list-stops told stop.Write old new leaves before written pairs e same g h = (list_line pairs, (same, ap list_line e), g, h)
list-stops told (stop.Failed failure.Disk) old new leaves before written pairs e same g h = absurd h
list-stops told (stop.Failed failure.HistoryFull) old new leaves before written pairs e same g h = absurd h
list-stops told (stop.Failed failure.LogFull) old new leaves before written pairs e same g h = absurd h
list-stops told (stop.Failed failure.Memory) old new leaves before written pairs e same g h = (starved old new leaves (λ n. n ≡ old.map) same g, h)
list-stops told (stop.Unopened cause) old new leaves before written pairs e same g h = absurd h

pub list-stopped : (told : Type 0) (r : Result (Unit {0}) Stop) (old new : StoreView) (leaves : Leaving) (before written : Option (List ℕ)) (pairs : Pairs) → pairs ≡ old.map.pairs → new.map ≡ old.map → GoesOn new leaves → IfErr r (λ s. StopsList s pairs before written) → IfErr r (λ s. StopsAnswer told s line.List old new leaves before written)
list-stopped told (Ok u) old new leaves before written pairs e same g h = tt
list-stopped told (Err s) old new leaves before written pairs e same g h = list-stops told s old new leaves before written pairs e same g h
