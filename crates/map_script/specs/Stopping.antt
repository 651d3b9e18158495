-- What is done when a script goes on, and when it stops.
use Rattle.std.specs.Prelude.{◌≡◌, ◌⊎◌, ◌↔◌, ℕ, true, List, [], length, Option, codes}
use Rattle.std.specs.Io.KnownBytes.{Appends, Keeps}
use Rattle.disk_model.specs.Causes.{Rose}
use Rattle.script_lines.specs.Output.{AppendsFront, refused_line}
use Rattle.map_calls.specs.declared.grammar.Line.{Line}
use Rattle.map_calls.specs.declared.grammar.Line.TheVariants.{Crash}
use Rattle.map_calls.specs.Grammar.{IsRefused}
use Rattle.map_calls.specs.Output.{keys_line}
use Rattle.map_calls.specs.declared.failure.Failure.TheVariants as failure
use Rattle.map_calls.specs.declared.failure.Unopened.TheVariants.{Unread}
use Rattle.map_script.specs.declared.stop.Stop.{Stop}
use Rattle.map_script.specs.declared.stop.Stop.TheVariants as stop
use Rattle.map_calls.specs.Maps.{MapState}
use Rattle.map_script.specs.Machine.{Does, LeadsTo}
use Rattle.map_script.specs.Following.{Asks, LineDoes, Follows, AreTaken, AreAll, AreRead, AreFirst, StopsAt, ComesTo}
use Rattle.map_calls.specs.Views.{StoreView, Leaving, LeavesOne, LeavesEither, GoesOn, Fails, StaysShut, status_of_failure, failure_line, status_of_unopened, unopened_line}

-- ---- one line

-- what a line asks was done, and its text was written
abbrev pub Answers : Type 0 → Line → StoreView → StoreView → Leaving → Option (List ℕ) → Option (List ℕ) → Type 0
Answers told line old new leaves before written = (text : List ℕ) × Does told line old.map new.map text × GoesOn new leaves × Appends before written text

-- what a line asks stops the script: the sink failed after what was done, the call failed, or the store isn't opened again
abbrev pub StopsAnswer : Type 0 → Stop → Line → StoreView → StoreView → Leaving → Option (List ℕ) → Option (List ℕ) → Type 0
StopsAnswer told stop.Write line old new leaves before written = (text : List ℕ) × Does told line old.map new.map text × GoesOn new leaves × AppendsFront before written text
StopsAnswer told (stop.Failed cause) line old new leaves before written = Fails cause old new leaves (LeadsTo line old.map) × Keeps before written
StopsAnswer told (stop.Unopened cause) line old new leaves before written = ((pick : ℕ) × (line ≡ Crash pick)) × StaysShut told cause old new leaves × Keeps before written
StopsAnswer told _ line old new leaves before written = ⊥

-- the line of this number was done, and its text was written
abbrev pub DoesLine : Type 0 → ℕ → List ℕ → StoreView → StoreView → Leaving → Option (List ℕ) → Option (List ℕ) → Type 0
DoesLine told number bytes old new leaves before written = (text : List ℕ) × LineDoes told number bytes old.map new.map text × GoesOn new leaves × Appends before written text

-- the line of this number stops the script: it is refused, and nothing was done; or what it asks stops it
abbrev pub StopsLine : Type 0 → Stop → ℕ → List ℕ → StoreView → StoreView → Leaving → Option (List ℕ) → Option (List ℕ) → Type 0
StopsLine told (stop.Line k) number bytes old new leaves before written = (k ≡ number) × IsRefused number bytes × (new ≡ old) × GoesOn new leaves × Keeps before written
StopsLine told s number bytes old new leaves before written = (asked : Line) × Asks number bytes asked × StopsAnswer told s asked old new leaves before written

-- ---- a script

-- the lines were done, of which the source has taken these, and their text was written; the store goes on with the map after them
pub record StandsAfter (told : Type 0) (source left : Option (List ℕ)) (first now : StoreView) (leaves : Leaving) (before written : Option (List ℕ)) (done : List (List ℕ)) : Type 0 where
  pub text : List ℕ
  pub follows : Follows told 1 done first.map now.map text
  pub taken : AreTaken source left done
  pub goes : GoesOn now leaves
  pub printed : Appends before written text

-- all lines were done
pub record CameToEnd (told : Type 0) (source left : Option (List ℕ)) (first now : StoreView) (leaves : Leaving) (before written : Option (List ℕ)) : Type 0 where
  pub done : List (List ℕ)
  pub text : List ℕ
  pub follows : Follows told 1 done first.map now.map text
  pub all : AreAll source left done
  pub goes : GoesOn now leaves
  pub printed : Appends before written text

-- what was written where a script stops after this text: all of it, or a front where the sink failed
abbrev pub HasWritten : Stop → Option (List ℕ) → Option (List ℕ) → List ℕ → Type 0
HasWritten stop.Write before written text = AppendsFront before written text
HasWritten _ before written text = Appends before written text

-- where a script stops, after the lines that were done: at the first line that is refused; after the whole lines that were read;
-- after some line; or at a loss of power
abbrev pub StopsThere : Stop → Option (List ℕ) → Option (List ℕ) → List (List ℕ) → Type 0
StopsThere (stop.Line number) source left done = StopsAt source done number
StopsThere stop.Read source left done = AreRead source left done
StopsThere stop.Write source left done = AreFirst source done
StopsThere (stop.Failed cause) source left done = AreFirst source done
StopsThere (stop.Unopened cause) source left done = (pick : ℕ) × ComesTo source done (Crash pick)

-- What a power loss leaves then: the map after these lines. Where the disk failed a commit it may leave that after the next line too; and
-- where the store isn't opened again, this is said of a disk of which it is told what it reads.
abbrev pub LeavesAfter : Type 0 → Stop → Option (List ℕ) → List (List ℕ) → MapState → Leaving → Type 0
LeavesAfter told (stop.Failed failure.Disk) source done reached leaves =
    LeavesOne leaves reached
    ⊎ ((asked : Line) × ComesTo source done asked × LeavesEither leaves reached (LeadsTo asked reached))
LeavesAfter told (stop.Unopened cause) source done reached leaves = told → LeavesOne leaves reached
LeavesAfter told _ source done reached leaves = LeavesOne leaves reached

-- what shows that the disk is the cause: it failed a call; and where it is told what it reads, it isn't refused as damaged
abbrev pub HasCause : Type 0 → Stop → StoreView → StoreView → Type 0
HasCause told (stop.Failed failure.Disk) old new = Rose old.faults new.faults
HasCause told (stop.Unopened cause) old new = (status_of_unopened cause ≡ 6 → Rose old.faults new.faults) × (told → status_of_unopened cause ≡ 7 → ⊥)
HasCause told _ old new = Unit {0}

-- the script stops since the history is full
abbrev pub IsOfHistory : Stop → Type 0
IsOfHistory (stop.Failed failure.HistoryFull) = Unit {0}
IsOfHistory (stop.Unopened (Unread failure.HistoryFull)) = Unit {0}
IsOfHistory _ = ⊥

-- the script stops since the log is full, for another cause than that the store isn't opened again
abbrev pub IsOfLog : Stop → Type 0
IsOfLog (stop.Failed failure.LogFull) = Unit {0}
IsOfLog (stop.Unopened (Unread failure.LogFull)) = Unit {0}
IsOfLog _ = ⊥

-- the store is marked as full exactly where the script stops for that
pub record IsMarkedFor (s : Stop) (now : StoreView) : Type 0 where
  pub history : IsOfHistory s ↔ (now.history_full ≡ true)
  pub log : IsOfLog s ↔ (now.log_full ≡ true)

-- the script stops since a line is refused, or since the source or the sink failed
abbrev pub IsOfStreams : Stop → Type 0
IsOfStreams (stop.Line number) = Unit {0}
IsOfStreams stop.Read = Unit {0}
IsOfStreams stop.Write = Unit {0}
IsOfStreams _ = ⊥

-- some first lines were done, and the script stops after them; the store goes on with the map after them where it isn't the cause
pub record StopsScript (told : Type 0) (s : Stop) (source left : Option (List ℕ)) (first now : StoreView) (leaves : Leaving) (before written : Option (List ℕ)) : Type 0 where
  pub done : List (List ℕ)
  pub text : List ℕ
  pub reached : MapState
  pub follows : Follows told 1 done first.map reached text
  pub there : StopsThere s source left done
  pub printed : HasWritten s before written text
  pub kept : LeavesAfter told s source done reached leaves
  pub cause : HasCause told s first now
  pub marks : IsMarkedFor s now
  pub goes : IsOfStreams s → GoesOn now leaves × (now.map ≡ reached)

-- the end stops the script: the sink failed the last line, or a call failed
abbrev pub StopsEnd : Stop → StoreView → StoreView → Leaving → Option (List ℕ) → Option (List ℕ) → Type 0
StopsEnd stop.Write old new leaves before written = (new.map ≡ old.map) × (new.room ≡ new.map.free) × GoesOn new leaves × AppendsFront before written (keys_line (length old.map.pairs))
StopsEnd (stop.Failed cause) old new leaves before written = Fails cause old new leaves (λ n. n ≡ old.map) × Keeps before written
StopsEnd _ old new leaves before written = ⊥

-- the status of a script that stops so
abbrev pub status_of : Stop → ℕ
status_of (stop.Line number) = 3
status_of stop.Read = 4
status_of stop.Write = 5
status_of (stop.Failed cause) = status_of_failure cause
status_of (stop.Unopened cause) = status_of_unopened cause

-- the last line of a script that stops so; none where the sink failed
abbrev pub last_line : Stop → List ℕ
last_line (stop.Line number) = refused_line number
last_line stop.Read = codes "refused: read\n"
last_line stop.Write = []
last_line (stop.Failed cause) = failure_line cause
last_line (stop.Unopened cause) = unopened_line cause
