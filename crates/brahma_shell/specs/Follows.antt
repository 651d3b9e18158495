-- Which events follow the lines of a script, and how far a run has followed them.
use Rattle.std.specs.Prelude.{◌≡◌, ◌≢◌, ℕ, ◌+◌, ◌≤◌, nat_lt, List, [], ◌∷◌, ◌++◌, length, replicate, count_by, Option, Some, None, IfSome, MatchBool, ⊤, ◌⊎◌}
use Rattle.std.specs.List.{AllByRecursion}
use Rattle.std.specs.Option.{option_map_or}
use Rattle.plain_model.specs.declared.calls.Call.{Call as TransactionCall}
use Rattle.plain_model.specs.declared.calls.Call.TheVariants as call
use Rattle.plain_model.specs.declared.calls.Reply.{Reply}
use Rattle.plain_model.specs.declared.calls.Reply.TheVariants.{DiskFault}
use Rattle.plain_model.specs.declared.calls.Entry.{Entry}
use Rattle.plain_model.specs.declared.calls.Entry.TheVariants as entry
use Rattle.plain_model.specs.History.{Moment, left_to_undo, least_active}
use Rattle.core_store.specs.declared.act.Act.TheVariants.{Other}
use Rattle.core_store.specs.declared.note.Note.{Note}
use Rattle.core_store.specs.Collecting.{is_pop}
use Rattle.cell_model.specs.Cells.{Cell}
use Rattle.script_lines.specs.declared.grammar.Line.{Line}
use Rattle.script_lines.specs.declared.grammar.Line.TheVariants.{Nothing, Ask, Abort, Undo, CollectStep, CollectAll, Clean, Turn, Crash}
use Rattle.script_lines.specs.Lines.{lines_of, whole_lines_of}
use Rattle.script_lines.specs.Grammar.{meaning_of, IsAccepted, IsRefused}
use Rattle.brahma_shell.specs.Points.{Point, after_notes, entries_in, MayRest, IsExactAt}
use Rattle.brahma_shell.specs.Growth.{IsOfUpkeep}
use Rattle.brahma_shell.specs.Runs.{Event, Reopened, noted, after_events, ids_at, Stretch, end_point}

-- ---- the entries of a line

-- one entry, of this call; what is replied is for the history to say, but it is no fault of the disk
abbrev pub IsCall : ℕ → TransactionCall → List Entry → Type 0
IsCall client c es = (reply : Reply) × (es ≡ entry.Call client c reply ∷ []) × (reply ≢ DiskFault)

-- an entry of the collector: something that no line tells, or a deletion
abbrev pub IsOfCollector : Entry → Type 0
IsOfCollector entry.Hidden = Unit {0}
IsOfCollector (entry.Delete id) = Unit {0}
IsOfCollector _ = ⊥

-- a note of the collector: it is of one of its events
pub record IsNoteOfCollector (n : Note) : Type 0 where
  pub entry : IsOfCollector n.entry
  pub act : n.act ≢ Other

-- notes of the collector
abbrev pub AreOfCollector : List Note → Type 0
AreOfCollector notes = AllByRecursion IsNoteOfCollector notes

-- one step of the collector: one note, or none where it may rest
abbrev pub GivesStep : Point → List Note → Type 0
GivesStep p notes = ((n : Note) × (notes ≡ n ∷ []) × IsNoteOfCollector n) ⊎ ((notes ≡ []) × MayRest p)

-- steps of the collector until it may rest, or until no round is open and it has taken as many objects out of its queue as the
-- store has ids
pub record GivesSteps (p : Point) (notes : List Note) : Type 0 where
  pub each : AreOfCollector notes
  pub ends : MayRest (after_notes p notes) ⊎ (((after_notes p notes).left ≡ 0) × (p.moment.state.ids ≤ count_by (λ n. is_pop n.act) notes))
  -- where no transaction is active it may rest then, with an empty queue and no open round, and just the reachable objects are
  -- stored
  pub rests : p.moment.state.active ≡ [] → MayRest (after_notes p notes)
  pub exact : p.moment.state.active ≡ [] → IsExactAt (after_notes p notes)

-- what a checkpoint enters at this moment: what no line tells, or, where some client has a transaction, that it was refused,
-- since the least of these clients has one
abbrev pub turn_entry : Moment → Entry
turn_entry m = option_map_or entry.TurnBusy (least_active m.state) entry.Hidden

-- one note, of upkeep with this entry
abbrev pub GivesUpkeep : Entry → List Note → Type 0
GivesUpkeep e notes = (n : Note) × (notes ≡ n ∷ []) × IsOfUpkeep e n

-- the notes that a line gives at a point. An abort undoes each write that isn't undone yet, and ends the transaction;
-- `undo` does one of these steps. Where the client has no transaction nothing is left to undo, and the abort alone is asked
abbrev pub Gives : Point → Line → List Note → Type 0
Gives p Nothing notes = notes ≡ []
Gives p (Ask client c) notes = IsCall client c (entries_in notes)
Gives p (Abort client) notes = (reply : Reply) × (entries_in notes ≡ replicate (left_to_undo p.moment client) (entry.Undo client) ++ entry.Call client call.Abort reply ∷ []) × (reply ≢ DiskFault)
Gives p (Undo client) notes = MatchBool (nat_lt 0 (left_to_undo p.moment client)) (entries_in notes ≡ entry.Undo client ∷ []) (IsCall client call.Abort (entries_in notes))
Gives p CollectStep notes = GivesStep p notes
Gives p CollectAll notes = GivesSteps p notes
Gives p (Clean page) notes = GivesUpkeep entry.Hidden notes
Gives p Turn notes = GivesUpkeep (turn_entry p.moment) notes
Gives p (Crash pick) notes = ⊥

-- the events that a line gives at a point: those of its notes; where power is lost, that the store is opened again
abbrev pub GivesEvents : Point → Line → List Event → Type 0
GivesEvents p (Crash pick) events = (ids : ℕ) × (cells : List Cell) × (events ≡ Reopened ids cells ∷ [])
GivesEvents p line events = (notes : List Note) × (events ≡ noted notes) × Gives p line notes

-- the line of this number is accepted at this point, and gives the events there
abbrev pub LineGives : Point → ℕ → List ℕ → List Event → Type 0
LineGives p number bytes events = IsAccepted (ids_at p) number bytes × IfSome (meaning_of bytes) (λ line. GivesEvents p line events)

-- the events are those of the lines, one line after another, from this point on. The first line has this number
abbrev pub Follows : Point → ℕ → List (List ℕ) → List Event → Type 0
Follows p number [] events = events ≡ []
Follows p number (line ∷ lines) events = («first» rest : List Event) × (events ≡ «first» ++ rest) × LineGives p number line «first» × Follows (after_events p «first») (number + 1) lines rest

-- ---- stretches of a run, and the lines that are the next ones of the script there

-- the stretch has the events of these lines
abbrev pub FollowsLines : List (List ℕ) → Stretch → Type 0
FollowsLines lines s = Follows s.start s.number lines s.events

-- the line of this number is the first that is refused, by the store as it is there, and the stretch follows those before it
pub record StopsAt (lines : List (List ℕ)) (number : ℕ) (s : Stretch) : Type 0 where
  pub before : List (List ℕ)
  pub line : List ℕ
  pub behind : List (List ℕ)
  pub parts : lines ≡ before ++ line ∷ behind
  pub place : number ≡ s.number + length before
  pub refused : IsRefused (ids_at (end_point s)) number line
  pub follows : FollowsLines before s

-- events of a line that is cut off, in a store with so many ids: only `gc all` gives some before it is done
abbrev pub IsCutOff : (ids number : ℕ) → List ℕ → List Note → Type 0
IsCutOff ids number line part = (part ≡ []) ⊎ (IsAccepted ids number line × (meaning_of line ≡ Some CollectAll) × AreOfCollector part)

-- events of the first of the lines, which is cut off; they are none where there is no line
abbrev pub IsPartOfFirst : (ids number : ℕ) → List (List ℕ) → List Note → Type 0
IsPartOfFirst ids number [] part = part ≡ []
IsPartOfFirst ids number (line ∷ lines) part = IsCutOff ids number line part

-- the stretch follows some first lines, and a part of the next one where there is one
pub record StopsWithin (lines : List (List ℕ)) (s : Stretch) : Type 0 where
  pub before : List (List ℕ)
  pub behind : List (List ℕ)
  pub parts : lines ≡ before ++ behind
  pub done : List Event
  pub part : List Note
  pub events : s.events ≡ done ++ noted part
  pub follows : Follows s.start s.number before done
  pub next : IsPartOfFirst (ids_at (after_events s.start done)) (s.number + length before) behind part

-- some line asks this, and the stretch follows those before it
pub record StopsBefore (lines : List (List ℕ)) (asked : Line) (s : Stretch) : Type 0 where
  pub before : List (List ℕ)
  pub line : List ℕ
  pub behind : List (List ℕ)
  pub parts : lines ≡ before ++ line ∷ behind
  pub accepted : IsAccepted (ids_at (end_point s)) (s.number + length before) line
  pub asks : meaning_of line ≡ Some asked
  pub follows : FollowsLines before s

-- ---- a source that tells what it has left, before the stretch and after it; of one that doesn't nothing is said

-- the stretch follows all lines, and the source was read to its end
abbrev pub FollowsAll : Option (List ℕ) → Option (List ℕ) → Stretch → Type 0
FollowsAll None left s = ⊤
FollowsAll (Some bytes) None s = ⊥
FollowsAll (Some bytes) (Some left) s = FollowsLines (lines_of bytes) s × (left ≡ [])

-- the stretch follows the lines before this one, which is the first that is refused
abbrev pub FollowsUpTo : Option (List ℕ) → ℕ → Stretch → Type 0
FollowsUpTo None number s = ⊤
FollowsUpTo (Some bytes) number s = StopsAt (lines_of bytes) number s

-- the stretch follows exactly the whole lines that were read
abbrev pub FollowsRead : Option (List ℕ) → Option (List ℕ) → Stretch → Type 0
FollowsRead None left s = ⊤
FollowsRead (Some bytes) None s = ⊥
FollowsRead (Some bytes) (Some left) s = (read : List ℕ) × (bytes ≡ read ++ left) × FollowsLines (whole_lines_of read) s

-- the stretch follows some first lines, and a part of the next one where there is one
abbrev pub FollowsPart : Option (List ℕ) → Stretch → Type 0
FollowsPart None s = ⊤
FollowsPart (Some bytes) s = StopsWithin (lines_of bytes) s

-- the stretch follows the lines before one that asks this
abbrev pub FollowsTo : Option (List ℕ) → Line → Stretch → Type 0
FollowsTo None asked s = ⊤
FollowsTo (Some bytes) asked s = StopsBefore (lines_of bytes) asked s

-- the stretch follows the lines before one that asks a commit of this client, which the disk failed
abbrev pub FollowsToCommit : Option (List ℕ) → ℕ → Stretch → Type 0
FollowsToCommit source client s = FollowsTo source (Ask client call.Commit) s

-- the line asks upkeep, of a page or of the log
abbrev pub AsksUpkeep : Line → Type 0
AsksUpkeep (Clean page) = Unit {0}
AsksUpkeep Turn = Unit {0}
AsksUpkeep _ = ⊥

-- the stretch follows the lines before one that asks upkeep, which the disk failed
abbrev pub FollowsToUpkeep : Option (List ℕ) → Stretch → Type 0
FollowsToUpkeep source s = (asked : Line) × AsksUpkeep asked × FollowsTo source asked s

-- the stretch follows the lines before one at which power was lost, and after which the store isn't opened
abbrev pub FollowsToCrash : Option (List ℕ) → Stretch → Type 0
FollowsToCrash source s = (pick : ℕ) × FollowsTo source (Crash pick) s
