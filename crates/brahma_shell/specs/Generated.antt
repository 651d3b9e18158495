-- Generated calls: what a history has of them.
use Rattle.std.specs.Prelude.{◌≡◌, ◌⊎◌, ℕ, if◌then◌else◌, true, List, [], ◌∷◌, ◌++◌, length, flat_map}
use Rattle.plain_model.specs.declared.calls.Call.{Call}
use Rattle.plain_model.specs.declared.calls.Call.TheVariants.{Commit, Abort}
use Rattle.plain_model.specs.History.{History, end_of}
use Rattle.core_store.specs.declared.note.Note.{Note}
use Rattle.core_store.specs.JournalView.{JournalView}
use Rattle.logged_journal.specs.View.{LoggedView}
use Rattle.call_generator.specs.declared.turns.Turn.{Turn}
use Rattle.call_generator.specs.Generator.{Generating, Generates}
use Rattle.script_lines.specs.declared.grammar.Line.{Line}
use Rattle.script_lines.specs.declared.grammar.Line.TheVariants as line
use Rattle.script_lines.specs.Output.{generated_line}
use Rattle.brahma_shell.specs.declared.replay.Stop.{Stop}
use Rattle.brahma_shell.specs.declared.replay.Stop.TheVariants as stop
use Rattle.brahma_shell.specs.declared.tally.Tally.{Tally}
use Rattle.brahma_shell.specs.Follows.{Gives, AreOfCollector}
use Rattle.brahma_shell.specs.Growth.{Grows}
use Rattle.brahma_shell.specs.Log.{StaysRunning, TellsFull, LosesCommit}
use Rattle.brahma_shell.specs.Points.{Point, after_notes, point_of}
use Rattle.brahma_shell.specs.Tally.{tally_of}

-- ---- the lines

-- the line that asks a call of a client
abbrev pub line_of : ℕ → Call → Line
line_of client Abort = line.Abort client
line_of client call = line.Ask client call

-- the lines of a turn
abbrev pub lines_in : Turn → List Line
lines_in t = line_of t.client t.call ∷ (if t.collects then line.CollectStep ∷ [] else [])

-- the lines of all turns, and `gc all` after them
abbrev pub generated_lines : List Turn → List Line
generated_lines turns = flat_map lines_in turns ++ line.CollectAll ∷ []

-- ---- the notes of lines

-- the notes are those of the lines, one line after another, from this point on
abbrev pub GivesLines : Point → List Line → List Note → Type 0
GivesLines p [] notes = notes ≡ []
GivesLines p (l ∷ lines) notes = («first» rest : List Note) × (notes ≡ «first» ++ rest) × Gives p l «first» × GivesLines (after_notes p «first») lines rest

-- notes of the first of the lines, which is cut off: only `gc all` gives some before it is done. They are none where there is no
-- line
abbrev pub IsPartOf : List Line → List Note → Type 0
IsPartOf [] part = part ≡ []
IsPartOf (l ∷ lines) part = (part ≡ []) ⊎ ((l ≡ line.CollectAll) × AreOfCollector part)

-- the notes are those of some first lines, and a part of those of the next one where there is one
pub record GivesPart (p : Point) (lines : List Line) (notes : List Note) : Type 0 where
  pub before : List Line
  pub behind : List Line
  pub parts : lines ≡ before ++ behind
  pub done : List Note
  pub part : List Note
  pub all : notes ≡ done ++ part
  pub gives : GivesLines p before done
  pub next : IsPartOf behind part

-- one of the lines is this one, and the notes are those of the lines before it
pub record GivesUpTo (p : Point) (lines : List Line) (asked : Line) (notes : List Note) : Type 0 where
  pub before : List Line
  pub behind : List Line
  pub parts : lines ≡ before ++ asked ∷ behind
  pub gives : GivesLines p before notes

-- ---- how a journal grows by lines

pub record DoesLines (old new : JournalView) (lines : List Line) : Type 0 where
  pub notes : List Note
  pub grows : Grows old new notes
  pub unmarked : new.marks ≡ old.marks
  pub gives : GivesLines (point_of old) lines notes

pub record CutsLines (old new : JournalView) (lines : List Line) : Type 0 where
  pub notes : List Note
  pub grows : Grows old new notes
  pub gives : GivesPart (point_of old) lines notes

-- the disk failed a commit that one of the lines asks
pub record LosesLines {D : Type 0} (faults : D → ℕ) (old new : LoggedView D) (lines : List Line) : Type 0 where
  pub client : ℕ
  pub notes : List Note
  pub grows : Grows old.journal new.journal notes
  pub unmarked : new.journal.marks ≡ old.journal.marks
  pub gives : GivesUpTo (point_of old.journal) lines (line.Ask client Commit) notes
  pub lost : LosesCommit faults client old new

-- how lines stop: memory is out, the history or the log is full, or the disk failed a commit
abbrev pub StopsLines : {D : Type 0} → (D → ℕ) → Stop → LoggedView D → LoggedView D → List Line → Type 0
StopsLines faults stop.Memory old new lines = CutsLines old.journal new.journal lines × (new.journal.marks ≡ old.journal.marks) × StaysRunning faults old new
StopsLines faults stop.Full old new lines = CutsLines old.journal new.journal lines × (new.journal.marks.trace ≡ true) × StaysRunning faults old new
StopsLines faults stop.LogFull old new lines = CutsLines old.journal new.journal lines × (new.journal.marks ≡ old.journal.marks) × TellsFull faults old new
StopsLines faults stop.Fault old new lines = LosesLines faults old new lines
StopsLines faults _ old new lines = ⊥

-- the journal grows by the lines of all turns that the generator gives, or by a part of them
abbrev pub DoesAll : Generating → JournalView → JournalView → Type 0
DoesAll g old new = (turns : List Turn) → Generates g turns → DoesLines old new (generated_lines turns)

abbrev pub StopsAll : {D : Type 0} → (D → ℕ) → Generating → Stop → LoggedView D → LoggedView D → Type 0
StopsAll faults g s old new = (turns : List Turn) → Generates g turns → StopsLines faults s old new (generated_lines turns)

-- ---- what is printed

-- the line that tells what these entries come to, and how many objects are stored
abbrev pub tally_text : Tally → ℕ → List ℕ
tally_text t stored = generated_line t.commits t.aborts t.busy t.deleted stored

-- what `gen` prints of a history at its end
abbrev pub generated_text : History → List ℕ
generated_text h = tally_text (tally_of h.entries) (length (end_of h).state.stored)
