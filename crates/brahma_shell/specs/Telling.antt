-- What a run of clients tells after its end.
use Rattle.std.specs.Prelude.{◌≡◌, ◌⊎◌, ◌≤◌, ℕ, true, false, List, [], ◌++◌, Option, Some, None, IsSome, codes, ⊤}
use Rattle.std.specs.Option.{option_map_or, option_and_then}
use Rattle.std.specs.Io.KnownBytes.{Appends}
use Rattle.plain_model.specs.declared.calls.Call.TheVariants.{Commit}
use Rattle.plain_model.specs.declared.calls.Reply.TheVariants.{DiskFault}
use Rattle.plain_model.specs.declared.calls.Entry.{Entry}
use Rattle.plain_model.specs.declared.calls.Entry.TheVariants.{Call, Crash}
use Rattle.plain_model.specs.Text.{line_of, text_of, stored_line}
use Rattle.disk_model.specs.Causes.{Rose}
use Rattle.logged_journal.specs.declared.failed.FailedCall.{FailedCall}
use Rattle.logged_journal.specs.View.{LoggedView, history_of}
use Rattle.script_lines.specs.Output.{AppendsFront, EndsWith}

-- the entry is no opening of a store
abbrev pub IsNoCrash : Entry → Type 0
IsNoCrash (Crash cells) = ⊥
IsNoCrash _ = ⊤

-- the line of a commit that the disk failed, where it failed one
abbrev pub failed_text : Option FailedCall → List ℕ
failed_text failed = option_map_or (λ client. line_of (Call client Commit DiskFault)) (option_and_then (λ f. f.commit) failed) []

-- the lines of all entries of the journal's history
abbrev pub history_text : {D : Type 0} → LoggedView D → List ℕ
history_text v = text_of (history_of v).entries

-- and the line of these ids
abbrev pub ending_text : {D : Type 0} → LoggedView D → List ℕ → List ℕ
ending_text v ids = history_text v ++ stored_line ids

-- what the sink shows: what it was written, where it tells it, and how many of its calls failed
pub record Shown : Type 0 where
  pub written : Option (List ℕ)
  pub faults : ℕ

abbrev pub shown : Option (List ℕ) → ℕ → Shown
shown written faults = record { written = written; faults = faults }

-- the text was written and then the last line, or a front of the last line where the sink failed
abbrev pub EndsSo : Shown → Shown → List ℕ → List ℕ → Type 0
EndsSo before after text last = EndsWith before.written after.written before.faults after.faults text last

-- the journal tells no reason why a run stopped
pub record IsUnmarked {D : Type 0} (v : LoggedView D) : Type 0 where
  pub running : v.failed ≡ None
  pub history : v.journal.marks.trace ≡ false
  pub log : v.log_full ≡ false

-- where these ids were found to be stored their line was written, or a front of it; or memory was out
pub record TellsStored (stored : Option (List ℕ)) (before after : Shown) (status : ℕ) : Type 0 where
  pub statuses : (status ≡ 0) ⊎ ((status ≡ 5) ⊎ (status ≡ 8))
  pub done : status ≡ 0 → (ids : List ℕ) × (stored ≡ Some ids) × Appends before.written after.written (stored_line ids)
  pub write : status ≡ 5 → Rose before.faults after.faults × (ids : List ℕ) × (stored ≡ Some ids) × AppendsFront before.written after.written (stored_line ids)
  pub memory : status ≡ 8 → EndsSo before after [] (codes "refused: memory\n")
  pub later : before.faults ≤ after.faults

-- A run of clients that left this journal, after which these ids were found to be stored, was told with this status. What the
-- journal tells comes before the ids.
pub record Tells {D : Type 0} (v : LoggedView D) (stored : Option (List ℕ)) (before after : Shown) (status : ℕ) : Type 0 where
  pub statuses : (status ≡ 0) ⊎ ((status ≡ 5) ⊎ ((status ≡ 6) ⊎ ((status ≡ 8) ⊎ (status ≡ 9))))
  pub done : status ≡ 0 → IsUnmarked v × (ids : List ℕ) × (stored ≡ Some ids) × Appends before.written after.written (ending_text v ids)
  pub write : status ≡ 5 → Rose before.faults after.faults × (AppendsFront before.written after.written (history_text v)
      ⊎ (IsUnmarked v × (ids : List ℕ) × (stored ≡ Some ids) × AppendsFront before.written after.written (ending_text v ids)))
  pub failed_disk : status ≡ 6 → IsSome v.failed × EndsSo before after (history_text v) (codes "refused: disk\n")
  pub memory : status ≡ 8 → IsUnmarked v × EndsSo before after (history_text v) (codes "refused: memory\n")
  pub limit : status ≡ 9 → (v.failed ≡ None) × (((v.journal.marks.trace ≡ true) × EndsSo before after (history_text v) (codes "refused: trace\n"))
      ⊎ ((v.log_full ≡ true) × EndsSo before after (history_text v) (codes "refused: log\n")))
  pub later : before.faults ≤ after.faults
