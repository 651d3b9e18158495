-- How the command `check` ends.
use Rattle.std.specs.Prelude.{◌≡◌, ◌⊎◌, ℕ, List, [], codes}
use Rattle.std.specs.Io.KnownBytes.{Consumes, Appends}
use Rattle.disk_model.specs.Causes.{Rose}
use Rattle.store_opening.specs.declared.open_refusal.OpenRefusal.TheVariants as refusal
use Rattle.standby.specs.Damage.{IsDamagedAt}
use Rattle.standby.specs.Promoted.{IsUnsoundAt, LacksBase}
use Rattle.standby_feeding.specs.Line.{stream_line}
use Rattle.standby_feeding.specs.StoodBy.{HasStream}
use Rattle.standby_feeding.specs.Streams.{IsReadThrough}
use Rattle.script_lines.specs.Numbers.{object_slots}
use Rattle.script_lines.specs.Output.{AppendsFront, open_refusal_line}
use Rattle.log_checker.specs.declared.verdict.Verdict.{Verdict}
use Rattle.log_checker.specs.Verdicts.{IsVerdict}
use Rattle.log_checking.specs.declared.refusal.VerdictRefusal.{VerdictRefusal}
use Rattle.log_checking.specs.declared.refusal.VerdictRefusal.TheVariants as check
use Rattle.log_checking.specs.Line.{verdict_line}
use Rattle.brahma_shell.specs.Top.{Outside, Ends}

-- the verdict on the stream that the source gave was written, or there is none, with this status
pub record Checked (before after : Outside) (status : ℕ) : Type 0 where
  pub statuses : (status ≡ 0) ⊎ ((status ≡ 3) ⊎ ((status ≡ 4) ⊎ ((status ≡ 5) ⊎ ((status ≡ 7) ⊎ (status ≡ 8)))))
  -- these bytes were read
  pub bytes : List ℕ
  pub consumed : Consumes before.left after.left bytes
  -- they are the stream up to its closed commit byte, or all, and the line of the verdict on them was written
  pub done : status ≡ 0 → (v : Verdict) × IsReadThrough object_slots after.left bytes × IsVerdict object_slots bytes v × Appends before.written after.written (verdict_line v)
  pub write : status ≡ 5 → Rose before.write_faults after.write_faults
      × ((v : Verdict) × IsReadThrough object_slots after.left bytes × IsVerdict object_slots bytes v × AppendsFront before.written after.written (verdict_line v))
  -- they show a fault at this offset, or they are all and end there inside of the pages
  pub refused : status ≡ 3 → (at : ℕ) × Ends before after [] (stream_line at) × (IsDamagedAt object_slots bytes at ⊎ (IsReadThrough object_slots after.left bytes × LacksBase object_slots bytes at))
  pub read : status ≡ 4 → Rose before.read_faults after.read_faults × Ends before after [] (codes "refused: read\n")
  pub unsound : status ≡ 7 → (id : ℕ) × (rule : ℕ) × Ends before after [] (open_refusal_line (refusal.Unsound id rule)) × IsReadThrough object_slots after.left bytes × IsUnsoundAt object_slots bytes id rule
  pub memory : status ≡ 8 → Ends before after [] (codes "refused: memory\n")
  -- where the source tells a stream whose store can be made, that isn't refused
  pub taken : HasStream object_slots before.left → (status ≡ 3) ⊎ (status ≡ 7) → ⊥

-- ---- what is told of a refusal

-- the status where there is no verdict on a stream
abbrev pub status_of_check : VerdictRefusal → ℕ
status_of_check check.Read = 4
status_of_check (check.Damaged at) = 3
status_of_check (check.NoBase len) = 3
status_of_check (check.Unsound id rule) = 7
status_of_check check.Memory = 8

-- the last line then
abbrev pub check_refusal_line : VerdictRefusal → List ℕ
check_refusal_line check.Read = codes "refused: read\n"
check_refusal_line (check.Damaged at) = stream_line at
check_refusal_line (check.NoBase len) = stream_line len
check_refusal_line (check.Unsound id rule) = open_refusal_line (refusal.Unsound id rule)
check_refusal_line check.Memory = open_refusal_line refusal.Memory
