-- What a parallel audit of the program promises.
use Rattle.std.specs.Prelude.{◌≡◌, ◌⊎◌, ◌+◌, ◌*◌, ℕ, List, [], Option, length, codes}
use Rattle.std.specs.List.{range_with_len}
use Rattle.std.specs.Io.KnownBytes.{Appends}
use Rattle.disk_model.specs.declared.area.Area.{Area}
use Rattle.disk_model.specs.Causes.{Rose}
use Rattle.disk_model.specs.Told.{EachImage}
use Rattle.cell_model.specs.Cells.{Cell}
use Rattle.core_store.specs.Opening.{opened_history}
use Rattle.logged_journal.specs.View.{LoggedView}
use Rattle.logged_journal.specs.Opens.{OpensAfter}
use Rattle.auditor.specs.Recount.{live_in, zero_in}
use Rattle.par_audit.specs.Garbage.{IsGarbage}
use Rattle.script_lines.specs.Numbers.{object_slots}
use Rattle.script_lines.specs.Output.{AppendsFront, par_audit_line}
use Rattle.brahma_shell.specs.declared.ended.Ended.{Ended}
use Rattle.brahma_shell.specs.declared.ended.Ended.TheVariants.{Kept}
use Rattle.brahma_shell.specs.Ended.{disk_in}
use Rattle.journal_opening.specs.Openings.{ReadsAs}
use Rattle.brahma_shell.specs.Top.{IsJustOpened, Outside, Ends}

-- the line of a parallel audit of these cells, which are those of so many pages: what the plain audit tells, and the garbage
abbrev pub par_audit_text : List Cell → (pages garbage : ℕ) → List ℕ
par_audit_text cells pages garbage = par_audit_line pages (live_in cells) (zero_in cells (range_with_len 1 (8 * pages))) 0 garbage

-- a parallel audit of the store that the disk held ended with this status
pub record ParAudited {D : Type 0} (content : D → Area → Option (List ℕ)) (may_leave : D → Area → List ℕ → Type 0) (disk : D) (before after : Outside) (status : ℕ) (ended : Ended D) : Type 0 where
  pub pages : ℕ
  pub cells : List Cell
  pub opened : ReadsAs content object_slots disk cells
  pub size : length cells ≡ 8 * pages + 1
  -- the journal is handed back, in which nothing has happened
  pub journal : (v : LoggedView D) × (ended ≡ Kept v) × IsJustOpened v × (v.journal.opening ≡ cells)
  pub exit : EachImage may_leave (disk_in ended) (OpensAfter object_slots (opened_history object_slots (8 * pages) cells))
  pub statuses : (status ≡ 0) ⊎ ((status ≡ 5) ⊎ (status ≡ 8))
  pub done : status ≡ 0 → (garbage : ℕ) × IsGarbage cells (range_with_len 1 (8 * pages)) garbage × Appends before.written after.written (par_audit_text cells pages garbage)
  pub write : status ≡ 5 → (garbage : ℕ) × IsGarbage cells (range_with_len 1 (8 * pages)) garbage
      × Rose before.write_faults after.write_faults × AppendsFront before.written after.written (par_audit_text cells pages garbage)
  pub memory : status ≡ 8 → Ends before after [] (codes "refused: memory\n")
