-- What contracts see of a journal with its log.
use Rattle.std.specs.Prelude.{◌≡◌, ℕ, ◌+◌, ◌<◌, Bool, List, Option, slice_index_or}
use Rattle.std.specs.Option.{option_map_or, option_and_then}
use Rattle.plain_model.specs.declared.calls.Call.TheVariants.{Commit}
use Rattle.plain_model.specs.declared.calls.Reply.TheVariants.{DiskFault}
use Rattle.plain_model.specs.declared.calls.Entry.TheVariants.{Call}
use Rattle.plain_model.specs.History.{History, with_entry, end_of}
use Rattle.cell_page.specs.Format.{page_size}
use Rattle.gate_log.specs.State.{LogState, used}
use Rattle.page_marks.specs.declared.marks.PageMark.{PageMark}
use Rattle.page_marks.specs.Marks.{unmarked}
use Rattle.core_store.specs.JournalView.{JournalView}
use Rattle.core_store.specs.Owed.{bytes_owed}
use Rattle.logged_journal.specs.declared.failed.FailedCall.{FailedCall}

-- a journal with its log and its disk, as contracts see it
pub record LoggedView (D : Type 0) : Type 0 where
  -- all that was done, but for a commit that the disk failed
  pub journal : JournalView
  pub log : LogState
  pub disk : D
  -- the records of so many first notes are there for good
  pub durable : ℕ
  -- what the log tells of each page, from page 0 on
  pub marks : List PageMark
  -- the call that the disk failed, if it failed one: a commit, or upkeep
  pub failed : Option FailedCall
  -- whether a call was answered that the log is full
  pub log_full : Bool
  -- the most bytes that were in use and owed at the opening or after a call
  pub peak : ℕ
  -- the disk's count of faults at the opening
  pub opened : ℕ

-- the client whose commit the disk failed, if it failed one
abbrev pub failed_commit : {D : Type 0} → LoggedView D → Option ℕ
failed_commit v = option_and_then (λ f. f.commit) v.failed

-- the history: where the disk failed a commit, that is its last entry; upkeep that it failed enters none
abbrev pub history_of : {D : Type 0} → LoggedView D → History
history_of v = option_map_or (λ client. with_entry v.journal.history (Call client Commit DiskFault)) (failed_commit v) v.journal.history

-- the mark of the page
abbrev pub mark_at : List PageMark → ℕ → PageMark
mark_at marks page = slice_index_or marks page unmarked

-- how many bytes of the log are in use, those counted that the active transactions owe
abbrev pub bytes_counted : {D : Type 0} → LoggedView D → ℕ
bytes_counted v = used v.log + bytes_owed (end_of v.journal.history)

-- so many bytes more would go past the log's limit
abbrev pub IsPast : {D : Type 0} → LoggedView D → ℕ → Type 0
IsPast v needed = v.journal.limits.log < bytes_counted v + needed

-- how many bytes the record of a page's image has
abbrev pub image_bytes : ℕ → ℕ
image_bytes slots = page_size slots + 3

-- how many bytes of the log a page needs to be cleaned: those of an image of it, and five more that a batch takes beside its
-- records
abbrev pub image_need : ℕ → ℕ
image_need slots = image_bytes slots + 5

-- nothing changed but how much room is taken: in the log for its bytes, and in the history for an entry of upkeep
abbrev pub OnlyTakesRoom : {D : Type 0} → LoggedView D → LoggedView D → Type 0
OnlyTakesRoom old new = new ≡ record old { journal = record old.journal { reserved = new.journal.reserved }; log = record old.log { room = new.log.room } }

-- the log has the bytes that it had, and at most other room for more
abbrev pub KeepsLog : {D : Type 0} → LoggedView D → LoggedView D → Type 0
KeepsLog old new = new.log ≡ record old.log { room = new.log.room }
