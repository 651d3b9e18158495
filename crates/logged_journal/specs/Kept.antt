-- What a journal with its log keeps.
use Rattle.std.specs.Prelude.{◌≡◌, ℕ, ◌+◌, ◌*◌, ◌<◌, ◌≤◌, true, List, length, drop, None, IfSome}
use Rattle.disk_model.specs.declared.area.Area.{Area}
use Rattle.disk_model.specs.declared.area.Area.TheVariants.{Pages}
use Rattle.disk_model.specs.Causes.{Rose}
use Rattle.disk_model.specs.Told.{EachImage, Leaves}
use Rattle.gate_log.specs.declared.stage.Stage.TheVariants.{Standing}
use Rattle.gate_log.specs.Batches.{most_bytes}
use Rattle.gate_log.specs.OnDisk.{IsOn}
use Rattle.plain_model.specs.declared.calls.Call.TheVariants.{Commit}
use Rattle.plain_model.specs.Machine.{refusal_of}
use Rattle.plain_model.specs.History.{end_of}
use Rattle.cell_page.specs.Format.{IsSlotCount, page_size}
use Rattle.log_record.specs.Spelling.{IsPass}
use Rattle.core_store.specs.JournalView.{JournalView}
use Rattle.core_store.specs.Owed.{bytes_owed}
use Rattle.core_store.specs.Safe.{IsDurable}
use Rattle.logged_journal.specs.View.{LoggedView, failed_commit, bytes_counted, image_bytes, image_need}
use Rattle.logged_journal.specs.Records.{AreTypedNotes, HoldsNotes, durable_notes, MayBeLeft}

-- The log stands on the disk: with whatever pages a power loss leaves, its batches hold the records of the durable notes after
-- what it began with, its tail those of the notes after them, both with images of pages among them, and the marks are those of
-- all these records. The pages area is as long as the pages are, and there is room for what the active transactions owe.
pub record IsStanding {D : Type 0} (may_leave : D → Area → List ℕ → Type 0) (v : LoggedView D) : Type 0 where
  pub stage : v.log.stage ≡ Standing
  pub batches : List (List ℕ)
  pub on : IsOn may_leave v.log v.disk batches
  pub pages : ℕ
  pub ids : v.journal.history.ids ≡ 8 * pages
  pub records : HoldsNotes may_leave v.journal.history.slots pages v.journal.opening (durable_notes v) (drop v.durable v.journal.notes) v.marks v.disk batches v.log.tail
  pub long : Leaves may_leave v.disk Pages (λ area. page_size v.journal.history.slots * pages ≤ length area)
  pub room : bytes_owed (end_of v.journal.history) ≤ v.log.room
  pub bounded : bytes_counted v ≤ most_bytes
  pub peak : bytes_counted v ≤ v.peak

-- this client's commit isn't refused at the journal's end
pub record CanCommit (j : JournalView) (pass : ℕ) : Type 0 where
  pub client : IsPass pass
  pub granted : refusal_of (end_of j.history).state pass Commit ≡ None

pub record IsKept {D : Type 0} (may_leave : D → Area → List ℕ → Type 0) (v : LoggedView D) : Type 0 where
  -- unless the disk failed a call
  pub standing : v.failed ≡ None → IsStanding may_leave v
  pub inside : v.durable ≤ length v.journal.notes
  -- each page has a mark
  pub many : v.journal.history.ids ≡ 8 * length v.marks
  -- a crash that keeps the records of the durable notes alone is safe
  pub lasting : IsDurable v.journal (durable_notes v)
  -- whatever a power loss leaves, also after a failure
  pub images : EachImage may_leave v.disk (MayBeLeft v)
  -- the disk failed no commit but one that was granted
  pub granted : IfSome (failed_commit v) (CanCommit v.journal)
  -- the numbers of each record are in the ranges of their types
  pub typed : AreTypedNotes v.journal.notes
  -- a call was answered that the log is full, which was nearly so
  pub full : v.log_full ≡ true → v.journal.limits.log < v.peak + image_need v.journal.history.slots

-- The disk's count of faults is not below that at the opening. Where the disk failed a call, the count rose by then, and it isn't
-- below that now. While it failed none, the count is that at the opening.
abbrev pub IsCounted : {D : Type 0} → (D → ℕ) → LoggedView D → Type 0
IsCounted faults v = (v.opened ≤ faults v.disk) × IfSome v.failed (λ f. Rose v.opened f.faults × (f.faults ≤ faults v.disk)) × (v.failed ≡ None → faults v.disk ≡ v.opened)

-- and the buffer into which an image, or what a log begins with, is spelled has room for an image, which is longer
pub record IsLoggedInside {D : Type 0} (may_leave : D → Area → List ℕ → Type 0) (faults : D → ℕ) (slots : ℕ) (v : LoggedView D) (capacity : ℕ) : Type 0 where
  pub size : IsSlotCount slots
  pub own : v.journal.history.slots ≡ slots
  pub spelling : image_bytes slots ≤ capacity
  pub counted : IsCounted faults v
  pub kept : IsKept may_leave v
