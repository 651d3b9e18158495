-- The records of notes, as they stand in a log.
use Rattle.std.specs.Prelude.{◌≡◌, ◌⊎◌, ℕ, ◌*◌, [], ◌∷◌, ◌++◌, List, map, Option, Some, None, take, drop, length, IfSome}
use Rattle.std.specs.List.{last_or, flat_map, AllByRecursion}
use Rattle.std.specs.Option.{option_map_or}
use Rattle.plain_model.specs.declared.calls.Call.TheVariants.{Commit}
use Rattle.plain_model.specs.declared.calls.Reply.TheVariants.{DiskFault}
use Rattle.plain_model.specs.declared.calls.Entry.TheVariants.{Call}
use Rattle.cell_model.specs.Cells.{Cell}
use Rattle.cell_model.specs.Consistent.{AreConsistent}
use Rattle.disk_model.specs.declared.area.Area.{Area}
use Rattle.disk_model.specs.declared.area.Area.TheVariants.{Pages}
use Rattle.disk_model.specs.Areas.{Bytes}
use Rattle.disk_model.specs.Told.{Leaves}
use Rattle.log_record.specs.declared.cell_record.CellRecord.{CellRecord}
use Rattle.log_record.specs.declared.cell_record.CellRecord.TheVariants as logs
use Rattle.log_record.specs.declared.record.Record.{Record}
use Rattle.log_record.specs.declared.record.Record.TheVariants.{OfCells}
use Rattle.log_record.specs.Spelling.{cell_record_bytes, IsTypedCellRecord}
use Rattle.gate_log.specs.OnDisk.{HasLog}
use Rattle.restart_laws.specs.Unended.{unended_after_all}
use Rattle.opened_images.specs.LogRecords.{body_of, bodies_of, all_of, first_records}
use Rattle.opened_images.specs.GoesOn.{IsEndedLog}
use Rattle.opened_images.specs.WithImages.{AreOfEvents, HaveImages, AreSamePages}
use Rattle.core_store.specs.declared.act.Act.TheVariants.{Other}
use Rattle.core_store.specs.declared.note.Note.{Note}
use Rattle.core_store.specs.JournalView.{JournalView, logged_in, cells_after_notes, with_note}
use Rattle.page_marks.specs.declared.marks.PageMark.{PageMark}
use Rattle.page_marks.specs.Marks.{AreMarkedBy, AreMarks, IsMarkedBegun}
use Rattle.logged_journal.specs.declared.failed.FailedCall.{FailedCall}
use Rattle.logged_journal.specs.View.{LoggedView}

-- what the notes logged, each a record or nothing
abbrev pub logged_of : List Note → List (Option CellRecord)
logged_of notes = map (λ n. n.logged) notes

-- the record of a note, spelled; nothing where it logged nothing
abbrev pub note_bytes : Note → List ℕ
note_bytes n = option_map_or cell_record_bytes n.logged []

-- the records of the notes that joined from one journal to the other, spelled one after another
abbrev pub bytes_joined : (old new : JournalView) → List ℕ
bytes_joined old new = flat_map note_bytes (drop (length old.notes) new.notes)

-- the numbers of the note's record are in the ranges of their types
abbrev pub IsTypedNote : Note → Type 0
IsTypedNote n = IfSome n.logged IsTypedCellRecord

-- so are those of all records
abbrev pub AreTypedNotes : List Note → Type 0
AreTypedNotes notes = AllByRecursion IsTypedNote notes

-- with these bytes in the pages area, these are the batches of the log that the journal's store opened with, and the marks are
-- those of their records
abbrev pub OpenedWith : JournalView → List ℕ → List (List ℕ) → List PageMark → Type 0
OpenedWith j area begun marks = (count : ℕ) × (j.history.ids ≡ 8 * count) × IsMarkedBegun j.history.slots count area begun j.opening marks

-- With these bytes in the pages area, these batches have the records of these notes, in order, and images of pages among them.
-- The log began over what the first of these notes make of the cells of the opening, where no transaction was active: with the
-- batches that the store opened with, or with that of a checkpoint. After these stands one batch for each part of the records of
-- the later notes and of images, each image being that page of the cells as they are there. A page that has an image may have any
-- bytes in place.
pub record HaveRecords (slots pages : ℕ) (opening : List Cell) (area : List ℕ) (notes : List Note) (batches : List (List ℕ)) : Type 0 where
  pub opens : AreConsistent slots (8 * pages) opening
  -- the notes before the log began, and those after them
  pub «first» : List Note
  pub later : List Note
  pub split : notes ≡ «first» ++ later
  pub over : unended_after_all [] (logged_in «first») ≡ []
  pub sound : AreConsistent slots (8 * pages) (cells_after_notes slots opening «first»)
  -- what the log began with, and what was in the pages area then
  pub before : List ℕ
  pub earlier : List (List (Record slots))
  pub began : IsEndedLog pages before earlier (cells_after_notes slots opening «first»)
  -- what it went on with
  pub parts : List (List (Record slots))
  pub logged : AreOfEvents (logged_of later) (all_of parts)
  pub images : HaveImages pages (cells_after_notes slots opening «first») (all_of parts)
  pub same : AreSamePages pages (all_of (earlier ++ parts)) before area
  pub are : batches ≡ body_of (first_records slots pages) ∷ bodies_of (earlier ++ parts)

-- the same of a journal's store
abbrev pub HoldRecords : JournalView → List ℕ → List Note → List (List ℕ) → Type 0
HoldRecords j area notes batches = (pages : ℕ) × (j.history.ids ≡ 8 * pages) × HaveRecords j.history.slots pages j.opening area notes batches

-- These bytes are these records: those of these notes, in order, and images of pages among them, each that page of the cells as
-- they are there.
pub record AreRecords {slots : ℕ} (pages : ℕ) (cells : List Cell) (notes : List Note) (rs : List (Record slots)) (bytes : List ℕ) : Type 0 where
  pub logged : AreOfEvents (logged_of notes) rs
  pub images : HaveImages pages cells rs
  pub are : bytes ≡ body_of rs

-- With these bytes in the pages area, these batches have the records of these notes, and the marks are those of all their records
-- and of the tail's.
pub record HaveMarked {slots : ℕ} (pages : ℕ) (opening : List Cell) (area : List ℕ) (notes : List Note) (batches : List (List ℕ)) (tail : List (Record slots)) (marks : List PageMark) : Type 0 where
  pub have : HaveRecords slots pages opening area notes batches
  pub marked : AreMarks (all_of (have.earlier ++ have.parts) ++ tail) marks

-- Whatever a power loss leaves in the pages area, the batches have the records of these notes, the tail has those of the notes
-- after them, and the marks are those of all these records.
pub record HoldsNotes {D : Type 0} (may_leave : D → Area → List ℕ → Type 0) (slots pages : ℕ) (opening : List Cell) (notes more : List Note) (marks : List PageMark) (disk : D) (batches : List (List ℕ)) (tail : List ℕ) : Type 0 where
  pub rs : List (Record slots)
  pub behind : AreRecords pages (cells_after_notes slots opening notes) more rs tail
  pub hold : Leaves may_leave disk Pages (λ area. HaveMarked pages opening area notes batches rs marks)

-- the marks after an event: as its record makes them, and the same where it logged none
abbrev pub AreMarkedAfter : ℕ → Option CellRecord → (before now : List PageMark) → Type 0
AreMarkedAfter slots None before now = now ≡ before
AreMarkedAfter slots (Some r) before now = AreMarkedBy {slots = slots} (OfCells r) before now

-- in this image of the disk the log has the records of these notes, and of no others
pub record HasRecords (j : JournalView) (notes : List Note) (image : Bytes) : Type 0 where
  pub batches : List (List ℕ)
  pub log : HasLog batches image
  pub hold : HoldRecords j image.pages notes batches

-- the notes with the commit of this client, which the disk failed
abbrev pub with_commit : List Note → ℕ → List Note
with_commit notes pass = with_note notes (Call pass Commit DiskFault) (Some (logs.Commit pass)) 0 Other

-- the notes whose records an image may have where a call failed: all, and that of the commit where it was one
abbrev pub notes_failed : List Note → FailedCall → List Note
notes_failed notes f = option_map_or (with_commit notes) f.commit notes

-- the notes whose records are there for good
abbrev pub durable_notes : {D : Type 0} → LoggedView D → List Note
durable_notes v = take v.durable v.journal.notes

-- What a power loss may leave of the log: the records of the durable notes; where the disk failed a call, they or those of all
-- notes, and of the commit where it was one.
pub data MayBeLeft {D : Type 0} (v : LoggedView D) (image : Bytes) : Type 0 where
  durable : HasRecords v.journal (durable_notes v) image → MayBeLeft v image
  failed : (f : FailedCall) → v.failed ≡ Some f → HasRecords v.journal (notes_failed v.journal.notes f) image → MayBeLeft v image

-- what a power loss may leave while a commit of this client is made: what it may leave before, or the records of all notes and
-- that commit
abbrev pub MayHave : {D : Type 0} → LoggedView D → ℕ → Bytes → Type 0
MayHave v pass image = MayBeLeft v image ⊎ HasRecords v.journal (with_commit v.journal.notes pass) image

-- what a power loss may leave during upkeep: what it may leave before, or the records of all notes
abbrev pub MayHaveAll : {D : Type 0} → LoggedView D → Bytes → Type 0
MayHaveAll v image = MayBeLeft v image ⊎ HasRecords v.journal v.journal.notes image

-- what the last note logged, a record or nothing
abbrev pub last_logged : List Note → Option CellRecord
last_logged notes = option_map_or (λ n. n.logged) (last_or None notes) None

-- the record of the last note, spelled
abbrev pub last_bytes : List Note → List ℕ
last_bytes notes = option_map_or note_bytes (last_or None notes) []

-- its numbers are in the ranges of their types
abbrev pub IsLastTyped : List Note → Type 0
IsLastTyped notes = IfSome (last_or None notes) IsTypedNote
