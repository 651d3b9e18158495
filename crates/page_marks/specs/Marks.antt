-- The marks of pages, and what the records of a log make of them.
use Rattle.std.specs.Prelude.{◌≡◌, ℕ, ◌<◌, true, false, if◌then◌else◌, List, [], ◌∷◌, ◌++◌, length, replicate, slice_index_or}
use Rattle.cell_model.specs.Cells.{Cell}
use Rattle.log_record.specs.declared.record.Record.{Record}
use Rattle.opened_images.specs.LogRecords.{all_of}
use Rattle.opened_images.specs.GoesOn.{IsBegun}
use Rattle.opened_images.specs.Marks.{is_image_of, concerns, is_changed, is_current}
use Rattle.restart_laws.specs.Local.{is_in_page}
use Rattle.page_marks.specs.declared.marks.PageMark.{PageMark}

-- the mark of a page that no record concerns
abbrev pub unmarked : PageMark
unmarked = record { changed = false; current = false }

-- of one that the last record changed
abbrev pub touched : PageMark
touched = record { changed = true; current = false }

-- the mark of the page, after a record
abbrev pub mark_by : {slots : ℕ} → ℕ → Record slots → PageMark → PageMark
mark_by page r mark = if concerns page r then record { changed = true; current = is_image_of page r } else mark

-- the mark of the page of this id tells that it changed, and the others are as before
pub record IsTouched (id : ℕ) (before now : List PageMark) : Type 0 where
  pub as_many : length now ≡ length before
  pub each : (page : ℕ) (d : PageMark) → page < length before → slice_index_or now page d ≡ (if is_in_page page id then touched else slice_index_or before page d)

-- each mark is as the record makes it
pub record AreMarkedBy {slots : ℕ} (r : Record slots) (before now : List PageMark) : Type 0 where
  pub as_many : length now ≡ length before
  pub each : (page : ℕ) (d : PageMark) → page < length before → slice_index_or now page d ≡ mark_by page r (slice_index_or before page d)

-- the marks are those of the records: a page is changed where one concerns it, and its image is current where the last such one
-- is an image of it
abbrev pub AreMarks : {slots : ℕ} → List (Record slots) → List PageMark → Type 0
AreMarks rs marks = (page : ℕ) (d : PageMark) → page < length marks → slice_index_or marks page d ≡ record { changed = is_changed page rs; current = is_current page rs }

-- whatever records the marks were those of, they are now those of them and of these
pub record AreMarkedByAll {slots : ℕ} (rs : List (Record slots)) (before now : List PageMark) : Type 0 where
  pub as_many : length now ≡ length before
  pub more : (earlier : List (Record slots)) → AreMarks earlier before → AreMarks (earlier ++ rs) now

-- With these bytes in the pages area, these batches are the first one of such a store's log and those of a log that has ended,
-- which makes these cells, and these are the marks of its records.
pub record IsMarkedBegun (slots pages : ℕ) (area : List ℕ) (batches : List (List ℕ)) (cells : List Cell) (marks : List PageMark) : Type 0 where
  pub begun : IsBegun slots pages area batches cells
  pub marked : AreMarks (all_of begun.0) marks

-- ---- the laws

-- without records no page is marked
abbrev pub FirstMarksLaw : Type 0
FirstMarksLaw = (slots pages : ℕ) → AreMarks {slots = slots} [] (replicate pages unmarked)

-- with one record more the marks are as it makes them
abbrev pub NextMarksLaw : Type 0
NextMarksLaw = (slots : ℕ) (rs : List (Record slots)) (r : Record slots) (before now : List PageMark) → AreMarks rs before → AreMarkedBy r before now → AreMarks (rs ++ r ∷ []) now
