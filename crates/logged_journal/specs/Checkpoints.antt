-- Which pages a checkpoint writes, and what of them stands in place.
use Rattle.std.specs.Prelude.{◌≡◌, ℕ, ◌<◌, ◌≤◌, ◌&&◌, Bool, true, false, if◌then◌else◌, not, max, List, [], ◌++◌, length, map, replicate, slice_index_or, Option, option_map}
use Rattle.std.specs.List.{filter, range_with_len}
use Rattle.cell_page.specs.declared.cell.Cell.{Cell}
use Rattle.cell_page.specs.Format.{page_bytes}
use Rattle.log_record.specs.declared.record.Record.{Record}
use Rattle.log_record.specs.declared.record.Record.TheVariants.{Image}
use Rattle.disk_model.specs.declared.area.Area.{Area}
use Rattle.disk_model.specs.declared.area.Area.TheVariants.{Pages}
use Rattle.disk_model.specs.Areas.{Bytes}
use Rattle.disk_model.specs.Told.{KeepsOthers, Follows, IsImageBut}
use Rattle.disk_model.specs.Time.{LeavesOnlyImages}
use Rattle.page_area.specs.Place.{bytes_of_page}
use Rattle.page_marks.specs.declared.marks.PageMark.{PageMark}
use Rattle.gate_log.specs.State.{appended, turned, forced_area}
use Rattle.opened_images.specs.LogRecords.{body_of, first_records}
use Rattle.core_store.specs.declared.frame.Frame.{Frame}
use Rattle.page_marks.specs.Marks.{unmarked}
use Rattle.logged_journal.specs.View.{LoggedView, bytes_counted, mark_at}

-- the page in the frame of this number
abbrev pub page_in : {slots : ℕ} → List (Frame slots) → ℕ → List (Cell slots)
page_in frames page = (slice_index_or frames page (record { page = [] })).page

-- a record of the log concerns the page
abbrev pub has_changed : List PageMark → ℕ → Bool
has_changed marks page = (mark_at marks page).changed

-- and no image of it is current
abbrev pub wants_image : List PageMark → ℕ → Bool
wants_image marks page = (mark_at marks page).changed && not (mark_at marks page).current

-- the changed pages below this one, ascending
abbrev pub changed_below : List PageMark → ℕ → List ℕ
changed_below marks count = filter (has_changed marks) (range_with_len 0 count)

-- and those of them without a current image
abbrev pub wanted_below : List PageMark → ℕ → List ℕ
wanted_below marks count = filter (wants_image marks) (range_with_len 0 count)

-- images of these pages
abbrev pub images_of : {slots : ℕ} → List (Frame slots) → List ℕ → List (Record slots)
images_of frames pages = map (λ page. Image page (page_in frames page)) pages

-- ---- pages in place

-- in this pages area each page that isn't marked as changed has the bytes that it had before, and the area is no shorter
pub record AreSameUnchanged (slots : ℕ) (marks : List PageMark) (before now : List ℕ) : Type 0 where
  pub no_shorter : length before ≤ length now
  pub same : (page : ℕ) → page < length marks → has_changed marks page ≡ false → bytes_of_page slots page now ≡ bytes_of_page slots page before

-- each changed page below this one stands there by the one spelling of its frame
abbrev pub AreThere : {slots : ℕ} → List (Frame slots) → List PageMark → ℕ → List ℕ → Type 0
AreThere {slots} frames marks count area = (page : ℕ) → page < count → has_changed marks page ≡ true → bytes_of_page slots page area ≡ page_bytes (page_in frames page)

-- From one disk to another nothing changed but the changed pages in place, and a power loss leaves what it left before, but for
-- any bytes in these.
pub record OnlyPlaces {D : Type 0} (content : D → Area → Option (List ℕ)) (may_leave : D → Area → List ℕ → Type 0) (moment : D → ℕ) (left_since : D → ℕ → Bytes → Type 0) (faults : D → ℕ) (slots : ℕ) (marks : List PageMark) (start now : D) : Type 0 where
  pub left : Follows content may_leave (AreSameUnchanged slots marks) start now Pages
  pub moments : LeavesOnlyImages moment left_since start now (IsImageBut may_leave start Pages (λ area. (was : List ℕ) × may_leave start Pages was × AreSameUnchanged slots marks was area))
  pub keeps : KeepsOthers content may_leave start now Pages
  pub later : faults start ≤ faults now

-- ---- images join the tail

-- the mark after an image of a changed page
abbrev pub imaged : PageMark → PageMark
imaged m = if m.changed then record { changed = true; current = true } else m

-- Images of the pages below this one that wanted one joined the tail, in ascending order of the pages, and nothing else changed.
pub record LogsImages {D : Type 0} {slots : ℕ} (frames : List (Frame slots)) (count : ℕ) (old new : LoggedView D) : Type 0 where
  pub same : new ≡ record old { log = new.log; marks = new.marks; peak = max old.peak (bytes_counted new) }
  pub log : new.log ≡ appended old.log (body_of (images_of frames (wanted_below old.marks count)))
  pub many : length new.marks ≡ length old.marks
  pub below : (page : ℕ) → page < length old.marks → page < count → mark_at new.marks page ≡ imaged (mark_at old.marks page)
  pub above : (page : ℕ) → page < length old.marks → count ≤ page → mark_at new.marks page ≡ mark_at old.marks page

-- the image of each changed page is current
abbrev pub AreCurrent : List PageMark → Type 0
AreCurrent marks = (page : ℕ) → page < length marks → has_changed marks page ≡ true → (mark_at marks page).current ≡ true

-- the log's tail with the images that a turn needs: one of each changed page of which none is current, in ascending order
abbrev pub tail_to_turn : {D : Type 0} {slots : ℕ} → List (Frame slots) → LoggedView D → List ℕ
tail_to_turn frames v = v.log.tail ++ body_of (images_of frames (wanted_below v.marks (length v.marks)))

-- the log area that was in use has that tail as its last batch, and nothing else joined it
abbrev pub ForcesImages : {D : Type 0} {slots : ℕ} → (D → Area → Option (List ℕ)) → List (Frame slots) → LoggedView D → LoggedView D → Type 0
ForcesImages content frames old new =
    content new.disk old.log.area ≡ option_map (forced_area old.log.durable (tail_to_turn frames old)) (content old.disk old.log.area)

-- ---- the log begins anew

-- the log stands in the other log area, with the first batch alone, and no page is marked
abbrev pub BeginsAnew : {D : Type 0} → (slots pages : ℕ) → LoggedView D → LoggedView D → Type 0
BeginsAnew slots pages old new = new ≡ record old { log = turned old.log (body_of (first_records slots pages)); disk = new.disk; marks = replicate (length old.marks) unmarked; peak = max old.peak (bytes_counted new) }
