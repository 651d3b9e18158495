-- What upkeep of the log and of the pages does: a page is cleaned, and the log is turned.
use Rattle.std.specs.Prelude.{◌≡◌, ◌≢◌, ◌⊎◌, ℕ, suc, ◌+◌, ◌*◌, ◌<◌, ◌≤◌, max, List, [], ◌∷◌, ◌++◌, length, replicate, true, false, if◌then◌else◌, Option, Some, None, option_map}
use Rattle.disk_model.specs.declared.area.Area.{Area}
use Rattle.disk_model.specs.declared.area.Area.TheVariants.{Super, Pages}
use Rattle.disk_model.specs.Areas.{Bytes, in_area}
use Rattle.disk_model.specs.Changes.{written, Torn}
use Rattle.disk_model.specs.Told.{Keeps, Follows}
use Rattle.disk_model.specs.Causes.{Rose}
use Rattle.plain_model.specs.declared.calls.Entry.TheVariants.{Hidden, TurnBusy}
use Rattle.cell_model.specs.Cells.{Cell}
use Rattle.cell_page.specs.declared.cell.Cell.{Cell as PageCell}
use Rattle.cell_page.specs.Format.{Spells}
use Rattle.log_record.specs.declared.record.Record.{Record}
use Rattle.log_record.specs.declared.record.Record.TheVariants.{Image}
use Rattle.log_record.specs.Spelling.{record_bytes}
use Rattle.gate_log.specs.Batches.{IsLog, most_bytes}
use Rattle.gate_log.specs.State.{appended, forced, forced_area, naming_byte, other_log}
use Rattle.gate_log.specs.OnDisk.{named_by}
use Rattle.page_area.specs.Place.{bytes_of_page}
use Rattle.opened_images.specs.LogRecords.{body_of, all_of, first_records}
use Rattle.opened_images.specs.Opened.{IsLogRead}
use Rattle.opened_images.specs.Marks.{last_image, StandsInPlace}
use Rattle.page_marks.specs.declared.marks.PageMark.{PageMark}
use Rattle.page_marks.specs.Marks.{unmarked, AreMarkedBy}
use Rattle.core_store.specs.Limited.{is_past_limit}
use Rattle.core_store.specs.Upkeep.{with_upkeep}
use Rattle.plain_model.specs.History.{end_of, least_active}
use Rattle.logged_journal.specs.declared.upkeep.Upkeep.{Upkeep}
use Rattle.logged_journal.specs.declared.upkeep.Upkeep.TheVariants.{Done}
use Rattle.logged_journal.specs.View.{LoggedView, IsPast, bytes_counted, mark_at, image_bytes, image_need}
use Rattle.logged_journal.specs.Checkpoints.{wanted_below}

-- ---- what images have

-- in this image of the disk the log's last image of the page is this one
pub record HasImage {slots : ℕ} (page : ℕ) (held : List (PageCell slots)) (image : Bytes) : Type 0 where
  pub area : Area
  pub pages : ℕ
  pub batches : List (List (Record slots))
  pub read : IsLogRead image area pages batches
  pub last : last_image page (all_of batches) ≡ Some held

-- and the page stands in place by its one spelling
pub record IsClean {slots : ℕ} (page : ℕ) (held : List (PageCell slots)) (image : Bytes) : Type 0 where
  pub logged : HasImage page held image
  pub in_place : Spells page held (bytes_of_page slots page image.pages)

-- in this image every page of these cells stands in place, and the log area of this name is named and has the first batch alone
pub record IsTurned (slots : ℕ) (cells : List Cell) (area : Area) (image : Bytes) : Type 0 where
  -- they are so many pages: there is a cell for each id, of which a page has eight, and one at 0
  pub pages : ℕ
  pub whole : length cells ≡ suc (8 * pages)
  pub named : named_by image.super_area ≡ Some area
  pub log : IsLog most_bytes (body_of (first_records slots pages) ∷ []) (in_area image area)
  pub in_place : (page : ℕ) → page < pages → StandsInPlace slots image.pages cells page

-- ---- steps of upkeep

-- an image of this page joined the tail
pub record LogsImage {D : Type 0} {slots : ℕ} (old new : LoggedView D) (page : ℕ) (held : List (PageCell slots)) : Type 0 where
  pub same : new ≡ record old { log = appended old.log (record_bytes (Image page held)); marks = new.marks; peak = max old.peak (bytes_counted new) }
  pub marked : AreMarkedBy (Image page held) old.marks new.marks

-- the tail was made to last, and with it the records of all notes
abbrev pub ForcesAll : {D : Type 0} → LoggedView D → LoggedView D → Type 0
ForcesAll old new = new ≡ record old { log = forced old.log; disk = new.disk; durable = length old.journal.notes; peak = max old.peak (bytes_counted new) }

-- nothing changed but the disk
abbrev pub OnlyDisk : {D : Type 0} → LoggedView D → LoggedView D → Type 0
OnlyDisk old new = new ≡ record old { disk = new.disk }

-- the disk failed upkeep: the journal stays, and is stopped with the disk's count of faults, which rose
pub record FailsUpkeep {D : Type 0} (faults : D → ℕ) (old new : LoggedView D) : Type 0 where
  pub journal : new.journal ≡ record old.journal { reserved = new.journal.reserved }
  pub told : new.failed ≡ Some (record { commit = None; faults = faults new.disk })
  pub rose : Rose (faults old.disk) (faults new.disk)
  pub durable : (new.durable ≡ old.durable) ⊎ (new.durable ≡ length old.journal.notes)
  pub log_full : new.log_full ≡ old.log_full
  pub peak : new.peak ≡ max old.peak (bytes_counted new)
  pub counted : bytes_counted old ≤ bytes_counted new
  pub opened : new.opened ≡ old.opened

-- ---- upkeep that was done

-- An entry joined the history that changes nothing, and the records of all notes are there for good.
pub record DoesUpkeep {D : Type 0} (slots : ℕ) (old new : LoggedView D) : Type 0 where
  pub journal : new.journal ≡ with_upkeep slots old.journal Hidden
  pub durable : new.durable ≡ length new.journal.notes
  pub tail : new.log.tail ≡ []
  pub running : new.failed ≡ None
  pub log_full : new.log_full ≡ old.log_full
  pub peak : new.peak ≡ max old.peak (bytes_counted new)
  pub opened : new.opened ≡ old.opened

-- ---- a page is cleaned

-- it is told that the log is full: what the page needs to be cleaned would go past the log's limit
pub record IsPastLogToClean {D : Type 0} (slots : ℕ) (v : LoggedView D) : Type 0 where
  pub running : v.failed ≡ None
  pub room : is_past_limit v.journal 1 ≡ false
  pub past : IsPast v (image_need slots)

-- what the tail needs for the page: nothing where the last image of it is current, and else the image of it
abbrev pub image_wanted : {slots : ℕ} → List PageMark → ℕ → List (PageCell slots) → List ℕ
image_wanted marks page held = if (mark_at marks page).current then [] else record_bytes (Image page held)

-- the tail has an image of the page that is current: one joined it where none was
pub record LogsWanted {D : Type 0} {slots : ℕ} (old new : LoggedView D) (page : ℕ) (held : List (PageCell slots)) : Type 0 where
  pub same : new ≡ record old { log = appended old.log (image_wanted old.marks page held); marks = new.marks; peak = max old.peak (bytes_counted new) }
  pub current : (mark_at old.marks page).current ≡ true → new.marks ≡ old.marks
  pub imaged : (mark_at old.marks page).current ≡ false → AreMarkedBy (Image page held) old.marks new.marks
  pub now : (mark_at new.marks page).current ≡ true

-- The page was cleaned: the tail was forced, with an image of the page where none was current.
pub record Cleans {D : Type 0} {slots : ℕ} (old new : LoggedView D) (page : ℕ) (held : List (PageCell slots)) : Type 0 where
  pub does : DoesUpkeep slots old new
  pub log : new.log ≡ record (forced (appended old.log (image_wanted old.marks page held))) { room = new.log.room }
  pub current : (mark_at old.marks page).current ≡ true → new.marks ≡ old.marks
  pub imaged : (mark_at old.marks page).current ≡ false → AreMarkedBy (Image page held) old.marks new.marks

-- no area changed but this one and the pages area
abbrev pub KeepsButPages : {D : Type 0} → (D → Area → Option (List ℕ)) → (D → Area → List ℕ → Type 0) → D → D → Area → Type 0
KeepsButPages content may_leave before now area = (other : Area) → other ≢ area → other ≢ Pages → Keeps content may_leave before now other

-- What a page's cleaning makes of the disk's areas: only the log's own and the pages area change. Where it was done, the first has
-- one batch more: the tail, and an image of the page where none was current.
pub record OnlyCleans {D : Type 0} {slots : ℕ} (content : D → Area → Option (List ℕ)) (may_leave : D → Area → List ℕ → Type 0) (old new : LoggedView D) (page : ℕ) (held : List (PageCell slots)) (result : Upkeep) : Type 0 where
  pub others : KeepsButPages content may_leave old.disk new.disk old.log.area
  pub batch : result ≡ Done → content new.disk old.log.area ≡ option_map (forced_area old.log.durable (old.log.tail ++ image_wanted old.marks page held)) (content old.disk old.log.area)

-- ---- the log is turned

-- The log was turned: it stands in the other log area, with its first batch alone, and no page is marked.
pub record Turns {D : Type 0} (slots : ℕ) (old new : LoggedView D) : Type 0 where
  pub does : DoesUpkeep slots old new
  pub area : new.log.area ≡ other_log old.log.area
  pub first : new.log.durable ≡ 9
  pub marks : new.marks ≡ replicate (length old.marks) unmarked

-- What a checkpoint makes of the super area: all but its first byte stays. Where the checkpoint was done, that byte names the other
-- log area.
pub record OnlyNames {D : Type 0} (content : D → Area → Option (List ℕ)) (may_leave : D → Area → List ℕ → Type 0) (old new : LoggedView D) (result : Upkeep) : Type 0 where
  pub others : Follows content may_leave (Torn 0 1) old.disk new.disk Super
  pub named : result ≡ Done → content new.disk Super ≡ option_map (written 0 (naming_byte (other_log old.log.area) ∷ [])) (content old.disk Super)

-- with the images that a turn needs, in one batch, the log would be longer than a log may be
abbrev pub IsPastFormat : {D : Type 0} → ℕ → LoggedView D → Type 0
IsPastFormat slots v = most_bytes < bytes_counted v + image_bytes slots * length (wanted_below v.marks (length v.marks)) + 5

-- a turn is told that the log is full: it is not refused for another cause, and the log would be too long
pub record IsPastLogToTurn {D : Type 0} (slots : ℕ) (v : LoggedView D) : Type 0 where
  pub running : v.failed ≡ None
  pub room : is_past_limit v.journal 1 ≡ false
  pub idle : least_active (end_of v.journal.history).state ≡ None
  pub past : IsPastFormat slots v

-- a turn was refused, since this client has a transaction: that entered the history, and nothing else changed
abbrev pub TellsBusy : {D : Type 0} → (slots : ℕ) → LoggedView D → LoggedView D → ℕ → Type 0
TellsBusy slots old new pass = new ≡ record old { journal = with_upkeep slots old.journal (TurnBusy pass) }
