-- The records of a log that has images of pages among what events logged.
use Rattle.std.proofs.Common.{◌≡◌, ℕ, ◌*◌, ◌+◌, ◌<◌, ◌≤◌, Bool, true, false, List, [], ◌∷◌, ◌++◌, Option, Some, None, refl, sym, ap, ◌∙◌, arith, length}
use Rattle.std.specs.Prelude.{◌||◌}
use Rattle.std.proofs.lemmas.Grind.{flat_map-append}
use Rattle.cell_model.specs.Cells.{Cell}
use Rattle.cell_model.specs.Records.{Record as StoredRecord, after_record, cells_after, AllFit}
use Rattle.log_record.specs.declared.cell_record.CellRecord.{CellRecord}
use Rattle.log_record.specs.declared.record.Record.{Record}
use Rattle.log_record.specs.declared.record.Record.TheVariants.{OfCells, Image, Turn}
use Rattle.log_record.specs.Records.{record_of}
use Rattle.log_record.proofs.ReadLaws.{first_byte}
use Rattle.restart_laws.specs.Local.{is_in_page, has_image, records_in}
use Rattle.restart_laws.specs.Unended.{Unended, unended_after}
use Rattle.opened_images.specs.LogRecords.{body_of, all_of, HaveSpellings, unended_by_all, AllFitLog}
use Rattle.opened_images.specs.Replayed.{items_of}
use Rattle.opened_images.specs.GoesOn.{logged_records, stored_records}
use Rattle.opened_images.proofs.GoesOnLog.{logged_append}
use Rattle.opened_images.specs.WithImages.{without_images, AreOfEvents, HaveImages, AreSamePages}

-- the records of some batches, and of others after them
pub all_both : {slots : ℕ} (earlier later : List (List (Record slots))) → all_of (earlier ++ later) ≡ all_of earlier ++ all_of later
all_both {slots} earlier later = flat_map-append (λ (rs : List (Record slots)). rs) earlier later

-- ---- which pages have an image

-- of two lists of records the one or the other has it
pub image_of_both : {slots : ℕ} (id : ℕ) (rs ss : List (Record slots)) → has_image id (items_of (rs ++ ss)) ≡ (has_image id (items_of rs) || has_image id (items_of ss))
image_of_both id [] ss = refl
image_of_both id (OfCells r ∷ rs) ss = image_of_both id rs ss
image_of_both id (Image page held ∷ rs) ss = by (is_in_page page id) (image_of_both id rs ss)
  where
    by : (b : Bool) → has_image id (items_of (rs ++ ss)) ≡ (has_image id (items_of rs) || has_image id (items_of ss))
        → (b || has_image id (items_of (rs ++ ss))) ≡ ((b || has_image id (items_of rs)) || has_image id (items_of ss))
    by true e = refl
    by false e = e
image_of_both id (Turn version count ∷ rs) ss = image_of_both id rs ss

-- neither has it
pub no_image_of_both : {slots : ℕ} (id : ℕ) (rs ss : List (Record slots)) → has_image id (items_of (rs ++ ss)) ≡ false → (has_image id (items_of rs) ≡ false) × (has_image id (items_of ss) ≡ false)
no_image_of_both id rs ss none = by (has_image id (items_of rs)) (has_image id (items_of ss)) (sym (image_of_both id rs ss) ∙ none)
  where
    by : (a b : Bool) → (a || b) ≡ false → (a ≡ false) × (b ≡ false)
    by true b e = absurd (cc)
    by false b e = (refl, e)

-- none of them has it
pub no_image_in_either : {slots : ℕ} (id : ℕ) (rs ss : List (Record slots)) → has_image id (items_of rs) ≡ false → has_image id (items_of ss) ≡ false → has_image id (items_of (rs ++ ss)) ≡ false
no_image_in_either id rs ss a b = image_of_both id rs ss ∙ ap (λ (x : Bool). x || has_image id (items_of ss)) a ∙ b

-- ---- the records of events

-- the records of single cells are those of the records without images
records_without : {slots : ℕ} (rs : List (Record slots)) → records_in (items_of rs) ≡ records_in (items_of (without_images rs))
records_without [] = refl
records_without (OfCells r ∷ rs) = ap (λ (l : List (Option StoredRecord)). Some (record_of r) ∷ l) (records_without rs)
records_without (Image page held ∷ rs) = records_without rs
records_without (Turn version count ∷ rs) = records_without rs

-- where they are what events logged
pub records_of_events : {slots : ℕ} (events : List (Option CellRecord)) (rs : List (Record slots)) → AreOfEvents events rs → records_in (items_of rs) ≡ records_in (items_of {slots = slots} (logged_records events))
records_of_events {slots} events rs e = records_without rs ∙ ap (λ (l : List (Record slots)). records_in (items_of l)) e

-- they fit cells where those of the events do
pub fit_of_events : (slots : ℕ) (events : List (Option CellRecord)) (cells : List Cell) → AllFit slots cells (stored_records events) → AllFit slots cells (records_in (items_of {slots = slots} (logged_records events)))
fit_of_events slots [] cells fit = tt
fit_of_events slots (Some r ∷ events) cells fit = (fit.0, fit_of_events slots events (after_record slots cells (record_of r)) fit.1)
fit_of_events slots (None ∷ events) cells fit = fit_of_events slots events cells fit

-- and do the same to them
pub cells_of_events : (slots : ℕ) (events : List (Option CellRecord)) (cells : List Cell) → cells_after slots cells (records_in (items_of {slots = slots} (logged_records events))) ≡ cells_after slots cells (stored_records events)
cells_of_events slots [] cells = refl
cells_of_events slots (Some r ∷ events) cells = cells_of_events slots events (after_record slots cells (record_of r))
cells_of_events slots (None ∷ events) cells = cells_of_events slots events cells

-- ---- records and images

-- they tell of the transactions that haven't ended what they tell without the images
pub unended_without : {slots : ℕ} (us : List (ℕ × Unended)) (rs : List (Record slots)) → unended_by_all us rs ≡ unended_by_all us (without_images rs)
unended_without us [] = refl
unended_without us (OfCells r ∷ rs) = unended_without (unended_after us (record_of r)) rs
unended_without us (Image page held ∷ rs) = unended_without us rs
unended_without us (Turn version count ∷ rs) = unended_without us rs

-- they have spellings
pub spelled_with_images : {slots : ℕ} (pages : ℕ) (cells : List Cell) (rs : List (Record slots)) → pages ≤ 1024 → HaveImages pages cells rs → HaveSpellings (without_images rs) → HaveSpellings rs
spelled_with_images pages cells [] few images spelled = tt
spelled_with_images {slots} pages cells (OfCells r ∷ rs) few images spelled = (spelled.0, spelled.1, spelled_with_images pages (after_record slots cells (record_of r)) rs few images spelled.2)
spelled_with_images pages cells (Image page held ∷ rs) few images spelled =
    let low : page < pages = images.0 in
    (images.2.rules, (omega (arith, few, low), images.1), spelled_with_images pages cells rs few images.3 spelled)
spelled_with_images pages cells (Turn version count ∷ rs) few images spelled = (spelled.0, spelled.1, spelled_with_images pages cells rs few images spelled.2)

-- they fit a log
pub fit_with_images : {slots : ℕ} (pages : ℕ) (us : List (ℕ × Unended)) (cells : List Cell) (rs : List (Record slots)) → HaveImages pages cells rs → AllFitLog pages us (without_images rs) → AllFitLog pages us rs
fit_with_images pages us cells [] images fit = tt
fit_with_images {slots} pages us cells (OfCells r ∷ rs) images fit = (fit.0, fit_with_images pages (unended_after us (record_of r)) (after_record slots cells (record_of r)) rs images fit.1)
fit_with_images pages us cells (Image page held ∷ rs) images fit = (images.0, fit_with_images pages us cells rs images.3 fit)
fit_with_images pages us cells (Turn version count ∷ rs) images fit = absurd fit.0

-- ---- records of events alone

-- they have no images
pub logged_without : (slots : ℕ) (events : List (Option CellRecord)) → without_images {slots = slots} (logged_records events) ≡ logged_records events
logged_without slots [] = refl
logged_without slots (Some r ∷ events) = ap (λ (l : List (Record slots)). OfCells r ∷ l) (logged_without slots events)
logged_without slots (None ∷ events) = logged_without slots events

pub logged_images : (slots pages : ℕ) (cells : List Cell) (events : List (Option CellRecord)) → HaveImages {slots = slots} pages cells (logged_records events)
logged_images slots pages cells [] = tt
logged_images slots pages cells (Some r ∷ events) = logged_images slots pages (after_record slots cells (record_of r)) events
logged_images slots pages cells (None ∷ events) = logged_images slots pages cells events

-- ---- one list after another

-- the records without images
pub without_both : {slots : ℕ} (rs ss : List (Record slots)) → without_images (rs ++ ss) ≡ without_images rs ++ without_images ss
without_both [] ss = refl
without_both {slots} (OfCells r ∷ rs) ss = ap (λ (l : List (Record slots)). OfCells r ∷ l) (without_both rs ss)
without_both (Image page held ∷ rs) ss = without_both rs ss
without_both {slots} (Turn version count ∷ rs) ss = ap (λ (l : List (Record slots)). Turn version count ∷ l) (without_both rs ss)

-- are what events logged, and later ones
pub of_events_both : {slots : ℕ} (events more : List (Option CellRecord)) (rs ss : List (Record slots)) → AreOfEvents events rs → AreOfEvents more ss → AreOfEvents (events ++ more) (rs ++ ss)
of_events_both {slots} events more rs ss e f =
    without_both rs ss ∙ ap (λ (l : List (Record slots)). l ++ without_images ss) e ∙ ap (λ (l : List (Record slots)). logged_records events ++ l) f ∙ sym (logged_append events more)

-- the cells after the records are those after the events
pub cells_are_of_events : {slots : ℕ} (events : List (Option CellRecord)) (rs : List (Record slots)) (cells : List Cell) → AreOfEvents events rs → cells_after slots cells (records_in (items_of rs)) ≡ cells_after slots cells (stored_records events)
cells_are_of_events {slots} events rs cells e =
    ap (λ (l : List (Option StoredRecord)). cells_after slots cells l) (records_of_events events rs e) ∙ cells_of_events slots events cells

-- images of the cells as they are there, and later ones
pub images_both : {slots : ℕ} (pages : ℕ) (cells : List Cell) (rs ss : List (Record slots)) → HaveImages pages cells rs → HaveImages pages (cells_after slots cells (records_in (items_of rs))) ss → HaveImages pages cells (rs ++ ss)
images_both pages cells [] ss h more = more
images_both {slots} pages cells (OfCells r ∷ rs) ss h more = images_both pages (after_record slots cells (record_of r)) rs ss h more
images_both pages cells (Image page held ∷ rs) ss h more = (h.0, h.1, h.2, images_both pages cells rs ss h.3 more)
images_both pages cells (Turn version count ∷ rs) ss h more = images_both pages cells rs ss h more

-- pages without an image among more records
pub same_pages_more : {slots : ℕ} (pages : ℕ) (rs ss : List (Record slots)) (before area : List ℕ) → AreSamePages pages rs before area → AreSamePages pages (rs ++ ss) before area
same_pages_more pages rs ss before area same page low none = same page low (no_image_of_both (8 * page + 1) rs ss none).0

-- records without bytes are none
pub no_bytes_no_records : {slots : ℕ} (rs : List (Record slots)) → body_of rs ≡ [] → rs ≡ []
no_bytes_no_records [] e = refl
no_bytes_no_records {slots} (OfCells r ∷ rs) e =
    let some = (first_byte r (body_of rs)).1 in
    let none = ap (λ (l : List ℕ). length l) e in
    absurd (omega (arith, some, none))
no_bytes_no_records (Image page held ∷ rs) e = absurd (cc)
no_bytes_no_records (Turn version count ∷ rs) e = absurd (cc)
