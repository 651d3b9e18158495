-- Where a log that has ended goes on with what events logged and with images of pages, the image of the disk opens to the cells
-- that the events make.
use Rattle.std.proofs.Common.{◌≡◌, ℕ, ◌+◌, ◌-◌, ◌*◌, ◌<◌, ◌≤◌, false, List, [], ◌++◌, Option, refl, sym, ap, subst, ◌∙◌, lit<, arith}
use Rattle.std.proofs.lemmas.List.{append-nil}
use Rattle.std.proofs.lemmas.Nat.{mod_below, div_below}
use Rattle.std.proofs.Math.Nat.{div-add-mod}
use Rattle.cell_model.specs.Cells.{Cell}
use Rattle.cell_model.specs.Records.{Record as StoredRecord, cells_after, AllFit}
use Rattle.cell_model.specs.Consistent.{AreConsistent}
use Rattle.cell_page.specs.Format.{IsSlotCount, page_of_id, place_of}
use Rattle.cell_page.specs.Fields.{cell_in, bytes_at, FailsAt}
use Rattle.cell_page.specs.Stored.{cell_of}
use Rattle.log_record.specs.declared.cell_record.CellRecord.{CellRecord}
use Rattle.log_record.specs.declared.record.Record.{Record}
use Rattle.restart_laws.specs.Local.{has_image, records_in}
use Rattle.restart_laws.specs.Unended.{Unended, unended_after_all, AllFitUnended}
use Rattle.restart_laws.specs.Restored.{restored, CanRestart}
use Rattle.restart_laws.proofs.RuleLaws.{consistent-rules}
use Rattle.opened_images.specs.LogRecords.{all_of, unended_by_all, unended_behind, HaveSpellings, AllFitLog}
use Rattle.opened_images.specs.Replayed.{items_of, cell_in_place, cells_of_log, IsDamagedPage, AllFitCells}
use Rattle.opened_images.specs.Opened.{OpensTo, Opened, opens, AreCellsRead}
use Rattle.opened_images.specs.GoesOn.{IsEndedLog, logged_records, stored_records, AreWithin}
use Rattle.opened_images.specs.WithImages.{AreOfEvents, HaveImages, AreSamePages, MakesCells, MakesCellsLaw, GoesOnWithImagesLaw}
use Rattle.opened_images.proofs.AfterLog.{same_images}
use Rattle.opened_images.proofs.LogWays.{unended_append}
use Rattle.opened_images.proofs.GoesOnRooms.{AreReady, ready_consistent}
use Rattle.opened_images.proofs.GoesOnCells.{AreAfter, are_of_log, of_log}
use Rattle.opened_images.proofs.GoesOnLog.{spelled_both, fit_both, fit_logged, unended_logged}
use Rattle.opened_images.proofs.ImagesInLog.{all_both, no_image_of_both, no_image_in_either, records_of_events, fit_of_events, cells_of_events, unended_without, spelled_with_images, fit_with_images}
use Rattle.opened_images.proofs.ImagesCells.{AreSameInPlace, AreKnown, readable, fit_still, known_first, known_all, fit_known, fit_cells_on}

-- ---- pages as they were

-- of an id whose page has no image the cell in place is as before
same_in_place : {slots : ℕ} (pages : ℕ) (rs : List (Record slots)) (before area : List ℕ) → AreSamePages pages rs before area → (id : ℕ) → 1 ≤ id → id ≤ 8 * pages → has_image id (items_of rs) ≡ false
    → cell_in_place slots area id ≡ cell_in_place slots before id
same_in_place {slots} pages rs before area same id low high none =
    let within : place_of id < 8 = mod_below (id - 1) 8 (lit< tt) in
    let below : page_of_id id < pages = div_below (id - 1) 8 pages (lit< tt) (omega (arith, low, high)) in
    let split : id ≡ 8 * page_of_id id + place_of id + 1 = omega (arith, low, div-add-mod (id - 1) 8) in
    ap (λ (bytes : List ℕ). cell_of (cell_in slots (bytes_at slots bytes (place_of id)))) (same (page_of_id id) below (sym (same_images id (page_of_id id) (place_of id) (items_of rs) within split) ∙ none))

module _ {slots : ℕ} (pages : ℕ) (before area : List ℕ) (earlier : List (List (Record slots))) (later : List (Record slots)) (events : List (Option CellRecord)) (cells : List Cell)
    (ended : IsEndedLog pages before earlier cells) (same : AreSamePages pages (all_of earlier ++ later) before area) (logged : AreOfEvents events later) (images : HaveImages pages cells later) where
  -- the log's records tell of the transactions that haven't ended what the events tell
  unended_same : unended_by_all [] (all_of earlier ++ later) ≡ unended_after_all [] (stored_records events)
  unended_same =
      unended_append [] (all_of earlier) later
      ∙ ap (λ (us : List (ℕ × Unended)). unended_by_all us later) ended.ended
      ∙ unended_without [] later
      ∙ ap (λ (l : List (Record slots)). unended_by_all [] l) logged
      ∙ unended_logged slots [] events

  -- they have spellings
  all_spelled : HaveSpellings (logged_records {slots = slots} events) → HaveSpellings (all_of earlier ++ later)
  all_spelled spelled =
      spelled_both (all_of earlier) later ended.read.spelled
      (spelled_with_images pages cells later ended.read.few images (subst (λ (l : List (Record slots)). HaveSpellings l) (sym logged) spelled))

  -- and fit it
  all_fit : AreWithin (8 * pages) events → AllFitUnended [] (stored_records events) → AllFitLog pages [] (all_of earlier ++ later)
  all_fit within fit =
      let news : AllFitLog pages [] later = fit_with_images pages [] cells later images (subst (λ (l : List (Record slots)). AllFitLog pages [] l) (sym logged) (fit_logged slots pages [] events within fit)) in
      fit_both pages [] (all_of earlier) later ended.read.fit (subst (λ (us : List (ℕ × Unended)). AllFitLog pages us later) (sym ended.ended) news)

  -- each page without an image is whole
  pages_whole : (page at : ℕ) → page < pages → IsDamagedPage area (all_of earlier ++ later) page at → ⊥
  pages_whole page at low damaged = ended.whole page at low (record {
    no_image = (no_image_of_both (8 * page + 1) (all_of earlier) later damaged.no_image).0;
    fails = subst (λ (bytes : List ℕ). FailsAt slots page bytes at) (same page low damaged.no_image) damaged.fails;
  })

  -- what stands in place where no record is an image
  in_place : AreSameInPlace pages before area [] (all_of earlier ++ later)
  in_place id low high none_done none = same_in_place pages (all_of earlier ++ later) before area same id low high none

  module _ (known : IsSlotCount slots) (sound : AreConsistent slots (8 * pages) cells) (fit : AllFit slots cells (stored_records events)) where
    small : 8 * pages ≤ 8192
    small = omega (arith, ended.read.few)

    ready : AreReady slots (8 * pages) cells
    ready = ready_consistent slots (8 * pages) cells sound

    fit_records : AllFit slots cells (records_in (items_of later))
    fit_records = subst (λ (rs : List (Option StoredRecord)). AllFit slots cells rs) (sym (records_of_events events later logged)) (fit_of_events slots events cells fit)

    cells_same : cells_after slots cells (records_in (items_of later)) ≡ cells_after slots cells (stored_records events)
    cells_same = ap (λ (rs : List (Option StoredRecord)). cells_after slots cells rs) (records_of_events events later logged) ∙ cells_of_events slots events cells

    -- the cells are those after the earlier batches
    are_first : AreKnown pages before area (all_of earlier) cells
    are_first = known_first pages before area (all_of earlier) cells (subst (λ (cs : List Cell). AreAfter pages before (all_of earlier) cs) (sym ended.are) (are_of_log pages before (all_of earlier)))

    -- each record fits the cells
    cells_fit : AllFitCells pages area [] (all_of earlier ++ later) []
    cells_fit =
        fit_cells_on pages area [] (all_of earlier) later []
        (subst (λ (l : List (Record slots)). AllFitCells pages area [] (all_of earlier) l) (sym (append-nil later)) (fit_still pages before area [] (all_of earlier) later in_place ended.fit))
        (fit_known pages before area known small (all_of earlier) later cells ready fit_records images
        (λ id low high none_first none_later. in_place id low high refl (no_image_in_either id (all_of earlier) later none_first none_later)) are_first)

    -- the cells after the log are those that the events make
    cells_are : AreConsistent slots (8 * pages) (cells_after slots cells (stored_records events)) → cells_after slots cells (stored_records events) ≡ cells_of_log slots pages area (all_of earlier ++ later)
    cells_are after =
        of_log pages area (all_of earlier ++ later) (cells_after slots cells (stored_records events)) after (
        λ id low high.
        subst (λ (cs : List Cell). AreKnown pages before area (all_of earlier ++ later) cs) cells_same (known_all pages before area known small (all_of earlier) later cells ready fit_records images are_first)
        id low high (readable pages before area (all_of earlier ++ later) [] (λ id low high none none_later. in_place id low high refl none) id low high refl)
        )

-- the log makes the cells that the events make
pub makes_cells : MakesCellsLaw
makes_cells slots pages before area earlier later events cells known ended sound same logged images spelled within fit fit_unended after = record {
  spelled = all_spelled pages before area earlier later events cells ended same logged images spelled;
  fit_log = all_fit pages before area earlier later events cells ended same logged images within fit_unended;
  whole = pages_whole pages before area earlier later events cells ended same logged images;
  fit = cells_fit pages before area earlier later events cells ended same logged images known sound fit;
  are = cells_are pages before area earlier later events cells ended same logged images known sound fit after;
}

-- and the image opens to them
pub goes_on_with_images : GoesOnWithImagesLaw
goes_on_with_images slots pages image area before earlier later events cells known ended sound named log same logged images spelled within fit fit_unended after can =
    let made : List Cell = cells_after slots cells (stored_records events) in
    let both = all_both earlier later in
    let pages_same : AreSamePages pages (all_of earlier ++ all_of later) before image.pages = subst (λ (l : List (Record slots)). AreSamePages pages l before image.pages) both same in
    let makes : MakesCells pages image.pages (all_of (earlier ++ later)) made = subst (λ (l : List (Record slots)). MakesCells pages image.pages l made) (sym both) (
    makes_cells slots pages before image.pages earlier (all_of later) events cells known ended sound pages_same logged images spelled within fit fit_unended after
    ) in
    let tell : unended_behind (earlier ++ later) ≡ unended_after_all [] (stored_records events) =
    ap (λ (l : List (Record slots)). unended_by_all [] l) both ∙ unended_same pages before image.pages earlier (all_of later) events cells ended pages_same logged images in
    let read : AreCellsRead {slots = slots} image area pages (earlier ++ later) made = record {
      pages_read = record {
        read = record {
          named = named;
          log = record { batches_are = record { some = ended.read.some; few = ended.read.few; bodies = log.bodies.1; spelled = makes.spelled; fit = makes.fit_log }; log = log };
        };
        whole = makes.whole;
      };
      fit = makes.fit;
      are = makes.are;
    } in
    subst (λ (us : List (ℕ × Unended)). Opened slots image (OpensTo (restored slots made us))) tell (
    opens area pages (earlier ++ later) made read (consistent-rules slots (8 * pages) made after) (subst (λ (us : List (ℕ × Unended)). CanRestart slots made us) (sym tell) can)
    )
