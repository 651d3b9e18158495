-- A log of images opens to the pages that they are of.
use Rattle.std.proofs.Common.{◌≡◌, ◌≢◌, inr, ⊎_elim, ℕ, zero, suc, ◌+◌, ◌*◌, ◌<◌, ◌≤◌, Bool, true, false, List, [], ◌∷◌, ◌++◌, length, map, Option, Some, refl, sym, ap, subst, ◌∙◌, arith}
use Rattle.std.specs.Prelude.{◌||◌, ◌&&◌, nat_le}
use Rattle.std.proofs.lemmas.Bool.{le-leb, cases_lt}
use Rattle.std.proofs.lemmas.List.{append-nil}
use Rattle.cell_model.specs.Cells.{Cell, cell_at}
use Rattle.cell_model.specs.Records.{Record as StoredRecord, cells_after, AllFit}
use Rattle.cell_model.specs.Consistent.{AreConsistent}
use Rattle.cell_page.specs.declared.cell.Cell.{Cell as PageCell}
use Rattle.cell_page.specs.Stored.{cell_of, HoldsPage}
use Rattle.disk_model.specs.declared.area.Area.{Area}
use Rattle.disk_model.specs.Areas.{Bytes, in_area}
use Rattle.log_record.specs.declared.record.Record.{Record}
use Rattle.log_record.specs.declared.record.Record.TheVariants.{Image}
use Rattle.restart_laws.specs.Local.{is_in_page, has_image, records_in, AreImages}
use Rattle.restart_laws.specs.Unended.{Unended}
use Rattle.restart_laws.specs.Restored.{restored, CanRestart}
use Rattle.restart_laws.proofs.LocalLaws.{replayed-from}
use Rattle.restart_laws.proofs.RuleLaws.{consistent-rules}
use Rattle.opened_images.specs.LogRecords.{all_of, unended_by_all, unended_behind, HaveSpellings, AllFitLog}
use Rattle.opened_images.specs.Replayed.{items_of, cell_in_place, cell_after, cells_of_log, AllFitCells, IsDamagedPage}
use Rattle.opened_images.specs.Opened.{Opened, OpensTo, opens, AreCellsRead}
use Rattle.opened_images.specs.WithImages.{without_images, HaveImages}
use Rattle.opened_images.proofs.GoesOnCells.{of_log, not_zero}
use Rattle.opened_images.proofs.ImagesCells.{held_in_page}
use Rattle.opened_images.proofs.ImagesInLog.{spelled_with_images, fit_with_images}
use Rattle.opened_images.proofs.Marks.{page_of_store}
use Rattle.store_migration.specs.ImagedLogs.{images_from, ArePagesFrom, OpensToImagesLaw}

module _ {slots : ℕ} (pages : ℕ) (cells : List Cell) where
  -- the images are of the pages of these cells
  are_images : (page : ℕ) (frames : List (List (PageCell slots))) → page + length frames ≤ pages → ArePagesFrom page cells frames → HaveImages pages cells (images_from page frames)
  are_images page [] few are = tt
  are_images page (held ∷ more) few are = (omega (arith, few), are.0, are.1, are_images (suc page) more (omega (arith, few)) are.2)

  stand : (page : ℕ) (frames : List (List (PageCell slots))) → ArePagesFrom page cells frames → AreImages slots cells (items_of (images_from page frames))
  stand page [] are = tt
  stand page (held ∷ more) are = ((λ x inside. held_in_page page x held cells are.1 inside), stand (suc page) more are.2)

-- there is nothing but images
no_more : {slots : ℕ} (page : ℕ) (frames : List (List (PageCell slots))) → without_images (images_from page frames) ≡ []
no_more page [] = refl
no_more page (held ∷ more) = no_more (suc page) more

no_records : {slots : ℕ} (page : ℕ) (frames : List (List (PageCell slots))) → records_in (items_of (images_from page frames)) ≡ []
no_records page [] = refl
no_records page (held ∷ more) = no_records (suc page) more

none_unended : {slots : ℕ} (page : ℕ) (frames : List (List (PageCell slots))) → unended_by_all [] (images_from page frames) ≡ []
none_unended page [] = refl
none_unended page (held ∷ more) = none_unended (suc page) more

-- an image fits whatever the cells are
fit_any : {slots : ℕ} (pages : ℕ) (area : List ℕ) (done : List (Record slots)) (page : ℕ) (frames : List (List (PageCell slots))) → AllFitCells pages area done (images_from page frames) []
fit_any pages area done page [] = tt
fit_any pages area done page (held ∷ more) = (tt, fit_any pages area (done ++ Image page held ∷ []) (suc page) more)

in-page : (page id : ℕ) → 8 * page + 1 ≤ id → id ≤ 8 * page + 8 → is_in_page page id ≡ true
in-page page id low high = ap (λ (b : Bool). b && nat_le id (8 * page + 8)) (le-leb (8 * page + 1) id low) ∙ le-leb id (8 * page + 8) high

-- each page has one
imaged : {slots : ℕ} (page : ℕ) (frames : List (List (PageCell slots))) (id : ℕ) → 8 * page + 1 ≤ id → id ≤ 8 * (page + length frames) → has_image id (items_of (images_from page frames)) ≡ true
imaged page [] id low high = absurd (omega (arith, low, high))
imaged page (held ∷ more) id low high =
    ⊎_elim
    (λ (here : id < 8 * page + 9). ap (λ (b : Bool). b || has_image id (items_of (images_from (suc page) more))) (in-page page id low (omega (arith, here))))
    (λ (behind : 8 * page + 9 ≤ id).
    ap (λ (b : Bool). is_in_page page id || b) (imaged (suc page) more id (omega (arith, behind)) (omega (arith, high))) ∙ or_true (is_in_page page id))
    (cases_lt id (8 * page + 9))
  where
    or_true : (b : Bool) → (b || true) ≡ true
    or_true true = refl
    or_true false = refl

-- so the cells after the log are those of the pages
made : {slots : ℕ} (area : List ℕ) (cells : List Cell) (frames : List (List (PageCell slots))) → AreConsistent slots (8 * length frames) cells → ArePagesFrom 0 cells frames
    → cells ≡ cells_of_log slots (length frames) area (images_from 0 frames)
made {slots} area cells frames sound are =
    of_log (length frames) area (images_from 0 frames) cells sound (λ id low high.
    let none = no_records 0 frames in
    let start : Cell = cell_in_place slots area id in
    let end = replayed-from slots (items_of (images_from 0 frames)) cells sound.exact (subst (λ (rs : List (Option StoredRecord)). AllFit slots cells rs) (sym none) tt)
    (stand (length frames) cells 0 frames are) id (not_zero id low) start (inr (imaged 0 frames id (omega (arith, low)) (omega (arith, high)))) in
    sym (end ∙ ap (λ (rs : List (Option StoredRecord)). cell_at (cells_after slots cells rs) id) none))

pub opens_to_images : OpensToImagesLaw
opens_to_images slots image area cells frames known some few sound are named log =
    let pages : ℕ = length frames in
    let rs : List (Record slots) = images_from 0 frames in
    let images = are_images pages cells 0 frames (omega arith) are in
    let nothing = no_more 0 frames in
    let all : all_of (rs ∷ []) ≡ rs = append-nil rs in
    let spelled : HaveSpellings rs = spelled_with_images pages cells rs few images (subst (λ (l : List (Record slots)). HaveSpellings l) (sym nothing) tt) in
    let fit : AllFitLog pages [] rs = fit_with_images pages [] cells rs images (subst (λ (l : List (Record slots)). AllFitLog pages [] l) (sym nothing) tt) in
    let read : AreCellsRead {slots = slots} image area pages (rs ∷ []) cells = record {
      pages_read = record {
        read = record {
          named = named;
          log = record {
            batches_are = record {
              some = some;
              few = few;
              bodies = log.bodies.1;
              spelled = subst (λ (l : List (Record slots)). HaveSpellings l) (sym all) spelled;
              fit = subst (λ (l : List (Record slots)). AllFitLog pages [] l) (sym all) fit;
            };
            log = log;
          };
        };
        whole = λ page at low damaged.
            let has : has_image (8 * page + 1) (items_of (all_of (rs ∷ []))) ≡ true
            = ap (λ (l : List (Record slots)). has_image (8 * page + 1) (items_of l)) all ∙ imaged 0 frames (8 * page + 1) (omega arith) (omega (arith, low)) in
            let none = damaged.no_image in
            absurd (cc (has, none));
      };
      fit = subst (λ (l : List (Record slots)). AllFitCells pages image.pages [] l []) (sym all) (fit_any pages image.pages [] 0 frames);
      are = made image.pages cells frames sound are ∙ ap (λ (l : List (Record slots)). cells_of_log slots pages image.pages l) (sym all);
    } in
    let none : unended_behind (rs ∷ []) ≡ [] = ap (λ (l : List (Record slots)). unended_by_all [] l) all ∙ none_unended 0 frames in
    subst (λ (us : List (ℕ × Unended)). Opened slots image (OpensTo (restored slots cells us))) none (
    opens area pages (rs ∷ []) cells read (consistent-rules slots (8 * pages) cells sound) (subst (λ (us : List (ℕ × Unended)). CanRestart slots cells us) (sym none) tt)
    )
