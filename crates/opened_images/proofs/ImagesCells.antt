-- The cells after a log in which pages have images, where pages with an image may have any bytes in place.
use Rattle.std.proofs.Common.{◌≡◌, ◌⊎◌, inl, inr, ⊎_elim, ℕ, ◌+◌, ◌-◌, ◌*◌, ◌<◌, ◌≤◌, Bool, true, false, cond, List, [], ◌∷◌, ◌++◌, map, drop, refl, sym, ap, subst, ◌∙◌, append_assoc, arith}
use Rattle.std.specs.Prelude.{◌||◌, slice_index_or}
use Rattle.std.proofs.lemmas.Bool.{leb-true, and_parts}
use Rattle.std.proofs.lemmas.List.{append-nil, get_or-take, get_or-drop}
use Rattle.cell_model.specs.Cells.{Cell, blank_cell, cell_at}
use Rattle.cell_model.specs.Records.{after_record, cells_after, Fits, AllFit}
use Rattle.cell_page.specs.declared.cell.Cell.{Cell as PageCell}
use Rattle.cell_page.specs.Format.{IsSlotCount}
use Rattle.cell_page.specs.Stored.{cell_of, HoldsPage}
use Rattle.log_record.specs.declared.record.Record.{Record}
use Rattle.log_record.specs.declared.record.Record.TheVariants.{OfCells, Image, Turn}
use Rattle.log_record.specs.Records.{record_of}
use Rattle.restart_laws.specs.Local.{Item, OfCells as CellsItem, Image as ImageItem, effect, FitsAt, is_in_page, cell_in, replayed, has_image, records_in}
use Rattle.restart_laws.proofs.LocalLaws.{local-effect}
use Rattle.opened_images.specs.Replayed.{items_of, cell_in_place, cell_after, FitsCellsOf, AllFitCells}
use Rattle.opened_images.specs.WithImages.{HaveImages}
use Rattle.opened_images.proofs.AfterLog.{after_more}
use Rattle.opened_images.proofs.GoesOnRooms.{AreReady}
use Rattle.opened_images.proofs.GoesOnCells.{AreAfter, not_zero, fits_each, ready_after}
use Rattle.opened_images.proofs.ImagesInLog.{image_of_both, no_image_of_both}

-- ---- an image

-- the cell of an id in a page of the store
pub held_in_page : {slots : ℕ} (page id : ℕ) (held : List (PageCell slots)) (cells : List Cell) → HoldsPage cells page held → is_in_page page id ≡ true → cell_in page (map cell_of held) id ≡ cell_at cells id
held_in_page page id held cells holds inside =
    let parts = and_parts _ _ inside in
    let low = leb-true (8 * page + 1) id parts.0 in
    let high = leb-true id (8 * page + 8) parts.1 in
    let place : ℕ = id - (8 * page + 1) in
    let within : place < 8 = omega (arith, low, high) in
    let back : 8 * page + 1 + place ≡ id = omega (arith, low) in
    ap (λ (cs : List Cell). slice_index_or cs place (blank_cell false 0)) holds.same
    ∙ get_or-take 8 (drop (8 * page + 1) cells) place (blank_cell false 0) within
    ∙ get_or-drop (8 * page + 1) cells place (blank_cell false 0)
    ∙ ap (λ (n : ℕ). slice_index_or cells n (blank_cell false 0)) back

-- ---- what stands in place

-- where an id's page has an image, what its cell begins with is no matter
same_replayed : (slots id : ℕ) (c d : Cell) (items : List Item) → (has_image id items ≡ true) ⊎ (c ≡ d) → replayed slots id c items ≡ replayed slots id d items
same_replayed slots id c d [] (inl e) = absurd (cc)
same_replayed slots id c d [] (inr e) = e
same_replayed slots id c d (CellsItem r ∷ items) known = same_replayed slots id (effect slots r id c) (effect slots r id d) items (⊎_elim (λ e. inl e) (λ e. inr (ap (effect slots r id) e)) known)
same_replayed slots id c d (ImageItem page held ∷ items) known = by (is_in_page page id) known (λ known. same_replayed slots id c d items known)
  where
    by : (b : Bool) → ((b || has_image id items) ≡ true) ⊎ (c ≡ d) → ((has_image id items ≡ true) ⊎ (c ≡ d) → replayed slots id c items ≡ replayed slots id d items)
        → replayed slots id (cond b (cell_in page held id) c) items ≡ replayed slots id (cond b (cell_in page held id) d) items
    by true known rest = refl
    by false known rest = rest known

module _ {slots : ℕ} (pages : ℕ) (before area : List ℕ) where
  -- the id's page has an image among the records, or its cell stands in place as before
  abbrev pub IsReadable : ℕ → List (Record slots) → Type 0
  IsReadable id done = (has_image id (items_of done) ≡ true) ⊎ (cell_in_place slots area id ≡ cell_in_place slots before id)

  -- so is each that has no image among the records so far, nor among later ones
  abbrev pub AreSameInPlace : (done later : List (Record slots)) → Type 0
  AreSameInPlace done later = (id : ℕ) → 1 ≤ id → id ≤ 8 * pages → has_image id (items_of done) ≡ false → has_image id (items_of later) ≡ false → cell_in_place slots area id ≡ cell_in_place slots before id

  -- then each without a later image is readable
  pub readable : (done later : List (Record slots)) → AreSameInPlace done later → (id : ℕ) → 1 ≤ id → id ≤ 8 * pages → has_image id (items_of later) ≡ false → IsReadable id done
  readable done later same id low high none = by (has_image id (items_of done)) refl
    where
      by : (b : Bool) → has_image id (items_of done) ≡ b → IsReadable id done
      by true e = inl e
      by false e = inr (same id low high e none)

  -- the cell after the records is the same
  same_cell : (done : List (Record slots)) (id : ℕ) → IsReadable id done → cell_after slots area done id ≡ cell_after slots before done id
  same_cell done id known = same_replayed slots id (cell_in_place slots area id) (cell_in_place slots before id) (items_of done) known

  -- one record further
  one_further : (done : List (Record slots)) (r : Record slots) (later : List (Record slots))
      → AreSameInPlace done (r ∷ later) → AreSameInPlace (done ++ r ∷ []) later
  one_further done r later same id low high none_done none_later =
      let both = no_image_of_both id done (r ∷ []) none_done in
      same id low high both.0 (image_of_both id (r ∷ []) later ∙ ap (λ (b : Bool). b || has_image id (items_of later)) both.1 ∙ none_later)

  -- ---- records that were there before

  -- one that fitted the cells still does where more follows
  fits_still : (done : List (Record slots)) (r : Record slots) (rs more : List (Record slots)) → AreSameInPlace done (r ∷ (rs ++ more)) → FitsCellsOf pages before done r (rs ++ []) → FitsCellsOf pages area done r (rs ++ more)
  fits_still done (OfCells r) rs more same fits = λ id low high none.
      let first = no_image_of_both id rs more none in
      subst (λ (c : Cell). FitsAt (record_of r) id c) (sym (same_cell done id (readable done (rs ++ more) same id low high none)))
      (fits id low high (ap (λ (l : List (Record slots)). has_image id (items_of l)) (append-nil rs) ∙ first.0))
  fits_still done (Image page held) rs more same fits = tt
  fits_still done (Turn version count) rs more same fits = tt

  -- so do all
  pub fit_still : (done rs more : List (Record slots)) → AreSameInPlace done (rs ++ more) → AllFitCells pages before done rs [] → AllFitCells pages area done rs more
  fit_still done [] more same fit = tt
  fit_still done (r ∷ rs) more same fit = (fits_still done r rs more same fit.0, fit_still (done ++ r ∷ []) rs more (one_further done r (rs ++ more) same) fit.1)

  -- ---- records that follow

  -- these are the cells of all that is readable after these records
  abbrev pub AreKnown : List (Record slots) → List Cell → Type 0
  AreKnown done cells = (id : ℕ) → 1 ≤ id → id ≤ 8 * pages → IsReadable id done → cell_at cells id ≡ cell_after slots area done id

  -- the cells after a log are so
  pub known_first : (done : List (Record slots)) (cells : List Cell) → AreAfter pages before done cells → AreKnown done cells
  known_first done cells are id low high known = are id low high ∙ sym (same_cell done id known)

  -- a record of cells changes nothing of what is readable
  still_readable : (done : List (Record slots)) (r : Record slots) (id : ℕ) → has_image id (items_of (r ∷ [])) ≡ false → IsReadable id (done ++ r ∷ []) → IsReadable id done
  still_readable done r id none known = ⊎_elim (λ e. inl (by (has_image id (items_of done)) (sym (image_of_both id done (r ∷ []) ∙ ap (λ (b : Bool). has_image id (items_of done) || b) none) ∙ e))) (λ e. inr e) known
    where
      by : (b : Bool) → (b || false) ≡ true → b ≡ true
      by true e = refl
      by false e = e

  -- after one record of cells more
  known_of_cells : (done : List (Record slots)) (r : _) (cells : List Cell) → AreReady slots (8 * pages) cells → Fits cells (record_of r) → AreKnown done cells → AreKnown (done ++ OfCells r ∷ []) (after_record slots cells (record_of r))
  known_of_cells done r cells k fits are id low high known =
      local-effect slots cells (record_of r) k.exact.none fits id (not_zero id low)
      ∙ ap (λ (c : Cell). effect slots (record_of r) id c) (are id low high (still_readable done (OfCells r) id refl known))
      ∙ sym (after_more area done (OfCells r) id)

  -- after an image of a page of these cells
  known_of_image : (done : List (Record slots)) (page : ℕ) (held : List (PageCell slots)) (cells : List Cell) → HoldsPage cells page held → AreKnown done cells → AreKnown (done ++ Image page held ∷ []) cells
  known_of_image done page held cells holds are id low high known = by (is_in_page page id) refl ∙ sym (after_more area done (Image page held) id)
    where
      by : (b : Bool) → is_in_page page id ≡ b → cell_at cells id ≡ cond b (cell_in page (map cell_of held) id) (cell_after slots area done id)
      by true e = sym (held_in_page page id held cells holds e)
      by false e = are id low high (still_readable done (Image page held) id (ap (λ (b : Bool). b || false) e) known)

  -- and after another one
  known_of_turn : (done : List (Record slots)) (version count : ℕ) (cells : List Cell) → AreKnown done cells → AreKnown (done ++ Turn version count ∷ []) cells
  known_of_turn done version count cells are id low high known = are id low high (still_readable done (Turn version count) id refl known) ∙ sym (after_more area done (Turn version count) id)

  module _ (known : IsSlotCount slots) (small : 8 * pages ≤ 8192) where
    -- after all of these
    pub known_all : (done rs : List (Record slots)) (cells : List Cell) → AreReady slots (8 * pages) cells → AllFit slots cells (records_in (items_of rs)) → HaveImages pages cells rs → AreKnown done cells
        → AreKnown (done ++ rs) (cells_after slots cells (records_in (items_of rs)))
    known_all done [] cells k fit images are = subst (λ (l : List (Record slots)). AreKnown l cells) (sym (append-nil done)) are
    known_all done (OfCells r ∷ rs) cells k fit images are =
        subst (λ (l : List (Record slots)). AreKnown l (cells_after slots (after_record slots cells (record_of r)) (records_in (items_of rs)))) (append_assoc done (OfCells r ∷ []) rs) (
        known_all (done ++ OfCells r ∷ []) rs (after_record slots cells (record_of r)) (ready_after slots (8 * pages) cells (record_of r) known small k fit.0) fit.1 images (known_of_cells done r cells k fit.0 are)
        )
    known_all done (Image page held ∷ rs) cells k fit images are =
        subst (λ (l : List (Record slots)). AreKnown l (cells_after slots cells (records_in (items_of rs)))) (append_assoc done (Image page held ∷ []) rs) (
        known_all (done ++ Image page held ∷ []) rs cells k fit images.3 (known_of_image done page held cells images.2 are)
        )
    known_all done (Turn version count ∷ rs) cells k fit images are =
        subst (λ (l : List (Record slots)). AreKnown l (cells_after slots cells (records_in (items_of rs)))) (append_assoc done (Turn version count ∷ []) rs) (
        known_all (done ++ Turn version count ∷ []) rs cells k fit images (known_of_turn done version count cells are)
        )

    -- each of them fits the cells of the log
    pub fit_known : (done rs : List (Record slots)) (cells : List Cell) → AreReady slots (8 * pages) cells → AllFit slots cells (records_in (items_of rs)) → HaveImages pages cells rs → AreSameInPlace done rs → AreKnown done cells
        → AllFitCells pages area done rs []
    fit_known done [] cells k fit images same are = tt
    fit_known done (OfCells r ∷ rs) cells k fit images same are = (
      λ id low high none. subst (λ (c : Cell). FitsAt (record_of r) id c)
          (are id low high (readable done rs same id low high (ap (λ (l : List (Record slots)). has_image id (items_of l)) (sym (append-nil rs)) ∙ none)))
          (fits_each slots (8 * pages) cells (record_of r) known small k fit.0 id low),
      fit_known (done ++ OfCells r ∷ []) rs (after_record slots cells (record_of r)) (ready_after slots (8 * pages) cells (record_of r) known small k fit.0) fit.1 images
          (one_further done (OfCells r) rs same) (known_of_cells done r cells k fit.0 are),
    )
    fit_known done (Image page held ∷ rs) cells k fit images same are = (
      tt,
      fit_known (done ++ Image page held ∷ []) rs cells k fit images.3 (one_further done (Image page held) rs same) (known_of_image done page held cells images.2 are),
    )
    fit_known done (Turn version count ∷ rs) cells k fit images same are = (
      tt,
      fit_known (done ++ Turn version count ∷ []) rs cells k fit images (one_further done (Turn version count) rs same) (known_of_turn done version count cells are),
    )

-- records that fit the cells where others follow, and those that follow
pub fit_cells_on : {slots : ℕ} (pages : ℕ) (area : List ℕ) (before rs more later : List (Record slots)) → AllFitCells pages area before rs (more ++ later) → AllFitCells pages area (before ++ rs) more later → AllFitCells pages area before (rs ++ more) later
fit_cells_on {slots} pages area before [] more later f g = subst (λ (l : List (Record slots)). AllFitCells pages area l more later) (append-nil before) g
fit_cells_on {slots} pages area before (r ∷ rs) more later f g = (
  subst (λ (l : List (Record slots)). FitsCellsOf pages area before r l) (sym (append_assoc rs more later)) f.0,
  fit_cells_on pages area (before ++ r ∷ []) rs more later f.1 (subst (λ (l : List (Record slots)). AllFitCells pages area l more later) (sym (append_assoc before (r ∷ []) rs)) g),
)
