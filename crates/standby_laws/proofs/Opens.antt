-- The cells of a standby are those that the store opens to.
use Rattle.std.proofs.Common.{◌≡◌, ℕ, zero, suc, ◌+◌, ◌*◌, ◌<◌, ◌≤◌, Bool, true, false, List, [], length, get_or, Some, refl, sym, ap, subst, ◌∙◌, arith}
use Rattle.std.proofs.lemmas.List.{ext_get_or}
use Rattle.std.proofs.lemmas.List.FromFn.{get_or-map-range_with_len, length-map-range_with_len}
use Rattle.store_model.proofs.Lists.{get_or-zeros}
use Rattle.cell_model.specs.Cells.{Cell as StoredCell, blank_cell, cell_at}
use Rattle.cell_page.specs.declared.cell.Cell.{Cell}
use Rattle.cell_page.specs.Format.{IsSlotCount, page_of_id, place_of, free_cell}
use Rattle.cell_page.specs.Fields.{cell_in, bytes_at}
use Rattle.cell_page.specs.Stored.{cell_of, HoldsPage}
use Rattle.cell_page.proofs.HeldPages.{held_cell}
use Rattle.disk_model.specs.declared.area.Area.{Area}
use Rattle.disk_model.specs.Areas.{Bytes, in_area}
use Rattle.log_record.specs.declared.record.Record.{Record}
use Rattle.log_replay.specs.Inside.{cells_of_pages}
use Rattle.log_replay.proofs.PageLists.{length-cells_of_pages, cell_at-cells_of_pages, stored_at-held, id_of_place}
use Rattle.restart_laws.specs.Local.{has_image, replayed}
use Rattle.restart_laws.specs.Restored.{restored}
use Rattle.opened_images.specs.LogRecords.{all_of, unended_behind, IsRecordLog}
use Rattle.opened_images.specs.Opened.{Outcome, OpensTo, Opened, IsLogRead, no_store, damaged_log, unknown_version, damaged_page, unfit, unsound, stuck, opens}
use Rattle.opened_images.specs.Replayed.{items_of, cell_in_place, cell_after, cells_of_log}
use Rattle.opened_images.specs.WithImages.{is_imaged}
use Rattle.opened_images.proofs.AfterLog.{same_images}
use Rattle.opened_images.proofs.LogWays.{one_log}
use Rattle.opened_images.proofs.Marks.{page_of_id_in, page_of_store}
use Rattle.standby.specs.Following.{over_base, after_all}
use Rattle.standby_laws.specs.Fronts.{HasGoneOn}
use Rattle.standby_laws.proofs.Replays.{cells_many, cell_is, none_is, from_image}

-- ---- what the store opens to

same_cells : (a b : List StoredCell) → OpensTo a ≡ OpensTo b → a ≡ b
same_cells a b e = cc

some_area : (a b : Area) → Some a ≡ Some b → a ≡ b
some_area a b e = cc

-- the log of an image tells one list of batches
one_read : {slots : ℕ} → IsSlotCount slots → (image : Bytes) (a b : Area) (pages count : ℕ) (these those : List (List (Record slots))) → IsLogRead image a pages these → IsLogRead image b count those → (pages ≡ count) × (these ≡ those)
one_read {slots} known image a b pages count these those one other =
    let same : b ≡ a = some_area b a (sym other.named ∙ one.named) in
    one_log known (in_area image a) pages count these those one.log (subst (λ (area : Area). IsRecordLog count those (in_area image area)) same other.log)

-- the image opens to what the log makes of the pages in place, and what has not ended undone
opened_are : {slots : ℕ} → IsSlotCount slots → (image : Bytes) (at : Area) (count : ℕ) (log : List (List (Record slots))) (made : List StoredCell) (o : Outcome) → IsLogRead image at count log → Opened slots image o → o ≡ OpensTo made
    → made ≡ restored slots (cells_of_log slots count image.pages (all_of log)) (unended_behind log)
opened_are known image at count log made o read (no_store none) is = absurd (cc (is))
opened_are known image at count log made o read (damaged_log area place named damaged) is = absurd (cc (is))
opened_are known image at count log made o read (unknown_version area byte named version) is = absurd (cc (is))
opened_are known image at count log made o read (damaged_page area pages batches page place other low damaged least) is = absurd (cc (is))
opened_are known image at count log made o read (unfit area pages front before r after back other fit denied) is = absurd (cc (is))
opened_are known image at count log made o read (unsound area pages batches cells rule id other broken) is = absurd (cc (is))
opened_are known image at count log made o read (stuck area pages batches cells id other kept stuck_at) is = absurd (cc (is))
opened_are {slots} known image at count log made o read (opens area pages batches cells other kept can) is =
    let same = one_read known image at area count pages log batches read other.pages_read.read in
    let cells_are : cells ≡ cells_of_log slots count image.pages (all_of log) =
    other.are ∙ ap (λ (n : ℕ). cells_of_log slots n image.pages (all_of batches)) (sym same.0) ∙ ap (λ (l : List (List (Record slots))). cells_of_log slots count image.pages (all_of l)) (sym same.1) in
    sym (same_cells (restored slots cells (unended_behind batches)) made is)
    ∙ ap (λ (cs : List StoredCell). restored slots cs (unended_behind batches)) cells_are
    ∙ ap (λ (l : List (List (Record slots))). restored slots (cells_of_log slots count image.pages (all_of log)) (unended_behind l)) (sym same.1)

-- ---- the cells of the base

-- the pages of the base are those of these cells
abbrev pub HoldAll : {slots : ℕ} → List StoredCell → List (List (Cell slots)) → Type 0
HoldAll cells pages = (page : ℕ) → page < length pages → HoldsPage cells page (get_or pages page [])

base_cell : {slots : ℕ} (cells : List StoredCell) (pages : List (List (Cell slots))) (x : ℕ) → HoldAll cells pages → 1 ≤ x → x ≤ 8 * length pages → cell_at (cells_of_pages pages) x ≡ cell_at cells x
base_cell {slots} cells pages x hold above low =
    let at = page_of_store (length pages) x above low in
    let in_it = page_of_id_in (page_of_id x) x at.1 in
    cell_at-cells_of_pages pages x (omega (arith, low)) ∙ stored_at-held pages x (omega (arith, above))
    ∙ held_cell cells (page_of_id x) x (get_or pages (page_of_id x) []) (free_cell slots 0) (hold (page_of_id x) at.0) in_it.1.0 in_it.1.1

-- ---- a cell without an image

module _ {slots : ℕ} (cells : List StoredCell) (pages : List (List (Cell slots))) (front : List (List (Record slots))) (image : Bytes) (hold : HoldAll cells pages) (gone : HasGoneOn cells (length pages) front image) where
  -- it stands in place as in the base
  in_place : (x : ℕ) → 1 ≤ x → x ≤ 8 * length pages → has_image x (items_of (all_of front)) ≡ false → cell_at (cells_of_pages pages) x ≡ cell_in_place slots image.pages x
  in_place x above low none =
      let p = page_of_id x in
      let at = page_of_store (length pages) x above low in
      let in_it = page_of_id_in p x at.1 in
      let whole : x ≡ 8 * p + place_of x + 1 = omega (arith, id_of_place x (omega (arith, above))) in
      let unimaged : is_imaged p (all_of front) ≡ false = sym (same_images x p (place_of x) (items_of (all_of front)) in_it.2 whole) ∙ none in
      base_cell cells pages x hold above low
      ∙ sym ((gone.in_place p at.0).are x at.1)
      ∙ ap (λ (bytes : List ℕ). cell_of (cell_in slots (bytes_at slots bytes (place_of x)))) (sym (gone.same p at.0 unimaged))

  -- after the records it is what the store's log makes of it
  after_log : (b : Bool) (x : ℕ) → has_image x (items_of (all_of front)) ≡ b → 1 ≤ x → x ≤ 8 * length pages
      → replayed slots x (cell_at (cells_of_pages pages) x) (items_of (all_of front)) ≡ cell_after slots image.pages (all_of front) x
  after_log true x is above low = from_image slots x (cell_at (cells_of_pages pages) x) (cell_in_place slots image.pages x) (items_of (all_of front)) is
  after_log false x is above low = ap (λ (c : StoredCell). replayed slots x c (items_of (all_of front))) (in_place x above low is)

  -- so are all cells
  cells_after : (after_all (over_base pages) (all_of front)).cells ≡ cells_of_log slots (length pages) image.pages (all_of front)
  cells_after =
      let f = cell_after slots image.pages (all_of front) in
      let sized = length-cells_of_pages pages in
      let kept = cells_many (over_base pages) (all_of front) in
      let many = length-map-range_with_len f 1 (8 * length pages) in
      ext_get_or (blank_cell false 0) (after_all (over_base pages) (all_of front)).cells (cells_of_log slots (length pages) image.pages (all_of front)) (omega (arith, sized, kept, many)) at
    where
      at : (i : ℕ) → i < length (after_all (over_base pages) (all_of front)).cells
          → get_or (after_all (over_base pages) (all_of front)).cells i (blank_cell false 0) ≡ get_or (cells_of_log slots (length pages) image.pages (all_of front)) i (blank_cell false 0)
      at zero below =
          let sized = length-cells_of_pages pages in
          none_is (over_base pages) (all_of front) (omega (arith, sized)) ∙ cell_at-cells_of_pages pages 0 (omega arith)
      at (suc i) below =
          let f = cell_after slots image.pages (all_of front) in
          let sized = length-cells_of_pages pages in
          let kept = cells_many (over_base pages) (all_of front) in
          let low : i < 8 * length pages = omega (arith, below, sized, kept) in
          cell_is (over_base pages) (all_of front) (suc i) (λ p. get_or-zeros (length pages) p) (omega arith) (omega (arith, low, sized))
          ∙ after_log (has_image (suc i) (items_of (all_of front))) (suc i) refl (omega arith) (omega (arith, low))
          ∙ sym (get_or-map-range_with_len f 1 (8 * length pages) i (suc i) (blank_cell false 0) low (omega arith))

  -- the standby is promoted to what the store opens to
  pub promotes-opened : IsSlotCount slots → (opened : List StoredCell) → Opened slots image (OpensTo opened)
      → restored slots (after_all (over_base pages) (all_of front)).cells (unended_behind front) ≡ opened
  promotes-opened known opened o =
      ap (λ (cs : List StoredCell). restored slots cs (unended_behind front)) cells_after ∙ sym (opened_are known image gone.area (length pages) front opened (OpensTo opened) gone.read o refl)
