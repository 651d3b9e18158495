-- A store that is made with pages opens to their cells.
use Rattle.std.proofs.Common.{◌≡◌, ℕ, zero, suc, ◌+◌, ◌*◌, ◌<◌, Bool, true, false, List, [], ◌∷◌, ◌++◌, length, take, drop, get_or, inl, inr, refl, sym, ◌∙◌, ap, subst, arith, append_assoc}
use Rattle.std.specs.Prelude.{◌==◌, ◌%◌, if◌then◌else◌}
use Rattle.std.specs.List.{flat_map}
use Rattle.std.proofs.lemmas.List.{append-nil, take_at, drop_at, drop-drop, ext_get_or}
use Rattle.std.proofs.lemmas.List.FromFn.{get_or-map-range_with_len, length-map-range_with_len}
use Rattle.cell_model.specs.Cells.{blank_cell, cell_at}
use Rattle.cell_page.specs.declared.cell.Cell.{Cell}
use Rattle.cell_page.specs.Format.{IsSlotCount, AreTyped, Spells, page_size, page_bytes, free_cell, page_of_id, place_of}
use Rattle.cell_page.specs.Fields.{cell_in, bytes_at, FailsAt}
use Rattle.cell_page.specs.Stored.{cell_of}
use Rattle.cell_page.proofs.Pages.{page_refused, cell_spelled}
use Rattle.disk_model.specs.declared.area.Area.TheVariants.{LogA, LogB}
use Rattle.disk_model.specs.Areas.{in_area}
use Rattle.gate_log.specs.Batches.{IsLog, most_bytes}
use Rattle.gate_log.proofs.Turned.{one_batch}
use Rattle.page_area.specs.Place.{bytes_of_page}
use Rattle.page_area.proofs.InPlaceLaws.{page_length}
use Rattle.log_replay.specs.Inside.{cells_of_pages}
use Rattle.log_replay.proofs.PageLists.{length-cells_of_pages, cell_at-cells_of_pages, stored_at-held, page_within, place_below}
use Rattle.opened_images.specs.Replayed.{cell_after, cell_in_place, cells_of_log}
use Rattle.opened_images.specs.Opened.{AreCellsRead, opens}
use Rattle.restart_store.specs.Fresh.{MayBeMade, store_of, first_body_of, fresh_log_area}
use Rattle.standby.specs.Laws.{MadeStoreLaw}

-- ---- the bytes of a page

-- pages of one length stand at their places
pub page_there : {slots : ℕ} (pages : List (List (Cell slots))) (p : ℕ) (more : List ℕ) → ((k : ℕ) → k < length pages → length (page_bytes (get_or pages k [])) ≡ page_size slots) → p < length pages
    → bytes_of_page slots p (flat_map page_bytes pages ++ more) ≡ page_bytes (get_or pages p [])
page_there [] p more long below = absurd (omega (arith, below))
page_there {slots} (page ∷ pages) zero more long below =
    let none : page_size slots * 0 ≡ 0 = omega arith in
    let all = (page_bytes page ++ flat_map page_bytes pages) ++ more in
    ap (λ (n : ℕ). take (page_size slots) (drop n all)) none ∙ ap (λ (l : List ℕ). take (page_size slots) l) (append_assoc (page_bytes page) (flat_map page_bytes pages) more)
    ∙ take_at (page_bytes page) (flat_map page_bytes pages ++ more) (page_size slots) (long 0 (omega arith))
page_there {slots} (page ∷ pages) (suc p) more long below =
    let size = page_size slots in
    let rest = flat_map page_bytes pages ++ more in
    let far : size * suc p ≡ size + size * p = omega arith in
    ap (λ (n : ℕ). take size (drop n ((page_bytes page ++ flat_map page_bytes pages) ++ more))) far
    ∙ ap (λ (l : List ℕ). take size (drop (size + size * p) l)) (append_assoc (page_bytes page) (flat_map page_bytes pages) more)
    ∙ ap (λ (l : List ℕ). take size l) (skip (page_bytes page) rest size (size * p) (long 0 (omega arith)))
    ∙ page_there pages p more (λ k low. long (suc k) (omega (arith, low))) (omega (arith, below))
  where
    skip : (p q : List ℕ) (n more : ℕ) → length p ≡ n → drop (n + more) (p ++ q) ≡ drop more q
    skip p q n more is = sym (drop-drop more n (p ++ q)) ∙ ap (λ (l : List ℕ). drop more l) (drop_at p q n is)

module _ {slots : ℕ} (known : IsSlotCount slots) (pages : List (List (Cell slots))) (made : MayBeMade pages) where
  bytes_there : (p : ℕ) → p < length pages → bytes_of_page slots p (flat_map page_bytes pages) ≡ page_bytes (get_or pages p [])
  bytes_there p below = ap (λ (l : List ℕ). bytes_of_page slots p l) (sym (append-nil (flat_map page_bytes pages))) ∙ page_there pages p [] (λ k low. let each = made.each k low in page_length k (get_or pages k []) known each.0 each.1) below

  spells : (p : ℕ) → p < length pages → Spells p (get_or pages p []) (page_bytes (get_or pages p []))
  spells p below = record { rules = (made.each p below).0; spelled = refl }

  typed : (p : ℕ) → p < length pages → AreTyped (get_or pages p [])
  typed p below = (made.each p below).1

  -- no page is damaged
  pages_whole : (p at : ℕ) → p < length pages → FailsAt slots p (bytes_of_page slots p (flat_map page_bytes pages)) at → ⊥
  pages_whole p at below fails = by (subst (λ (bytes : List ℕ). FailsAt slots p bytes at) (bytes_there p below) fails)
    where
      by : FailsAt slots p (page_bytes (get_or pages p [])) at → ⊥
      by (inl short) = let each = made.each p below in let long = page_length p (get_or pages p []) known each.0 each.1 in let less = short.0 in omega (arith, long, less)
      by (inr broken) =
          page_refused p broken.1.place broken.1.offset (page_bytes (get_or pages p [])) known broken.1.within broken.1.here (get_or pages p []) (typed p below) (spells p below)

  -- the cell of an id stands in place
  in_place : (id : ℕ) → 0 < id → id < 8 * length pages + 1 → cell_at (cells_of_pages pages) id ≡ cell_in_place slots (flat_map page_bytes pages) id
  in_place id some within =
      let p = page_of_id id in
      let place = place_of id in
      let below : p < length pages = page_within (length pages) id some within in
      let d : Cell slots = free_cell slots 0 in
      let page = get_or pages p [] in
      cell_at-cells_of_pages pages id within
      ∙ stored_at-held pages id some
      ∙ ap cell_of (cell_spelled p page (page_bytes page) place d known (typed p below) (spells p below) (place_below id))
      ∙ ap (λ (l : List ℕ). cell_of (cell_in slots (bytes_at slots l place))) (sym (bytes_there p below))

  -- so the cells of the pages are those in place
  cells_are : cells_of_pages pages ≡ cells_of_log slots (length pages) (flat_map page_bytes pages) []
  cells_are =
      let f = cell_after slots (flat_map page_bytes pages) [] in
      let sized = length-cells_of_pages pages in
      let many = length-map-range_with_len f 1 (8 * length pages) in
      ext_get_or (blank_cell false 0) (cells_of_pages pages) (cells_of_log slots (length pages) (flat_map page_bytes pages) []) (omega (arith, sized, many)) at
    where
      at : (i : ℕ) → i < length (cells_of_pages pages) → get_or (cells_of_pages pages) i (blank_cell false 0) ≡ get_or (cells_of_log slots (length pages) (flat_map page_bytes pages) []) i (blank_cell false 0)
      at zero below = cell_at-cells_of_pages pages 0 (omega arith)
      at (suc i) below =
          let f = cell_after slots (flat_map page_bytes pages) [] in
          let sized = length-cells_of_pages pages in
          let low : i < 8 * length pages = omega (arith, below, sized) in
          in_place (suc i) (omega arith) (omega (arith, low)) ∙ sym (get_or-map-range_with_len f 1 (8 * length pages) i (suc i) (blank_cell false 0) low (omega arith))

-- ---- the store

-- whichever log area is named, it has the first batch alone
log_there : {slots : ℕ} (pages : List (List (Cell slots))) (byte : ℕ) (b : Bool) → IsLog most_bytes (first_body_of slots (length pages) ∷ []) (in_area (store_of pages byte) (if b then LogA else LogB))
log_there {slots} pages byte true = one_batch (first_body_of slots (length pages)) (fresh_log_area slots (length pages)) (record { some = omega arith; fits = omega arith }) (omega arith) refl
log_there {slots} pages byte false = one_batch (first_body_of slots (length pages)) (fresh_log_area slots (length pages)) (record { some = omega arith; fits = omega arith }) (omega arith) refl

pub made_opens : MadeStoreLaw
made_opens slots byte pages known made kept =
    let read : AreCellsRead {slots = slots} (store_of pages byte) (if byte % 2 == 0 then LogA else LogB) (length pages) [] (cells_of_pages pages) = record {
      pages_read = record {
        read = record {
          named = refl;
          log = record { batches_are = record { some = made.some; few = made.few; bodies = tt; spelled = tt; fit = tt }; log = log_there pages byte (byte % 2 == 0) };
        };
        whole = λ p at below damaged. pages_whole known pages made p at below damaged.fails;
      };
      fit = tt;
      are = cells_are known pages made;
    } in
    opens (if byte % 2 == 0 then LogA else LogB) (length pages) [] (cells_of_pages pages) read kept tt
