-- Frames that were laid out of the pages of a store.
use Rattle.std.proofs.Common.{◌≡◌, false, ℕ, ◌+◌, ◌*◌, ◌<◌, List, [], map, length, get_or, drop, sym, ap, ◌∙◌, subst, arith, ⊎_elim}
use Rattle.std.proofs.lemmas.Bool.{cases_eq}
use Rattle.std.proofs.lemmas.List.{ext_get_or, get_or-map, get_or-take, get_or-drop, length-map}
use Rattle.std.proofs.lemmas.Option.{slice_get-get_or}
use Rattle.cell_model.specs.Cells.{Cell as StoredCell, blank_cell, cell_at}
use Rattle.cell_page.specs.declared.cell.Cell.{Cell}
use Rattle.cell_page.specs.Format.{IsPage, free_cell, page_of_id, place_of}
use Rattle.cell_page.specs.Stored.{cell_of, HoldsPage}
use Rattle.core_store.specs.declared.frame.Frame.{Frame}
use Rattle.core_store.specs.Opening.{ArePages, cells_in, stored_in}
use Rattle.core_store.proofs.OpeningIds.{opening-count, opening-agree}
use Rattle.log_replay.specs.Inside.{held_at, stored_at, cells_of_pages, AreStorePages}
use Rattle.log_replay.proofs.PageLists.{length-cells_of_pages, cell_at-cells_of_pages, stored_at-held, page_within, place_below, id_of_place}

-- the frames have these pages
abbrev pub HavePages : {slots : ℕ} → List (Frame slots) → List (List (Cell slots)) → Type 0
HavePages frames pages = map (λ f. f.page) frames ≡ pages

module _ {slots : ℕ} (frames : List (Frame slots)) (pages : List (List (Cell slots))) (have : HavePages frames pages) where
  pub frames-count : length frames ≡ length pages
  frames-count = sym (length-map frames (λ f. f.page)) ∙ ap length have

  -- a frame has the page of its number
  page-at : (p : ℕ) (d : Frame slots) → p < length frames → get_or pages p [] ≡ (get_or frames p d).page
  page-at p d l = ap (λ (ps : List (List (Cell slots))). get_or ps p []) (sym have) ∙ get_or-map (λ f. f.page) frames p d [] l

  pub frames-pages : AreStorePages pages → ArePages frames
  frames-pages are = record {
    each = λ p d l. let count = frames-count in subst (IsPage p) (page-at p d l) (are.each p (omega (arith, l, count)));
  }

  module _ (are : AreStorePages pages) where
    -- the cell of an id, in the frames and in the pages
    at-id : (id : ℕ) → 0 < id → id < 8 * length pages + 1 → cell_at (stored_in frames) id ≡ cell_of (held_at pages id)
    at-id id some within =
        let count = frames-count in
        let p = page_of_id id in
        let k = place_of id in
        let here : p < length pages = page_within (length pages) id some within in
        let inside : p < length frames = omega (arith, here, count) in
        let blank : Frame slots = record { page = [] } in
        let f = get_or frames p blank in
        let holds : HoldsPage (stored_in frames) p f.page = opening-agree frames (frames-pages are) p f (slice_get-get_or frames p blank inside) in
        let below = place_below id in
        let placed = id_of_place id some in
        let eight = holds.rules.eight in
        let sums : 8 * p + 1 + k ≡ id = placed in
        sym
        (ap (λ (page : List (Cell slots)). cell_of (get_or page k (free_cell slots 0))) (page-at p blank inside)
        ∙ sym (get_or-map cell_of f.page k (free_cell slots 0) (blank_cell false 0) (omega (arith, below, eight)))
        ∙ ap (λ (cs : List StoredCell). get_or cs k (blank_cell false 0)) holds.same
        ∙ get_or-take 8 (drop (8 * p + 1) (stored_in frames)) k (blank_cell false 0) below
        ∙ get_or-drop (8 * p + 1) (stored_in frames) k (blank_cell false 0)
        ∙ ap (cell_at (stored_in frames)) sums)

    -- the cells of the frames are those of the pages
    pub frames-cells : stored_in frames ≡ cells_of_pages pages
    frames-cells =
        let count = frames-count in
        let many = opening-count frames (frames-pages are) in
        let long = length-map (cells_in frames) cell_of in
        let other = length-cells_of_pages pages in
        ext_get_or (blank_cell false 0) (stored_in frames) (cells_of_pages pages) (omega (arith, count, many, long, other)) each
      where
        each : (id : ℕ) → id < length (stored_in frames) → get_or (stored_in frames) id (blank_cell false 0) ≡ get_or (cells_of_pages pages) id (blank_cell false 0)
        each id l =
            let count = frames-count in
            let many = opening-count frames (frames-pages are) in
            let long = length-map (cells_in frames) cell_of in
            let below : id < 8 * length pages + 1 = omega (arith, l, count, many, long) in
            sym
            (cell_at-cells_of_pages pages id below
            ∙ ⊎_elim
            (λ (e : id ≡ 0). ap (stored_at pages) e ∙ sym (ap (cell_at (stored_in frames)) e))
            (λ n. let some : 0 < id = omega (arith, n) in stored_at-held pages id some ∙ sym (at-id id some below))
            (cases_eq id 0))
