-- A held page beside the cells of the store, when one cell changes.
use Rattle.std.proofs.Common.{◌≡◌, ℕ, ◌+◌, ◌-◌, ◌<◌, ◌≤◌, ◌⊎◌, false, List, length, map, get_or, set, take, drop, sym, ap, ◌∙◌, inl, inr, refl, arith}
use Rattle.std.proofs.Math.Seq.{take-set-lt}
use Rattle.std.proofs.lemmas.Bool.{ne_eqb, cases_eq}
use Rattle.std.proofs.lemmas.List.{length-map, map-set, get_or-map, get_or-set_same, get_or-take, get_or-drop, drop-set-lt, drop-set-add, take-set-le}
use Rattle.cell_model.specs.Cells.{Cell as StoredCell, blank_cell, cell_at, edit}
use Rattle.cell_page.specs.declared.cell.Cell.{Cell}
use Rattle.cell_page.specs.Format.{IsCell, IsPage, first_id, place_of}
use Rattle.cell_page.specs.Stored.{cell_of, page_of, HoldsPage, stored_at, edit_stored}
use Rattle.cell_page.proofs.Pages.{IsPage-set, place_within}

edit-is : (cells : List StoredCell) (id : ℕ) (f : StoredCell → StoredCell) → 0 < id → edit cells id f ≡ set cells id (f (cell_at cells id))
edit-is cells id f positive = rw (ne_eqb id 0 (λ e. omega arith)) refl

-- the held cell of an id is the store's
pub held_cell : {slots : ℕ} (cells : List StoredCell) (page id : ℕ) (held : List (Cell slots)) (d : Cell slots) → HoldsPage cells page held
    → first_id page ≤ id → id < first_id page + 8 → cell_of (get_or held (place_of id) d) ≡ cell_at cells id
held_cell cells page id held d holds low high =
    let place = place_within page id low high in
    let e : StoredCell = blank_cell false 0 in
    let within : place_of id < 8 = omega arith in
    let at : first_id page + place_of id ≡ id = omega arith in
    sym (get_or-map cell_of held (place_of id) d e (omega (arith, holds.rules.eight)))
    ∙ ap (λ (xs : List StoredCell). get_or xs (place_of id) e) holds.same
    ∙ get_or-take 8 (drop (first_id page) cells) (place_of id) e within
    ∙ get_or-drop (first_id page) cells (place_of id) e
    ∙ ap (λ (n : ℕ). get_or cells n e) at

-- the page's cells in the store, when one of them changes
page-edited : (cells : List StoredCell) (page id : ℕ) (f : StoredCell → StoredCell) → first_id page ≤ id → id < first_id page + 8 → page_of (edit cells id f) page ≡ set (page_of cells page) (place_of id) (f (cell_at cells id))
page-edited cells page id f low high =
    let place = place_within page id low high in
    let within : place_of id < 8 = omega arith in
    let at : first_id page + place_of id ≡ id = omega arith in
    let v = f (cell_at cells id) in
    ap (λ (xs : List StoredCell). page_of xs page) (edit-is cells id f (omega arith))
    ∙ ap (λ (n : ℕ). take 8 (drop (first_id page) (set cells n v))) (sym at)
    ∙ ap (λ (xs : List StoredCell). take 8 xs) (drop-set-add (first_id page) cells (place_of id) v)
    ∙ take-set-lt 8 (drop (first_id page) cells) (place_of id) v within

-- the cell of an id of the page changes in the store, and in the held page
pub HoldsPage-edit : {slots : ℕ} (cells : List StoredCell) (page id : ℕ) (held : List (Cell slots)) (c : Cell slots) (f : StoredCell → StoredCell) → HoldsPage cells page held
    → first_id page ≤ id → id < first_id page + 8 → IsCell id c → cell_of c ≡ f (cell_at cells id) → HoldsPage (edit cells id f) page (set held (place_of id) c)
HoldsPage-edit {slots} cells page id held c f holds low high cell is =
    let place = place_within page id low high in
    let at : first_id page + place_of id ≡ id = omega arith in
    record {
      rules = IsPage-set page held (place_of id) c holds.rules (rw at cell);
      same = map-set cell_of held (place_of id) c ∙ ap (λ (xs : List StoredCell). set xs (place_of id) (cell_of c)) holds.same
          ∙ ap (λ (x : StoredCell). set (page_of cells page) (place_of id) x) is ∙ sym (page-edited cells page id f low high);
    }

-- ---- a page whose cell changes where it stands

module _ {slots : ℕ} (cells : List StoredCell) (page id : ℕ) (held : List (Cell slots)) (holds : HoldsPage cells page held) (low : first_id page ≤ id) (high : id < first_id page + 8) where
  -- the store's cell
  pub stored-held : stored_at (map cell_of held) id ≡ cell_at cells id
  stored-held =
      let place = place_within page id low high in
      let e : StoredCell = blank_cell false 0 in
      let within : place_of id < 8 = omega arith in
      let at : first_id page + place_of id ≡ id = omega arith in
      ap (λ (xs : List StoredCell). get_or xs (place_of id) e) holds.same
      ∙ get_or-take 8 (drop (first_id page) cells) (place_of id) e within
      ∙ get_or-drop (first_id page) cells (place_of id) e
      ∙ ap (λ (n : ℕ). get_or cells n e) at

  module _ (new : List (Cell slots)) (f : StoredCell → StoredCell) (model : map cell_of new ≡ edit_stored (map cell_of held) id f) where
    pub HoldsPage-edited : IsPage page new → HoldsPage (edit cells id f) page new
    HoldsPage-edited rules = record {
      rules = rules;
      same = model
          ∙ ap (λ (xs : List StoredCell). set xs (place_of id) (f (stored_at (map cell_of held) id))) holds.same
          ∙ ap (λ (c : StoredCell). set (page_of cells page) (place_of id) (f c)) stored-held
          ∙ sym (page-edited cells page id f low high);
    }

    -- the changed cell
    pub stored-edited : stored_at (map cell_of new) id ≡ f (cell_at cells id)
    stored-edited =
        let place = place_within page id low high in
        let long : length (map cell_of held) ≡ 8 = length-map held cell_of ∙ holds.rules.eight in
        ap (λ (xs : List StoredCell). stored_at xs id) model
        ∙ get_or-set_same (map cell_of held) (place_of id) (f (stored_at (map cell_of held) id)) (blank_cell false 0) (omega (arith, long, place))
        ∙ ap f stored-held

-- the cell of an id of another page changes in the store
pub HoldsPage-other : {slots : ℕ} (cells : List StoredCell) (page id : ℕ) (held : List (Cell slots)) (f : StoredCell → StoredCell) → HoldsPage cells page held
    → (id < first_id page) ⊎ (first_id page + 8 ≤ id) → HoldsPage (edit cells id f) page held
HoldsPage-other cells page id held f holds apart = record {
  rules = holds.rules;
  same = holds.same ∙ sym (elim (cases_eq id 0) [
    | inl none ↦ rw none refl
    | inr some ↦ ap (λ (xs : List StoredCell). page_of xs page) (edit-is cells id f (omega arith)) ∙ kept cells page id (f (cell_at cells id)) apart
  ]);
}
  where
    kept : (cells : List StoredCell) (page id : ℕ) (v : StoredCell) → (id < first_id page) ⊎ (first_id page + 8 ≤ id) → page_of (set cells id v) page ≡ page_of cells page
    kept cells page id v (inl below) = ap (λ (xs : List StoredCell). take 8 xs) (drop-set-lt (first_id page) cells id v below)
    kept cells page id v (inr above) =
        let at : first_id page + (id - first_id page) ≡ id = omega arith in
        ap (λ (n : ℕ). take 8 (drop (first_id page) (set cells n v))) (sym at)
        ∙ ap (λ (xs : List StoredCell). take 8 xs) (drop-set-add (first_id page) cells (id - first_id page) v)
        ∙ take-set-le 8 (drop (first_id page) cells) (id - first_id page) v (omega arith)
