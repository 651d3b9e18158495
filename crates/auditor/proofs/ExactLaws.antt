-- A recount finds no difference where the counts are exact and the frames hold the store's pages.
use Rattle.std.proofs.Common.{◌≡◌, ◌≢◌, ℕ, zero, suc, ◌+◌, ◌*◌, ◌<◌, ◌≤◌, Bool, not, true, false, List, [], ◌++◌, length, map, get_or, refl, sym, ap, subst, ◌∙◌, inl, inr, arith}
use Rattle.std.specs.List.{range_with_len, flat_map}
use Rattle.std.proofs.lemmas.Bool.{eq-eqb, ne_eqb, cases_Bool}
use Rattle.std.proofs.lemmas.List.{length-map}
use Rattle.std.proofs.lemmas.Option.{slice_get-get_or}
use Rattle.cell_model.specs.Cells.{Cell as StoredCell, cell_at, is_live, pointer_at, pointers_to, own_strong}
use Rattle.cell_model.specs.Consistent.{AreConsistent}
use Rattle.cell_model.proofs.RecordLaws.{pointers_to-none}
use Rattle.cell_page.specs.declared.cell.Cell.{Cell}
use Rattle.cell_page.specs.Format.{free_cell, page_of_id}
use Rattle.cell_page.specs.Stored.{cell_of, HoldsPage}
use Rattle.cell_page.proofs.HeldPages.{held_cell}
use Rattle.core_store.specs.declared.frame.Frame.{Frame}
use Rattle.core_store.specs.Opening.{store_of}
use Rattle.core_store.specs.Frames.{AllAgree}
use Rattle.core_store.proofs.PageLaws.{id-low, id-high}
use Rattle.auditor.specs.declared.difference.Difference.{Difference}
use Rattle.auditor.specs.Recount.{joined, strong_found, weak_found, found_at, page_in, kept_at, difference_at, differences_of}

-- ---- what consistent cells tell is what is found

-- no pointer leads to a free cell
none-to_free : (slots ids : ℕ) (cells : List StoredCell) (id : ℕ) (bit : Bool) → AreConsistent slots ids cells → 0 < id → is_live cells id ≡ false → pointers_to cells id bit ≡ 0
none-to_free slots ids cells id bit h above free =
    pointers_to-none cells id bit (λ u k live e.
    let some : (pointer_at cells u k).target ≢ 0 = λ z. let no : id ≡ 0 = sym e ∙ z in absurd (omega (arith, no, above)) in
    let there : is_live cells id ≡ true = subst (λ (n : ℕ). is_live cells n ≡ true) e (h.exact.closed u k live some) in
    absurd (cc))

free-found : (slots ids : ℕ) (cells : List StoredCell) (id : ℕ) → AreConsistent slots ids cells → 0 < id → id ≤ ids → is_live cells id ≡ false → joined (cell_at cells id).strong (cell_at cells id).weak ≡ found_at cells id
free-found slots ids cells id h above within free =
    let inside : id < length cells = rw h.sized (omega (arith, within)) in
    let blank = h.empty id inside free in
    let strong : pointers_to cells id (cell_at cells id).bit ≡ 0 = none-to_free slots ids cells id (cell_at cells id).bit h above free in
    let weak : pointers_to cells id (not (cell_at cells id).bit) ≡ 0 = none-to_free slots ids cells id (not (cell_at cells id).bit) h above free in
    let other : id ≢ 1 = λ e. let live : is_live cells id ≡ true = subst (λ (n : ℕ). is_live cells n ≡ true) (sym e) h.exact.root_live in absurd (cc) in
    let own : own_strong id ≡ 0 = rw (ne_eqb id 1 other) refl in
    let kept : joined (cell_at cells id).strong (cell_at cells id).weak ≡ 0 = ap (λ (c : StoredCell). joined c.strong c.weak) blank in
    kept ∙ sym (ap (λ (n : ℕ). joined (n + own_strong id) (weak_found cells id)) strong ∙ ap (λ (n : ℕ). joined (0 + n) (weak_found cells id)) own ∙ ap (λ (n : ℕ). joined (0 + 0) n) weak)

told-found : (slots ids : ℕ) (cells : List StoredCell) (id : ℕ) → AreConsistent slots ids cells → 0 < id → id ≤ ids → joined (cell_at cells id).strong (cell_at cells id).weak ≡ found_at cells id
told-found slots ids cells id h above within =
    elim (cases_Bool (is_live cells id)) [
      | inl live ↦
          let e = h.exact.counts id live in
          ap (λ (n : ℕ). joined n (cell_at cells id).weak) e.strong ∙ ap (λ (n : ℕ). joined (strong_found cells id) n) e.weak
      | inr free ↦ free-found slots ids cells id h above within free
    ]

-- ---- what the frames keep is what the cells tell

kept-told : {slots : ℕ} (cells : List StoredCell) (frames : List (Frame slots)) (id : ℕ) → AllAgree cells frames → 0 < id → id ≤ 8 * length frames → kept_at frames id ≡ joined (cell_at cells id).strong (cell_at cells id).weak
kept-told {slots} cells frames id agree above within =
    let page = page_of_id id in
    let there : page < length frames = omega (arith, above, within) in
    let d : Frame slots = record { page = [] } in
    let holds : HoldsPage cells page (page_in frames page) = agree page (get_or frames page d) (slice_get-get_or frames page d there) in
    let is = held_cell cells page id (page_in frames page) (free_cell slots id) holds (id-low id above) (id-high id above) in
    ap (λ (c : StoredCell). joined c.strong c.weak) is

-- ---- there is no difference

none-at : {slots : ℕ} (ids : ℕ) (cells : List StoredCell) (frames : List (Frame slots)) (id : ℕ) → AreConsistent slots ids cells → AllAgree cells frames → 8 * length frames ≡ ids → 0 < id → id ≤ ids → difference_at cells frames id ≡ []
none-at {slots} ids cells frames id h agree size above within =
    let most : id ≤ 8 * length frames = omega (arith, size, within) in
    let same = kept-told cells frames id agree above most ∙ told-found slots ids cells id h above within in
    rw (eq-eqb (kept_at frames id) (found_at cells id) same) refl

flat_map-none : (f : ℕ → List Difference) (start count : ℕ) → ((k : ℕ) → start ≤ k → k < start + count → f k ≡ []) → flat_map f (range_with_len start count) ≡ []
flat_map-none f start zero none = refl
flat_map-none f start (suc count) none =
    ap (λ (ds : List Difference). ds ++ flat_map f (range_with_len (start + 1) count)) (none start (omega arith) (omega arith))
    ∙ flat_map-none f (start + 1) count (λ k low high. none k (omega (arith, low)) (omega (arith, high)))

pub none-differ : {slots : ℕ} (ids : ℕ) (cells : List StoredCell) (frames : List (Frame slots)) → AreConsistent slots ids cells → AllAgree cells frames → 8 * length frames ≡ ids → differences_of cells frames ≡ []
none-differ {slots} ids cells frames h agree size = flat_map-none (difference_at cells frames) 1 (8 * length frames) (λ k low high. none-at ids cells frames k h agree size (omega (arith, low)) (omega (arith, high, size)))

-- there is an opening cell for each id
pub opening-sized : {slots : ℕ} (ids : ℕ) (opening : List (Cell slots)) (cells : List StoredCell) → store_of opening ≡ cells → length cells ≡ suc ids → length opening ≡ ids
opening-sized ids opening cells is sized =
    let same : suc (length (map cell_of opening)) ≡ suc ids = ap length is ∙ sized in
    omega (arith, same, length-map opening cell_of)
