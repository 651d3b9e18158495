-- A page in which one cell changes, as the laws of a store see it.
use Rattle.std.proofs.Common.{◌≡◌, ℕ, ◌+◌, ◌<◌, true, false, List, length, map, get_or, set, sym, ap, ◌∙◌, subst, arith}
use Rattle.std.proofs.Math.Seq.{map-set_same}
use Rattle.std.proofs.lemmas.List.{length-set, map-set, get_or-map, get_or-set_same}
use Rattle.cell_model.specs.Cells.{Cell as StoredCell, blank_cell}
use Rattle.cell_page.specs.declared.cell.Cell.{Cell}
use Rattle.cell_page.specs.Format.{IsCell, IsPage, first_id, place_of}
use Rattle.cell_page.specs.Stored.{cell_of, stored_at, edit_stored}
use Rattle.cell_page.proofs.Pages.{IsPage-set}

-- the page as a program has it, and the cell that stands at the id's place then
module _ {slots : ℕ} (cells now : List (Cell slots)) (id : ℕ) (d new : Cell slots) (view : cells ≡ now) (eight : length cells ≡ 8) where
  within : place_of id < length cells
  within = let e = eight in let below : place_of id < 8 = omega arith in omega (arith, e, below)

  found : stored_at (map cell_of cells) id ≡ cell_of (get_or cells (place_of id) d)
  found = get_or-map cell_of cells (place_of id) d (blank_cell false 0) within

  -- it is changed so in the page
  pub edited : (f : StoredCell → StoredCell) → cell_of new ≡ f (cell_of (get_or cells (place_of id) d)) → map cell_of (set cells (place_of id) new) ≡ edit_stored (map cell_of now) id f
  edited f model =
      map-set cell_of cells (place_of id) new
      ∙ (ap (λ (c : StoredCell). set (map cell_of cells) (place_of id) c) (model ∙ ap f (sym found))
      ∙ ap (λ (cs : List (Cell slots)). edit_stored (map cell_of cs) id f) view)

  -- of each cell stays what stays of the one that is changed
  pub edited-others : (f : Cell slots → Cell slots) → f new ≡ f (get_or cells (place_of id) d) → map f (set cells (place_of id) new) ≡ map f now
  edited-others f same = map-set_same f cells (place_of id) new d same ∙ ap (λ (cs : List (Cell slots)). map f cs) view

  -- and stands there then
  pub edited-at : cell_of new ≡ stored_at (map cell_of (set cells (place_of id) new)) id
  edited-at =
      let long = length-set cells (place_of id) new in
      let below = within in
      ap (λ (c : Cell slots). cell_of c) (sym (get_or-set_same cells (place_of id) new new within))
      ∙ sym (get_or-map cell_of (set cells (place_of id) new) (place_of id) new (blank_cell false 0) (omega (arith, long, below)))

  -- the page goes on to obey the rules where an object's cell does
  pub edited-rules : ((n : ℕ) → IsCell n (get_or cells (place_of id) d) → (get_or cells (place_of id) d).live ≡ true → IsCell n new)
      → (page : ℕ) → IsPage page now → (stored_at (map cell_of now) id).live ≡ true → IsPage page (set cells (place_of id) new)
  edited-rules kept page obeys live =
      let before = subst (λ (cs : List (Cell slots)). IsPage page cs) (sym view) obeys in
      let place : place_of id < 8 = omega arith in
      let alive = ap (λ (c : StoredCell). c.live) (sym found) ∙ (ap (λ (cs : List (Cell slots)). (stored_at (map cell_of cs) id).live) view ∙ live) in
      IsPage-set page cells (place_of id) new before (kept (first_id page + place_of id) (before.each (place_of id) d place) alive)
