-- Where among the held frames that of a page stands, and how they agree with a store's cells.
use Rattle.std.proofs.Common.{◌≡◌, ℕ, zero, suc, ◌+◌, ◌<◌, true, false, List, [], ◌∷◌, length, map, get_or, set, take, refl, sym, ap, subst, ◌∙◌, arith}
use Rattle.std.specs.Prelude.{◌==◌}
use Rattle.std.proofs.Math.Seq.{take-set-lt}
use Rattle.std.proofs.lemmas.List.{length-take, get_or-take}
use Rattle.std.proofs.lemmas.List.Elements.{All-from_recursion}
use Rattle.cell_model.specs.Cells.{Cell as StoredCell, cell_at, is_live, edit}
use Rattle.cell_page.specs.declared.cell.Cell.{Cell}
use Rattle.cell_page.specs.Format.{IsCell, IsPage, HasId, first_id, page_of_id, place_of}
use Rattle.cell_page.specs.Stored.{cell_of, HoldsPage, stored_at, edit_stored}
use Rattle.cell_page.proofs.Pages.{place_within}
use Rattle.cell_page.proofs.HeldPages.{held_cell, stored-held, HoldsPage-edited, stored-edited}
use Rattle.core_store.specs.declared.three.HeldFrame.{HeldFrame}
use Rattle.core_store.specs.Frames.{pages_held, is_held, Agree}
use Rattle.core_store.proofs.PageLaws.{id-low, id-high}

-- the place of a page is within the frames
pub held-within : {slots : ℕ} (hs : List (HeldFrame slots)) (k page : ℕ) → is_held hs page ≡ true
    → ((j : ℕ) (d : HeldFrame slots) → j < k → ((get_or hs j d).page == page) ≡ false) → k < length hs
held-within [] k page held none = absurd cc
held-within (h ∷ hs) zero page held none = omega arith
held-within (h ∷ hs) (suc k) page held none =
    let other : (h.page == page) ≡ false = none 0 h (omega arith) in
    let rest = held-within hs k page (rw other at held) (λ j d m. none (suc j) d (omega arith)) in
    omega (arith, rest)

-- ---- a page in which an id lies

module _ {slots : ℕ} (cells : List StoredCell) (id : ℕ) (page : List (Cell slots)) (above : 0 < id) (holds : HoldsPage cells (page_of_id id) page) where
  pub IsCell-held : (c : Cell slots) → IsCell id (get_or page (place_of id) c)
  IsCell-held c =
      let w = place_within (page_of_id id) id (id-low id above) (id-high id above) in
      let at : first_id (page_of_id id) + place_of id ≡ id = omega arith in
      subst (λ (n : ℕ). IsCell n (get_or page (place_of id) c)) at (holds.rules.each (place_of id) c (omega arith))

  pub HasId-held : HasId page id
  HasId-held = record { above = above; there = λ c. (IsCell-held c).placed }

  pub cell-held : (c : Cell slots) → cell_of (get_or page (place_of id) c) ≡ cell_at cells id
  cell-held c = held_cell cells (page_of_id id) id page c holds (id-low id above) (id-high id above)

  -- as the laws of a store see it
  pub seen-held : stored_at (map cell_of page) id ≡ cell_at cells id
  seen-held = stored-held cells (page_of_id id) id page holds (id-low id above) (id-high id above)

  -- it changes where it stands
  module _ (new : List (Cell slots)) (f : StoredCell → StoredCell) (model : map cell_of new ≡ edit_stored (map cell_of page) id f) where
    pub seen-edited : stored_at (map cell_of new) id ≡ f (cell_at cells id)
    seen-edited = stored-edited cells (page_of_id id) id page holds (id-low id above) (id-high id above) new f model

    pub holds-edited : is_live cells id ≡ true → ((n : ℕ) → IsPage n page → (stored_at (map cell_of page) id).live ≡ true → IsPage n new) → HoldsPage (edit cells id f) (page_of_id id) new
    holds-edited live kept =
        HoldsPage-edited cells (page_of_id id) id page holds (id-low id above) (id-high id above) new f model (kept (page_of_id id) holds.rules (ap (λ (c : StoredCell). c.live) seen-held ∙ live))

-- ---- one of the held frames of a program

module _ {slots : ℕ} (cells : List StoredCell) (frames : List (HeldFrame slots)) (count place id : ℕ) (d : HeldFrame slots) (agree : Agree cells (take count frames))
    (above : 0 < id) (within : place < length (take count frames)) (here : (get_or (take count frames) place d).page ≡ page_of_id id) where
  frame-place : get_or frames place d ≡ get_or (take count frames) place d
  frame-place = sym (get_or-take count frames place d (let n = length-take count frames in omega (arith, n, within)))

  -- it is the page of the id
  pub holds-place : HoldsPage cells (page_of_id id) (get_or frames place d).frame.page
  holds-place = rw frame-place (subst (λ (p : ℕ). HoldsPage cells p (get_or (take count frames) place d).frame.page) here
      (All-from_recursion (λ h. HoldsPage cells h.page h.frame.page) (take count frames) agree place d within))

-- ---- a cell of one of them changes

pub pages-set : {slots : ℕ} (hs : List (HeldFrame slots)) (k : ℕ) (h d : HeldFrame slots) → h.page ≡ (get_or hs k d).page → pages_held (set hs k h) ≡ pages_held hs
pages-set [] k h d same = refl
pages-set (x ∷ hs) zero h d same = ap (λ (p : ℕ). p ∷ pages_held hs) same
pages-set (x ∷ hs) (suc k) h d same = ap (λ (ps : List ℕ). x.page ∷ ps) (pages-set hs k h d same)

module _ {slots : ℕ} (frames : List (HeldFrame slots)) (count place : ℕ) (h d : HeldFrame slots) (within : place < length (take count frames)) (same : h.page ≡ (get_or frames place d).page) where
  pub below : place < count
  below = let n = length-take count frames in omega (arith, n, within)

  pub take-place : take count (set frames place h) ≡ set (take count frames) place h
  take-place = take-set-lt count frames place h below

  pub same-place : h.page ≡ (get_or (take count frames) place d).page
  same-place = same ∙ ap (λ (x : HeldFrame slots). x.page) (sym (get_or-take count frames place d below))

  pub pages-place : pages_held (take count (set frames place h)) ≡ pages_held (take count frames)
  pages-place = ap (λ (hs : List (HeldFrame slots)). pages_held hs) take-place ∙ pages-set (take count frames) place h d same-place
