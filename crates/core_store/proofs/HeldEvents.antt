-- What is held tells of all cells that agree with it.
use Rattle.std.proofs.Common.{◌≡◌, ℕ, ◌+◌, ◌<◌, List, [], ◌∷◌, ◌++◌, get_or, drop, Bool, true, false, not, refl, if◌then◌else◌, sym, ap, ◌∙◌, subst, arith}
use Rattle.std.specs.Prelude.{◌==◌, ◌&&◌, ◌||◌}
use Rattle.std.proofs.lemmas.Bool.{eqb-true, eqb-false}
use Rattle.std.proofs.lemmas.List.{get_or-take, get_or-drop}
use Rattle.cell_model.specs.Cells.{Cell, Pointer, blank_cell, cell_at, pointer_in, pointer_at, same}
use Rattle.cell_page.specs.Format.{first_id, page_of_id, place_of}
use Rattle.cell_page.specs.Stored.{page_of}
use Rattle.core_store.specs.declared.three.HeldFrame.{HeldFrame}
use Rattle.core_store.specs.declared.round_at.RoundAt.{RoundAt}
use Rattle.core_store.specs.declared.round_at.RoundAt.TheVariants as at
use Rattle.core_store.specs.Frames.{is_held, Agree}
use Rattle.core_store.specs.Logged.{if_any, object_and_targets}
use Rattle.core_store.specs.Slots.{HoldsPagesOf}
use Rattle.core_store.specs.Changes.{is_counted_strong}
use Rattle.core_store.specs.RoundView.{is_event}
use Rattle.core_store.specs.Collecting.{objects_at}

-- ---- a page, a cell

pub page-same : {slots : ℕ} (a b : List Cell) (held : List (HeldFrame slots)) (page : ℕ) → Agree a held → Agree b held → is_held held page ≡ true → page_of a page ≡ page_of b page
page-same a b [] page x y e = absurd (cc)
page-same a b (h ∷ hs) page x y e = by (λ f. page-same a b hs page x.1 y.1 f) (h.page == page) refl e
  where
    by : (is_held hs page ≡ true → page_of a page ≡ page_of b page) → (k : Bool) → (h.page == page) ≡ k → (k || is_held hs page) ≡ true → page_of a page ≡ page_of b page
    by rest true is f = subst (λ (p : ℕ). page_of a p ≡ page_of b p) (eqb-true h.page page is) (sym x.0.same ∙ y.0.same)
    by rest false is f = rest f

cell-in_page : (cells : List Cell) (id : ℕ) → 0 < id → get_or (page_of cells (page_of_id id)) (place_of id) (blank_cell false 0) ≡ cell_at cells id
cell-in_page cells id above =
    let e : Cell = blank_cell false 0 in
    let page = page_of_id id in
    let within : place_of id < 8 = omega arith in
    let at : first_id page + place_of id ≡ id = omega (arith, above) in
    get_or-take 8 (drop (first_id page) cells) (place_of id) e within ∙ (get_or-drop (first_id page) cells (place_of id) e ∙ ap (λ (n : ℕ). get_or cells n e) at)

pub cell-same : {slots : ℕ} (a b : List Cell) (held : List (HeldFrame slots)) (id : ℕ) → Agree a held → Agree b held → 0 < id → is_held held (page_of_id id) ≡ true → cell_at a id ≡ cell_at b id
cell-same a b held id x y above there =
    sym (cell-in_page a id above) ∙ (ap (λ (cells : List Cell). get_or cells (place_of id) (blank_cell false 0)) (page-same a b held (page_of_id id) x y there) ∙ cell-in_page b id above)

-- ---- a pointer, and whether it is a strong one

module _ {slots : ℕ} (a b : List Cell) (held : List (HeldFrame slots)) (x : Agree a held) (y : Agree b held) (id slot : ℕ) (above : 0 < id) (pages : HoldsPagesOf held (object_and_targets a id slot 0)) where
  pointer-same : pointer_at a id slot ≡ pointer_at b id slot
  pointer-same = ap (λ (c : Cell). pointer_in c slot) (cell-same a b held id x y above pages.0)

  target-held : (n : ℕ) (rest : List ℕ) → HoldsPagesOf held (if_any n ++ rest) → (n == 0) ≡ false → is_held held (page_of_id n) ≡ true
  target-held n rest h some = (subst (λ (k : Bool). HoldsPagesOf held ((if k then [] else n ∷ []) ++ rest)) some h).0

  target-strong : (p : Pointer) → HoldsPagesOf held (if_any p.target ++ if_any 0) → (k : Bool) → (p.target == 0) ≡ k → (not k && same (cell_at a p.target).bit p.bit) ≡ (not k && same (cell_at b p.target).bit p.bit)
  target-strong p h true e = refl
  target-strong p h false e =
      let apart = eqb-false p.target 0 e in
      let some : 0 < p.target = omega (arith, apart) in
      ap (λ (c : Cell). same c.bit p.bit) (cell-same a b held p.target x y some (target-held p.target (if_any 0) h e))

  pub strong-same : is_counted_strong a (pointer_at a id slot) ≡ is_counted_strong b (pointer_at b id slot)
  strong-same = target-strong (pointer_at a id slot) pages.1 ((pointer_at a id slot).target == 0) refl ∙ ap (is_counted_strong b) pointer-same

-- the object's id isn't 0
abbrev pub IsAbove : RoundAt → Type 0
IsAbove (at.Look id slot) = 0 < id
IsAbove (at.Cut id slot) = 0 < id
IsAbove (at.Into «from» slot to) = 0 < «from»
IsAbove _ = Unit {0}

-- the next look has something to do in all of them or in none
pub event-same : {slots : ℕ} (a b : List Cell) (held : List (HeldFrame slots)) → Agree a held → Agree b held → (r : RoundAt) → IsAbove r → HoldsPagesOf held (objects_at a r) → is_event a r ≡ is_event b r
event-same a b held x y (at.Look id slot) above pages = strong-same a b held x y id slot above pages
event-same a b held x y (at.Cut id slot) above pages = ap (λ (p : Pointer). not (p.target == 0)) (pointer-same a b held x y id slot above pages)
event-same a b held x y (at.Into «from» slot to) above pages =
    ap (λ (p : Pointer). (p.target == to) && is_counted_strong a (pointer_at a «from» slot)) (pointer-same a b held x y «from» slot above pages)
    ∙ ap (λ (k : Bool). ((pointer_at b «from» slot).target == to) && k) (strong-same a b held x y «from» slot above pages)
event-same a b held x y (at.Seed id) above pages = refl
event-same a b held x y (at.Test id slot) above pages = refl
event-same a b held x y (at.Out «from» slot) above pages = refl
event-same a b held x y (at.Flip id) above pages = refl
event-same a b held x y (at.Strengthen «from» slot to) above pages = refl
event-same a b held x y (at.Copy id) above pages = refl
event-same a b held x y (at.Free id) above pages = refl
event-same a b held x y at.Queue above pages = refl
event-same a b held x y at.Judge above pages = refl
event-same a b held x y at.End above pages = refl
