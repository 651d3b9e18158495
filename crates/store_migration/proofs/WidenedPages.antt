-- A page whose cells get null slots one after another.
use Rattle.std.proofs.Common.{◌≡◌, ◌≢◌, ⊎_elim, ℕ, ◌+◌, ◌-◌, ◌<◌, ◌≤◌, List, length, map, get_or, set, refl, sym, ap, subst, ◌∙◌, arith, get_or-set_same, get_or-set_other}
use Rattle.std.proofs.lemmas.Bool.{cases_eq}
use Rattle.std.proofs.lemmas.List.{length-map, get_or-map, ext_get_or, get_or_default}
use Rattle.cell_page.specs.declared.cell.Cell.{Cell}
use Rattle.cell_page.specs.Format.{IsCell, IsPage, IsTyped, AreTyped, free_cell, first_id, place_of, HasId}
use Rattle.cell_page.proofs.Pages.{HasId-from_page, IsPage-set, place_within}
use Rattle.store_migration.specs.Wider.{wide_cell, wide_page}
use Rattle.store_migration.proofs.WidePages.{wide-rules}

-- the first cells of the page have got their null slots
pub record IsWidening (number : ℕ) (held : List (Cell 6)) (count : ℕ) (wide : List (Cell 14)) : Type 0 where
  pub rules : IsPage number wide
  pub done : (place : ℕ) (d : Cell 14) (e : Cell 6) → place < count → get_or wide place d ≡ wide_cell (get_or held place e)

pub widening-none : (number : ℕ) (held : List (Cell 6)) (wide : List (Cell 14)) → IsPage number wide → IsWidening number held 0 wide
widening-none number held wide rules = record { rules = rules; done = λ place d e below. absurd (omega (arith, below)) }

module _ (number : ℕ) (held : List (Cell 6)) (count : ℕ) (wide : List (Cell 14)) (d : Cell 6) (rules : IsPage number held) (typed : AreTyped held) (low : count < length held) where
  within : count < 8
  within = omega (arith, low, rules.eight)

  at : (get_or held count d).id ≡ first_id number + count
  at = (rules.each count d within).placed

  pub has_place : IsWidening number held count wide → HasId wide (wide_cell (get_or held count d)).id
  has_place so = HasId-from_page number (get_or held count d).id wide so.rules (omega (arith, at)) (omega (arith, at, within))

  cell_rules : IsCell (first_id number + count) (wide_cell (get_or held count d))
  cell_rules = wide-rules (first_id number + count) (get_or held count d) (rules.each count d within) (typed count d low)

  pub widening-more : (new : List (Cell 14)) → IsWidening number held count wide → new ≡ set wide (place_of (wide_cell (get_or held count d)).id) (wide_cell (get_or held count d)) → IsWidening number held (count + 1) new
  widening-more new so put = subst (IsWidening number held (count + 1)) (sym all) whole where
    place : place_of (get_or held count d).id ≡ count
    place = place_within number (get_or held count d).id (omega (arith, at)) (omega (arith, at, within)) ∙ omega (arith, at)

    all : new ≡ set wide count (wide_cell (get_or held count d))
    all = put ∙ ap (λ (k : ℕ). set wide k (wide_cell (get_or held count d))) place

    each : (k : ℕ) (e : Cell 14) (f : Cell 6) → k < count + 1 → get_or (set wide count (wide_cell (get_or held count d))) k e ≡ wide_cell (get_or held k f)
    each k e f below =
        ⊎_elim
        (λ (here : k ≡ count).
        ap (λ (n : ℕ). get_or (set wide count (wide_cell (get_or held count d))) n e) here
        ∙ get_or-set_same wide count (wide_cell (get_or held count d)) e (omega (arith, within, so.rules.eight))
        ∙ ap wide_cell (get_or_default held count d f low)
        ∙ ap (λ (n : ℕ). wide_cell (get_or held n f)) (sym here))
        (λ (other : k ≢ count). get_or-set_other wide count k (wide_cell (get_or held count d)) e other ∙ so.done k e f (omega (arith, below, other)))
        (cases_eq k count)

    whole : IsWidening number held (count + 1) (set wide count (wide_cell (get_or held count d)))
    whole = record { rules = IsPage-set number wide count (wide_cell (get_or held count d)) so.rules cell_rules; done = each }

pub widening-all : (number : ℕ) (held : List (Cell 6)) (count : ℕ) (wide : List (Cell 14)) → IsPage number held → length held ≤ count → IsWidening number held count wide → wide ≡ wide_page held
widening-all number held count wide rules all so =
    ext_get_or (free_cell 14 0) wide (wide_page held) (so.rules.eight ∙ sym (length-map held wide_cell ∙ rules.eight)) (λ k below.
    let low : k < length held = omega (arith, below, so.rules.eight, rules.eight) in
    so.done k (free_cell 14 0) (free_cell 6 0) (omega (arith, low, all)) ∙ sym (get_or-map wide_cell held k (free_cell 6 0) (free_cell 14 0) low))
