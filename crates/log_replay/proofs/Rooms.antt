-- Counts are small: a store has few slots.
use Rattle.std.proofs.Common.{◌≡◌, ℕ, ◌+◌, ◌*◌, ◌^◌, ◌<◌, ◌≤◌, List, Bool, true, false, not, cond, refl, subst, length, arith, ⊎_elim}
use Rattle.std.specs.Prelude.{◌==◌, count_by}
use Rattle.std.proofs.lemmas.List.Sums.{sum_by-le, count_by-le-length}
use Rattle.std.proofs.lemmas.List.{get_or_default}
use Rattle.cell_model.specs.Cells.{Cell, blank_cell, cell_at, is_live, aims, aims_in, pointers_to, own_strong}
use Rattle.cell_model.specs.Consistent.{AreConsistent}
use Rattle.cell_page.specs.Format.{IsSlotCount}

-- a cell has no more pointers than slots
aims_in-le : (c : Cell) (slots b : ℕ) (bit : Bool) → (c.live ≡ true → length c.pointers ≡ slots) → aims_in b bit c ≤ slots
aims_in-le c slots b bit h =
    (elim c.live as (λ l. (l ≡ true → length c.pointers ≡ slots) → cond l (count_by (aims b bit) c.pointers) 0 ≤ slots) [
      | true ↦ λ h. let e = h refl in let le = count_by-le-length (aims b bit) c.pointers in omega (arith, e, le)
      | false ↦ λ h. omega arith
    ]) h

-- as many pointers lead to an object as there are slots at most
pub pointers_to-le : (slots ids : ℕ) (cells : List Cell) (b : ℕ) (bit : Bool) → AreConsistent slots ids cells → pointers_to cells b bit ≤ length cells * slots
pointers_to-le slots ids cells b bit k =
    sum_by-le (aims_in b bit) slots cells
    (λ i d l. subst (λ (c : Cell). aims_in b bit c ≤ slots) (get_or_default cells i (blank_cell false 0) d l) (aims_in-le (cell_at cells i) slots b bit (k.slotted i)))

-- a count of weak pointers has room for one more
pub room-weak : (slots ids : ℕ) (cells : List Cell) → IsSlotCount slots → AreConsistent slots ids cells → ids ≤ 8192 → (b : ℕ) → is_live cells b ≡ true → (cell_at cells b).weak + 1 < 2 ^ 32
room-weak slots ids cells count k few b live =
    let is = (k.exact.counts b live).weak in
    let le = pointers_to-le slots ids cells b (not (cell_at cells b).bit) k in
    ⊎_elim
    (λ (six : slots ≡ 6). let le6 : pointers_to cells b (not (cell_at cells b).bit) ≤ length cells * 6 = subst (λ n. pointers_to cells b (not (cell_at cells b).bit) ≤ length cells * n) six le in omega (arith, is, le6, k.sized, few))
    (λ (fourteen : slots ≡ 14). let le14 : pointers_to cells b (not (cell_at cells b).bit) ≤ length cells * 14 = subst (λ n. pointers_to cells b (not (cell_at cells b).bit) ≤ length cells * n) fourteen le in omega (arith, is, le14, k.sized, few))
    count

-- what the strong count has besides pointers is 1 at most
own-few : (b : ℕ) → own_strong b ≤ 1
own-few b = by (b == 1)
  where
    by : (t : Bool) → cond t 1 0 ≤ 1
    by true = omega arith
    by false = omega arith

-- a count of strong pointers has room for one more
pub room-strong : (slots ids : ℕ) (cells : List Cell) → IsSlotCount slots → AreConsistent slots ids cells → ids ≤ 8192 → (b : ℕ) → is_live cells b ≡ true → (cell_at cells b).strong + 1 < 2 ^ 32
room-strong slots ids cells count k few b live =
    let is = (k.exact.counts b live).strong in
    let own = own-few b in
    let all = pointers_to cells b (cell_at cells b).bit in
    let le = pointers_to-le slots ids cells b (cell_at cells b).bit k in
    ⊎_elim
    (λ (six : slots ≡ 6). let le6 : all ≤ length cells * 6 = subst (λ n. all ≤ length cells * n) six le in omega (arith, is, own, le6, k.sized, few))
    (λ (fourteen : slots ≡ 14). let le14 : all ≤ length cells * 14 = subst (λ n. all ≤ length cells * n) fourteen le in omega (arith, is, own, le14, k.sized, few))
    count
