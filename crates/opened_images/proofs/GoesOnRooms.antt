-- The counts of cells that records made one after another have room for one more, as a store has few slots.
use Rattle.std.proofs.Common.{◌≡◌, ◌≢◌, ℕ, zero, suc, ◌+◌, ◌*◌, ◌^◌, ◌<◌, ◌≤◌, Bool, true, false, not, cond, List, length, refl, subst, arith, ⊎_elim}
use Rattle.std.specs.Prelude.{◌==◌, count_by}
use Rattle.std.proofs.lemmas.List.Sums.{sum_by-le, count_by-le-length}
use Rattle.std.proofs.lemmas.List.{get_or_default}
use Rattle.cell_model.specs.Cells.{Cell, blank_cell, cell_at, is_live, aims, aims_in, pointers_to, own_strong, IsExact}
use Rattle.cell_model.specs.Consistent.{AreConsistent}
use Rattle.cell_model.proofs.EditLaws.{live-within, live-there}
use Rattle.cell_page.specs.Format.{IsSlotCount}
use Rattle.opened_images.proofs.FormedCells.{IsFormed}

-- The counts of the cells are exact, there is a cell for each id up to this one, and each is one of pages.
pub record AreReady (slots ids : ℕ) (cells : List Cell) : Type 0 where
  pub exact : IsExact cells
  pub sized : length cells ≡ suc ids
  pub formed : (id : ℕ) → 1 ≤ id → id ≤ ids → IsFormed slots (cell_at cells id)

-- consistent cells are so
pub ready_consistent : (slots ids : ℕ) (cells : List Cell) → AreConsistent slots ids cells → AreReady slots ids cells
ready_consistent slots ids cells k = record {
  exact = k.exact;
  sized = k.sized;
  formed = λ id low high. record { empty = k.empty id (omega (arith, high, k.sized)); slotted = k.slotted id };
}

-- a number that is not 0 is at least 1
at_least_one : (n : ℕ) → n ≢ 0 → 1 ≤ n
at_least_one zero some = absurd (some refl)
at_least_one (suc n) some = omega arith

-- each live cell has so many slots
slotted : (slots ids : ℕ) (cells : List Cell) → AreReady slots ids cells → (id : ℕ) → is_live cells id ≡ true → length (cell_at cells id).pointers ≡ slots
slotted slots ids cells k id live =
    let some = live-there cells id k.exact.none live in
    let within = live-within cells id live in
    (k.formed id (at_least_one id some) (omega (arith, within, k.sized))).slotted live

-- a cell has no more pointers than slots
aims_few : (c : Cell) (slots id : ℕ) (bit : Bool) → (c.live ≡ true → length c.pointers ≡ slots) → aims_in id bit c ≤ slots
aims_few c slots id bit sized = by c.live sized
  where
    by : (live : Bool) → (live ≡ true → length c.pointers ≡ slots) → cond live (count_by (aims id bit) c.pointers) 0 ≤ slots
    by true e = let few = count_by-le-length (aims id bit) c.pointers in omega (arith, e refl, few)
    by false e = omega arith

-- no more pointers lead to an object than there are slots
pointers_few : (slots ids : ℕ) (cells : List Cell) (id : ℕ) (bit : Bool) → AreReady slots ids cells → pointers_to cells id bit ≤ length cells * slots
pointers_few slots ids cells id bit k =
    sum_by-le (aims_in id bit) slots cells
    (λ i d low. subst (λ (c : Cell). aims_in id bit c ≤ slots) (get_or_default cells i (blank_cell false 0) d low) (aims_few (cell_at cells i) slots id bit (slotted slots ids cells k i)))

-- one more than there are slots leaves room
few_leave_room : (slots size count : ℕ) → IsSlotCount slots → size ≤ 8193 → count ≤ size * slots + 1 → count + 1 < 2 ^ 32
few_leave_room slots size count known small few =
    ⊎_elim
    (λ (six : slots ≡ 6). let few6 : count ≤ size * 6 + 1 = subst (λ (n : ℕ). count ≤ size * n + 1) six few in omega (arith, few6, small))
    (λ (fourteen : slots ≡ 14). let few14 : count ≤ size * 14 + 1 = subst (λ (n : ℕ). count ≤ size * n + 1) fourteen few in omega (arith, few14, small))
    known

-- what the strong count has besides pointers is 1 at most
own_few : (id : ℕ) → own_strong id ≤ 1
own_few id = by (id == 1)
  where
    by : (root : Bool) → cond root 1 0 ≤ 1
    by true = omega arith
    by false = omega arith

-- both counts of a live cell have room for one more
pub rooms : (slots ids : ℕ) (cells : List Cell) → IsSlotCount slots → ids ≤ 8192 → AreReady slots ids cells → (id : ℕ) → is_live cells id ≡ true
    → ((cell_at cells id).strong + 1 < 2 ^ 32) × ((cell_at cells id).weak + 1 < 2 ^ 32)
rooms slots ids cells known small k id live =
    let counts = k.exact.counts id live in
    let size : length cells ≤ 8193 = omega (arith, k.sized, small) in
    let strong = pointers_few slots ids cells id (cell_at cells id).bit k in
    let weak = pointers_few slots ids cells id (not (cell_at cells id).bit) k in
    let own = own_few id in (
      few_leave_room slots (length cells) (cell_at cells id).strong known size (omega (arith, counts.strong, strong, own)),
      few_leave_room slots (length cells) (cell_at cells id).weak known size (omega (arith, counts.weak, weak)),
    )
