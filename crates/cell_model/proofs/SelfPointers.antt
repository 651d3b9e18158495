-- An object with a weak pointer to itself: made strong, that pointer would be a cycle.
use Rattle.std.proofs.Common.{◌≡◌, ◌≢◌, ℕ, zero, suc, ◌<◌, List, [], ◌∷◌, true, false, refl, sym, length, arith}
use Rattle.cell_model.specs.Cells.{Cell, null, blank_cell, cell_at, pointer_at, is_live, is_strong, IsExactAt}
use Rattle.cell_model.specs.Strong.{one, HasNoStrongOut}
use Rattle.cell_model.specs.Laws.{SelfPointerLaw}
use Rattle.cell_model.proofs.StrongLaws.{path-first}

-- the root, and object 2, which points to itself
abbrev own_pointer : List Cell
own_pointer =
    blank_cell false 1
    ∷ record { live = true; bit = false; strong = 1; weak = 0; payload = 0; pointers = null ∷ [] }
    ∷ record { live = true; bit = false; strong = 0; weak = 1; payload = 0; pointers = record { target = 2; bit = true } ∷ [] }
    ∷ []

counts : (id : ℕ) → is_live own_pointer id ≡ true → IsExactAt own_pointer id
counts zero h = absurd (cc)
counts (suc zero) h = record { strong = refl; weak = refl }
counts (suc (suc zero)) h = record { strong = refl; weak = refl }
counts (suc (suc (suc k))) h = absurd (cc)

closed : (id slot : ℕ) → is_live own_pointer id ≡ true → (pointer_at own_pointer id slot).target ≢ 0 → is_live own_pointer (pointer_at own_pointer id slot).target ≡ true
closed zero slot h n = absurd (cc)
closed (suc zero) zero h n = absurd (n refl)
closed (suc zero) (suc k) h n = absurd (n refl)
closed (suc (suc zero)) zero h n = refl
closed (suc (suc zero)) (suc k) h n = absurd (n refl)
closed (suc (suc (suc k))) slot h n = absurd (cc)

empty : (id : ℕ) → id < length own_pointer → is_live own_pointer id ≡ false → cell_at own_pointer id ≡ blank_cell false 1
empty zero l h = refl
empty (suc zero) l h = absurd (cc)
empty (suc (suc zero)) l h = absurd (cc)
empty (suc (suc (suc k))) l h = absurd (omega (arith, l))

slotted : (id : ℕ) → is_live own_pointer id ≡ true → length (cell_at own_pointer id).pointers ≡ 1
slotted zero h = absurd (cc)
slotted (suc zero) h = refl
slotted (suc (suc zero)) h = refl
slotted (suc (suc (suc k))) h = absurd (cc)

-- no pointer is strong
no_strong : (id : ℕ) → HasNoStrongOut own_pointer id
no_strong id slot to s = by id slot to s.live s.target s.not_null s.strong
  where
    by : (id slot to : ℕ) → is_live own_pointer id ≡ true → (pointer_at own_pointer id slot).target ≡ to → to ≢ 0 → is_strong own_pointer (pointer_at own_pointer id slot) ≡ true → ⊥
    by zero slot to h t n k = absurd (cc)
    by (suc zero) zero to h t n k = n (sym t)
    by (suc zero) (suc j) to h t n k = n (sym t)
    by (suc (suc zero)) zero to h t n k = absurd (cc)
    by (suc (suc zero)) (suc j) to h t n k = n (sym t)
    by (suc (suc (suc j))) slot to h t n k = absurd (cc)

pub self-pointer : SelfPointerLaw
self-pointer = (
  own_pointer,
  record {
    exact = record { none = refl; root_live = refl; counts = counts; closed = closed };
    empty = empty;
    sized = refl;
    slotted = slotted;
    acyclic = λ id p. path-first own_pointer id p (no_strong id);
  },
  (record { live = refl; within = omega arith; target = refl; target_live = λ n. refl; strength = λ n. refl }, λ e. omega (arith, e)),
  no_strong 2,
  λ a. a 2 (one 0 2 (record { live = refl; target = refl; not_null = λ e. omega (arith, e); strong = refl })),
)
