-- The first of some fields that breaks the rules.
use Rattle.std.proofs.Common.{◌≡◌, ℕ, ◌+◌, ◌≤◌, Bool, true, false, cond, List, [], ◌∷◌, ◌++◌, Option, Some, None, refl, sym, ap, ◌∙◌, eq-eqb}
use Rattle.std.specs.Prelude.{slice_index}
use Rattle.std.proofs.lemmas.Bool.{le-ltb}
use Rattle.cell_page.specs.declared.cell.Cell.{Cell}
use Rattle.cell_page.specs.Fields.{Field, cell_in, slot_fields, later_fields, rest_field, bits_break, first_broken, broken_in_cell}

-- ---- two parts of the fields

-- where none breaks the rules, the first doesn't, and of the others none
pub none_first : (b : Bool) (at : ℕ) (more : Option ℕ) → cond b (Some at) more ≡ None → (b ≡ false) × (more ≡ None)
none_first true at more h = absurd cc
none_first false at more h = (refl, h)

-- after fields that obey the rules the others decide
pub first_broken-append_none : (xs ys : List Field) → first_broken xs ≡ None → first_broken (xs ++ ys) ≡ first_broken ys
first_broken-append_none [] ys h = refl
first_broken-append_none (x ∷ xs) ys h =
    let both = none_first x.breaks x.at (first_broken xs) h in
    rw both.0 (first_broken-append_none xs ys both.1)

pub none_of-append : (xs ys : List Field) → first_broken (xs ++ ys) ≡ None → (first_broken xs ≡ None) × (first_broken ys ≡ None)
none_of-append [] ys h = (refl, h)
none_of-append (x ∷ xs) ys h =
    let both = none_first x.breaks x.at (first_broken (xs ++ ys)) h in
    let parts = none_of-append xs ys both.1 in
    (rw both.0 parts.0, parts.1)

some_first : (b : Bool) (at k : ℕ) (more most : Option ℕ) → (more ≡ Some k → most ≡ Some k) → cond b (Some at) more ≡ Some k → cond b (Some at) most ≡ Some k
some_first true at k more most next h = h
some_first false at k more most next h = next h

pub first_broken-append_some : (xs ys : List Field) (at : ℕ) → first_broken xs ≡ Some at → first_broken (xs ++ ys) ≡ Some at
first_broken-append_some [] ys at h = absurd cc
first_broken-append_some (x ∷ xs) ys at h =
    some_first x.breaks x.at at (first_broken xs) (first_broken (xs ++ ys)) (first_broken-append_some xs ys at) h

-- ---- a live cell

-- a slot may name any object
live_slots : (at : ℕ) (targets : List ℕ) → first_broken (slot_fields true at targets) ≡ None
live_slots at [] = refl
live_slots at (t ∷ ts) = live_slots (at + 4) ts

pub live_obeys : {slots : ℕ} (id : ℕ) (c : Cell slots) → bits_break c ≡ false → c.id ≡ id → c.live ≡ true → None ≡ first_broken (later_fields id c)
live_obeys id c bits placed live =
    rw (bits, eq-eqb c.id id placed, live) (sym (ap (λ (b : Bool). first_broken (slot_fields b 24 c.slots)) live ∙ live_slots 24 c.slots))

-- ---- a cell that begins with an allowed state and target bit

later_decide : (slots id : ℕ) (bytes : List ℕ) → slice_index bytes 0 ≤ 1 → slice_index bytes 1 ≤ slice_index bytes 0
    → broken_in_cell slots id bytes ≡ first_broken (later_fields id (cell_in slots bytes) ++ rest_field slots bytes ∷ [])
unfolding broken_in_cell
later_decide slots id bytes state bit = rw (le-ltb _ _ state, le-ltb _ _ bit) refl

pub later_breaks : (slots id at : ℕ) (bytes : List ℕ) → slice_index bytes 0 ≤ 1 → slice_index bytes 1 ≤ slice_index bytes 0
    → first_broken (later_fields id (cell_in slots bytes)) ≡ Some at → broken_in_cell slots id bytes ≡ Some at
later_breaks slots id at bytes state bit h =
    later_decide slots id bytes state bit ∙ first_broken-append_some (later_fields id (cell_in slots bytes)) (rest_field slots bytes ∷ []) at h

pub rest_decides : (slots id : ℕ) (bytes : List ℕ) → slice_index bytes 0 ≤ 1 → slice_index bytes 1 ≤ slice_index bytes 0
    → first_broken (later_fields id (cell_in slots bytes)) ≡ None → broken_in_cell slots id bytes ≡ first_broken (rest_field slots bytes ∷ [])
rest_decides slots id bytes state bit h =
    later_decide slots id bytes state bit ∙ first_broken-append_none (later_fields id (cell_in slots bytes)) (rest_field slots bytes ∷ []) h
