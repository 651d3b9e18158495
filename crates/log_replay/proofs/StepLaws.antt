-- What a record asks of one cell, and a part of it that concerns the cell.
use Rattle.std.proofs.Common.{◌≡◌, ℕ, zero, suc, ◌<◌, Bool, List, [], ◌∷◌, true, false, length, get_or, refl, sym, ◌∙◌, arith}
use Rattle.std.specs.Prelude.{◌==◌, ◌&&◌, count_by}
use Rattle.std.specs.List.{list_all}
use Rattle.std.proofs.lemmas.Bool.{eq-eqb}
use Rattle.std.proofs.lemmas.Bool.Decides.{nat_tests}
use Rattle.cell_model.specs.Cells.{pointer_in, self_pointers}
use Rattle.cell_model.specs.Records.{HasNoPointer}
use Rattle.cell_page.specs.declared.cell.Cell.{Cell}
use Rattle.cell_page.specs.Stored.{cell_of}
use Rattle.cell_page.proofs.PointerLemmas.{length-pointers_from}
use Rattle.strength_counts.proofs.Slots.{target_in-pointers, self_pointers-targets}

-- ---- a slot that holds a target

pub slot_below : {slots : ℕ} (c : Cell slots) (slot : ℕ) → length c.slots ≡ slots → slot < slots → slot < length (cell_of c).pointers
slot_below c slot sized below = let l = length-pointers_from c.bits 0 c.slots in omega (arith, l, sized, below)

pub slot_target : {slots : ℕ} (c : Cell slots) (slot : ℕ) → get_or c.slots slot 0 ≡ (pointer_in (cell_of c) slot).target
slot_target c slot = sym (target_in-pointers c.bits 0 c.slots slot)

-- ---- an object without pointers

pub all-null : (targets : List ℕ) → ((slot : ℕ) → get_or targets slot 0 ≡ 0) → list_all (λ target. target == 0) targets ≡ true
all-null [] h = refl
all-null (t ∷ ts) h = rw (eq-eqb t 0 (h 0), all-null ts (λ slot. h (suc slot))) refl

both : (a b : Bool) → (a && b) ≡ true → (a ≡ true) × (b ≡ true)
both true b e = (refl, e)
both false b e = absurd (cc)

is_zero : (t : ℕ) → (t == 0) ≡ true → t ≡ 0
is_zero t e = grind (arith, nat_tests)

pub null-all : (targets : List ℕ) → list_all (λ target. target == 0) targets ≡ true → (slot : ℕ) → get_or targets slot 0 ≡ 0
null-all [] h slot = refl
null-all (t ∷ ts) h zero = let e = (both (t == 0) (list_all (λ target. target == 0) ts) h).0 in is_zero t e
null-all (t ∷ ts) h (suc k) = null-all ts (both (t == 0) (list_all (λ target. target == 0) ts) h).1 k

pub no_pointer : {slots : ℕ} (c : Cell slots) → list_all (λ target. target == 0) c.slots ≡ true → HasNoPointer (cell_of c)
no_pointer c h = λ slot. target_in-pointers c.bits 0 c.slots slot ∙ null-all c.slots h slot

pub no_target : {slots : ℕ} (c : Cell slots) → HasNoPointer (cell_of c) → list_all (λ target. target == 0) c.slots ≡ true
no_target c h = all-null c.slots (λ slot. sym (target_in-pointers c.bits 0 c.slots slot) ∙ h slot)

-- ---- an object's pointers to itself

pub own_pointers : {slots : ℕ} (c : Cell slots) (id : ℕ) → self_pointers id (cell_of c) ≡ count_by (λ target. target == id) c.slots
own_pointers c id = self_pointers-targets c.bits 0 c.slots id
