-- The slots of a cell, and its pointers.
use Rattle.std.proofs.Common.{add-one, ◌≡◌, ℕ, zero, suc, ◌+◌, ◌-◌, ◌≤◌, Bool, not, cond, List, [], ◌∷◌, ◌++◌, length, map, take, drop, set, get_or, refl, sym, ap, ◌∙◌}
use Rattle.std.specs.Prelude.{◌==◌, ◌&&◌, count_by}
use Rattle.std.specs.Int.{bit_at}
use Rattle.std.specs.List.{list_all}
use Rattle.std.proofs.lemmas.Bool.{eq-eqb, ne_eqb}
use Rattle.std.proofs.lemmas.List.{set-get_or, take_all, drop_all, append-nil}
use Rattle.std.proofs.lemmas.List.Sums.{sum_by-cons}
use Rattle.cell_model.specs.Cells.{Pointer, Cell, null, pointer_in, relink, switched, self_pointers, flipped}
use Rattle.cell_page.specs.Stored.{pointers_from}

pub list_all_pointers : (bits i : ℕ) (targets : List ℕ) → list_all (λ p. p.target == 0) (pointers_from bits i targets) ≡ list_all (λ target. target == 0) targets
list_all_pointers bits i [] = refl
list_all_pointers bits i (t ∷ ts) = ap (λ (b : Bool). (t == 0) && b) (list_all_pointers bits (i + 1) ts)

pub target_in-pointers : (bits i : ℕ) (targets : List ℕ) (slot : ℕ) → (get_or (pointers_from bits i targets) slot null).target ≡ get_or targets slot 0
target_in-pointers bits i [] slot = refl
target_in-pointers bits i (t ∷ ts) zero = refl
target_in-pointers bits i (t ∷ ts) (suc slot) = target_in-pointers bits (i + 1) ts slot

pub self_pointers-targets : (bits i : ℕ) (targets : List ℕ) (id : ℕ) → count_by (λ p. p.target == id) (pointers_from bits i targets) ≡ count_by (λ target. target == id) targets
self_pointers-targets bits i [] id = refl
self_pointers-targets bits i (t ∷ ts) id =
    let rest = self_pointers-targets bits (i + 1) ts id in
    let here = sum_by-cons (λ (p : Pointer). cond (p.target == id) 1 0) (record { target = t; bit = bit_at bits i == 1 }) (pointers_from bits (i + 1) ts) in
    let there = sum_by-cons (λ (target : ℕ). cond (target == id) 1 0) t ts in
    here ∙ (ap (λ (n : ℕ). cond (t == id) 1 0 + n) rest ∙ sym there)

-- ---- pointers to the object itself

pub switched-own : (id : ℕ) (p : Pointer) → p.target ≡ id → record { target = id; bit = not p.bit } ≡ switched id p
switched-own id p e = rw (eq-eqb p.target id e, e) refl

-- the pointer of a slot, laid in it again
pub relink-other : (id slot : ℕ) (c : Cell) → ((pointer_in c slot).target ≡ id → ⊥) → c ≡ relink slot (switched id (pointer_in c slot)) c
relink-other id slot c n = rw (ne_eqb (pointer_in c slot).target id n, set-get_or c.pointers slot null) refl

-- the first k of a list changed, and then one more
pub changed_more : {X : Type 0} (f : X → X) (xs : List X) (k : ℕ) (d : X)
    → set (map f (take k xs) ++ drop k xs) k (f (get_or (map f (take k xs) ++ drop k xs) k d)) ≡ map f (take (suc k) xs) ++ drop (suc k) xs
changed_more f [] zero d = refl
changed_more f [] (suc k) d = refl
changed_more f (x ∷ xs) zero d = refl
changed_more f (x ∷ xs) (suc k) d = ap (λ (rest : List _). f x ∷ rest) (changed_more f xs k d)

pub changed_all : {X : Type 0} (f : X → X) (xs : List X) (k : ℕ) → length xs ≤ k → map f (take k xs) ++ drop k xs ≡ map f xs
changed_all f xs k l = rw (take_all k xs l, drop_all k xs l) (append-nil (map f xs))

-- a cell whose own pointers are switched, and then its bit and its counts
pub flipped-switched : (id own : ℕ) (c mid : Cell) → mid ≡ record c { pointers = map (switched id) c.pointers } → own ≡ self_pointers id c
    → record { live = mid.live; bit = not mid.bit; strong = mid.weak - own; weak = own; payload = mid.payload; pointers = mid.pointers } ≡ flipped id c
flipped-switched id own c mid e f = rw (e, f) refl

-- a cell whose first k pointers are switched
abbrev pub switched_below : ℕ → ℕ → Cell → Cell
switched_below id k c = record c { pointers = map (switched id) (take k c.pointers) ++ drop k c.pointers }

-- and one more
pub switched_more : (id i k : ℕ) (first mid new : Cell) → i ≡ id → mid ≡ switched_below id k first → new ≡ relink k (switched i (pointer_in mid k)) mid → new ≡ switched_below id (k + 1) first
switched_more id i k first mid new same before after =
    after
    ∙ (rw (same, before) refl
    ∙ ap (λ (ps : List Pointer). let c : Cell = record first { pointers = ps } in c) (changed_more (switched id) first.pointers k null ∙ rw (add-one k) refl))
