-- The unreached objects are the garbage.
use Rattle.std.proofs.Common.{◌≡◌, ℕ, zero, suc, ◌+◌, ◌≤◌, Bool, true, false, not, cond, List, refl, sym, ap, arith, ne_eqb}
use Rattle.std.specs.Prelude.{◌&&◌, ◌==◌, count_by}
use Rattle.std.specs.List.{range_with_len}
use Rattle.std.proofs.lemmas.List.Sums.{sum_by-cons}
use Rattle.cell_model.specs.Cells.{Cell, is_live}
use Rattle.par_audit.specs.Marks.{is_marked, is_reached, AreObjects}
use Rattle.par_audit.specs.Garbage.{garbage_in}

-- what is the same from an id on is counted the same
count-same : (p q : ℕ → Bool) (a n : ℕ) → ((id : ℕ) → a ≤ id → p id ≡ q id) → count_by p (range_with_len a n) ≡ count_by q (range_with_len a n)
count-same p q a zero same = refl
count-same p q a (suc n) same =
    let x = sum_by-cons (λ (id : ℕ). cond (p id) 1 0) a (range_with_len (a + 1) n) in
    let y = sum_by-cons (λ (id : ℕ). cond (q id) 1 0) a (range_with_len (a + 1) n) in
    let here = ap (λ (b : Bool). let n : ℕ = cond b 1 0 in n) (same a (omega arith)) in
    let rest = count-same p q (a + 1) n (λ id low. same id (omega (arith, low))) in
    omega (arith, x, y, here, rest)

both : (n l u : Bool) → n ≡ true → (u ≡ true → (n && l) ≡ true) → u ≡ (l && not (n && l && not u))
both true true true e h = refl
both true true false e h = refl
both true false true e h = sym (h refl)
both true false false e h = refl
both false l u e h = absurd (cc)

-- the marked ids from 1 on are the live ones that aren't reached
pub unreached-garbage : (cells : List Cell) (table : List ℕ) (ids : ℕ) → AreObjects cells table
    → count_by (is_marked table) (range_with_len 1 ids) ≡ garbage_in cells (is_reached cells table) (range_with_len 1 ids)
unreached-garbage cells table ids objects =
    count-same (is_marked table) (λ id. is_live cells id && not (is_reached cells table id)) 1 ids
    (λ id low. both (not (id == 0)) (is_live cells id) (is_marked table id) (ap not (ne_eqb id 0 (λ e. absurd (omega (arith, e, low))))) (objects id))
