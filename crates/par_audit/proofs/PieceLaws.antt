-- Pieces of a list, one after another, and what is found in them.
use Rattle.std.proofs.Common.{◌≡◌, ℕ, zero, suc, ◌+◌, ◌-◌, ◌*◌, ◌/◌, ◌%◌, ◌<◌, ◌≤◌, min, Bool, List, [], ◌∷◌, ◌++◌, length, map, take, drop, refl, sym, ap, ◌∙◌, arith, subst, Vec, Global}
use Rattle.std.specs.Prelude.{Result, Ok, Err, IfOk, MatchResult, ◌||◌}
use Rattle.std.specs.List.{All, AllZip, flat_map, list_any, range_with_len}
use native.Mathlib.Nat.{mul_comm}
use Rattle.std.proofs.Math.Seq.{drop-drop, take-add}
use Rattle.std.proofs.lemmas.Grind.{div_ceil_times}
use Rattle.std.proofs.lemmas.List.{take_all}
use Rattle.std.proofs.lemmas.List.Folds.{list_any-append}
use Rattle.cell_page.specs.declared.cell.Cell.{Cell as PageCell}
use Rattle.rayon.specs.Numbers.{nat_range}
use Rattle.par_audit.specs.Pieces.{piece_at}
use Rattle.par_audit.specs.Marks.{is_marked, is_in, is_named, slots_at, AreNames}

-- the pieces from one on, one after another
pub pieces-from : {X : Type 0} (size : ℕ) (xs : List X) (a n : ℕ) → flat_map (piece_at size xs) (range_with_len a n) ≡ take (n * size) (drop (a * size) xs)
pieces-from size xs a zero = let none : zero * size ≡ zero = omega arith in ap (λ (k : ℕ). take k (drop (a * size) xs)) (sym none)
pieces-from {X} size xs a (suc n) =
    ap (λ (ys : List X). take size (drop (a * size) xs) ++ ys) (pieces-from size xs (a + 1) n ∙ ap (λ (l : List X). take (n * size) l) next)
    ∙ (sym (take-add size (n * size) (drop (a * size) xs)) ∙ ap (λ (k : ℕ). take k (drop (a * size) xs)) long)
  where
    long : size + n * size ≡ suc n * size
    long = omega arith

    place : (a + 1) * size ≡ a * size + size
    place = omega arith

    next : drop ((a + 1) * size) xs ≡ drop size (drop (a * size) xs)
    next = ap (λ (k : ℕ). drop k xs) place ∙ sym (drop-drop size (a * size) xs)

-- so many that the list has no more are the whole list
pub pieces-whole : {X : Type 0} (size n : ℕ) (xs : List X) → length xs ≤ n * size → flat_map (piece_at size xs) (range_with_len 0 n) ≡ xs
pieces-whole {X} size n xs enough = pieces-from size xs 0 n ∙ ((let none : 0 * size ≡ 0 = omega arith in ap (λ (k : ℕ). take (n * size) (drop k xs)) none) ∙ take_all (n * size) xs enough)

-- the same with the numbers as a range
pub range-whole : {X : Type 0} (size n : ℕ) (xs : List X) → length xs ≤ n * size → flat_map (piece_at size xs) (nat_range 0 n) ≡ xs
range-whole size n xs enough =
    let all : n - 0 ≡ n = omega arith in
    ap (λ (k : ℕ). flat_map (piece_at size xs) (range_with_len 0 k)) all ∙ pieces-whole size n xs enough

-- so many pieces of a size that is rounded up hold all items
pub enough : (n p : ℕ) → 0 < p → n ≤ p * (n / p + min 1 (n % p))
enough n p some = subst (λ (k : ℕ). n ≤ k) (mul_comm (n / p + min 1 (n % p)) p) (div_ceil_times n p some).0

-- the union of the pieces' names is the whole's
pub names-any : {slots : ℕ} (cells : List (PageCell slots)) (ids id size : ℕ) (level ns : List ℕ) (ts : List (Vec ℕ Global)) → id / 64 < ids
    → AllZip (λ n t. AreNames cells (piece_at size level n) ids t.items) ns ts
    → list_any (λ t. is_marked t.items id) ts ≡ is_named cells (flat_map (piece_at size level) ns) id
names-any cells ids id size level [] [] within h = refl
names-any cells ids id size level [] (t ∷ ts) within h = absurd h
names-any cells ids id size level (n ∷ ns) [] within h = absurd h
names-any cells ids id size level (n ∷ ns) (t ∷ ts) within h =
    let rest = names-any cells ids id size level ns ts within h.1 in
    ap (λ (b : Bool). b || list_any (λ (u : Vec ℕ Global). is_marked u.items id) ts) (h.0.each id within)
    ∙ (ap (λ (b : Bool). is_named cells (piece_at size level n) id || b) rest
    ∙ sym (list_any-append (λ x. is_in (slots_at cells x) id) (piece_at size level n) (flat_map (piece_at size level) ns)))

pub names-wide : {slots : ℕ} (cells : List (PageCell slots)) (ids size : ℕ) (level ns : List ℕ) (ts : List (Vec ℕ Global))
    → AllZip (λ n t. AreNames cells (piece_at size level n) ids t.items) ns ts → All (λ (t : Vec ℕ Global). length t.items ≡ ids) ts
names-wide cells ids size level [] [] h = λ k d lt. absurd (omega (arith, lt))
names-wide cells ids size level [] (t ∷ ts) h = absurd h
names-wide cells ids size level (n ∷ ns) [] h = absurd h
names-wide cells ids size level (n ∷ ns) (t ∷ ts) h = at (λ k d lt. names-wide cells ids size level ns ts h.1 k d lt)
  where
    at : All (λ (u : Vec ℕ Global). length u.items ≡ ids) ts → All (λ (u : Vec ℕ Global). length u.items ≡ ids) (t ∷ ts)
    at rest zero d lt = h.0.len
    at rest (suc k) d lt = rest k d (omega (arith, lt))

-- what was collected into an `Ok`
pub collected : {C E : Type 0} (r : Result C E) (P : C → Type 0) (Q : E → Type 0) (S : C → Type 0) → MatchResult r P Q → ((v : C) → P v → S v) → IfOk r S
collected (Ok v) P Q S h f = f v h
collected (Err e) P Q S h f = tt

-- where each answer is `Ok`, the facts hold of what they hold
pub all-ok : {X Y : Type 0} (E : Type 0) (P : X → Y → Type 0) (xs : List X) (ys : List Y) → AllZip (λ (x : X) (r : Result Y E). IfOk r (P x)) xs (map Ok ys) → AllZip P xs ys
all-ok E P [] [] h = tt
all-ok E P [] (y ∷ ys) h = absurd h
all-ok E P (x ∷ xs) [] h = absurd h
all-ok E P (x ∷ xs) (y ∷ ys) h = (h.0, all-ok E P xs ys h.1)

pub both : {C E : Type 0} (r : Result C E) (P Q S : C → Type 0) → IfOk r P → IfOk r Q → ((v : C) → P v → Q v → S v) → IfOk r S
both (Ok v) P Q S h k f = f v h k
both (Err e) P Q S h k f = tt
