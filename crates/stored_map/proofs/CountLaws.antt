-- Counts of the ids that don't pass a test, where a few more pass it.
use Rattle.std.proofs.Common.{◌≡◌, ◌≢◌, ◌⊎◌, ⊎_elim, inl, inr, ℕ, zero, suc, ◌+◌, ◌<◌, ◌≤◌, Bool, true, false, List, [], ◌∷◌, length, refl, sym, ap, ◌∙◌, subst, arith, eqb, eq-eqb, ne_eqb}
use Rattle.std.specs.Prelude.{◌==◌, ◌||◌, if◌then◌else◌, Contains}
use Rattle.std.specs.List.{IsDistinct}
use Rattle.std.proofs.lemmas.Bool.{cases_eq, eqb-false}
use Rattle.std.proofs.lemmas.List.Elements.{All-contains, All-from_recursion}
use Rattle.std.proofs.lemmas.Map.Keys.{IsDistinct-head, IsDistinct-tail}
use Rattle.plain_laws.proofs.Ids.{or_left, or_right, or_cases, or_none, same_test}
use Rattle.store_model.proofs.Lists.{Contains-here, Contains-later}
use Rattle.store_model.proofs.OnceLaws.{nothing-in}
use Rattle.store_model.proofs.StepLaws.{Contains-cons}
use Rattle.stored_map.specs.Graphs.{count_beside}

-- what passes the test, or is this id
abbrev pub or_id : (ℕ → Bool) → ℕ → ℕ → Bool
or_id t x y = t y || (y == x)

-- what passes the test, or is one of these ids
abbrev pub or_ids : (ℕ → Bool) → List ℕ → ℕ → Bool
or_ids t [] = t
or_ids t (x ∷ xs) = or_ids (or_id t x) xs

-- ---- one id more

or_false : (a b : Bool) → b ≡ false → (a || b) ≡ a
or_false true b e = refl
or_false false b e = e

other_id : (t : ℕ → Bool) (x id : ℕ) → id ≢ x → or_id t x id ≡ t id
other_id t x id n = or_false (t id) (id == x) (ne_eqb id x n)

this_id : (t : ℕ → Bool) (x id : ℕ) → id ≡ x → or_id t x id ≡ true
this_id t x id e = or_right (t id) (id == x) (eq-eqb id x e)

-- below the ids that are counted it counts for nothing
count_past : (t : ℕ → Bool) (x id n : ℕ) → x < id → count_beside (or_id t x) id n ≡ count_beside t id n
count_past t x id zero l = refl
count_past t x id (suc n) l =
    let apart : id ≢ x = λ e. absurd (omega (arith, l, e)) in
    let next : x < id + 1 = omega (arith, l) in
    ap (λ b. if b then count_beside (or_id t x) (id + 1) n else suc (count_beside (or_id t x) (id + 1) n)) (other_id t x id apart)
    ∙ ap (λ k. if t id then k else suc k) (count_past t x (id + 1) n next)

-- among them one fewer doesn't pass
pub count_one : (t : ℕ → Bool) (x id n : ℕ) → t x ≡ false → id ≤ x → x < id + n → suc (count_beside (or_id t x) id n) ≡ count_beside t id n
count_one t x id zero f l m = absurd (omega (arith, l, m))
count_one t x id (suc n) f l m =
    let A = count_beside (or_id t x) (id + 1) n in
    let B = count_beside t (id + 1) n in
    ⊎_elim
    (λ (e : id ≡ x).
    let next : x < id + 1 = omega (arith, e) in
    let out : t id ≡ false = subst (λ y. t y ≡ false) (sym e) f in
    ap (λ b. suc (if b then A else suc A)) (this_id t x id e) ∙ (ap suc (count_past t x (id + 1) n next) ∙ sym (ap (λ b. if b then B else suc B) out)))
    (λ (e : id ≢ x).
    let low : id + 1 ≤ x = omega (arith, l, e) in
    let high : x < id + 1 + n = omega (arith, m) in
    let rest : suc A ≡ B = count_one t x (id + 1) n f low high in
    ap (λ b. suc (if b then A else suc A)) (other_id t x id e) ∙ (elim (t id) as (λ b. suc (if b then A else suc A) ≡ (if b then B else suc B)) [ true ↦ rest | false ↦ ap suc rest ]))
    (cases_eq id x)

-- one fewer at most
count_most : (t : ℕ → Bool) (x id n : ℕ) → count_beside t id n ≤ suc (count_beside (or_id t x) id n)
count_most t x id zero = omega arith
count_most t x id (suc n) =
    let A = count_beside (or_id t x) (id + 1) n in
    let B = count_beside t (id + 1) n in
    ⊎_elim
    (λ (e : id ≡ x).
    let next : x < id + 1 = omega (arith, e) in
    let past : A ≡ B = count_past t x (id + 1) n next in
    subst (λ b. (if t id then B else suc B) ≤ suc (if b then A else suc A)) (sym (this_id t x id e)) (elim (t id) as (λ b. (if b then B else suc B) ≤ suc A) [ true ↦ omega (arith, past) | false ↦ omega (arith, past) ]))
    (λ (e : id ≢ x).
    let rest : B ≤ suc A = count_most t x (id + 1) n in
    subst (λ b. (if t id then B else suc B) ≤ suc (if b then A else suc A)) (sym (other_id t x id e)) (elim (t id) as (λ b. (if b then B else suc B) ≤ suc (if b then A else suc A)) [ true ↦ rest | false ↦ omega (arith, rest) ]))
    (cases_eq id x)

-- ---- several ids more

apart_from : (x y : ℕ) (xs : List ℕ) → IsDistinct eqb (x ∷ xs) → Contains xs y → y ≢ x
apart_from x y xs d c e =
    let P : ℕ → Type 0 = λ z. eqb x z ≡ false in
    eqb-false x y (All-contains P xs y (All-from_recursion P xs (IsDistinct-head eqb x xs d)) c) (sym e)

-- so many fewer don't pass, where none of them passed before
pub count_all : (t : ℕ → Bool) (xs : List ℕ) (id n : ℕ) → IsDistinct eqb xs → ((x : ℕ) → Contains xs x → (t x ≡ false) × (id ≤ x) × (x < id + n)) → count_beside (or_ids t xs) id n + length xs ≡ count_beside t id n
count_all t [] id n d f = omega arith
count_all t (x ∷ xs) id n d f =
    let here = f x (Contains-here x xs) in
    let one = count_one t x id n here.0 here.1 here.2 in
    let rest = count_all (or_id t x) xs id n (IsDistinct-tail eqb x xs d)
    (λ y c.
    let there = f y (Contains-later x xs y c) in
    (or_none (t y) (y == x) there.0 (ne_eqb y x (apart_from x y xs d c)), there.1, there.2)) in
    omega (arith, one, rest)

-- so many fewer at most
pub most_all : (t : ℕ → Bool) (xs : List ℕ) (id n : ℕ) → count_beside t id n ≤ count_beside (or_ids t xs) id n + length xs
most_all t [] id n = omega arith
most_all t (x ∷ xs) id n =
    let one = count_most t x id n in
    let rest = most_all (or_id t x) xs id n in
    omega (arith, one, rest)

pub passes_ids : (t : ℕ → Bool) (xs : List ℕ) (y : ℕ) → (t y ≡ true) ⊎ Contains xs y → or_ids t xs y ≡ true
passes_ids t [] y w = ⊎_elim (λ (h : t y ≡ true). h) (λ (c : Contains [] y). nothing-in y c) w
passes_ids t (x ∷ xs) y w = ⊎_elim
    (λ (h : t y ≡ true). passes_ids (or_id t x) xs y (inl (or_left (t y) (y == x) h)))
    (λ (c : Contains (x ∷ xs) y). ⊎_elim
    (λ (e : x ≡ y). passes_ids (or_id t x) xs y (inl (this_id t x y (sym e))))
    (λ (k : Contains xs y). passes_ids (or_id t x) xs y (inr k))
    (Contains-cons x xs y c))
    w

pub which_passes : (t : ℕ → Bool) (xs : List ℕ) (y : ℕ) → or_ids t xs y ≡ true → (t y ≡ true) ⊎ Contains xs y
which_passes t [] y h = inl h
which_passes t (x ∷ xs) y h = ⊎_elim
    (λ (p : or_id t x y ≡ true). ⊎_elim
    (λ (q : t y ≡ true). inl q)
    (λ (q : (y == x) ≡ true). inr (subst (λ z. Contains (x ∷ xs) z) (same_test y x q) (Contains-here x xs)))
    (or_cases (t y) (y == x) p))
    (λ (c : Contains xs y). inr (Contains-later x xs y c))
    (which_passes (or_id t x) xs y h)

-- ---- a wider test

-- where more pass, no more don't
pub count_more : (t u : ℕ → Bool) (id n : ℕ) → ((x : ℕ) → t x ≡ true → u x ≡ true) → count_beside u id n ≤ count_beside t id n
count_more t u id zero f = omega arith
count_more t u id (suc n) f =
    let T = count_beside t (id + 1) n in
    let U = count_beside u (id + 1) n in
    let rest : U ≤ T = count_more t u (id + 1) n f in
    elim (t id) as (λ b. t id ≡ b → (if u id then U else suc U) ≤ (if b then T else suc T)) [
      | true ↦ λ e. subst (λ b. (if b then U else suc U) ≤ T) (sym (f id e)) rest
      | false ↦ λ e. elim (u id) as (λ b. (if b then U else suc U) ≤ suc T) [ true ↦ omega (arith, rest) | false ↦ omega (arith, rest) ]
    ] refl
