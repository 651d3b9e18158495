-- Members of a queue: who is left without an id, and who joins.
use Rattle.std.proofs.Common.{◌≡◌, ℕ, ◌+◌, ◌≢◌, true, false, not, ◌==◌, List, [], ◌∷◌, ◌++◌, length, eqb, cond, arith, refl, subst, ⊎_elim}
use Rattle.std.specs.List.{list_any, IsDistinct, AllByRecursion}
use Rattle.std.proofs.lemmas.Bool.{cases_eq}
use Rattle.std.proofs.lemmas.Bool.Decides.{nat_tests}
use Rattle.std.proofs.lemmas.Map.Keys.{IsDistinct-tail, IsDistinct-head}
use Rattle.ref_tables.specs.Queue.{has, joined, without, IsQueue}

-- an id that differs from all is not among them
has-none : (id : ℕ) (xs : List ℕ) → AllByRecursion (λ y. eqb id y ≡ false) xs → has xs id ≡ false
has-none id [] apart = refl
has-none id (x ∷ xs) apart = let r = has-none id xs apart.1 in grind (arith, nat_tests)

-- without an id that is not there
pub without-none : (id : ℕ) (xs : List ℕ) → has xs id ≡ false → without xs id ≡ xs
without-none id [] absent = refl
without-none id (x ∷ xs) absent = let r = without-none id xs in grind (arith, nat_tests, r)

-- which ids are left without one
pub has-without : (x id : ℕ) (xs : List ℕ) → has (without xs id) x ≡ cond (x == id) false (has xs x)
has-without x id [] = grind (arith, nat_tests)
has-without x id (y ∷ ys) = let r = has-without x id ys in grind (arith, nat_tests)

-- what differs from all differs from what is left
apart-without : (x id : ℕ) (xs : List ℕ) → AllByRecursion (λ y. eqb x y ≡ false) xs → AllByRecursion (λ y. eqb x y ≡ false) (without xs id)
apart-without x id [] apart = tt
apart-without x id (y ∷ ys) apart = elim (not (y == id)) as (λ b. AllByRecursion (λ y. eqb x y ≡ false) (cond b (y ∷ without ys id) (without ys id))) [ true ↦ (apart.0, apart-without x id ys apart.1) | false ↦ apart-without x id ys apart.1 ]

-- no id stands twice in what is left
pub IsQueue-without : (id : ℕ) (xs : List ℕ) → IsQueue xs → IsQueue (without xs id)
unfolding IsDistinct
IsQueue-without id [] once = tt
IsQueue-without id (y ∷ ys) once = elim (not (y == id)) as (λ b. IsQueue (cond b (y ∷ without ys id) (without ys id))) [ true ↦ (apart-without y id ys once.0, IsQueue-without id ys once.1) | false ↦ IsQueue-without id ys once.1 ]

-- the two ways round of the test
pub has-flip : (id : ℕ) (xs : List ℕ) → list_any (eqb id) xs ≡ has xs id
has-flip id [] = refl
has-flip id (x ∷ xs) = let r = has-flip id xs in grind (arith, nat_tests)

-- an id that is not there joins at the end
pub joined-new : (ids : List ℕ) (id : ℕ) → has ids id ≡ false → joined ids id ≡ ids ++ id ∷ []
joined-new ids id absent = rw absent refl

-- the first leaves
pub without-first : (id : ℕ) (xs : List ℕ) → has xs id ≡ false → without (id ∷ xs) id ≡ xs
without-first id xs absent = let r = without-none id xs absent in grind (arith, nat_tests, r)

-- another one leaves than the first
pub without-other : (id x : ℕ) (xs : List ℕ) → x ≢ id → without (x ∷ xs) id ≡ x ∷ without xs id
without-other id x xs apart = grind (arith, nat_tests, apart)

-- the first stands nowhere else
pub first-once : (id : ℕ) (xs : List ℕ) → IsQueue (id ∷ xs) → has xs id ≡ false
first-once id xs once = has-none id xs (IsDistinct-head eqb id xs once)

-- one that is there leaves, and so there is one less
pub length-without : (id : ℕ) (xs : List ℕ) → IsQueue xs → has xs id ≡ true → length (without xs id) + 1 ≡ length xs
length-without id [] once there = absurd (cc)
length-without id (x ∷ xs) once there =
    ⊎_elim
    (λ (here : x ≡ id). subst (λ y. length (without (x ∷ xs) y) + 1 ≡ length (x ∷ xs)) here (rw (without-first x xs (first-once x xs once)) (omega arith)))
    (λ (apart : x ≢ id). let rest = length-without id xs (IsDistinct-tail eqb x xs once) (grind (arith, nat_tests, there)) in rw (without-other id x xs apart) (omega (arith, rest)))
    (cases_eq x id)
