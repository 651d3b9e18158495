-- What a filter of ids has.
use Rattle.std.proofs.Common.{◌≡◌, ◌≢◌, ℕ, ◌+◌, Bool, true, false, not, cond, ◌&&◌, List, [], ◌∷◌, filter, length, refl, sym, ap, ◌∙◌, subst, arith, ⊎_elim, true≢false, ne_eqb, eq-eqb}
use Rattle.std.specs.Prelude.{Contains}
use Rattle.std.proofs.Math.Bool.{and-false}
use Rattle.std.proofs.lemmas.Bool.{cases_eq, false_from_ne_true}
use Rattle.std.proofs.lemmas.Bool.Decides.{nat_tests}
use Rattle.store_model.specs.Sound.{IsOnce}
use Rattle.store_model.proofs.VerdictLaws.{AllDistinct, distinct_from}
use Rattle.store_model.proofs.OnceLaws.{once_from}
use Rattle.ref_tables.specs.Queue.{has, without}
use Rattle.red_walk.proofs.Members.{has-here, has-later, Contains-has, has-Contains}

-- two tests that agree on the members
pub filter-same : (p q : ℕ → Bool) (xs : List ℕ) → ((x : ℕ) → has xs x ≡ true → p x ≡ q x) → filter p xs ≡ filter q xs
filter-same p q [] h = refl
filter-same p q (x ∷ xs) h =
    let here = h x (has-here x xs) in
    let rest = filter-same p q xs (λ y m. h y (has-later x xs y m)) in
    ap (λ b. cond b (x ∷ filter p xs) (filter p xs)) here ∙ ap (λ ys. cond (q x) (x ∷ ys) ys) rest

-- one test after another
pub filter-both : (p q : ℕ → Bool) (xs : List ℕ) → filter q (filter p xs) ≡ filter (λ x. p x && q x) xs
filter-both p q [] = refl
filter-both p q (x ∷ xs) =
    let r = filter-both p q xs in
    elim (p x) as (λ b. filter q (cond b (x ∷ filter p xs) (filter p xs)) ≡ cond (b && q x) (x ∷ filter (λ x. p x && q x) xs) (filter (λ x. p x && q x) xs)) [
      | true ↦ ap (λ ys. cond (q x) (x ∷ ys) ys) r
      | false ↦ r
    ]

-- what passes is what is there and passes
pub has-filter : (p : ℕ → Bool) (xs : List ℕ) (x : ℕ) → has (filter p xs) x ≡ (has xs x && p x)
has-filter p [] x = refl
has-filter p (y ∷ ys) x =
    ⊎_elim
    (λ (e : y ≡ x). subst (λ z. has (filter p (y ∷ ys)) z ≡ (has (y ∷ ys) z && p z)) e (by (p y) refl (has-filter p ys y)))
    (λ (n : y ≢ x).
    let f = ne_eqb y x n in
    let r = has-filter p ys x in
    let d : has (y ∷ ys) x ≡ has ys x = grind (arith, nat_tests, f) in
    elim (p y) as (λ b. has (cond b (y ∷ filter p ys) (filter p ys)) x ≡ (has (y ∷ ys) x && p x)) [
      | true ↦ let k : has (y ∷ filter p ys) x ≡ has (filter p ys) x = grind (arith, nat_tests, f) in k ∙ r ∙ ap (λ b. b && p x) (sym d)
      | false ↦ r ∙ ap (λ b. b && p x) (sym d)
    ])
    (cases_eq y x)
  where
    by : (b : Bool) → p y ≡ b → has (filter p ys) y ≡ (has ys y && p y) → has (filter p (y ∷ ys)) y ≡ (has (y ∷ ys) y && p y)
    by true e r = rw e (has-here y (filter p ys) ∙ sym (ap (λ b. b && true) (has-here y ys)))
    by false e r = rw e (r ∙ ap (λ b. has ys y && b) e ∙ and-false (has ys y) ∙ sym (and-false (has (y ∷ ys) y)))

-- of a list, what its filter has is its filter
pub filter-again : (p : ℕ → Bool) (xs : List ℕ) → filter (λ x. has (filter p xs) x) xs ≡ filter p xs
filter-again p xs = filter-same (λ x. has (filter p xs) x) p xs (λ x m. has-filter p xs x ∙ ap (λ b. b && p x) m)

pub filter-among : (p : ℕ → Bool) (xs : List ℕ) (x : ℕ) → Contains (filter p xs) x → Contains xs x
filter-among p xs x m = Contains-has xs x (from_both (has xs x) (p x) (sym (has-filter p xs x) ∙ has-Contains (filter p xs) x m))
  where
    from_both : (a b : Bool) → (a && b) ≡ true → a ≡ true
    from_both true b e = refl
    from_both false b e = e

pub filter-passes : (p : ℕ → Bool) (xs : List ℕ) (x : ℕ) → Contains (filter p xs) x → p x ≡ true
filter-passes p xs x m = from_both (has xs x) (p x) (sym (has-filter p xs x) ∙ has-Contains (filter p xs) x m)
  where
    from_both : (a b : Bool) → (a && b) ≡ true → b ≡ true
    from_both true b e = e
    from_both false b e = absurd (true≢false (sym e))

pub among-filter : (p : ℕ → Bool) (xs : List ℕ) (x : ℕ) → Contains xs x → p x ≡ true → Contains (filter p xs) x
among-filter p xs x m e = Contains-has (filter p xs) x (has-filter p xs x ∙ ap (λ b. b && p x) (has-Contains xs x m) ∙ e)

-- none stands there twice
pub distinct-filter : (p : ℕ → Bool) (xs : List ℕ) → AllDistinct xs → AllDistinct (filter p xs)
distinct-filter p [] d = tt
distinct-filter p (x ∷ xs) d = elim (p x) as (λ b. AllDistinct (cond b (x ∷ filter p xs) (filter p xs))) [ true ↦ (λ m. d.0 (filter-among p xs x m), distinct-filter p xs d.1) | false ↦ distinct-filter p xs d.1 ]

pub once-filter : (p : ℕ → Bool) (xs : List ℕ) → IsOnce xs → IsOnce (filter p xs)
once-filter p xs once = once_from (filter p xs) (distinct-filter p xs (distinct_from xs once))

-- without an id that isn't there
pub without-none : (id : ℕ) (xs : List ℕ) → has xs id ≡ false → without xs id ≡ xs
without-none id [] absent = refl
without-none id (x ∷ xs) absent = let r = without-none id xs in grind (arith, nat_tests, r)

-- without one that is there once, there is one less
pub length-without : (id : ℕ) (xs : List ℕ) → AllDistinct xs → has xs id ≡ true → length (without xs id) + 1 ≡ length xs
length-without id [] d m = absurd (true≢false (sym m))
length-without id (x ∷ xs) d m =
    ⊎_elim
    (λ (e : x ≡ id).
    let n = without-none id xs (false_from_ne_true (has xs id) (λ h. d.0 (Contains-has xs x (subst (λ z. has xs z ≡ true) (sym e) h)))) in
    let t = eq-eqb x id e in
    ap (λ b. length (cond (not b) (x ∷ without xs id) (without xs id)) + 1) t ∙ ap (λ ys. length ys + 1) n ∙ (omega arith))
    (λ (e : x ≢ id).
    let t = ne_eqb x id e in
    let later : has xs id ≡ true = grind (arith, nat_tests, m, t) in
    let r = length-without id xs d.1 later in
    ap (λ b. length (cond (not b) (x ∷ without xs id) (without xs id)) + 1) t ∙ (omega (arith, r)))
    (cases_eq x id)
