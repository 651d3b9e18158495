-- Which of the first pages pass a test, and how many.
use Rattle.std.proofs.Common.{◌≡◌, ◌∙◌, ℕ, zero, suc, ◌+◌, ◌≤◌, Bool, true, false, List, [], ◌∷◌, ◌++◌, length, refl, ap, subst, arith}
use Rattle.std.specs.List.{filter, range_with_len}
use Rattle.std.proofs.lemmas.List.{length-append, append-nil}
use Rattle.std.proofs.lemmas.List.Elements.{filter-append}

-- one number more
range_more : (a n : ℕ) → range_with_len a (n + 1) ≡ range_with_len a n ++ (a + n) ∷ []
range_more a zero = ap (λ (k : ℕ). k ∷ []) (omega arith)
range_more a (suc n) =
    ap (λ (k : ℕ). range_with_len a k) (let e : suc n + 1 ≡ suc (n + 1) = omega arith in e)
    ∙ ap (λ (l : List ℕ). a ∷ l) (range_more (a + 1) n)
    ∙ ap (λ (k : ℕ). a ∷ range_with_len (a + 1) n ++ k ∷ []) (let e : a + 1 + n ≡ a + suc n = omega arith in e)

-- so many numbers from 0 on, that pass the test, and one number more
both : (p : ℕ → Bool) (n : ℕ) → filter p (range_with_len 0 (n + 1)) ≡ filter p (range_with_len 0 n) ++ filter p (n ∷ [])
both p n =
    ap (λ (l : List ℕ). filter p l) (range_more 0 n ∙ ap (λ (k : ℕ). range_with_len 0 n ++ k ∷ []) (let e : 0 + n ≡ n = omega arith in e))
    ∙ filter-append p (range_with_len 0 n) (n ∷ [])

-- that passes it
one : (p : ℕ → Bool) (n : ℕ) → p n ≡ true → filter p (n ∷ []) ≡ n ∷ []
one p n is = ap (λ (b : Bool). Rattle.std.specs.Prelude.cond b (n ∷ []) []) is

none : (p : ℕ → Bool) (n : ℕ) → p n ≡ false → filter p (n ∷ []) ≡ []
none p n is = ap (λ (b : Bool). Rattle.std.specs.Prelude.cond b (n ∷ []) []) is

pub below_with : (p : ℕ → Bool) (n : ℕ) → p n ≡ true → filter p (range_with_len 0 (n + 1)) ≡ filter p (range_with_len 0 n) ++ n ∷ []
below_with p n is = both p n ∙ ap (λ (l : List ℕ). filter p (range_with_len 0 n) ++ l) (one p n is)

-- that doesn't
pub below_without : (p : ℕ → Bool) (n : ℕ) → p n ≡ false → filter p (range_with_len 0 (n + 1)) ≡ filter p (range_with_len 0 n)
below_without p n is = both p n ∙ ap (λ (l : List ℕ). filter p (range_with_len 0 n) ++ l) (none p n is) ∙ append-nil (filter p (range_with_len 0 n))

-- how many there are
pub count_with : (p : ℕ → Bool) (n : ℕ) → p n ≡ true → length (filter p (range_with_len 0 (n + 1))) ≡ length (filter p (range_with_len 0 n)) + 1
count_with p n is = ap (λ (l : List ℕ). length l) (below_with p n is) ∙ length-append (filter p (range_with_len 0 n)) (n ∷ [])

pub count_without : (p : ℕ → Bool) (n : ℕ) → p n ≡ false → length (filter p (range_with_len 0 (n + 1))) ≡ length (filter p (range_with_len 0 n))
count_without p n is = ap (λ (l : List ℕ). length l) (below_without p n is)

-- of more numbers no fewer
pub count_grows : (p : ℕ → Bool) (n more : ℕ) → length (filter p (range_with_len 0 n)) ≤ length (filter p (range_with_len 0 (n + more)))
count_grows p n zero = subst (λ (k : ℕ). length (filter p (range_with_len 0 n)) ≤ length (filter p (range_with_len 0 k))) (let e : n ≡ n + zero = omega arith in e) (omega arith)
count_grows p n (suc more) =
    let before = count_grows p n more in
    let here : length (filter p (range_with_len 0 (n + more))) ≤ length (filter p (range_with_len 0 (n + more + 1))) = by (p (n + more)) refl in
    subst (λ (k : ℕ). length (filter p (range_with_len 0 n)) ≤ length (filter p (range_with_len 0 k))) (let e : n + more + 1 ≡ n + suc more = omega arith in e) (omega (arith, before, here))
  where
    by : (b : Bool) → p (n + more) ≡ b → length (filter p (range_with_len 0 (n + more))) ≤ length (filter p (range_with_len 0 (n + more + 1)))
    by true is = let e = count_with p (n + more) is in omega (arith, e)
    by false is = let e = count_without p (n + more) is in omega (arith, e)
