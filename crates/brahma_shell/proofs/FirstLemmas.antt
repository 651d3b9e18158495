-- Ascending numbers that pass a test.
use Rattle.std.proofs.Common.{◌≡◌, ⊎_elim, ℕ, zero, suc, ◌<◌, ◌≤◌, Bool, true, false, List, [], ◌∷◌, ◌++◌, refl, sym, ap, subst, ◌∙◌, arith}
use Rattle.std.specs.Prelude.{◌||◌, if◌then◌else◌}
use Rattle.std.specs.List.{AllByRecursion}
use Rattle.std.specs.Ordering.{nat_cmp}
use Rattle.std.specs.BTreeMap.{is_at}
use Rattle.std.proofs.lemmas.Bool.{cases_lt}
use Rattle.std.proofs.lemmas.List.Folds.{list_any-append}
use Rattle.plain_model.specs.Machine.{is_stored}
use Rattle.plain_laws.specs.Sound.{Ascend}
use Rattle.core_store.proofs.ActiveCount.{same-ids}
use Rattle.core_store.proofs.StoredLaws.{stored-here, stored-apart}

-- the number itself, where it passes
abbrev one_if : Bool → ℕ → List ℕ
one_if b n = if b then n ∷ [] else []

-- of the numbers from 1 to n these pass the test, in their order
abbrev pub AreFirst : (ℕ → Bool) → ℕ → List ℕ → Type 0
AreFirst test zero xs = xs ≡ []
AreFirst test (suc n) xs = (before : List ℕ) × (xs ≡ before ++ one_if (test (suc n)) (suc n)) × AreFirst test n before

-- ---- they ascend

low-behind : (n : ℕ) (b : Bool) (xs : List ℕ) → AllByRecursion (λ y. y ≤ n) xs → AllByRecursion (λ y. y ≤ suc n) (xs ++ one_if b (suc n))
low-behind n true [] low = (omega arith, tt)
low-behind n false [] low = tt
low-behind n b (x ∷ xs) low = let l = low.0 in (omega (arith, l), low-behind n b xs low.1)

first-low : (test : ℕ → Bool) (n : ℕ) (xs : List ℕ) → AreFirst test n xs → AllByRecursion (λ y. y ≤ n) xs
first-low test zero xs f = subst (AllByRecursion (λ y. y ≤ zero)) (sym f) tt
first-low test (suc n) xs f = subst (AllByRecursion (λ y. y ≤ suc n)) (sym f.1) (low-behind n (test (suc n)) f.0 (first-low test n f.0 f.2))

above-behind : (x n : ℕ) (b : Bool) (xs : List ℕ) → x ≤ n → AllByRecursion (λ y. x < y) xs → AllByRecursion (λ y. x < y) (xs ++ one_if b (suc n))
above-behind x n true [] l above = (omega (arith, l), tt)
above-behind x n false [] l above = tt
above-behind x n b (y ∷ xs) l above = (above.0, above-behind x n b xs l above.1)

ascend-behind : (n : ℕ) (b : Bool) (xs : List ℕ) → AllByRecursion (λ y. y ≤ n) xs → Ascend xs → Ascend (xs ++ one_if b (suc n))
ascend-behind n true [] low a = (tt, tt)
ascend-behind n false [] low a = tt
ascend-behind n b (x ∷ xs) low a = (above-behind x n b xs low.0 a.0, ascend-behind n b xs low.1 a.1)

first-ascend : (test : ℕ → Bool) (n : ℕ) (xs : List ℕ) → AreFirst test n xs → Ascend xs
first-ascend test zero xs f = subst Ascend (sym f) tt
first-ascend test (suc n) xs f = subst Ascend (sym f.1) (ascend-behind n (test (suc n)) f.0 (first-low test n f.0 f.2) (first-ascend test n f.0 f.2))

-- ---- which they are

last-in : (b : Bool) (m : ℕ) → is_stored (one_if b m) m ≡ b
last-in true m = stored-here m m [] refl
last-in false m = refl

last-out : (b : Bool) (m k : ℕ) → (k ≡ m → ⊥) → is_stored (one_if b m) k ≡ false
last-out true m k apart = stored-apart m k [] apart
last-out false m k apart = refl

or_false : (b : Bool) → (b || false) ≡ b
or_false true = refl
or_false false = refl

parts : (test : ℕ → Bool) (n k : ℕ) (xs before : List ℕ) → xs ≡ before ++ one_if (test (suc n)) (suc n) → is_stored xs k ≡ (is_stored before k || is_stored (one_if (test (suc n)) (suc n)) k)
parts test n k xs before e = ap (λ ys. is_stored ys k) e ∙ list_any-append (is_at (nat_cmp k)) before (one_if (test (suc n)) (suc n))

-- no other number is among them
first-out : (test : ℕ → Bool) (n k : ℕ) (xs : List ℕ) → AreFirst test n xs → (0 < k → n < k) → is_stored xs k ≡ false
first-out test zero k xs f out = ap (λ ys. is_stored ys k) f
first-out test (suc n) k xs f out =
    let apart : k ≡ suc n → ⊥ = λ e. (let h = out (omega (arith, e)) in absurd (omega (arith, e, h))) in
    let before = first-out test n k f.0 f.2 (λ some. let h = out some in omega (arith, h)) in
    parts test n k xs f.0 f.1 ∙ ap (λ b. b || is_stored (one_if (test (suc n)) (suc n)) k) before ∙ last-out (test (suc n)) (suc n) k apart

first-in : (test : ℕ → Bool) (n k : ℕ) (xs : List ℕ) → AreFirst test n xs → 0 < k → k ≤ n → is_stored xs k ≡ test k
first-in test zero k xs f some low = absurd (omega (arith, some, low))
first-in test (suc n) k xs f some low =
    ⊎_elim
    (λ (l : k < suc n).
    parts test n k xs f.0 f.1 ∙ ap (λ b. b || is_stored (one_if (test (suc n)) (suc n)) k) (first-in test n k f.0 f.2 some (omega arith))
    ∙ ap (λ b. test k || b) (last-out (test (suc n)) (suc n) k (λ e. absurd (omega (arith, e, l)))) ∙ or_false (test k))
    (λ (l : suc n ≤ k).
    let is : k ≡ suc n = omega (arith, l, low) in
    parts test n k xs f.0 f.1 ∙ ap (λ b. b || is_stored (one_if (test (suc n)) (suc n)) k) (first-out test n k f.0 f.2 (λ _. omega (arith, l)))
    ∙ ap (is_stored (one_if (test (suc n)) (suc n))) is ∙ last-in (test (suc n)) (suc n) ∙ ap test (sym is))
    (cases_lt k (suc n))

not-true : (b : Bool) → (b ≡ true → ⊥) → b ≡ false
not-true true n = absurd (n refl)
not-true false n = refl

-- the first numbers that are among ascending ones, none of which is greater, are just these
pub first-stored : (stored : List ℕ) (n : ℕ) (xs : List ℕ) → Ascend stored → ((k : ℕ) → is_stored stored k ≡ true → (0 < k) × (k ≤ n)) → AreFirst (is_stored stored) n xs → xs ≡ stored
first-stored stored n xs ascend within f =
    same-ids xs stored (first-ascend (is_stored stored) n xs f) ascend (λ k.
    ⊎_elim
    (λ (l : n < k). first-out (is_stored stored) n k xs f (λ _. l) ∙ sym (not-true (is_stored stored k) (λ e. let w = within k e in absurd (omega (arith, l, w.1)))))
    (λ (l : k ≤ n).
    ⊎_elim
    (λ (some : 0 < k). first-in (is_stored stored) n k xs f some l)
    (λ (none : k ≤ 0). first-out (is_stored stored) n k xs f (λ some. absurd (omega (arith, some, none))) ∙ sym (not-true (is_stored stored k) (λ e. let w = within k e in absurd (omega (arith, none, w.0)))))
    (cases_lt 0 k))
    (cases_lt n k))
