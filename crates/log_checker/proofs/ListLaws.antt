-- Where two ascending lists differ, found from the front.
use Rattle.std.proofs.Common.{◌≡◌, ◌≢◌, ℕ, zero, suc, ◌+◌, ◌<◌, ◌≤◌, List, [], ◌∷◌, Option, Some, None, refl, sym, subst, arith, ⊎_elim}
use Rattle.std.specs.Prelude.{Contains, slice_index}
use Rattle.std.specs.List.Sorted.{IsStrictlyIncreasing}
use Rattle.std.proofs.lemmas.Bool.{cases_eq, cases_lt}
use Rattle.std.proofs.lemmas.Map.Made.{Contains-tail}
use Rattle.log_checker.specs.Differences.{AgreeIn, IsApart}

-- ---- what an ascending list contains

first_of : (x : ℕ) (xs : List ℕ) → Contains (x ∷ xs) x
first_of x xs = (zero, omega arith, refl)

later_of : (x : ℕ) (xs : List ℕ) (id : ℕ) → Contains xs id → Contains (x ∷ xs) id
later_of x xs id c = (suc c.0, omega (arith, c.1), c.2)

nothing_in : (id : ℕ) → Contains [] id → ⊥
nothing_in id c = absurd (omega (arith, c.1))

rest_rises : (x : ℕ) (xs : List ℕ) → IsStrictlyIncreasing (x ∷ xs) → IsStrictlyIncreasing xs
rest_rises x xs up k within =
    let place : suc k + 1 ≡ suc (k + 1) = omega arith in
    subst (λ (j : ℕ). slice_index xs k < slice_index (x ∷ xs) j) place (up (suc k) (omega (arith, within)))

first_below : (x : ℕ) (xs : List ℕ) (id : ℕ) → IsStrictlyIncreasing (x ∷ xs) → Contains xs id → x < id
first_below x [] id up c = absurd (nothing_in id c)
first_below x (y ∷ ys) id up c =
    let next : x < y = up 0 (omega arith) in
    ⊎_elim (λ (same : y ≡ id). omega (arith, next, same))
    (λ (apart : y ≢ id).
    let later : y < id = first_below y ys id (rest_rises x (y ∷ ys) up) (Contains-tail y ys id apart c) in
    omega (arith, next, later))
    (cases_eq y id)

-- what is below the first is not in it
not_below : (x : ℕ) (xs : List ℕ) (id : ℕ) → IsStrictlyIncreasing (x ∷ xs) → id < x → Contains (x ∷ xs) id → ⊥
not_below x xs id up below c =
    ⊎_elim (λ (same : x ≡ id). absurd (omega (arith, below, same)))
    (λ (apart : x ≢ id).
    let later : x < id = first_below x xs id up (Contains-tail x xs id apart c) in
    absurd (omega (arith, below, later)))
    (cases_eq x id)

-- ---- one id more in front of both

agree_neither : (Test : ℕ → Type 0) (xs ys : List ℕ) (id : ℕ) → (Contains xs id → ⊥) → (Contains ys id → ⊥) → AgreeIn Test xs ys id
agree_neither Test xs ys id out off = record { both = (λ c. absurd (out c), λ c. absurd (off c)); passed = λ c. absurd (out c) }

agree_next : (Test : ℕ → Type 0) (x : ℕ) (xs ys : List ℕ) (id : ℕ) → Test x → AgreeIn Test xs ys id → AgreeIn Test (x ∷ xs) (x ∷ ys) id
agree_next Test x xs ys id test a =
    ⊎_elim
    (λ (same : x ≡ id). subst (λ (q : ℕ). AgreeIn Test (x ∷ xs) (x ∷ ys) q) same
    (record { both = (λ c. first_of x ys, λ c. first_of x xs); passed = λ c. test }))
    (λ (apart : x ≢ id). record {
      both = (λ c. later_of x ys id (a.both.0 (Contains-tail x xs id apart c)), λ c. later_of x xs id (a.both.1 (Contains-tail x ys id apart c)));
      passed = λ c. a.passed (Contains-tail x xs id apart c);
    })
    (cases_eq x id)

differ_next : (Test : ℕ → Type 0) (x : ℕ) (xs ys : List ℕ) (id : ℕ) → IsStrictlyIncreasing (x ∷ xs) → IsStrictlyIncreasing (x ∷ ys)
    → (AgreeIn Test xs ys id → ⊥) → AgreeIn Test (x ∷ xs) (x ∷ ys) id → ⊥
differ_next Test x xs ys id up rise differ a =
    ⊎_elim
    (λ (same : x ≡ id).
    let out : Contains xs id → ⊥ = λ c. let l : x < id = first_below x xs id up c in absurd (omega (arith, l, same)) in
    let off : Contains ys id → ⊥ = λ c. let l : x < id = first_below x ys id rise c in absurd (omega (arith, l, same)) in
    differ (agree_neither Test xs ys id out off))
    (λ (apart : x ≢ id). differ (record {
      both = (λ c. Contains-tail x ys id apart (a.both.0 (later_of x xs id c)), λ c. Contains-tail x xs id apart (a.both.1 (later_of x ys id c)));
      passed = λ c. a.passed (later_of x xs id c);
    }))
    (cases_eq x id)

apart_next : (Test : ℕ → Type 0) (x : ℕ) (xs ys : List ℕ) (o : Option ℕ) → IsStrictlyIncreasing (x ∷ xs) → IsStrictlyIncreasing (x ∷ ys) → Test x
    → IsApart Test xs ys o → IsApart Test (x ∷ xs) (x ∷ ys) o
apart_next Test x xs ys None up rise test h = λ id. agree_next Test x xs ys id test (h id)
apart_next Test x xs ys (Some d) up rise test h =
    record { differ = differ_next Test x xs ys d up rise h.differ; least = λ y l. agree_next Test x xs ys y test (h.least y l) }

-- ---- where they differ in front

apart_here : (Test : ℕ → Type 0) (x : ℕ) (xs ys : List ℕ) → IsStrictlyIncreasing (x ∷ xs) → IsStrictlyIncreasing (x ∷ ys) → (Test x → ⊥) → IsApart Test (x ∷ xs) (x ∷ ys) (Some x)
apart_here Test x xs ys up rise fails = record {
  differ = λ a. fails (a.passed (first_of x xs));
  least = λ y l. agree_neither Test (x ∷ xs) (x ∷ ys) y (not_below x xs y up l) (not_below x ys y rise l);
}

apart_left : (Test : ℕ → Type 0) (x y : ℕ) (xs ys : List ℕ) → IsStrictlyIncreasing (x ∷ xs) → IsStrictlyIncreasing (y ∷ ys) → x < y → IsApart Test (x ∷ xs) (y ∷ ys) (Some x)
apart_left Test x y xs ys up rise less = record {
  differ = λ a. not_below y ys x rise less (a.both.0 (first_of x xs));
  least = λ z l. agree_neither Test (x ∷ xs) (y ∷ ys) z (not_below x xs z up l) (not_below y ys z rise (omega (arith, l, less)));
}

apart_right : (Test : ℕ → Type 0) (x y : ℕ) (xs ys : List ℕ) → IsStrictlyIncreasing (x ∷ xs) → IsStrictlyIncreasing (y ∷ ys) → y < x → IsApart Test (x ∷ xs) (y ∷ ys) (Some y)
apart_right Test x y xs ys up rise less = record {
  differ = λ a. not_below x xs y up less (a.both.1 (first_of y ys));
  least = λ z l. agree_neither Test (x ∷ xs) (y ∷ ys) z (not_below x xs z up (omega (arith, l, less))) (not_below y ys z rise l);
}

apart_left_alone : (Test : ℕ → Type 0) (x : ℕ) (xs : List ℕ) → IsStrictlyIncreasing (x ∷ xs) → IsApart Test (x ∷ xs) [] (Some x)
apart_left_alone Test x xs up = record {
  differ = λ a. nothing_in x (a.both.0 (first_of x xs));
  least = λ z l. agree_neither Test (x ∷ xs) [] z (not_below x xs z up l) (nothing_in z);
}

apart_right_alone : (Test : ℕ → Type 0) (y : ℕ) (ys : List ℕ) → IsStrictlyIncreasing (y ∷ ys) → IsApart Test [] (y ∷ ys) (Some y)
apart_right_alone Test y ys rise = record {
  differ = λ a. nothing_in y (a.both.1 (first_of y ys));
  least = λ z l. agree_neither Test [] (y ∷ ys) z (nothing_in z) (not_below y ys z rise l);
}

-- ---- a walk over both

-- These are left of the lists: what the least difference of the rests is, that of the whole is.
pub record IsBehind (Test : ℕ → Type 0) (left right xs ys : List ℕ) : Type 0 where
  pub up : IsStrictlyIncreasing xs
  pub rise : IsStrictlyIncreasing ys
  pub leads : (o : Option ℕ) → IsApart Test xs ys o → IsApart Test left right o

pub behind_all : (Test : ℕ → Type 0) (left right : List ℕ) → IsStrictlyIncreasing left → IsStrictlyIncreasing right → IsBehind Test left right left right
behind_all Test left right up rise = record { up = up; rise = rise; leads = λ o a. a }

pub behind_next : (Test : ℕ → Type 0) (left right fs gs xs ys : List ℕ) (x y : ℕ) → fs ≡ x ∷ xs → gs ≡ y ∷ ys → x ≡ y → Test x → IsBehind Test left right fs gs → IsBehind Test left right xs ys
behind_next Test left right fs gs xs ys x y first other same test b =
    let rests : gs ≡ x ∷ ys = subst (λ (q : ℕ). gs ≡ q ∷ ys) (sym same) other in
    let up = subst (λ (l : List ℕ). IsStrictlyIncreasing l) first b.up in
    let rise = subst (λ (l : List ℕ). IsStrictlyIncreasing l) rests b.rise in
    record {
      up = rest_rises x xs up;
      rise = rest_rises x ys rise;
      leads = λ o a. b.leads o (subst (λ (l : List ℕ). IsApart Test l gs o) (sym first) (subst (λ (l : List ℕ). IsApart Test (x ∷ xs) l o) (sym rests) (apart_next Test x xs ys o up rise test a)));
    }

-- the rests, as they begin
begins : (Test : ℕ → Type 0) (left right fs gs xs ys : List ℕ) → fs ≡ xs → gs ≡ ys → IsBehind Test left right fs gs → IsBehind Test left right xs ys
begins Test left right fs gs xs ys first other b =
    subst (λ (l : List ℕ). IsBehind Test left right l ys) first (subst (λ (l : List ℕ). IsBehind Test left right fs l) other b)

pub behind_fails : (Test : ℕ → Type 0) (left right fs gs xs ys : List ℕ) (x y : ℕ) → fs ≡ x ∷ xs → gs ≡ y ∷ ys → x ≡ y → (Test x → ⊥) → IsBehind Test left right fs gs → IsApart Test left right (Some x)
behind_fails Test left right fs gs xs ys x y first other same fails b =
    let c = begins Test left right fs gs (x ∷ xs) (x ∷ ys) first (subst (λ (q : ℕ). gs ≡ q ∷ ys) (sym same) other) b in
    c.leads (Some x) (apart_here Test x xs ys c.up c.rise fails)

pub behind_less : (Test : ℕ → Type 0) (left right fs gs xs ys : List ℕ) (x y : ℕ) → fs ≡ x ∷ xs → gs ≡ y ∷ ys → x < y → IsBehind Test left right fs gs → IsApart Test left right (Some x)
behind_less Test left right fs gs xs ys x y first other less b =
    let c = begins Test left right fs gs (x ∷ xs) (y ∷ ys) first other b in
    c.leads (Some x) (apart_left Test x y xs ys c.up c.rise less)

pub behind_more : (Test : ℕ → Type 0) (left right fs gs xs ys : List ℕ) (x y : ℕ) → fs ≡ x ∷ xs → gs ≡ y ∷ ys → y < x → IsBehind Test left right fs gs → IsApart Test left right (Some y)
behind_more Test left right fs gs xs ys x y first other less b =
    let c = begins Test left right fs gs (x ∷ xs) (y ∷ ys) first other b in
    c.leads (Some y) (apart_right Test x y xs ys c.up c.rise less)

-- the least of two ids that differ
pub behind_apart : (Test : ℕ → Type 0) (left right fs gs xs ys : List ℕ) (x y d : ℕ) → fs ≡ x ∷ xs → gs ≡ y ∷ ys → x ≢ y → (x < y → d ≡ x) → (y < x → d ≡ y) → IsBehind Test left right fs gs → IsApart Test left right (Some d)
behind_apart Test left right fs gs xs ys x y d first other differ low high b =
    ⊎_elim
    (λ (less : x < y). subst (λ (q : ℕ). IsApart Test left right (Some q)) (sym (low less)) (behind_less Test left right fs gs xs ys x y first other less b))
    (λ (rest : y ≤ x).
    let less : y < x = strict rest in
    subst (λ (q : ℕ). IsApart Test left right (Some q)) (sym (high less)) (behind_more Test left right fs gs xs ys x y first other less b))
    (cases_lt x y)
  where
    strict : y ≤ x → y < x
    strict l = ⊎_elim (λ (same : x ≡ y). absurd (differ same)) (λ (apart : x ≢ y). omega (arith, l, apart)) (cases_eq x y)

pub behind_left : (Test : ℕ → Type 0) (left right fs gs xs : List ℕ) (x : ℕ) → fs ≡ x ∷ xs → gs ≡ [] → IsBehind Test left right fs gs → IsApart Test left right (Some x)
behind_left Test left right fs gs xs x first other b =
    let c = begins Test left right fs gs (x ∷ xs) [] first other b in
    c.leads (Some x) (apart_left_alone Test x xs c.up)

pub behind_right : (Test : ℕ → Type 0) (left right fs gs ys : List ℕ) (y : ℕ) → fs ≡ [] → gs ≡ y ∷ ys → IsBehind Test left right fs gs → IsApart Test left right (Some y)
behind_right Test left right fs gs ys y first other b =
    let c = begins Test left right fs gs [] (y ∷ ys) first other b in
    c.leads (Some y) (apart_right_alone Test y ys c.rise)

pub behind_none : (Test : ℕ → Type 0) (left right fs gs : List ℕ) → fs ≡ [] → gs ≡ [] → IsBehind Test left right fs gs → IsApart Test left right None
behind_none Test left right fs gs first other b =
    let c = begins Test left right fs gs [] [] first other b in
    c.leads None (λ id. agree_neither Test [] [] id (nothing_in id) (nothing_in id))
