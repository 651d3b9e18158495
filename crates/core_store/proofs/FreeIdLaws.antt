-- The free ids of a store, as they are kept.
use Rattle.std.proofs.Common.{◌≡◌, ℕ, zero, suc, ◌+◌, ◌<◌, ◌≤◌, List, [], ◌∷◌, Bool, true, false, cond, get_or, set, refl, sym, ap, ◌∙◌, arith, ⊎_elim}
use Rattle.std.specs.Prelude.{◌==◌, ◌&&◌, ◌||◌, not, nat_lt, nat_le}
use Rattle.std.specs.List.{list_any, range_with_len, filter}
use Rattle.std.specs.Ordering.{nat_cmp}
use Rattle.std.specs.BTreeMap.{is_at}
use Rattle.std.proofs.lemmas.Bool.{cases_eq, cases_lt, eq-eqb, ne_eqb}
use Rattle.std.proofs.lemmas.Bool.Decides.{nat_tests}
use Rattle.std.proofs.lemmas.List.{get_or-set_same, get_or-set_other, length-set}
use Rattle.std.proofs.lemmas.Map.Views.{any-filter_same}
use Rattle.plain_laws.proofs.Ids.{at_eq}
use Rattle.core_store.specs.FreeIds.{free_in, IsFreeInside, IsNextFree, IsLeastOf, Frees, Takes}

-- ---- which ids are free

-- a range has the numbers from its first one on
in_range : (k n a : ℕ) → list_any (is_at (nat_cmp k)) (range_with_len a n) ≡ (nat_le a k && nat_lt k (a + n))
in_range k zero a = grind (arith, nat_tests)
in_range k (suc n) a = ap (λ b. is_at (nat_cmp k) a || b) (in_range k n (a + 1)) ∙ (ap (λ b. b || (nat_le (a + 1) k && nat_lt k (a + 1 + n))) (at_eq k a) ∙ grind (arith, nat_tests))

bounds : (k limit : ℕ) → (nat_le 1 k && nat_lt k (1 + limit)) ≡ (nat_lt 0 k && nat_le k limit)
bounds k limit = grind (arith, nat_tests)

same : (k j : ℕ) → (j == k) ≡ true → j ≡ k
same k j h = grind (arith, nat_tests)

-- those that the row marks
pub free-at : (row : List Bool) (limit k : ℕ) → list_any (is_at (nat_cmp k)) (free_in row limit) ≡ (get_or row k false && (nat_lt 0 k && nat_le k limit))
unfolding free_in
free-at row limit k =
    any-filter_same (is_at (nat_cmp k)) (λ id. get_or row id false) (get_or row k false) (λ j h. ap (λ id. get_or row id false) (same k j (sym (at_eq k j) ∙ h))) (range_with_len 1 limit)
    ∙ ap (λ b. get_or row k false && b) (in_range k limit 1 ∙ bounds k limit)

-- of the ids of the store the row tells it
pub free-is : (row : List Bool) (limit k : ℕ) → 1 ≤ k → k ≤ limit → get_or row k false ≡ list_any (is_at (nat_cmp k)) (free_in row limit)
free-is row limit k low high = sym (free-at row limit k ∙ by (get_or row k false))
  where
    by : (b : Bool) → (b && (nat_lt 0 k && nat_le k limit)) ≡ b
    by true = grind (arith, nat_tests)
    by false = refl

-- outside of them none is free
pub free-below : (row : List Bool) (limit k : ℕ) → k < 1 → list_any (is_at (nat_cmp k)) (free_in row limit) ≡ false
free-below row limit k low = free-at row limit k ∙ by (get_or row k false)
  where
    by : (b : Bool) → (b && (nat_lt 0 k && nat_le k limit)) ≡ false
    by true = grind (arith, nat_tests)
    by false = refl

pub free-behind : (row : List Bool) (limit k : ℕ) → limit < k → list_any (is_at (nat_cmp k)) (free_in row limit) ≡ false
free-behind row limit k high = free-at row limit k ∙ by (get_or row k false)
  where
    by : (b : Bool) → (b && (nat_lt 0 k && nat_le k limit)) ≡ false
    by true = grind (arith, nat_tests)
    by false = refl

-- a free id is one of the store, and is marked
pub record IsMarked (row : List Bool) (limit k : ℕ) : Type 0 where
  pub low : 1 ≤ k
  pub high : k ≤ limit
  pub mark : get_or row k false ≡ true

pub free-marked : (row : List Bool) (limit k : ℕ) → list_any (is_at (nat_cmp k)) (free_in row limit) ≡ true → IsMarked row limit k
free-marked row limit k e = by (get_or row k false) refl (sym (free-at row limit k) ∙ e)
  where
    by : (b : Bool) → b ≡ get_or row k false → (b && (nat_lt 0 k && nat_le k limit)) ≡ true → IsMarked row limit k
    by true is h = record { low = grind (arith, nat_tests); high = grind (arith, nat_tests); mark = sym is }
    by false is h = absurd (cc)

-- ---- the least one

-- the first one that is marked
pub least-marked : (row : List Bool) (limit id : ℕ) → ((k : ℕ) → 1 ≤ k → k < id → get_or row k false ≡ false) → IsMarked row limit id → IsLeastOf (free_in row limit) id
least-marked row limit id none m = record {
  among = sym (free-is row limit id m.low m.high) ∙ m.mark;
  least = λ k e. let f = free-marked row limit k e in ⊎_elim (λ (l : k < id). absurd (let no = none k f.low l in let yes = f.mark in cc)) (λ l. l) (cases_lt k id);
}

-- none is marked after it either
pub none-next : (row : List Bool) (from id : ℕ) → ((k : ℕ) → from ≤ k → k < id → get_or row k false ≡ false) → get_or row id false ≡ false → (k : ℕ) → from ≤ k → k < id + 1 → get_or row k false ≡ false
none-next row from id none e k low l = ⊎_elim (λ (is : k ≡ id). ap (λ i. get_or row i false) is ∙ e) (λ n. none k low (omega (arith, l, n))) (cases_eq k id)

-- where none is marked, none is free
nothing-passes : (f : ℕ → Bool) (n a : ℕ) → ((k : ℕ) → a ≤ k → k < a + n → f k ≡ false) → filter f (range_with_len a n) ≡ []
nothing-passes f zero a none = refl
nothing-passes f (suc n) a none =
    ap (λ b. cond b (a ∷ filter f (range_with_len (a + 1) n)) (filter f (range_with_len (a + 1) n))) (none a (omega arith) (omega arith))
    ∙ nothing-passes f n (a + 1) (λ k low high. none k (omega (arith, low)) (omega (arith, high)))

pub none-free : (row : List Bool) (limit : ℕ) → ((k : ℕ) → 1 ≤ k → k < limit + 1 → get_or row k false ≡ false) → free_in row limit ≡ []
unfolding free_in
none-free row limit none = nothing-passes (λ id. get_or row id false) limit 1 (λ k low high. none k low (omega (arith, high)))

-- ---- a mark that is changed

-- after the last one none is marked
pub up-to-last : (row : List Bool) (first last limit id : ℕ) → IsFreeInside row first last limit → get_or row id false ≡ true → id ≤ last
up-to-last row first last limit id i mark = ⊎_elim (λ (l : last < id). absurd (let none = i.beyond id l in cc)) (λ l. l) (cases_lt last id)

module _ (row : List Bool) (first last limit id : ℕ) (i : IsFreeInside row first last limit) (low : 1 ≤ id) (high : id ≤ limit) where
  marked : (b : Bool) → get_or (set row id b) id false ≡ b
  marked b = get_or-set_same row id b false (let l = i.length in omega (arith, l, high))

  others : (b : Bool) (k : ℕ) → (k == id) ≡ false → get_or (set row id b) k false ≡ get_or row k false
  others b k n = get_or-set_other row id k b false (λ e. absurd (let same = eq-eqb k id e in cc))

  pub Frees-marked : Frees (free_in row limit) (free_in (set row id true) limit) id
  Frees-marked k = free-at (set row id true) limit k ∙ by (k == id) refl
    where
      by : (b : Bool) → (k == id) ≡ b → (get_or (set row id true) k false && (nat_lt 0 k && nat_le k limit)) ≡ (b || list_any (is_at (nat_cmp k)) (free_in row limit))
      by true e = let is = same id k e in ap (λ i. get_or (set row id true) i false && (nat_lt 0 i && nat_le i limit)) is ∙ (ap (λ b. b && (nat_lt 0 id && nat_le id limit)) (marked true) ∙ grind (arith, nat_tests))
      by false e = ap (λ b. b && (nat_lt 0 k && nat_le k limit)) (others true k e) ∙ sym (free-at row limit k)

  pub Takes-marked : Takes (free_in row limit) (free_in (set row id false) limit) id
  Takes-marked k = free-at (set row id false) limit k ∙ by (k == id) refl
    where
      by : (b : Bool) → (k == id) ≡ b → (get_or (set row id false) k false && (nat_lt 0 k && nat_le k limit)) ≡ (not b && list_any (is_at (nat_cmp k)) (free_in row limit))
      by true e = let is = same id k e in ap (λ i. get_or (set row id false) i false && (nat_lt 0 i && nat_le i limit)) is ∙ ap (λ b. b && (nat_lt 0 id && nat_le id limit)) (marked false)
      by false e = ap (λ b. b && (nat_lt 0 k && nat_le k limit)) (others false k e) ∙ sym (free-at row limit k)

  -- after the last one none is marked when one is taken
  past : (k : ℕ) → last < k → get_or (set row id false) k false ≡ false
  past k b = ⊎_elim (λ (is : k ≡ id). ap (λ j. get_or (set row id false) j false) is ∙ marked false) (λ n. others false k (ne_eqb k id n) ∙ i.beyond k b) (cases_eq k id)

  -- nor is one before the next one that is free
  passed : IsLeastOf (free_in row limit) id → (next : ℕ) → IsNextFree (set row id false) (id + 1) last next → (k : ℕ) → 1 ≤ k → k < next → get_or (set row id false) k false ≡ false
  passed l next n k a b = ⊎_elim (λ (is : k < id + 1). until k a is) (λ (is : id + 1 ≤ k). n.stored k is b) (cases_lt k (id + 1))
    where
      before : (k : ℕ) → 1 ≤ k → k < id → get_or row k false ≡ false
      before k a b = by (get_or row k false) (λ e. l.least k (sym (free-is row limit k a (omega (arith, b, high))) ∙ e))
        where
          by : (b : Bool) → (b ≡ true → id ≤ k) → b ≡ false
          by true f = absurd (let n = f refl in omega (arith, n, b))
          by false f = refl

      until : (k : ℕ) → 1 ≤ k → k < id + 1 → get_or (set row id false) k false ≡ false
      until k a b = ⊎_elim (λ (is : k ≡ id). ap (λ j. get_or (set row id false) j false) is ∙ marked false) (λ n. others false k (ne_eqb k id n) ∙ before k a (omega (arith, b, n))) (cases_eq k id)

  -- the least one is taken, and the next one that is free is the first one
  pub inside-taken : IsLeastOf (free_in row limit) id → (next : ℕ) → IsNextFree (set row id false) (id + 1) last next → next ≤ last → IsFreeInside (set row id false) next last limit
  inside-taken l next n is = record {
    length = length-set row id false ∙ i.length;
    few = i.few;
    above = let f = n.above in omega (arith, f);
    within = let r = i.reach in omega (arith, is, r);
    stored = passed l next n;
    found = λ _. n.found is;
    reach = i.reach;
    beyond = past;
  }

  -- the only one is taken
  pub inside-emptied : IsLeastOf (free_in row limit) id → (next : ℕ) → IsNextFree (set row id false) (id + 1) last next → last < next → IsFreeInside (set row id false) (limit + 1) 0 limit
  inside-emptied l next n is = record {
    length = length-set row id false ∙ i.length;
    few = i.few;
    above = omega arith;
    within = omega arith;
    stored = λ k a _. none k a;
    found = λ f. absurd (omega (arith, f));
    reach = omega arith;
    beyond = λ k a. none k (omega (arith, a));
  }
    where
      none : (k : ℕ) → 1 ≤ k → get_or (set row id false) k false ≡ false
      none k a = ⊎_elim (λ (b : k < next). passed l next n k a b) (λ (b : next ≤ k). past k (omega (arith, b, is))) (cases_lt k next)
