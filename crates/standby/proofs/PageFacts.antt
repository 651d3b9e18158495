-- The pages of a store, with the ranges of their numbers.
use Rattle.std.proofs.Common.{◌≡◌, ◌⊎◌, inl, inr, ℕ, ◌+◌, ◌<◌, ◌≤◌, List, [], length, get_or, sym, ap, subst, ◌∙◌, arith}
use Rattle.std.proofs.lemmas.Bool.{cases_lt}
use Rattle.std.proofs.lemmas.List.{get_or_default}
use Rattle.cell_page.specs.declared.cell.Cell.{Cell}
use Rattle.cell_page.specs.Format.{AreTyped}
use Rattle.log_replay.specs.Inside.{AreStorePages}
use Rattle.restart_store.specs.Fresh.{MayBeMade}

-- those below this number are in their ranges
abbrev pub AreTypedBelow : {slots : ℕ} → List (List (Cell slots)) → ℕ → Type 0
AreTypedBelow pages n = (p : ℕ) → p < n → AreTyped (get_or pages p [])

pub typed_more : {slots : ℕ} (pages : List (List (Cell slots))) (n : ℕ) (page : List (Cell slots)) → AreTypedBelow pages n → n < length pages → page ≡ get_or pages n page → AreTyped page → AreTypedBelow pages (n + 1)
typed_more pages n page below within is typed p low = by (cases_lt p n)
  where
    by : (p < n) ⊎ (n ≤ p) → AreTyped (get_or pages p [])
    by (inl less) = below p less
    by (inr more) =
        let here : p ≡ n = omega (arith, low, more) in
        subst (λ c. AreTyped c) (is ∙ get_or_default pages n page [] within ∙ ap (λ (k : ℕ). get_or pages k []) (sym here)) typed

pub may_be_made : {slots : ℕ} (pages : List (List (Cell slots))) (n : ℕ) → AreStorePages pages → AreTypedBelow pages n → length pages ≤ n → MayBeMade pages
may_be_made pages n are typed all = record {
  some = omega (arith, are.some);
  few = are.most;
  each = λ p below. (are.each p below, typed p (omega (arith, below, all)));
}
