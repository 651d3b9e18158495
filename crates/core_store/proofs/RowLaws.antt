-- The row that says which objects of a round are locked.
use Rattle.std.proofs.Common.{◌≡◌, ℕ, ◌+◌, ◌<◌, ◌≤◌, Bool, true, false, List, length, get_or, Option, Some, None, sym, ap, ◌∙◌, subst, arith, ⊎_elim}
use Rattle.std.specs.Prelude.{is_some, slice_set}
use Rattle.std.proofs.lemmas.List.{get_or-set_same, get_or-set_other}
use Rattle.std.proofs.lemmas.Bool.{cases_eq}
use Rattle.strict_locks.specs.Locks.{Table, holders_of, Holds, IsLeastOrNone}
use Rattle.core_store.specs.RoundInside.{IsRowOf}

-- so many first places are noted
pub record IsRowTo (locks : Table) (list : List ℕ) (row : List Bool) (n : ℕ) : Type 0 where
  pub locked : (place : ℕ) → place < n → get_or row place false ≡ true → (pass : ℕ) × Holds (holders_of locks (get_or list place 0)) pass
  pub free : (place pass : ℕ) → place < n → get_or row place false ≡ false → Holds (holders_of locks (get_or list place 0)) pass → ⊥

yes : (locks : Table) (id : ℕ) (found : Option ℕ) → IsLeastOrNone (Holds (holders_of locks id)) found → is_some found ≡ true → (pass : ℕ) × Holds (holders_of locks id) pass
yes locks id None l e = absurd (cc)
yes locks id (Some p) l e = (p, l.0)

no : (locks : Table) (id : ℕ) (found : Option ℕ) → IsLeastOrNone (Holds (holders_of locks id)) found → is_some found ≡ false → (pass : ℕ) → Holds (holders_of locks id) pass → ⊥
no locks id None l e = l
no locks id (Some p) l e = absurd (cc)

pub row-more : (locks : Table) (list : List ℕ) (row : List Bool) (n : ℕ) (found : Option ℕ) → IsRowTo locks list row n → n < length row → IsLeastOrNone (Holds (holders_of locks (get_or list n 0))) found → IsRowTo locks list (slice_set row n (is_some found)) (n + 1)
row-more locks list row n found k within l = record {
  locked = λ place below e.
      ⊎_elim
      (λ (same : place ≡ n).
      subst (λ x. (pass : ℕ) × Holds (holders_of locks (get_or list x 0)) pass) (sym same) (yes locks (get_or list n 0) found l (sym (get_or-set_same row n (is_some found) false within) ∙ ap (λ x. get_or (slice_set row n (is_some found)) x false) (sym same) ∙ e)))
      (λ other. k.locked place (omega (arith, below, other)) (sym (get_or-set_other row n place (is_some found) false other) ∙ e))
      (cases_eq place n);
  free = λ place pass below e.
      ⊎_elim
      (λ (same : place ≡ n).
      subst (λ x. Holds (holders_of locks (get_or list x 0)) pass → ⊥) (sym same) (no locks (get_or list n 0) found l (sym (get_or-set_same row n (is_some found) false within) ∙ ap (λ x. get_or (slice_set row n (is_some found)) x false) (sym same) ∙ e) pass))
      (λ other. k.free place pass (omega (arith, below, other)) (sym (get_or-set_other row n place (is_some found) false other) ∙ e))
      (cases_eq place n);
}

pub row-all : (locks : Table) (list : List ℕ) (row : List Bool) (n : ℕ) → IsRowTo locks list row n → length list ≤ n → IsRowOf locks list row
row-all locks list row n k most = record { locked = λ place below e. k.locked place (omega (arith, below, most)) e; free = λ place pass below e h. k.free place pass (omega (arith, below, most)) e h }
