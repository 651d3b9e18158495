-- What a change at one target does to the counts.
use Rattle.std.proofs.Common.{◌≡◌, ◌≢◌, ℕ, ◌+◌, ◌==◌, cond, Option, Some, unwrap_or, nat_eq, ap, ⊎_elim, arith}
use Rattle.std.proofs.lemmas.Bool.{cases_eq}
use Rattle.std.proofs.lemmas.Bool.Decides.{nat_tests}
use Rattle.indexmap.specs.IndexMap.{IndexMap, get, Updates}
use Rattle.ref_tables.specs.Counts.{count_at}

-- where the target has one entry less, each other one has those that it had
pub count_at-less : {S : Type 0} (old new : IndexMap ℕ ℕ S) (target count : ℕ) (kept : Option ℕ) → Updates nat_eq old new target kept → get nat_eq old target ≡ Some count → unwrap_or kept 0 + 1 ≡ count → (t : ℕ) → count_at new t + cond (t == target) 1 0 ≡ count_at old t
count_at-less old new target count kept updates had less t =
    ⊎_elim
    (λ (here : t ≡ target). let was = ap (λ o. unwrap_or o 0) had in let now = ap (λ o. unwrap_or o 0) updates.1 in rw here (grind (arith, nat_tests, was, now, less)))
    (λ (apart : t ≢ target). let same = ap (λ o. unwrap_or o 0) (updates.2 t (grind (arith, nat_tests, apart))) in grind (arith, nat_tests, apart, same))
    (cases_eq t target)
