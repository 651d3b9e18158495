-- How many ids are free.
use Rattle.std.proofs.Common.{◌≡◌, ◌≢◌, ℕ, ◌+◌, ◌<◌, zero, suc, Bool, true, false, List, Some, None, refl, sym, ap, ◌∙◌, subst, arith}
use Rattle.std.specs.Prelude.{◌||◌, ◌==◌, if◌then◌else◌}
use Rattle.std.specs.Ordering.{nat_cmp}
use Rattle.std.specs.BTreeSet.{insert_key}
use Rattle.std.proofs.lemmas.Bool.Decides.{nat_tests}
use Rattle.plain_model.specs.Machine.{is_stored, least_free}
use Rattle.plain_laws.proofs.Locks.{stored-insert}
use Rattle.plain_laws.proofs.Ids.{stored-insert_same, stored-insert_more}
use Rattle.object_map.specs.Clients.{free_among}

abbrev counted : Bool → ℕ → ℕ
counted b n = if b then n else suc n

-- where no id is free there are none
pub free_none : (stored : List ℕ) (i n : ℕ) → least_free stored i n ≡ None → free_among stored i n ≡ 0
free_none stored i zero e = refl
free_none stored i (suc n) e = elim (is_stored stored i) as (λ b. (if b then least_free stored (i + 1) n else Some i) ≡ None → counted b (free_among stored (i + 1) n) ≡ 0) [
  | true ↦ λ f. free_none stored (i + 1) n f
  | false ↦ λ f. absurd (cc)
] e

other_id : (a b : ℕ) → a ≢ b → (a == b) ≡ false
other_id a b n = grind (arith, nat_tests)

-- an id that is stored now is none of those above it
free_above : (stored : List ℕ) (k i n : ℕ) → k < i → free_among (insert_key nat_cmp stored k) i n ≡ free_among stored i n
free_above stored k i zero l = refl
free_above stored k i (suc n) l =
    let apart : i ≢ k = λ e. absurd (omega (arith, l, e)) in
    let same : is_stored (insert_key nat_cmp stored k) i ≡ is_stored stored i = stored-insert stored k i ∙ ap (λ b. b || is_stored stored i) (other_id i k apart) in
    let more : k < i + 1 = omega (arith, l) in
    ap (λ b. counted b (free_among (insert_key nat_cmp stored k) (i + 1) n)) same ∙ ap (λ m. counted (is_stored stored i) m) (free_above stored k (i + 1) n more)

-- the least free id is one less when it is stored
pub free_made : (stored : List ℕ) (i n k : ℕ) → least_free stored i n ≡ Some k → suc (free_among (insert_key nat_cmp stored k) i n) ≡ free_among stored i n
free_made stored i zero k e = absurd (cc)
free_made stored i (suc n) k e = by (λ f. free_made stored (i + 1) n k f) (is_stored stored i) refl
  where
    by : (least_free stored (i + 1) n ≡ Some k → suc (free_among (insert_key nat_cmp stored k) (i + 1) n) ≡ free_among stored (i + 1) n) → (b : Bool) → is_stored stored i ≡ b → suc (free_among (insert_key nat_cmp stored k) i (suc n)) ≡ free_among stored i (suc n)
    by less_by_one true t =
        let f : least_free stored (i + 1) n ≡ Some k = sym (ap (λ b. if b then least_free stored (i + 1) n else Some i) t) ∙ e in
        let here : is_stored (insert_key nat_cmp stored k) i ≡ true = stored-insert_more k i stored t in
        ap (λ b. suc (counted b (free_among (insert_key nat_cmp stored k) (i + 1) n))) here ∙ less_by_one f ∙ sym (ap (λ b. counted b (free_among stored (i + 1) n)) t)
    by less_by_one false t =
        let f : Some i ≡ Some k = sym (ap (λ b. if b then least_free stored (i + 1) n else Some i) t) ∙ e in
        let same : i ≡ k = cc in
        let here : is_stored (insert_key nat_cmp stored k) i ≡ true = subst (λ x. is_stored (insert_key nat_cmp stored k) x ≡ true) (sym same) (stored-insert_same k stored) in
        let less : k < i + 1 = omega (arith, same) in
        ap (λ b. suc (counted b (free_among (insert_key nat_cmp stored k) (i + 1) n))) here ∙ ap suc (free_above stored k (i + 1) n less) ∙ sym (ap (λ b. counted b (free_among stored (i + 1) n)) t)
