-- Whether something was touched.
use Rattle.std.proofs.Common.{◌≡◌, ℕ, ◌<◌, true, false, not, List, [], ◌∷◌, length, get_or, refl, sym, ap, ◌∙◌, true≢false}
use Rattle.std.specs.Prelude.{Contains}
use Rattle.std.proofs.lemmas.List.{get_or_default}
use Rattle.store_model.proofs.Lists.{Contains-here}
use Rattle.ref_tables.specs.Queue.{has}
use Rattle.red_walk.proofs.Members.{has-Contains}
use Rattle.green_walk.specs.Greening.{are_none}

-- a list that has an id isn't empty
pub some-has : (ids : List ℕ) (id : ℕ) → has ids id ≡ true → true ≡ not (are_none ids)
some-has [] id h = absurd (cc)
some-has (x ∷ xs) id h = refl

-- where no id of a list is touched, and what is touched is of the list, nothing is
pub none-touched : (list touched : List ℕ) → ((id : ℕ) → Contains touched id → Contains list id) → ((k : ℕ) → k < length list → has touched (get_or list k 0) ≡ false) → false ≡ not (are_none touched)
none-touched list [] listed untouched = refl
none-touched list (x ∷ xs) listed untouched =
    let at = listed x (Contains-here x xs) in
    let same : get_or list at.0 0 ≡ x = get_or_default list at.0 0 x at.1 ∙ at.2 in
    absurd (true≢false (sym (has-Contains (x ∷ xs) x (Contains-here x xs)) ∙ ap (λ id. has (x ∷ xs) id) (sym same) ∙ untouched at.0 at.1))
