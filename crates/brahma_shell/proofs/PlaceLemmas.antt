-- Where a client's script stands.
use Rattle.std.proofs.Common.{◌≡◌, ℕ, ◌+◌, ◌<◌, Bool, true, false, List, [], ◌∷◌, length, cond, Some, None, refl, sym, ap, subst, arith}
use Rattle.std.specs.Prelude.{◌==◌, MatchOption, position, not, nat_lt}
use Rattle.std.specs.List.{position_or_len}
use Rattle.std.proofs.lemmas.Bool.{eqb-true, eqb-false, ltb-true, ltb-false}
use Rattle.client_pass.specs.declared.script.ClientScript.{ClientScript}
use Rattle.client_pass.specs.Runs.{IsNobody}
use Rattle.brahma_shell.specs.ClientScripts.{IsAt}

abbrev test : ℕ → ClientScript → Bool
test client s = s.pass == client

abbrev place : ℕ → List ClientScript → ℕ
place client xs = position_or_len (test client) xs

place-here : (client : ℕ) (x : ClientScript) (xs : List ClientScript) → (x.pass == client) ≡ true → place client (x ∷ xs) ≡ 0
place-here client x xs e = ap (λ (b : Bool). cond (not b) (1 + place client xs) 0) e

place-later : (client : ℕ) (x : ClientScript) (xs : List ClientScript) → (x.pass == client) ≡ false → place client (x ∷ xs) ≡ 1 + place client xs
place-later client x xs e = ap (λ (b : Bool). cond (not b) (1 + place client xs) 0) e

stands : (client : ℕ) (xs : List ClientScript) → place client xs < length xs → IsAt client xs (place client xs)
stands client [] l = absurd (omega (arith, l))
stands client (x ∷ xs) l = by (x.pass == client) refl (stands client xs)
  where
    by : (b : Bool) → (x.pass == client) ≡ b → (place client xs < length xs → IsAt client xs (place client xs)) → IsAt client (x ∷ xs) (place client (x ∷ xs))
    by true e more = subst (IsAt client (x ∷ xs)) (sym (place-here client x xs e)) ([], x, xs, refl, refl, eqb-true x.pass client e)
    by false e more =
        let p = place-later client x xs e in
        let at = more (omega (arith, l, p)) in
        let behind : length (x ∷ at.0) ≡ 1 + place client xs = let n = at.4 in omega (arith, n) in
        subst (IsAt client (x ∷ xs)) (sym p) (x ∷ at.0, at.1, at.2, ap (λ (ys : List ClientScript). x ∷ ys) at.3, behind, at.5)

nobody : (client : ℕ) (xs : List ClientScript) → (place client xs < length xs → ⊥) → IsNobody client xs
nobody client [] n = tt
nobody client (x ∷ xs) n = by (x.pass == client) refl (nobody client xs)
  where
    by : (b : Bool) → (x.pass == client) ≡ b → ((place client xs < length xs → ⊥) → IsNobody client xs) → IsNobody client (x ∷ xs)
    by true e more = let p = place-here client x xs e in absurd (n (omega (arith, p)))
    by false e more = let p = place-later client x xs e in (eqb-false x.pass client e, more (λ l. n (omega (arith, p, l))))

pub found : (client : ℕ) (xs : List ClientScript) → MatchOption (position (λ s. s.pass == client) xs) (IsNobody client xs) (IsAt client xs)
found client xs = by (nat_lt (place client xs) (length xs)) refl
  where
    by : (b : Bool) → nat_lt (place client xs) (length xs) ≡ b → MatchOption (cond b (Some (place client xs)) None) (IsNobody client xs) (IsAt client xs)
    by true e = stands client xs (ltb-true (place client xs) (length xs) e)
    by false e = let n = ltb-false (place client xs) (length xs) e in nobody client xs (λ l. absurd (omega (arith, n, l)))
