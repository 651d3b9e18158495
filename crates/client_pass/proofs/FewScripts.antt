-- Clients are numbered from 1 to 64, so no more than 64 scripts have different ones.
use Rattle.std.proofs.Common.{◌≡◌, ◌≢◌, ℕ, zero, suc, ◌+◌, ◌≤◌, List, [], ◌∷◌, length, refl, sym, ap, subst, ◌∙◌, arith, ⊎_elim}
use Rattle.std.specs.Prelude.{◌==◌, if◌then◌else◌}
use Rattle.std.specs.List.{AllByRecursion}
use Rattle.std.proofs.lemmas.Bool.{cases_eq, cond-true, cond-false, eq-eqb, ne_eqb}
use Rattle.shared_store.specs.Passes.{IsClient}
use Rattle.client_pass.specs.declared.script.ClientScript.{ClientScript}
use Rattle.client_pass.specs.Runs.{IsNobody, AreApart}

-- the scripts of the other clients
abbrev pub scripts_but : ℕ → List ClientScript → List ClientScript
scripts_but client [] = []
scripts_but client (s ∷ scripts) = if s.pass == client then scripts_but client scripts else s ∷ scripts_but client scripts

its-own : (client : ℕ) (s : ClientScript) (scripts : List ClientScript) → s.pass ≡ client → scripts_but client (s ∷ scripts) ≡ scripts_but client scripts
its-own client s scripts e = cond-true (s.pass == client) (scripts_but client scripts) (s ∷ scripts_but client scripts) (eq-eqb s.pass client e)

another's : (client : ℕ) (s : ClientScript) (scripts : List ClientScript) → s.pass ≢ client → scripts_but client (s ∷ scripts) ≡ s ∷ scripts_but client scripts
another's client s scripts n = cond-false (s.pass == client) (scripts_but client scripts) (s ∷ scripts_but client scripts) (ne_eqb s.pass client n)

-- what holds of each script holds of these
nobody-but : (c client : ℕ) (scripts : List ClientScript) → IsNobody c scripts → IsNobody c (scripts_but client scripts)
nobody-but c client [] h = tt
nobody-but c client (s ∷ scripts) h =
    ⊎_elim
    (λ (e : s.pass ≡ client). subst (IsNobody c) (sym (its-own client s scripts e)) (nobody-but c client scripts h.1))
    (λ (n : s.pass ≢ client). subst (IsNobody c) (sym (another's client s scripts n)) (h.0, nobody-but c client scripts h.1))
    (cases_eq s.pass client)

apart-but : (client : ℕ) (scripts : List ClientScript) → AreApart scripts → AreApart (scripts_but client scripts)
apart-but client [] h = tt
apart-but client (s ∷ scripts) h =
    ⊎_elim
    (λ (e : s.pass ≡ client). subst AreApart (sym (its-own client s scripts e)) (apart-but client scripts h.1))
    (λ (n : s.pass ≢ client). subst AreApart (sym (another's client s scripts n)) (nobody-but s.pass client scripts h.0, apart-but client scripts h.1))
    (cases_eq s.pass client)

-- their clients have numbers from 1 to this one
abbrev pub AreUpTo : ℕ → List ClientScript → Type 0
AreUpTo n scripts = AllByRecursion (λ s. (1 ≤ s.pass) × (s.pass ≤ n)) scripts

lower-but : (n : ℕ) (scripts : List ClientScript) → AreUpTo (suc n) scripts → AreUpTo n (scripts_but (suc n) scripts)
lower-but n [] h = tt
lower-but n (s ∷ scripts) h =
    ⊎_elim
    (λ (e : s.pass ≡ suc n). subst (AreUpTo n) (sym (its-own (suc n) s scripts e)) (lower-but n scripts h.1))
    (λ (a : s.pass ≢ suc n). subst (AreUpTo n) (sym (another's (suc n) s scripts a)) ((h.0.0, below s.pass h.0.1 a), lower-but n scripts h.1))
    (cases_eq s.pass (suc n))
  where
    below : (p : ℕ) → p ≤ suc n → p ≢ suc n → p ≤ n
    below p h ne = grind arith

-- no script is the client's, so none is left out
nobody-all : (client : ℕ) (scripts : List ClientScript) → IsNobody client scripts → scripts_but client scripts ≡ scripts
nobody-all client [] h = refl
nobody-all client (s ∷ scripts) h = another's client s scripts h.0 ∙ ap (λ ss. s ∷ ss) (nobody-all client scripts h.1)

-- one at most is left out
one-but : (client : ℕ) (scripts : List ClientScript) → AreApart scripts → length scripts ≤ length (scripts_but client scripts) + 1
one-but client [] h = omega arith
one-but client (s ∷ scripts) h =
    ⊎_elim
    (λ (e : s.pass ≡ client).
    let all : length (scripts_but client (s ∷ scripts)) ≡ length scripts = ap length (its-own client s scripts e ∙ nobody-all client scripts (subst (λ c. IsNobody c scripts) e h.0)) in
    omega (arith, all))
    (λ (n : s.pass ≢ client).
    let more = one-but client scripts h.1 in
    let all : length (scripts_but client (s ∷ scripts)) ≡ suc (length (scripts_but client scripts)) = ap length (another's client s scripts n) in
    omega (arith, all, more))
    (cases_eq s.pass client)

-- scripts of different clients with numbers from 1 to n are at most n
pub few-up_to : (n : ℕ) (scripts : List ClientScript) → AreApart scripts → AreUpTo n scripts → length scripts ≤ n
few-up_to zero [] a h = omega arith
few-up_to zero (s ∷ scripts) a h = let low = h.0.0 in let high = h.0.1 in absurd (omega (arith, low, high))
few-up_to (suc n) scripts a h =
    let one = one-but (suc n) scripts a in
    let less = few-up_to n (scripts_but (suc n) scripts) (apart-but (suc n) scripts a) (lower-but n scripts h) in
    omega (arith, one, less)

-- at most 64 clients have a script
pub few-scripts : (scripts : List ClientScript) → AreApart scripts → AllByRecursion (λ s. IsClient s.pass) scripts → length scripts ≤ 64
few-scripts scripts a h = few-up_to 64 scripts a h
