-- What a green walk is that asks for a look or an event of its own.
use Rattle.std.proofs.Common.{◌≡◌, ◌≢◌, ℕ, refl, Bool, true, false, if◌then◌else◌, ◌==◌, Option, Some, None}
use Rattle.std.proofs.lemmas.Bool.{eqb-true, eqb-false}
use Rattle.green_walk.specs.declared.green_at.GreenAt.{GreenAt}
use Rattle.green_walk.specs.declared.green_at.GreenAt.TheVariants as green
use Rattle.green_walk.specs.declared.green_at.Test.{Test}
use Rattle.core_store.specs.declared.round_at.RoundAt.{RoundAt}
use Rattle.core_store.specs.declared.round_at.RoundAt.TheVariants as at
use Rattle.core_store.specs.RoundView.{asked_by_green}

-- what the green walk asked for, and the test that is in hand, where this comes next in a store of so many slots
abbrev pub IsAskedBy : ℕ → Option Test → GreenAt → RoundAt → Type 0
IsAskedBy slots test n (at.Seed id) = (n ≡ green.Seed id) × (test ≡ None)
IsAskedBy slots test n (at.Test id slot) = (t : Test) × (test ≡ Some t) × (t.id ≡ id) × (t.slot ≡ slot) × (t.slot ≢ slots)
IsAskedBy slots test n (at.Flip id) = (n ≡ green.Seed id) × (t : Test) × (test ≡ Some t) × (t.slot ≡ slots)
IsAskedBy slots test n (at.Into «from» slot to) = n ≡ green.Into «from» slot to
IsAskedBy slots test n (at.Out «from» slot) = (n ≡ green.Out «from» slot) × (test ≡ None)
IsAskedBy slots test n (at.Strengthen «from» slot to) = (n ≡ green.Out «from» slot) × (t : Test) × (test ≡ Some t) × (t.id ≡ to) × (t.slot ≡ slots)
IsAskedBy slots test n at.End = n ≡ green.End
IsAskedBy slots test n _ = ⊥

pub asked-by : (slots : ℕ) (test : Option Test) (n : GreenAt) → IsAskedBy slots test n (asked_by_green slots test n)
asked-by slots None (green.Seed id) = (refl, refl)
asked-by slots (Some t) (green.Seed id) = by (t.slot == slots) refl
  where
    by : (b : Bool) → (t.slot == slots) ≡ b → IsAskedBy slots (Some t) (green.Seed id) (if b then at.Flip id else at.Test t.id t.slot)
    by true e = (refl, t, refl, eqb-true t.slot slots e)
    by false e = (t, refl, refl, refl, eqb-false t.slot slots e)
asked-by slots test (green.Into «from» slot to) = refl
asked-by slots None (green.Out «from» slot) = (refl, refl)
asked-by slots (Some t) (green.Out «from» slot) = by (t.slot == slots) refl
  where
    by : (b : Bool) → (t.slot == slots) ≡ b → IsAskedBy slots (Some t) (green.Out «from» slot) (if b then at.Strengthen «from» slot t.id else at.Test t.id t.slot)
    by true e = (refl, t, refl, refl, eqb-true t.slot slots e)
    by false e = (t, refl, refl, refl, eqb-false t.slot slots e)
asked-by slots test green.End = refl
