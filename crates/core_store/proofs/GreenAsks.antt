-- What may be answered to a green walk that asks for an event or goes over the slots of a test.
use Rattle.std.proofs.Common.{◌≡◌, ℕ, refl, sym, subst, IfSome}
use Rattle.std.specs.Prelude.{true, Option, Some}
use Rattle.green_walk.specs.declared.sweep.Found.TheVariants.{Nothing, Made}
use Rattle.green_walk.specs.declared.green_at.GreenAt.{GreenAt}
use Rattle.green_walk.specs.declared.green_at.GreenAt.TheVariants as green
use Rattle.green_walk.specs.declared.green_at.Test.{Test}
use Rattle.green_walk.specs.Greening.{Greening, IsGreening, IsTesting, IsAnswer, IsTestable, waits, next}
use Rattle.green_walk.proofs.GreenAnswers.{test-law}
use Rattle.core_store.specs.declared.round_at.RoundAt.TheVariants as at
use Rattle.core_store.proofs.AskedGreen.{IsAskedBy}

-- a tested object waits
pub tested-waits : (g : Greening) (t : Test) → IsGreening g → g.test ≡ Some t → waits g t.id ≡ true
tested-waits g t k e = (subst (λ (o : Option Test). IfSome o (IsTesting g)) e k.tests).waits

-- at a seed the tested object is that
pub tested-seed : (g : Greening) (t : Test) (id : ℕ) → IsGreening g → g.test ≡ Some t → next g ≡ green.Seed id → t.id ≡ id
tested-seed g t id k e n = (subst (λ (a : GreenAt). IsTestable g a t.id) n (test-law g t k e).0).0

module _ (g : Greening) (k : IsGreening g) where
  pub flip-answers : (id : ℕ) → IsAskedBy g.slots g.test (next g) (at.Flip id) → IsAnswer g (next g) (Made id)
  flip-answers id a = subst (λ (n : GreenAt). IsAnswer g n (Made id)) (sym a.0) (refl, subst (λ (x : ℕ). waits g x ≡ true) (tested-seed g a.1 id k a.2 a.0) (tested-waits g a.1 k a.2))

  pub into-answers : («from» slot to : ℕ) → IsAskedBy g.slots g.test (next g) (at.Into «from» slot to) → IsAnswer g (next g) (Made «from»)
  into-answers «from» slot to a = subst (λ (n : GreenAt). IsAnswer g n (Made «from»)) (sym a) refl

  pub strengthen-answers : («from» slot to : ℕ) → IsAskedBy g.slots g.test (next g) (at.Strengthen «from» slot to) → IsAnswer g (next g) (Made to)
  strengthen-answers «from» slot to a = subst (λ (n : GreenAt). IsAnswer g n (Made to)) (sym a.0) (subst (λ (x : ℕ). waits g x ≡ true) a.3 (tested-waits g a.1 k a.2))

-- where an object may be tested, it may be answered that nothing is to be done
testable-nothing : (g : Greening) (n : GreenAt) (id : ℕ) → IsTestable g n id → IsAnswer g n Nothing
testable-nothing g (green.Seed seed) id a = tt
testable-nothing g (green.Into «from» slot to) id a = absurd a
testable-nothing g (green.Out «from» slot) id a = tt
testable-nothing g green.End id a = absurd a

pub test-answers : (g : Greening) (t : Test) → IsGreening g → g.test ≡ Some t → IsAnswer g (next g) Nothing
test-answers g t k e = testable-nothing g (next g) t.id (test-law g t k e).0
