-- What a look of the green walk at which there was nothing to do makes of it.
use Rattle.std.proofs.Common.{◌≡◌, ℕ, ◌<◌, ◌≤◌, List, Bool, true, false, refl, sym, ap, ◌∙◌, subst, arith, IfSome, ⊎_elim}
use Rattle.std.specs.Prelude.{◌&&◌, ◌+◌, if◌then◌else◌, Contains, Option, Some, None}
use Rattle.std.proofs.lemmas.Bool.{cases_lt}
use Rattle.cell_model.specs.Cells.{Cell, cell_at, pointer_at}
use Rattle.red_walk.specs.Walk.{Walk}
use Rattle.green_walk.specs.declared.sweep.SweepAt.TheVariants as sweep
use Rattle.green_walk.specs.declared.sweep.Found.{Found}
use Rattle.green_walk.specs.declared.sweep.Found.TheVariants.{Nothing, Strong}
use Rattle.green_walk.specs.declared.green_at.GreenAt.{GreenAt}
use Rattle.green_walk.specs.declared.green_at.GreenAt.TheVariants as green
use Rattle.green_walk.specs.declared.green_at.Test.{Test}
use Rattle.green_walk.specs.Sweeping.{SweepState as Sweep, next as next_of_sweep}
use Rattle.green_walk.specs.Greening.{Greening, IsGreening, IsAnswer, IsTestable, waits, next, found, testing, tested, work_left}
use Rattle.green_walk.specs.GreenLaws.{IsSameWalk, TestedGreeningLaw}
use Rattle.green_walk.proofs.GreenAnswers.{found-law, testing-law, tested-law, test-law}
use Rattle.green_walk.proofs.GreenSteps.{found-greening}
use Rattle.green_walk.proofs.GreenTests.{testing-greening}
use Rattle.green_walk.proofs.GreenWork.{found-work, testing-work, tested-work}
use Rattle.core_store.specs.declared.round_at.RoundAt.{RoundAt}
use Rattle.core_store.specs.declared.round_at.RoundAt.TheVariants as at
use Rattle.core_store.specs.Changes.{has_no_strong, is_counted_strong}
use Rattle.core_store.specs.RoundView.{is_event, is_white, seen_test, passed_by_green, IsGreeningOf}
use Rattle.core_store.specs.Stands.{IsTestedIn}
use Rattle.core_store.proofs.AskedGreen.{IsAskedBy}
use Rattle.core_store.proofs.GreenAsks.{test-answers}

-- it was answered, a test began, or it went on by one slot
pub data Looks (cells : List Cell) (g : Greening) : Greening → Type 0 where
  answers : (what : Found) → IsAnswer g (next g) what → Looks cells g (found g what)
  begins : (id : ℕ) → g.test ≡ None → IsTestable g (next g) id → has_no_strong (cell_at cells id) ≡ true → ((«from» slot : ℕ) → next g ≡ green.Out «from» slot → (pointer_at cells «from» slot).target ≡ id) → Looks cells g (testing g id)
  goes_on : (t : Test) → g.test ≡ Some t → t.slot < g.slots → is_counted_strong cells (pointer_at cells t.id t.slot) ≡ false → Looks cells g (tested g)

-- ---- which looks there are

module _ (cells : List Cell) (g : Greening) (k : IsGreening g) where
  look-seed : (id : ℕ) → g.test ≡ None → next g ≡ green.Seed id → (b z : Bool) → waits g id ≡ b → has_no_strong (cell_at cells id) ≡ z → Looks cells g (if b && z then testing g id else found g (if b then Strong else Nothing))
  look-seed id e n true true w zero = begins id e (subst (λ (a : GreenAt). IsTestable g a id) (sym n) (refl, w)) zero (λ «from» slot m. absurd (let both : green.Seed id ≡ green.Out «from» slot = sym n ∙ m in cc))
  look-seed id e n true false w zero = answers Strong (subst (λ (a : GreenAt). IsAnswer g a Strong) (sym n) w)
  look-seed id e n false z w zero = answers Nothing (subst (λ (a : GreenAt). IsAnswer g a Nothing) (sym n) tt)

  look-test : (t : Test) → g.test ≡ Some t → t.slot < g.slots → (b : Bool) → is_counted_strong cells (pointer_at cells t.id t.slot) ≡ b → Looks cells g (if b then found g Nothing else tested g)
  look-test t e l true s = answers Nothing (test-answers g t k e)
  look-test t e l false s = goes_on t e l s

  out-same : («from» slot x k : ℕ) → next g ≡ green.Out «from» slot → next g ≡ green.Out x k → (pointer_at cells x k).target ≡ (pointer_at cells «from» slot).target
  out-same «from» slot x k n m =
      let both : green.Out x k ≡ green.Out «from» slot = sym m ∙ n in
      let first : x ≡ «from» = cc in
      let second : k ≡ slot = cc in
      ap (λ (y : ℕ). (pointer_at cells y k).target) first ∙ ap (λ (y : ℕ). (pointer_at cells «from» y).target) second

  look-out : («from» slot : ℕ) → g.test ≡ None → next g ≡ green.Out «from» slot → (b : Bool) → is_white cells g (pointer_at cells «from» slot).target ≡ b → Looks cells g (if b then testing g (pointer_at cells «from» slot).target else found g Nothing)
  look-out «from» slot e n true white =
      let to = (pointer_at cells «from» slot).target in
      let parts = both (waits g to) (has_no_strong (cell_at cells to)) white in
      begins to e (subst (λ (a : GreenAt). IsTestable g a to) (sym n) parts.0) parts.1 (λ x k m. out-same «from» slot x k n m)
    where
      both : (a b : Bool) → (a && b) ≡ true → (a ≡ true) × (b ≡ true)
      both true true e = (refl, refl)
      both true false e = absurd (cc)
      both false b e = absurd (cc)
  look-out «from» slot e n false white = answers Nothing (subst (λ (a : GreenAt). IsAnswer g a Nothing) (sym n) tt)

  look-in_test : (id slot : ℕ) → IsAskedBy g.slots g.test (next g) (at.Test id slot) → Looks cells g (seen_test cells g id slot)
  look-in_test id slot a =
      let t = a.0 in
      let most = (test-law g t k a.1).1 in
      let apart = a.4 in
      let l : t.slot < g.slots = grind arith in
      subst (λ (x : ℕ). Looks cells g (seen_test cells g x slot)) a.2 (subst (λ (x : ℕ). Looks cells g (seen_test cells g t.id x)) a.3 (look-test t a.1 l (is_counted_strong cells (pointer_at cells t.id t.slot)) refl))

  -- what was asked for is a look, and not an event
  pub green-looks : (a : RoundAt) → IsAskedBy g.slots g.test (next g) a → is_event cells a ≡ false → Looks cells g (passed_by_green cells g a)
  green-looks (at.Seed id) a idle = look-seed id a.1 a.0 (waits g id) (has_no_strong (cell_at cells id)) refl refl
  green-looks (at.Test id slot) a idle = look-in_test id slot a
  green-looks (at.Into «from» slot to) a idle = answers Nothing (subst (λ (n : GreenAt). IsAnswer g n Nothing) (sym a) tt)
  green-looks (at.Out «from» slot) a idle = look-out «from» slot a.1 a.0 (is_white cells g (pointer_at cells «from» slot).target) refl
  green-looks (at.Flip id) a idle = absurd (cc)
  green-looks (at.Strengthen «from» slot to) a idle = absurd (cc)
  green-looks at.End a idle = absurd (cc)
  green-looks at.Queue a idle = absurd a
  green-looks at.Judge a idle = absurd a
  green-looks (at.Look id slot) a idle = absurd a
  green-looks (at.Copy id) a idle = absurd a
  green-looks (at.Cut id slot) a idle = absurd a
  green-looks (at.Free id) a idle = absurd a

-- ---- what they leave

pub tested-greening : TestedGreeningLaw
tested-greening g t k e l = grind arith

-- each leaves less work
pub looks-lower : (cells : List Cell) (g h : Greening) → IsGreening g → Looks cells g h → work_left h < work_left g
looks-lower cells g _ k (answers what a) = found-work g what k a
looks-lower cells g _ k (begins id e a zero named) = testing-work g id k e a
looks-lower cells g _ k (goes_on t e l weak) = tested-work g t k e l

-- what holds of every green walk holds, of the same objects
pub looks-keep : (cells : List Cell) (g h : Greening) → IsGreening g → Looks cells g h → IsGreening h × IsSameWalk g h
looks-keep cells g _ k (answers what a) = (found-greening g what k a, (found-law g what k a).0)
looks-keep cells g _ k (begins id e a zero named) = (testing-greening g id k a, (testing-law g id k a).0)
looks-keep cells g _ k (goes_on t e l weak) = (tested-greening g t k e l, (tested-law g t k e l).0)

-- after the sweep the green walk is one of the same store
pub greens-kept : (slots ids : ℕ) (w : Walk) (s : Sweep) (g h : Greening) → IsGreeningOf slots ids w s g → next_of_sweep s ≡ sweep.End → IsGreening h → IsSameWalk g h → IsGreeningOf slots ids w s h
greens-kept slots ids w s g h k rest sound same = record {
  greening = sound;
  green_limit = same.limit ∙ k.green_limit;
  green_slots = same.slots ∙ k.green_slots;
  left = λ id m. k.left id (subst (λ (xs : List ℕ). Contains xs id) same.live m);
  spared = λ id m. k.spared id (subst (λ (xs : List ℕ). Contains xs id) same.live m);
  at_rest = λ more. absurd (more rest);
}

-- what a test has found so far holds
pub looks-tested : (cells : List Cell) (g h : Greening) → IsGreening g → Looks cells g h → IfSome g.test (IsTestedIn cells g) → IfSome h.test (IsTestedIn cells h)
looks-tested cells g _ k (answers what a) before = subst (λ (o : Option Test). IfSome o (IsTestedIn cells (found g what))) (sym (found-law g what k a).1) tt
looks-tested cells g _ k (begins id e a zero named) before = record { zero = zero; none = λ n l. absurd (omega (arith, l)); named = λ «from» slot n. named «from» slot (sym (testing-law g id k a).1 ∙ n) }
looks-tested cells g _ k (goes_on t e l weak) before =
    let law = tested-law g t k e l in
    let was : IsTestedIn cells g t = subst (λ (o : Option Test). IfSome o (IsTestedIn cells g)) e before in
    subst (λ (o : Option Test). IfSome o (IsTestedIn cells (tested g))) (sym law.2) (record { zero = was.zero; none = λ n m. one-more was n m; named = λ «from» slot n. was.named «from» slot (sym law.1 ∙ n) })
  where
    one-more : IsTestedIn cells g t → (n : ℕ) → n < t.slot + 1 → is_counted_strong cells (pointer_at cells t.id n) ≡ false
    one-more was n m =
        ⊎_elim
        (λ (b : n < t.slot). was.none n b)
        (λ (b : t.slot ≤ n). let same : t.slot ≡ n = omega (arith, m, b) in subst (λ (x : ℕ). is_counted_strong cells (pointer_at cells t.id x) ≡ false) same weak)
        (cases_lt n t.slot)
