use Rattle.std.proofs.Common.{◌≡◌, ℕ, ◌<◌, ◌≤◌, false, get_or, sym, ◌∙◌, subst, arith, ⊎_elim}
use Rattle.std.proofs.lemmas.Bool.{cases_lt}
use Rattle.core_store.specs.SlotLooks.{is_white_in}
use Rattle.core_store.proofs.tables.Tables.first_to_test.Goals as goal

-- nor does this slot lead to such an object
pub loop-place-preserved : goal.loop-place-preserved
loop-place-preserved g c core h k a b =
    ⊎_elim
    (λ (l : k < c.loop-place.place). c.loop-place.invariant core h k a l)
    (λ (l : c.loop-place.place ≤ k). (let same : k ≡ c.loop-place.place = omega (arith, l, b) in
    subst (λ (n : ℕ). is_white_in core.cells c.args.self.now.round.view (get_or c.args.slots.now n 0) ≡ false) (sym same) (sym (c.is_to_test.ensures core h) ∙ c.if-is_to_test.false)))
    (cases_lt k c.loop-place.place)

-- where it stops there is an object that is to be tested
pub returns-then-is_to_test-clause-white : goal.returns-then-is_to_test-clause-white
returns-then-is_to_test-clause-white g c l core h = sym (c.is_to_test.ensures core h) ∙ c.if-is_to_test.true

pub returns-clause-idle : goal.returns-clause-idle
returns-clause-idle g c core h k a b =
    let all = c.loop-place-test.false in
    let l : k < c.loop-place.place = omega (arith, b, all) in
    c.loop-place.invariant core h k a l
