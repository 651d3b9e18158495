use Rattle.std.proofs.Common.{rules, ◌≤◌, true, false, sym, ap, ◌∙◌, subst, arith, ⊎_elim}
use Rattle.core_store.specs.declared.round_at.RoundAt.{RoundAt}
use Rattle.core_store.specs.declared.round_at.RoundAt.TheVariants as at
use Rattle.core_store.specs.Collecting.{objects_at}
use Rattle.core_store.specs.Slots.{HoldsPagesOf}
use Rattle.core_store.specs.RoundView.{Rounds}
use Rattle.core_store.proofs.PlanWork.{small-targets}
use Rattle.core_store.proofs.SeenLaws.{green-of, work-at, test-nothing, test-passed}
use Rattle.core_store.proofs.tables.Tables.see_slot_of_test.Goals as goal

pub is_strong-requires : goal.is_strong-requires
is_strong-requires g c =
    let r = c.requires.ready in
    let held = c.args.held.now in
    let view = c.args.self.now.round.view in
    let small : g.row.SLOTS ≤ 14 = ⊎_elim (λ six. omega arith) (λ fourteen. omega arith) r.stands.counted in
    let pages = subst (λ (a : RoundAt). HoldsPagesOf held (objects_at r.core.cells a)) c.requires.at r.pages in
    (search rules, (r.stands.counted, (work-at r.stands (at.Test c.args.id c.args.slot) c.requires.at, (r.core.cells, r.agree, small-targets r.stands, pages))))

pub found-requires : goal.found-requires
found-requires g c =
    let x = green-of c.args.self.now.round.view (at.Test c.args.id c.args.slot) tt c.requires.at in
    (search rules, test-nothing c.requires.ready.stands c.args.id c.args.slot x)

pub invariant_of-self : goal.invariant_of-self
invariant_of-self g c =
    let t = c.args.self.now in
    let x = green-of t.round.view (at.Test c.args.id c.args.slot) tt c.requires.at in
    record { free_sized = t.free_sized; owes = t.owes; queue_sized = t.queue_sized; named_sized = t.named_sized; round_sized = ap (λ (r : Rounds). r.limit) (c.found.ensures.found x.walk x.swept x.slot x.of x.is) ∙ t.round_sized }

pub invariant_of-self-else-is_strong : goal.invariant_of-self-else-is_strong
invariant_of-self-else-is_strong g c =
    let t = c.args.self.now in
    let x = green-of t.round.view (at.Test c.args.id c.args.slot) tt c.requires.at in
    record { free_sized = t.free_sized; owes = t.owes; queue_sized = t.queue_sized; named_sized = t.named_sized; round_sized = ap (λ (r : Rounds). r.limit) (c.tested.ensures.tested x.walk x.swept x.slot x.of x.is) ∙ t.round_sized }

pub returns-then-is_strong : goal.returns-then-is_strong
returns-then-is_strong g c = record {
  seen = λ core h agree.
      (let x = green-of c.args.self.now.round.view (at.Test c.args.id c.args.slot) tt c.requires.at in
      test-passed h c.args.id c.args.slot x c.found.new.self.view true c.requires.at (sym (c.is_strong.ensures core.cells agree) ∙ c.if-is_strong.true)
      (ap (λ (r : Rounds). r.view) (c.found.ensures.found x.walk x.swept x.slot x.of x.is)));
}

pub returns-else-is_strong : goal.returns-else-is_strong
returns-else-is_strong g c = record {
  seen = λ core h agree.
      (let x = green-of c.args.self.now.round.view (at.Test c.args.id c.args.slot) tt c.requires.at in
      test-passed h c.args.id c.args.slot x c.tested.new.self.view false c.requires.at (sym (c.is_strong.ensures core.cells agree) ∙ c.if-is_strong.false)
      (ap (λ (r : Rounds). r.view) (c.tested.ensures.tested x.walk x.swept x.slot x.of x.is)));
}
