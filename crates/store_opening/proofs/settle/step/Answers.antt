use Rattle.std.proofs.Common.{List, Bool, arith, subst}
use Rattle.store_opening.specs.Marks.{LeadsToMarked}
use Rattle.store_opening.proofs.MarkLaws.{settled-more, ids-shrunk, ids-pushed}
use Rattle.store_opening.proofs.settle.step.Goals as goal

pub returns-in-None-clause-settled : goal.returns-in-None-clause-settled
returns-in-None-clause-settled g c =
    let cells = c.args.replay.now.cells in
    let len = c.requires.settled.len in
    let within = c.requires.within in
    settled-more cells c.args.walk.now.settled.items c.args.id c.requires.settled (omega (arith, len, within)) (subst (λ (ms : List Bool). LeadsToMarked cells ms c.args.id) c.deref.ensures.value c.in-None.ensures.none)

pub returns-in-None-clause-way : goal.returns-in-None-clause-way
returns-in-None-clause-way g c = ids-shrunk _ c.pop.new.self.items _ _ c.pop.ensures.items c.requires.way

pub returns-then-index-clause-way : goal.returns-then-index-clause-way
returns-then-index-clause-way g c = ids-shrunk _ c.pop-then-index.new.self.items _ _ c.pop-then-index.ensures.items c.requires.way

pub returns-in_ok-push-in-Some-clause-way : goal.returns-in_ok-push-in-Some-clause-way
returns-in_ok-push-in-Some-clause-way g c = ids-pushed _ _ _ c.in-Some.to c.in_ok-push-in-Some.ensures.items c.in-Some.ensures.some.0 c.in-Some.ensures.some.1 c.requires.way
