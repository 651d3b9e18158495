use Rattle.std.proofs.Common.{sym, ◌∙◌}
use Rattle.red_walk.proofs.WalkLaws.{left-listed, left-absent}
use Rattle.red_walk.proofs.red.Red.holds.Goals as goal

pub returns-then-has-clause-holds : goal.returns-then-has-clause-holds
returns-then-has-clause-holds g c =
    rw (← c.self.view_is) (left-listed _ _ _ _ _ _ _ _ _ c.self.invariant c.args.id c.index.result.now (sym c.if-has.true ∙ c.has.ensures.has) c.index.ensures (c.has.ensures.within c.if-has.true).1)

pub returns-else-has-clause-holds : goal.returns-else-has-clause-holds
returns-else-has-clause-holds g c = rw (← c.self.view_is) (left-absent _ _ _ _ _ _ _ _ _ c.self.invariant c.args.id c.has.result c.if-has.false c.has.ensures.has)
