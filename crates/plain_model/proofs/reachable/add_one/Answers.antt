use Rattle.std.proofs.Common.{sym, ◌∙◌}
use Rattle.plain_model.proofs.ReachLaws.{Adds-none, true_from_not}
use Rattle.plain_model.proofs.reachable.add_one.Goals as goal

pub returns-else-branch-clause-adds : goal.returns-else-branch-clause-adds
returns-else-branch-clause-adds c = Adds-none _ _ _ _ (λ n. (c.requires c.args.id).0 (true_from_not _ (sym c.in_ok-insert.ensures.added ∙ c.if-branch.false)))
