use Rattle.std.proofs.Common.{refl}
use Rattle.standby.proofs.Results.{same_error}
use Rattle.log_checker.specs.declared.refusal.CheckRefusal.TheVariants.{NoBase, Unsound}
use Rattle.log_checker.proofs.SideLaws.{judged, unsound_at}
use Rattle.log_checker.proofs.checker.Checker.verdict.Goals as goal

pub returns-in-Err-clause-unsound : goal.returns-in-Err-clause-unsound
returns-in-Err-clause-unsound g c = λ bytes id rule f is. absurd (c.in-Err.ensures.refusals (Unsound id rule) (same_error c.in-Err.refusal (Unsound id rule) is))

pub returns-in-Err-settled_graph-clause-unsound : goal.returns-in-Err-settled_graph-clause-unsound
returns-in-Err-settled_graph-clause-unsound g c =
    λ bytes id rule f is.
    unsound_at g.row.SLOTS bytes c.in-Ok.sides.replay c.in-Ok.sides.tally id rule (c.in-Ok.ensures.leads bytes f) (c.in-Err-settled_graph.ensures.unsound id rule (same_error c.in-Err-settled_graph.refusal (Unsound id rule) is))

pub returns-in-Err-settled_graph-clause-base : goal.returns-in-Err-settled_graph-clause-base
returns-in-Err-settled_graph-clause-base g c = λ bytes len f is. absurd (c.in-Err-settled_graph.ensures.refusals (NoBase len) (same_error c.in-Err-settled_graph.refusal (NoBase len) is))

pub returns-in-Ok-least_difference-clause-verdict : goal.returns-in-Ok-least_difference-clause-verdict
returns-in-Ok-least_difference-clause-verdict g c =
    λ bytes f.
    judged g.row.SLOTS bytes c.in-Ok.sides.replay c.in-Ok.sides.tally c.in-Ok-settled_graph.graph c.in-Ok-graph.graph _ (c.in-Ok.ensures.leads bytes f) c.in-Ok-settled_graph.ensures.settled
    c.in-Ok-graph.ensures c.commits.ensures c.in-Ok-least_difference.ensures
