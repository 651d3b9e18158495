use Rattle.quiet_rounds.proofs.Bounds.{bound}
use Rattle.quiet_rounds.proofs.Deleted.{kept, deleted}
use Rattle.quiet_rounds.proofs.Dominated.{dominated}
use Rattle.quiet_rounds.proofs.Fewer.{fewer}
use Rattle.quiet_rounds.proofs.quiet_rounds_are_exact.Goals as goal

pub returns-clause-dominated : goal.returns-clause-dominated
returns-clause-dominated c = dominated

pub returns-clause-deleted : goal.returns-clause-deleted
returns-clause-deleted c = deleted dominated

pub returns-clause-kept : goal.returns-clause-kept
returns-clause-kept c = kept

pub returns-clause-fewer : goal.returns-clause-fewer
returns-clause-fewer c = fewer

pub returns-clause-bound : goal.returns-clause-bound
returns-clause-bound c = bound
