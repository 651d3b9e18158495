use Rattle.quiet_rounds.proofs.NotedRounds.{noted-round, noted-dominated, noted-deleted, noted-kept, noted-fewer, noted-bound}
use Rattle.quiet_rounds.proofs.noted_rounds_are_exact.Goals as goal

pub returns-clause-round : goal.returns-clause-round
returns-clause-round c = noted-round

pub returns-clause-dominated : goal.returns-clause-dominated
returns-clause-dominated c = noted-dominated

pub returns-clause-deleted : goal.returns-clause-deleted
returns-clause-deleted c = noted-deleted

pub returns-clause-kept : goal.returns-clause-kept
returns-clause-kept c = noted-kept

pub returns-clause-fewer : goal.returns-clause-fewer
returns-clause-fewer c = noted-fewer

pub returns-clause-bound : goal.returns-clause-bound
returns-clause-bound c = noted-bound
