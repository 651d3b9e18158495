use Rattle.quiet_rounds.proofs.StepsEnd.{steps-queue, steps-rounds, steps-end, steps-idle}
use Rattle.quiet_rounds.proofs.quiet_steps_end.Goals as goal

pub returns-clause-queue : goal.returns-clause-queue
returns-clause-queue c = steps-queue

pub returns-clause-rounds : goal.returns-clause-rounds
returns-clause-rounds c = steps-rounds

pub returns-clause-end : goal.returns-clause-end
returns-clause-end c = steps-end

pub returns-clause-idle : goal.returns-clause-idle
returns-clause-idle c = steps-idle
