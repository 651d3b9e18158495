use Rattle.green_walk.proofs.GreenSteps.{settled-greening, found-greening}
use Rattle.green_walk.proofs.GreenTests.{testing-greening}
use Rattle.green_walk.proofs.laws.green_walks_stay_in_step.Goals as goal

pub returns-clause-settled : goal.returns-clause-settled
returns-clause-settled c = settled-greening

pub returns-clause-found : goal.returns-clause-found
returns-clause-found c = found-greening

pub returns-clause-testing : goal.returns-clause-testing
returns-clause-testing c = testing-greening
