use Rattle.green_walk.proofs.GreenWork.{started-work, found-work, testing-work, tested-work}
use Rattle.green_walk.proofs.laws.green_walks_end.Goals as goal

pub returns-clause-started : goal.returns-clause-started
returns-clause-started c = started-work

pub returns-clause-found : goal.returns-clause-found
returns-clause-found c = found-work

pub returns-clause-testing : goal.returns-clause-testing
returns-clause-testing c = testing-work

pub returns-clause-tested : goal.returns-clause-tested
returns-clause-tested c = tested-work
