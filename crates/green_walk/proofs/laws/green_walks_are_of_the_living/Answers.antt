use Rattle.green_walk.proofs.GreenAnswers.{seeds-live, settled-law, found-law, testing-law, tested-law, test-law}
use Rattle.green_walk.proofs.JumpLaws.{tested-to-law, walked-to-law}
use Rattle.green_walk.proofs.GreenAsked.{asked, waits-live}
use Rattle.green_walk.proofs.laws.green_walks_are_of_the_living.Goals as goal

pub returns-clause-asked : goal.returns-clause-asked
returns-clause-asked c = asked

pub returns-clause-waits : goal.returns-clause-waits
returns-clause-waits c = waits-live

pub returns-clause-seeds : goal.returns-clause-seeds
returns-clause-seeds c = seeds-live

pub returns-clause-settled : goal.returns-clause-settled
returns-clause-settled c = settled-law

pub returns-clause-testing : goal.returns-clause-testing
returns-clause-testing c = testing-law

pub returns-clause-tested : goal.returns-clause-tested
returns-clause-tested c = tested-law

pub returns-clause-tests_jump : goal.returns-clause-tests_jump
returns-clause-tests_jump c = tested-to-law

pub returns-clause-walks_jump : goal.returns-clause-walks_jump
returns-clause-walks_jump c = walked-to-law

pub returns-clause-test : goal.returns-clause-test
returns-clause-test c = test-law

pub returns-clause-found : goal.returns-clause-found
returns-clause-found c = found-law
