use Rattle.green_walk.proofs.SweepLaws.{empty-law, free-law}
use Rattle.green_walk.proofs.laws.sweeps_free_the_condemned.Goals as goal

pub returns-clause-empties : goal.returns-clause-empties
returns-clause-empties c = empty-law

pub returns-clause-frees : goal.returns-clause-frees
returns-clause-frees c = free-law
