use Rattle.green_walk.proofs.JudgedLaws.{seed-law, live-law, condemned-law}
use Rattle.green_walk.proofs.laws.condemned_objects_are_garbage.Goals as goal

pub returns-clause-seeds : goal.returns-clause-seeds
returns-clause-seeds c = seed-law

pub returns-clause-live : goal.returns-clause-live
returns-clause-live c = live-law

pub returns-clause-condemned : goal.returns-clause-condemned
returns-clause-condemned c = condemned-law
