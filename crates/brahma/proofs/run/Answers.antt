use Rattle.brahma.proofs.run.Goals as goal

pub returns-in-Ok-clause-answered : goal.returns-in-Ok-clause-answered
returns-in-Ok-clause-answered g c = rw c.in-Ok.is c.brahma.ensures
