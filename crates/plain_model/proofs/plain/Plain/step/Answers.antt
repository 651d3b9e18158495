-- The store's size stays.
use Rattle.plain_model.proofs.StepLaws.{size-answered, size-step}
use Rattle.plain_model.proofs.plain.Plain.step.Goals as goal

pub returns-in-Begin-clause-size : goal.returns-in-Begin-clause-size
returns-in-Begin-clause-size c = size-answered _ _ _ _ c.begin.result c.begin.ensures.ok c.begin.ensures.err

pub returns-in-Make-clause-size : goal.returns-in-Make-clause-size
returns-in-Make-clause-size c = size-answered _ _ _ _ c.make.result c.make.ensures.ok c.make.ensures.err

pub returns-in-Store-clause-size : goal.returns-in-Store-clause-size
returns-in-Store-clause-size c = size-answered _ _ _ _ c.store.result c.store.ensures.ok c.store.ensures.err

pub returns-in-Commit-clause-size : goal.returns-in-Commit-clause-size
returns-in-Commit-clause-size c = size-answered _ _ _ _ c.commit.result c.commit.ensures.ok c.commit.ensures.err

pub returns-in-Read-clause-size : goal.returns-in-Read-clause-size
returns-in-Read-clause-size c = size-answered _ _ _ _ c.read.result c.read.ensures.ok c.read.ensures.err

pub returns-in-GetPay-clause-size : goal.returns-in-GetPay-clause-size
returns-in-GetPay-clause-size c = size-answered _ _ _ _ c.get_pay.result c.get_pay.ensures.ok c.get_pay.ensures.err

pub returns-in-SetPay-clause-size : goal.returns-in-SetPay-clause-size
returns-in-SetPay-clause-size c = size-answered _ _ _ _ c.set_pay.result c.set_pay.ensures.ok c.set_pay.ensures.err

pub returns-in-Release-clause-size : goal.returns-in-Release-clause-size
returns-in-Release-clause-size c = size-answered _ _ _ _ c.release.result c.release.ensures.ok c.release.ensures.err

pub returns-in-Abort-clause-size : goal.returns-in-Abort-clause-size
returns-in-Abort-clause-size c = size-step _ _ _ _ _ c.abort.ensures
