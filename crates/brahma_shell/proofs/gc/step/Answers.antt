use Rattle.brahma_shell.proofs.GcLemmas.{steps-performs}
use Rattle.brahma_shell.proofs.gc.step.Goals as goal

pub returns-in-Ok-clause-ok : goal.returns-in-Ok-clause-ok
returns-in-Ok-clause-ok g c =
    let h = c.in-Ok.ensures.ok in
    (h.0, steps-performs c.in-Ok.field-0 c.args.store.now.journal c.collect_step.new.store.journal h.0 h.1, h.2)
