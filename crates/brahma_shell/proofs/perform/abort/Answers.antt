use Rattle.brahma_shell.proofs.PerformLemmas.{asks-abort, performs-abort}
use Rattle.brahma_shell.proofs.perform.abort.Goals as goal

pub returns-then-not-active-clause-ok : goal.returns-then-not-active-clause-ok
returns-then-not-active-clause-ok g c = asks-abort c.call.result c.args.store.now.journal c.call.new.store.journal c.args.client c.call.ensures.no_fault c.active.ensures.entries c.if-not-active.ensures.value c.call.ensures.ok

pub returns-clause-ok : goal.returns-clause-ok
returns-clause-ok g c = performs-abort c.args.store.now.journal c.undo_all.new.store.journal c.args.client c.aborted.result c.active.ensures.entries c.undo_all.ensures.entries c.aborted.ensures
