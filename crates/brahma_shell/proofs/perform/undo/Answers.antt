use Rattle.brahma_shell.proofs.PerformLemmas.{performs-no_undo, performs-undo, performs-ended}
use Rattle.brahma_shell.proofs.perform.undo.Goals as goal

pub returns-then-not-active-clause-ok : goal.returns-then-not-active-clause-ok
returns-then-not-active-clause-ok g c =
    let called = c.in_ok-call.ensures.ok in
    performs-no_undo c.args.store.now.journal c.call.new.store.journal c.args.client c.in_ok-call.field-0 c.in_ok-call.ensures.no_fault c.active.ensures.entries c.if-not-active.ensures.value called.0 called.1 called.2

pub returns-in-Ok-Undone-clause-ok : goal.returns-in-Ok-Undone-clause-ok
returns-in-Ok-Undone-clause-ok g c =
    let undone = c.in-Ok-Undone.ensures.undone c.in-Ok-Undone.field-0-is in
    performs-undo c.args.store.now.journal c.abort_step.new.self.journal c.args.client c.active.ensures.entries undone.0 undone.1

pub returns-in-Ok-Ended-clause-ok : goal.returns-in-Ok-Ended-clause-ok
returns-in-Ok-Ended-clause-ok g c =
    let ended = c.in-Ok-Ended.ensures.ended c.in-Ok-Ended.field-0-is in
    performs-ended c.args.store.now.journal c.abort_step.new.self.journal c.args.client c.aborted.result c.active.ensures.entries ended.0 ended.1 c.aborted.ensures
