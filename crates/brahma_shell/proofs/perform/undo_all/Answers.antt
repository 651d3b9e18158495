use Rattle.std.proofs.Common.{◌≡◌, ◌+◌, ◌∷◌, [], replicate, arith}
use Rattle.plain_model.specs.declared.calls.Entry.TheVariants.{Undo, Call}
use Rattle.plain_model.specs.declared.calls.Call.TheVariants.{Abort}
use Rattle.plain_model.specs.declared.calls.Reply.TheVariants.{Done}
use Rattle.plain_model.specs.History.{end_of, left_to_undo}
use Rattle.brahma_shell.proofs.AbortLemmas.{left_to_undo-undo, still_active, with_undos}
use Rattle.brahma_shell.proofs.GrowthLemmas.{GrowsBy-trans, GrowsBy-end}
use Rattle.brahma_shell.proofs.LogLemmas.{StaysRunning-trans}
use Rattle.brahma_shell.proofs.perform.undo_all.Goals as goal

pub steps-preserved : goal.steps-preserved
steps-preserved g c =
    let u = c.in-Ok-Undone.ensures.undone c.in-Ok-Undone.field-0-is in
    let client = c.args.client in
    let i = c.steps.invariant.undone in
    let old = c.steps.store.journal in
    let new = c.abort_step.new.self.journal in
    let e = GrowsBy-end old new (Undo client) u.1 in
    let one = left_to_undo-undo (end_of old.history) client c.steps.invariant.active u.0 in
    record {
      undone = (i.0 + 1, with_undos c.args.store.now.journal old new client i.0 i.1 u.1, rw e (omega (arith, one, i.2)));
      goes_on = StaysRunning-trans g.D.Disk.faults c.args.store.now c.steps.store c.abort_step.new.self c.steps.invariant.goes_on c.abort_step.ensures.goes_on;
      active = rw e (still_active (end_of old.history).state client c.steps.invariant.active);
    }

pub steps-smaller : goal.steps-smaller
steps-smaller g c =
    let u = c.in-Ok-Undone.ensures.undone c.in-Ok-Undone.field-0-is in
    let client = c.args.client in
    let old = c.steps.store.journal in
    let e = GrowsBy-end old c.abort_step.new.self.journal (Undo client) u.1 in
    let one = left_to_undo-undo (end_of old.history) client c.steps.invariant.active u.0 in
    rw e (omega (arith, one))

pub returns-in-Ok-Ended-clause-entries : goal.returns-in-Ok-Ended-clause-entries
returns-in-Ok-Ended-clause-entries g c =
    let u = c.in-Ok-Ended.ensures.ended c.in-Ok-Ended.field-0-is in
    let client = c.args.client in
    let i = c.steps.invariant.undone in
    let k : left_to_undo (end_of c.args.store.now.journal.history) client ≡ i.0 = omega (arith, u.0, i.2) in
    rw k (GrowsBy-trans c.args.store.now.journal c.steps.store.journal c.abort_step.new.self.journal (replicate i.0 (Undo client)) (Call client Abort Done ∷ []) i.1 u.1)
