use Rattle.std.proofs.Common.{◌≡◌, ◌≤◌, sym, subst, rules}
use Rattle.std.proofs.lemmas.Option.{IfSome_then}
use Rattle.std.specs.Prelude.{IsErrOf, IsSome}
use Rattle.plain_model.specs.Machine.{transaction_of}
use Rattle.plain_model.specs.History.{end_of}
use Rattle.core_store.specs.JournalView.{JournalView, cells_of}
use Rattle.core_store.specs.Frames.{HasPages}
use Rattle.core_store.specs.Logged.{pages_for_undo}
use Rattle.core_store.specs.Replaced.{next_to_restore}
use Rattle.framed_journal.specs.Holding.{IsHeldFor}
use Rattle.logged_journal.specs.declared.failed.FailedCall.{FailedCall}
use Rattle.logged_journal.specs.View.{LoggedView}
use Rattle.framed_journal.proofs.HoldLaws.{slots-few}
use Rattle.framed_journal.proofs.WholeLaws.{in-size, in-changed, put-within}
use Rattle.framed_journal.proofs.SizeLaws.{stopped-same, size-after_step}
use Rattle.framed_journal.proofs.framed.FramedJournal.abort_step.Goals as goal

pub abort_step-step-requires-after_bounds : goal.abort_step-step-requires-after_bounds
abort_step-step-requires-after_bounds g c κs within =
    let small : g.row.SLOTS ≤ 14 = slots-few g.row.SLOTS (in-size c.self.invariant).1 in
    let held = subst (λ (j : JournalView). IsHeldFor j c.self.inside.held c.hold_for_abort_step.new.held) c.journal.ensures.journal c.hold_for_abort_step.ensures.held in
    let ready = subst (λ (j : JournalView). HasPages j.history.ids (pages_for_undo (cells_of j) (next_to_restore (end_of j.history) c.args.client)) c.hold_for_abort_step.new.held) c.journal.ensures.journal c.hold_for_abort_step.ensures.ready in
    let active = subst (λ (v : LoggedView g.row.D.Denot). IsSome (transaction_of (end_of v.journal.history).state c.args.client)) (sym c.self.view_is) c.requires in
    (search rules, (search rules, (active, (held.agree, ready))))

pub put_back-requires : goal.put_back-requires
put_back-requires g c =
    let small : g.row.SLOTS ≤ 14 = slots-few g.row.SLOTS (in-size c.self.invariant).1 in
    let held = subst (λ (j : JournalView). IsHeldFor j c.self.inside.held c.hold_for_abort_step.new.held) c.journal.ensures.journal c.hold_for_abort_step.ensures.held in
    (search rules, (search rules, put-within c.abort_step-step.new.held c.self.invariant held c.abort_step-step.ensures.frames.pages))

pub invariant_of-self : goal.invariant_of-self
invariant_of-self g c =
    let done = c.abort_step-step.ensures in
    let u = c.self.inside.logged in
    let v = c.abort_step-step.new.self in
    let r = c.abort_step-step.result in
    let same = stopped-same u v (λ (f : FailedCall). IsErrOf r (record { faults = f.faults })) (c.abort_step-step.new.held ≡ c.hold_for_abort_step.new.held) done.stopped in
    let size = size-after_step g.row.SLOTS u v c.args.client r done.only_stopped same done.does in
    let held = subst (λ (j : JournalView). IsHeldFor j c.self.inside.held c.hold_for_abort_step.new.held) c.journal.ensures.journal c.hold_for_abort_step.ensures.held in
    in-changed c.abort_step-step.new.held c.self.invariant held done.frames.pages v.journal c.put_back.new.frames.items c.put_back.new.held size done.frames.agree done.frames.elsewhere c.put_back.ensures

pub returns-clause-stopped : goal.returns-clause-stopped
returns-clause-stopped g c = rw (← c.self.view_is) (IfSome_then c.self.inside.logged.failed c.abort_step-step.ensures.stopped (λ f h. (h.0, h.1)))

pub returns-clause-does : goal.returns-clause-does
returns-clause-does g c = rw (← c.self.view_is) c.abort_step-step.ensures.does

pub returns-clause-goes_on : goal.returns-clause-goes_on
returns-clause-goes_on g c = rw (← c.self.view_is) c.abort_step-step.ensures.goes_on

pub returns-clause-untouched : goal.returns-clause-untouched
returns-clause-untouched g c = rw (← c.self.view_is) c.abort_step-step.ensures.untouched
