use Rattle.std.proofs.Common.{◌≡◌, ◌≤◌, sym, subst, rules}
use Rattle.std.proofs.lemmas.Option.{IfSome_then}
use Rattle.std.specs.Prelude.{None}
use Rattle.plain_model.specs.declared.calls.Call.TheVariants as call
use Rattle.plain_model.specs.declared.calls.Reply.TheVariants as reply
use Rattle.plain_model.specs.Machine.{transaction_of}
use Rattle.plain_model.specs.History.{end_of}
use Rattle.core_store.specs.JournalView.{JournalView}
use Rattle.core_store.specs.Frames.{HasPages}
use Rattle.core_store.specs.Limited.{pages_for_call}
use Rattle.framed_journal.specs.Holding.{IsHeldFor}
use Rattle.logged_journal.specs.declared.failed.FailedCall.{FailedCall}
use Rattle.logged_journal.specs.View.{LoggedView}
use Rattle.framed_journal.proofs.HoldLaws.{slots-few}
use Rattle.framed_journal.proofs.WholeLaws.{in-size, in-changed, put-within}
use Rattle.framed_journal.proofs.SizeLaws.{stopped-same, marked-same, size-after_call}
use Rattle.framed_journal.proofs.framed.FramedJournal.call.Goals as goal

pub apply-reply-requires-after_bounds : goal.apply-reply-requires-after_bounds
apply-reply-requires-after_bounds g c κs within =
    let small : g.row.SLOTS ≤ 14 = slots-few g.row.SLOTS (in-size c.self.invariant).1 in
    let held = subst (λ (j : JournalView). IsHeldFor j c.self.inside.held c.hold_for_call.new.held) c.journal.ensures.journal c.hold_for_call.ensures.held in
    let ready = subst (λ (j : JournalView). HasPages j.history.ids (pages_for_call j c.args.client c.args.call.now) c.hold_for_call.new.held) c.journal.ensures.journal c.hold_for_call.ensures.ready in
    let no_abort = subst (λ (v : LoggedView g.row.D.Denot). c.args.call.now ≡ call.Abort → transaction_of (end_of v.journal.history).state c.args.client ≡ None) (sym c.self.view_is) c.requires.no_abort in
    (search rules, (search rules, (c.requires.client, (c.requires.in_range, (no_abort, (held.agree, ready))))))

pub put_back-requires : goal.put_back-requires
put_back-requires g c =
    let small : g.row.SLOTS ≤ 14 = slots-few g.row.SLOTS (in-size c.self.invariant).1 in
    let held = subst (λ (j : JournalView). IsHeldFor j c.self.inside.held c.hold_for_call.new.held) c.journal.ensures.journal c.hold_for_call.ensures.held in
    (search rules, (search rules, put-within c.apply-reply.new.held c.self.invariant held c.apply-reply.ensures.frames.pages))

pub invariant_of-self : goal.invariant_of-self
invariant_of-self g c =
    let done = c.apply-reply.ensures in
    let u = c.self.inside.logged in
    let v = c.apply-reply.new.self in
    let r = c.apply-reply.result in
    let same = stopped-same u v (λ (f : FailedCall). r ≡ reply.Stopped f.faults) (c.apply-reply.new.held ≡ c.hold_for_call.new.held) done.stopped in
    let size = size-after_call g.row.SLOTS u v c.args.client c.args.call.now r (λ faults e. same (done.only_stopped faults e)) (λ e. marked-same u v (done.log_marked e).0) (λ e. (done.fault e).0.journal) done.does in
    let held = subst (λ (j : JournalView). IsHeldFor j c.self.inside.held c.hold_for_call.new.held) c.journal.ensures.journal c.hold_for_call.ensures.held in
    in-changed c.apply-reply.new.held c.self.invariant held done.frames.pages v.journal c.put_back.new.frames.items c.put_back.new.held size done.frames.agree done.frames.elsewhere c.put_back.ensures

pub returns-clause-stopped : goal.returns-clause-stopped
returns-clause-stopped g c = rw (← c.self.view_is) (IfSome_then c.self.inside.logged.failed c.apply-reply.ensures.stopped (λ f h. (h.0, h.1)))

pub returns-clause-kept : goal.returns-clause-kept
returns-clause-kept g c = λ e. rw (← c.self.view_is) (c.apply-reply.ensures.kept e)

pub returns-clause-log_full : goal.returns-clause-log_full
returns-clause-log_full g c = rw (← c.self.view_is) c.apply-reply.ensures.log_full

pub returns-clause-log_marked : goal.returns-clause-log_marked
returns-clause-log_marked g c = λ e. rw (← c.self.view_is) (c.apply-reply.ensures.log_marked e).0

pub returns-clause-goes_on : goal.returns-clause-goes_on
returns-clause-goes_on g c = λ e. rw (← c.self.view_is) (c.apply-reply.ensures.goes_on e)

pub returns-clause-untouched : goal.returns-clause-untouched
returns-clause-untouched g c = rw (← c.self.view_is) c.apply-reply.ensures.untouched

pub returns-clause-fault : goal.returns-clause-fault
returns-clause-fault g c = λ e. rw (← c.self.view_is) (c.apply-reply.ensures.fault e).0

pub returns-clause-opens : goal.returns-clause-opens
returns-clause-opens g c = rw (← c.self.view_is) c.apply-reply.ensures.opens

pub returns-clause-areas : goal.returns-clause-areas
returns-clause-areas g c = rw (← c.self.view_is) c.apply-reply.ensures.areas
