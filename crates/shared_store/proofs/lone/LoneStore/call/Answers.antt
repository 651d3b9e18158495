use Rattle.std.proofs.Common.{◌≡◌, ◌≤◌, None, sym, ap, subst, rules}
use Rattle.std.proofs.lemmas.Option.{IfSome_then}
use Rattle.plain_model.specs.Machine.{transaction_of}
use Rattle.plain_model.specs.History.{end_of}
use Rattle.logged_journal.specs.View.{LoggedView}
use Rattle.core_store.proofs.WantLaws.{all-has}
use Rattle.framed_journal.proofs.HoldLaws.{slots-few}
use Rattle.shared_store.specs.Passes.{Known}
use Rattle.plain_model.specs.declared.calls.Call.TheVariants as call
use Rattle.core_store.specs.Limited.{pages_for_call}
use Rattle.shared_store.specs.Chronicles.Steps.{entered_by_call, marked_by_call}
use Rattle.shared_store.proofs.Replies.{call-speaks}
use Rattle.shared_store.proofs.Lones.{WentOn, lone-renamed, lone-next, lone-shown, lone-after, speaks-as}
use Rattle.shared_store.proofs.lone.LoneStore.call.Goals as goal

pub apply-reply-requires-after_bounds : goal.apply-reply-requires-after_bounds
apply-reply-requires-after_bounds g c κs within =
    let i = c.self.invariant in
    let small : g.row.SLOTS ≤ 14 = slots-few g.row.SLOTS i.size in
    let no_abort = subst (λ (v : LoggedView g.row.D.Denot). c.args.call.now ≡ call.Abort → transaction_of (end_of v.journal.history).state c.args.client ≡ None) (sym c.self.view_is) c.requires.no_abort in
    let ready = all-has c.self.inside.journal.journal.history.ids (pages_for_call c.self.inside.journal.journal c.args.client c.args.call.now) c.self.inside.held i.each.all in
    (search rules, (search rules, (c.requires.client, (c.requires.in_range, (no_abort, (i.each.frames.agree, ready))))))

pub tell-requires-after_bounds : goal.tell-requires-after_bounds
tell-requires-after_bounds g c κs within =
    let small : g.row.SLOTS ≤ 14 = slots-few g.row.SLOTS c.self.invariant.size in
    let e = c.apply-reply.ensures in
    let r = c.apply-reply.result in
    let lone = lone-renamed g.row.SLOTS c.self.inside.store c.self.inside.hold c.rename.new.hold c.self.inside.journal c.self.inside.held c.args.client c.rename.ensures.of c.rename.ensures.view c.self.invariant in
    let on : WentOn g.row.SLOTS c.rename.new.hold.view c.self.inside.journal c.apply-reply.new.self c.self.inside.held c.apply-reply.new.held (entered_by_call c.args.client c.args.call.now r) (marked_by_call r) c.len-before.result
    = record { goes = e.chronicle; pages = e.frames.pages; agree = e.frames.agree; rest = e.rest; speaks = speaks-as c.args.client c.rename.new.hold.view.station.name (entered_by_call c.args.client c.args.call.now r) (ap (λ (v : Known g.row.SLOTS). v.station.name) c.rename.ensures.view) (call-speaks c.args.client c.args.call.now r); counted = c.len-before.ensures } in
    let next = lone-next g.row.SLOTS c.self.inside.store c.rename.new.hold c.self.inside.journal c.apply-reply.new.self c.self.inside.held c.apply-reply.new.held (entered_by_call c.args.client c.args.call.now r) (marked_by_call r) c.len-before.result lone on in
    (search rules, (search rules, (search rules, (search rules, (search rules, next)))))

pub invariant_of-self : goal.invariant_of-self
invariant_of-self g c =
    let e = c.apply-reply.ensures in
    let r = c.apply-reply.result in
    let lone = lone-renamed g.row.SLOTS c.self.inside.store c.self.inside.hold c.rename.new.hold c.self.inside.journal c.self.inside.held c.args.client c.rename.ensures.of c.rename.ensures.view c.self.invariant in
    let on : WentOn g.row.SLOTS c.rename.new.hold.view c.self.inside.journal c.apply-reply.new.self c.self.inside.held c.apply-reply.new.held (entered_by_call c.args.client c.args.call.now r) (marked_by_call r) c.len-before.result
    = record { goes = e.chronicle; pages = e.frames.pages; agree = e.frames.agree; rest = e.rest; speaks = speaks-as c.args.client c.rename.new.hold.view.station.name (entered_by_call c.args.client c.args.call.now r) (ap (λ (v : Known g.row.SLOTS). v.station.name) c.rename.ensures.view) (call-speaks c.args.client c.args.call.now r); counted = c.len-before.ensures } in
    lone-after g.row.SLOTS c.self.inside.store c.rename.new.hold c.self.inside.journal c.apply-reply.new.self c.self.inside.held c.apply-reply.new.held (entered_by_call c.args.client c.args.call.now r) (marked_by_call r) c.len-before.result lone on c.tell.new.hold c.tell.ensures.of c.tell.ensures.told c.tell.ensures.same
    ((c.know_frames.ensures.held c.apply-reply.new.held (lone-shown g.row.SLOTS c.self.inside.store c.rename.new.hold c.self.inside.journal c.apply-reply.new.self c.self.inside.held c.apply-reply.new.held (entered_by_call c.args.client c.args.call.now r) (marked_by_call r) c.len-before.result lone on)).0 e.frames.agree)

pub returns-clause-stopped : goal.returns-clause-stopped
returns-clause-stopped g c = rw (← c.self.view_is) (IfSome_then c.self.inside.journal.failed c.apply-reply.ensures.stopped (λ f h. (h.0, h.1)))

pub returns-clause-kept : goal.returns-clause-kept
returns-clause-kept g c = λ e. rw (← c.self.view_is) (c.apply-reply.ensures.kept e)

pub returns-clause-log_full : goal.returns-clause-log_full
returns-clause-log_full g c = rw (← c.self.view_is) c.apply-reply.ensures.log_full

pub returns-clause-log_marked : goal.returns-clause-log_marked
returns-clause-log_marked g c = λ e. rw (← c.self.view_is) (c.apply-reply.ensures.log_marked e).0

pub returns-clause-goes_on : goal.returns-clause-goes_on
returns-clause-goes_on g c = λ e. rw (← c.self.view_is) (c.apply-reply.ensures.goes_on e)

pub returns-clause-untouched : goal.returns-clause-untouched
returns-clause-untouched g c = rw (← c.self.view_is) c.apply-reply.ensures.untouched

pub returns-clause-fault : goal.returns-clause-fault
returns-clause-fault g c = λ e. rw (← c.self.view_is) (c.apply-reply.ensures.fault e).0

pub returns-clause-opens : goal.returns-clause-opens
returns-clause-opens g c = rw (← c.self.view_is) c.apply-reply.ensures.opens

pub returns-clause-areas : goal.returns-clause-areas
returns-clause-areas g c = rw (← c.self.view_is) c.apply-reply.ensures.areas

pub returns-clause-count : goal.returns-clause-count
returns-clause-count g c = rw (← c.self.view_is) c.apply-reply.ensures.count
