use Rattle.std.proofs.Common.{◌≤◌, sym, ap, subst, rules}
use Rattle.std.proofs.lemmas.Option.{IfSome_then}
use Rattle.plain_model.specs.Machine.{transaction_of}
use Rattle.plain_model.specs.History.{end_of}
use Rattle.core_store.specs.JournalView.{cells_of}
use Rattle.logged_journal.specs.View.{LoggedView}
use Rattle.core_store.proofs.WantLaws.{all-has}
use Rattle.framed_journal.proofs.HoldLaws.{slots-few}
use Rattle.shared_store.specs.Passes.{Known}
use Rattle.std.specs.Prelude.{IsSome}
use Rattle.core_store.specs.Logged.{pages_for_undo}
use Rattle.core_store.specs.Replaced.{next_to_restore}
use Rattle.shared_store.specs.Chronicles.Steps.{entered_by_abort_step, marked_by_abort_step}
use Rattle.shared_store.proofs.Lones.{WentOn, lone-renamed, lone-next, lone-shown, lone-after, speaks-as, own-step-speaks}
use Rattle.shared_store.proofs.lone.LoneStore.abort_step.Goals as goal

pub abort_step-step-requires-after_bounds : goal.abort_step-step-requires-after_bounds
abort_step-step-requires-after_bounds g c κs within =
    let i = c.self.invariant in
    let small : g.row.SLOTS ≤ 14 = slots-few g.row.SLOTS i.size in
    let active = subst (λ (v : LoggedView g.row.D.Denot). IsSome (transaction_of (end_of v.journal.history).state c.args.client)) (sym c.self.view_is) c.requires in
    let ready = all-has c.self.inside.journal.journal.history.ids (pages_for_undo (cells_of c.self.inside.journal.journal) (next_to_restore (end_of c.self.inside.journal.journal.history) c.args.client)) c.self.inside.held i.each.all in
    (search rules, (search rules, (active, (i.each.frames.agree, ready))))

pub tell-requires-after_bounds : goal.tell-requires-after_bounds
tell-requires-after_bounds g c κs within =
    let small : g.row.SLOTS ≤ 14 = slots-few g.row.SLOTS c.self.invariant.size in
    let e = c.abort_step-step.ensures in
    let r = c.abort_step-step.result in
    let lone = lone-renamed g.row.SLOTS c.self.inside.store c.self.inside.hold c.rename.new.hold c.self.inside.journal c.self.inside.held c.args.client c.rename.ensures.of c.rename.ensures.view c.self.invariant in
    let on : WentOn g.row.SLOTS c.rename.new.hold.view c.self.inside.journal c.abort_step-step.new.self c.self.inside.held c.abort_step-step.new.held (entered_by_abort_step c.args.client r) (marked_by_abort_step r) c.len-before.result
    = record { goes = e.chronicle; pages = e.frames.pages; agree = e.frames.agree; rest = e.rest; speaks = speaks-as c.args.client c.rename.new.hold.view.station.name (entered_by_abort_step c.args.client r) (ap (λ (v : Known g.row.SLOTS). v.station.name) c.rename.ensures.view) (own-step-speaks c.args.client r); counted = c.len-before.ensures } in
    let next = lone-next g.row.SLOTS c.self.inside.store c.rename.new.hold c.self.inside.journal c.abort_step-step.new.self c.self.inside.held c.abort_step-step.new.held (entered_by_abort_step c.args.client r) (marked_by_abort_step r) c.len-before.result lone on in
    (search rules, (search rules, (search rules, (search rules, (search rules, next)))))

pub invariant_of-self : goal.invariant_of-self
invariant_of-self g c =
    let e = c.abort_step-step.ensures in
    let r = c.abort_step-step.result in
    let lone = lone-renamed g.row.SLOTS c.self.inside.store c.self.inside.hold c.rename.new.hold c.self.inside.journal c.self.inside.held c.args.client c.rename.ensures.of c.rename.ensures.view c.self.invariant in
    let on : WentOn g.row.SLOTS c.rename.new.hold.view c.self.inside.journal c.abort_step-step.new.self c.self.inside.held c.abort_step-step.new.held (entered_by_abort_step c.args.client r) (marked_by_abort_step r) c.len-before.result
    = record { goes = e.chronicle; pages = e.frames.pages; agree = e.frames.agree; rest = e.rest; speaks = speaks-as c.args.client c.rename.new.hold.view.station.name (entered_by_abort_step c.args.client r) (ap (λ (v : Known g.row.SLOTS). v.station.name) c.rename.ensures.view) (own-step-speaks c.args.client r); counted = c.len-before.ensures } in
    lone-after g.row.SLOTS c.self.inside.store c.rename.new.hold c.self.inside.journal c.abort_step-step.new.self c.self.inside.held c.abort_step-step.new.held (entered_by_abort_step c.args.client r) (marked_by_abort_step r) c.len-before.result lone on c.tell.new.hold c.tell.ensures.of c.tell.ensures.told c.tell.ensures.same
    ((c.know_frames.ensures.held c.abort_step-step.new.held (lone-shown g.row.SLOTS c.self.inside.store c.rename.new.hold c.self.inside.journal c.abort_step-step.new.self c.self.inside.held c.abort_step-step.new.held (entered_by_abort_step c.args.client r) (marked_by_abort_step r) c.len-before.result lone on)).0 e.frames.agree)

pub returns-clause-stopped : goal.returns-clause-stopped
returns-clause-stopped g c = rw (← c.self.view_is) (IfSome_then c.self.inside.journal.failed c.abort_step-step.ensures.stopped (λ f h. (h.0, h.1)))

pub returns-clause-does : goal.returns-clause-does
returns-clause-does g c = rw (← c.self.view_is) c.abort_step-step.ensures.does

pub returns-clause-goes_on : goal.returns-clause-goes_on
returns-clause-goes_on g c = rw (← c.self.view_is) c.abort_step-step.ensures.goes_on

pub returns-clause-untouched : goal.returns-clause-untouched
returns-clause-untouched g c = rw (← c.self.view_is) c.abort_step-step.ensures.untouched
