use Rattle.std.proofs.Common.{◌≤◌, length, sym, ap, ◌∙◌, rules}
use Rattle.logged_journal.specs.View.{LoggedView}
use Rattle.framed_journal.proofs.HoldLaws.{slots-few}
use Rattle.core_store.specs.declared.note.Note.{Note}
use Rattle.shared_store.specs.Chronicles.Steps.{entered_by_collect_step, marked_by_collect_step}
use Rattle.framed_journal.proofs.CollectLaws.{collects-all, collects-next, fills-log, all_go_on-before, disk-before}
use Rattle.shared_store.proofs.Lones.{WentOn, lone-looked, lone-next, lone-shown, lone-after, own-collect-speaks}
use Rattle.shared_store.proofs.lone.LoneStore.collect_step.Goals as goal

pub look_on-at-requires-after_bounds : goal.look_on-at-requires-after_bounds
look_on-at-requires-after_bounds g c κs within =
    let i = c.self.invariant in
    let small : g.row.SLOTS ≤ 14 = slots-few g.row.SLOTS i.size in
    (search rules, (search rules, (i.each.frames.agree, i.each.all)))

pub collect_at-step-requires-after_bounds : goal.collect_at-step-requires-after_bounds
collect_at-step-requires-after_bounds g c κs within =
    let small : g.row.SLOTS ≤ 14 = slots-few g.row.SLOTS c.self.invariant.size in
    let lone = lone-looked g.row.SLOTS c.self.inside.store c.self.inside.hold c.self.inside.journal c.look_on-at.new.self c.self.inside.held c.look_on-at.ensures.looks c.look_on-at.ensures.same c.self.invariant in
    let looked = c.look_on-at.ensures in
    let running = ap (λ (v : LoggedView g.row.D.Denot). v.failed) looked.same ∙ (ap (λ (v : LoggedView g.row.D.Denot). v.failed) (sym c.logged.ensures.logged) ∙ (sym c.failed.ensures.failed ∙ c.in_default.is)) in
    (search rules, (search rules, (lone.each.frames.agree, (looked.ready, (running, (looked.none, looked.at))))))

pub tell-requires-after_bounds : goal.tell-requires-after_bounds
tell-requires-after_bounds g c κs within =
    let small : g.row.SLOTS ≤ 14 = slots-few g.row.SLOTS c.self.invariant.size in
    let e = c.collect_at-step.ensures in
    let r = c.collect_at-step.result in
    let lone = lone-looked g.row.SLOTS c.self.inside.store c.self.inside.hold c.self.inside.journal c.look_on-at.new.self c.self.inside.held c.look_on-at.ensures.looks c.look_on-at.ensures.same c.self.invariant in
    let on : WentOn g.row.SLOTS c.self.inside.hold.view c.look_on-at.new.self c.collect_at-step.new.self c.self.inside.held c.collect_at-step.new.held (entered_by_collect_step r) (marked_by_collect_step r) c.len-before.result
    = record { goes = e.chronicle; pages = e.frames.pages; agree = e.frames.agree; rest = e.rest; speaks = own-collect-speaks c.self.inside.hold.view.station.name r; counted = c.len-before.ensures ∙ ap (length {A = Note}) (sym c.look_on-at.ensures.chronicle.notes) } in
    let next = lone-next g.row.SLOTS c.self.inside.store c.self.inside.hold c.look_on-at.new.self c.collect_at-step.new.self c.self.inside.held c.collect_at-step.new.held (entered_by_collect_step r) (marked_by_collect_step r) c.len-before.result lone on in
    (search rules, (search rules, (search rules, (search rules, (search rules, next)))))

pub invariant_of-self : goal.invariant_of-self
invariant_of-self g c =
    let e = c.collect_at-step.ensures in
    let r = c.collect_at-step.result in
    let lone = lone-looked g.row.SLOTS c.self.inside.store c.self.inside.hold c.self.inside.journal c.look_on-at.new.self c.self.inside.held c.look_on-at.ensures.looks c.look_on-at.ensures.same c.self.invariant in
    let on : WentOn g.row.SLOTS c.self.inside.hold.view c.look_on-at.new.self c.collect_at-step.new.self c.self.inside.held c.collect_at-step.new.held (entered_by_collect_step r) (marked_by_collect_step r) c.len-before.result
    = record { goes = e.chronicle; pages = e.frames.pages; agree = e.frames.agree; rest = e.rest; speaks = own-collect-speaks c.self.inside.hold.view.station.name r; counted = c.len-before.ensures ∙ ap (length {A = Note}) (sym c.look_on-at.ensures.chronicle.notes) } in
    lone-after g.row.SLOTS c.self.inside.store c.self.inside.hold c.look_on-at.new.self c.collect_at-step.new.self c.self.inside.held c.collect_at-step.new.held (entered_by_collect_step r) (marked_by_collect_step r) c.len-before.result lone on c.tell.new.hold c.tell.ensures.of c.tell.ensures.told c.tell.ensures.same
    ((c.know_frames.ensures.held c.collect_at-step.new.held (lone-shown g.row.SLOTS c.self.inside.store c.self.inside.hold c.look_on-at.new.self c.collect_at-step.new.self c.self.inside.held c.collect_at-step.new.held (entered_by_collect_step r) (marked_by_collect_step r) c.len-before.result lone on)).0 e.frames.agree)

-- from the value before the looks on
pub returns-clause-log_full : goal.returns-clause-log_full
returns-clause-log_full g c = λ e. rw (← c.self.view_is) (fills-log g.row.SLOTS c.self.inside.journal c.look_on-at.new.self c.collect_at-step.new.self c.look_on-at.ensures.same c.look_on-at.ensures.looks c.look_on-at.ensures.ready.event (c.collect_at-step.ensures.log_full.0 e) (c.collect_at-step.ensures.log_marked e).0)

pub returns-clause-next : goal.returns-clause-next
returns-clause-next g c = rw (← c.self.view_is) (collects-next g.row.SLOTS c.self.inside.journal c.look_on-at.new.self c.collect_at-step.new.self c.collect_at-step.result c.look_on-at.ensures.same c.look_on-at.ensures.looks c.collect_at-step.ensures.log_full.1 c.collect_at-step.ensures.does)

pub returns-clause-does : goal.returns-clause-does
returns-clause-does g c = rw (← c.self.view_is) (collects-all g.row.SLOTS c.self.inside.journal.journal c.look_on-at.new.self.journal c.collect_at-step.new.self.journal c.collect_at-step.result c.look_on-at.ensures.looks c.collect_at-step.ensures.does)

pub returns-clause-goes_on : goal.returns-clause-goes_on
returns-clause-goes_on g c = rw (← c.self.view_is) (all_go_on-before g.row.SLOTS c.self.inside.journal c.look_on-at.new.self c.collect_at-step.new.self c.collect_at-step.result c.look_on-at.ensures.same c.look_on-at.ensures.looks c.collect_at-step.ensures.goes_on)

pub returns-clause-untouched : goal.returns-clause-untouched
returns-clause-untouched g c = rw (← c.self.view_is) (disk-before c.self.inside.journal c.look_on-at.new.self c.collect_at-step.new.self c.look_on-at.ensures.same c.collect_at-step.ensures.untouched)
