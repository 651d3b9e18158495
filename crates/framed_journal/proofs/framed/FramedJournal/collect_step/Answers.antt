use Rattle.std.proofs.Common.{◌≡◌, ◌≤◌, ◌∙◌, ap, sym, rules}
use Rattle.logged_journal.specs.View.{LoggedView}
use Rattle.framed_journal.proofs.HoldLaws.{slots-few}
use Rattle.framed_journal.proofs.WholeLaws.{in-size, in-looked, in-changed, put-within}
use Rattle.framed_journal.proofs.SizeLaws.{marked-same, size-after_collect}
use Rattle.framed_journal.proofs.CollectLaws.{collects-all, collects-next, fills-log, all_go_on-before, disk-before}
use Rattle.framed_journal.proofs.framed.FramedJournal.collect_step.Goals as goal

pub collect_at-step-requires-after_bounds : goal.collect_at-step-requires-after_bounds
collect_at-step-requires-after_bounds g c κs within =
    let small : g.row.SLOTS ≤ 14 = slots-few g.row.SLOTS (in-size c.self.invariant).1 in
    let held = c.hold_for_collect_step-at.ensures in
    let running = ap (λ (v : LoggedView g.row.D.Denot). v.failed) held.same ∙ (sym c.failed.ensures.failed ∙ c.in_default.is) in
    (search rules, (search rules, (held.held.agree, (held.ready, (running, (held.none, held.at))))))

pub put_back-requires : goal.put_back-requires
put_back-requires g c =
    let small : g.row.SLOTS ≤ 14 = slots-few g.row.SLOTS (in-size c.self.invariant).1 in
    let frames = in-looked c.hold_for_collect_step-at.new.logged.journal c.hold_for_collect_step-at.ensures.looks.same c.self.invariant in
    (search rules, (search rules, put-within c.collect_at-step.new.held frames c.hold_for_collect_step-at.ensures.held c.collect_at-step.ensures.frames.pages))

pub invariant_of-self : goal.invariant_of-self
invariant_of-self g c =
    let done = c.collect_at-step.ensures in
    let v = c.hold_for_collect_step-at.new.logged in
    let w = c.collect_at-step.new.self in
    let r = c.collect_at-step.result in
    let size = size-after_collect g.row.SLOTS v w r (λ faults e. absurd (done.never_stopped faults e)) (λ e. marked-same v w (done.log_marked e).0) done.does in
    let frames = in-looked v.journal c.hold_for_collect_step-at.ensures.looks.same c.self.invariant in
    in-changed c.collect_at-step.new.held frames c.hold_for_collect_step-at.ensures.held done.frames.pages w.journal c.put_back.new.frames.items c.put_back.new.held size done.frames.agree done.frames.elsewhere c.put_back.ensures

-- from the value before the looks on
pub returns-clause-log_full : goal.returns-clause-log_full
returns-clause-log_full g c = λ e. rw (← c.self.view_is) (fills-log g.row.SLOTS c.self.inside.logged c.hold_for_collect_step-at.new.logged c.collect_at-step.new.self c.hold_for_collect_step-at.ensures.same c.hold_for_collect_step-at.ensures.looks c.hold_for_collect_step-at.ensures.ready.event (c.collect_at-step.ensures.log_full.0 e) (c.collect_at-step.ensures.log_marked e).0)

pub returns-clause-next : goal.returns-clause-next
returns-clause-next g c = rw (← c.self.view_is) (collects-next g.row.SLOTS c.self.inside.logged c.hold_for_collect_step-at.new.logged c.collect_at-step.new.self c.collect_at-step.result c.hold_for_collect_step-at.ensures.same c.hold_for_collect_step-at.ensures.looks c.collect_at-step.ensures.log_full.1 c.collect_at-step.ensures.does)

pub returns-clause-does : goal.returns-clause-does
returns-clause-does g c = rw (← c.self.view_is) (collects-all g.row.SLOTS c.self.inside.logged.journal c.hold_for_collect_step-at.new.logged.journal c.collect_at-step.new.self.journal c.collect_at-step.result c.hold_for_collect_step-at.ensures.looks c.collect_at-step.ensures.does)

pub returns-clause-goes_on : goal.returns-clause-goes_on
returns-clause-goes_on g c = rw (← c.self.view_is) (all_go_on-before g.row.SLOTS c.self.inside.logged c.hold_for_collect_step-at.new.logged c.collect_at-step.new.self c.collect_at-step.result c.hold_for_collect_step-at.ensures.same c.hold_for_collect_step-at.ensures.looks c.collect_at-step.ensures.goes_on)

pub returns-clause-untouched : goal.returns-clause-untouched
returns-clause-untouched g c = rw (← c.self.view_is) (disk-before c.self.inside.logged c.hold_for_collect_step-at.new.logged c.collect_at-step.new.self c.hold_for_collect_step-at.ensures.same c.collect_at-step.ensures.untouched)
