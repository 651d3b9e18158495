use Rattle.std.proofs.Common.{◌≡◌, ℕ, ◌*◌, ◌<◌, ◌≤◌, sym, subst, rules, arith}
use Rattle.cell_page.specs.Stored.{HoldsPage}
use Rattle.core_store.specs.declared.frame.Frame.{Frame}
use Rattle.core_store.specs.JournalView.{cells_of}
use Rattle.logged_journal.specs.View.{LoggedView}
use Rattle.logged_journal.specs.Upkeep.{KeepsButPages}
use Rattle.framed_journal.specs.Upkeep.{CleansPage}
use Rattle.framed_journal.proofs.HoldLaws.{slots-few, page_within}
use Rattle.framed_journal.proofs.WholeLaws.{in-size, in-same}
use Rattle.framed_journal.proofs.UpkeepLaws.{frame-holds, same-after_upkeep}
use Rattle.framed_journal.proofs.framed.FramedJournal.clean.Goals as goal

pub clean-requires-after_bounds : goal.clean-requires-after_bounds
clean-requires-after_bounds g c κs within =
    let small : g.row.SLOTS ≤ 14 = slots-few g.row.SLOTS (in-size c.self.invariant).1 in
    let there = subst (λ (v : LoggedView g.row.D.Denot). 8 * c.args.page < v.journal.history.ids) (sym c.self.view_is) c.requires in
    (search rules, (search rules, (there, subst (λ (f : Frame g.row.SLOTS). HoldsPage (cells_of c.self.inside.logged.journal) c.args.page f.page) (sym c.index-frames-page.is) (frame-holds c.self.inside.logged.journal c.all_frames-frames.result.now c.args.page c.index-frames-page.result (c.all_frames-frames.ensures c.self.inside.logged.journal c.self.invariant) there))))

pub invariant_of-self : goal.invariant_of-self
invariant_of-self g c =
    let done = c.clean.ensures in
    let u = c.self.inside.logged in
    let v = c.clean.new.self in
    let same = same-after_upkeep g.row.SLOTS g.D.Disk.faults u v c.clean.result done.stopped done.only_stopped done.marked done.log_marked done.memory (λ e. let d = done.done e in d.does) (λ pass e. absurd (done.never_busy pass e)) done.fault in
    in-same v.journal c.self.invariant same

pub returns-clause-done : goal.returns-clause-done
returns-clause-done g c = λ e.
    let there = subst (λ (v : LoggedView g.row.D.Denot). 8 * c.args.page < v.journal.history.ids) (sym c.self.view_is) c.requires in
    subst (λ (v : LoggedView g.row.D.Denot). CleansPage g.row.SLOTS g.D.Disk.may_leave v c.clean.new.self c.args.page) c.self.view_is
    (record {
      held = c.index-frames-page.result.page;
      holds = subst (λ (f : Frame g.row.SLOTS). HoldsPage (cells_of c.self.inside.logged.journal) c.args.page f.page) (sym c.index-frames-page.is) (frame-holds c.self.inside.logged.journal c.all_frames-frames.result.now c.args.page c.index-frames-page.result (c.all_frames-frames.ensures c.self.inside.logged.journal c.self.invariant) there);
      cleans = c.clean.ensures.done e;
      images = c.clean.ensures.clean e;
    })

pub bounds-frames-page : goal.bounds-frames-page
bounds-frames-page g c =
    let there = subst (λ (v : LoggedView g.row.D.Denot). 8 * c.args.page < v.journal.history.ids) (sym c.self.view_is) c.requires in
    page_within c.self.inside.logged.journal c.all_frames-frames.result.now c.args.page (c.all_frames-frames.ensures c.self.inside.logged.journal c.self.invariant) there

pub offset_bounds-frames-page : goal.offset_bounds-frames-page
offset_bounds-frames-page g c =
    let there = subst (λ (v : LoggedView g.row.D.Denot). 8 * c.args.page < v.journal.history.ids) (sym c.self.view_is) c.requires in
    let within = page_within c.self.inside.logged.journal c.all_frames-frames.result.now c.args.page (c.all_frames-frames.ensures c.self.inside.logged.journal c.self.invariant) there in
    omega (arith, within)

pub returns-clause-others : goal.returns-clause-others
returns-clause-others g c = subst (λ (v : LoggedView g.row.D.Denot). KeepsButPages g.D.Disk.content g.D.Disk.may_leave v.disk c.clean.new.self.disk v.log.area) c.self.view_is c.clean.ensures.areas.others
