use Rattle.std.proofs.Common.{◌≤◌, ◌<◌, ◌*◌, refl, sym, subst, arith, rules}
use Rattle.cell_page.specs.Stored.{HoldsPage}
use Rattle.core_store.specs.declared.frame.Frame.{Frame}
use Rattle.core_store.specs.JournalView.{cells_of}
use Rattle.core_store.proofs.MapLaws.{none_from}
use Rattle.disk_model.specs.Time.{LeavesOnlyImages}
use Rattle.logged_journal.specs.Opens.{OpensAfter}
use Rattle.logged_journal.specs.Records.{MayHaveAll}
use Rattle.logged_journal.specs.View.{LoggedView, history_of}
use Rattle.framed_journal.proofs.HoldLaws.{slots-few, page_within}
use Rattle.framed_journal.proofs.UpkeepLaws.{frame-holds}
use Rattle.shared_store.specs.Chronicles.Steps.{entered_by_upkeep, marked_by_upkeep}
use Rattle.shared_store.specs.Upkeep.{DoesCleanOn}
use Rattle.shared_store.proofs.Lones.{WentOn, lone-next, lone-after, own-upkeep-speaks}
use Rattle.shared_store.proofs.LoneUpkeeps.{lone-frames, goes-held, still-shown, still-within, no-many}
use Rattle.shared_store.proofs.lone.LoneStore.clean_of_many.Goals as goal

-- more than three are held
pub unreachable-requires : goal.unreachable-requires
unreachable-requires g c =
    let i = c.self.invariant in
    let many = subst (λ (v : LoggedView g.row.D.Denot). 24 < v.journal.history.ids) (sym c.self.view_is) c.requires.many in
    absurd (no-many c.self.inside.held c.all.result (none_from c.all.result (λ x is. c.in_default.not-Some x is)) c.all.ensures.some (let count = i.each.count in let ids = i.journal.ids in omega (arith, count, ids, many)))

pub clean-answer-requires-after_bounds : goal.clean-answer-requires-after_bounds
clean-answer-requires-after_bounds g c κs within =
    let small : g.row.SLOTS ≤ 14 = slots-few g.row.SLOTS c.self.invariant.size in
    let there = subst (λ (v : LoggedView g.row.D.Denot). 8 * c.args.page < v.journal.history.ids) (sym c.self.view_is) c.requires.page in
    (search rules, (search rules, (there, subst (λ (f : Frame g.row.SLOTS). HoldsPage (cells_of c.self.inside.journal.journal) c.args.page f.page) (sym c.index-frames-page.is) (frame-holds c.self.inside.journal.journal c.in-Some.frames.now c.args.page c.index-frames-page.result (lone-frames g.row.SLOTS c.self.inside.store c.self.inside.hold c.self.inside.journal c.self.inside.held c.in-Some.frames.now c.logged.ensures.slots c.self.invariant c.in-Some.ensures.all) there))))

pub bounds-frames-page : goal.bounds-frames-page
bounds-frames-page g c =
    let there = subst (λ (v : LoggedView g.row.D.Denot). 8 * c.args.page < v.journal.history.ids) (sym c.self.view_is) c.requires.page in
    page_within c.self.inside.journal.journal c.in-Some.frames.now c.args.page (lone-frames g.row.SLOTS c.self.inside.store c.self.inside.hold c.self.inside.journal c.self.inside.held c.in-Some.frames.now c.logged.ensures.slots c.self.invariant c.in-Some.ensures.all) there

pub offset_bounds-frames-page : goal.offset_bounds-frames-page
offset_bounds-frames-page g c =
    let there = subst (λ (v : LoggedView g.row.D.Denot). 8 * c.args.page < v.journal.history.ids) (sym c.self.view_is) c.requires.page in
    let within = page_within c.self.inside.journal.journal c.in-Some.frames.now c.args.page (lone-frames g.row.SLOTS c.self.inside.store c.self.inside.hold c.self.inside.journal c.self.inside.held c.in-Some.frames.now c.logged.ensures.slots c.self.invariant c.in-Some.ensures.all) there in
    omega (arith, within)

pub tell-requires-after_bounds : goal.tell-requires-after_bounds
tell-requires-after_bounds g c κs within =
    let small : g.row.SLOTS ≤ 14 = slots-few g.row.SLOTS c.self.invariant.size in
    let i = c.self.invariant in
    let e = c.clean-answer.ensures in
    let r = c.clean-answer.result in
    let j = c.self.inside.journal in
    let k = c.clean-answer.new.self in
    let held = c.self.inside.held in
    let before = (c.know_frames.ensures.held held i.each.frames.within).0 i.each.frames.agree in
    let shown = still-shown g.row.SLOTS j k held (entered_by_upkeep r) (marked_by_upkeep r) e.chronicle before in
    let within_k = still-within g.row.SLOTS j k held (entered_by_upkeep r) (marked_by_upkeep r) e.chronicle i.each.frames.within in
    let on : WentOn g.row.SLOTS c.self.inside.hold.view j k held held (entered_by_upkeep r) (marked_by_upkeep r) c.len-before.result
    = record {
      goes = goes-held g.row.SLOTS j k held (entered_by_upkeep r) (marked_by_upkeep r) e.chronicle;
      pages = refl;
      agree = (c.know_frames-2.ensures.held held within_k).1 shown;
      rest = λ none. refl;
      speaks = own-upkeep-speaks c.self.inside.hold.view.station.name r;
      counted = c.len-before.ensures;
    } in
    let next = lone-next g.row.SLOTS c.self.inside.store c.self.inside.hold c.self.inside.journal c.clean-answer.new.self c.self.inside.held c.self.inside.held (entered_by_upkeep r) (marked_by_upkeep r) c.len-before.result c.self.invariant on in
    (search rules, (search rules, (search rules, (search rules, (search rules, next)))))

pub invariant_of-self : goal.invariant_of-self
invariant_of-self g c =
    let i = c.self.invariant in
    let e = c.clean-answer.ensures in
    let r = c.clean-answer.result in
    let j = c.self.inside.journal in
    let k = c.clean-answer.new.self in
    let held = c.self.inside.held in
    let before = (c.know_frames.ensures.held held i.each.frames.within).0 i.each.frames.agree in
    let shown = still-shown g.row.SLOTS j k held (entered_by_upkeep r) (marked_by_upkeep r) e.chronicle before in
    let within_k = still-within g.row.SLOTS j k held (entered_by_upkeep r) (marked_by_upkeep r) e.chronicle i.each.frames.within in
    let on : WentOn g.row.SLOTS c.self.inside.hold.view j k held held (entered_by_upkeep r) (marked_by_upkeep r) c.len-before.result
    = record {
      goes = goes-held g.row.SLOTS j k held (entered_by_upkeep r) (marked_by_upkeep r) e.chronicle;
      pages = refl;
      agree = (c.know_frames-2.ensures.held held within_k).1 shown;
      rest = λ none. refl;
      speaks = own-upkeep-speaks c.self.inside.hold.view.station.name r;
      counted = c.len-before.ensures;
    } in
    lone-after g.row.SLOTS c.self.inside.store c.self.inside.hold c.self.inside.journal c.clean-answer.new.self c.self.inside.held c.self.inside.held (entered_by_upkeep r) (marked_by_upkeep r) c.len-before.result c.self.invariant on c.tell.new.hold c.tell.ensures.of c.tell.ensures.told c.tell.ensures.same shown

pub returns-clause-does : goal.returns-clause-does
returns-clause-does g c =
    let e = c.clean-answer.ensures in
    let there = subst (λ (v : LoggedView g.row.D.Denot). 8 * c.args.page < v.journal.history.ids) (sym c.self.view_is) c.requires.page in
    subst (λ (v : LoggedView g.row.D.Denot). DoesCleanOn g.row.SLOTS g.D.Disk.faults g.D.Disk.may_leave v c.clean-answer.new.self c.args.page c.clean-answer.result) c.self.view_is
    (record {
      legal = c.know_history.ensures.legal;
      stopped = e.stopped;
      only_stopped = e.only_stopped;
      never_busy = e.never_busy;
      full = e.full;
      marked = e.marked;
      log_full = e.log_full;
      log_marked = e.log_marked;
      memory = e.memory;
      done = λ d. record {
        held = c.index-frames-page.result.page;
        holds = subst (λ (f : Frame g.row.SLOTS). HoldsPage (cells_of c.self.inside.journal.journal) c.args.page f.page) (sym c.index-frames-page.is) (frame-holds c.self.inside.journal.journal c.in-Some.frames.now c.args.page c.index-frames-page.result (lone-frames g.row.SLOTS c.self.inside.store c.self.inside.hold c.self.inside.journal c.self.inside.held c.in-Some.frames.now c.logged.ensures.slots c.self.invariant c.in-Some.ensures.all) there);
        cleans = e.done d;
        images = e.clean d;
      };
      fault = e.fault;
      later = e.later;
    })

pub returns-clause-moments : goal.returns-clause-moments
returns-clause-moments g c =
    subst (λ (v : LoggedView g.row.D.Denot). LeavesOnlyImages g.D.Disk.moment g.D.Disk.left_since v.disk c.clean-answer.new.self.disk (MayHaveAll v)) c.self.view_is c.clean-answer.ensures.moments

pub returns-clause-opens : goal.returns-clause-opens
returns-clause-opens g c =
    subst (λ (v : LoggedView g.row.D.Denot). LeavesOnlyImages g.D.Disk.moment g.D.Disk.left_since v.disk c.clean-answer.new.self.disk (OpensAfter g.row.SLOTS (history_of v))) c.self.view_is c.clean-answer.ensures.opens
