use Rattle.std.proofs.Common.{◌≤◌, sym, subst, arith, rules}
use Rattle.disk_model.specs.Time.{LeavesOnlyImages}
use Rattle.logged_journal.specs.Opens.{OpensAfter}
use Rattle.logged_journal.specs.Records.{MayHaveAll}
use Rattle.logged_journal.specs.View.{LoggedView, history_of}
use Rattle.framed_journal.proofs.HoldLaws.{slots-few}
use Rattle.shared_store.specs.Upkeep.{DoesTurnOn, entered_by_upkeep_of, marked_by_upkeep_of, found_by_upkeep}
use Rattle.shared_store.proofs.Kept.{upkeep-speaks}
use Rattle.shared_store.proofs.LoneUpkeeps.{few-dropped, few-found, few-next, few-told, few-lone, found-none}
use Rattle.shared_store.proofs.lone.LoneStore.turn_of_few.Goals as goal

pub drop_held-requires-after_bounds : goal.drop_held-requires-after_bounds
drop_held-requires-after_bounds g c κs within =
    let i = c.self.invariant in
    let small : g.row.SLOTS ≤ 14 = slots-few g.row.SLOTS i.size in
    (search rules, (search rules, (search rules, (search rules, (search rules, (i.of, ((i.pages, i.journal.idle), i.each.once)))))))

pub act_turn-answer-requires-after_bounds : goal.act_turn-answer-requires-after_bounds
act_turn-answer-requires-after_bounds g c κs within =
    let i = c.self.invariant in
    let small : g.row.SLOTS ≤ 14 = slots-few g.row.SLOTS i.size in
    let has = (few-dropped g.row.SLOTS c.self.inside.store c.self.inside.hold c.drop_held.new.hold.view c.self.inside.journal c.self.inside.held c.self.invariant c.drop_held.ensures.view) in
    (search rules, (search rules, (search rules, (search rules, (c.drop_held.ensures.of, (has.journal, has.none))))))

pub tell-requires-after_bounds : goal.tell-requires-after_bounds
tell-requires-after_bounds g c κs within =
    let small : g.row.SLOTS ≤ 14 = slots-few g.row.SLOTS c.self.invariant.size in
    let r = c.act_turn-answer.result in
    let next = few-next g.row.SLOTS c.self.inside.store.pages c.drop_held.new.hold.view c.act_turn-answer.new.hold.view c.self.inside.journal c.act_turn-answer.new.journal (entered_by_upkeep_of r) (marked_by_upkeep_of r) (found_by_upkeep r) c.len-before.result (few-dropped g.row.SLOTS c.self.inside.store c.self.inside.hold c.drop_held.new.hold.view c.self.inside.journal c.self.inside.held c.self.invariant c.drop_held.ensures.view) c.act_turn-answer.ensures.acts (upkeep-speaks c.drop_held.new.hold.view.station.name r) c.len-before.ensures in
    (search rules, (search rules, (search rules, (search rules, (search rules, next)))))

pub take_few-requires-after_bounds : goal.take_few-requires-after_bounds
take_few-requires-after_bounds g c κs within =
    let i = c.self.invariant in
    let small : g.row.SLOTS ≤ 14 = slots-few g.row.SLOTS i.size in
    let r = c.act_turn-answer.result in
    let told = few-told g.row.SLOTS c.self.inside.store.pages c.drop_held.new.hold.view c.act_turn-answer.new.hold.view c.self.inside.journal c.act_turn-answer.new.journal (entered_by_upkeep_of r) (marked_by_upkeep_of r) (found_by_upkeep r) c.len-before.result (few-dropped g.row.SLOTS c.self.inside.store c.self.inside.hold c.drop_held.new.hold.view c.self.inside.journal c.self.inside.held c.self.invariant c.drop_held.ensures.view) c.act_turn-answer.ensures.acts (upkeep-speaks c.drop_held.new.hold.view.station.name r) c.len-before.ensures c.tell.new.hold.view c.tell.ensures.told c.tell.ensures.same in
    let few = subst (λ (v : LoggedView g.row.D.Denot). v.journal.history.ids ≤ 24) (sym c.self.view_is) c.requires.few in
    let ids = i.journal.ids in
    (search rules, (search rules, (search rules, (search rules, (search rules, (c.tell.ensures.of, (told.alone, (told.journal, ((c.drop_held.ensures.none, told.none), omega (arith, few, ids))))))))))

pub unreachable-requires : goal.unreachable-requires
unreachable-requires g c =
    let r = c.act_turn-answer.result in
    absurd (found-none r c.in_default.not-Ok (few-found g.row.SLOTS c.self.inside.store.pages c.drop_held.new.hold.view c.act_turn-answer.new.hold.view c.self.inside.journal c.act_turn-answer.new.journal (entered_by_upkeep_of r) (marked_by_upkeep_of r) (found_by_upkeep r) c.len-before.result (few-dropped g.row.SLOTS c.self.inside.store c.self.inside.hold c.drop_held.new.hold.view c.self.inside.journal c.self.inside.held c.self.invariant c.drop_held.ensures.view) c.act_turn-answer.ensures.acts (upkeep-speaks c.drop_held.new.hold.view.station.name r) c.len-before.ensures))

pub invariant_of-self : goal.invariant_of-self
invariant_of-self g c =
    let i = c.self.invariant in
    let r = c.act_turn-answer.result in
    let told = few-told g.row.SLOTS c.self.inside.store.pages c.drop_held.new.hold.view c.act_turn-answer.new.hold.view c.self.inside.journal c.act_turn-answer.new.journal (entered_by_upkeep_of r) (marked_by_upkeep_of r) (found_by_upkeep r) c.len-before.result (few-dropped g.row.SLOTS c.self.inside.store c.self.inside.hold c.drop_held.new.hold.view c.self.inside.journal c.self.inside.held c.self.invariant c.drop_held.ensures.view) c.act_turn-answer.ensures.acts (upkeep-speaks c.drop_held.new.hold.view.station.name r) c.len-before.ensures c.tell.new.hold.view c.tell.ensures.told c.tell.ensures.same in
    few-lone g.row.SLOTS c.self.inside.store c.tell.new.hold.view c.take_few.new.hold c.act_turn-answer.new.journal c.take_few.new.held c.take_few.ensures.of i.some i.few i.size told c.take_few.ensures.taken

pub returns-clause-does : goal.returns-clause-does
returns-clause-does g c =
    subst (λ (v : LoggedView g.row.D.Denot). DoesTurnOn g.row.SLOTS g.D.Disk.faults g.D.Disk.content g.D.Disk.may_leave v c.act_turn-answer.new.journal c.in-Ok.answer) c.self.view_is c.in-Ok.ensures.made

pub returns-clause-moments : goal.returns-clause-moments
returns-clause-moments g c =
    subst (λ (v : LoggedView g.row.D.Denot). LeavesOnlyImages g.D.Disk.moment g.D.Disk.left_since v.disk c.act_turn-answer.new.journal.disk (MayHaveAll v)) c.self.view_is c.in-Ok.ensures.moments

pub returns-clause-opens : goal.returns-clause-opens
returns-clause-opens g c =
    subst (λ (v : LoggedView g.row.D.Denot). LeavesOnlyImages g.D.Disk.moment g.D.Disk.left_since v.disk c.act_turn-answer.new.journal.disk (OpensAfter g.row.SLOTS (history_of v))) c.self.view_is c.in-Ok.ensures.opens
