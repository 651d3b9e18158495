use Rattle.std.proofs.Common.{None, Some, rules, ◌≤◌, ℕ, ap, sym, subst, ◌∙◌, ⊎_elim, arith}
use Rattle.ref_tables.specs.Queue.{Queue}
use Rattle.red_walk.specs.Walk.{moved, joined_by}
use Rattle.log_record.specs.declared.cell_record.CellRecord.TheVariants as logs
use Rattle.core_store.specs.declared.act.Act.TheVariants as act
use Rattle.core_store.specs.RoundView.{Rounds, Walking, IsInStep}
use Rattle.core_store.specs.Collecting.{Collected}
use Rattle.core_store.specs.Views.{view_of}
use Rattle.core_store.proofs.AskedLaws.{asked-look}
use Rattle.core_store.proofs.WeakenRound.{weaken-ready_to, weakened-of, weakened-marked, weakened-within, weakened-told, weakened-unlisted, stays-collected, joins-collected}
use Rattle.core_store.proofs.tables.Tables.weaken.Goals as goal

pub weaken-target-requires : goal.weaken-target-requires
weaken-target-requires g c =
    let r = c.requires.ready in
    let v = view_of c.args.self.now in
    let small : g.row.SLOTS ≤ 14 = ⊎_elim (λ six. omega arith) (λ fourteen. omega arith) r.stands.counted in
    (search rules, (r.stands.counted, weaken-ready_to g.row.SLOTS v r.core c.args.held.now c.args.id c.args.slot r.stands r.agree r.ready c.requires.at))

pub is_let_go-requires : goal.is_let_go-requires
is_let_go-requires g c =
    let r = c.requires.ready in
    let v = view_of c.args.self.now in
    let k = weakened-of g.row.SLOTS v r.core c.args.held.now c.args.id c.args.slot r.stands r.agree r.ready c.requires.at c.weaken-target.new.held c.weaken-target.new.zeros.items c.weaken-target.result c.weaken-target.ensures.weakens in
    (search rules, weakened-marked r.stands k)

pub weakened-requires : goal.weakened-requires
weakened-requires g c =
    let r = c.requires.ready in
    let v = view_of c.args.self.now in
    let k = weakened-of g.row.SLOTS v r.core c.args.held.now c.args.id c.args.slot r.stands r.agree r.ready c.requires.at c.weaken-target.new.held c.weaken-target.new.zeros.items c.weaken-target.result c.weaken-target.ensures.weakens in
    let within = weakened-within r.stands k in
    let limit = c.args.self.now.round_sized in
    (search rules, ((c.args.id, c.args.slot, c.requires.at), (within.0, subst (λ (n : ℕ). c.weaken-target.result ≤ n) (sym limit) within.1, weakened-unlisted r.stands k c.is_let_go.result c.is_let_go.ensures c.if-is_let_go.true)))

pub invariant_of-self-then-is_let_go : goal.invariant_of-self-then-is_let_go
invariant_of-self-then-is_let_go g c =
    let t = c.args.self.now in
    let w = asked-look t.round.view c.args.id c.args.slot c.requires.at in
    record { free_sized = t.free_sized; owes = t.owes; queue_sized = ap (λ (q : Queue). q.limit) c.drop_id.ensures ∙ t.queue_sized; named_sized = t.named_sized; round_sized = ap (λ (r : Rounds). r.limit) (c.weakened.ensures.walks w.0 w.1) ∙ t.round_sized }

pub invariant_of-self-else-is_let_go : goal.invariant_of-self-else-is_let_go
invariant_of-self-else-is_let_go g c =
    let t = c.args.self.now in
    let w = asked-look t.round.view c.args.id c.args.slot c.requires.at in
    record { free_sized = t.free_sized; owes = t.owes; queue_sized = t.queue_sized; named_sized = t.named_sized; round_sized = ap (λ (r : Rounds). r.limit) (c.weakened-else-is_let_go.ensures.walks w.0 w.1) ∙ t.round_sized }

pub returns-then-is_let_go-clause-collects : goal.returns-then-is_let_go-clause-collects
returns-then-is_let_go-clause-collects g c d h agree ready =
    let t = c.args.self.now in
    let v = view_of t in
    let id = c.args.id in
    let slot = c.args.slot in
    let target = c.weaken-target.result in
    let held = c.args.held.now in
    let new = c.weaken-target.new.held in
    let marks = c.weaken-target.new.zeros.items in
    let w = asked-look v.round id slot c.requires.at in
    let k = weakened-of g.row.SLOTS v d held id slot h agree ready c.requires.at new marks target c.weaken-target.ensures.weakens in
    let is = c.weakened.ensures.walks w.0 w.1 in
    let after = joined_by (moved g.row.SLOTS w.0) (Some target) in
    let step = subst (λ (r : Rounds). IsInStep g.row.SLOTS r.limit r.view) is c.weakened.ensures.sound in
    let step_of = subst (λ (n : ℕ). IsInStep g.row.SLOTS n (Walking after)) t.round_sized step in
    let goes = weakened-told h k w.0 w.1 c.is_let_go.result c.is_let_go.ensures ∙ c.if-is_let_go.true in
    subst (λ (r : Rounds). Collected g.row.SLOTS v (record v { zeros = marks; queue = c.drop_id.new.self.ids; round = r.view }) d held new act.Change (Some (logs.Weaken id slot target))) (sym is)
    (subst (λ (q : Queue). Collected g.row.SLOTS v (record v { zeros = marks; queue = q.ids; round = Walking after }) d held new act.Change (Some (logs.Weaken id slot target))) (sym c.drop_id.ensures)
    (joins-collected g.row.SLOTS v d h id slot target k.target_is k.live k.within k.strong w.0 w.1 w.2 held new marks k.changed goes step_of))

pub returns-else-is_let_go-clause-collects : goal.returns-else-is_let_go-clause-collects
returns-else-is_let_go-clause-collects g c d h agree ready =
    let t = c.args.self.now in
    let v = view_of t in
    let id = c.args.id in
    let slot = c.args.slot in
    let target = c.weaken-target.result in
    let held = c.args.held.now in
    let new = c.weaken-target.new.held in
    let marks = c.weaken-target.new.zeros.items in
    let w = asked-look v.round id slot c.requires.at in
    let k = weakened-of g.row.SLOTS v d held id slot h agree ready c.requires.at new marks target c.weaken-target.ensures.weakens in
    let is = c.weakened-else-is_let_go.ensures.walks w.0 w.1 in
    let after = joined_by (moved g.row.SLOTS w.0) None in
    let step = subst (λ (r : Rounds). IsInStep g.row.SLOTS r.limit r.view) is c.weakened-else-is_let_go.ensures.sound in
    let step_of = subst (λ (n : ℕ). IsInStep g.row.SLOTS n (Walking after)) t.round_sized step in
    let kept = weakened-told h k w.0 w.1 c.is_let_go.result c.is_let_go.ensures ∙ c.if-is_let_go.false in
    subst (λ (r : Rounds). Collected g.row.SLOTS v (record v { zeros = marks; round = r.view }) d held new act.Change (Some (logs.Weaken id slot target))) (sym is)
    (stays-collected g.row.SLOTS v d h id slot target k.target_is k.live k.within k.strong w.0 w.1 w.2 held new marks k.changed kept step_of)
