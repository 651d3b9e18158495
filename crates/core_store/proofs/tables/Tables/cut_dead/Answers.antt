use Rattle.std.proofs.Common.{rules, ◌≤◌, ap, ◌∙◌, ⊎_elim, arith}
use Rattle.core_store.specs.RoundView.{Rounds, asked}
use Rattle.core_store.specs.Tables.{TablesView}
use Rattle.core_store.specs.Views.{view_of}
use Rattle.core_store.proofs.AskedLaws.{asked-cut}
use Rattle.core_store.proofs.CutRound.{cut-ready_to, cut-of, cut-marked, cut-within, cut-collected}
use Rattle.core_store.proofs.tables.Tables.cut_dead.Goals as goal

pub restore-change-requires : goal.restore-change-requires
restore-change-requires g c =
    let r = c.requires.ready in
    let v = view_of c.args.self.now in
    let small : g.row.SLOTS ≤ 14 = ⊎_elim (λ six. omega arith) (λ fourteen. omega arith) r.stands.counted in
    (search rules, (r.stands.counted, cut-ready_to g.row.SLOTS v r.core c.args.held.now c.args.id c.args.slot r.stands r.agree r.ready c.requires.at))

pub queue_cut-requires : goal.queue_cut-requires
queue_cut-requires g c =
    let r = c.requires.ready in
    let v = view_of c.args.self.now in
    let k = cut-of g.row.SLOTS v r.core c.args.held.now c.args.id c.args.slot r.stands r.agree r.ready c.requires.at c.restore-change.new.held c.restore-change.new.zeros.items c.restore-change.result c.restore-change.ensures.changes in
    (search rules, (cut-within r.stands k, cut-marked r.stands k))

pub cut-requires : goal.cut-requires
cut-requires g c = (search rules, (c.args.id, c.args.slot, ap (λ (w : TablesView). asked w.round) c.queue_cut.ensures.joins.same ∙ c.requires.at))

pub invariant_of-self-2 : goal.invariant_of-self-2
invariant_of-self-2 g c =
    let t = c.queue_cut.new.self in
    record { free_sized = t.free_sized; owes = t.owes; queue_sized = t.queue_sized; named_sized = t.named_sized; round_sized = ap (λ (r : Rounds). r.limit) (c.cut.ensures.moved c.requires.ready.core.cells) ∙ t.round_sized }

pub returns-clause-collects : goal.returns-clause-collects
returns-clause-collects g c d h agree ready =
    let v = view_of c.args.self.now in
    let t = c.queue_cut.new.self in
    let k = cut-of g.row.SLOTS v d c.args.held.now c.args.id c.args.slot h agree ready c.requires.at c.restore-change.new.held c.restore-change.new.zeros.items c.restore-change.result c.restore-change.ensures.changes in
    let at = asked-cut v.round c.args.id c.args.slot c.requires.at in
    cut-collected h k at.0 at.1 at.2 at.3 at.4 (view_of {slots = g.row.SLOTS} t) t.round.limit c.cut.new.self c.queue_cut.ensures.joins t.round_sized (c.cut.ensures.moved d.cells) c.cut.ensures.sound
