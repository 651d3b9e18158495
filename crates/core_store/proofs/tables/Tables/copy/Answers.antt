use Rattle.std.proofs.Common.{None, rules, ◌≤◌, ℕ, ap, sym, subst, ◌∙◌, ⊎_elim, arith}
use Rattle.red_walk.specs.Walk.{copied}
use Rattle.red_walk.specs.Inside.{copy_of_seen}
use Rattle.core_store.specs.declared.act.Act.TheVariants as act
use Rattle.core_store.specs.declared.round_at.RoundAt.TheVariants as at
use Rattle.core_store.specs.RoundView.{Rounds, Walking, IsInStep}
use Rattle.core_store.specs.Collecting.{Collected}
use Rattle.core_store.specs.Views.{view_of}
use Rattle.core_store.proofs.AskedLaws.{asked-copy}
use Rattle.core_store.proofs.CopyRound.{copy-collected, seen-copied}
use Rattle.core_store.proofs.ReadyRound.{can-there, can-pages, can-small}
use Rattle.core_store.proofs.tables.Tables.copy.Goals as goal

pub cell-requires : goal.cell-requires
cell-requires g c =
    let r = c.requires.ready in
    let v = view_of c.args.self.now in
    let small : g.row.SLOTS ≤ 14 = ⊎_elim (λ six. omega arith) (λ fourteen. omega arith) r.stands.counted in
    let ids = can-small v r c.args.id (can-there v r (at.Copy c.args.id) c.requires.at) in
    let pages = can-pages v r (at.Copy c.args.id) c.requires.at in
    (search rules, (search rules, (ids, (pages.0, (r.core.cells, r.agree)))))

pub invariant_of-self : goal.invariant_of-self
invariant_of-self g c =
    let t = c.args.self.now in
    let w = asked-copy t.round.view c.args.id c.requires.at in
    record { free_sized = t.free_sized; owes = t.owes; queue_sized = t.queue_sized; named_sized = t.named_sized; round_sized = ap (λ (r : Rounds). r.limit) (c.scan.ensures.copied w.0 w.1) ∙ t.round_sized }

pub returns-clause-collects : goal.returns-clause-collects
returns-clause-collects g c d h agree ready =
    let v = view_of c.args.self.now in
    let id = c.args.id in
    let limit = c.args.self.now.round.limit in
    let w = asked-copy v.round id c.requires.at in
    let copy = copy_of_seen c.seen.result in
    let is = c.scan.ensures.copied w.0 w.1 in
    let step = subst (λ (r : Rounds). IsInStep g.row.SLOTS r.limit r.view) is c.scan.ensures.sound in
    let step_of = subst (λ (n : ℕ). IsInStep g.row.SLOTS n (Walking (copied w.0 id copy))) c.args.self.now.round_sized step in
    subst (λ (r : Rounds). Collected g.row.SLOTS v (record v { round = r.view }) d c.args.held.now c.args.held.now (act.Scan id) None) (sym is)
    (copy-collected g.row.SLOTS v d c.args.held.now h agree w.0 w.1 id w.2 copy (seen-copied d.cells w.0 id c.seen.result c.cell.result.now c.seen.ensures (c.cell.ensures.stored d.cells agree)) step_of)
