use Rattle.std.proofs.Common.{rules, ◌≤◌, sym, ◌∙◌, arith, ⊎_elim}
use Rattle.core_store.specs.RoundView.{none}
use Rattle.core_store.specs.Tables.{TablesView}
use Rattle.core_store.specs.Views.{view_of}
use Rattle.core_store.proofs.NullLaws.{null-there}
use Rattle.core_store.proofs.JumpLaws.{nulls-behind}
use Rattle.core_store.proofs.SlotStart.{old-of}
use Rattle.core_store.proofs.tables.Tables.pass_nulls.Goals as goal

pub cell-requires : goal.cell-requires
cell-requires g c =
    let r = c.requires.standing in
    let small : g.row.SLOTS ≤ 14 = ⊎_elim (λ six. omega arith) (λ fourteen. omega arith) r.stands.counted in
    let t = null-there r.stands c.args.at c.args.id c.args.slot (sym c.requires.at) c.requires.slot in
    (search rules, (search rules, ((t.0, t.1), (c.requires.there, (r.core.cells, r.agree)))))

pub next_pointer-place-requires : goal.next_pointer-place-requires
next_pointer-place-requires g c =
    let t = null-there c.requires.standing.stands c.args.at c.args.id c.args.slot (sym c.requires.at) c.requires.slot in
    let within = t.2 in
    (search rules, omega (arith, within))

pub returns-then-place-first-clause-passes : goal.returns-then-place-first-clause-passes
returns-then-place-first-clause-passes g c core h agree = none

pub returns-clause-passes : goal.returns-clause-passes
returns-clause-passes g c =
    let v : TablesView = view_of {slots = g.row.SLOTS} c.args.self.now in
    let w : TablesView = view_of {slots = g.row.SLOTS} c.look_to.new.self in
    (nulls-behind v w c.args.held.now c.requires.standing c.args.at c.args.id c.args.slot c.next_pointer-place.result c.requires.slot c.requires.at c.next_pointer-place.ensures.behind c.if-place-first.false c.next_pointer-place.ensures.within
    (λ k a b d agree. old-of c.cell.result.now d.cells c.args.id k (c.cell.ensures.stored d.cells agree) ∙ c.next_pointer-place.ensures.nulls k a b) c.look_to.ensures).passes

pub returns-clause-stands : goal.returns-clause-stands
returns-clause-stands g c =
    let v : TablesView = view_of {slots = g.row.SLOTS} c.args.self.now in
    let w : TablesView = view_of {slots = g.row.SLOTS} c.look_to.new.self in
    (nulls-behind v w c.args.held.now c.requires.standing c.args.at c.args.id c.args.slot c.next_pointer-place.result c.requires.slot c.requires.at c.next_pointer-place.ensures.behind c.if-place-first.false c.next_pointer-place.ensures.within
    (λ k a b d agree. old-of c.cell.result.now d.cells c.args.id k (c.cell.ensures.stored d.cells agree) ∙ c.next_pointer-place.ensures.nulls k a b) c.look_to.ensures).stands
