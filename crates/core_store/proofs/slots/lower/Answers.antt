use Rattle.std.proofs.Common.{rules, ◌≤◌, arith, ⊎_elim}
use Rattle.cell_model.specs.Cells.{loses}
use Rattle.core_store.proofs.SlotPages.{changed-cell}
use Rattle.core_store.proofs.slots.lower.Goals as goal

pub lose-lost-requires : goal.lose-lost-requires
lose-lost-requires g c =
    let r = c.requires.ready in
    let small : g.row.SLOTS ≤ 14 = ⊎_elim (λ six. omega arith) (λ fourteen. omega arith) c.requires.size in
    (search rules, ((r.place.above, r.place.small), (r.place.page, (r.cells, r.agree, r.live, r.some))))

pub returns-clause-changed : goal.returns-clause-changed
returns-clause-changed g c cells agree =
    changed-cell cells c.args.held.now c.lose-lost.new.self c.args.zeros.now.items c.args.target (loses c.args.bit) c.lose-lost.result.none_left c.requires.ready.place (c.lose-lost.ensures.zero cells agree) (c.lose-lost.ensures.stored cells agree)
