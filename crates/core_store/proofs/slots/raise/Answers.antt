use Rattle.std.proofs.Common.{rules, ◌≤◌, arith, ⊎_elim}
use Rattle.cell_model.specs.Cells.{gains}
use Rattle.core_store.proofs.SlotPages.{changed-cell}
use Rattle.core_store.proofs.slots.raise.Goals as goal

pub gain-requires : goal.gain-requires
gain-requires g c =
    let r = c.requires.ready in
    let small : g.row.SLOTS ≤ 14 = ⊎_elim (λ six. omega arith) (λ fourteen. omega arith) c.requires.size in
    (search rules, ((r.place.above, r.place.small), (r.place.page, (r.cells, r.agree, r.live, r.room))))

pub returns-clause-changed : goal.returns-clause-changed
returns-clause-changed g c cells agree =
    changed-cell cells c.args.held.now c.gain.new.self c.args.zeros.now.items c.args.target (gains c.args.bit) c.gain.result c.requires.ready.place (c.gain.ensures.zero cells agree) (c.gain.ensures.stored cells agree)
