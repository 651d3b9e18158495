use Rattle.std.proofs.Common.{rules, ◌≤◌, arith, ⊎_elim}
use Rattle.core_store.specs.Slots.{turned}
use Rattle.core_store.proofs.SlotPages.{changed-cell}
use Rattle.core_store.proofs.slots.turn.Goals as goal

pub turn-requires : goal.turn-requires
turn-requires g c =
    let r = c.requires.some in
    let small : g.row.SLOTS ≤ 14 = ⊎_elim (λ six. omega arith) (λ fourteen. omega arith) c.requires.size in
    let more = c.requires.room in
    (search rules, ((r.place.above, r.place.small), (r.place.page, ((r.cells, r.agree, r.live, r.some), (more.cells, more.agree, more.room)))))

pub returns-clause-changed : goal.returns-clause-changed
returns-clause-changed g c cells agree =
    changed-cell cells c.args.held.now c.turn.new.self c.args.zeros.now.items c.args.target (turned c.args.bit) c.turn.result c.requires.some.place (c.turn.ensures.zero cells agree) (c.turn.ensures.stored cells agree)
