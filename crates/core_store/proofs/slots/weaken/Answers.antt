use Rattle.std.proofs.Common.{rules, ◌≤◌, arith, ⊎_elim}
use Rattle.core_store.proofs.SlotEdits.{object-ready}
use Rattle.core_store.proofs.slots.weaken.Goals as goal

pub held_pointer-from-requires : goal.held_pointer-from-requires
held_pointer-from-requires g c =
    let r = c.requires.ready.ready in
    let small : g.row.SLOTS ≤ 14 = ⊎_elim (λ six. omega arith) (λ fourteen. omega arith) c.requires.size in
    (search rules, (c.requires.size, (object-ready c.args.held.now c.args.zeros.now.items c.args.id c.args.slot 0 r, r.can.within)))
