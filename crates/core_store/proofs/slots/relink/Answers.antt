use Rattle.std.proofs.Common.{rules, ◌≤◌, arith, ⊎_elim}
use Rattle.core_store.proofs.slots.relink.Goals as goal

pub set_pointer-requires : goal.set_pointer-requires
set_pointer-requires g c =
    let r = c.requires.ready in
    let small : g.row.SLOTS ≤ 14 = ⊎_elim (λ six. omega arith) (λ fourteen. omega arith) c.requires.size in
    (search rules, (c.requires.size, ((r.above, r.small), (r.page, ((r.cells, r.agree, r.live), (c.requires.within, c.requires.null))))))
