use Rattle.std.proofs.Common.{◌≡◌, ◌*◌, length, vec_len, ap, ◌∙◌, arith}
use Rattle.green_walk.proofs.CopiedInside.{seen-length}
use Rattle.green_walk.proofs.copied_slots.CopiedSlots.len.Goals as goal

pub returns : goal.returns
returns g c =
    let counted : vec_len c.self.inside.rows ≡ length c.self.inside.rows.items = omega arith in
    ap (λ n. g.row.SLOTS * n) (c.len.ensures ∙ counted) ∙ seen-length _ _ _ _ _ _ _ _ _ c.self.invariant c.args.self.now c.self.view_is
