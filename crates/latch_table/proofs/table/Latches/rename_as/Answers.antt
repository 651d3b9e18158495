use Rattle.std.proofs.Common.{ℕ, ◌+◌, arith, sym, ap, ◌∙◌}
use Rattle.latch_table.specs.Holds.{IsAlone}
use Rattle.latch_table.proofs.FromFirst.{renames_from}
use Rattle.latch_table.proofs.table.Latches.rename_as.Goals as goal

pub load-requires : goal.load-requires
load-requires g c =
    let s = c.self.invariant in
    let h = c.hold.invariant in
    let words = s.0 in
    let word = c.from-word.ensures in
    let only : IsAlone c.hold.inside.seat.me.0 = rw (ap (λ z. z.view) c.hold.view_is) c.requires.alone in
    (ap (λ z. z.table) c.hold.view_is ∙ c.requires.of ∙ sym (ap (λ z. z.table) c.self.view_is), omega arith, rw (ap (λ (n : ℕ). n + 1) word) (renames_from _ _ _ _ _ _ _ _ s.1 h.alive only h.settled.0))
