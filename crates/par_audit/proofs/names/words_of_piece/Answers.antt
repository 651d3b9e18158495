use Rattle.std.proofs.Common.{◌+◌, ◌*◌, ◌/◌, ◌∙◌, length, ap, ℕ}
use Rattle.par_audit.proofs.FollowLaws.{names-packed}
use Rattle.par_audit.proofs.PieceLaws.{both}
use Rattle.par_audit.proofs.names.words_of_piece.Goals as goal

pub returns : goal.returns
returns g c =
    let count = c.words_for-count.result in
    let is = c.words_for-count.ensures in
    both c.words_of_table.result _ _ _ c.words_of_table.ensures.len c.words_of_table.ensures.each
    (λ words len each.
    names-packed c.args.cells.now c.args.piece.now (64 * count) (length c.args.cells.now / 64 + 1) c.in_ok-table.table.items words.items (ap (λ (n : ℕ). 64 * n) is) c.in_ok-table.ensures (len ∙ is)
    (rw (c.as_slice.ensures.value) at each))
