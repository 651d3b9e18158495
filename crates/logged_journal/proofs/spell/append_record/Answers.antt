use Rattle.std.proofs.Common.{ℕ, List, length, ap, arith}
use Rattle.logged_journal.proofs.RecordLengths.{size-some}
use Rattle.logged_journal.proofs.spell.append_record.Goals as goal

pub append_reserved-requires-clause-some : goal.append_reserved-requires-clause-some
append_reserved-requires-clause-some g c =
    let long = ap (λ (l : List ℕ). length l) c.spell-length.ensures.spelling in
    let some = size-some c.args.change.now in
    omega (arith, long, some)
