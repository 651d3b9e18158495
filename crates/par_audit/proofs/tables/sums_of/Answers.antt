use Rattle.std.proofs.Common.{ℕ, List, length, ap, arith}
use Rattle.par_audit.proofs.tables.sums_of.Goals as goal

pub add_tables-requires-clause-room : goal.add_tables-requires-clause-room
add_tables-requires-clause-room c = λ id within.
    c.requires.room id (let whole = ap (λ (l : List ℕ). length l) c.as_mut_slice.ensures.value in let len = c.in_ok-sums.ensures.len in omega (arith, within, whole, len))
