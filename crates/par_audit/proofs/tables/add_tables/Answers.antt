use Rattle.std.proofs.Common.{◌<◌, length, ap, arith}
use Rattle.std.proofs.lemmas.List.Sums.{sum_by_more_le}
use Rattle.par_audit.specs.declared.pairs.PairCounts.{PairCounts}
use Rattle.par_audit.specs.Tables.{count_in}
use Rattle.par_audit.proofs.tables.add_tables.Goals as goal

pub add_counts-requires-clause-room : goal.add_counts-requires-clause-room
add_counts-requires-clause-room c = λ id within.
    let len = c.loop-table.invariant.len in
    let there : id < length c.args.sums.now = omega (arith, len, within) in
    let was = c.loop-table.invariant.each id there in
    let most = c.requires.room id there in
    let more = sum_by_more_le (λ (t : PairCounts). count_in t id c.args.bit) c.args.tables.now c.loop-table.table-index c.table-item.result c.loop-table-test.true in
    let same = ap (λ (t : PairCounts). count_in t id c.args.bit) c.table-item.is in
    omega (arith, was, most, more, same)
