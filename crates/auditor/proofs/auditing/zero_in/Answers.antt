use Rattle.std.proofs.Common.{ℕ, cond, Bool, map, ap, arith}
use Rattle.cell_page.specs.Stored.{cell_of}
use Rattle.auditor.specs.Recount.{is_zero}
use Rattle.auditor.proofs.CountLaws.{counted-more}
use Rattle.auditor.proofs.auditing.zero_in.Goals as goal

pub loop-i-preserved : goal.loop-i-preserved
loop-i-preserved g c =
    let more = counted-more (is_zero (map cell_of c.args.cells.now)) c.loop-i.i in
    let one = c.one_if-count.ensures.value in
    let few = c.one_if-count.ensures.few in
    let so = ap (λ (b : Bool). let n : ℕ = cond b 1 0 in n) c.is_zero.ensures in
    let was = c.loop-i.invariant.count in
    let low = c.loop-i.invariant.few in
    record { count = omega (arith, more, one, so, was); few = omega (arith, few, low) }
