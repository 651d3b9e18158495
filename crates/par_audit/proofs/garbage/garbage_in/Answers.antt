use Rattle.std.proofs.Common.{ℕ, cond, Bool, ap, arith}
use Rattle.auditor.proofs.CountLaws.{counted-more}
use Rattle.par_audit.specs.Marks.{is_marked}
use Rattle.par_audit.proofs.garbage.garbage_in.Goals as goal

pub loop-i-preserved : goal.loop-i-preserved
loop-i-preserved c =
    let more = counted-more (is_marked c.args.unreached.now) c.loop-i.i in
    let one = c.one_if-count.ensures.value in
    let few = c.one_if-count.ensures.few in
    let so = ap (λ (b : Bool). let n : ℕ = cond b 1 0 in n) c.has_mark.ensures in
    let was = c.loop-i.invariant.count in
    let low = c.loop-i.invariant.few in
    record { count = omega (arith, more, one, so, was); few = omega (arith, few, low) }
