use Rattle.std.proofs.Common.{◌<◌, ◌≤◌, length, ⊎_elim, arith}
use Rattle.std.proofs.lemmas.Bool.{cases_lt}
use Rattle.par_audit.proofs.MarkLaws.{mark_or, or_past}
use Rattle.par_audit.proofs.marks.add_marks.Goals as goal

pub returns-clause-each : goal.returns-clause-each
returns-clause-each c =
    let is = c.loop-at.invariant in
    let len = is.len in
    let same = c.requires in
    let over : length c.loop-at.words ≤ c.loop-at.at = (let t = c.loop-at-test.false in let e = c.loop-at.auto in omega (arith, t, e, len)) in
    mark_or c.loop-at.words c.args.words.now c.args.others.now
    (λ k.
    ⊎_elim (λ (l : k < c.loop-at.at). is.done k l)
    (λ (far : c.loop-at.at ≤ k). or_past c.loop-at.words c.args.words.now c.args.others.now k (omega (arith, over, far)) (omega (arith, over, far, len)) (omega (arith, over, far, len, same)))
    (cases_lt k c.loop-at.at))
