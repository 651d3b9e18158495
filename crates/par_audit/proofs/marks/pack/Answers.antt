use Rattle.std.proofs.Common.{◌≤◌, length, arith}
use Rattle.par_audit.specs.Marks.{has_id}
use Rattle.par_audit.proofs.MarkLaws.{mark_each, id_past}
use Rattle.par_audit.proofs.marks.pack.Goals as goal

pub returns-clause-each : goal.returns-clause-each
returns-clause-each c =
    let is = c.loop-at.invariant in
    let len = is.len in
    let wide = c.requires.wide in
    let over : length c.loop-at.words ≤ c.loop-at.at = (let t = c.loop-at-test.false in let e = c.loop-at.auto in omega (arith, t, e, len)) in
    mark_each c.loop-at.words (has_id c.args.table.now) (λ at within. is.done at (omega (arith, within, over))) (λ id far. id_past c.args.table.now id (omega (arith, far, len, wide)))
