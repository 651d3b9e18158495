use Rattle.std.proofs.Common.{◌<◌, ◌∙◌, Bool, length, get_or, ap, arith}
use Rattle.std.specs.Prelude.{◌||◌}
use Rattle.par_audit.specs.Marks.{is_in, slots_at}
use Rattle.par_audit.proofs.FollowLaws.{named-more}
use Rattle.par_audit.proofs.names.name_all.Goals as goal

pub loop-id-preserved : goal.loop-id-preserved
loop-id-preserved g c = record {
  len = c.name_cell.ensures.len ∙ c.loop-id.invariant.len;
  each = λ x within.
      let len = c.loop-id.invariant.len in
      let there : x < length c.loop-id.table = omega (arith, len, within) in
      c.name_cell.ensures.each x there
      ∙ (ap (λ (b : Bool). b || is_in (slots_at c.args.cells.now (get_or c.args.piece.now c.loop-id.id-index 0)) x) (c.loop-id.invariant.each x within) ∙ named-more c.args.cells.now c.args.piece.now c.loop-id.id-index x c.loop-id-test.true);
}
