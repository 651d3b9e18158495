use Rattle.std.proofs.Common.{◌∙◌}
use Rattle.std.proofs.lemmas.List.{take_rest}
use Rattle.script_lines.proofs.OutputLemmas.{AppendsUpTo-more}
use Rattle.script_lines.proofs.output.write_all.Goals as goal

pub loop-rest-preserved : goal.loop-rest-preserved
loop-rest-preserved g c = record {
  so_far = rw (take_rest c.loop-rest.rest.now c.in_ok-count.count) (AppendsUpTo-more _ _ _ c.args.piece.now c.loop-rest.rest.now c.in_ok-count.count c.loop-rest.invariant.so_far c.in_ok-count.ensures.bytes);
  unfailed = c.in_ok-count.ensures.cause.kept ∙ c.loop-rest.invariant.unfailed;
}
