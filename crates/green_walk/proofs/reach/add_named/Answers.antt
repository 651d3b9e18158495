use Rattle.std.proofs.Common.{sym, ◌∙◌, subst}
use Rattle.std.proofs.lemmas.List.{take_more}
use Rattle.green_walk.specs.Judged.{Adds}
use Rattle.green_walk.proofs.ReachLaws.{adds-both}
use Rattle.green_walk.proofs.reach.add_named.Goals as goal

pub loop-target-preserved : goal.loop-target-preserved
loop-target-preserved g c = record {
  adds =
      subst (λ xs. Adds c.args.red.now.list xs c.args.reached.now.ids c.add_one.new.reached.ids) (sym (take_more c.args.slots.now c.loop-target.target-index 0 c.loop-target-test.true))
      (adds-both _ _ _ _ _ _ c.loop-target.invariant.adds c.add_one.ensures.adds);
  limit = c.add_one.ensures.limit ∙ c.loop-target.invariant.limit;
}
