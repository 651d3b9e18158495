use Rattle.std.proofs.Common.{sym, subst}
use Rattle.std.proofs.lemmas.List.{take_more}
use Rattle.plain_model.specs.Walk.{Adds}
use Rattle.plain_model.proofs.ReachLaws.{Adds-both}
use Rattle.plain_model.proofs.reachable.add_all.Goals as goal

pub loop-id-preserved : goal.loop-id-preserved
loop-id-preserved c = record {
  adds =
      subst (λ xs. Adds c.args.graph.now c.args.least xs c.args.walk.now.order.items c.add_one.new.walk.order.items) (sym (take_more c.args.ids.now c.loop-id.id-index 0 c.loop-id-test.true))
      (Adds-both _ _ _ _ _ _ _ c.loop-id.invariant.adds c.in_ok-add_one.ensures.adds);
  same = c.in_ok-add_one.ensures.same;
}
