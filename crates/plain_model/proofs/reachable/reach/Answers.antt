use Rattle.std.proofs.Common.{◌<◌, ◌∙◌, length, subst, arith}
use Rattle.std.proofs.lemmas.List.{get_or_default}
use Rattle.plain_model.specs.Walk.{Adds, slots_at}
use Rattle.plain_model.proofs.ReachLaws.{IsReached-first, IsReached-step, IsReached-set}
use Rattle.plain_model.proofs.reachable.reach.Goals as goal

pub loop-next-init : goal.loop-next-init
loop-next-init c = record {
  reached = IsReached-first _ _ _ (subst (λ xs. Adds c.args.graph.now 0 c.args.«from».now xs c.add_all.new.walk.order.items) c.new-2.ensures.items c.in_ok-add_all.ensures.adds);
  same = c.in_ok-add_all.ensures.same;
}

pub loop-next-preserved : goal.loop-next-preserved
loop-next-preserved c =
    let within : c.loop-next.next < length c.loop-next.walk.order.items = omega arith in
    let here = c.index-id.ensures ∙ get_or_default c.loop-next.walk.order.items c.loop-next.next c.index-id.result.now 0 within in
    record {
      reached = IsReached-step _ _ _ _ _ c.loop-next.invariant.reached within (subst (λ x. Adds c.args.graph.now 1 (slots_at c.args.graph.now x) c.loop-next.walk.order.items c.follow.new.walk.order.items) here c.in_ok-follow.ensures.adds);
      same = c.in_ok-follow.ensures.same;
    }

pub returns-clause-reachable : goal.returns-clause-reachable
returns-clause-reachable c = IsReached-set _ _ _ _ _ c.loop-next.invariant.same c.loop-next.invariant.reached (omega arith) _ c.from_set.ensures.keys
