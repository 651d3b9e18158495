use Rattle.std.proofs.Common.{◌+◌, [], take, get_or, refl, sym, ap, ◌∙◌, subst}
use Rattle.red_walk.specs.Ids.{Ids}
use Rattle.green_walk.specs.Judged.{IsSeed, Picks, none}
use Rattle.green_walk.proofs.PicksLaws.{picks-next, picks-taken, picks-passed}
use Rattle.green_walk.proofs.seeds.pick_seeds.Goals as goal
use Rattle.green_walk.proofs.seeds.pick_seeds.Goals.{then-is_seed, else-is_seed}

pub loop-place-init : goal.loop-place-init
loop-place-init g c = record {
  picks = subst (λ (v : Ids). Picks (IsSeed c.args.red.now c.args.locks.now c.args.refs.now) [] v.ids) (sym c.clear.ensures.empty) none;
  limit = refl;
}

pub push-requires-clause-new : goal.push-requires-clause-new
push-requires-clause-new g c =
    picks-next (IsSeed c.args.red.now c.args.locks.now c.args.refs.now) c.args.red.now.list _ _ _ c.list-list.ensures.ids c.list-list.ensures.sound.ids.once c.loop-place-test.true c.loop-place.invariant.picks

pub loop-place-preserved : goal.loop-place-preserved
loop-place-preserved g c =
    let ids = c.list-list.ensures.ids in
    let at = c.loop-place.place in
    let test = c.loop-place-test.true in
    let kept = c.loop-place.invariant in
    elim c.if-is_seed.branch [
      | then-is_seed w ↦ record {
        picks =
            picks-taken (IsSeed c.args.red.now c.args.locks.now c.args.refs.now) c.args.red.now.list _ _ c.loop-place.seeds _ ids test kept.picks
            (subst (λ xs. IsSeed c.args.red.now c.args.locks.now c.args.refs.now (get_or xs at 0)) (sym ids) (c.is_seed.ensures.yes w.if-is_seed.true)) (w.seeds-is ∙ w.push.ensures.joins);
        limit = ap (λ (v : Ids). v.limit) (w.seeds-is ∙ w.push.ensures.joins) ∙ kept.limit;
      }
      | else-is_seed w ↦ record {
        picks = subst (λ (v : Ids). Picks (IsSeed c.args.red.now c.args.locks.now c.args.refs.now) (take (at + 1) c.args.red.now.list) v.ids) (sym w.seeds-is)
            (picks-passed (IsSeed c.args.red.now c.args.locks.now c.args.refs.now) c.args.red.now.list _ _ _ ids test kept.picks
            (λ s. c.is_seed.ensures.no w.if-is_seed.false (subst (λ xs. IsSeed c.args.red.now c.args.locks.now c.args.refs.now (get_or xs at 0)) ids s)));
        limit = ap (λ (v : Ids). v.limit) w.seeds-is ∙ kept.limit;
      }
    ]
