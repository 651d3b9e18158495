use Rattle.std.proofs.Common.{◌≡◌, ◌+◌, ◌<◌, ◌≤◌, length, get_or, arith, sym, ap, ◌∙◌, subst}
use Rattle.std.proofs.lemmas.List.{get_or_default}
use Rattle.std.proofs.lemmas.List.Elements.{Contains-get_or}
use Rattle.red_walk.specs.Ids.{Ids}
use Rattle.green_walk.proofs.SeedLaws.{all-copied}
use Rattle.green_walk.proofs.ReachLaws.{IsReached, reached-first, reached-step, reached-all, adds-length}
use Rattle.green_walk.proofs.reach.reach.Goals as goal
use Rattle.green_walk.proofs.reach.reach.Goals.{in-Some, in_default}

pub loop-next-init : goal.loop-next-init
loop-next-init g c = record {
  reached = subst (λ (v : Ids). IsReached c.args.red.now c.args.seeds.now v.ids 0) (sym c.begin_with.ensures) (reached-first c.args.red.now c.args.seeds.now c.requires.listed);
  within = omega arith;
  limit = ap (λ (v : Ids). v.limit) c.begin_with.ensures ∙ c.requires.limit;
}

pub targets-requires : goal.targets-requires
targets-requires g c = omega (arith, c.in-Some.ensures.found.0, c.requires.copied)

pub loop-next-preserved : goal.loop-next-preserved
loop-next-preserved g c =
    let sound = c.requires.walk in
    let kept = c.loop-next.invariant in
    let ids = c.ids-in-loop-next.ensures.ids in
    let early : c.loop-next.next < length c.loop-next.reached.ids = subst (λ xs. c.loop-next.next < length xs) c.ids.ensures.ids c.loop-next-test.true in
    elim c.match-place.branch [
      | in-Some w ↦
          let at = subst (λ xs. get_or c.args.red.now.list w.in-Some.place 0 ≡ get_or xs c.loop-next.next 0) ids w.in-Some.ensures.found.1 in
          let step = reached-step c.args.red.now (all-copied _ _ sound c.requires.copied) sound.ids.once c.args.seeds.now _ _ _ _ w.in-Some.place kept.reached early w.in-Some.ensures.found.0 at w.targets.ensures w.add_named.ensures.adds in
          let longer = adds-length _ _ _ _ w.add_named.ensures.adds in
          record {
            reached = subst (λ (v : Ids). IsReached c.args.red.now c.args.seeds.now v.ids (c.loop-next.next + 1)) (sym w.reached-is) step;
            within = subst (λ (v : Ids). c.loop-next.next + 1 ≤ length v.ids) (sym w.reached-is) (omega (arith, early, longer));
            limit = ap (λ (v : Ids). v.limit) w.reached-is ∙ w.add_named.ensures.limit ∙ kept.limit;
          }
      | in_default w ↦
          let there = (kept.reached.only _ (Contains-get_or c.loop-next.reached.ids c.loop-next.next 0 early)).0 in
          absurd (w.in_default.not-Some there.0 (c.place.ensures.only there.0 there.1 (get_or_default c.args.red.now.list there.0 0 _ there.1 ∙ there.2 ∙ ap (λ xs. get_or xs c.loop-next.next 0) (sym ids))))
    ]

pub returns-clause-all : goal.returns-clause-all
returns-clause-all g c =
    let sound = c.requires.walk in
    reached-all c.args.red.now (all-copied _ _ sound c.requires.copied) c.args.seeds.now c.loop-next.reached.ids c.loop-next.next c.loop-next.invariant.reached (grind (arith, c.ids.ensures.ids, c.loop-next-test.false))
