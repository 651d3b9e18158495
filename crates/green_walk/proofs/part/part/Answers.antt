use Rattle.std.proofs.Common.{[], get_or, refl, sym, ap, ◌∙◌, subst, true≢false}
use Rattle.std.specs.Prelude.{Contains}
use Rattle.red_walk.specs.Ids.{Ids}
use Rattle.red_walk.proofs.Members.{Contains-has, has-Contains}
use Rattle.green_walk.specs.Judged.{Picks, none}
use Rattle.green_walk.proofs.PicksLaws.{picks-next, picks-taken, picks-passed, picks-end}
use Rattle.green_walk.proofs.part.part.Goals as goal
use Rattle.green_walk.proofs.part.part.Goals.{then-has, else-has}

pub loop-id-init : goal.loop-id-init
loop-id-init c = record {
  live = subst (λ (v : Ids). Picks (Contains c.args.reached.now.ids) [] v.ids) (sym c.clear.ensures.empty) none;
  condemned = subst (λ (v : Ids). Picks (λ id. Contains c.args.reached.now.ids id → ⊥) [] v.ids) (sym c.clear-2.ensures.empty) none;
  live_ids = c.clear.ensures.sound;
  condemned_ids = c.clear-2.ensures.sound;
  live_limit = refl;
  condemned_limit = refl;
}

pub push-requires-clause-new : goal.push-requires-clause-new
push-requires-clause-new c = picks-next (Contains c.args.reached.now.ids) c.args.list.now _ _ _ refl c.requires.list.once c.loop-id-test.true c.loop-id.invariant.live

pub push-requires-else-has-clause-new : goal.push-requires-else-has-clause-new
push-requires-else-has-clause-new c = picks-next (λ id. Contains c.args.reached.now.ids id → ⊥) c.args.list.now _ _ _ refl c.requires.list.once c.loop-id-test.true c.loop-id.invariant.condemned

pub loop-id-preserved : goal.loop-id-preserved
loop-id-preserved c =
    let ids = refl in
    let test = c.loop-id-test.true in
    let kept = c.loop-id.invariant in
    let reached = c.args.reached.now.ids in
    elim c.if-has.branch [
      | then-has w ↦
          let here = Contains-has reached _ (sym c.has.ensures.has ∙ w.if-has.true) in
          record {
            live = picks-taken (Contains reached) c.args.list.now _ _ c.loop-id.live _ ids test kept.live here (w.live-is ∙ w.push.ensures.joins);
            condemned = rw w.condemned-is (picks-passed (λ id. Contains reached id → ⊥) c.args.list.now _ _ _ ids test kept.condemned (λ n. n here));
            live_ids = rw w.live-is w.push.ensures.sound;
            condemned_ids = rw w.condemned-is kept.condemned_ids;
            live_limit = ap (λ (v : Ids). v.limit) (w.live-is ∙ w.push.ensures.joins) ∙ kept.live_limit;
            condemned_limit = ap (λ (v : Ids). v.limit) w.condemned-is ∙ kept.condemned_limit;
          }
      | else-has w ↦
          let gone : Contains reached (get_or c.args.list.now c.loop-id.id-index 0) → ⊥ = λ m. true≢false (sym (has-Contains reached _ m) ∙ sym c.has.ensures.has ∙ w.if-has.false) in
          record {
            live = rw w.live-is (picks-passed (Contains reached) c.args.list.now _ _ _ ids test kept.live gone);
            condemned = picks-taken (λ id. Contains reached id → ⊥) c.args.list.now _ _ c.loop-id.condemned _ ids test kept.condemned gone (w.condemned-is ∙ w.push-else-has.ensures.joins);
            live_ids = rw w.live-is kept.live_ids;
            condemned_ids = rw w.condemned-is w.push-else-has.ensures.sound;
            live_limit = ap (λ (v : Ids). v.limit) w.live-is ∙ kept.live_limit;
            condemned_limit = ap (λ (v : Ids). v.limit) (w.condemned-is ∙ w.push-else-has.ensures.joins) ∙ kept.condemned_limit;
          }
    ]

pub returns-clause-condemned : goal.returns-clause-condemned
returns-clause-condemned c = picks-end (λ id. Contains c.args.reached.now.ids id → ⊥) c.args.list.now _ _ _ refl c.loop-id-test.false c.loop-id.invariant.condemned
