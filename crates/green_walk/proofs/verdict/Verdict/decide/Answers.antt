use Rattle.std.proofs.Common.{length, get_or, arith, sym, ap, ◌∙◌, subst, lit<}
use Rattle.std.specs.Prelude.{Contains}
use Rattle.red_walk.specs.Ids.{IsIdList}
use Rattle.green_walk.specs.Judged.{Judged, IsSeed, Picks}
use Rattle.green_walk.proofs.PicksLaws.{picks-from}
use Rattle.green_walk.proofs.SeedLaws.{all-copied, whole-copied}
use Rattle.green_walk.proofs.DecideLaws.{live-picks, condemned-picks}
use Rattle.green_walk.proofs.verdict.Verdict.decide.Goals as goal

pub note_others-requires : goal.note_others-requires
note_others-requires g c =
    let sound = c.list-list.ensures.sound in
    let limit = ap (λ (v : Judged). v.limit) c.self.view_is in
    (lit< tt, (omega (arith, sound.ids.most, limit, c.requires.limit, c.self.invariant.others_room), whole-copied _ _ sound c.requires.at))

pub pick_seeds-requires : goal.pick_seeds-requires
pick_seeds-requires g c =
    let sound = c.list-list.ensures.sound in
    let limit = ap (λ (v : Judged). v.limit) c.self.view_is in
    let whole = whole-copied _ _ sound c.requires.at in
    let shown = ap length c.deref.ensures.value in (
      lit< tt,
      (
        limit ∙ c.requires.limit,
        (
          omega (arith, sound.ids.most, c.requires.locks),
          (
            omega (arith, shown, c.note_others.ensures.len, sound.ids.most, limit, c.requires.limit, c.self.invariant.others_room),
            (
              whole,
              λ place d l. ap (λ xs. get_or xs place 0) c.deref.ensures.value ∙ c.note_others.ensures.others place d l,
            ),
          ),
        ),
      ),
    )

pub reach-requires : goal.reach-requires
reach-requires g c =
    let sound = c.list-list.ensures.sound in
    let limit = ap (λ (v : Judged). v.limit) c.self.view_is ∙ c.requires.limit in
    let ids = c.ids.ensures.ids in (
      lit< tt,
      (
        sound,
        (
          c.self.invariant.reached_room ∙ limit,
          (
            subst (λ xs. IsIdList xs c.args.red.now.limit) (sym ids) (subst (λ n. IsIdList c.pick_seeds.new.seeds.ids n) (c.pick_seeds.ensures.limit ∙ limit) c.ids.ensures.sound),
            (
              λ id m. (picks-from (IsSeed c.args.red.now c.args.locks.now c.args.refs.now) c.pick_seeds.ensures.picks id (subst (λ xs. Contains xs id) ids m)).0,
              whole-copied _ _ sound c.requires.at,
            ),
          ),
        ),
      ),
    )

pub returns-clause-live : goal.returns-clause-live
returns-clause-live g c =
    let sound = c.list-list.ensures.sound in
    live-picks c.args.red.now (IsSeed c.args.red.now c.args.locks.now c.args.refs.now) (all-copied _ _ sound (whole-copied _ _ sound c.requires.at)) _ _ _ c.ids.ensures.ids c.pick_seeds.ensures.picks c.reach.ensures.only c.reach.ensures.all _ (subst (λ xs. Picks (Contains c.reach.new.reached.ids) xs c.part.new.live.ids) c.list-list.ensures.ids c.part.ensures.live)

pub returns-clause-condemned : goal.returns-clause-condemned
returns-clause-condemned g c =
    let sound = c.list-list.ensures.sound in
    condemned-picks c.args.red.now (IsSeed c.args.red.now c.args.locks.now c.args.refs.now) (all-copied _ _ sound (whole-copied _ _ sound c.requires.at)) _ _ _ c.ids.ensures.ids c.pick_seeds.ensures.picks c.reach.ensures.only c.reach.ensures.all _ (subst (λ xs. Picks (λ id. Contains c.reach.new.reached.ids id → ⊥) xs c.part.new.condemned.ids) c.list-list.ensures.ids c.part.ensures.condemned)
