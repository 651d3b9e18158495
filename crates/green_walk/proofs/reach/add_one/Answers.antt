use Rattle.std.proofs.Common.{[], ◌∷◌, not, sym, ap, ◌∙◌, subst, arith}
use Rattle.red_walk.specs.Ids.{Ids}
use Rattle.red_walk.proofs.Members.{Contains-has}
use Rattle.red_walk.proofs.IdLaws.{found-says}
use Rattle.green_walk.specs.Judged.{Adds}
use Rattle.green_walk.proofs.ReachLaws.{adds-none, adds-push, place-none, place-some}
use Rattle.green_walk.proofs.reach.add_one.Goals as goal

pub returns-then-is_none-clause-adds : goal.returns-then-is_none-clause-adds
returns-then-is_none-clause-adds g c =
    adds-none _ _ _ (λ m. absurd (place-none c.args.red.now.list c.args.target c.place.result (c.is_none.ensures ∙ ap not c.if-is_none.true) c.place.ensures.only m))

pub returns-then-has-clause-adds : goal.returns-then-has-clause-adds
returns-then-has-clause-adds g c = adds-none _ _ _ (λ m. Contains-has _ _ (sym c.has.ensures.has ∙ c.if-has.true))

pub push-requires-clause-within : goal.push-requires-clause-within
push-requires-clause-within g c =
    let within = found-says c.place.result c.place.ensures.within (c.is_none.ensures ∙ ap not c.if-is_none.false) in
    (within.0, omega (arith, within.1, c.requires))

pub returns-clause-adds : goal.returns-clause-adds
returns-clause-adds g c =
    let there = place-some c.args.red.now.list c.args.target c.place.result (c.is_none.ensures ∙ ap not c.if-is_none.false) c.place.ensures.found in
    subst (λ (v : Ids). Adds c.args.red.now.list (c.args.target ∷ []) c.args.reached.now.ids v.ids) (sym c.push.ensures.joins) (adds-push _ _ _ there)
