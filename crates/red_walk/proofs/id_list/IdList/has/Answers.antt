use Rattle.std.proofs.Common.{sym, ◌∙◌}
use Rattle.red_walk.proofs.IdLaws.{has-from_place, found-says}
use Rattle.red_walk.proofs.id_list.IdList.has.Goals as goal

pub returns-clause-has : goal.returns-clause-has
returns-clause-has c = c.is_some.ensures ∙ has-from_place _ c.args.id c.place.result c.place.ensures.found c.place.ensures.only

pub returns-clause-within : goal.returns-clause-within
returns-clause-within c = λ yes. found-says c.place.result c.place.ensures.within (sym c.is_some.ensures ∙ yes)
