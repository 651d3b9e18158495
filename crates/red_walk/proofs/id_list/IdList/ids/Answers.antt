use Rattle.red_walk.proofs.IdLaws.{kept-list}
use Rattle.red_walk.proofs.id_list.IdList.ids.Goals as goal

pub returns-clause-sound : goal.returns-clause-sound
returns-clause-sound c = rw (← c.self.view_is) (kept-list _ _ _ _ c.self.invariant)
