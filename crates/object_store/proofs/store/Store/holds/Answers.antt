use Rattle.std.proofs.Common.{◌≡◌, true, sym, subst}
use Rattle.plain_model.specs.Graphs.{has_object}
use Rattle.object_store.specs.Handles.{StoreView, graph_of, is_live}
use Rattle.object_store.proofs.KeptLaws.{live_open, held_there}
use Rattle.object_store.proofs.store.Store.holds.Goals as goal

pub returns-clause-there : goal.returns-clause-there
returns-clause-there g c = λ e.
    let l = live_open c.self.inside.framed c.self.inside.table c.self.invariant (subst (λ (s : StoreView g.row.D.Denot). is_live s ≡ true) (sym c.self.view_is) c.requires.live) in
    subst (λ (s : StoreView g.row.D.Denot). has_object (graph_of s) c.args.object.id ≡ true) c.self.view_is (held_there c.self.inside.framed c.self.inside.table c.args.object l (c.holds.ensures.holds.0 e))
