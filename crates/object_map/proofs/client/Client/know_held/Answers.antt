use Rattle.std.proofs.Common.{◌≡◌, sym, ap, ◌∙◌, subst}
use Rattle.std.specs.Prelude.{IsSome}
use Rattle.core_store.specs.JournalView.{JournalView, core_of}
use Rattle.store_model.specs.Sound.{IsSound}
use Rattle.logged_journal.specs.View.{LoggedView}
use Rattle.object_map.specs.Maps.{room_of}
use Rattle.object_map.specs.Seen.{at, held, held_id}
use Rattle.object_map.specs.Clients.{ClientView, seen, object_slots}
use Rattle.object_map.proofs.RootLaws.{held_room}
use Rattle.object_map.proofs.client.Client.know_held.Goals as goal

pub returns : goal.returns
returns g c =
    let i = c.self.inside.store in
    let same = c.journal.ensures.journal ∙ ap (λ (x : LoggedView g.row.D.Denot). x.journal) c.logged.ensures.logged in
    subst (λ (v : ClientView g.row.D.Denot). room_of (at (seen v) (held_id (seen v) c.args.r)) ≡ object_slots) c.self.view_is
    (held_room i.journal c.self.inside.number c.args.r (subst (λ (j : JournalView). IsSound (core_of j)) same c.history.ensures.sound) c.self.invariant.alone c.requires.register (subst (λ (v : ClientView g.row.D.Denot). IsSome (held (seen v) c.args.r)) (sym c.self.view_is) c.requires.full) ∙ c.logged.ensures.slots)
