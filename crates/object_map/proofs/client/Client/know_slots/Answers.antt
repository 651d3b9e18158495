use Rattle.std.proofs.Common.{◌≡◌, ap, ◌∙◌, subst}
use Rattle.plain_model.specs.Graphs.{root}
use Rattle.core_store.specs.JournalView.{JournalView, core_of}
use Rattle.store_model.specs.Sound.{IsSound}
use Rattle.logged_journal.specs.View.{LoggedView}
use Rattle.object_map.specs.Maps.{room_of}
use Rattle.object_map.specs.Seen.{at}
use Rattle.object_map.specs.Clients.{ClientView, seen, object_slots}
use Rattle.object_map.proofs.RootLaws.{root_room, seen_slots}
use Rattle.object_map.proofs.client.Client.know_slots.Goals as goal

pub returns-clause-slots : goal.returns-clause-slots
returns-clause-slots g c =
    let i = c.self.inside.store in
    subst (λ (v : ClientView g.row.D.Denot). (seen v).slots ≡ object_slots) c.self.view_is (seen_slots i.journal c.self.inside.number c.self.invariant.alone ∙ c.logged.ensures.slots)

pub returns-clause-room : goal.returns-clause-room
returns-clause-room g c =
    let i = c.self.inside.store in
    let same = c.journal.ensures.journal ∙ ap (λ (x : LoggedView g.row.D.Denot). x.journal) c.logged.ensures.logged in
    subst (λ (v : ClientView g.row.D.Denot). room_of (at (seen v) root) ≡ object_slots) c.self.view_is
    (root_room i.journal c.self.inside.number (subst (λ (j : JournalView). IsSound (core_of j)) same c.history.ensures.sound) c.self.invariant.alone ∙ c.logged.ensures.slots)
