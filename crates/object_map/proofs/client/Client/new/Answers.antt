use Rattle.std.proofs.Common.{ap, ◌∙◌, subst}
use Rattle.plain_model.specs.History.{end_of}
use Rattle.plain_laws.specs.Sound.{IsSoundState}
use Rattle.core_store.specs.JournalView.{JournalView}
use Rattle.logged_journal.specs.View.{LoggedView}
use Rattle.object_map.proofs.RootLaws.{client_new}
use Rattle.object_map.proofs.client.Client.new.Goals as goal

pub invariant_of-result : goal.invariant_of-result
invariant_of-result g c =
    let same = c.journal.ensures.journal ∙ ap (λ (x : LoggedView g.row.D.Denot). x.journal) c.logged.ensures.logged in
    record {
      some = c.requires.some;
      few = c.requires.few;
      running = c.requires.running;
      alone = client_new c.args.store c.args.number (subst (λ (j : JournalView). IsSoundState (end_of j.history).state) same c.history.ensures.sound.state) c.requires.alone;
    }
