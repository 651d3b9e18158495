use Rattle.std.proofs.Common.{◌∙◌, Some, sym, ap, subst}
use Rattle.plain_model.specs.declared.calls.Entry.TheVariants.{TurnBusy}
use Rattle.plain_model.specs.History.{end_of, least_active}
use Rattle.std.proofs.Common.{◌≡◌}
use Rattle.core_store.specs.JournalView.{JournalView}
use Rattle.logged_journal.specs.Inside.{view_of}
use Rattle.logged_journal.specs.View.{LoggedView}
use Rattle.logged_journal.specs.Kept.{IsKept}
use Rattle.logged_journal.proofs.Upkeeps.{kept-entry}
use Rattle.logged_journal.proofs.logged.LoggedJournal.tell_busy.Goals as goal

pub invariant_of-self : goal.invariant_of-self
invariant_of-self g c =
    let v = view_of c.self.inside in
    let running = ap (λ (w : LoggedView g.row.D.Denot). w.failed) c.self.view_is ∙ c.requires.running in
    let least = subst (λ (w : LoggedView g.row.D.Denot). least_active (end_of w.journal.history).state ≡ Some c.args.pass) (sym c.self.view_is) c.requires.least in
    record {
      size = c.self.invariant.size;
      own = ap (λ (k : JournalView). k.history.slots) c.enter_turn_busy.ensures.entered ∙ c.self.invariant.own;
      spelling = c.self.invariant.spelling;
      counted = c.self.invariant.counted;
      kept = subst (λ (k : JournalView). IsKept g.D.Disk.may_leave (record v { journal = k })) (sym c.enter_turn_busy.ensures.entered) (kept-entry g.D.Disk.may_leave g.row.SLOTS v (TurnBusy c.args.pass) c.self.invariant.kept running least);
    }
