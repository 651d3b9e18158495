use Rattle.std.proofs.Common.{ℕ, ◌≤◌, sym, ap, ◌∙◌, subst}
use Rattle.logged_journal.specs.Inside.{view_of}
use Rattle.logged_journal.specs.View.{LoggedView, IsPast, image_need}
use Rattle.logged_journal.proofs.CalledJournals.{kept-log_full}
use Rattle.logged_journal.proofs.logged.LoggedJournal.mark_full.Goals as goal

pub invariant_of-self : goal.invariant_of-self
invariant_of-self g c =
    let inside = c.self.inside in
    let v : LoggedView g.row.D.Denot = view_of inside in
    let running = ap (λ (w : LoggedView g.row.D.Denot). w.failed) c.self.view_is ∙ c.requires.running in
    record {
      size = c.self.invariant.size;
      own = c.self.invariant.own;
      spelling = c.self.invariant.spelling;
      counted = c.self.invariant.counted;
      kept = kept-log_full g.D.Disk.may_leave v c.requires.past.0 c.self.invariant.kept running (subst (λ (s : ℕ). c.requires.past.0 ≤ image_need s) (sym c.self.invariant.own) c.requires.past.1)
          (subst (λ (w : LoggedView g.row.D.Denot). IsPast w c.requires.past.0) (sym c.self.view_is) c.requires.past.2);
    }
