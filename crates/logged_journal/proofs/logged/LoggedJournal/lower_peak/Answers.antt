use Rattle.std.proofs.Common.{◌≡◌, ◌+◌, ◌<◌, ◌≤◌, true, sym, subst, ℕ}
use Rattle.logged_journal.specs.Inside.{view_of}
use Rattle.logged_journal.specs.View.{LoggedView, bytes_counted, image_need}
use Rattle.logged_journal.proofs.CheckpointSteps.{kept-peak}
use Rattle.logged_journal.proofs.logged.LoggedJournal.lower_peak.Goals as goal

pub invariant_of-self : goal.invariant_of-self
invariant_of-self g c =
    let v = view_of c.self.inside in
    record {
      size = c.self.invariant.size;
      own = c.self.invariant.own;
      spelling = c.self.invariant.spelling;
      counted = c.self.invariant.counted;
      kept = kept-peak g.D.Disk.may_leave v c.args.peak c.self.invariant.kept (subst (λ (w : LoggedView g.row.D.Denot). bytes_counted w ≤ c.args.peak) (sym c.self.view_is) c.requires.counted)
          (subst (λ (s : ℕ). v.log_full ≡ true → v.journal.limits.log < c.args.peak + image_need s) (sym c.self.invariant.own)
          (subst (λ (w : LoggedView g.row.D.Denot). w.log_full ≡ true → w.journal.limits.log < c.args.peak + image_need g.row.SLOTS) (sym c.self.view_is) c.requires.full));
    }
