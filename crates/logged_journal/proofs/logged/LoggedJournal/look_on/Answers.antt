use Rattle.std.proofs.Common.{◌∙◌, ap, arith}
use Rattle.core_store.specs.JournalView.{JournalView}
use Rattle.logged_journal.specs.Inside.{view_of}
use Rattle.logged_journal.specs.View.{LoggedView}
use Rattle.logged_journal.proofs.Resting.{kept-same}
use Rattle.logged_journal.proofs.logged.LoggedJournal.look_on.Goals as goal

pub invariant_of-self : goal.invariant_of-self
invariant_of-self g c =
    let s = c.self.inside in
    let v : LoggedView g.row.D.Denot = view_of s in
    record {
      size = c.self.invariant.size;
      own = ap (λ (j : JournalView). j.history.slots) c.look_on.ensures.looks.same ∙ c.self.invariant.own;
      spelling = c.self.invariant.spelling;
      counted = c.self.invariant.counted;
      kept = kept-same g.D.Disk.may_leave v c.look_on.new.self c.look_on.new.self.round s.journal.marks s.log.room c.look_on.ensures.looks.same (omega (arith)) c.self.invariant.kept;
    }
