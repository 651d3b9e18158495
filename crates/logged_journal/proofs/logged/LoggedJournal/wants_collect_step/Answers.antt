use Rattle.std.proofs.Common.{◌≡◌, ◌∙◌, ◌<◌, ◌⊎◌, ap, subst, arith}
use Rattle.core_store.specs.RoundView.{left_of}
use Rattle.core_store.specs.JournalView.{JournalView}
use Rattle.logged_journal.specs.Inside.{view_of}
use Rattle.logged_journal.specs.View.{LoggedView}
use Rattle.logged_journal.proofs.Resting.{kept-same}
use Rattle.logged_journal.proofs.logged.LoggedJournal.wants_collect_step.Goals as goal

pub invariant_of-self : goal.invariant_of-self
invariant_of-self g c =
    let s = c.self.inside in
    let v : LoggedView g.row.D.Denot = view_of s in
    record {
      size = c.self.invariant.size;
      own = ap (λ (j : JournalView). j.history.slots) c.wants_collect_step.ensures.same ∙ c.self.invariant.own;
      spelling = c.self.invariant.spelling;
      counted = c.self.invariant.counted;
      kept = kept-same g.D.Disk.may_leave v c.wants_collect_step.new.self c.wants_collect_step.new.self.round s.journal.marks s.log.room c.wants_collect_step.ensures.same (omega (arith)) c.self.invariant.kept;
    }

pub returns-clause-left : goal.returns-clause-left
returns-clause-left g c =
    let now = c.wants_collect_step.new.self.round in
    subst (λ (v : LoggedView g.row.D.Denot). (now ≡ v.journal.round) ⊎ (left_of g.row.SLOTS now < left_of g.row.SLOTS v.journal.round)) c.self.view_is c.wants_collect_step.ensures.left
