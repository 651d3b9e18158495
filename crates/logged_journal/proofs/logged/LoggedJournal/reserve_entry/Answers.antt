use Rattle.std.proofs.Common.{◌∙◌, ap}
use Rattle.core_store.specs.JournalView.{JournalView}
use Rattle.logged_journal.specs.Inside.{view_of}
use Rattle.logged_journal.proofs.Upkeeps.{reserved-is, kept-entry-room}
use Rattle.logged_journal.proofs.logged.LoggedJournal.reserve_entry.Goals as goal

pub invariant_of-self : goal.invariant_of-self
invariant_of-self g c =
    let v = view_of c.self.inside in
    let e = c.reserve_entry.ensures in
    let is = reserved-is v.journal c.reserve_entry.new.self c.reserve_entry.result e.marked e.memory e.reserved in
    record {
      size = c.self.invariant.size;
      own = ap (λ (j : JournalView). j.history.slots) is.2 ∙ c.self.invariant.own;
      spelling = c.self.invariant.spelling;
      counted = c.self.invariant.counted;
      kept = kept-entry-room g.D.Disk.may_leave v c.reserve_entry.new.self is.0 is.1 is.2 c.self.invariant.kept;
    }
