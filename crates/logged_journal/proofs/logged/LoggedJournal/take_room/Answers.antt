use Rattle.std.proofs.Common.{◌∙◌, ap, arith}
use Rattle.logged_journal.specs.Inside.{view_of}
use Rattle.logged_journal.specs.View.{LoggedView}
use Rattle.logged_journal.proofs.CalledJournals.{kept-reserved}
use Rattle.logged_journal.proofs.logged.LoggedJournal.take_room.Goals as goal

pub overflow_add-bytes_owed : goal.overflow_add-bytes_owed
overflow_add-bytes_owed g c =
    let running = ap (λ (w : LoggedView g.row.D.Denot). w.failed) c.self.view_is ∙ c.requires.running in
    let bounded = (c.self.invariant.kept.standing running).bounded in
    let owed = c.bytes_owed.ensures.value in
    let few = c.requires.few in
    omega (arith, bounded, owed, few)

pub invariant_of-self : goal.invariant_of-self
invariant_of-self g c =
    record {
      size = c.self.invariant.size;
      own = c.self.invariant.own;
      spelling = c.self.invariant.spelling;
      counted = c.self.invariant.counted;
      kept = kept-reserved g.D.Disk.may_leave (view_of c.self.inside) c.reserve.new.self _ _ c.reserve.ensures.log c.self.invariant.kept;
    }
