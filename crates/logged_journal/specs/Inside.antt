-- The fields of a journal with its log, and what contracts see of them.
use Rattle.std.specs.Prelude.{ℕ}
use Rattle.logged_journal.specs.declared.logged.LoggedJournal.TheInside.{Inside}
use Rattle.logged_journal.specs.View.{LoggedView}

abbrev pub view_of : {slots : ℕ} {D : Type 0} → Inside slots D → LoggedView D
view_of s = record {
  journal = s.journal;
  log = s.log;
  disk = s.disk.value;
  durable = s.durable;
  marks = s.marks;
  failed = s.failed;
  log_full = s.log_full;
  peak = s.peak;
  opened = s.opened;
}
