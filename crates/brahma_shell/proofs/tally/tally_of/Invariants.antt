use Rattle.std.proofs.Common.{◌≡◌, ◌≤◌, ◌+◌, length}
use Rattle.std.specs.Prelude.{count_by}
use Rattle.brahma_shell.specs.Points.{entries_in}
use Rattle.brahma_shell.specs.Tally.{is_commit, is_abort, is_busy, is_deletion}
use Rattle.brahma_shell.proofs.tally.tally_of.Given as goal

-- what is counted, and what is to be counted of the notes that are left, come to the counts of all
abbrev pub invariant-loop-note : goal.invariant-loop-note
invariant-loop-note l = record {
  commits : l.tally.commits + count_by is_commit (entries_in l.note-iterator) ≡ count_by is_commit (entries_in l.notes.list);
  aborts : l.tally.aborts + count_by is_abort (entries_in l.note-iterator) ≡ count_by is_abort (entries_in l.notes.list);
  busy : l.tally.busy + count_by is_busy (entries_in l.note-iterator) ≡ count_by is_busy (entries_in l.notes.list);
  deleted : l.tally.deleted + count_by is_deletion (entries_in l.note-iterator) ≡ count_by is_deletion (entries_in l.notes.list);
  few_commits : l.tally.commits + length l.note-iterator ≤ length l.notes.list;
  few_aborts : l.tally.aborts + length l.note-iterator ≤ length l.notes.list;
  few_busy : l.tally.busy + length l.note-iterator ≤ length l.notes.list;
  few_deleted : l.tally.deleted + length l.note-iterator ≤ length l.notes.list;
}
