use Rattle.std.proofs.Common.{◌≡◌, ◌≤◌, ◌++◌}
use Rattle.std.specs.List.{AllByRecursion}
use Rattle.std.specs.Io.KnownBytes.{Appends}
use Rattle.plain_model.specs.Text.{text_of}
use Rattle.brahma_shell.specs.Points.{entries_in}
use Rattle.brahma_shell.specs.Telling.{IsNoCrash}
use Rattle.brahma_shell.proofs.telling.print_notes.Given as goal

-- the lines of the notes before are written
abbrev pub invariant-notes : goal.invariant-notes
invariant-notes g l = record {
  whole : l.yielded ++ l.note-iterator ≡ l.notes.list;
  plain : AllByRecursion IsNoCrash (entries_in l.note-iterator);
  written : Appends (g.W.Sink.written l.fn.out) (g.W.Sink.written l.out) (text_of (entries_in l.yielded));
  later : g.W.Sink.faults l.fn.out ≤ g.W.Sink.faults l.out;
}
