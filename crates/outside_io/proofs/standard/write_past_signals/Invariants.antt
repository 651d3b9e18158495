-- An interrupted write appended nothing.
use Rattle.std.specs.Io.KnownBytes.{Keeps}
use Rattle.outside_io.proofs.standard.write_past_signals.Given as goal

abbrev pub invariant-tries : goal.invariant-tries
invariant-tries g l = Keeps (g.W.Write.contents l.initial.writer) (g.W.Write.contents l.writer)
