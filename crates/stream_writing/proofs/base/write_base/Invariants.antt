use Rattle.std.proofs.Common.{◌≡◌, ◌++◌, length}
use Rattle.std.specs.Int.{w16, to_be_bytes}
use Rattle.std.specs.Io.KnownBytes.{Appends}
use Rattle.stream_writing.proofs.BaseLaws.{first_bytes}
use Rattle.stream_writing.proofs.base.write_base.Given as goal

abbrev pub invariant-pages : goal.invariant-pages
invariant-pages g l =
    Appends (g.W.Sink.written l.fn.out) (g.W.Sink.written l.out) (to_be_bytes w16 (length l.frames) ++ first_bytes l.frames l.frame-index)
    × (g.W.Sink.faults l.out ≡ g.W.Sink.faults l.fn.out)
