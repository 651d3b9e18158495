use Rattle.std.proofs.Common.{◌≡◌, take}
use Rattle.std.specs.Io.KnownBytes.{Appends}
use Rattle.plain_model.specs.Text.{numbers}
use Rattle.standby_feeding.proofs.line.write_ids.Given as goal

abbrev pub invariant-ids : goal.invariant-ids
invariant-ids g l =
    Appends (g.W.Sink.written l.fn.out) (g.W.Sink.written l.out) (numbers (take l.id-index l.ids)) × (g.W.Sink.faults l.out ≡ g.W.Sink.faults l.fn.out)
