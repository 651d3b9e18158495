use Rattle.std.proofs.Common.{◌∙◌, ap}
use Rattle.ship_stream.specs.Runs.{RecordRun}
use Rattle.ship_stream.proofs.RunLaws.{rest_of}
use Rattle.ship_stream.proofs.records.Records.left.Goals as goal

pub returns-clause-bytes : goal.returns-clause-bytes
returns-clause-bytes g c = rest_of c.self.inside.next c.self.inside.bytes.items c.deref.result.now c.deref.ensures.value ∙ ap (λ (w : RecordRun). w.bytes) c.self.view_is
