use Rattle.standby_laws.proofs.Streams.{begins, go-on}
use Rattle.standby_laws.proofs.logs_go_on_from_checkpoints.Goals as goal

pub returns-clause-begin : goal.returns-clause-begin
returns-clause-begin c = begins

pub returns-clause-later : goal.returns-clause-later
returns-clause-later c = go-on
