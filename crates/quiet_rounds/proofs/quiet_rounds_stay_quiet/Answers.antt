use Rattle.quiet_rounds.proofs.Rounds.{quiet-events}
use Rattle.quiet_rounds.proofs.Looks.{quiet-looks}
use Rattle.quiet_rounds.proofs.quiet_rounds_stay_quiet.Goals as goal

pub returns-clause-events : goal.returns-clause-events
returns-clause-events c = quiet-events

pub returns-clause-looks : goal.returns-clause-looks
returns-clause-looks c = quiet-looks
