use Rattle.quiet_rounds.proofs.PlainEvents.{plain-looks, plain-events}
use Rattle.quiet_rounds.proofs.green_walks_are_plain.Goals as goal

pub returns-clause-looks : goal.returns-clause-looks
returns-clause-looks c = plain-looks

pub returns-clause-events : goal.returns-clause-events
returns-clause-events c = plain-events
