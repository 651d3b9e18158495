use Rattle.quiet_rounds.proofs.JournalEvents.{journal-events, journal-looks, steps-noted}
use Rattle.quiet_rounds.proofs.journals_step_quietly.Goals as goal

pub returns-clause-event : goal.returns-clause-event
returns-clause-event c = journal-events

pub returns-clause-looks : goal.returns-clause-looks
returns-clause-looks c = journal-looks

pub returns-clause-noted : goal.returns-clause-noted
returns-clause-noted c = steps-noted
