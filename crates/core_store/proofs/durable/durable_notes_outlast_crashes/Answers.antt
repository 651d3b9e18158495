use Rattle.core_store.proofs.durable.durable_notes_outlast_crashes.Goals as goal
use Rattle.core_store.proofs.SafeLaws.{durable-all, durable-kept, journal-crash}

pub returns : goal.returns
returns c = record { forced = durable-all; later = durable-kept; crash = journal-crash }
