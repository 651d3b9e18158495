use Rattle.core_store.proofs.BytesOwed.{call-owes, commit-owes, refused-owes, undo-owes, end-owes}
use Rattle.core_store.proofs.owed.records_have_owed_room.Goals as goal

pub returns : goal.returns
returns c = record { call = call-owes; commit = commit-owes; refused = refused-owes; undo = undo-owes; end = end-owes }
