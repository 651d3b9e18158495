use Rattle.opened_store.proofs.RefusedLaws.{refused}
use Rattle.opened_store.proofs.laws.refused_stores_do_not_open.Goals as goal

pub returns : goal.returns
returns c = refused
