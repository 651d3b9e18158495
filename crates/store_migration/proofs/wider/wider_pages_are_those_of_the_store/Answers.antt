use Rattle.store_migration.proofs.WidePages.{pages_are}
use Rattle.store_migration.proofs.wider.wider_pages_are_those_of_the_store.Goals as goal

pub returns : goal.returns
returns c = pages_are
