use Rattle.store_migration.proofs.WideGraphs.{same_objects}
use Rattle.store_migration.proofs.wider.wider_stores_have_the_same_objects.Goals as goal

pub returns : goal.returns
returns c = same_objects
