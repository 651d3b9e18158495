use Rattle.store_migration.proofs.WideCells.{consistent-wider}
use Rattle.store_migration.proofs.wider.wider_stores_are_sound.Goals as goal

pub returns : goal.returns
returns c = consistent-wider
