use Rattle.store_migration.proofs.ImagedLogs.{opens_to_images}
use Rattle.store_migration.proofs.imaged_logs.logs_of_images_open.Goals as goal

pub returns : goal.returns
returns c = opens_to_images
