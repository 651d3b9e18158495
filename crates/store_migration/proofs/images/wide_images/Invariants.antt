use Rattle.std.proofs.Common.{◌≡◌, ◌*◌, length}
use Rattle.store_migration.specs.Wider.{all_wider}
use Rattle.store_migration.specs.ImagedLogs.{AreImagesOf}
use Rattle.store_migration.proofs.images.wide_images.Given as goal

abbrev pub invariant-loop-number : goal.invariant-loop-number
invariant-loop-number l = AreImagesOf 14 l.number (all_wider 8 l.replay.cells) l.bytes.items × (length l.bytes.items ≡ 1027 * l.number)
