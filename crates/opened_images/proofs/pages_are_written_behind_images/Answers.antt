use Rattle.opened_images.proofs.Checkpoints.{any_bytes, copied, spelled_stands}
use Rattle.opened_images.proofs.pages_are_written_behind_images.Goals as goal

pub returns : goal.returns
returns c = record { any_bytes = any_bytes; copy = copied; stands = spelled_stands }
