use Rattle.std.proofs.Common.{refl}
use Rattle.opened_images.specs.Opened.{OpensTo}
use Rattle.opened_images.proofs.Undone.{opens_consistent}
use Rattle.opened_images.proofs.opened_cells_are_consistent.Goals as goal

pub returns : goal.returns
returns c = λ slots image cells opened. opens_consistent slots image (OpensTo cells) cells opened refl
