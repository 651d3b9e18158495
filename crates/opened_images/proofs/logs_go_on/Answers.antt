use Rattle.opened_images.proofs.GoesOn.{goes_on}
use Rattle.opened_images.proofs.logs_go_on.Goals as goal

pub returns : goal.returns
returns c = goes_on
