use Rattle.opened_images.proofs.WithImages.{makes_cells, goes_on_with_images}
use Rattle.opened_images.proofs.logs_go_on_with_images.Goals as goal

pub returns : goal.returns
returns c = record { cells = makes_cells; opens = goes_on_with_images }
