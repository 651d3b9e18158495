use Rattle.opened_images.proofs.OneOutcome.{one_outcome}
use Rattle.opened_images.proofs.SomeOutcome.{none_without}
use Rattle.opened_images.proofs.images_open_to_one_outcome.Goals as goal

pub returns : goal.returns
returns c = record { one = λ slots image a b known. one_outcome known image a b; some = λ slots image none. none_without slots image none }
