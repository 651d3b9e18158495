use Rattle.opened_images.proofs.Marks.{unchanged, current}
use Rattle.opened_images.proofs.marks_tell_of_pages.Goals as goal

pub returns : goal.returns
returns c = record { unchanged = unchanged; current = current }
