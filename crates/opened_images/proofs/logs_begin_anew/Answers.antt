use Rattle.opened_images.proofs.Checkpoints.{begins_anew, go_on_from, behind_checkpoint}
use Rattle.opened_images.proofs.logs_begin_anew.Goals as goal

pub returns : goal.returns
returns c = record { anew = begins_anew; «from» = go_on_from; opens = behind_checkpoint }
