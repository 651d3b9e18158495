use Rattle.store_model.proofs.sound_journals_answer.Goals as goal
use Rattle.store_model.proofs.DeletionLaws.{some_outcome-kept}
use Rattle.store_model.proofs.MomentSound.{slot-answer, payload-answer}

pub returns : goal.returns
returns c = record { slot = slot-answer; payload = payload-answer; needed = λ k s id n. s.kept id (some_outcome-kept k s id n) }
