use Rattle.store_model.proofs.locks_are_strict.Goals as goal
use Rattle.store_model.proofs.ActiveLaws.{register-contained, own-only_writer}
use Rattle.store_model.proofs.SeenLaws.{shared-alone, owned-alone}
use Rattle.store_model.proofs.EndLaws.{transaction-active}
use Rattle.store_model.proofs.MomentSound.{commit-earlier, delete-earlier}

pub returns : goal.returns
returns c = record {
  register = register-contained;
  sharing = shared-alone;
  owning = owned-alone;
  writer = λ s i pass t a w k. own-only_writer s i pass t (transaction-active s i pass t a) w k;
  commit = commit-earlier;
  deletion = delete-earlier;
}
