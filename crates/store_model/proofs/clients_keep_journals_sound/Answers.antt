use Rattle.store_model.proofs.clients_keep_journals_sound.Goals as goal
use Rattle.store_model.proofs.FreshSound.{fresh-sound}
use Rattle.store_model.proofs.MomentSound.{moment-sound, store_marked-sound, read_running-sound, make_fitting-sound, commit_left-sound, abort_left-sound}
use Rattle.store_model.proofs.BeginSound.{begin-sound}
use Rattle.store_model.proofs.PaySound.{get-sound, set-sound}
use Rattle.store_model.proofs.ReleaseSound.{release-sound}
use Rattle.store_model.proofs.UndoSound.{undo-sound, undo_pay-sound}

pub returns : goal.returns
returns c = record {
  fresh = fresh-sound;
  moment = moment-sound;
  begins = begin-sound;
  reads = read_running-sound;
  gets = λ c s pass t a id running reg granted. get-sound c s pass t a id running reg granted;
  releases = λ c s pass t a id more refs. release-sound c s pass t a id more refs.own refs.only refs.named;
  sets = set-sound;
  stores = store_marked-sound;
  makes = make_fitting-sound;
  undoes = undo-sound;
  undoes_payload = undo_pay-sound;
  commits = commit_left-sound;
  aborts = abort_left-sound;
}
