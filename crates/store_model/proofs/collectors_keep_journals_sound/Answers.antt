use Rattle.store_model.proofs.collectors_keep_journals_sound.Goals as goal
use Rattle.store_model.proofs.CollectSound.{skip-sound, requeue-sound, start-sound, condemn-sound, copy-sound, touch-sound, judge-sound, end-sound}
use Rattle.store_model.proofs.WalkSound.{weaken-sound, weaken_joins-sound, strengthen-sound, flip-sound, cut-sound, cut_joins-sound}
use Rattle.store_model.proofs.FreeSound.{free-sound, free_last-sound}

pub returns : goal.returns
returns c = record {
  skips = skip-sound;
  requeues = requeue-sound;
  starts = start-sound;
  condemns = condemn-sound;
  weakens = weaken-sound;
  weakens_and_joins = weaken_joins-sound;
  copies = copy-sound;
  touches = touch-sound;
  judges = judge-sound;
  cuts = cut-sound;
  cuts_and_joins = cut_joins-sound;
  frees = free-sound;
  frees_the_last = free_last-sound;
  strengthens = strengthen-sound;
  flips = flip-sound;
  ends = end-sound;
}
