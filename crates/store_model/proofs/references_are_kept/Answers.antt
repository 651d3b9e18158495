use Rattle.store_model.proofs.references_are_kept.Goals as goal
use Rattle.store_model.proofs.ReferenceLaws.{store_references-fit, release_references-fit, references_left-fit, queue-left}

pub returns : goal.returns
returns c = record {
  stores = store_references-fit;
  releases = release_references-fit;
  ends = references_left-fit;
  queue = queue-left;
}
