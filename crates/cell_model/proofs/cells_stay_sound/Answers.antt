use Rattle.cell_model.proofs.cells_stay_sound.Goals as goal
use Rattle.cell_model.proofs.KeptLaws.{exact-kept, acyclic-kept}
use Rattle.cell_model.proofs.ConsistentLaws.{consistent-kept, consistent-after, one_more}

pub returns : goal.returns
returns c = record {
  exact = exact-kept;
  acyclic = acyclic-kept;
  consistent = consistent-kept;
  all_records = consistent-after;
  one_more = one_more;
}
