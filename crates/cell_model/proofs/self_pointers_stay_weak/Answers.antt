use Rattle.cell_model.proofs.self_pointers_stay_weak.Goals as goal
use Rattle.cell_model.proofs.SelfPointers.{self-pointer}

pub returns : goal.returns
returns c = self-pointer
