use Rattle.store_model.proofs.calls_are_steps.Goals as goal
use Rattle.store_model.proofs.CallLaws.{call-granted, call-begun, call-refused, call-undone, call-begun_undone}

pub returns : goal.returns
returns c = record { granted = call-granted; begun = call-begun; refused = call-refused; undone = call-undone; begun_undone = call-begun_undone }
