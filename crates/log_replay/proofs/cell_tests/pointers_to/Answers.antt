use Rattle.std.proofs.Common.{sym, ◌∙◌}
use Rattle.log_replay.proofs.StepLaws.{own_pointers}
use Rattle.log_replay.proofs.cell_tests.pointers_to.Goals as goal

pub returns : goal.returns
returns g c = c.names.ensures ∙ sym (own_pointers c.args.cell.now c.args.id)
