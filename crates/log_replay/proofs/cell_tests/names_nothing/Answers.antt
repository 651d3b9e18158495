use Rattle.std.proofs.Common.{sym, ◌∙◌}
use Rattle.log_replay.proofs.StepLaws.{no_pointer, no_target}
use Rattle.log_replay.proofs.cell_tests.names_nothing.Goals as goal

pub returns : goal.returns
returns g c = ((λ e. no_pointer c.args.cell.now (sym c.are_null.ensures ∙ e)), (λ h. c.are_null.ensures ∙ no_target c.args.cell.now h))
