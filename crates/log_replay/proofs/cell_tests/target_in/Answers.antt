use Rattle.log_replay.proofs.StepLaws.{slot_below, slot_target}
use Rattle.log_replay.proofs.cell_tests.target_in.Goals as goal

pub returns-clause-value : goal.returns-clause-value
returns-clause-value g c = slot_target c.args.cell.now c.args.slot

pub returns-clause-within : goal.returns-clause-within
returns-clause-within g c = slot_below c.args.cell.now c.args.slot c.requires.slotted c.requires.within
