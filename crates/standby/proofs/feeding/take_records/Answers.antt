use Rattle.std.proofs.Common.{rules}
use Rattle.ship_stream.specs.declared.refusal.FeedRefusal.TheVariants.{Damaged}
use Rattle.standby.proofs.Results.{same_error}
use Rattle.standby.proofs.RecordLaws.{left_first, left_takes, left_unfit, left_ended}
use Rattle.standby.proofs.feeding.take_records.Goals as goal

pub records-preserved : goal.records-preserved
records-preserved g c rs are =
    left_takes rs c.args.replay.now c.args.records.now.at c.records.replay c.take_next.new.replay c.records.records c.take_next.new.records (c.records.invariant rs are) (c.in-Ok-true.ensures.took (search rules))

pub returns-in-Err-clause-damaged : goal.returns-in-Err-clause-damaged
returns-in-Err-clause-damaged g c rs are at is =
    left_unfit rs c.args.replay.now c.args.records.now.at at c.records.replay c.records.records (c.records.invariant rs are) (c.in-Err.ensures.damaged at (same_error c.in-Err.refusal (Damaged at) is))
