use Rattle.std.proofs.Common.{rules}
use Rattle.ship_stream.specs.declared.refusal.FeedRefusal.TheVariants.{Damaged}
use Rattle.standby.proofs.Results.{same_error}
use Rattle.standby.proofs.RecordLaws.{left_first, left_takes, left_unfit, left_ended}
use Rattle.log_checker.proofs.RecordLaws.{told_first, told_takes, told_ended}
use Rattle.log_checker.proofs.feeding.take_records.Goals as goal

pub records-preserved : goal.records-preserved
records-preserved g c =
    let b = c.in-Ok-true.ensures.took (search rules) in
    record {
      left = λ rs are.
          left_takes rs c.args.replay.now c.args.records.now.at c.records.replay c.take_next.new.replay c.records.records c.take_next.new.records (c.records.invariant.left rs are) b.taken;
      told = λ rs are.
          told_takes rs c.records.replay c.take_next.new.replay c.args.tally.now c.records.tally c.take_next.new.tally c.records.records c.take_next.new.records (c.records.invariant.told rs are) b;
      beside = b.beside;
    }

pub returns-in-Err-clause-damaged : goal.returns-in-Err-clause-damaged
returns-in-Err-clause-damaged g c rs are at is =
    left_unfit rs c.args.replay.now c.args.records.now.at at c.records.replay c.records.records (c.records.invariant.left rs are) (c.in-Err.ensures.damaged at (same_error c.in-Err.refusal (Damaged at) is))
