use Rattle.std.proofs.Common.{List, length}
use Rattle.log_record.specs.declared.record.Record.{Record}
use Rattle.ship_stream.specs.Runs.{AreRecords}
use Rattle.standby.proofs.RecordLaws.{IsLeft}
use Rattle.log_checker.specs.Taking.{IsBeside}
use Rattle.log_checker.proofs.RecordLaws.{IsTold}
use Rattle.log_checker.proofs.feeding.take_records.Given as goal

abbrev pub decreases-records : goal.decreases-records
decreases-records g l = length l.records.bytes

abbrev pub invariant-records : goal.invariant-records
invariant-records g l = record {
  left : (rs : List (Record g.row.SLOTS)) → AreRecords rs l.initial.records → IsLeft rs l.initial.replay l.initial.records.at l.replay l.records;
  told : (rs : List (Record g.row.SLOTS)) → AreRecords rs l.initial.records → IsTold rs l.initial.tally l.tally l.records;
  beside : IsBeside l.replay l.tally l.records;
}
