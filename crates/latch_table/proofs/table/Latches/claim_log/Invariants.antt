use Rattle.std.specs.Prelude.{Some}
use Rattle.latch_table.proofs.table.Latches.claim_log.Given as goal

abbrev pub ghosts-claim_log_from : goal.ghosts-claim_log_from
ghosts-claim_log_from g a = record { chronicle = Some a.self.now.began }
