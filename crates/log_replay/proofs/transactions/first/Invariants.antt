use Rattle.std.proofs.Common.{◌≡◌, ℕ, ◌<◌, None}
use Rattle.log_replay.proofs.RowLaws.{row_at}
use Rattle.log_replay.proofs.transactions.first.Given as goal

abbrev pub invariant-loop-pass : goal.invariant-loop-pass
invariant-loop-pass l = (q : ℕ) → q < l.pass → row_at l.rows.items q ≡ None
