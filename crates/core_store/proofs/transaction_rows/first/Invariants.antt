use Rattle.std.proofs.Common.{◌≡◌, ℕ, ◌<◌, None}
use Rattle.core_store.proofs.TransactionRowLaws.{row_at}
use Rattle.core_store.proofs.transaction_rows.first.Given as goal

abbrev pub invariant-loop-pass : goal.invariant-loop-pass
invariant-loop-pass l = (q : ℕ) → q < l.pass → row_at l.rows.items q ≡ None
