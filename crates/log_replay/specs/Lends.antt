-- What becomes of the transactions once a borrow of one of them ends.
use Rattle.std.specs.Prelude.{ℕ, Option}
use Rattle.std.specs.Borrow.{Fml, MutBor, LendsIf}
use Rattle.std.specs.Map.{set_value}
use Rattle.std.specs.Ordering.{nat_cmp}
use Rattle.std.specs.BTreeMap.{is_at}
use Rattle.restart_laws.specs.Unended.{Unended}
use Rattle.log_replay.specs.Rows.{UnendedClients}
use Rattle.log_replay.specs.contracts.transaction.Transaction as of_one
use Rattle.log_replay.specs.contracts.transactions.Transactions as of_all

-- the client's transaction ends as what was left there, and the others stay
abbrev pub LendsTransaction : MutBor UnendedClients → ℕ → Option (MutBor Unended) → Fml
LendsTransaction s pass r = LendsIf of_all.the_row of_one.the_row s r (λ u. record { entries = set_value (is_at (nat_cmp pass)) s.now.entries u }) s.now
