-- What becomes of the transactions once a borrow of one of them ends.
use Rattle.std.specs.Prelude.{ℕ, Option}
use Rattle.std.specs.Borrow.{Fml, MutBor, LendsIf}
use Rattle.std.specs.Map.{set_value}
use Rattle.std.specs.Ordering.{nat_cmp}
use Rattle.std.specs.BTreeMap.{is_at}
use Rattle.core_store.specs.Transactions.{Running}
use Rattle.core_store.specs.TransactionRows.{ActiveClients}
use Rattle.core_store.specs.contracts.transaction.Transaction as of_one
use Rattle.core_store.specs.contracts.transactions.Transactions as of_all

-- the client's transaction ends as what was left there, and the others stay
abbrev pub LendsTransaction : MutBor ActiveClients → ℕ → Option (MutBor Running) → Fml
LendsTransaction s pass r = LendsIf of_all.the_row of_one.the_row s r (λ t. record { entries = set_value (is_at (nat_cmp pass)) s.now.entries t }) s.now
