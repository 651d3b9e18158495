-- What a journal keeps beside its history: the free ids, the marks, the locks and the transactions.
use Rattle.std.specs.Prelude.{ℕ, ◌+◌, Bool, List, length, sum_by}
use Rattle.std.specs.Option.{option_map_or}
use Rattle.std.specs.Map.{set_value, values_of}
use Rattle.std.specs.Ordering.{nat_cmp}
use Rattle.std.specs.BTreeMap.{is_at}
use Rattle.strict_locks.specs.Locks.{Table}
use Rattle.core_store.specs.RoundView.{RoundView}
use Rattle.core_store.specs.Transactions.{Running, running_at}

pub record TablesView : Type 0 where
  -- the store has the ids from 1 to `ids`
  pub ids : ℕ
  -- the ids that aren't stored, ascending
  pub free : List ℕ
  -- for each id, at its index, whether no strong pointer leads to its cell
  pub zeros : List Bool
  pub locks : Table
  -- the active clients, ascending, each with its transaction
  pub transactions : List (ℕ × Running)
  -- how many history entries the active transactions owe
  pub owed : ℕ
  -- what each client names, in the order in which it came to be named
  pub references : ℕ → List ℕ
  -- the objects that the collector has to look at, in the order in which they joined
  pub queue : List ℕ
  pub round : RoundView

-- a transaction owes an entry for its end, and one for each write that can be undone and isn't
abbrev pub owed_by : List (ℕ × Running) → ℕ
owed_by transactions = sum_by (λ t. length t.replaced + 1) (values_of transactions)

-- the transactions where that of the client is changed so
abbrev pub changed_at : ℕ → (Running → Running) → List (ℕ × Running) → List (ℕ × Running)
changed_at pass change transactions = option_map_or (λ t. set_value (is_at (nat_cmp pass)) transactions (change t)) (running_at transactions pass) transactions
