-- The transactions as they are kept: each in a row of its own, at its client's number.
use Rattle.std.specs.Prelude.{◌≡◌, ℕ, ◌≤◌, suc, List, [], ◌∷◌, length, Option, Some, None}
use Rattle.core_store.specs.Transactions.{Running}

-- the active clients, ascending, each with its transaction
pub record ActiveClients : Type 0 where
  pub entries : List (ℕ × Running)

-- the entries of the rows, the first of which is that of this client
unfoldable pub entries_from : ℕ → List (Option Running) → List (ℕ × Running)
entries_from n [] = []
entries_from n (None ∷ rows) = entries_from (suc n) rows
entries_from n (Some t ∷ rows) = (n, t) ∷ entries_from (suc n) rows

-- each row that has a transaction, beside its client's number
abbrev pub entries_of : List (Option Running) → List (ℕ × Running)
entries_of rows = entries_from 0 rows

-- the count is that of the rows that have a transaction, and a client is told by a byte
pub record AreRowsInside (rows : List (Option Running)) (count : ℕ) : Type 0 where
  pub counted : count ≡ length (entries_of rows)
  pub few : length rows ≤ 256
