-- The transactions as they are kept: each in a row of its own, at its client's number.
use Rattle.std.specs.Prelude.{ℕ, ◌≤◌, suc, List, [], ◌∷◌, length, Option, Some, None}
use Rattle.restart_laws.specs.Unended.{Unended}

-- the clients whose transactions haven't ended, ascending, each with its transaction
pub record UnendedClients : Type 0 where
  pub entries : List (ℕ × Unended)

-- the entries of the rows, the first of which is that of this client
unfoldable pub entries_from : ℕ → List (Option Unended) → List (ℕ × Unended)
entries_from n [] = []
entries_from n (None ∷ rows) = entries_from (suc n) rows
entries_from n (Some u ∷ rows) = (n, u) ∷ entries_from (suc n) rows

-- each row that has a transaction, beside its client's number
abbrev pub entries_of : List (Option Unended) → List (ℕ × Unended)
entries_of rows = entries_from 0 rows

-- a client is told by a byte
pub record AreRowsInside (rows : List (Option Unended)) : Type 0 where
  pub few : length rows ≤ 256
