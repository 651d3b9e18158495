-- Counts of pointers from a piece of the cells.
use Rattle.std.specs.Prelude.{◌≡◌, ℕ, ◌+◌, ◌*◌, ◌<◌, ◌≤◌, ◌==◌, Bool, true, false, cond, List, length, slice_index, count_by}
use Rattle.cell_model.specs.Cells.{Cell as StoredCell, pointers_to}
use Rattle.par_audit.specs.declared.pairs.PairCounts.{PairCounts}
use Rattle.par_audit.specs.declared.tables.Tables.{Tables}

-- the counts of the pointers with this bit
abbrev pub counts_of : Bool → Tables → List ℕ
counts_of true tables = tables.ones.items
counts_of false tables = tables.zeros.items

-- the table has a count for each id below their number: that of the pointers from these cells to the id that have this bit
pub record IsTableOf (cells : List StoredCell) (bit : Bool) (ids : ℕ) (table : List ℕ) : Type 0 where
  pub len : length table ≡ ids
  pub each : (id : ℕ) → id < ids → slice_index table id ≡ pointers_to cells id bit
  -- no cell has more than fourteen slots
  pub few : (id : ℕ) → id < ids → slice_index table id ≤ 14 * length cells

-- the tables of both bits have the counts of the pointers from these cells
abbrev pub AreTablesOf : List StoredCell → ℕ → Tables → Type 0
AreTablesOf cells ids tables = (bit : Bool) → IsTableOf cells bit ids (counts_of bit tables)

-- in a table of pairs, the place of the count of the pointers to the id that have this bit
abbrev pub place_of : ℕ → Bool → ℕ
place_of id bit = 2 * id + cond bit 1 0

-- the count at a place: that of its byte, and 256 for each time that the place was carried over
abbrev pub count_at : List ℕ → List ℕ → ℕ → ℕ
count_at bytes carries place = slice_index bytes place + 256 * count_by (λ p. p == place) carries

-- the count of the pointers to the id that have this bit
abbrev pub count_in : PairCounts → ℕ → Bool → ℕ
count_in counts id bit = count_at counts.bytes.items counts.carries.items (place_of id bit)

-- there are two counts for each id below their number: those of the pointers from these cells to the id, by their bit
pub record ArePairCounts (cells : List StoredCell) (ids : ℕ) (counts : PairCounts) : Type 0 where
  pub len : length counts.bytes.items ≡ 2 * ids
  pub each : (id : ℕ) (bit : Bool) → id < ids → count_in counts id bit ≡ pointers_to cells id bit
  -- no cell has more than fourteen slots
  pub few : (id : ℕ) (bit : Bool) → id < ids → count_in counts id bit ≤ 14 * length cells
