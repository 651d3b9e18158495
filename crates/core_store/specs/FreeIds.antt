-- The ids that are free: those of a store that aren't stored.
use Rattle.std.specs.Prelude.{◌≡◌, ℕ, zero, suc, ◌+◌, ◌≤◌, ◌==◌, ◌&&◌, ◌||◌, not, true, nat_lt, nat_le, if◌then◌else◌, Bool, false, ◌<◌, filter, length, get_or, List, [], ◌∷◌, ◌++◌}
use Rattle.std.specs.List.{list_any, range_with_len}
use Rattle.std.specs.Ordering.{nat_cmp}
use Rattle.std.specs.BTreeMap.{is_at}
use Rattle.cell_model.specs.Cells.{Cell, is_live}

-- the free ids, ascending, of a store with the ids from 1 to `limit`
pub record FreeView : Type 0 where
  pub ids : List ℕ
  pub limit : ℕ

-- the list has the ids from 1 to `ids` whose cells aren't live, and no others
abbrev pub AreFreeIn : List Cell → ℕ → List ℕ → Type 0
AreFreeIn cells ids free = (id : ℕ) → list_any (is_at (nat_cmp id)) free ≡ (nat_lt 0 id && nat_le id ids && not (is_live cells id))

-- the least id of the free ones
pub record IsLeastOf (free : List ℕ) (id : ℕ) : Type 0 where
  pub among : list_any (is_at (nat_cmp id)) free ≡ true
  pub least : (k : ℕ) → list_any (is_at (nat_cmp k)) free ≡ true → id ≤ k

-- the id is among the new ones, and of all others those that were
abbrev pub Frees : List ℕ → List ℕ → ℕ → Type 0
Frees old new id = (k : ℕ) → list_any (is_at (nat_cmp k)) new ≡ ((k == id) || list_any (is_at (nat_cmp k)) old)

-- the id isn't among the new ones, and of all others those are that were
abbrev pub Takes : List ℕ → List ℕ → ℕ → Type 0
Takes old new id = (k : ℕ) → list_any (is_at (nat_cmp k)) new ≡ (not (k == id) && list_any (is_at (nat_cmp k)) old)

-- the ids from 1 to n that aren't free, ascending
abbrev pub taken : List ℕ → ℕ → List ℕ
taken free zero = []
taken free (suc n) = taken free n ++ (if list_any (is_at (nat_cmp (suc n))) free then [] else suc n ∷ [])

-- ---- how they are kept

-- the ids from 1 on that a row marks as free, at their indices, ascending
unfoldable pub free_in : List Bool → ℕ → List ℕ
free_in row limit = filter (λ id. get_or row id false) (range_with_len 1 limit)

-- the first id from this one on that the row marks, or the one after the last where it marks none up to that
pub record IsNextFree (row : List Bool) (from last id : ℕ) : Type 0 where
  pub above : from ≤ id
  pub within : id ≤ last + 1
  pub stored : (k : ℕ) → from ≤ k → k < id → get_or row k false ≡ false
  pub found : id ≤ last → get_or row id false ≡ true

-- the row has a place for each id; `first` is the first one that it marks, or the one after the limit where it marks none;
-- and after `last` it marks none
pub record IsFreeInside (row : List Bool) (first last limit : ℕ) : Type 0 where
  pub length : length row ≡ limit + 1
  pub few : limit ≤ 8192
  pub above : 1 ≤ first
  pub within : first ≤ limit + 1
  pub stored : (k : ℕ) → 1 ≤ k → k < first → get_or row k false ≡ false
  pub found : first ≤ limit → get_or row first false ≡ true
  pub reach : last ≤ limit
  pub beyond : (k : ℕ) → last < k → get_or row k false ≡ false
