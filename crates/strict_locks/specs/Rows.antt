-- The locks in rows: ids and locks side by side, and for each id its place.
use Rattle.std.specs.Prelude.{◌≡◌, ℕ, ◌<◌, ◌≤◌, ◌^◌, List, length, slice_index, Some, nat_eq, if◌then◌else◌}
use Rattle.std.specs.Map.{lookup}
use Rattle.strict_locks.specs.Locks.{Table, Holders}

-- each id that stands in the row has its place there
pub record ArePlaced (ids places : List ℕ) : Type 0 where
  pub within : (place : ℕ) → place < length ids → slice_index ids place < length places
  pub placed : (place : ℕ) → place < length ids → slice_index places (slice_index ids place) ≡ place

-- there are as many locks as ids, each id has its place, and there are at most 2^32 places
pub record AreRows (ids : List ℕ) (locks : List Holders) (places : List ℕ) : Type 0 where
  pub even : length locks ≡ length ids
  pub placed : ArePlaced ids places
  pub few : length places ≤ 2 ^ 32

-- each id has its place, and there are at most 2^32 places
pub record AreNoted (ids places : List ℕ) : Type 0 where
  pub placed : ArePlaced ids places
  pub few : length places ≤ 2 ^ 32

-- the places stay, there may be more of them after these, and there are at most 2^32
pub record Grows (old new : List ℕ) : Type 0 where
  pub kept : (id : ℕ) → id < length old → slice_index new id ≡ slice_index old id
  pub more : length old ≤ length new
  pub few : length new ≤ 2 ^ 32

-- the object is held so, and every other one as before
abbrev pub Puts : Table → Table → ℕ → Holders → Type 0
Puts old new id h = (x : ℕ) → lookup (nat_eq x) new ≡ (if nat_eq id x then Some h else lookup (nat_eq x) old)
