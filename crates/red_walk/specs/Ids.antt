-- Lists of ids, each at most once.
use Rattle.std.specs.Prelude.{◌≡◌, ℕ, ◌+◌, ◌^◌, ◌≤◌, ◌<◌, List, length, slice_index}
use Rattle.store_model.specs.Sound.{IsOnce}

-- the ids in the order in which they joined, and the greatest id that may join
pub record Ids : Type 0 where
  pub ids : List ℕ
  pub limit : ℕ

-- each of the ids is from 1 to the limit, none stands there twice, and so there are no more of them than the limit
pub record IsIdList (ids : List ℕ) (limit : ℕ) : Type 0 where
  pub within : (place : ℕ) → place < length ids → (1 ≤ slice_index ids place) × (slice_index ids place ≤ limit)
  pub once : IsOnce ids
  pub most : length ids ≤ limit

-- the places are those of the ids, and there is room for all ids
pub record IsIdListInside (ids : List ℕ) (capacity : ℕ) (places : List ℕ) (limit : ℕ) : Type 0 where
  pub within : (place : ℕ) → place < length ids → (1 ≤ slice_index ids place) × (slice_index ids place ≤ limit)
  pub placed : (place : ℕ) → place < length ids → slice_index places (slice_index ids place) ≡ place
  pub all : length places ≡ limit + 1
  pub room : limit ≤ capacity
  pub small : limit < 2 ^ 32
