-- The images of an area that a crash may leave, by what its last sync made last and what was done since.
use Rattle.std.specs.Prelude.{◌≡◌, ◌⊎◌, ⊤, ℕ, ◌+◌, ◌<◌, ◌≤◌, min, max, List, [], ◌∷◌, length, slice_index}
use Rattle.disk_model.specs.Pending.{Change, Wrote, CutTo}

-- the length of an area after a write or a cut that was done
abbrev pub length_after : ℕ → Change → ℕ
length_after len (Wrote at bytes) = max len (at + length bytes)
length_after len (CutTo shorter) = min len shorter

-- the least length that an area had, from this one on
abbrev pub least_length : ℕ → List Change → ℕ
least_length len [] = len
least_length len (change ∷ later) = min len (least_length (length_after len change) later)

-- the greatest length that an area had, from this one on
abbrev pub greatest_length : ℕ → List Change → ℕ
greatest_length len [] = len
greatest_length len (change ∷ later) = max len (greatest_length (length_after len change) later)

-- this offset is in no range that was written
abbrev pub IsUnwritten : ℕ → List Change → Type 0
IsUnwritten i [] = ⊤
IsUnwritten i (Wrote at bytes ∷ later) = ((i < at) ⊎ (at + length bytes ≤ i)) × IsUnwritten i later
IsUnwritten i (CutTo len ∷ later) = IsUnwritten i later

-- An area of a disk. A write and a cut that failed count too: they may be done, or not, or in part.
pub record PlainArea : Type 0 where
  -- what the last sync made last
  pub synced : List ℕ
  -- the writes and cuts since, the oldest first
  pub since : List Change
  -- what a read gives
  pub reads : List ℕ

-- A crash may leave this image of the area. Its length lies between the least and the greatest that the
-- area had since the sync. Inside of what was synced, an offset that no write since had in its range
-- holds the synced byte. All else holds anything.
pub record IsCrashImage (area : PlainArea) (image : List ℕ) : Type 0 where
  pub no_shorter : least_length (length area.synced) area.since ≤ length image
  pub no_longer : length image ≤ greatest_length (length area.synced) area.since
  pub kept : (i : ℕ) → i < length area.synced → i < length image → IsUnwritten i area.since → slice_index image i ≡ slice_index area.synced i
