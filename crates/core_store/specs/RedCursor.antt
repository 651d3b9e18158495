-- How far the walk of the tables has come in the red walk of the notes.
use Rattle.std.specs.Prelude.{◌≡◌, ℕ, ◌<◌, true, false, List, length, slice_index, Contains, ◌⊎◌}
use Rattle.cell_model.specs.Cells.{Cell, pointer_at}
use Rattle.red_walk.specs.Walk.{Walk}
use Rattle.core_store.specs.Changes.{is_counted_strong}
use Rattle.core_store.specs.JournalView.{JournalView}
use Rattle.core_store.specs.RedWalks.{RedWalk, no_walk, walk_of}
use Rattle.core_store.specs.RoundView.{RoundView, Closed, Walking, Sweeping}

-- the slot of the object at this place was looked at
abbrev pub IsBehind : Walk → ℕ → ℕ → Type 0
IsBehind w place slot = (place < w.place) ⊎ ((place ≡ w.place) × (slot < w.slot))

-- both have the same objects, and a slot that was looked at and holds a strong pointer was written since its object joined
abbrev pub IsAtCursor : List Cell → RedWalk → Walk → Type 0
IsAtCursor cells r w =
    (r.list ≡ w.list)
    × ((place slot : ℕ) → place < length w.list → IsBehind w place slot → is_counted_strong cells (pointer_at cells (slice_index w.list place) slot) ≡ true → Contains r.written (slice_index w.list place, slot))

-- a walk that goes on is that of the tables
abbrev pub IsRedWalk : List Cell → RedWalk → RoundView → Type 0
IsRedWalk cells r Closed = r.going ≡ false
IsRedWalk cells r (Walking w) = r.going ≡ true → IsAtCursor cells r w
IsRedWalk cells r (Sweeping w s slot g) = r.going ≡ false

-- the red walk of a journal's notes
abbrev pub red_of : JournalView → RedWalk
red_of j = walk_of j.history.slots j.opening no_walk j.notes
