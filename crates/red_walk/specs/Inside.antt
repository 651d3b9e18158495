-- What a walk is kept in.
use Rattle.std.specs.Prelude.{◌≡◌, ℕ, ◌+◌, ◌≤◌, ◌<◌, ◌^◌, Bool, false, not, List, [], ◌∷◌, length, filter, get_or}
use Rattle.cell_page.specs.declared.cell.Seen.{Seen}
use Rattle.cell_page.specs.Format.{IsSlotCount}
use Rattle.store_model.specs.Core.{Copy}
use Rattle.red_walk.specs.Ids.{IsIdList}
use Rattle.red_walk.specs.Walk.{Walk}

-- what was copied of a cell, as a round sees it
abbrev pub copy_of_seen : {slots : ℕ} → Seen slots → Copy
copy_of_seen seen = record { targets = seen.slots; strong = seen.strong; weak = seen.weak }

-- each copy with the object at its place of the list
abbrev pub paired : {slots : ℕ} → List ℕ → List (Seen slots) → List (ℕ × Copy)
paired [] copies = []
paired (id ∷ ids) [] = []
paired (id ∷ ids) (copy ∷ copies) = (id, copy_of_seen copy) ∷ paired ids copies

-- the ids that have the mark
abbrev pub marked : List ℕ → List Bool → List ℕ
marked ids marks = filter (λ id. get_or marks id false) ids

-- the ids that don't have it
abbrev pub unmarked : List ℕ → List Bool → List ℕ
unmarked ids marks = filter (λ id. not (get_or marks id false)) ids

-- the walk that they are
abbrev pub walk_of : {slots : ℕ} (list : List ℕ) (limit place slot : ℕ) → List (Seen slots) → List Bool → List Bool → Walk
walk_of list limit place slot copies freed touched =
    record { list = list; left = unmarked list freed; place = place; slot = slot; copies = paired list copies; touched = marked list touched; limit = limit }

-- what a walk's parts keep
pub record AreInStep (slots : ℕ) (list : List ℕ) (limit gone place slot copies capacity : ℕ) (freed touched : List Bool) : Type 0 where
  pub ids : IsIdList list limit
  pub counted : gone + length (unmarked list freed) ≡ length list
  pub freed_all : length freed ≡ limit + 1
  pub touched_all : length touched ≡ limit + 1
  pub within : place ≤ length list
  pub slot_within : slot < slots
  pub few_slots : IsSlotCount slots
  pub copied : copies ≤ length list
  pub quiet : place < length list → copies ≡ 0
  pub room : limit ≤ capacity
  pub small : limit < 2 ^ 32
