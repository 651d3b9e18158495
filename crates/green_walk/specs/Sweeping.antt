-- The sweep of the condemned objects.
use Rattle.std.specs.Prelude.{◌≡◌, ℕ, ◌+◌, ◌<◌, ◌≤◌, ◌^◌, List, [], ◌∷◌, length, drop}
use Rattle.red_walk.specs.Ids.{IsIdList}
use Rattle.green_walk.specs.declared.sweep.SweepAt.{SweepAt}
use Rattle.green_walk.specs.declared.sweep.SweepAt.TheVariants.{Slots, Free, End}
use Rattle.green_walk.specs.declared.sweep.Found.{Found}
use Rattle.green_walk.specs.declared.sweep.Found.TheVariants.{Nothing, Made, Strong}

-- a sweep, as far as it has come
pub record SweepState : Type 0 where
  -- the condemned objects
  pub list : List ℕ
  -- how many of them, from the first on, have no reference left
  pub emptied : ℕ
  -- how many of them, from the first on, were freed
  pub freed : ℕ
  -- the greatest id
  pub limit : ℕ

-- those that may still hold a reference
abbrev pub unemptied : SweepState → List ℕ
unemptied s = drop s.emptied s.list

-- those that weren't freed
abbrev pub unfreed : SweepState → List ℕ
unfreed s = drop s.freed s.list

-- the first object that may hold a reference; where there is none, the first one that wasn't freed; then the end
abbrev pub first_of : List ℕ → List ℕ → SweepAt
first_of (id ∷ unemptied) unfreed = Slots id
first_of [] (id ∷ unfreed) = Free id
first_of [] [] = End

-- what the sweep asks for next
abbrev pub next : SweepState → SweepAt
next s = first_of (unemptied s) (unfreed s)

-- what may be answered: that a reference of the object was removed or none was left, or that the object was freed
abbrev pub IsAnswer : SweepAt → Found → Type 0
IsAnswer (Slots id) Nothing = Unit {0}
IsAnswer (Slots id) (Made made) = made ≡ id
IsAnswer (Slots id) Strong = ⊥
IsAnswer (Free id) Nothing = ⊥
IsAnswer (Free id) (Made made) = made ≡ id
IsAnswer (Free id) Strong = ⊥
IsAnswer End what = ⊥

-- the sweep begins
abbrev pub started : List ℕ → ℕ → SweepState
started list limit = record { list = list; emptied = 0; freed = 0; limit = limit }

-- after the answer to what was asked for
abbrev pub found_at : SweepState → SweepAt → Found → SweepState
found_at s (Slots id) Nothing = record s { emptied = s.emptied + 1 }
found_at s (Slots id) _ = s
found_at s (Free id) what = record s { freed = s.freed + 1 }
found_at s End what = s

abbrev pub found : SweepState → Found → SweepState
found s what = found_at s (next s) what

-- what holds of every sweep
pub record IsSweep (s : SweepState) : Type 0 where
  pub ids : IsIdList s.list s.limit
  -- nothing is freed before all are emptied
  pub late : s.emptied < length s.list → s.freed ≡ 0

-- ---- what it keeps

abbrev pub sweeping_of : List ℕ → ℕ → ℕ → ℕ → SweepState
sweeping_of list emptied freed limit = record { list = list; emptied = emptied; freed = freed; limit = limit }

pub record AreInStep (list : List ℕ) (emptied freed limit capacity : ℕ) : Type 0 where
  pub ids : IsIdList list limit
  pub emptied_few : emptied ≤ length list
  pub freed_few : freed ≤ length list
  pub late : emptied < length list → freed ≡ 0
  pub room : limit ≤ capacity
  pub small : limit < 2 ^ 32
