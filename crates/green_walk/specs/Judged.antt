-- The verdict of a round.
use Rattle.std.specs.Prelude.{◌≡◌, ℕ, ◌+◌, ◌<◌, Bool, true, false, List, [], ◌∷◌, ◌++◌, length, slice_index, slice_index_or, Contains}
use Rattle.store_model.specs.Core.{Copy}
use Rattle.store_model.specs.Verdict.{copied_names}
use Rattle.ref_tables.specs.Refs.{Table, entries_of, Names}
use Rattle.red_walk.specs.Ids.{Ids, IsIdList}
use Rattle.red_walk.specs.Walk.{Walk}

-- what was judged, each list in the order of the round's
pub record Judged : Type 0 where
  pub seeds : List ℕ
  pub live : List ℕ
  pub condemned : List ℕ
  -- the greatest id
  pub limit : ℕ

-- what holds of every verdict: no id stands twice in a list
pub record IsJudged (j : Judged) : Type 0 where
  pub seeds : IsIdList j.seeds j.limit
  pub live : IsIdList j.live j.limit
  pub condemned : IsIdList j.condemned j.limit

-- the second list has those of the first that have the property, in its order
pub data Picks (P : ℕ → Type 0) : List ℕ → List ℕ → Type 0 where
  none : Picks P [] []
  takes : (id : ℕ) (ids chosen : List ℕ) → P id → Picks P ids chosen → Picks P (id ∷ ids) (id ∷ chosen)
  passes : (id : ℕ) (ids chosen : List ℕ) → (P id → ⊥) → Picks P ids chosen → Picks P (id ∷ ids) chosen

-- how many pointers to its object a copy counts
abbrev pub pointers_of : ℕ × Copy → ℕ
pointers_of e = e.1.strong + e.1.weak

-- why an object of the round lives, by the walk, the row of the locked objects and the temporary reference table
pub data IsSeed (w : Walk) (locks : List Bool) (refs : Table) (id : ℕ) : Type 0 where
  was_touched : Contains w.touched id → IsSeed w locks refs id
  is_locked : (place : ℕ) → place < length w.list → slice_index w.list place ≡ id → slice_index_or locks place false ≡ true → IsSeed w locks refs id
  has_name : (pass : ℕ) → Names (entries_of refs pass) id → IsSeed w locks refs id
  -- its copied counts show a pointer that no copied slot shows
  has_other : (copy : Copy) → Contains w.copies (id, copy) → copied_names w.copies id < copy.strong + copy.weak → IsSeed w locks refs id

-- the least set that has the seeds, and each object named in a copied slot of one of it
pub data IsLive (w : Walk) (Seed : ℕ → Type 0) : ℕ → Type 0 where
  seed : (id : ℕ) → Seed id → IsLive w Seed id
  from_live : (id to : ℕ) (copy : Copy) → IsLive w Seed id → Contains w.copies (id, copy) → Contains copy.targets to → IsLive w Seed to

-- ---- on the way to it

-- the new ids are the old ones and more, all of them named by the slots and of the list; each of the list that the slots name is
-- there
pub record Adds (list slots old new : List ℕ) : Type 0 where
  pub more : List ℕ
  pub grown : new ≡ old ++ more
  pub only : (id : ℕ) → Contains more id → Contains slots id × Contains list id
  pub all : (id : ℕ) → Contains slots id → Contains list id → Contains new id

-- there is room for as many ids everywhere
pub record HaveRoom (seeds live condemned reached : Ids) (others : List ℕ) : Type 0 where
  pub live_room : live.limit ≡ seeds.limit
  pub condemned_room : condemned.limit ≡ seeds.limit
  pub reached_room : reached.limit ≡ seeds.limit
  pub others_room : length others ≡ seeds.limit
