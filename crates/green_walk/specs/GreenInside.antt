-- What a green walk is kept in.
use Rattle.std.specs.Prelude.{◌≡◌, ◌≢◌, ℕ, ◌*◌, ◌<◌, ◌≤◌, Bool, true, List, length, drop, slice_index_or, Option}
use Rattle.red_walk.specs.Ids.{Ids}
use Rattle.green_walk.specs.declared.copied_slots.CopiedSlot.{CopiedSlot}
use Rattle.green_walk.specs.declared.green_at.Test.{Test}
use Rattle.green_walk.specs.declared.green.Stage.{Stage}
use Rattle.green_walk.specs.declared.green.Stage.TheVariants as stage
use Rattle.green_walk.specs.Greening.{GreenStage, AtSeed, AtInto, AtOut, Greening, IsGreening, waits, first_with, behind_first, may_lead_to}
use Rattle.green_walk.specs.Linked.{SlotList, IsNextNaming}

-- where the walk stands
abbrev pub stage_of : List CopiedSlot → Stage → GreenStage
stage_of copied stage.Seed = AtSeed
stage_of copied (stage.Into flipped rest named) = AtInto flipped (drop rest copied)
stage_of copied (stage.Out place slot) = AtOut place slot

-- the walk that these are
abbrev pub greening_of : ℕ → ℕ → List ℕ → ℕ → List ℕ → List ℕ → Stage → Option Test → ℕ → Bool → Bool → List CopiedSlot → Greening
greening_of slots limit seeds done live green at test walked changed current copied =
    record {
      seeds = drop done seeds;
      live = live;
      green = green;
      stage = stage_of copied at;
      test = test;
      walked = walked;
      changed = changed;
      current = current;
      copied = copied;
      slots = slots;
      limit = limit;
    }

-- while the copies are current, the way along the slots that name the flipped object is known
abbrev pub IsOnWay : Bool → List CopiedSlot → ℕ → Stage → Type 0
IsOnWay current copied limit (stage.Into flipped rest named) = (rest ≤ length copied) × (flipped ≢ 0) × (flipped ≤ limit) × (current ≡ true → IsNextNaming copied flipped rest named)
IsOnWay current copied limit _ = Unit {0}

-- there is room for the same ids everywhere, and what holds of every green walk holds
pub record AreInStep (slots limit : ℕ) (seeds : Ids) (done : ℕ) (live green : Ids) (at : Stage) (test : Option Test) (walked : ℕ) (changed current : Bool) (copied : SlotList) : Type 0 where
  pub seeds_limit : seeds.limit ≡ limit
  pub live_limit : live.limit ≡ limit
  pub green_limit : green.limit ≡ limit
  pub copied_limit : copied.limit ≡ limit
  pub few : limit < 65536
  pub seeds_few : length seeds.ids ≤ limit
  pub done_few : done ≤ length seeds.ids
  pub way : IsOnWay current copied.slots limit at
  pub sound : IsGreening (greening_of slots limit seeds.ids done live.ids green.ids at test walked changed current copied.slots)

-- the slots from one place on and those from another one on have the same first slot that may lead to the flipped object, and the
-- same slots after it; at the second place it is that one, or the end
pub record IsHead (g : Greening) (flipped rest place : ℕ) : Type 0 where
  pub within : place ≤ length g.copied
  pub behind : place < length g.copied → rest ≤ place
  pub skips : first_with (may_lead_to g flipped) (drop rest g.copied) ≡ first_with (may_lead_to g flipped) (drop place g.copied)
  pub rest_behind : behind_first (may_lead_to g flipped) (drop rest g.copied) ≡ behind_first (may_lead_to g flipped) (drop place g.copied)
  pub there : (d : CopiedSlot) → place < length g.copied → may_lead_to g flipped (slice_index_or g.copied place d) ≡ true

-- the place is the first one from there on whose object waits, or the end
pub record IsFirstWaiting (g : Greening) («from» place : ℕ) : Type 0 where
  pub within : place ≤ length g.copied
  pub behind : «from» ≤ place
  pub skips : (k : ℕ) (d : CopiedSlot) → «from» ≤ k → k < place → waits g (slice_index_or g.copied k d).id ≡ true → ⊥
  pub there : (d : CopiedSlot) → place < length g.copied → waits g (slice_index_or g.copied place d).id ≡ true

-- the place is the first one from there on that names the object and whose object waits, or the end
pub record IsFirstWaitingTo (g : Greening) (flipped «from» place : ℕ) : Type 0 where
  pub within : place ≤ length g.copied
  pub behind : place < length g.copied → «from» ≤ place
  pub skips : (k : ℕ) (d : CopiedSlot) → «from» ≤ k → k < place → (slice_index_or g.copied k d).target ≡ flipped → waits g (slice_index_or g.copied k d).id ≡ true → ⊥
  pub there : (d : CopiedSlot) → place < length g.copied → (waits g (slice_index_or g.copied place d).id ≡ true) × ((slice_index_or g.copied place d).target ≡ flipped)
