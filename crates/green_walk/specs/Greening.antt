-- The green walk: it gives the objects that live their strong pointers again.
use Rattle.std.specs.Prelude.{◌≡◌, ℕ, ◌+◌, ◌-◌, ◌*◌, ◌<◌, ◌≤◌, ◌==◌, ◌&&◌, ◌||◌, nat_lt, if◌then◌else◌, Bool, true, false, not, List, [], ◌∷◌, ◌++◌, length, drop, slice_index_or, Option, Some, None, IfSome, Contains}
use Rattle.cell_page.specs.Format.{IsSlotCount}
use Rattle.store_model.specs.Core.{Copy}
use Rattle.red_walk.specs.Ids.{IsIdList}
use Rattle.ref_tables.specs.Queue.{has}
use Rattle.red_walk.specs.Walk.{Walk}
use Rattle.green_walk.specs.declared.copied_slots.CopiedSlot.{CopiedSlot}
use Rattle.green_walk.specs.declared.green_at.GreenAt.{GreenAt}
use Rattle.green_walk.specs.declared.green_at.GreenAt.TheVariants.{Seed, Into, Out, End}
use Rattle.green_walk.specs.declared.green_at.Test.{Test}
use Rattle.green_walk.specs.declared.sweep.Found.{Found}
use Rattle.green_walk.specs.declared.sweep.Found.TheVariants.{Nothing, Made, Strong}
use Rattle.green_walk.specs.Judged.{Judged}

-- where the walk stands
pub data GreenStage : Type 0 where
  -- at the first seed of those that are to come
  AtSeed : GreenStage
  -- at the pointers to the object that was flipped, with these slots still to be looked at
  AtInto : (flipped : ℕ) (rest : List CopiedSlot) → GreenStage
  -- at this slot of the green object at this place of their list
  AtOut : (place slot : ℕ) → GreenStage

-- a green walk, as far as it has come
pub record Greening : Type 0 where
  -- the seeds that are to come, and the one in hand first
  pub seeds : List ℕ
  -- the objects of the round that live
  pub live : List ℕ
  -- those of them that are green, in the order in which they became so
  pub green : List ℕ
  pub stage : GreenStage
  -- the object whose slots are looked at for a strong pointer, and the slot, if there is one
  pub test : Option Test
  -- how many green objects, from the first on, were walked; an event of a client since the last walk began makes this void
  pub walked : ℕ
  pub changed : Bool
  -- the copies still tell what the slots of the live objects hold
  pub current : Bool
  -- the slots of the round's objects, in order, with what they held when they were copied
  pub copied : List CopiedSlot
  -- how many slots an object has, and the greatest id
  pub slots : ℕ
  pub limit : ℕ

-- ---- the slots of the round's objects

-- the slots of one object, from this one on
abbrev pub numbered : ℕ → ℕ → List ℕ → List CopiedSlot
numbered id slot [] = []
numbered id slot (target ∷ targets) = record { id = id; slot = slot; target = target } ∷ numbered id (slot + 1) targets

-- the slots of all copied objects, one object after another
abbrev pub copied_slots : List (ℕ × Copy) → List CopiedSlot
copied_slots [] = []
copied_slots (e ∷ es) = numbered e.0 0 e.1.targets ++ copied_slots es

-- no id is in the list
abbrev pub are_none : List ℕ → Bool
are_none [] = true
are_none (id ∷ ids) = false

-- there is nothing to walk
abbrev pub idle : ℕ → ℕ → Greening
idle slots limit =
    record {
      seeds = [];
      live = [];
      green = [];
      stage = AtSeed;
      test = None;
      walked = 0;
      changed = false;
      current = false;
      copied = [];
      slots = slots;
      limit = limit;
    }

-- the walk begins after the verdict
abbrev pub started : ℕ → Judged → Walk → Greening
started slots j w =
    record {
      seeds = j.seeds;
      live = j.live;
      green = [];
      stage = AtSeed;
      test = None;
      walked = 0;
      changed = false;
      current = are_none w.touched;
      copied = copied_slots w.copies;
      slots = slots;
      limit = w.limit;
    }

-- ---- what comes next

-- the object lives and isn't green
abbrev pub waits : Greening → ℕ → Bool
waits g id = has g.live id && not (has g.green id)

-- the slot may hold a strong pointer to the flipped object that is to become weak: its object waits, and it held such a pointer
-- when it was copied, unless the copies are out of date
abbrev pub may_lead_to : Greening → ℕ → CopiedSlot → Bool
may_lead_to g flipped s = waits g s.id && (not g.current || (s.target == flipped))

-- the first slot with the property, and the slots after it
abbrev pub first_with : (CopiedSlot → Bool) → List CopiedSlot → Option CopiedSlot
first_with P [] = None
first_with P (s ∷ rest) = if P s then Some s else first_with P rest

abbrev pub behind_first : (CopiedSlot → Bool) → List CopiedSlot → List CopiedSlot
behind_first P [] = []
behind_first P (s ∷ rest) = if P s then rest else behind_first P rest

-- the green objects are walked: those that weren't before, or all where an event of a client came since
abbrev pub walking : Greening → Greening
walking g = record g { stage = AtOut (if g.changed then 0 else g.walked) 0; test = None; changed = false }

-- all green objects were walked: the seed in hand is done
abbrev pub seed_done : Greening → Greening
seed_done g = record g { stage = AtSeed; seeds = drop 1 g.seeds; walked = length g.green }

-- where no slot is left that may lead to the flipped object, the green objects are walked
abbrev pub settled_into : Greening → Greening
settled_into g = by g.stage
  where
    go_on : Option CopiedSlot → Greening
    go_on None = walking g
    go_on (Some s) = g

    by : GreenStage → Greening
    by (AtInto flipped rest) = go_on (first_with (may_lead_to g flipped) rest)
    by other = g

-- where no green object is left to walk, the next seed comes
abbrev pub settled_out : Greening → Greening
settled_out g = by g.stage
  where
    by : GreenStage → Greening
    by (AtOut place slot) = if nat_lt place (length g.green) then g else seed_done g
    by other = g

-- the walk where something is to be looked at
abbrev pub settled : Greening → Greening
settled g = settled_out (settled_into g)

-- the first seed, or the end
abbrev pub first_seed : List ℕ → GreenAt
first_seed [] = End
first_seed (id ∷ ids) = Seed id

-- the look at a slot that may lead to the flipped object
abbrev pub look_into : ℕ → Option CopiedSlot → GreenAt
look_into flipped None = End
look_into flipped (Some s) = Into s.id s.slot flipped

-- what a settled walk asks for
abbrev pub asked_at : Greening → GreenStage → GreenAt
asked_at g AtSeed = first_seed g.seeds
asked_at g (AtInto flipped rest) = look_into flipped (first_with (may_lead_to g flipped) rest)
asked_at g (AtOut place slot) = Out (slice_index_or g.green place 0) slot

-- what the walk asks for next
abbrev pub next : Greening → GreenAt
next g = asked_at (settled g) (settled g).stage

-- ---- how it goes on

-- the object becomes green
abbrev pub greened : Greening → ℕ → Greening
greened g id = record g { green = g.green ++ id ∷ [] }

-- the walk of green objects is at this slot of the object at this place, or where the object has no such slot at the first slot
-- of the next object
abbrev pub moved_to : Greening → ℕ → ℕ → Greening
moved_to g place slot = record g { stage = if slot == g.slots then AtOut (place + 1) 0 else AtOut place slot; test = None }

-- it is after this slot
abbrev pub moved : Greening → ℕ → ℕ → Greening
moved g place slot = moved_to g place (slot + 1)

-- after the answer at a seed: it has a strong pointer to it, or one out of it, or it was flipped
abbrev pub found_at_seed : Greening → GreenAt → Found → Greening
found_at_seed g (Seed id) Nothing = walking g
found_at_seed g (Seed id) Strong = walking (greened g id)
found_at_seed g (Seed id) (Made made) = record (greened g id) { stage = AtInto id g.copied; test = None }
found_at_seed g _ what = g

-- after the answer at a slot of a green object: nothing was to be done, or the pointer was made strong and its target became
-- green
abbrev pub found_at_out : Greening → ℕ → ℕ → Found → Greening
found_at_out g place slot (Made to) = moved (greened g to) place slot
found_at_out g place slot _ = moved g place slot

abbrev pub found_in : Greening → GreenStage → Found → Greening
found_in g AtSeed what = found_at_seed g (first_seed g.seeds) what
found_in g (AtInto flipped rest) what = record g { stage = AtInto flipped (behind_first (may_lead_to g flipped) rest) }
found_in g (AtOut place slot) what = found_at_out g place slot what

-- after the answer to what was asked for
abbrev pub found : Greening → Found → Greening
found g what = found_in (settled g) (settled g).stage what

-- the walk goes on to this slot of the green object that it is at, if it is at one
abbrev pub walked_at : Greening → GreenStage → ℕ → Greening
walked_at g (AtOut place at) slot = moved_to g place slot
walked_at g _ slot = g

abbrev pub walked_to : Greening → ℕ → Greening
walked_to g slot = walked_at (settled g) (settled g).stage slot

-- what may be answered
abbrev pub IsAnswer : Greening → GreenAt → Found → Type 0
-- that the seed is passed over, that a strong pointer leads to it, or that it was flipped
IsAnswer g (Seed id) Nothing = Unit {0}
IsAnswer g (Seed id) Strong = waits g id ≡ true
IsAnswer g (Seed id) (Made made) = (made ≡ id) × (waits g id ≡ true)
-- that the slot holds no strong pointer to the flipped object, or that it was made weak
IsAnswer g (Into «from» slot to) Nothing = Unit {0}
IsAnswer g (Into «from» slot to) (Made made) = made ≡ «from»
IsAnswer g (Into «from» slot to) Strong = ⊥
-- that nothing is to be done at the slot, or that its pointer was made strong, and to which object it leads
IsAnswer g (Out «from» slot) Nothing = Unit {0}
IsAnswer g (Out «from» slot) (Made to) = waits g to ≡ true
IsAnswer g (Out «from» slot) Strong = ⊥
IsAnswer g End what = ⊥

-- ---- tests: whether a strong pointer leads out of an object

-- the object that may be tested at what was asked for: the seed, or any that waits
abbrev pub IsTestable : Greening → GreenAt → ℕ → Type 0
IsTestable g (Seed seed) id = (id ≡ seed) × (waits g id ≡ true)
IsTestable g (Out «from» slot) id = waits g id ≡ true
IsTestable g _ id = ⊥

-- a test of the object begins
abbrev pub testing : Greening → ℕ → Greening
testing g id = record (settled g) { test = Some (record { id = id; slot = 0 }) }

-- the test goes on after the slot that was looked at
abbrev pub next_of_test : Test → Test
next_of_test t = record t { slot = t.slot + 1 }

abbrev pub tested : Greening → Greening
tested g = record g { test = by g.test }
  where
    by : Option Test → Option Test
    by None = None
    by (Some t) = Some (next_of_test t)

-- the test goes on to this slot
abbrev pub tested_to : Greening → ℕ → Greening
tested_to g slot = record g { test = by g.test }
  where
    by : Option Test → Option Test
    by None = None
    by (Some t) = Some (record t { slot = slot })

-- an event of a client or of an abort came: a test begins again, and no look is saved for what was known before
abbrev pub again : Greening → Greening
again g = record g { test = None; changed = true; current = false }

-- ---- how much is left

-- what the walk of all live objects takes at most: at each slot a look, a test of all slots of its target, and an event
abbrev pub walk_work : Greening → ℕ
walk_work g = (length g.live * g.slots) * (g.slots + 2)

-- what a seed takes at most: its test and its flip, the looks at the slots that may lead to it, and the walk after it
abbrev pub seed_work : Greening → ℕ
seed_work g = (g.slots + 3) + (length g.copied + 2) + walk_work g

-- how much of a test is done
abbrev pub test_work : Option Test → ℕ
test_work None = 0
test_work (Some t) = t.slot + 1

-- how much work is left at most: looks and events, each of which lowers it
abbrev pub work_at : Greening → GreenStage → ℕ
work_at g AtSeed = length g.seeds * seed_work g - test_work g.test
work_at g (AtInto flipped rest) = length (drop 1 g.seeds) * seed_work g + (length rest + 2 + walk_work g)
work_at g (AtOut place slot) = length (drop 1 g.seeds) * seed_work g + (1 + (length g.live * g.slots - (place * g.slots + slot)) * (g.slots + 2) - test_work g.test)

-- how much work the walk has left at most, where it stands
abbrev pub work_left : Greening → ℕ
work_left g = work_at g g.stage

-- ---- what holds

-- where the walk stands there is something
abbrev pub IsPlace : Greening → GreenStage → Type 0
IsPlace g AtSeed = Unit {0}
IsPlace g (AtInto flipped rest) = (g.test ≡ None) × (0 < length g.seeds) × Contains g.green flipped × ((s : CopiedSlot) → Contains rest s → Contains g.copied s) × (length rest ≤ length g.copied)
IsPlace g (AtOut place slot) = (0 < length g.seeds) × (place ≤ length g.green) × (slot < g.slots)

-- a test is of an object that waits, at what is asked for
pub record IsTesting (g : Greening) (t : Test) : Type 0 where
  pub waits : waits g t.id ≡ true
  pub within : t.slot ≤ g.slots
  pub settled : settled g ≡ g
  pub at_seed : g.stage ≡ AtSeed → (ids : List ℕ) × (g.seeds ≡ t.id ∷ ids)

-- what holds of every green walk
pub record IsGreening (g : Greening) : Type 0 where
  pub slot_count : IsSlotCount g.slots
  pub live_ids : IsIdList g.live g.limit
  pub green_ids : IsIdList g.green g.limit
  pub green_live : (id : ℕ) → Contains g.green id → Contains g.live id
  pub seeds_live : (id : ℕ) → Contains g.seeds id → Contains g.live id
  pub seeds_few : length g.seeds ≤ g.limit
  pub walked_few : g.walked ≤ length g.green
  pub copied_few : length g.copied ≤ g.limit * g.slots
  pub copied_within : (s : CopiedSlot) → Contains g.copied s → s.slot < g.slots
  pub place : IsPlace g g.stage
  pub tests : IfSome g.test (IsTesting g)
