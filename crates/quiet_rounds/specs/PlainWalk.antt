-- The plain green walk, which saves no look: after each seed all green objects are walked from the first one on, with all their
-- slots, and each look asks what the cells hold at that moment.
use Rattle.std.specs.Prelude.{◌≡◌, ◌≢◌, ℕ, ◌+◌, ◌<◌, ◌≤◌, ◌==◌, ◌&&◌, not, if◌then◌else◌, Bool, true, false, List, [], ◌∷◌, ◌++◌, map, length, drop, slice_index_or, Option, Some, None}
use Rattle.cell_model.specs.Cells.{Cell, cell_at, pointer_at}
use Rattle.cell_model.specs.Strong.{IsStrongAt, HasNoStrongOut}
use Rattle.ref_tables.specs.Queue.{has}
use Rattle.green_walk.specs.declared.copied_slots.CopiedSlot.{CopiedSlot}
use Rattle.green_walk.specs.declared.sweep.SweepAt.{SweepAt}
use Rattle.green_walk.specs.declared.sweep.SweepAt.TheVariants as sweep
use Rattle.green_walk.specs.Sweeping.{next as next_of_sweep}
use Rattle.green_walk.specs.Greening.{Greening, GreenStage, AtSeed, AtInto, AtOut}
use Rattle.log_record.specs.declared.cell_record.CellRecord.{CellRecord}
use Rattle.log_record.specs.declared.cell_record.CellRecord.TheVariants as logs
use Rattle.core_store.specs.declared.act.Act.{Act}
use Rattle.core_store.specs.declared.act.Act.TheVariants as act
use Rattle.core_store.specs.declared.collect.Collect.{Collect}
use Rattle.core_store.specs.JournalView.{JournalView, cells_of}
use Rattle.core_store.specs.RoundView.{RoundView, Sweeping}
use Rattle.core_store.specs.Stands.{IsTested}
use Rattle.core_store.specs.Steppings.{MakesEvent, OnlyLooks}
use Rattle.quiet_rounds.specs.JournalSteps.{IsSoundJournal}

-- ---- the walk

-- where it stands
pub data PlainStage : Type 0 where
  -- at the first seed that is to come
  AtSeeds : PlainStage
  -- at the pointers to the object that was flipped: these slots, each with its object, are to be looked at
  AtPointers : (flipped : ℕ) (rest : List (ℕ × ℕ)) → PlainStage
  -- at this slot of the green object at this place of their list
  AtGreen : (place slot : ℕ) → PlainStage

pub record PlainWalk : Type 0 where
  -- the seeds that are to come
  pub seeds : List ℕ
  -- the objects of the round that live
  pub live : List ℕ
  -- those of them that are green, in the order in which they became so
  pub green : List ℕ
  pub stage : PlainStage
  -- the slots of the round's objects, each with its object: the objects in the round's order, the slots of each ascending
  pub around : List (ℕ × ℕ)
  -- how many slots an object has
  pub slots : ℕ

-- the object lives and isn't green
abbrev pub waits : PlainWalk → ℕ → Bool
waits p id = has p.live id && not (has p.green id)

-- it may become green: it waits, no strong pointer leads to it, and none out of it
pub record IsWhite (cells : List Cell) (p : PlainWalk) (id : ℕ) : Type 0 where
  pub waiting : waits p id ≡ true
  pub zero : (cell_at cells id).strong ≡ 0
  pub none_out : HasNoStrongOut cells id

-- the object becomes green
abbrev pub greened : PlainWalk → ℕ → PlainWalk
greened p id = record p { green = p.green ++ id ∷ [] }

-- after a seed all green objects are walked, from the first slot of the first one on
abbrev pub behind_seed : PlainWalk → PlainWalk
behind_seed p = record p { stage = AtGreen 0 0 }

-- the next slot of the green object, or the first one of the next object
abbrev pub behind_slot : PlainWalk → ℕ → ℕ → PlainWalk
behind_slot p place slot = record p { stage = if slot + 1 == p.slots then AtGreen (place + 1) 0 else AtGreen place (slot + 1) }

-- what the slot of the green object at this place names
abbrev pub target_of : List Cell → PlainWalk → ℕ → ℕ → ℕ
target_of cells p place slot = (pointer_at cells (slice_index_or p.green place 0) slot).target

-- a look at which there is nothing to do
pub data Looks (cells : List Cell) (p : PlainWalk) : PlainWalk → Type 0 where
  -- a seed that is green already is passed over
  green_seed : (id : ℕ) (ids : List ℕ) → p.stage ≡ AtSeeds → p.seeds ≡ id ∷ ids → waits p id ≡ false → Looks cells p (behind_seed p)
  -- one with a strong pointer to it becomes green
  strong_seed : (id : ℕ) (ids : List ℕ) → p.stage ≡ AtSeeds → p.seeds ≡ id ∷ ids → waits p id ≡ true → (cell_at cells id).strong ≢ 0 → Looks cells p (behind_seed (greened p id))
  -- one with none to it and one out of it is passed over
  bound_seed : (id : ℕ) (ids : List ℕ) (slot to : ℕ) → p.stage ≡ AtSeeds → p.seeds ≡ id ∷ ids → waits p id ≡ true → (cell_at cells id).strong ≡ 0 → IsStrongAt cells id slot to → Looks cells p (behind_seed p)
  -- a slot that holds no strong pointer to the flipped object, or whose object doesn't wait
  other_slot : (flipped id slot : ℕ) (rest : List (ℕ × ℕ)) → p.stage ≡ AtPointers flipped ((id, slot) ∷ rest) → (waits p id ≡ true → IsStrongAt cells id slot flipped → ⊥) → Looks cells p (record p { stage = AtPointers flipped rest })
  -- no slot is left to be looked at after the flip
  all_weak : (flipped : ℕ) → p.stage ≡ AtPointers flipped [] → Looks cells p (behind_seed p)
  -- the slot of a green object names none that may become green
  no_white : (place slot : ℕ) → p.stage ≡ AtGreen place slot → place < length p.green → (IsWhite cells p (target_of cells p place slot) → ⊥) → Looks cells p (behind_slot p place slot)
  -- all green objects were walked, and the next seed comes
  all_walked : (place slot : ℕ) → p.stage ≡ AtGreen place slot → length p.green ≤ place → Looks cells p (record p { stage = AtSeeds; seeds = drop 1 p.seeds })

-- looks one after another
pub data LooksOn (cells : List Cell) (p : PlainWalk) : PlainWalk → Type 0 where
  here : LooksOn cells p p
  further : (q r : PlainWalk) → LooksOn cells p q → Looks cells q r → LooksOn cells p r

-- no walk
abbrev pub no_walk : PlainWalk
no_walk = record { seeds = []; live = []; green = []; stage = AtSeeds; around = []; slots = 0 }

-- an event, and where the walk goes on
pub data Makes (cells : List Cell) (p : PlainWalk) : Act → Option CellRecord → PlainWalk → Type 0 where
  -- a seed with no strong pointer to it and none out of it is flipped; all pointers to it are looked at then
  flips : (id : ℕ) (ids : List ℕ) → p.stage ≡ AtSeeds → p.seeds ≡ id ∷ ids → IsWhite cells p id → Makes cells p act.Change (Some (logs.Flip id)) (record (greened p id) { stage = AtPointers id p.around })
  -- a strong pointer to it from an object that waits becomes weak
  weakens : (flipped id slot : ℕ) (rest : List (ℕ × ℕ)) → p.stage ≡ AtPointers flipped ((id, slot) ∷ rest) → waits p id ≡ true → IsStrongAt cells id slot flipped → Makes cells p act.Change (Some (logs.Weaken id slot flipped)) (record p { stage = AtPointers flipped rest })
  -- a pointer from a green object to one that may become green becomes strong
  strengthens : (place slot to : ℕ) → p.stage ≡ AtGreen place slot → place < length p.green → target_of cells p place slot ≡ to → IsWhite cells p to → Makes cells p act.Change (Some (logs.Strengthen (slice_index_or p.green place 0) slot to)) (behind_slot (greened p to) place slot)
  -- no seed is left
  ends : p.stage ≡ AtSeeds → p.seeds ≡ [] → Makes cells p act.End None no_walk

-- the event is the one that the walk finds next, and after it the walk goes on so
pub record Finds (cells : List Cell) (p : PlainWalk) (event : Act) (logged : Option CellRecord) (q : PlainWalk) : Type 0 where
  pub at : PlainWalk
  pub looks : LooksOn cells p at
  pub makes : Makes cells at event logged q

-- ---- the walk of a round

abbrev pub place_of : CopiedSlot → ℕ × ℕ
place_of s = (s.id, s.slot)

abbrev pub plain_stage : GreenStage → PlainStage
plain_stage AtSeed = AtSeeds
plain_stage (AtInto flipped rest) = AtPointers flipped (map place_of rest)
plain_stage (AtOut place slot) = AtGreen place slot

-- the plain walk that stands where a walk does that saves looks
abbrev pub plain_of : Greening → PlainWalk
plain_of g = record { seeds = g.seeds; live = g.live; green = g.green; stage = plain_stage g.stage; around = map place_of g.copied; slots = g.slots }

-- that of a round after its verdict
abbrev pub plain_in : RoundView → PlainWalk
plain_in (Sweeping w s slot g) = plain_of g
plain_in _ = no_walk

-- where the sweep is over, the event is the one that the plain walk finds next; before that the walk stays
abbrev pub IsPlainAt : List Cell → Greening → SweepAt → Act → Option CellRecord → RoundView → Type 0
IsPlainAt cells g sweep.End event logged v = Finds cells (plain_of g) event logged (plain_in v)
IsPlainAt cells g _ event logged v = plain_in v ≡ plain_of g

abbrev pub IsPlain : List Cell → RoundView → Act → Option CellRecord → RoundView → Type 0
IsPlain cells (Sweeping w s slot g) event logged v = IsPlainAt cells g (next_of_sweep s) event logged v
IsPlain cells _ event logged v = Unit {0}

-- ---- laws, beside clients too

-- the looks of a journal's collector are looks of the plain walk
abbrev pub PlainLooksLaw : Type 0
PlainLooksLaw = (slots : ℕ) (i j : JournalView) → IsSoundJournal slots i → IsTested (cells_of i) i.round → OnlyLooks slots i j → LooksOn (cells_of i) (plain_in i.round) (plain_in j.round)

-- its events after a sweep are those that the plain walk finds
abbrev pub PlainEventsLaw : Type 0
PlainEventsLaw =
    (slots : ℕ) (i j : JournalView) (r : Collect) → IsSoundJournal slots i → IsTested (cells_of i) i.round → (m : MakesEvent slots i j r) → j.opening ≡ i.opening → IsSoundJournal slots j
    → IsPlain (cells_of i) i.round m.event m.logged j.round
