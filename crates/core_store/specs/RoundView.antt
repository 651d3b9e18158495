-- The open round, as far as the collector has come in it.
use Rattle.std.specs.Prelude.{◌≡◌, ◌≢◌, ℕ, ◌+◌, ◌-◌, ◌*◌, ◌<◌, ◌==◌, ◌&&◌, if◌then◌else◌, Bool, true, false, not, List, [], length, fold, Option, Some, None, Contains}
use Rattle.cell_model.specs.Cells.{Cell, cell_at, pointer_at}
use Rattle.store_model.specs.Core.{Copy, Round}
use Rattle.red_walk.specs.declared.red_at.RedAt.{RedAt}
use Rattle.red_walk.specs.declared.red_at.RedAt.TheVariants as red
use Rattle.red_walk.specs.Walk.{Walk, IsWalk, next, opened, moved, moved_to, joined_by, copied, touched_at, removed, work_left}
use Rattle.red_walk.specs.Rounds.{round_of as walked}
use Rattle.green_walk.specs.declared.sweep.SweepAt.{SweepAt}
use Rattle.green_walk.specs.declared.sweep.SweepAt.TheVariants as sweep
use Rattle.green_walk.specs.declared.sweep.Found.{Found}
use Rattle.green_walk.specs.declared.sweep.Found.TheVariants.{Nothing, Made, Strong}
use Rattle.green_walk.specs.declared.green_at.GreenAt.{GreenAt}
use Rattle.green_walk.specs.declared.green_at.GreenAt.TheVariants as green
use Rattle.green_walk.specs.declared.green_at.Test.{Test}
use Rattle.green_walk.specs.Judged.{Judged}
use Rattle.green_walk.specs.Sweeping.{SweepState as Sweep, IsSweep, next as next_of_sweep, started, found, unemptied, unfreed}
use Rattle.green_walk.specs.Greening.{Greening, IsGreening, next as next_of_green, found as found_by_green, started as green_started, IsAnswer, IsTestable, waits, testing, tested, tested_to, walked_to, again, work_left as green_left}
use Rattle.green_walk.specs.GreenLaws.{most_work}
use Rattle.log_record.specs.declared.cell_record.CellRecord.{CellRecord}
use Rattle.log_record.specs.declared.cell_record.CellRecord.TheVariants as logs
use Rattle.core_store.specs.Changes.{is_counted_strong, has_no_strong}
use Rattle.core_store.specs.Touched.{objects_touched}
use Rattle.core_store.specs.declared.act.Act.{Act}
use Rattle.core_store.specs.declared.act.Act.TheVariants as act
use Rattle.core_store.specs.declared.round_at.RoundAt.{RoundAt}
use Rattle.core_store.specs.declared.round_at.RoundAt.TheVariants.{Queue, Look, Copy as CopyOf, Judge, Cut, Free, Seed, Test as TestOf, Flip, Into, Out, Strengthen, End}

-- the round of a collector as contracts see it, with the cursor of its walk
pub data RoundView : Type 0 where
  -- no round is open
  Closed : RoundView
  -- before the verdict
  Walking : (walk : Walk) → RoundView
  -- after it: the sweep, in which the object that is being emptied may have pointers from this slot on, and the green walk, which
  -- comes after the sweep
  Sweeping : (walk : Walk) (swept : Sweep) (slot : ℕ) (greening : Greening) → RoundView

-- the round as the laws of a store see it
abbrev pub round_of : RoundView → Option Round
round_of Closed = None
round_of (Walking w) = Some (walked w)
round_of (Sweeping w s slot g) = Some (record (walked w) { judged = true; condemned = unfreed s })

-- no round is open
abbrev pub is_closed : RoundView → Bool
is_closed Closed = true
is_closed _ = false

-- the objects of the open round, without the freed ones, or none
abbrev pub ids_in : RoundView → List ℕ
ids_in Closed = []
ids_in (Walking w) = w.left
ids_in (Sweeping w s slot g) = w.left

-- ---- what comes next

-- what a walk asks for
abbrev pub asked_by_walk : RedAt → RoundAt
asked_by_walk (red.Look id slot) = Look id slot
asked_by_walk (red.Copy id) = CopyOf id
asked_by_walk red.Verdict = Judge

-- what a test asks for, or this where it is over: all slots were looked at
abbrev pub asked_by_test : ℕ → Test → RoundAt → RoundAt
asked_by_test slots t over = if t.slot == slots then over else TestOf t.id t.slot

-- what a seed asks for, with the test that is in hand there, if one is
abbrev pub asked_at_seed : ℕ → ℕ → Option Test → RoundAt
asked_at_seed slots id None = Seed id
asked_at_seed slots id (Some t) = asked_by_test slots t (Flip id)

-- what a slot of a green object asks for, with the test that is in hand there, if one is
abbrev pub asked_at_slot : ℕ → ℕ → ℕ → Option Test → RoundAt
asked_at_slot slots «from» slot None = Out «from» slot
asked_at_slot slots «from» slot (Some t) = asked_by_test slots t (Strengthen «from» slot t.id)

-- what a green walk asks for
abbrev pub asked_by_green : ℕ → Option Test → GreenAt → RoundAt
asked_by_green slots test (green.Seed id) = asked_at_seed slots id test
asked_by_green slots test (green.Into «from» slot to) = Into «from» slot to
asked_by_green slots test (green.Out «from» slot) = asked_at_slot slots «from» slot test
asked_by_green slots test green.End = End

-- what a sweep asks for, which goes over the slots of an object from this one on, and after it the green walk
abbrev pub asked_by_sweep : ℕ → Greening → SweepAt → RoundAt
asked_by_sweep slot g (sweep.Slots id) = Cut id slot
asked_by_sweep slot g (sweep.Free id) = Free id
asked_by_sweep slot g sweep.End = asked_by_green g.slots g.test (next_of_green g)

-- what the collector looks at or does next
abbrev pub asked : RoundView → RoundAt
asked Closed = Queue
asked (Walking w) = asked_by_walk (next w)
asked (Sweeping w s slot g) = asked_by_sweep slot g (next_of_sweep s)

-- there is something to do, and not only to look at: a strong pointer to make weak, a pointer to remove, or anything else that is
-- no look
abbrev pub is_event : List Cell → RoundAt → Bool
is_event cells (Look id slot) = is_counted_strong cells (pointer_at cells id slot)
is_event cells (Cut id slot) = not ((pointer_at cells id slot).target == 0)
is_event cells (Seed id) = false
is_event cells (TestOf id slot) = false
is_event cells (Into «from» slot to) = ((pointer_at cells «from» slot).target == to) && is_counted_strong cells (pointer_at cells «from» slot)
is_event cells (Out «from» slot) = false
is_event cells _ = true

-- it is a look at a slot in the walk before the verdict, or in the sweep
abbrev pub IsSlotLook : RoundAt → Type 0
IsSlotLook (Look id slot) = Unit {0}
IsSlotLook (Cut id slot) = Unit {0}
IsSlotLook _ = ⊥

-- it is a look at a slot that may have something to do
abbrev pub IsLookAt : RoundAt → Type 0
IsLookAt (Look id slot) = Unit {0}
IsLookAt (Cut id slot) = Unit {0}
IsLookAt (Into «from» slot to) = Unit {0}
IsLookAt _ = ⊥

-- the answer is one to what the green walk asked for after the sweep
abbrev pub IsGreenAnswer : RoundView → Found → Type 0
IsGreenAnswer (Sweeping w s slot g) what = (next_of_sweep s ≡ sweep.End) × IsAnswer g (next_of_green g) what
IsGreenAnswer _ what = ⊥

-- the object may be tested at what the green walk asked for after the sweep
abbrev pub IsGreenTestable : RoundView → ℕ → Type 0
IsGreenTestable (Sweeping w s slot g) id = (next_of_sweep s ≡ sweep.End) × IsTestable g (next_of_green g) id
IsGreenTestable _ id = ⊥

-- ---- how it goes on

-- the sweep is at this slot of its object, or where the object has no such slot at the first slot of the next object
abbrev pub to_slot : ℕ → Walk → Sweep → ℕ → Greening → RoundView
to_slot slots w s slot g = if slot == slots then Sweeping w (found s Nothing) 0 g else Sweeping w s slot g

-- the sweep is at the next slot of its object, or after the last one at the first slot of the next object
abbrev pub next_slot : ℕ → Walk → Sweep → ℕ → Greening → RoundView
next_slot slots w s slot g = to_slot slots w s (slot + 1) g

-- no strong pointer leads to the object, which waits
abbrev pub is_white : List Cell → Greening → ℕ → Bool
is_white cells g id = waits g id && has_no_strong (cell_at cells id)

-- the look at a seed: it is passed over where it is green, it becomes green where a strong pointer leads to it, and else it is
-- tested
abbrev pub seen_seed : List Cell → Greening → ℕ → Greening
seen_seed cells g id = if is_white cells g id then testing g id else found_by_green g (if waits g id then Strong else Nothing)

-- the look at a slot of a tested object: a strong pointer ends the test, and there is nothing to do at what was asked for
abbrev pub seen_test : List Cell → Greening → ℕ → ℕ → Greening
seen_test cells g id slot = if is_counted_strong cells (pointer_at cells id slot) then found_by_green g Nothing else tested g

-- the look at a slot of a green object: its target is tested where it waits and no strong pointer leads to it
abbrev pub seen_out : List Cell → Greening → ℕ → Greening
seen_out cells g to = if is_white cells g to then testing g to else found_by_green g Nothing

-- the green walk after a look at which there was nothing to do
abbrev pub passed_by_green : List Cell → Greening → RoundAt → Greening
passed_by_green cells g (Seed id) = seen_seed cells g id
passed_by_green cells g (TestOf id slot) = seen_test cells g id slot
passed_by_green cells g (Into «from» slot to) = found_by_green g Nothing
passed_by_green cells g (Out «from» slot) = seen_out cells g (pointer_at cells «from» slot).target
passed_by_green cells g _ = g

-- the sweep, or the green walk after it, after a look at which there was nothing to do
abbrev pub passed_by_sweep : ℕ → List Cell → Walk → Sweep → ℕ → Greening → SweepAt → RoundView
passed_by_sweep slots cells w s slot g (sweep.Slots id) = next_slot slots w s slot g
passed_by_sweep slots cells w s slot g (sweep.Free id) = Sweeping w s slot g
passed_by_sweep slots cells w s slot g sweep.End = Sweeping w s slot (passed_by_green cells g (asked_by_green g.slots g.test (next_of_green g)))

-- the round after a look at which there was nothing to do
abbrev pub looked_past : ℕ → List Cell → RoundView → RoundView
looked_past slots cells Closed = Closed
looked_past slots cells (Walking w) = Walking (moved slots w)
looked_past slots cells (Sweeping w s slot g) = passed_by_sweep slots cells w s slot g (next_of_sweep s)

-- the green walk at this slot of the object of its test or of the green object, where it looks at one of their slots
abbrev pub green_to : Greening → ℕ → RoundAt → Greening
green_to g slot (TestOf id at) = tested_to g slot
green_to g slot (Out «from» at) = walked_to g slot
green_to g slot _ = g

-- the sweep, or the green walk after it, at this slot of the object that is looked at
abbrev pub swept_to : ℕ → Walk → Sweep → ℕ → Greening → ℕ → SweepAt → RoundView
swept_to slots w s at g slot (sweep.Slots id) = to_slot slots w s slot g
swept_to slots w s at g slot (sweep.Free id) = Sweeping w s at g
swept_to slots w s at g slot sweep.End = Sweeping w s at (green_to g slot (asked_by_green g.slots g.test (next_of_green g)))

-- the round at this slot of the object that is looked at, or after the object where it has no such slot
abbrev pub looked_to : ℕ → RoundView → ℕ → RoundView
looked_to slots Closed slot = Closed
looked_to slots (Walking w) slot = Walking (moved_to slots w slot)
looked_to slots (Sweeping w s at g) slot = swept_to slots w s at g slot (next_of_sweep s)

-- slots were looked at one after another, and nothing was to do at any of them
pub data Passes (slots : ℕ) (cells : List Cell) (u : RoundView) : RoundView → Type 0 where
  none : Passes slots cells u u
  more : (v : RoundView) → Passes slots cells u v → is_event cells (asked v) ≡ false → Passes slots cells u (looked_past slots cells v)

-- a change of the object counts where the verdict is to come, and for the looks of the green walk
abbrev pub touched_in : RoundView → ℕ → RoundView
touched_in Closed id = Closed
touched_in (Walking w) id = Walking (touched_at w id)
touched_in (Sweeping w s slot g) id = Sweeping w s slot (again g)

-- the changes of the objects that a record of a client or of an abort concerns count
abbrev pub touched_by_record : RoundView → Option CellRecord → RoundView
touched_by_record r logged = fold touched_in r (objects_touched logged)

-- an event of the collector was what came next, and the round goes on after it
pub data Proceeds (slots ids : ℕ) : RoundView → Act → Option CellRecord → RoundView → Type 0 where
  skip : (id : ℕ) → Proceeds slots ids Closed (act.Skip id) None Closed
  start : (id : ℕ) → Proceeds slots ids Closed (act.Start id) None (Walking (opened ids id))
  weaken : (w : Walk) (id slot target : ℕ) (joins : Option ℕ) → next w ≡ red.Look id slot → Proceeds slots ids (Walking w) act.Change (Some (logs.Weaken id slot target)) (Walking (joined_by (moved slots w) joins))
  scan : (w : Walk) (id : ℕ) (copy : Copy) → next w ≡ red.Copy id → Proceeds slots ids (Walking w) (act.Scan id) None (Walking (copied w id copy))
  judge : (w : Walk) (j : Judged) → next w ≡ red.Verdict → Proceeds slots ids (Walking w) act.Judge None (Sweeping w (started j.condemned ids) 0 (green_started slots j w))
  cut : (w : Walk) (s : Sweep) (slot id target : ℕ) (strong : Bool) (g : Greening) → next_of_sweep s ≡ sweep.Slots id → Proceeds slots ids (Sweeping w s slot g) act.Change (Some (logs.CutDead id slot target strong)) (next_slot slots w s slot g)
  free : (w : Walk) (s : Sweep) (slot id : ℕ) (g : Greening) → next_of_sweep s ≡ sweep.Free id → Proceeds slots ids (Sweeping w s slot g) act.Change (Some (logs.Free id)) (Sweeping (removed w id) (found s (Made id)) slot g)
  flip : (w : Walk) (s : Sweep) (slot id : ℕ) (g : Greening) → asked (Sweeping w s slot g) ≡ Flip id → Proceeds slots ids (Sweeping w s slot g) act.Change (Some (logs.Flip id)) (Sweeping w s slot (found_by_green g (Made id)))
  into : (w : Walk) (s : Sweep) (slot «from» k to : ℕ) (g : Greening) → asked (Sweeping w s slot g) ≡ Into «from» k to → Proceeds slots ids (Sweeping w s slot g) act.Change (Some (logs.Weaken «from» k to)) (Sweeping w s slot (found_by_green g (Made «from»)))
  strengthen : (w : Walk) (s : Sweep) (slot «from» k to : ℕ) (g : Greening) → asked (Sweeping w s slot g) ≡ Strengthen «from» k to → Proceeds slots ids (Sweeping w s slot g) act.Change (Some (logs.Strengthen «from» k to)) (Sweeping w s slot (found_by_green g (Made to)))
  end : (w : Walk) (s : Sweep) (slot : ℕ) (g : Greening) → asked (Sweeping w s slot g) ≡ End → Proceeds slots ids (Sweeping w s slot g) act.End None Closed

-- how much work is left: looks, copies, the verdict, cuts, deletions, the events of the green walk and the end, each of which
-- lowers it; 0 where no round is open
abbrev pub left_of : ℕ → RoundView → ℕ
left_of slots Closed = 0
left_of slots (Walking w) = work_left slots w + 1 + ((slots + 1) * w.limit + most_work slots w.limit + 1)
left_of slots (Sweeping w s slot g) = (slots * length (unemptied s) - slot) + length (unfreed s) + green_left g + 1

-- ---- what holds

-- a walk of the store's ids from which nothing was removed
pub record IsWalking (slots ids : ℕ) (w : Walk) : Type 0 where
  pub walk : IsWalk slots w
  pub limit : w.limit ≡ ids
  pub whole : w.left ≡ w.list

-- the green walk is one of this store's, over objects of the round that aren't condemned
pub record IsGreeningOf (slots ids : ℕ) (w : Walk) (s : Sweep) (g : Greening) : Type 0 where
  pub greening : IsGreening g
  pub green_limit : g.limit ≡ ids
  pub green_slots : g.slots ≡ slots
  pub left : (id : ℕ) → Contains g.live id → Contains w.left id
  pub spared : (id : ℕ) → Contains g.live id → Contains s.list id → ⊥
  -- tests begin after the sweep
  pub at_rest : next_of_sweep s ≢ sweep.End → g.test ≡ None

-- a walk of the store's ids, a sweep of them, and a green walk of them
pub record IsSweeping (slots ids : ℕ) (w : Walk) (s : Sweep) (slot : ℕ) (g : Greening) : Type 0 where
  pub walk : IsWalk slots w
  pub limit : w.limit ≡ ids
  pub sweep : IsSweep s
  pub sweep_limit : s.limit ≡ ids
  pub within : slot < slots
  pub greens : IsGreeningOf slots ids w s g

-- what holds of every open round in a store of these ids
abbrev pub IsInStep : ℕ → ℕ → RoundView → Type 0
IsInStep slots ids Closed = Unit {0}
IsInStep slots ids (Walking w) = IsWalking slots ids w
IsInStep slots ids (Sweeping w s slot g) = IsSweeping slots ids w s slot g

-- the room that a program has for rounds, and the open one, if one is
pub record Rounds : Type 0 where
  -- the greatest id
  pub limit : ℕ
  pub view : RoundView
