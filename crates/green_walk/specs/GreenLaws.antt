-- What the green walk is to its caller: what it asks for, what its answers leave, and how much is left.
use Rattle.std.specs.Prelude.{◌≡◌, ℕ, ◌+◌, ◌*◌, ◌<◌, ◌≤◌, Bool, true, false, List, Contains, Some, None}
use Rattle.ref_tables.specs.Refs.{Table}
use Rattle.red_walk.specs.Walk.{Walk}
use Rattle.green_walk.specs.declared.green_at.GreenAt.{GreenAt}
use Rattle.green_walk.specs.declared.green_at.GreenAt.TheVariants.{Seed, Into, Out, End}
use Rattle.green_walk.specs.declared.green_at.Test.{Test}
use Rattle.green_walk.specs.declared.sweep.Found.{Found}
use Rattle.green_walk.specs.declared.sweep.Found.TheVariants.{Nothing}
use Rattle.green_walk.specs.Judged.{Judged, IsSeed, IsLive, Picks}
use Rattle.green_walk.specs.Greening.{Greening, IsGreening, IsAnswer, IsTestable, waits, next, found, settled, testing, tested, tested_to, walked_to, again, started, work_left}

-- ---- what is asked for

-- what is asked for is of the objects that live; a slot is there
abbrev pub IsAskedOf : Greening → GreenAt → Type 0
IsAskedOf g (Seed id) = Contains g.live id
IsAskedOf g (Into «from» slot to) = (waits g «from» ≡ true) × Contains g.live to × (waits g to ≡ false) × (slot < g.slots)
IsAskedOf g (Out «from» slot) = Contains g.live «from» × (waits g «from» ≡ false) × (slot < g.slots)
IsAskedOf g End = Unit {0}

abbrev pub AskedLaw : Type 0
AskedLaw = (g : Greening) → IsGreening g → IsAskedOf g (next g)

-- an object that waits lives
abbrev pub WaitsLaw : Type 0
WaitsLaw = (g : Greening) (id : ℕ) → waits g id ≡ true → Contains g.live id

-- the seeds live
abbrev pub SeedsLiveLaw : Type 0
SeedsLiveLaw = (w : Walk) (locks : List Bool) (refs : Table) (seeds live : List ℕ) → Picks (IsSeed w locks refs) w.list seeds → Picks (IsLive w (IsSeed w locks refs)) w.list live → (id : ℕ) → Contains seeds id → Contains live id

-- ---- what the answers leave

-- the same objects live, in the same store
pub record IsSameWalk (g h : Greening) : Type 0 where
  pub live : h.live ≡ g.live
  pub slots : h.slots ≡ g.slots
  pub limit : h.limit ≡ g.limit

abbrev pub SettledLaw : Type 0
SettledLaw = (g : Greening) → IsSameWalk g (settled g)

-- after an answer no test is in hand
abbrev pub FoundLaw : Type 0
FoundLaw = (g : Greening) (what : Found) → IsGreening g → IsAnswer g (next g) what → IsSameWalk g (found g what) × ((found g what).test ≡ None)

-- a test changes nothing of what is asked for
abbrev pub TestingLaw : Type 0
TestingLaw = (g : Greening) (id : ℕ) → IsGreening g → IsTestable g (next g) id → IsSameWalk g (testing g id) × (next (testing g id) ≡ next g) × ((testing g id).test ≡ Some (record { id = id; slot = 0 }))

abbrev pub TestedLaw : Type 0
TestedLaw = (g : Greening) (t : Test) → IsGreening g → g.test ≡ Some t → t.slot < g.slots → IsSameWalk g (tested g) × (next (tested g) ≡ next g) × ((tested g).test ≡ Some (record t { slot = t.slot + 1 }))

-- to go on is to go to the next slot, and who goes to a slot and from there to another one has gone to that one
abbrev pub TestedToLaw : Type 0
TestedToLaw = (g : Greening) (t : Test) (slot other : ℕ) → g.test ≡ Some t → (tested g ≡ tested_to g (t.slot + 1)) × (tested_to (tested_to g slot) other ≡ tested_to g other) × IsSameWalk g (tested_to g slot)

abbrev pub WalkedToLaw : Type 0
WalkedToLaw =
    (g : Greening) («from» at slot other : ℕ) → next g ≡ Out «from» at
    → (found g Nothing ≡ walked_to g (at + 1)) × (slot < g.slots → walked_to (walked_to g slot) other ≡ walked_to g other) × IsSameWalk g (walked_to g slot)

-- the tested object waits; at a seed it is that
abbrev pub TestLaw : Type 0
TestLaw = (g : Greening) (t : Test) → IsGreening g → g.test ≡ Some t → IsTestable g (next g) t.id × (t.slot ≤ g.slots)

-- ---- how much is left

-- what a green walk over so many objects takes at most: each of them is a seed, and after each all slots are looked at and
-- walked, with a test at each
abbrev pub most_work : ℕ → ℕ → ℕ
most_work slots objects = objects * ((slots + 3) + (objects * slots + 2) + (objects * slots) * (slots + 2))

abbrev pub StartedWorkLaw : Type 0
StartedWorkLaw = (slots : ℕ) (j : Judged) (w : Walk) → IsGreening (started slots j w) → work_left (started slots j w) ≤ most_work slots w.limit

-- each answer leaves less work
abbrev pub FoundWorkLaw : Type 0
FoundWorkLaw = (g : Greening) (what : Found) → IsGreening g → IsAnswer g (next g) what → work_left (found g what) < work_left g

-- the begin of a test leaves less work
abbrev pub TestingWorkLaw : Type 0
TestingWorkLaw = (g : Greening) (id : ℕ) → IsGreening g → g.test ≡ None → IsTestable g (next g) id → work_left (testing g id) < work_left g

-- each slot of a test leaves less work
abbrev pub TestedWorkLaw : Type 0
TestedWorkLaw = (g : Greening) (t : Test) → IsGreening g → g.test ≡ Some t → t.slot < g.slots → work_left (tested g) < work_left g

-- ---- what holds of every green walk holds after each of its changes

abbrev pub SettledGreeningLaw : Type 0
SettledGreeningLaw = (g : Greening) → IsGreening g → IsGreening (settled g)

abbrev pub FoundGreeningLaw : Type 0
FoundGreeningLaw = (g : Greening) (what : Found) → IsGreening g → IsAnswer g (next g) what → IsGreening (found g what)

abbrev pub TestingGreeningLaw : Type 0
TestingGreeningLaw = (g : Greening) (id : ℕ) → IsGreening g → IsTestable g (next g) id → IsGreening (testing g id)

abbrev pub TestedGreeningLaw : Type 0
TestedGreeningLaw = (g : Greening) (t : Test) → IsGreening g → g.test ≡ Some t → t.slot < g.slots → IsGreening (tested g)

abbrev pub AgainGreeningLaw : Type 0
AgainGreeningLaw = (g : Greening) → IsGreening g → IsGreening (again g)
