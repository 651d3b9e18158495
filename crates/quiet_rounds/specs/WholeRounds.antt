-- Whole rounds beside which no client is active: which objects they are about, which they delete, what they leave, and how many
-- events they take.
use Rattle.std.specs.Prelude.{◌≡◌, ◌≢◌, ◌↔◌, ℕ, ◌+◌, ◌*◌, ◌≤◌, true, false, List, length, Contains, Option, None}
use Rattle.plain_model.specs.Graphs.{root}
use Rattle.cell_model.specs.Cells.{Cell, cell_at, pointer_at, is_live, object_of}
use Rattle.cell_model.specs.Strong.{IsStrongAt}
use Rattle.store_model.specs.Core.{Core}
use Rattle.store_model.specs.Sound.{IsSound}
use Rattle.store_model.specs.RestLaws.{HasStrongIn}
use Rattle.red_walk.specs.Walk.{Walk, opened}
use Rattle.green_walk.specs.Sweeping.{SweepState as Sweep}
use Rattle.green_walk.specs.Greening.{Greening}
use Rattle.core_store.specs.declared.act.Act.{Act}
use Rattle.core_store.specs.declared.act.Act.TheVariants as act
use Rattle.core_store.specs.RoundView.{RoundView, Closed, Walking, Sweeping, is_closed, round_of, Passes, IsInStep}
use Rattle.log_record.specs.declared.cell_record.CellRecord.{CellRecord}
use Rattle.quiet_rounds.specs.Quiet.{NoneActive}
use Rattle.quiet_rounds.specs.Laws.{IsQuietEvent}

-- ---- what a round is about

-- the strongly dominated set of an object: the least set that has it, and each live object but the root to which a strong pointer
-- leads and all strong pointers to which come from the set
pub data IsDominated (cells : List Cell) (x : ℕ) : ℕ → Type 0 where
  itself : IsDominated cells x x
  joins : (id : ℕ) → is_live cells id ≡ true → id ≢ root → HasStrongIn cells id → ((u slot : ℕ) → IsStrongAt cells u slot id → IsDominated cells x u) → IsDominated cells x id

-- a walk of pointers, strong or weak, leads to the object from a live one outside of that set
pub data IsLedFromOutside (cells : List Cell) (x : ℕ) : ℕ → Type 0 where
  out_of : (u slot : ℕ) → is_live cells u ≡ true → (IsDominated cells x u → ⊥) → (pointer_at cells u slot).target ≢ 0 → IsLedFromOutside cells x (pointer_at cells u slot).target
  onwards : (id slot : ℕ) → IsLedFromOutside cells x id → (pointer_at cells id slot).target ≢ 0 → IsLedFromOutside cells x (pointer_at cells id slot).target

-- ---- whole rounds

-- a sound journal beside which no client is active, with its cursor
pub record IsStill (slots : ℕ) (c : Core) (u : RoundView) : Type 0 where
  pub sound : IsSound c
  pub slots_are : c.moment.state.slots ≡ slots
  pub quiet : NoneActive c
  pub round : round_of u ≡ c.round
  pub in_step : IsInStep slots c.moment.state.ids u

-- looks and events of an open round, one after another: so many events
pub data OpenRun (slots : ℕ) (c : Core) (u : RoundView) : Core → RoundView → ℕ → Type 0 where
  none : OpenRun slots c u c u 0
  looks : (d : Core) (v w : RoundView) (n : ℕ) → OpenRun slots c u d v n → IsStill slots d v → Passes slots d.cells v w → OpenRun slots c u d w n
  event : (d e : Core) (v w : RoundView) (event : Act) (logged : Option CellRecord) (n : ℕ) → OpenRun slots c u d v n → IsQuietEvent slots d e v w event logged → is_closed w ≡ false → OpenRun slots c u e w (n + 1)

-- a round that opens with the object, and closes, so many events in all
pub record IsWholeRound (slots : ℕ) (c d : Core) (x events : ℕ) : Type 0 where
  pub opening : Core
  pub starts : IsQuietEvent slots c opening Closed (Walking (opened c.moment.state.ids x)) (act.Start x) None
  pub last : Core
  -- the walk has all objects that joined
  pub walk : Walk
  pub swept : Sweep
  pub slot : ℕ
  pub greening : Greening
  pub between : ℕ
  pub runs : OpenRun slots opening (Walking (opened c.moment.state.ids x)) last (Sweeping walk swept slot greening) between
  pub ends : IsQuietEvent slots last d (Sweeping walk swept slot greening) Closed act.End None
  pub count : events ≡ between + 2

-- ---- laws

-- its objects are the strongly dominated set of the first one, by the cells at its start
abbrev pub DominatedLaw : Type 0
DominatedLaw = (slots : ℕ) (c d : Core) (x events : ℕ) (r : IsWholeRound slots c d x events) → (id : ℕ) → Contains r.walk.list id ↔ IsDominated c.cells x id

-- it deletes exactly those of them to which no walk of pointers leads from a live object outside
abbrev pub DeletedLaw : Type 0
DeletedLaw =
    (slots : ℕ) (c d : Core) (x events : ℕ) → IsWholeRound slots c d x events → (id : ℕ) → is_live c.cells id ≡ true
    → (is_live d.cells id ≡ false) ↔ (IsDominated c.cells x id × (IsLedFromOutside c.cells x id → ⊥))

-- every other object keeps its slots and its payload, and none comes to be
abbrev pub KeptLaw : Type 0
KeptLaw =
    (slots : ℕ) (c d : Core) (x events : ℕ) → IsWholeRound slots c d x events → (id : ℕ) → is_live d.cells id ≡ true
    → (is_live c.cells id ≡ true) × (object_of id (cell_at d.cells id) ≡ object_of id (cell_at c.cells id))

-- a live object, but for the root, to which no strong pointer leads
pub record IsWithoutStrong (cells : List Cell) (id : ℕ) : Type 0 where
  pub live : is_live cells id ≡ true
  pub not_root : id ≢ root
  pub zero : (cell_at cells id).strong ≡ 0

-- it leaves exactly the objects without strong pointers that there were, but for the first one
abbrev pub FewerLaw : Type 0
FewerLaw = (slots : ℕ) (c d : Core) (x events : ℕ) → IsWholeRound slots c d x events → (id : ℕ) → IsWithoutStrong d.cells id ↔ (IsWithoutStrong c.cells id × (id ≢ x))

-- at most so many events: two for each slot of each of the round's objects, 12 more for each object, and 8 more
abbrev pub most_round_events : ℕ → ℕ → ℕ
most_round_events slots objects = (2 * slots + 12) * objects + 8

-- it takes at most so many events for its objects: 40 for each and 8 more with fourteen slots, 24 for each and 8 more with six
abbrev pub BoundLaw : Type 0
BoundLaw = (slots : ℕ) (c d : Core) (x events : ℕ) (r : IsWholeRound slots c d x events) → events ≤ most_round_events slots (length r.walk.list)
