-- The laws of a journal at rest: just the reachable objects are stored.
use Rattle.std.specs.Prelude.{◌≡◌, ◌≢◌, ℕ, true, List, [], ◌∷◌, ◌⊎◌, ◌↔◌}
use Rattle.plain_model.specs.Graphs.{root}
use Rattle.plain_model.specs.Reachable.{Reachable}
use Rattle.plain_model.specs.Machine.{is_stored}
use Rattle.cell_model.specs.Cells.{Cell, is_live}
use Rattle.cell_model.specs.Strong.{IsStrongAt, StrongPath, HasNoStrongCycle}
use Rattle.store_model.specs.Core.{Core}
use Rattle.store_model.specs.Sound.{IsSound, in_round}

-- no transaction is active, nothing waits for the collector, and no object is in the open round
pub record IsAtRest (c : Core) : Type 0 where
  pub none_active : c.moment.state.active ≡ []
  pub none_queued : c.queue ≡ []
  pub none_open : in_round c ≡ []

-- some slot of a live cell holds a strong pointer to the id
abbrev pub HasStrongIn : List Cell → ℕ → Type 0
HasStrongIn cells id = (source : ℕ) × (slot : ℕ) × IsStrongAt cells source slot id

-- the id is the root, or a walk of strong pointers leads from the root to it
abbrev pub IsLed : List Cell → ℕ → Type 0
IsLed cells id = (id ≡ root) ⊎ StrongPath cells root id

-- where strong pointers form no cycle, and each live cell but the root's has a strong pointer to it, strong pointers lead from
-- the root to each live cell
abbrev pub LedLaw : Type 0
LedLaw = (cells : List Cell) → HasNoStrongCycle cells → ((id : ℕ) → is_live cells id ≡ true → id ≢ root → HasStrongIn cells id) → (id : ℕ) → is_live cells id ≡ true → IsLed cells id

-- at rest strong pointers lead from the root to each live cell
abbrev pub RestLedLaw : Type 0
RestLedLaw = (c : Core) → IsSound c → IsAtRest c → (id : ℕ) → is_live c.cells id ≡ true → IsLed c.cells id

-- at rest the stored ids are those that are reachable from the root in the committed graph
abbrev pub RestLaw : Type 0
RestLaw = (c : Core) → IsSound c → IsAtRest c → (id : ℕ) → (is_stored c.moment.state.stored id ≡ true) ↔ Reachable c.moment.state.committed (root ∷ []) id
