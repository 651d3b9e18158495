-- A store with one client, and what a handle of it sees.
use Rattle.std.specs.Prelude.{◌≡◌, ◌≢◌, ℕ, ◌<◌, Bool, ◌&&◌, is_none, is_some, List, ◌∷◌, ◌⊎◌, Option, Some, None, replicate, slice_index_or}
use Rattle.plain_model.specs.declared.object.Object.{Object}
use Rattle.plain_model.specs.Graphs.{root}
use Rattle.logged_journal.specs.View.{LoggedView}
use Rattle.object_store.specs.declared.reference.Held.{Held}
use Rattle.object_store.specs.declared.tending.Tending.{Tending}
use Rattle.object_store.specs.Seen.{state_of, open_in, graph_in, register_in, IsQuiet, IsAlone}

-- a store: the journal with its log and its disk; for each register of the open transaction the object that it is known to hold; and
-- what it sees to by itself
pub record StoreView (D : Type 0) : Type 0 where
  pub below : LoggedView D
  pub held : List (Option ℕ)
  pub tending : Tending

-- the store that sees to this, with this journal, of which so much is known to be held
abbrev pub store_at : {D : Type 0} → Tending → LoggedView D → List (Option ℕ) → StoreView D
store_at tending below held = record { below = below; held = held; tending = tending }

-- the graph that the handle sees: the committed graph, and on it the writes of its transaction
abbrev pub graph_of : {D : Type 0} → StoreView D → List Object
graph_of v = graph_in (state_of v.below)

-- the graph that the next transaction begins with
abbrev pub committed_of : {D : Type 0} → StoreView D → List Object
committed_of v = (state_of v.below).committed

-- a transaction is open, and the disk failed no call
abbrev pub is_live : {D : Type 0} → StoreView D → Bool
is_live v = is_none v.below.failed && is_some (open_in (state_of v.below))

-- no transaction is active
abbrev pub IsClosed : {D : Type 0} → StoreView D → Type 0
IsClosed v = IsQuiet (state_of v.below)

-- ---- references

-- the object that a register is known to hold
abbrev pub held_at : List (Option ℕ) → ℕ → Option ℕ
held_at held r = slice_index_or held r None

-- the transaction holds the reference: its register is known to hold its object
abbrev pub Holds : {D : Type 0} → StoreView D → Held → Type 0
Holds v h = held_at v.held h.register ≡ Some h.id

-- each reference that was held still is
abbrev pub StillHolds : {D : Type 0} → StoreView D → StoreView D → Type 0
StillHolds old new = (r id : ℕ) → held_at old.held r ≡ Some id → held_at new.held r ≡ Some id

-- a register is known to hold nothing
pub record HasRoom (held : List (Option ℕ)) : Type 0 where
  pub register : ℕ
  pub small : register < 8
  pub none : held_at held register ≡ None

-- each of the eight registers is known to hold an object
abbrev pub IsCrowded : List (Option ℕ) → Type 0
IsCrowded held = (r : ℕ) → r < 8 → held_at held r ≢ None

-- what a transaction holds that has just begun: the root, in register 0
abbrev pub only_root : List (Option ℕ)
only_root = Some root ∷ replicate 7 None

-- ---- what a store keeps

-- the client's transaction is open, register 0 holds the root, and what a register is known to hold it holds
pub record IsOpen {D : Type 0} (below : LoggedView D) (held : List (Option ℕ)) : Type 0 where
  pub alone : IsAlone (state_of below)
  pub rooted : held_at held 0 ≡ Some root
  pub known : (r id : ℕ) → held_at held r ≡ Some id → register_in (state_of below) r ≡ Some id

-- while the disk failed no call, no transaction is active, or that of the client alone
abbrev pub IsKept : {D : Type 0} → LoggedView D → List (Option ℕ) → Type 0
IsKept below held = below.failed ≡ None → IsQuiet (state_of below) ⊎ IsOpen below held
