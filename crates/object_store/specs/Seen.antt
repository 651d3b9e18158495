-- What the one client of a store sees of the reference machine.
use Rattle.std.specs.Prelude.{◌≡◌, ℕ, List, [], ◌∷◌, Option, None, false, slice_index}
use Rattle.std.specs.Option.{option_map_or}
use Rattle.plain_model.specs.declared.object.Object.{Object}
use Rattle.plain_model.specs.Graphs.{object_at}
use Rattle.plain_model.specs.ActiveTransaction.{ActiveTransaction}
use Rattle.plain_model.specs.Machine.{State, transaction_of, own_graph, register}
use Rattle.plain_model.specs.History.{end_of}
use Rattle.plain_laws.specs.Sound.{IsSoundState}
use Rattle.logged_journal.specs.View.{LoggedView}

-- each object has so many slots
abbrev pub object_slots : ℕ
object_slots = 14

-- the number by which the store below knows its one client
abbrev pub client : ℕ
client = 1

-- the state of the reference machine at the end of the store's history
abbrev pub state_of : {D : Type 0} → LoggedView D → State
state_of v = (end_of v.journal.history).state

-- the open transaction, where one is open
abbrev pub open_in : State → Option ActiveTransaction
open_in s = transaction_of s client

-- the graph that is seen: the committed graph, and on it the writes of the open transaction
abbrev pub graph_in : State → List Object
graph_in s = option_map_or (λ t. own_graph s t) (open_in s) s.committed

-- the id in a register of the open transaction
abbrev pub register_in : State → ℕ → Option ℕ
register_in s r = option_map_or (λ t. register t r) (open_in s) None

-- what a slot of an object of the graph holds: an id, or 0
abbrev pub slot_in : List Object → ℕ → ℕ → ℕ
slot_in g id slot = option_map_or (λ o. slice_index o.slots slot) (object_at g id) 0

-- the payload of an object of the graph
abbrev pub payload_in : List Object → ℕ → ℕ
payload_in g id = option_map_or (λ o. o.payload) (object_at g id) 0

-- no transaction is active
abbrev pub IsQuiet : State → Type 0
IsQuiet s = s.active ≡ []

-- the client's transaction is the only active one, it isn't aborting, and the state is sound
pub record IsAlone (s : State) : Type 0 where
  pub transaction : ActiveTransaction
  pub active : s.active ≡ (client, transaction) ∷ []
  pub running : transaction.aborting ≡ false
  pub sound : IsSoundState s

-- the disk failed no call, and the client has the only transaction
pub record IsLive {D : Type 0} (v : LoggedView D) : Type 0 where
  pub running : v.failed ≡ None
  pub alone : IsAlone (state_of v)
