-- What a client alone sees, and what its calls do to it.
use Rattle.std.specs.Prelude.{◌≡◌, ◌≢◌, ℕ, List, [], ◌∷◌, Option, Some, None, slice_index_or, unwrap_or, false}
use Rattle.plain_model.specs.declared.object.Object.{Object}
use Rattle.plain_model.specs.declared.write.Place.{Place}
use Rattle.plain_model.specs.declared.write.Place.TheVariants.{Whole}
use Rattle.plain_model.specs.Graphs.{object_at, has_object, after_place}
use Rattle.plain_model.specs.ActiveTransaction.{ActiveTransaction}
use Rattle.std.specs.Option.{option_map_or}
use Rattle.plain_model.specs.Machine.{State, own_graph, transaction_of}
use Rattle.plain_laws.specs.Sound.{IsSoundState}

-- the graph that a transaction sees, and its registers
pub record Seen : Type 0 where
  -- each object has so many slots
  pub slots : ℕ
  pub graph : List Object
  pub registers : List (Option ℕ)

-- what the transaction of a client sees
abbrev pub seen_by : State → ActiveTransaction → Seen
seen_by s t = record { slots = s.slots; graph = own_graph s t; registers = t.registers }

-- the object of an id
abbrev pub at : Seen → ℕ → Option Object
at v id = object_at v.graph id

-- the id that a register holds, where it isn't empty
abbrev pub held : Seen → ℕ → Option ℕ
held v r = slice_index_or v.registers r None

-- the id that a register holds, or 0 where it is empty
abbrev pub held_id : Seen → ℕ → ℕ
held_id v r = unwrap_or (held v r) 0

-- the graph stays, and one register at most gets another id
pub record Loads (into : ℕ) (id : Option ℕ) (old new : Seen) : Type 0 where
  pub slots : new.slots ≡ old.slots
  pub graph : new.graph ≡ old.graph
  pub here : held new into ≡ id
  pub others : (r : ℕ) → r ≢ into → held new r ≡ held old r

-- the graph and register 0 stay
pub record Keeps (old new : Seen) : Type 0 where
  pub graph : new.graph ≡ old.graph
  pub rooted : held new 0 ≡ held old 0

-- one write is made, and the registers stay
pub record Writes (id : ℕ) (place : Place) (value : ℕ) (old new : Seen) : Type 0 where
  pub slots : new.slots ≡ old.slots
  pub graph : new.graph ≡ after_place old.slots old.graph id place value
  pub registers : new.registers ≡ old.registers

-- a new object is put under a free id, which a register gets
pub record Makes (into id : ℕ) (old new : Seen) : Type 0 where
  pub slots : new.slots ≡ old.slots
  pub named : id ≢ 0
  pub free : has_object old.graph id ≡ false
  pub graph : new.graph ≡ after_place old.slots old.graph id Whole 0
  pub here : held new into ≡ Some id
  pub others : (r : ℕ) → r ≢ into → held new r ≡ held old r

-- what the client sees, where it has a transaction
abbrev pub seen_of : State → ℕ → Seen
seen_of s pass = option_map_or (λ t. seen_by s t) (transaction_of s pass) (record { slots = s.slots; graph = []; registers = [] })

-- the client has a transaction, which isn't aborting, and no other client has one
pub record HasOnly (s : State) (pass : ℕ) : Type 0 where
  pub transaction : ActiveTransaction
  pub active : s.active ≡ (pass, transaction) ∷ []
  pub running : transaction.aborting ≡ false

-- the same, and the state is sound
pub record IsAlone (s : State) (pass : ℕ) : Type 0 where
  pub transaction : ActiveTransaction
  pub active : s.active ≡ (pass, transaction) ∷ []
  pub running : transaction.aborting ≡ false
  pub sound : IsSoundState s
