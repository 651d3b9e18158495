-- The laws of a journal with a collector, where clients act: all that it keeps is kept.
use Rattle.std.specs.Prelude.{◌≡◌, ◌≢◌, ℕ, ◌+◌, ◌-◌, Bool, false, List, ◌∷◌, ◌++◌, count_by, Some, None, Contains}
use Rattle.plain_model.specs.declared.write.Place.TheVariants.{Slot, Payload}
use Rattle.plain_model.specs.declared.write.Write.{Write}
use Rattle.plain_model.specs.Graphs.{applied}
use Rattle.plain_model.specs.ActiveTransaction.{ActiveTransaction}
use Rattle.plain_model.specs.Machine.{transaction_of, seen_slot, seen_payload, blocks_sharing, blocks_owning}
use Rattle.plain_model.specs.Outcomes.{IsReachableInSomeOutcome}
use Rattle.plain_model.specs.History.{Moment, can_be_undone}
use Rattle.cell_model.specs.Cells.{cell_at, pointer_at}
use Rattle.cell_model.specs.Records.{Make, Store, Pay, Undo, UndoPay, after_record, Fits, IsWellLaid}
use Rattle.store_model.specs.Core.{Ref, Core, slot_in, payload_in}
use Rattle.store_model.specs.Sound.{IsCurrent, IsSound}
use Rattle.store_model.specs.Fresh.{fresh_core}
use Rattle.store_model.specs.Steps.{IsOnlyWriter, IsTouched, AreStoreReferences, store_references, AreReleaseReferences, release_references, release_by, AreLeftReferences, references_left, IsQueueLeft, Joins, read_by, get_by, set_by, store_by, after_transaction, after_begin, after_make, after_undo, committed_core, aborted_core}

-- a fresh store is sound
abbrev pub FreshLaw : Type 0
FreshLaw = (slots more : ℕ) → IsSound (fresh_core slots more)

-- only the state and the counts of undone writes of a moment matter
abbrev pub MomentLaw : Type 0
MomentLaw = (c : Core) (n : Moment) → n.state ≡ c.moment.state → n.undone ≡ c.moment.undone → IsSound c → IsSound (record c { moment = n })

-- a client sees in a slot what its cell has there
abbrev pub SlotLaw : Type 0
SlotLaw = (c : Core) → IsSound c → (pass : ℕ) (t : ActiveTransaction) → transaction_of c.moment.state pass ≡ Some t → (id : ℕ) → t.aborting ≡ false → Contains t.registers (Some id) → IsOnlyWriter c.moment.state pass id → (slot : ℕ) → seen_slot c.moment.state t id slot ≡ (pointer_at c.cells id slot).target

-- a client sees as the payload what the cell has
abbrev pub PayloadLaw : Type 0
PayloadLaw = (c : Core) → IsSound c → (pass : ℕ) (t : ActiveTransaction) → transaction_of c.moment.state pass ≡ Some t → (id : ℕ) → t.aborting ≡ false → Contains t.registers (Some id) → IsOnlyWriter c.moment.state pass id → seen_payload c.moment.state t id ≡ (cell_at c.cells id).payload

-- what is reachable in some outcome is live, and its cell has its contents
abbrev pub NeededLaw : Type 0
NeededLaw = (c : Core) → IsSound c → (id : ℕ) → IsReachableInSomeOutcome c.moment.state id → IsCurrent c id

-- ---- calls

-- the journal stays sound where a client begins
abbrev pub BeginLaw : Type 0
BeginLaw = (c : Core) → IsSound c → (pass : ℕ) → transaction_of c.moment.state pass ≡ None → IsSound (after_begin c pass)

-- the journal stays sound where a client reads a slot
abbrev pub ReadLaw : Type 0
ReadLaw =
    (c : Core) → IsSound c → (pass : ℕ) (t : ActiveTransaction) → transaction_of c.moment.state pass ≡ Some t → (id slot into : ℕ) → t.aborting ≡ false → Contains t.registers (Some id) → blocks_sharing c.moment.state pass id ≡ None
    → IsSound (after_transaction c pass (read_by c.moment.state t id slot into) c.cells c.refs)

-- the journal stays sound where a client reads a payload
abbrev pub GetLaw : Type 0
GetLaw = (c : Core) → IsSound c → (pass : ℕ) (t : ActiveTransaction) → transaction_of c.moment.state pass ≡ Some t → (id : ℕ) → t.aborting ≡ false → Contains t.registers (Some id) → blocks_sharing c.moment.state pass id ≡ None → IsSound (after_transaction c pass (get_by t id) c.cells c.refs)

-- the journal stays sound where a client writes a payload
abbrev pub SetLaw : Type 0
SetLaw =
    (c : Core) → IsSound c → (pass : ℕ) (t : ActiveTransaction) → transaction_of c.moment.state pass ≡ Some t → (id : ℕ) → t.aborting ≡ false → Contains t.registers (Some id) → (old value : ℕ) → blocks_owning c.moment.state pass id ≡ None → Fits c.cells (Pay pass id old value)
    → IsSound (after_transaction c pass (set_by t id value) (after_record c.moment.state.slots c.cells (Pay pass id old value)) c.refs)

-- the journal stays sound where a client stores an id from a register, or 0, into a slot; the objects that the record concerns
-- are marked as touched, where they were copied
abbrev pub StoreLaw : Type 0
StoreLaw =
    (c : Core) → IsSound c → (pass : ℕ) (t : ActiveTransaction) → transaction_of c.moment.state pass ≡ Some t → (id slot old target : ℕ) (old_strong bit strong : Bool) (more : List Ref) → t.aborting ≡ false → Contains t.registers (Some id) → (target ≢ 0 → Contains t.registers (Some target)) → blocks_owning c.moment.state pass id ≡ None
    → Fits c.cells (Store pass id slot old old_strong target bit strong) → IsWellLaid c.cells (Store pass id slot old old_strong target bit strong) → AreStoreReferences pass old target more
    → IsTouched c.round id → (old ≢ 0 → IsTouched c.round old) → (target ≢ 0 → IsTouched c.round target)
    → IsSound (after_transaction c pass (store_by t id slot target) (after_record c.moment.state.slots c.cells (Store pass id slot old old_strong target bit strong)) (c.refs ++ more))

-- the references that a store adds are those that the law of stores asks for
abbrev pub StoreReferencesLaw : Type 0
StoreReferencesLaw = (pass old target : ℕ) → AreStoreReferences pass old target (store_references pass old target)

-- the journal stays sound where a client gives a shared lock back, and names what its registers hold
abbrev pub ReleaseLaw : Type 0
ReleaseLaw =
    (c : Core) → IsSound c → (pass : ℕ) (t : ActiveTransaction) → transaction_of c.moment.state pass ≡ Some t → (id : ℕ) (more : List Ref) → AreReleaseReferences pass t more
    → IsSound (after_transaction c pass (release_by t id) c.cells (c.refs ++ more))

-- the references that such a client adds are those that this law asks for
abbrev pub ReleaseReferencesLaw : Type 0
ReleaseReferencesLaw = (pass : ℕ) (t : ActiveTransaction) → AreReleaseReferences pass t (release_references pass t.registers)

-- the journal stays sound where a client makes an object
abbrev pub MakeLaw : Type 0
MakeLaw = (c : Core) → IsSound c → (pass : ℕ) (t : ActiveTransaction) → transaction_of c.moment.state pass ≡ Some t → (into id : ℕ) → t.aborting ≡ false → Fits c.cells (Make pass id) → IsSound (after_make c pass t into id)

-- ---- undoes and ends

-- the journal stays sound where the last slot write of a client that isn't undone is undone, by what the client saw there before
-- the write
abbrev pub UndoLaw : Type 0
UndoLaw =
    (c : Core) → IsSound c → (pass : ℕ) (t : ActiveTransaction) → transaction_of c.moment.state pass ≡ Some t → (earlier later : List Write) (id value slot : ℕ) (from_strong bit : Bool) (to : ℕ) → t.writes ≡ earlier ++ record { id = id; place = Slot slot; value = value } ∷ later
    → count_by can_be_undone t.writes - c.moment.undone pass ≡ count_by can_be_undone earlier + 1 → to ≡ slot_in (applied c.moment.state.slots c.moment.state.committed earlier) id slot → Fits c.cells (Undo pass id slot value from_strong to bit)
    → IsTouched c.round id → (value ≢ 0 → IsTouched c.round value) → (to ≢ 0 → IsTouched c.round to) → IsSound (after_undo c pass (after_record c.moment.state.slots c.cells (Undo pass id slot value from_strong to bit)))

-- the journal stays sound where the last payload write of a client that isn't undone is undone, by what the client saw there
-- before the write
abbrev pub UndoPayLaw : Type 0
UndoPayLaw =
    (c : Core) → IsSound c → (pass : ℕ) (t : ActiveTransaction) → transaction_of c.moment.state pass ≡ Some t → (earlier later : List Write) (id value to : ℕ) → t.writes ≡ earlier ++ record { id = id; place = Payload; value = value } ∷ later
    → count_by can_be_undone t.writes - c.moment.undone pass ≡ count_by can_be_undone earlier + 1 → to ≡ payload_in (applied c.moment.state.slots c.moment.state.committed earlier) id → Fits c.cells (UndoPay pass id value to)
    → IsSound (after_undo c pass (after_record c.moment.state.slots c.cells (UndoPay pass id value to)))

-- the journal stays sound where a client commits; its references go, and the queue takes what would be known to nobody
abbrev pub CommitLaw : Type 0
CommitLaw = (c : Core) → IsSound c → (pass : ℕ) (t : ActiveTransaction) → transaction_of c.moment.state pass ≡ Some t → (left : List Ref) (queue : List ℕ) → AreLeftReferences c.refs pass left → IsQueueLeft c left queue → t.aborting ≡ false → IsSound (committed_core c pass t left queue)

-- the journal stays sound where an abort ends, all writes of the client being undone; its references go, and the queue takes what
-- would be known to nobody
abbrev pub AbortLaw : Type 0
AbortLaw =
    (c : Core) → IsSound c → (pass : ℕ) (t : ActiveTransaction) → transaction_of c.moment.state pass ≡ Some t → (left : List Ref) (queue : List ℕ) → AreLeftReferences c.refs pass left → IsQueueLeft c left queue → count_by can_be_undone t.writes - c.moment.undone pass ≡ 0 → IsSound (aborted_core c pass left queue)

-- the references without the client's are those that the laws of the ends ask for
abbrev pub LeftReferencesLaw : Type 0
LeftReferencesLaw = (refs : List Ref) (pass : ℕ) → AreLeftReferences refs pass (references_left refs pass)

-- the queue is the one that the laws of the ends ask for, where what the client alone named joins it
abbrev pub QueueLeftLaw : Type 0
QueueLeftLaw = (c : Core) → IsSound c → (pass : ℕ) (left : List Ref) → AreLeftReferences c.refs pass left → (joined : List ℕ) → Joins c pass left joined → IsQueueLeft c left (c.queue ++ joined)
