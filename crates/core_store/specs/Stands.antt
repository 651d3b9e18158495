-- How what a journal keeps, and the cells in its pages, stand for a moment of the reference machine.
use Rattle.std.specs.Prelude.{◌≡◌, ◌≢◌, ℕ, ◌+◌, ◌<◌, ◌≤◌, Bool, true, false, not, ◌&&◌, nat_lt, nat_le, List, length, take, map, count_by, slice_index, Contains, Option, Some, None, IfSome, option_map}
use Rattle.std.specs.List.{list_any}
use Rattle.std.specs.Option.{option_map_or}
use Rattle.std.specs.Ordering.{nat_cmp}
use Rattle.std.specs.BTreeMap.{is_at}
use Rattle.plain_model.specs.declared.object.Object.{Object}
use Rattle.plain_model.specs.declared.write.Place.{Place}
use Rattle.plain_model.specs.declared.write.Place.TheVariants.{Slot, Payload, Whole}
use Rattle.plain_model.specs.declared.write.Write.{Write}
use Rattle.plain_model.specs.declared.calls.Call.{Call as TransactionCall}
use Rattle.plain_model.specs.declared.calls.Reply.{Reply}
use Rattle.plain_model.specs.declared.calls.Entry.TheVariants.{Call, Undo}
use Rattle.plain_model.specs.ActiveTransaction.{ActiveTransaction}
use Rattle.plain_model.specs.Machine.{State, step, transaction_of, is_among, is_stored}
use Rattle.plain_model.specs.History.{can_be_undone, undoable, left_to_undo}
use Rattle.plain_model.specs.declared.calls.Call.TheVariants.{Abort}
use Rattle.plain_model.specs.declared.calls.Reply.TheVariants.{Done}
use Rattle.strict_locks.specs.Locks.{holders_of, is_owner, is_sharer}
use Rattle.cell_page.specs.Format.{IsSlotCount}
use Rattle.green_walk.specs.declared.green_at.GreenAt.TheVariants.{Out}
use Rattle.green_walk.specs.declared.green_at.Test.{Test}
use Rattle.green_walk.specs.Greening.{Greening, next as next_of_green}
use Rattle.cell_model.specs.Cells.{Cell, cell_at, is_live, pointer_at}
use Rattle.store_model.specs.Core.{Core}
use Rattle.store_model.specs.Sound.{IsSound}
use Rattle.log_record.specs.declared.cell_record.CellRecord.{CellRecord}
use Rattle.log_record.specs.declared.cell_record.CellRecord.TheVariants.{AbortEnd}
use Rattle.log_record.specs.Records.{FitsCells, LaysWell}
use Rattle.core_store.specs.declared.three.HeldFrame.{HeldFrame}
use Rattle.core_store.specs.Frames.{Agree, IsSameElsewhere}
use Rattle.core_store.specs.Changes.{is_counted_strong, has_no_strong}
use Rattle.core_store.specs.Replaced.{replaced, next_to_restore}
use Rattle.core_store.specs.Logged.{logged_by, logged_by_undo, after_logged}
use Rattle.core_store.specs.Transactions.{Running, running_at}
use Rattle.core_store.specs.References.{named_by}
use Rattle.core_store.specs.RoundView.{RoundView, Closed, Walking, Sweeping, round_of, touched_by_record, IsInStep}
use Rattle.core_store.specs.Events.{after_event}
use Rattle.core_store.specs.Saved.{AreSaved}
use Rattle.core_store.specs.Owed.{entries_owed}
use Rattle.core_store.specs.Tables.{TablesView}

-- ---- one transaction

-- what is kept of a transaction of the machine, so many of whose writes are undone; it runs over this committed graph
pub record IsRunning (slots : ℕ) (g : List Object) (kept : Running) (t : ActiveTransaction) (undone : ℕ) : Type 0 where
  pub registers : kept.registers ≡ t.registers
  pub aborting : kept.aborting ≡ t.aborting
  pub left : length kept.replaced + undone ≡ count_by can_be_undone t.writes
  pub replaced : kept.replaced ≡ take (length kept.replaced) (replaced slots g t.writes)

-- a client has a transaction in both, or in neither
abbrev pub Matches : ℕ → List Object → Option Running → Option ActiveTransaction → ℕ → Type 0
Matches slots g None None undone = Unit {0}
Matches slots g (Some kept) (Some t) undone = IsRunning slots g kept t undone
Matches slots g _ _ undone = ⊥

-- the transaction owns the object, shares it
abbrev pub owns_in : Option ActiveTransaction → ℕ → Bool
owns_in found id = option_map_or (λ t. is_among id t.owned) found false

abbrev pub shares_in : Option ActiveTransaction → ℕ → Bool
shares_in found id = option_map_or (λ t. is_among id t.shared) found false

-- an id of the store that isn't stored
abbrev pub is_free : State → ℕ → Bool
is_free s id = nat_lt 0 id && nat_le id s.ids && not (is_stored s.stored id)

-- what a write replaced can be laid again: its object is live, its slot is there, and what it names is live
abbrev pub CanLay : ℕ → List Cell → Write → Type 0
CanLay slots cells w = (is_live cells w.id ≡ true) × by w.place w.value
  where
    by : Place → ℕ → Type 0
    by (Slot slot) value = (slot < slots) × (value ≢ 0 → is_live cells value ≡ true)
    by Payload value = Unit {0}
    by Whole value = ⊥

-- ---- all together

-- how many ids a store has at most
abbrev pub most_ids : ℕ
most_ids = 8192

-- in a sweep the slots that it has passed are null: all of the objects before its own that weren't freed, and the first ones of
-- that
abbrev pub IsEmptied : List Cell → RoundView → Type 0
IsEmptied cells Closed = Unit {0}
IsEmptied cells (Walking w) = Unit {0}
IsEmptied cells (Sweeping w s slot g) =
    ((place k : ℕ) → s.freed ≤ place → place < s.emptied → place < length s.list → (pointer_at cells (slice_index s.list place) k).target ≡ 0)
    × ((k : ℕ) → s.emptied < length s.list → k < slot → (pointer_at cells (slice_index s.list s.emptied) k).target ≡ 0)

-- a test of an object out of which no strong pointer was found to lead: none leads to it, the slots that were looked at hold
-- none, and where it is at a slot of a green object, this names the tested one
pub record IsTestedIn (cells : List Cell) (g : Greening) (t : Test) : Type 0 where
  pub zero : has_no_strong (cell_at cells t.id) ≡ true
  pub none : (k : ℕ) → k < t.slot → is_counted_strong cells (pointer_at cells t.id k) ≡ false
  pub named : («from» slot : ℕ) → next_of_green g ≡ Out «from» slot → (pointer_at cells «from» slot).target ≡ t.id

-- what a test has found so far holds of the cells, and so does what looks are saved by
abbrev pub IsTested : List Cell → RoundView → Type 0
IsTested cells (Sweeping w s slot g) = IfSome g.test (IsTestedIn cells g) × AreSaved cells s g
IsTested cells _ = Unit {0}

-- the tables stand for the journal, in a store whose objects have so many slots
pub record Stands (slots : ℕ) (v : TablesView) (c : Core) : Type 0 where
  pub ids : c.moment.state.ids ≡ v.ids
  pub few : v.ids ≤ most_ids
  pub slots_are : c.moment.state.slots ≡ slots
  pub counted : IsSlotCount slots
  -- counts are exact, strong pointers form no cycle, each cell has what the committed graph with all writes not undone gives it,
  -- and whatever may be needed is spared
  pub sound : IsSound c
  pub running : (pass : ℕ) → Matches slots c.moment.state.committed (running_at v.transactions pass) (transaction_of c.moment.state pass) (c.moment.undone pass)
  pub restorable : (pass : ℕ) (kept : Running) → running_at v.transactions pass ≡ Some kept → (w : Write) → Contains kept.replaced w → CanLay slots c.cells w
  pub owners : (id pass : ℕ) → is_owner (holders_of v.locks id) pass ≡ owns_in (transaction_of c.moment.state pass) id
  pub sharers : (id pass : ℕ) → is_sharer (holders_of v.locks id) pass ≡ shares_in (transaction_of c.moment.state pass) id
  pub free : (id : ℕ) → list_any (is_at (nat_cmp id)) v.free ≡ is_free c.moment.state id
  -- the marks are those of the cells
  pub zeros : v.zeros ≡ map has_no_strong c.cells
  -- the references, the queue and the round are the journal's
  pub references : (pass : ℕ) → v.references pass ≡ named_by c.refs pass
  pub queue : v.queue ≡ c.queue
  pub round : round_of v.round ≡ c.round
  pub in_step : IsInStep slots v.ids v.round
  pub emptied : IsEmptied c.cells v.round
  pub tested : IsTested c.cells v.round
  -- what is owed is what the active transactions owe
  pub owed : v.owed ≡ entries_owed c.moment

-- ---- events

-- from cells with these held pages to the cells after what was logged
pub record Moves (slots : ℕ) (cells : List Cell) (held new : List (HeldFrame slots)) (logged : Option CellRecord) : Type 0 where
  -- the record fits the cells, and a strong pointer that it lays closes no cycle
  pub fits : IfSome logged (FitsCells cells)
  pub lays : IfSome logged (LaysWell cells)
  -- the held pages are those of the cells after it, and all others stay
  pub agree : Agree (after_logged slots cells logged) new
  pub elsewhere : IsSameElsewhere cells (after_logged slots cells logged) held

-- the reply and the record are those of the call, and the new tables stand for the journal after it
pub record Answers (slots : ℕ) (v w : TablesView) (c : Core) (held new : List (HeldFrame slots)) (pass : ℕ) (call : TransactionCall) (reply : Reply) (logged : Option CellRecord) : Type 0 where
  pub machine : reply ≡ (step c.moment.state pass call).0
  pub record_is : logged ≡ logged_by c.moment.state c.cells pass call
  pub moves : Moves slots c.cells held new logged
  pub stands : Stands slots w (after_event slots c (Call pass call reply) logged)
  -- the objects that the record concerns are touched, and nothing else happens to the round
  pub round : w.round ≡ touched_by_record v.round logged

-- whatever the tables and the held pages stand for, the call is done as the machine does it
abbrev pub DoesCall : (slots : ℕ) → TablesView → TablesView → List (HeldFrame slots) → List (HeldFrame slots) → ℕ → TransactionCall → Reply → Option CellRecord → Type 0
DoesCall slots v w held new pass call reply logged = (c : Core) → Stands slots v c → Agree c.cells held → Answers slots v w c held new pass call reply logged

-- one write of the client is undone, with this record
pub record Undoes (slots : ℕ) (v w : TablesView) (c : Core) (held new : List (HeldFrame slots)) (pass : ℕ) (logged : CellRecord) : Type 0 where
  pub some_left : 0 < left_to_undo c.moment pass
  pub record_is : Some logged ≡ option_map (logged_by_undo c.cells pass) (next_to_restore c.moment pass)
  pub moves : Moves slots c.cells held new (Some logged)
  pub stands : Stands slots w (after_event slots c (Undo pass) (Some logged))
  pub round : w.round ≡ touched_by_record v.round (Some logged)

abbrev pub UndoesOne : (slots : ℕ) → TablesView → TablesView → List (HeldFrame slots) → List (HeldFrame slots) → ℕ → CellRecord → Type 0
UndoesOne slots v w held new pass logged = (c : Core) → Stands slots v c → Agree c.cells held → Undoes slots v w c held new pass logged

-- all writes of the client are undone, and its transaction has ended
pub record Ended (slots : ℕ) (v w : TablesView) (c : Core) (pass : ℕ) : Type 0 where
  pub all_undone : c.moment.undone pass ≡ undoable c.moment.state pass
  pub machine : Done ≡ (step c.moment.state pass Abort).0
  pub stands : Stands slots w (after_event slots c (Call pass Abort Done) (Some (AbortEnd pass)))
  pub round : w.round ≡ v.round

abbrev pub EndsAbort : ℕ → TablesView → TablesView → ℕ → Type 0
EndsAbort slots v w pass = (c : Core) → Stands slots v c → Ended slots v w c pass
