-- Which record each event of a journal logs, as far as restart needs it.
use Rattle.std.specs.Prelude.{◌≡◌, ℕ, Bool, List, Option, Some, None, unwrap_or}
use Rattle.std.specs.Option.{option_map_or}
use Rattle.plain_model.specs.declared.calls.Call.{Call as TransactionCall}
use Rattle.plain_model.specs.declared.calls.Call.TheVariants.{Make as MakeCall, Store as StoreCall, SetPay, Commit as CommitCall, Abort}
use Rattle.plain_model.specs.declared.calls.Reply.{Reply}
use Rattle.plain_model.specs.declared.calls.Entry.{Entry}
use Rattle.plain_model.specs.declared.calls.Entry.TheVariants.{Call, Delete, Hidden, Undo as UndoEntry, TurnBusy}
use Rattle.plain_model.specs.ActiveTransaction.{ActiveTransaction}
use Rattle.plain_model.specs.Machine.{State, transaction_of, refusal_of, register_id, free_id}
use Rattle.cell_model.specs.Cells.{Cell, cell_at, pointer_at}
use Rattle.cell_model.specs.Records.{Record, Begin, Make, Store, Pay, Commit, AbortEnd, Weaken, Strengthen, Flip, CutDead, Free}
use Rattle.store_model.specs.Core.{Core}
use Rattle.restart_laws.specs.Unended.{Change, unended_at, IsLastChange}
use Rattle.restart_laws.specs.Restored.{undo_of}
use Rattle.restart_laws.specs.Told.{told}

-- what a call of a transaction logs that isn't refused
abbrev pub LogsIn : State → List Cell → ℕ → ActiveTransaction → TransactionCall → Option Record → Type 0
LogsIn s cells pass t (MakeCall into) logged = logged ≡ Some (Make pass (unwrap_or (free_id s) 0))
LogsIn s cells pass t (StoreCall r slot source) logged =
    (old_strong : Bool) × (bit : Bool) × (strong : Bool) × (logged ≡ Some (Store pass (register_id t r) slot (pointer_at cells (register_id t r) slot).target old_strong (option_map_or (register_id t) source 0) bit strong))
LogsIn s cells pass t (SetPay r value) logged = logged ≡ Some (Pay pass (register_id t r) (cell_at cells (register_id t r)).payload value)
LogsIn s cells pass t CommitCall logged = logged ≡ Some (Commit pass)
LogsIn s cells pass t Abort logged = logged ≡ Some (AbortEnd pass)
LogsIn s cells pass t _ logged = logged ≡ None

-- what a call logs: nothing where it is refused, and none but `Begin` is granted without a transaction
abbrev pub LogsCall : State → List Cell → ℕ → TransactionCall → Option Reply → Option ActiveTransaction → Option Record → Type 0
LogsCall s cells pass call (Some refusal) t logged = logged ≡ None
LogsCall s cells pass call None None logged = logged ≡ Some (Begin pass)
LogsCall s cells pass call None (Some t) logged = LogsIn s cells pass t call logged

-- an event of the collector logs nothing, or a record of this kind; that of a deletion stands apart
abbrev pub IsOfCollector : Option Record → Type 0
IsOfCollector None = Unit {0}
IsOfCollector (Some (Weaken id slot target)) = Unit {0}
IsOfCollector (Some (Strengthen id slot target)) = Unit {0}
IsOfCollector (Some (Flip id)) = Unit {0}
IsOfCollector (Some (CutDead id slot target was_strong)) = Unit {0}
IsOfCollector _ = ⊥

-- the event of the entry logs this
abbrev pub Logs : Core → Entry → Option Record → Type 0
Logs c (Call pass call reply) logged = LogsCall c.moment.state c.cells pass call (refusal_of c.moment.state pass call) (transaction_of c.moment.state pass) logged
Logs c (UndoEntry pass) logged = (ch : Change) × IsLastChange (unended_at (told c.moment) pass) ch × (logged ≡ Some (undo_of c.cells pass ch))
Logs c (Delete id) logged = logged ≡ Some (Free id)
Logs c Hidden logged = IsOfCollector logged
Logs c (TurnBusy pass) logged = logged ≡ None
Logs c _ logged = ⊥
