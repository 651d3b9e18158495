-- The laws of journals, call by call, in the words of the reference machine's own transition.
use Rattle.std.specs.Prelude.{◌≡◌, ◌≢◌, ℕ, ◌-◌, Bool, List, ◌++◌, count_by, Option, Some, None, unwrap_or}
use Rattle.std.specs.Option.{option_map_or}
use Rattle.plain_model.specs.declared.calls.Call.{Call as TransactionCall}
use Rattle.plain_model.specs.declared.calls.Call.TheVariants.{Begin, Read, Make, Store as StoreCall, GetPay, SetPay, Release, Commit, Abort}
use Rattle.plain_model.specs.declared.calls.Reply.{Reply}
use Rattle.plain_model.specs.declared.calls.Reply.TheVariants.{Done, Id, Pay as PayReply}
use Rattle.plain_model.specs.declared.calls.Entry.TheVariants.{Call}
use Rattle.plain_model.specs.Graphs.{applied}
use Rattle.plain_model.specs.ActiveTransaction.{ActiveTransaction}
use Rattle.plain_model.specs.Machine.{transaction_of, refusal_in, refusal_of, register_id, free_id, step}
use Rattle.plain_model.specs.History.{Moment, can_be_undone, next}
use Rattle.cell_model.specs.Cells.{Cell, cell_at, pointer_at}
use Rattle.cell_model.specs.Records.{Make as MakeRecord, Store, Pay, after_record, Fits, IsWellLaid}
use Rattle.store_model.specs.Core.{Ref, Core, slot_in, payload_in}
use Rattle.store_model.specs.Sound.{IsSound}
use Rattle.store_model.specs.Steps.{IsTouched, AreStoreReferences, AreReleaseReferences, AreLeftReferences, IsQueueLeft, after_make}

-- ---- a journal that collects nothing

-- ---- a journal with a collector

-- a journal with a collector stays sound where a client begins
abbrev pub JournalBeginLaw : Type 0
JournalBeginLaw = (c : Core) → IsSound c → (pass : ℕ) → transaction_of c.moment.state pass ≡ None → IsSound (record c { moment = next c.moment (Call pass Begin Done) })

-- a journal with a collector stays sound where a call is refused
abbrev pub JournalRefusalLaw : Type 0
JournalRefusalLaw = (c : Core) → IsSound c → (pass : ℕ) (call : TransactionCall) (reply : Reply) → refusal_of c.moment.state pass call ≡ Some reply → IsSound (record c { moment = next c.moment (Call pass call reply) })

-- a journal with a collector stays sound under a read of a slot
abbrev pub JournalReadLaw : Type 0
JournalReadLaw = (c : Core) → IsSound c → (pass : ℕ) (t : ActiveTransaction) → transaction_of c.moment.state pass ≡ Some t → (r slot into : ℕ) → refusal_in c.moment.state pass t (Read r slot into) ≡ None → (reply : Reply) → IsSound (record c { moment = next c.moment (Call pass (Read r slot into) reply) })

-- a journal with a collector stays sound under a read of a payload
abbrev pub JournalGetLaw : Type 0
JournalGetLaw = (c : Core) → IsSound c → (pass : ℕ) (t : ActiveTransaction) → transaction_of c.moment.state pass ≡ Some t → (r : ℕ) → refusal_in c.moment.state pass t (GetPay r) ≡ None → (reply : Reply) → IsSound (record c { moment = next c.moment (Call pass (GetPay r) reply) })

-- a journal with a collector stays sound where a client gives a shared lock back, and names what its registers hold
abbrev pub JournalReleaseLaw : Type 0
JournalReleaseLaw =
    (c : Core) → IsSound c → (pass : ℕ) (t : ActiveTransaction) → transaction_of c.moment.state pass ≡ Some t → (r : ℕ) (more : List Ref) → refusal_in c.moment.state pass t (Release r) ≡ None → AreReleaseReferences pass t more → (reply : Reply)
    → IsSound (record c { moment = next c.moment (Call pass (Release r) reply); refs = c.refs ++ more })

-- a journal with a collector stays sound under a write of a payload
abbrev pub JournalSetLaw : Type 0
JournalSetLaw =
    (c : Core) → IsSound c → (pass : ℕ) (t : ActiveTransaction) → transaction_of c.moment.state pass ≡ Some t → (r value old : ℕ) → refusal_in c.moment.state pass t (SetPay r value) ≡ None → Fits c.cells (Pay pass (register_id t r) old value) → (reply : Reply)
    → IsSound (record c { cells = after_record c.moment.state.slots c.cells (Pay pass (register_id t r) old value); moment = next c.moment (Call pass (SetPay r value) reply) })

-- a journal with a collector stays sound under a store
abbrev pub JournalStoreLaw : Type 0
JournalStoreLaw =
    (c : Core) → IsSound c → (pass : ℕ) (t : ActiveTransaction) → transaction_of c.moment.state pass ≡ Some t → (r slot : ℕ) (source : Option ℕ) (old : ℕ) (old_strong bit strong : Bool) (more : List Ref) → refusal_in c.moment.state pass t (StoreCall r slot source) ≡ None
    → Fits c.cells (Store pass (register_id t r) slot old old_strong (option_map_or (register_id t) source 0) bit strong) → IsWellLaid c.cells (Store pass (register_id t r) slot old old_strong (option_map_or (register_id t) source 0) bit strong)
    → AreStoreReferences pass old (option_map_or (register_id t) source 0) more
    → IsTouched c.round (register_id t r) → (old ≢ 0 → IsTouched c.round old) → (option_map_or (register_id t) source 0 ≢ 0 → IsTouched c.round (option_map_or (register_id t) source 0)) → (reply : Reply)
    → IsSound (record c { cells = after_record c.moment.state.slots c.cells (Store pass (register_id t r) slot old old_strong (option_map_or (register_id t) source 0) bit strong); moment = next c.moment (Call pass (StoreCall r slot source) reply); refs = c.refs ++ more })

-- a journal with a collector stays sound where an object is made, and the record of that fits
abbrev pub JournalMakeLaw : Type 0
JournalMakeLaw =
    (c : Core) → IsSound c → (pass : ℕ) (t : ActiveTransaction) → transaction_of c.moment.state pass ≡ Some t → (into : ℕ) → refusal_in c.moment.state pass t (Make into) ≡ None → (reply : Reply)
    → Fits c.cells (MakeRecord pass (unwrap_or (free_id c.moment.state) 0)) × IsSound (record (after_make c pass t into (unwrap_or (free_id c.moment.state) 0)) { moment = next c.moment (Call pass (Make into) reply) })

-- a journal with a collector stays sound under a commit, whether the disk fails it or not
abbrev pub JournalCommitLaw : Type 0
JournalCommitLaw =
    (c : Core) → IsSound c → (pass : ℕ) (t : ActiveTransaction) → transaction_of c.moment.state pass ≡ Some t → (left : List Ref) (queue : List ℕ) → AreLeftReferences c.refs pass left → IsQueueLeft c left queue → refusal_in c.moment.state pass t Commit ≡ None → (reply : Reply)
    → IsSound (record c { moment = next c.moment (Call pass Commit reply); refs = left; queue = queue })

-- a journal with a collector stays sound at the end of an abort, all writes being undone
abbrev pub JournalAbortLaw : Type 0
JournalAbortLaw =
    (c : Core) → IsSound c → (pass : ℕ) (t : ActiveTransaction) → transaction_of c.moment.state pass ≡ Some t → (left : List Ref) (queue : List ℕ) → AreLeftReferences c.refs pass left → IsQueueLeft c left queue → count_by can_be_undone t.writes - c.moment.undone pass ≡ 0 → (reply : Reply)
    → IsSound (record c { moment = next c.moment (Call pass Abort reply); refs = left; queue = queue })

-- in a journal with a collector, a read is answered by what the cell has in the slot
abbrev pub JournalReadReplyLaw : Type 0
JournalReadReplyLaw = (c : Core) → IsSound c → (pass : ℕ) (t : ActiveTransaction) → transaction_of c.moment.state pass ≡ Some t → (r slot into : ℕ) → refusal_in c.moment.state pass t (Read r slot into) ≡ None → (step c.moment.state pass (Read r slot into)).0 ≡ Id (pointer_at c.cells (register_id t r) slot).target

-- in a journal with a collector, a read of a payload is answered by the cell's
abbrev pub JournalGetReplyLaw : Type 0
JournalGetReplyLaw = (c : Core) → IsSound c → (pass : ℕ) (t : ActiveTransaction) → transaction_of c.moment.state pass ≡ Some t → (r : ℕ) → refusal_in c.moment.state pass t (GetPay r) ≡ None → (step c.moment.state pass (GetPay r)).0 ≡ PayReply (cell_at c.cells (register_id t r)).payload

-- in a journal with a collector, the slot that a store writes has what the client sees there
abbrev pub JournalOldLaw : Type 0
JournalOldLaw = (c : Core) → IsSound c → (pass : ℕ) (t : ActiveTransaction) → transaction_of c.moment.state pass ≡ Some t → (r slot : ℕ) (source : Option ℕ) → refusal_in c.moment.state pass t (StoreCall r slot source) ≡ None → slot_in (applied c.moment.state.slots c.moment.state.committed t.writes) (register_id t r) slot ≡ (pointer_at c.cells (register_id t r) slot).target

-- in a journal with a collector, the cell whose payload is written has the payload that the client sees
abbrev pub JournalOldPayLaw : Type 0
JournalOldPayLaw = (c : Core) → IsSound c → (pass : ℕ) (t : ActiveTransaction) → transaction_of c.moment.state pass ≡ Some t → (r value : ℕ) → refusal_in c.moment.state pass t (SetPay r value) ≡ None → payload_in (applied c.moment.state.slots c.moment.state.committed t.writes) (register_id t r) ≡ (cell_at c.cells (register_id t r)).payload
