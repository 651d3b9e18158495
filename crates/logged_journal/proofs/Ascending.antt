-- In every moment of every history the clients ascend.
use Rattle.std.proofs.Common.{ℕ, List, [], ◌∷◌, Option, Some, None}
use Rattle.std.specs.Prelude.{unwrap_or}
use Rattle.std.specs.Option.{option_map_or}
use Rattle.plain_model.specs.declared.calls.Call.{Call as TransactionCall}
use Rattle.plain_model.specs.declared.calls.Call.TheVariants as call
use Rattle.plain_model.specs.declared.calls.Reply.{Reply}
use Rattle.plain_model.specs.declared.calls.Entry.{Entry}
use Rattle.plain_model.specs.declared.calls.Entry.TheVariants.{Call, Delete, Hidden, Undo, TurnBusy, Crash}
use Rattle.plain_model.specs.ActiveTransaction.{ActiveTransaction}
use Rattle.plain_model.specs.Machine.{State, step, success, refusal_of, transaction_of, new_transaction}
use Rattle.plain_model.specs.History.{Moment, History, next, moment_after, start_of, end_of}
use Rattle.plain_laws.specs.Sound.{PassesAscend}
use Rattle.plain_laws.proofs.Entries.{ascend-insert, ascend-remove}
use Rattle.plain_laws.proofs.Locks.{ascend-undo}

ascend-success : (s : State) (pass : ℕ) (t : ActiveTransaction) (c : TransactionCall) → PassesAscend s.active → PassesAscend (success s pass t c).1.active
ascend-success s pass t call.Begin a = ascend-insert pass _ s.active a
ascend-success s pass t (call.Read r slot into) a = ascend-insert pass _ s.active a
ascend-success s pass t (call.Make into) a = ascend-insert pass _ s.active a
ascend-success s pass t (call.Store r slot source) a = ascend-insert pass _ s.active a
ascend-success s pass t (call.GetPay r) a = ascend-insert pass _ s.active a
ascend-success s pass t (call.Release r) a = ascend-insert pass _ s.active a
ascend-success s pass t (call.SetPay r value) a = ascend-insert pass _ s.active a
ascend-success s pass t call.Commit a = ascend-remove pass s.active a
ascend-success s pass t call.Abort a = ascend-remove pass s.active a

ascend-step : (s : State) (pass : ℕ) (c : TransactionCall) → PassesAscend s.active → PassesAscend (step s pass c).1.active
unfolding step
ascend-step s pass c a =
    elim (refusal_of s pass c) as (λ (o : Option Reply). PassesAscend (option_map_or (λ reply. (reply, s)) o (success s pass (unwrap_or (transaction_of s pass) new_transaction) c)).1.active)
    [ Some r ↦ a | None ↦ ascend-success s pass (unwrap_or (transaction_of s pass) new_transaction) c a ]

ascend-next : (m : Moment) (e : Entry) → PassesAscend m.state.active → PassesAscend (next m e).state.active
ascend-next m (Call pass c reply) a = ascend-step m.state pass c a
ascend-next m (Delete id) a = a
ascend-next m Hidden a = a
ascend-next m (Undo pass) a = ascend-undo m.state pass a
ascend-next m (TurnBusy pass) a = a
ascend-next m (Crash cells) a = tt

ascend-after : (m : Moment) (es : List Entry) → PassesAscend m.state.active → PassesAscend (moment_after m es).state.active
ascend-after m [] a = a
ascend-after m (e ∷ es) a = ascend-after (next m e) es (ascend-next m e a)

pub ascends : (h : History) → PassesAscend (end_of h).state.active
ascends h = ascend-after (start_of h) h.entries tt
