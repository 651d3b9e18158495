-- Clients are told by numbers from 1 to 64.
use Rattle.std.proofs.Common.{◌≡◌, ◌≢◌, ℕ, ⊎_elim, refl, sym, subst, Option, Some, None}
use Rattle.std.specs.Prelude.{IsSome, unwrap_or}
use Rattle.std.specs.Option.{option_map_or}
use Rattle.std.proofs.lemmas.Bool.{cases_eq}
use Rattle.plain_model.specs.declared.calls.Call.{Call as TransactionCall}
use Rattle.plain_model.specs.declared.calls.Call.TheVariants.{Begin, Read, Make, Store, GetPay, Release, SetPay, Commit, Abort}
use Rattle.plain_model.specs.declared.calls.Reply.{Reply}
use Rattle.plain_model.specs.declared.calls.Entry.{Entry}
use Rattle.plain_model.specs.declared.calls.Entry.TheVariants.{Call, Delete, Hidden, Undo, TurnBusy, Crash}
use Rattle.plain_model.specs.ActiveTransaction.{ActiveTransaction}
use Rattle.plain_model.specs.Machine.{State, step, success, refusal_of, transaction_of, new_transaction}
use Rattle.plain_model.specs.History.{Moment, next}
use Rattle.plain_laws.proofs.Locks.{transaction_of-with_other, transaction_of-without_other, transaction_of-undo_other}
use Rattle.log_record.specs.Spelling.{IsPass}
use Rattle.log_record.specs.declared.cell_record.CellRecord.{CellRecord}
use Rattle.log_record.specs.declared.cell_record.CellRecord.TheVariants as logs
use Rattle.core_store.specs.Clients.{AreNumbered, IsNumbered}
use Rattle.core_store.specs.Collects.{entry_of}

-- a call leaves the transactions of other clients
success-other : (s : State) (pass : ℕ) (t : ActiveTransaction) (call : TransactionCall) (q : ℕ) → q ≢ pass → transaction_of (success s pass t call).1 q ≡ transaction_of s q
success-other s pass t Begin q n = transaction_of-with_other s pass q _ n
success-other s pass t (Read r slot into) q n = transaction_of-with_other s pass q _ n
success-other s pass t (GetPay r) q n = transaction_of-with_other s pass q _ n
success-other s pass t (Release r) q n = transaction_of-with_other s pass q _ n
success-other s pass t (Store r slot source) q n = transaction_of-with_other s pass q _ n
success-other s pass t (SetPay r value) q n = transaction_of-with_other s pass q _ n
success-other s pass t (Make into) q n = transaction_of-with_other s pass q _ n
success-other s pass t Commit q n = transaction_of-without_other s pass q n
success-other s pass t Abort q n = transaction_of-without_other s pass q n

pub step-other : (s : State) (pass : ℕ) (call : TransactionCall) (q : ℕ) → q ≢ pass → transaction_of (step s pass call).1 q ≡ transaction_of s q
unfolding step
step-other s pass call q n = by (refusal_of s pass call)
  where
    by : (o : Option Reply) → transaction_of (option_map_or (λ reply. (reply, s)) o (success s pass (unwrap_or (transaction_of s pass) new_transaction) call)).1 q ≡ transaction_of s q
    by (Some reply) = refl
    by None = success-other s pass (unwrap_or (transaction_of s pass) new_transaction) call q n

-- an event of a numbered client leaves the active clients numbered
numbered-by : (m w : Moment) (pass : ℕ) → AreNumbered m → IsPass pass → ((q : ℕ) → q ≢ pass → transaction_of w.state q ≡ transaction_of m.state q) → AreNumbered w
numbered-by m w pass k p others q active =
    ⊎_elim
    (λ (e : q ≡ pass). subst IsPass (sym e) p)
    (λ (n : q ≢ pass). k q (subst (λ (o : Option ActiveTransaction). IsSome o) (others q n) active))
    (cases_eq q pass)

pub numbered-next : (m : Moment) (e : Entry) → AreNumbered m → IsNumbered e → AreNumbered (next m e)
numbered-next m (Call pass call reply) k p = numbered-by m (next m (Call pass call reply)) pass k p (λ q n. step-other m.state pass call q n)
numbered-next m (Undo pass) k p = numbered-by m (next m (Undo pass)) pass k p (λ q n. transaction_of-undo_other m.state pass q n)
numbered-next m (Delete id) k p = k
numbered-next m Hidden k p = k
numbered-next m (TurnBusy pass) k p = k
numbered-next m (Crash cells) k p = λ pass active. absurd (cc)

-- the collector's entries are of no client
pub numbered-collector : (logged : Option CellRecord) → IsNumbered (entry_of logged)
numbered-collector None = tt
numbered-collector (Some (logs.Begin pass)) = tt
numbered-collector (Some (logs.Make pass id)) = tt
numbered-collector (Some (logs.Store pass id slot o os n nb ns)) = tt
numbered-collector (Some (logs.Pay pass id o n)) = tt
numbered-collector (Some (logs.Commit pass)) = tt
numbered-collector (Some (logs.Undo pass place fs tb id f to)) = tt
numbered-collector (Some (logs.AbortEnd pass)) = tt
numbered-collector (Some (logs.Weaken id slot target)) = tt
numbered-collector (Some (logs.Strengthen id slot target)) = tt
numbered-collector (Some (logs.Flip id)) = tt
numbered-collector (Some (logs.CutDead id slot target strong)) = tt
numbered-collector (Some (logs.Free id)) = tt
