-- What a call logs tells what it was answered.
use Rattle.std.proofs.Common.{◌≡◌, ℕ, List, Option, Some, None, refl, sym, subst}
use Rattle.std.specs.Prelude.{IfSome, unwrap_or}
use Rattle.std.specs.Option.{option_map_or}
use Rattle.plain_model.specs.declared.calls.Call.{Call as TransactionCall}
use Rattle.plain_model.specs.declared.calls.Call.TheVariants.{Begin, Read, Make, Store, GetPay, Release, SetPay, Commit, Abort}
use Rattle.plain_model.specs.declared.calls.Reply.{Reply}
use Rattle.plain_model.specs.ActiveTransaction.{ActiveTransaction}
use Rattle.plain_model.specs.Machine.{State, step, success, transaction_of, refusal_in, refusal_out, free_id, register_id, new_transaction}
use Rattle.cell_model.specs.Cells.{Cell, cell_at}
use Rattle.log_record.specs.declared.cell_record.CellRecord.{CellRecord}
use Rattle.log_record.specs.declared.cell_record.CellRecord.TheVariants as logs
use Rattle.core_store.specs.Logged.{logged_by, record_in}
use Rattle.core_store.specs.Notes.{IsRecordOf}

module _ (s : State) (cells : List Cell) (pass : ℕ) where
  -- a call of a transaction, where it is refused so or is granted
  of-active : (t : ActiveTransaction) (call : TransactionCall) (o : Option Reply) → IfSome (option_map_or (λ (r : Reply). None) o (record_in s cells pass t call)) (λ r. IsRecordOf pass call (option_map_or (λ (reply : Reply). (reply, s)) o (success s pass t call)).0 r)
  of-active t call (Some reply) = tt
  of-active t Begin None = tt
  of-active t (Read r slot into) None = tt
  of-active t (GetPay r) None = tt
  of-active t (Release r) None = tt
  of-active t Abort None = tt
  of-active t (Make into) None = (unwrap_or (free_id s) 0, refl, refl)
  of-active t (Store r slot source) None = refl
  of-active t (SetPay r value) None = (refl, (register_id t r, (cell_at cells (register_id t r)).payload, refl))
  of-active t Commit None = refl

  -- a call, where its client has this transaction, or none
  of-call : (call : TransactionCall) (o : Option ActiveTransaction) → IfSome (option_map_or (λ (r : Reply). None) (option_map_or (λ t. refusal_in s pass t call) o (refusal_out call)) (option_map_or (λ t. record_in s cells pass t call) o (Some (logs.Begin pass))))
      (λ r. IsRecordOf pass call (option_map_or (λ (reply : Reply). (reply, s)) (option_map_or (λ t. refusal_in s pass t call) o (refusal_out call)) (success s pass (unwrap_or o new_transaction) call)).0 r)
  of-call call (Some t) = of-active t call (refusal_in s pass t call)
  of-call Begin None = refl
  of-call (Read r slot into) None = tt
  of-call (GetPay r) None = tt
  of-call (Release r) None = tt
  of-call Abort None = tt
  of-call (Make into) None = tt
  of-call (Store r slot source) None = tt
  of-call (SetPay r value) None = tt
  of-call Commit None = tt

pub recorded : (s : State) (cells : List Cell) (pass : ℕ) (call : TransactionCall) (reply : Reply) (logged : Option CellRecord) → reply ≡ (step s pass call).0 → logged ≡ logged_by s cells pass call → IfSome logged (λ r. IsRecordOf pass call reply r)
unfolding step
recorded s cells pass call reply logged machine is =
    subst (λ (o : Option CellRecord). IfSome o (λ r. IsRecordOf pass call reply r)) (sym is)
    (subst (λ (x : Reply). IfSome (logged_by s cells pass call) (λ r. IsRecordOf pass call x r)) (sym machine) (of-call s cells pass call (transaction_of s pass)))
