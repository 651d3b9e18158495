-- What the reference machine makes of a call, as the laws of journals ask for it.
use Rattle.std.proofs.Common.{◌≡◌, ◌≢◌, ℕ, refl, ap, ◌∙◌, Some, None}
use Rattle.std.specs.Prelude.{◌==◌, if◌then◌else◌, unwrap_or}
use Rattle.std.specs.Option.{option_map_or}
use Rattle.plain_model.specs.declared.calls.Call.{Call as TransactionCall}
use Rattle.plain_model.specs.declared.calls.Call.TheVariants.{Begin, Read, Make, Store, GetPay, SetPay, Release, Commit, Abort}
use Rattle.plain_model.specs.declared.calls.Reply.{Reply}
use Rattle.plain_model.specs.declared.calls.Reply.TheVariants.{Done}
use Rattle.plain_model.specs.ActiveTransaction.{ActiveTransaction}
use Rattle.plain_model.specs.Machine.{State, step, success, refusal_in, refusal_out, refusal_of, transaction_of, with_transaction, new_transaction}
use Rattle.plain_model.specs.History.{undone_after}

pub call-granted : (s : State) (pass : ℕ) (t : ActiveTransaction) (call : TransactionCall) → transaction_of s pass ≡ Some t → refusal_in s pass t call ≡ None → step s pass call ≡ success s pass t call
unfolding step
call-granted s pass t call a granted =
    ap (λ o. option_map_or (λ (reply : Reply). (reply, s)) (option_map_or (λ t. refusal_in s pass t call) o (refusal_out call)) (success s pass (unwrap_or o new_transaction) call)) a
    ∙ ap (λ o. option_map_or (λ (reply : Reply). (reply, s)) o (success s pass t call)) granted

pub call-begun : (s : State) (pass : ℕ) → transaction_of s pass ≡ None → step s pass Begin ≡ (Done, with_transaction s pass new_transaction)
unfolding step
call-begun s pass a = ap (λ o. option_map_or (λ (reply : Reply). (reply, s)) (option_map_or (λ t. refusal_in s pass t Begin) o (refusal_out Begin)) (success s pass (unwrap_or o new_transaction) Begin)) a

pub call-refused : (s : State) (pass : ℕ) (call : TransactionCall) (reply : Reply) → refusal_of s pass call ≡ Some reply → step s pass call ≡ (reply, s)
unfolding step
call-refused s pass call reply r = ap (λ o. option_map_or (λ (reply : Reply). (reply, s)) o (success s pass (unwrap_or (transaction_of s pass) new_transaction) call)) r

-- but for a call that begins, nothing more or less is undone
pub call-undone : (undone : ℕ → ℕ) (pass : ℕ) (call : TransactionCall) (reply : Reply) → call ≢ Begin → undone_after undone pass call reply ≡ undone
call-undone undone pass Begin reply n = absurd (n refl)
call-undone undone pass (Read r slot into) reply n = refl
call-undone undone pass (Make into) reply n = refl
call-undone undone pass (Store r slot f) reply n = refl
call-undone undone pass (GetPay r) reply n = refl
call-undone undone pass (SetPay r value) reply n = refl
call-undone undone pass (Release r) reply n = refl
call-undone undone pass Commit reply n = refl
call-undone undone pass Abort reply n = refl

pub call-begun_undone : (undone : ℕ → ℕ) (pass : ℕ) → undone_after undone pass Begin Done ≡ (λ p. if p == pass then 0 else undone p)
call-begun_undone undone pass = refl
