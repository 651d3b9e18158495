-- What it tells that a call isn't refused.
use Rattle.std.proofs.Common.{◌≡◌, ◌≢◌, ℕ, Bool, true, false, refl, subst, Option, Some, None}
use Rattle.std.specs.Prelude.{if◌then◌else◌, Contains}
use Rattle.std.specs.Option.{option_map_or}
use Rattle.plain_model.specs.declared.calls.Call.{Call as TransactionCall}
use Rattle.plain_model.specs.declared.calls.Call.TheVariants.{Begin}
use Rattle.plain_model.specs.declared.calls.Reply.{Reply}
use Rattle.plain_model.specs.declared.calls.Reply.TheVariants.{Aborting, HasTxn}
use Rattle.plain_model.specs.ActiveTransaction.{ActiveTransaction}
use Rattle.plain_model.specs.Machine.{State, transaction_of, register_id, or_else, if_aborting, if_empty, if_busy, refusal_of}
use Rattle.plain_model.specs.History.{undone_after}
use Rattle.plain_laws.proofs.Legal.{or_else_none, not_empty, not_busy}
use Rattle.store_model.proofs.ActiveLaws.{register-contained}
use Rattle.store_model.proofs.CallLaws.{call-undone}

pub not_aborting : (t : ActiveTransaction) → if_aborting t ≡ None → t.aborting ≡ false
not_aborting t h = by t.aborting h
  where
    by : (b : Bool) → (if b then Some Aborting else None) ≡ None → b ≡ false
    by true e = absurd (cc)
    by false e = refl

pub filled : (t : ActiveTransaction) (r : ℕ) → if_empty t r ≡ None → Contains t.registers (Some (register_id t r))
filled t r h = register-contained t r (register_id t r) (not_empty t r h)

-- the transaction runs, the register has an object, and nobody stands in the way
pub record IsServed (s : State) (t : ActiveTransaction) (r : ℕ) (blocker : Option ℕ) : Type 0 where
  pub running : t.aborting ≡ false
  pub held : Contains t.registers (Some (register_id t r))
  pub granted : blocker ≡ None

pub served : (s : State) (t : ActiveTransaction) (r : ℕ) (blocker : Option ℕ) → or_else (if_aborting t) (or_else (if_empty t r) (if_busy blocker)) ≡ None → IsServed s t r blocker
served s t r blocker h =
    let a = or_else_none (if_aborting t) (or_else (if_empty t r) (if_busy blocker)) h in
    let b = or_else_none (if_empty t r) (if_busy blocker) a.1 in
    record { running = not_aborting t a.0; held = filled t r b.0; granted = not_busy blocker b.1 }

-- the same of a store, whose source is a register that has an object, or none
pub served_store : (s : State) (t : ActiveTransaction) (r : ℕ) (source : Option ℕ) (blocker : Option ℕ) → or_else (if_aborting t) (or_else (if_empty t r) (or_else (option_map_or (if_empty t) source None) (if_busy blocker))) ≡ None
    → IsServed s t r blocker × (option_map_or (register_id t) source 0 ≢ 0 → Contains t.registers (Some (option_map_or (register_id t) source 0)))
served_store s t r source blocker h =
    let a = or_else_none (if_aborting t) (or_else (if_empty t r) (or_else (option_map_or (if_empty t) source None) (if_busy blocker))) h in
    let b = or_else_none (if_empty t r) (or_else (option_map_or (if_empty t) source None) (if_busy blocker)) a.1 in
    let c = or_else_none (option_map_or (if_empty t) source None) (if_busy blocker) b.1 in
    (record { running = not_aborting t a.0; held = filled t r b.0; granted = not_busy blocker c.1 }, by source c.0)
  where
    by : (f : Option ℕ) → option_map_or (if_empty t) f None ≡ None → option_map_or (register_id t) f 0 ≢ 0 → Contains t.registers (Some (option_map_or (register_id t) f 0))
    by None e n = absurd (n refl)
    by (Some r) e n = filled t r e

-- a refused call leaves the counts of undone writes
pub refused-undone : (s : State) (undone : ℕ → ℕ) (pass : ℕ) (call : TransactionCall) (reply : Reply) → refusal_of s pass call ≡ Some reply → undone_after undone pass call reply ≡ undone
refused-undone s undone pass Begin reply h = by (transaction_of s pass) h
  where
    by : (o : Option ActiveTransaction) → option_map_or (λ t. Some HasTxn) o None ≡ Some reply → undone_after undone pass Begin reply ≡ undone
    by (Some t) e = let is : HasTxn ≡ reply = cc in subst (λ r. undone_after undone pass Begin r ≡ undone) is refl
    by None e = absurd (cc)
refused-undone s undone pass call reply h = call-undone undone pass call reply (λ e. absurd (cc))
