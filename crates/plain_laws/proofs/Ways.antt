-- The three ways of a step: it is refused, it begins a transaction, or it succeeds in one.
use Rattle.std.proofs.Common.{◌≡◌, ℕ, Option, Some, None, refl, sym, subst, true, false}
use Rattle.std.specs.Prelude.{if◌then◌else◌, is_some}
use Rattle.std.specs.Option.{option_map_or}
use Rattle.plain_model.specs.declared.calls.Call.{Call as TransactionCall}
use Rattle.plain_model.specs.declared.calls.Call.TheVariants.{Begin, Read, Make, Store, GetPay, SetPay, Release, Commit, Abort}
use Rattle.plain_model.specs.declared.calls.Reply.{Reply}
use Rattle.plain_model.specs.declared.calls.Reply.TheVariants.{Done, Aborting, EmptyRegister, NotShared, Full}
use Rattle.plain_model.specs.ActiveTransaction.{ActiveTransaction}
use Rattle.plain_model.specs.Machine.{State, register, new_transaction, transaction_of, with_transaction, step, success, refusal_in, refusal_out, or_else, if_empty, if_not_shared, only_shares, if_busy, if_aborting, free_id}
use Rattle.plain_model.specs.Serial.{is_success}

-- ---- a refusal is no success

abbrev IsRefusal : Option Reply → Type 0
IsRefusal o = option_map_or is_success o false ≡ false

refusal-or_else : (a b : Option Reply) → IsRefusal a → IsRefusal b → IsRefusal (or_else a b)
refusal-or_else (Some r) b p q = p
refusal-or_else None b p q = q

refusal-aborting : (t : ActiveTransaction) → IsRefusal (if_aborting t)
refusal-aborting t = elim t.aborting as (λ b. IsRefusal (if b then Some Aborting else None)) [ true ↦ refl | false ↦ refl ]

refusal-empty : (t : ActiveTransaction) (r : ℕ) → IsRefusal (if_empty t r)
refusal-empty t r = elim (register t r) as (λ o. IsRefusal (option_map_or (λ _. None) o (Some (EmptyRegister r)))) [ Some x ↦ refl | None ↦ refl ]

refusal-busy : (o : Option ℕ) → IsRefusal (if_busy o)
refusal-busy (Some p) = refl
refusal-busy None = refl

refusal-not_shared : (t : ActiveTransaction) (id : ℕ) → IsRefusal (if_not_shared t id)
refusal-not_shared t id = elim (only_shares id t) as (λ b. IsRefusal (if b then None else Some NotShared)) [ true ↦ refl | false ↦ refl ]

refusal-source : (t : ActiveTransaction) (f : Option ℕ) → IsRefusal (option_map_or (if_empty t) f None)
refusal-source t (Some f) = refusal-empty t f
refusal-source t None = refl

refusal-in : (s : State) (pass : ℕ) (t : ActiveTransaction) (call : TransactionCall) → IsRefusal (refusal_in s pass t call)
refusal-in s pass t Begin = refl
refusal-in s pass t Abort = refl
refusal-in s pass t Commit = refusal-aborting t
refusal-in s pass t (Read r slot into) = refusal-or_else _ _ (refusal-aborting t) (refusal-or_else _ _ (refusal-empty t r) (refusal-busy _))
refusal-in s pass t (GetPay r) = refusal-or_else _ _ (refusal-aborting t) (refusal-or_else _ _ (refusal-empty t r) (refusal-busy _))
refusal-in s pass t (Store r slot f) = refusal-or_else _ _ (refusal-aborting t) (refusal-or_else _ _ (refusal-empty t r) (refusal-or_else _ _ (refusal-source t f) (refusal-busy _)))
refusal-in s pass t (SetPay r v) = refusal-or_else _ _ (refusal-aborting t) (refusal-or_else _ _ (refusal-empty t r) (refusal-busy _))
refusal-in s pass t (Release r) = refusal-or_else _ _ (refusal-aborting t) (refusal-or_else _ _ (refusal-empty t r) (refusal-not_shared t _))
refusal-in s pass t (Make into) = refusal-or_else _ _ (refusal-aborting t) (elim (is_some (free_id s)) as (λ b. IsRefusal (if b then None else Some Full)) [ true ↦ refl | false ↦ refl ])

refusal-out : (call : TransactionCall) → IsRefusal (refusal_out call)
refusal-out Begin = refl
refusal-out (Read r slot into) = refl
refusal-out (GetPay r) = refl
refusal-out (Store r slot f) = refl
refusal-out (SetPay r v) = refl
refusal-out (Release r) = refl
refusal-out (Make into) = refl
refusal-out Commit = refl
refusal-out Abort = refl

pub success-succeeds : (s : State) (pass : ℕ) (t : ActiveTransaction) (call : TransactionCall) → is_success (success s pass t call).0 ≡ true
success-succeeds s pass t Begin = refl
success-succeeds s pass t (Read r slot into) = refl
success-succeeds s pass t (GetPay r) = refl
success-succeeds s pass t (Store r slot f) = refl
success-succeeds s pass t (SetPay r v) = refl
success-succeeds s pass t (Release r) = refl
success-succeeds s pass t (Make into) = refl
success-succeeds s pass t Commit = refl
success-succeeds s pass t Abort = refl

-- ---- the three ways of a step

pub data Way (s : State) (pass : ℕ) (call : TransactionCall) : Type 0 where
  refused : (r : Reply) → step s pass call ≡ (r, s) → is_success r ≡ false → Way s pass call
  begins : call ≡ Begin → step s pass call ≡ (Done, with_transaction s pass new_transaction) → Way s pass call
  succeeds : (t : ActiveTransaction) → transaction_of s pass ≡ Some t → refusal_in s pass t call ≡ None → step s pass call ≡ success s pass t call → Way s pass call

pub way : (s : State) (pass : ℕ) (call : TransactionCall) → Way s pass call
unfolding step
way s pass call = by (transaction_of s pass) refl
  where
    inside : (t : ActiveTransaction) → transaction_of s pass ≡ Some t → (o : Option Reply) → refusal_in s pass t call ≡ o → Way s pass call
    inside t e (Some r) f = let k = subst IsRefusal f (refusal-in s pass t call) in refused r (rw (e, f)) k
    inside t e None f = succeeds t e f (rw (e, f))

    outside : transaction_of s pass ≡ None → (o : Option Reply) → refusal_out call ≡ o → Way s pass call
    outside e (Some r) f = let k = subst IsRefusal f (refusal-out call) in refused r (rw (e, f)) k
    outside e None f = let b = only_begin call f in begins b (subst (λ c. step s pass c ≡ (Done, with_transaction s pass new_transaction)) (sym b) (rw e))
      where
        only_begin : (c : TransactionCall) → refusal_out c ≡ None → c ≡ Begin
        only_begin Begin g = refl
        only_begin (Read r slot into) g = absurd (cc)
        only_begin (GetPay r) g = absurd (cc)
        only_begin (Store r slot x) g = absurd (cc)
        only_begin (SetPay r v) g = absurd (cc)
        only_begin (Release r) g = absurd (cc)
        only_begin (Make into) g = absurd (cc)
        only_begin Commit g = absurd (cc)
        only_begin Abort g = absurd (cc)

    by : (o : Option ActiveTransaction) → transaction_of s pass ≡ o → Way s pass call
    by (Some t) e = inside t e (refusal_in s pass t call) refl
    by None e = outside e (refusal_out call) refl
