-- A sound state of the reference machine stays sound: the steps for which the laws of its states have no name of their own.
use Rattle.std.proofs.Common.{◌≡◌, ℕ, true, false, refl, sym, ap, [], ◌∙◌, subst, Option, Some, None}
use Rattle.std.specs.Prelude.{if◌then◌else◌, Contains, unwrap_or}
use Rattle.std.specs.Option.{option_map_or}
use Rattle.std.specs.Map.{set_value}
use Rattle.std.specs.Ordering.{nat_cmp}
use Rattle.std.specs.BTreeMap.{is_at}
use Rattle.plain_model.specs.declared.calls.Call.TheVariants.{GetPay, SetPay}
use Rattle.plain_model.specs.declared.calls.Reply.{Reply}
use Rattle.plain_model.specs.declared.calls.Reply.TheVariants.{Aborting, EmptyRegister}
use Rattle.plain_model.specs.declared.calls.Entry.TheVariants.{Delete}
use Rattle.plain_model.specs.ActiveTransaction.{ActiveTransaction}
use Rattle.plain_model.specs.Machine.{State, transaction_of, with_transaction, new_transaction, register, register_id, blocks_sharing, blocks_owning, or_else, if_empty, if_aborting, if_busy}
use Rattle.plain_model.specs.Outcomes.{IsReachableInSomeOutcome}
use Rattle.plain_model.specs.History.{Moment, IsUnheld, after_undo, after_delete}
use Rattle.plain_laws.specs.Sound.{IsSoundState, IsSoundMoment}
use Rattle.plain_laws.proofs.Entries.{ascend-set_value}
use Rattle.plain_laws.proofs.Transactions.{sound-begun, sound-aborting}
use Rattle.plain_laws.proofs.States.{Nothing, swap-set_value, sound-change, sound-with_transaction, apart-now}
use Rattle.plain_laws.proofs.Legal.{brings-begun, brings-undone, sound-success, sound-next}
use Rattle.store_model.specs.Steps.{get_by, set_by}

-- a client begins
pub state-begun : (s : State) (pass : ℕ) → IsSoundState s → transaction_of s pass ≡ None → IsSoundState (with_transaction s pass new_transaction)
state-begun s pass h e = sound-with_transaction s pass new_transaction Nothing h (sound-begun s.committed s.stored) (λ q u f n id. ((λ o. absurd (cc)), (λ o. refl))) (brings-begun s pass e)

-- none of three refusals applies
no_refusal : (a b c : Option Reply) → a ≡ None → b ≡ None → c ≡ None → or_else a (or_else b c) ≡ None
no_refusal a b c e f g = ap (λ x. or_else x (or_else b c)) e ∙ (ap (λ x. or_else x c) f ∙ g)

runs : (t : ActiveTransaction) → t.aborting ≡ false → if_aborting t ≡ None
runs t e = ap (λ b. if b then Some Aborting else None) e

filled : (t : ActiveTransaction) (r id : ℕ) → register t r ≡ Some id → if_empty t r ≡ None
filled t r id e = ap (λ o. option_map_or (λ _. None) o (Some (EmptyRegister r))) e

-- a client reads a payload
pub state-got : (s : State) (pass : ℕ) (t : ActiveTransaction) (r id : ℕ) → IsSoundState s → transaction_of s pass ≡ Some t → t.aborting ≡ false → register t r ≡ Some id → blocks_sharing s pass id ≡ None → IsSoundState (with_transaction s pass (get_by t id))
state-got s pass t r id h e running reg free =
    let is : register_id t r ≡ id = ap (λ o. unwrap_or o 0) reg in
    subst (λ i. IsSoundState (with_transaction s pass (get_by t i))) is
    (sound-success s pass t (GetPay r) h e (no_refusal (if_aborting t) (if_empty t r) (if_busy (blocks_sharing s pass (register_id t r))) (runs t running) (filled t r id reg) (ap (λ i. if_busy (blocks_sharing s pass i)) is ∙ ap if_busy free)))

-- a client writes a payload
pub state-set : (s : State) (pass : ℕ) (t : ActiveTransaction) (r id value : ℕ) → IsSoundState s → transaction_of s pass ≡ Some t → t.aborting ≡ false → register t r ≡ Some id → blocks_owning s pass id ≡ None → IsSoundState (with_transaction s pass (set_by t id value))
state-set s pass t r id value h e running reg free =
    let is : register_id t r ≡ id = ap (λ o. unwrap_or o 0) reg in
    subst (λ i. IsSoundState (with_transaction s pass (set_by t i value))) is
    (sound-success s pass t (SetPay r value) h e (no_refusal (if_aborting t) (if_empty t r) (if_busy (blocks_owning s pass (register_id t r))) (runs t running) (filled t r id reg) (ap (λ i. if_busy (blocks_owning s pass i)) is ∙ ap if_busy free)))

-- a write is undone
pub state-undone : (s : State) (pass : ℕ) (t : ActiveTransaction) → IsSoundState s → transaction_of s pass ≡ Some t → IsSoundState (after_undo s pass)
state-undone s pass t h e =
    let u : ActiveTransaction = record t { aborting = true } in
    subst (λ l. IsSoundState (record s { active = l }))
    (ap (λ o. option_map_or (λ (t : ActiveTransaction). set_value (is_at (nat_cmp pass)) s.active (record t { aborting = true })) o s.active) (sym e))
    (sound-change s pass u (set_value (is_at (nat_cmp pass)) s.active u) Nothing h (swap-set_value pass u t s.active e) (ascend-set_value pass u s.active h.passes) (sound-aborting s.committed s.stored t (h.transactions pass t e)) (apart-now s pass t h e) (brings-undone s pass t e))

-- an object is deleted that no outcome reaches and nobody holds
pub state-deleted : (s : State) (id : ℕ) → IsSoundState s → Contains s.stored id → (IsReachableInSomeOutcome s id → ⊥) → IsUnheld s id → IsSoundState (after_delete s id)
state-deleted s id h m n u =
    let now : Moment = record { state = s; undone = λ _. 0; opened = s.committed; commits = [] } in
    let sound : IsSoundMoment now = record { state = h; opened = h.committed; commits = tt } in
    (sound-next now (Delete id) sound (refl, m, n, u)).state
