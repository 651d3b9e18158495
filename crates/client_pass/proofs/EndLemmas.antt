-- Whether a client has a transaction, told by its calls alone; after its attempts it has none.
use Rattle.std.proofs.Common.{◌≡◌, inl, inr, ℕ, zero, suc, Bool, true, false, List, [], ◌∷◌, ◌++◌, map, refl, sym, ap, ◌∙◌}
use Rattle.std.specs.Prelude.{◌==◌, fold, cond, unwrap_or}
use Rattle.plain_model.specs.declared.calls.Call.{Call as TransactionCall}
use Rattle.plain_model.specs.declared.calls.Call.TheVariants.{Abort}
use Rattle.plain_model.specs.declared.calls.Reply.TheVariants.{Done}
use Rattle.plain_model.specs.declared.calls.Entry.{Entry}
use Rattle.plain_model.specs.declared.calls.Entry.TheVariants.{Call, Delete, Hidden, Undo, TurnBusy, Crash}
use Rattle.core_store.specs.declared.note.Note.{Note}
use Rattle.shared_store.specs.Chronicles.Clients.{begins_or_ends, has_after as has_after_entry}
use Rattle.shared_store.specs.Chronicles.View.{has_transaction}
use Rattle.client_pass.specs.Attempts.{Deed, Made, Undid, call_in, calls_in, has_after, IsEnding, IsCompleted, IsGivenUp, IsTried, Attempts}
use Rattle.client_pass.proofs.Tries.{has_after-append}

-- ---- by the entries, and by the calls

after-entry : (client : ℕ) (had : Bool) (e : Entry) → has_after_entry client had e ≡ has_after had (call_in client e)
after-entry client had (Call c call reply) =
    elim (c == client) as (λ (b : Bool). cond b (unwrap_or (begins_or_ends call reply) had) had ≡ has_after had (cond b (Made call reply ∷ []) []))
    [ true ↦ refl | false ↦ refl ]
after-entry client had (Delete id) = refl
after-entry client had Hidden = refl
after-entry client had (Undo c) = elim (c == client) as (λ (b : Bool). had ≡ has_after had (cond b (Undid ∷ []) [])) [ true ↦ refl | false ↦ refl ]
after-entry client had (TurnBusy c) = refl
after-entry client had (Crash cells) = refl

after-entries : (client : ℕ) (had : Bool) (es : List Entry) → fold (has_after_entry client) had es ≡ has_after had (calls_in client es)
after-entries client had [] = refl
after-entries client had (e ∷ es) =
    after-entries client (has_after_entry client had e) es
    ∙ (ap (λ h. has_after h (calls_in client es)) (after-entry client had e) ∙ sym (has_after-append had (call_in client e) (calls_in client es)))

-- a client has a transaction exactly where its calls leave one open
pub transaction-by_calls : (client : ℕ) (log : List Note) → has_transaction log client ≡ has_after false (calls_in client (map (λ n. n.entry) log))
transaction-by_calls client log = after-entries client false (map (λ (n : Note). n.entry) log)

-- ---- after attempts

ended : (had : Bool) (behind : List Deed) → IsEnding had behind → has_after had behind ≡ false
ended true behind e = ap (has_after true) e.in_order ∙ has_after-append true e.undos (Made Abort Done ∷ [])
ended false behind e = ap (has_after false) e

end-closed : (own behind made : List Deed) → IsEnding (has_after false own) behind → made ≡ own ++ behind → has_after false made ≡ false
end-closed own behind made e is = ap (has_after false) is ∙ (has_after-append false own behind ∙ ended (has_after false own) behind e)

-- calls after such as leave no transaction open
behind-closed : (first rest made : List Deed) → made ≡ first ++ rest → has_after false first ≡ false → has_after false rest ≡ false → has_after false made ≡ false
behind-closed first rest made is a b = ap (has_after false) is ∙ (has_after-append false first rest ∙ (ap (λ h. has_after h rest) a ∙ b))

completed-closed : (calls : List TransactionCall) (made : List Deed) → IsCompleted calls made → has_after false made ≡ false
completed-closed calls made c = end-closed c.own c.ending made c.ended c.in_order

given_up-closed : (calls : List TransactionCall) (made : List Deed) → IsGivenUp calls made → has_after false made ≡ false
given_up-closed calls made g = end-closed g.own g.ending made g.ended g.in_order

tried-closed : (n : ℕ) (calls : List TransactionCall) (made : List Deed) → IsTried n calls made → has_after false made ≡ false
tried-closed zero calls made none = ap (has_after false) none
tried-closed (suc n) calls made (inl c) = completed-closed calls made c
tried-closed (suc n) calls made (inr t) = behind-closed t.0 t.1 made t.2 (given_up-closed calls t.0 t.3) (tried-closed n calls t.1 t.4)

-- attempts leave no transaction open
pub attempts-end_closed : (transactions : List (List TransactionCall)) (made : List Deed) → Attempts transactions made → has_after false made ≡ false
attempts-end_closed [] made none = ap (has_after false) none
attempts-end_closed (calls ∷ rest) made a = behind-closed a.0 a.1 made a.2 (tried-closed 4 calls a.0 a.3) (attempts-end_closed rest a.1 a.4)

-- a client whose calls in the log are those of its attempts has no transaction
pub attempts-no_transaction : (client : ℕ) (log : List Note) (transactions : List (List TransactionCall)) → Attempts transactions (calls_in client (map (λ n. n.entry) log)) → has_transaction log client ≡ false
attempts-no_transaction client log transactions a = transaction-by_calls client log ∙ attempts-end_closed transactions (calls_in client (map (λ (n : Note). n.entry) log)) a

-- and neither has one that made no call
pub nobody-no_transaction : (client : ℕ) (log : List Note) → calls_in client (map (λ n. n.entry) log) ≡ [] → has_transaction log client ≡ false
nobody-no_transaction client log none = transaction-by_calls client log ∙ ap (has_after false) none
