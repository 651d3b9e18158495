-- What transactions owe a log, from one event of a client to the next.
use Rattle.std.proofs.Common.{◌≡◌, ◌≢◌, Bool, ℕ, ◌+◌, ◌*◌, ◌-◌, ◌≤◌, List, refl, sym, ap, ◌∙◌, subst, Option, Some, None, arith}
use Rattle.std.specs.Prelude.{count_by, sum_by, unwrap_or, if◌then◌else◌, IsSome}
use Rattle.std.specs.Option.{option_map_or}
use Rattle.std.proofs.lemmas.Bool.{ne_eqb}
use Rattle.plain_model.specs.declared.calls.Call.{Call as TransactionCall}
use Rattle.plain_model.specs.declared.calls.Call.TheVariants.{Begin, Read, Make, Store, GetPay, Release, SetPay, Commit, Abort}
use Rattle.plain_model.specs.declared.calls.Reply.{Reply}
use Rattle.plain_model.specs.declared.calls.Reply.TheVariants.{Done, HasTxn}
use Rattle.plain_model.specs.declared.calls.Entry.TheVariants.{Call, Undo}
use Rattle.plain_model.specs.ActiveTransaction.{ActiveTransaction}
use Rattle.plain_model.specs.Machine.{State, step, success, refusal_of, refusal_in, refusal_out, transaction_of, new_transaction, with_transaction, without_transaction}
use Rattle.plain_model.specs.History.{Moment, next, can_be_undone, undoable, undone_after}
use Rattle.plain_model.proofs.StepLemmas.{step-done, step-begin}
use Rattle.plain_laws.specs.Sound.{PassesAscend}
use Rattle.plain_laws.proofs.Ids.{test_same}
use Rattle.plain_laws.proofs.Entries.{ascend-insert, ascend-remove}
use Rattle.plain_laws.proofs.Locks.{transaction_of-with_same, transaction_of-without_same, transaction_of-undo_same, transaction_of-undo_other, marked_aborting, ascend-undo}
use Rattle.core_store.proofs.PlanLaws.{refusal-in, refusal-out}
use Rattle.core_store.specs.Owed.{bytes_owed, CallOwesLaw, CommitOwesLaw, RefusedOwesLaw, UndoOwesLaw, EndOwesLaw}
use Rattle.core_store.proofs.ClientNumbers.{step-other}
use Rattle.core_store.proofs.OwedLaws.{owed-change, owed-begun, owed-ended}
use Rattle.core_store.proofs.ReplacedLaws.{count-push}

-- what a transaction owes that has so many writes left to undo
abbrev bytes : ℕ → ℕ
bytes left = 25 * left + 7

-- ---- what a call makes of its own transaction

-- how many writes a call adds that may have to be undone
abbrev writes_more : TransactionCall → ℕ
writes_more (Store r slot source) = 1
writes_more (SetPay r value) = 1
writes_more call = 0

-- it is the call of a transaction that goes on
abbrev GoesOn : TransactionCall → Type 0
GoesOn (Read r slot into) = Unit {0}
GoesOn (Make into) = Unit {0}
GoesOn (Store r slot source) = Unit {0}
GoesOn (GetPay r) = Unit {0}
GoesOn (Release r) = Unit {0}
GoesOn (SetPay r value) = Unit {0}
GoesOn call = ⊥

-- the client has a transaction in the state, with so many more such writes
record HasMore (z : State) (pass : ℕ) (t : ActiveTransaction) (more : ℕ) : Type 0 where
  own : ActiveTransaction
  found : transaction_of z pass ≡ Some own
  writes : count_by can_be_undone own.writes ≡ count_by can_be_undone t.writes + more

goes-on : (s : State) (pass : ℕ) (t : ActiveTransaction) (call : TransactionCall) → GoesOn call → HasMore (success s pass t call).1 pass t (writes_more call)
goes-on s pass t (Read r slot into) g = record { own = _; found = transaction_of-with_same s pass _; writes = omega arith }
goes-on s pass t (Make into) g = record { own = _; found = transaction_of-with_same s pass _; writes = count-push t.writes _ }
goes-on s pass t (Store r slot source) g = record { own = _; found = transaction_of-with_same s pass _; writes = count-push t.writes _ }
goes-on s pass t (GetPay r) g = record { own = _; found = transaction_of-with_same s pass _; writes = omega arith }
goes-on s pass t (Release r) g = record { own = _; found = transaction_of-with_same s pass _; writes = omega arith }
goes-on s pass t (SetPay r value) g = record { own = _; found = transaction_of-with_same s pass _; writes = count-push t.writes _ }
goes-on s pass t Begin g = absurd g
goes-on s pass t Commit g = absurd g
goes-on s pass t Abort g = absurd g

ascend-success : (s : State) (pass : ℕ) (t : ActiveTransaction) (call : TransactionCall) → PassesAscend s.active → PassesAscend (success s pass t call).1.active
ascend-success s pass t Begin a = ascend-insert pass _ s.active a
ascend-success s pass t (Read r slot into) a = ascend-insert pass _ s.active a
ascend-success s pass t (Make into) a = ascend-insert pass _ s.active a
ascend-success s pass t (Store r slot source) a = ascend-insert pass _ s.active a
ascend-success s pass t (GetPay r) a = ascend-insert pass _ s.active a
ascend-success s pass t (Release r) a = ascend-insert pass _ s.active a
ascend-success s pass t (SetPay r value) a = ascend-insert pass _ s.active a
ascend-success s pass t Commit a = ascend-remove pass s.active a
ascend-success s pass t Abort a = ascend-remove pass s.active a

-- ---- from a moment to the next

-- a call that goes on, or a refused one, leaves how many writes are undone
undone-kept : (undone : ℕ → ℕ) (pass : ℕ) (call : TransactionCall) (reply : Reply) → call ≢ Begin → undone_after undone pass call reply ≡ undone
undone-kept undone pass Begin reply n = absurd (n refl)
undone-kept undone pass (Read r slot into) reply n = refl
undone-kept undone pass (Make into) reply n = refl
undone-kept undone pass (Store r slot source) reply n = refl
undone-kept undone pass (GetPay r) reply n = refl
undone-kept undone pass (Release r) reply n = refl
undone-kept undone pass (SetPay r value) reply n = refl
undone-kept undone pass Commit reply n = refl
undone-kept undone pass Abort reply n = refl

-- the client's own part, of a call that goes on
call-goes-on : (m : Moment) (pass : ℕ) (t : ActiveTransaction) (call : TransactionCall) → PassesAscend m.state.active → GoesOn call → call ≢ Begin → transaction_of m.state pass ≡ Some t → refusal_in m.state pass t call ≡ None
    → bytes_owed (next m (Call pass call (step m.state pass call).0)) ≤ bytes_owed m + 25 * writes_more call
call-goes-on m pass t call a g other found none =
    let reply = (step m.state pass call).0 in
    let n = next m (Call pass call reply) in
    let done = step-done m.state pass t call found none in
    let state : n.state ≡ (success m.state pass t call).1 = ap (λ (x : Reply × State). x.1) done in
    let same : n.undone ≡ m.undone = undone-kept m.undone pass call reply other in
    let h = goes-on m.state pass t call g in
    let here : transaction_of n.state pass ≡ Some h.own = ap (λ (z : State). transaction_of z pass) state ∙ h.found in
    let b : PassesAscend n.state.active = subst (λ (z : State). PassesAscend z.active) (sym state) (ascend-success m.state pass t call a) in
    let change = owed-change m n pass a b (λ q k. step-other m.state pass call q k) (λ q k. ap (λ (f : ℕ → ℕ). f q) same) bytes t h.own found here in
    let was : undoable m.state pass ≡ count_by can_be_undone t.writes = ap (λ (o : Option ActiveTransaction). option_map_or (λ t. count_by can_be_undone t.writes) o 0) found in
    let is : undoable n.state pass ≡ count_by can_be_undone h.own.writes = ap (λ (o : Option ActiveTransaction). option_map_or (λ t. count_by can_be_undone t.writes) o 0) here in
    let more = h.writes in
    let own = ap (λ (f : ℕ → ℕ). f pass) same in
    omega (arith, change, was, is, more, own)

-- a client that has a transaction may go on with it where the call isn't refused
found-in : (m : Moment) (pass : ℕ) (call : TransactionCall) (o : Option ActiveTransaction) → transaction_of m.state pass ≡ o → call ≢ Begin → refusal_of m.state pass call ≡ None
    → (t : ActiveTransaction) × (transaction_of m.state pass ≡ Some t) × (refusal_in m.state pass t call ≡ None)
found-in m pass call (Some t) is other none = (t, is, sym (refusal-in m.state pass t call is) ∙ none)
found-in m pass call None is other none = absurd (out call other (sym (refusal-out m.state pass call is) ∙ none))
  where
    out : (call : TransactionCall) → call ≢ Begin → refusal_out call ≡ None → ⊥
    out Begin n e = n refl
    out (Read r slot into) n e = cc
    out (Make into) n e = cc
    out (Store r slot source) n e = cc
    out (GetPay r) n e = cc
    out (Release r) n e = cc
    out (SetPay r value) n e = cc
    out Commit n e = cc
    out Abort n e = cc

call-runs : (m : Moment) (pass : ℕ) (call : TransactionCall) → PassesAscend m.state.active → GoesOn call → call ≢ Begin → refusal_of m.state pass call ≡ None → bytes_owed (next m (Call pass call (step m.state pass call).0)) ≤ bytes_owed m + 25 * writes_more call
call-runs m pass call a g other none = let f = found-in m pass call (transaction_of m.state pass) refl other none in call-goes-on m pass f.0 call a g other f.1 f.2

-- a transaction ends
call-ends : (m : Moment) (pass : ℕ) (t : ActiveTransaction) (call : TransactionCall) (reply : Reply) → PassesAscend m.state.active → call ≢ Begin → transaction_of m.state pass ≡ Some t → (step m.state pass call).1.active ≡ (without_transaction m.state pass).active
    → bytes_owed (next m (Call pass call reply)) + 7 ≤ bytes_owed m
call-ends m pass t call reply a other found state =
    let n = next m (Call pass call reply) in
    let same : n.undone ≡ m.undone = undone-kept m.undone pass call reply other in
    let b : PassesAscend n.state.active = subst (λ (es : List (ℕ × ActiveTransaction)). PassesAscend es) (sym state) (ascend-remove pass m.state.active a) in
    let gone : transaction_of n.state pass ≡ None = ap (λ (es : List (ℕ × ActiveTransaction)). transaction_of (record n.state { active = es }) pass) state ∙ transaction_of-without_same m.state pass a in
    let ended = owed-ended m n pass a b (λ q k. step-other m.state pass call q k) (λ q k. ap (λ (f : ℕ → ℕ). f q) same) bytes t found gone in
    omega (arith, ended)

call-begins : (m : Moment) (pass : ℕ) → PassesAscend m.state.active → transaction_of m.state pass ≡ None → bytes_owed (next m (Call pass Begin (step m.state pass Begin).0)) ≤ bytes_owed m + 7
call-begins m pass a none =
    let begun = step-begin m.state pass none in
    let n = next m (Call pass Begin (step m.state pass Begin).0) in
    let state : n.state ≡ with_transaction m.state pass new_transaction = ap (λ (x : Reply × State). x.1) begun in
    let undone : n.undone ≡ undone_after m.undone pass Begin Done = ap (λ (x : Reply × State). undone_after m.undone pass Begin x.0) begun in
    let here : transaction_of n.state pass ≡ Some new_transaction = ap (λ (z : State). transaction_of z pass) state ∙ transaction_of-with_same m.state pass new_transaction in
    let b : PassesAscend n.state.active = subst (λ (z : State). PassesAscend z.active) (sym state) (ascend-insert pass new_transaction m.state.active a) in
    let counts : (q : ℕ) → q ≢ pass → n.undone q ≡ m.undone q = λ q k. ap (λ (f : ℕ → ℕ). f q) undone ∙ ap (λ (x : Bool). if x then 0 else m.undone q) (ne_eqb q pass k) in
    let all = owed-begun m n pass a b (λ q k. step-other m.state pass Begin q k) counts bytes new_transaction none here in
    let is : undoable n.state pass ≡ 0 = ap (λ (o : Option ActiveTransaction). option_map_or (λ t. count_by can_be_undone t.writes) o 0) here in
    omega (arith, all, is)

-- ---- the laws

none-begins : (m : Moment) (pass : ℕ) (o : Option ActiveTransaction) → transaction_of m.state pass ≡ o → refusal_of m.state pass Begin ≡ None → transaction_of m.state pass ≡ None
none-begins m pass None is none = is
none-begins m pass (Some t) is none = let e = sym (refusal-in m.state pass t Begin is) ∙ none in absurd (cc)

pub commit-owes : CommitOwesLaw
commit-owes m pass a none =
    let f = found-in m pass Commit (transaction_of m.state pass) refl (λ e. absurd (cc)) none in
    let state = ap (λ (x : Reply × State). x.1.active) (step-done m.state pass f.0 Commit f.1 f.2) in
    call-ends m pass f.0 Commit (step m.state pass Commit).0 a (λ e. absurd (cc)) f.1 state

pub call-owes : CallOwesLaw
call-owes m pass Begin a other none = let k = call-begins m pass a (none-begins m pass (transaction_of m.state pass) refl none) in omega (arith, k)
call-owes m pass (Read r slot into) a other none = let k = call-runs m pass (Read r slot into) a tt (λ e. absurd (cc)) none in omega (arith, k)
call-owes m pass (Make into) a other none = let k = call-runs m pass (Make into) a tt (λ e. absurd (cc)) none in omega (arith, k)
call-owes m pass (Store r slot source) a other none = let k = call-runs m pass (Store r slot source) a tt (λ e. absurd (cc)) none in omega (arith, k)
call-owes m pass (GetPay r) a other none = let k = call-runs m pass (GetPay r) a tt (λ e. absurd (cc)) none in omega (arith, k)
call-owes m pass (Release r) a other none = let k = call-runs m pass (Release r) a tt (λ e. absurd (cc)) none in omega (arith, k)
call-owes m pass (SetPay r value) a other none = let k = call-runs m pass (SetPay r value) a tt (λ e. absurd (cc)) none in omega (arith, k)
call-owes m pass Commit a other none = let k = commit-owes m pass a none in omega (arith, k)
call-owes m pass Abort a other none = absurd (other refl)

same-owed : (m n : Moment) → n.state ≡ m.state → n.undone ≡ m.undone → bytes_owed n ≡ bytes_owed m
same-owed m n s u =
    let f : State → (ℕ → ℕ) → ℕ = λ z k. sum_by (λ (e : ℕ × ActiveTransaction). 25 * (undoable z e.0 - k e.0) + 7) z.active in
    ap (λ (z : State). f z n.undone) s ∙ ap (λ (k : ℕ → ℕ). f m.state k) u

refused-undone : (m : Moment) (pass : ℕ) (call : TransactionCall) (reply : Reply) → refusal_of m.state pass call ≡ Some reply → undone_after m.undone pass call reply ≡ m.undone
refused-undone m pass Begin reply e = by (transaction_of m.state pass) refl
  where
    by : (o : Option ActiveTransaction) → transaction_of m.state pass ≡ o → undone_after m.undone pass Begin reply ≡ m.undone
    by None is = let k = sym (refusal-out m.state pass Begin is) ∙ e in absurd (cc)
    by (Some t) is = let k = sym (refusal-in m.state pass t Begin is) ∙ e in ap (undone_after m.undone pass Begin) (sym (only k))
      where
        only : Some HasTxn ≡ Some reply → HasTxn ≡ reply
        only x = cc
refused-undone m pass (Read r slot into) reply e = refl
refused-undone m pass (Make into) reply e = refl
refused-undone m pass (Store r slot source) reply e = refl
refused-undone m pass (GetPay r) reply e = refl
refused-undone m pass (Release r) reply e = refl
refused-undone m pass (SetPay r value) reply e = refl
refused-undone m pass Commit reply e = refl
refused-undone m pass Abort reply e = refl

refused-state : (s : State) (pass : ℕ) (call : TransactionCall) (reply : Reply) → refusal_of s pass call ≡ Some reply → (step s pass call).1 ≡ s
unfolding step
refused-state s pass call reply e = ap (λ (o : Option Reply). (option_map_or (λ reply. (reply, s)) o (success s pass (unwrap_or (transaction_of s pass) new_transaction) call)).1) e

pub refused-owes : RefusedOwesLaw
refused-owes m pass call reply e = same-owed m (next m (Call pass call reply)) (refused-state m.state pass call reply e) (refused-undone m pass call reply e)

pub undo-owes : UndoOwesLaw
undo-owes m pass a some = by (transaction_of m.state pass) refl
  where
    by : (o : Option ActiveTransaction) → transaction_of m.state pass ≡ o → bytes_owed (next m (Undo pass)) + 25 ≤ bytes_owed m
    by None is = let k = ap (λ (o : Option ActiveTransaction). option_map_or (λ t. count_by can_be_undone t.writes) o 0) is in absurd (omega (arith, some, k))
    by (Some t) is =
        let n = next m (Undo pass) in
        let u = marked_aborting t in
        let here = transaction_of-undo_same m.state pass t is in
        let counts : (q : ℕ) → q ≢ pass → n.undone q ≡ m.undone q = λ q k. ap (λ (x : Bool). if x then m.undone q + 1 else m.undone q) (ne_eqb q pass k) in
        let own : n.undone pass ≡ m.undone pass + 1 = ap (λ (x : Bool). if x then m.undone pass + 1 else m.undone pass) (test_same pass) in
        let change = owed-change m n pass a (ascend-undo m.state pass a) (λ q k. transaction_of-undo_other m.state pass q k) counts bytes t u is here in
        let was : undoable m.state pass ≡ count_by can_be_undone t.writes = ap (λ (o : Option ActiveTransaction). option_map_or (λ t. count_by can_be_undone t.writes) o 0) is in
        let now : undoable n.state pass ≡ count_by can_be_undone t.writes = ap (λ (o : Option ActiveTransaction). option_map_or (λ t. count_by can_be_undone t.writes) o 0) here in
        omega (arith, change, was, now, own, some)

pub end-owes : EndOwesLaw
end-owes m pass a active = by (transaction_of m.state pass) refl active
  where
    by : (o : Option ActiveTransaction) → transaction_of m.state pass ≡ o → IsSome o → bytes_owed (next m (Call pass Abort Done)) + 7 ≤ bytes_owed m
    by None is some = absurd (cc (some))
    by (Some t) is some =
        let state = ap (λ (x : Reply × State). x.1.active) (step-done m.state pass t Abort is refl) in
        call-ends m pass t Abort Done a (λ e. absurd (cc)) is state
