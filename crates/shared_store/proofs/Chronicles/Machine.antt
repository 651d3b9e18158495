-- By a legal history a client has a transaction exactly where its entries tell so.
use Rattle.std.proofs.Common.{◌≡◌, ◌≢◌, ◌⊎◌, ℕ, List, [], ◌∷◌, Bool, true, false, Option, Some, None, refl, sym, ap, subst, ◌∙◌, ⊎_elim, inl, inr}
use Rattle.std.specs.Prelude.{◌==◌, if◌then◌else◌, is_some, unwrap_or, fold}
use Rattle.std.specs.List.{AllByRecursion}
use Rattle.std.specs.Ordering.{nat_cmp}
use Rattle.std.specs.BTreeMap.{insert_entry, is_at}
use Rattle.std.specs.Map.{set_value, remove_entry}
use Rattle.std.specs.Option.{option_map_or}
use Rattle.std.proofs.lemmas.Bool.{cases_eq, ne_eqb, eq-eqb}
use Rattle.plain_model.specs.declared.calls.Call.{Call as TransactionCall}
use Rattle.plain_model.specs.declared.calls.Call.TheVariants as call
use Rattle.plain_model.specs.declared.calls.Reply.{Reply}
use Rattle.plain_model.specs.declared.calls.Reply.TheVariants as reply
use Rattle.plain_model.specs.declared.calls.Entry.{Entry}
use Rattle.plain_model.specs.declared.calls.Entry.TheVariants as entry
use Rattle.plain_model.specs.ActiveTransaction.{ActiveTransaction}
use Rattle.plain_model.specs.Machine.{State, step, success, transaction_of, refusal_of, refusal_in, refusal_out, new_transaction}
use Rattle.plain_model.specs.History.{Moment, History, next, moment_after, start_of, end_of, IsAllowed, IsLegalFrom, IsLegal, with_aborting}
use Rattle.plain_laws.specs.Sound.{PassesAscend, is_crash}
use Rattle.plain_laws.proofs.Entries.{at, at-insert_same, at-insert_other, at-remove_same, at-remove_other, at-set_value_same, at-set_value_other, ascend-insert, ascend-remove, ascend-set_value}
use Rattle.plain_laws.proofs.Alone.{next_transaction}
use Rattle.shared_store.specs.Chronicles.Clients.{begins_or_ends, has_after, has_by}

-- ---- the active clients after a change of one of them

-- the client was put in
has-insert : (p q : ℕ) (t : ActiveTransaction) (es : List (ℕ × ActiveTransaction)) → is_some (at p (insert_entry nat_cmp es q t)) ≡ (if q == p then true else is_some (at p es))
has-insert p q t es = ⊎_elim
    (λ (e : q ≡ p). rw (eq-eqb q p e) (ap is_some (subst (λ (n : ℕ). at n (insert_entry nat_cmp es q t) ≡ Some t) e (at-insert_same q t es))))
    (λ (n : q ≢ p). rw (ne_eqb q p n) (ap is_some (at-insert_other q p t es (λ e. n (sym e)))))
    (cases_eq q p)

-- it was taken out
has-remove : (p q : ℕ) (es : List (ℕ × ActiveTransaction)) → PassesAscend es → is_some (at p (remove_entry (is_at (nat_cmp q)) es)) ≡ (if q == p then false else is_some (at p es))
has-remove p q es up = ⊎_elim
    (λ (e : q ≡ p). rw (eq-eqb q p e) (ap is_some (subst (λ (n : ℕ). at n (remove_entry (is_at (nat_cmp q)) es) ≡ None) e (at-remove_same q es up))))
    (λ (n : q ≢ p). rw (ne_eqb q p n) (ap is_some (at-remove_other q p es (λ e. n (sym e)))))
    (cases_eq q p)

-- its transaction is being undone
has-aborting : (p q : ℕ) (es : List (ℕ × ActiveTransaction)) → is_some (at p (with_aborting q es)) ≡ is_some (at p es)
has-aborting p q es = by (at q es) refl
  where
    by : (o : Option ActiveTransaction) → at q es ≡ o → is_some (at p (option_map_or (λ t. set_value (is_at (nat_cmp q)) es (record t { aborting = true })) o es)) ≡ is_some (at p es)
    by None e = refl
    by (Some t) e = ⊎_elim
        (λ (f : q ≡ p). subst (λ (n : ℕ). is_some (at n (set_value (is_at (nat_cmp q)) es (record t { aborting = true }))) ≡ is_some (at n es)) f
        (ap is_some (at-set_value_same q (record t { aborting = true }) t es e) ∙ sym (ap is_some e)))
        (λ (n : q ≢ p). ap is_some (at-set_value_other q p (record t { aborting = true }) es (λ f. n (sym f))))
        (cases_eq q p)

ascend-aborting : (q : ℕ) (es : List (ℕ × ActiveTransaction)) → PassesAscend es → PassesAscend (with_aborting q es)
ascend-aborting q es up = by (at q es)
  where
    by : (o : Option ActiveTransaction) → PassesAscend (option_map_or (λ t. set_value (is_at (nat_cmp q)) es (record t { aborting = true })) o es)
    by None = up
    by (Some t) = ascend-set_value q (record t { aborting = true }) es up

-- ---- a call

-- whether the client has a transaction after this call of its own was done
has_done : TransactionCall → Bool
has_done call.Commit = false
has_done call.Abort = false
has_done _ = true

has-success : (s : State) (p q : ℕ) (t : ActiveTransaction) (c : TransactionCall) → PassesAscend s.active → is_some (at p (success s q t c).1.active) ≡ (if q == p then has_done c else is_some (at p s.active))
unfolding has_done
has-success s p q t call.Begin up = has-insert p q new_transaction s.active
has-success s p q t call.Commit up = has-remove p q s.active up
has-success s p q t call.Abort up = has-remove p q s.active up
has-success s p q t (call.Read r slot into) up = has-insert p q (next_transaction s t (call.Read r slot into)) s.active
has-success s p q t (call.Make into) up = has-insert p q (next_transaction s t (call.Make into)) s.active
has-success s p q t (call.Store r slot source) up = has-insert p q (next_transaction s t (call.Store r slot source)) s.active
has-success s p q t (call.GetPay r) up = has-insert p q (next_transaction s t (call.GetPay r)) s.active
has-success s p q t (call.Release r) up = has-insert p q (next_transaction s t (call.Release r)) s.active
has-success s p q t (call.SetPay r value) up = has-insert p q (next_transaction s t (call.SetPay r value)) s.active

ascend-success : (s : State) (q : ℕ) (t : ActiveTransaction) (c : TransactionCall) → PassesAscend s.active → PassesAscend (success s q t c).1.active
ascend-success s q t call.Begin up = ascend-insert q new_transaction s.active up
ascend-success s q t call.Commit up = ascend-remove q s.active up
ascend-success s q t call.Abort up = ascend-remove q s.active up
ascend-success s q t (call.Read r slot into) up = ascend-insert q (next_transaction s t (call.Read r slot into)) s.active up
ascend-success s q t (call.Make into) up = ascend-insert q (next_transaction s t (call.Make into)) s.active up
ascend-success s q t (call.Store r slot source) up = ascend-insert q (next_transaction s t (call.Store r slot source)) s.active up
ascend-success s q t (call.GetPay r) up = ascend-insert q (next_transaction s t (call.GetPay r)) s.active up
ascend-success s q t (call.Release r) up = ascend-insert q (next_transaction s t (call.Release r)) s.active up
ascend-success s q t (call.SetPay r value) up = ascend-insert q (next_transaction s t (call.SetPay r value)) s.active up

-- the step of a call that is refused, and of one that isn't
step-refused : (s : State) (q : ℕ) (c : TransactionCall) (r : Reply) → refusal_of s q c ≡ Some r → step s q c ≡ (r, s)
unfolding step
step-refused s q c r e = ap (λ (o : Option Reply). option_map_or (λ x. (x, s)) o (success s q (unwrap_or (transaction_of s q) new_transaction) c)) e

step-granted : (s : State) (q : ℕ) (c : TransactionCall) → refusal_of s q c ≡ None → step s q c ≡ success s q (unwrap_or (transaction_of s q) new_transaction) c
unfolding step
step-granted s q c e = ap (λ (o : Option Reply). option_map_or (λ x. (x, s)) o (success s q (unwrap_or (transaction_of s q) new_transaction) c)) e

pub ascend-step : (s : State) (q : ℕ) (c : TransactionCall) → PassesAscend s.active → PassesAscend (step s q c).1.active
ascend-step s q c up = by (refusal_of s q c) refl
  where
    by : (o : Option Reply) → refusal_of s q c ≡ o → PassesAscend (step s q c).1.active
    by (Some r) e = subst (λ (x : Reply × State). PassesAscend x.1.active) (sym (step-refused s q c r e)) up
    by None e = subst (λ (x : Reply × State). PassesAscend x.1.active) (sym (step-granted s q c e)) (ascend-success s q (unwrap_or (transaction_of s q) new_transaction) c up)

-- a reply of the machine, or that the disk failed a commit that would be done
abbrev pub IsAnswer : TransactionCall → Reply → Reply → Type 0
IsAnswer c r answer = (answer ≡ r) ⊎ ((c ≡ call.Commit) × (answer ≡ reply.DiskFault) × (r ≡ reply.Done))

-- no refusal begins or ends a transaction
refused-tells : (s : State) (q : ℕ) (o : Option ActiveTransaction) (c : TransactionCall) (r : Reply) → option_map_or (λ t. refusal_in s q t c) o (refusal_out c) ≡ Some r
    → (begins_or_ends c r ≡ None) × (c ≡ call.Commit → r ≢ reply.Done)
refused-tells s q None call.Begin r e = absurd (cc)
refused-tells s q None call.Commit r e = let f : reply.NoTxn ≡ r = cc in (subst (λ (x : Reply). begins_or_ends call.Commit x ≡ None) f refl, λ g h. absurd (cc))
refused-tells s q None call.Abort r e = let f : reply.NoTxn ≡ r = cc in (subst (λ (x : Reply). begins_or_ends call.Abort x ≡ None) f refl, λ g. absurd (cc))
refused-tells s q (Some t) call.Begin r e = let f : reply.HasTxn ≡ r = cc in (subst (λ (x : Reply). begins_or_ends call.Begin x ≡ None) f refl, λ g. absurd (cc))
refused-tells s q (Some t) call.Commit r e = by t.aborting e
  where
    by : (b : Bool) → (if b then Some reply.Aborting else None) ≡ Some r → (begins_or_ends call.Commit r ≡ None) × (call.Commit ≡ call.Commit → r ≢ reply.Done)
    by true e = let f : reply.Aborting ≡ r = cc in (subst (λ (x : Reply). begins_or_ends call.Commit x ≡ None) f refl, λ g h. absurd (cc))
    by false e = absurd (cc)
refused-tells s q (Some t) call.Abort r e = absurd (cc)
refused-tells s q o (call.Read a b d) r e = (refl, λ g. absurd (cc))
refused-tells s q o (call.Make a) r e = (refl, λ g. absurd (cc))
refused-tells s q o (call.Store a b d) r e = (refl, λ g. absurd (cc))
refused-tells s q o (call.GetPay a) r e = (refl, λ g. absurd (cc))
refused-tells s q o (call.Release a) r e = (refl, λ g. absurd (cc))
refused-tells s q o (call.SetPay a b) r e = (refl, λ g. absurd (cc))

-- what is done tells of a transaction what it does
granted-tells : (s : State) (q : ℕ) (o : Option ActiveTransaction) (c : TransactionCall) (answer : Reply) → option_map_or (λ t. refusal_in s q t c) o (refusal_out c) ≡ None
    → IsAnswer c (success s q (unwrap_or o new_transaction) c).0 answer → unwrap_or (begins_or_ends c answer) (is_some o) ≡ has_done c
unfolding has_done
granted-tells s q None call.Begin answer e (inl f) = rw f refl
granted-tells s q None call.Begin answer e (inr g) = let h = g.0 in absurd (cc)
granted-tells s q None call.Commit answer e a = absurd (cc)
granted-tells s q None call.Abort answer e a = absurd (cc)
granted-tells s q None (call.Read x y z) answer e a = absurd (cc)
granted-tells s q None (call.Make x) answer e a = absurd (cc)
granted-tells s q None (call.Store x y z) answer e a = absurd (cc)
granted-tells s q None (call.GetPay x) answer e a = absurd (cc)
granted-tells s q None (call.Release x) answer e a = absurd (cc)
granted-tells s q None (call.SetPay x y) answer e a = absurd (cc)
granted-tells s q (Some t) call.Begin answer e a = absurd (cc)
granted-tells s q (Some t) call.Commit answer e (inl f) = rw f refl
granted-tells s q (Some t) call.Commit answer e (inr g) = rw (g.1) refl
granted-tells s q (Some t) call.Abort answer e (inl f) = rw f refl
granted-tells s q (Some t) call.Abort answer e (inr g) = let h = g.0 in absurd (cc)
granted-tells s q (Some t) (call.Read x y z) answer e a = refl
granted-tells s q (Some t) (call.Make x) answer e a = refl
granted-tells s q (Some t) (call.Store x y z) answer e a = refl
granted-tells s q (Some t) (call.GetPay x) answer e a = refl
granted-tells s q (Some t) (call.Release x) answer e a = refl
granted-tells s q (Some t) (call.SetPay x y) answer e a = refl

untold : (b : Bool) (o : Option Bool) (had : Bool) → o ≡ None → (if b then unwrap_or o had else had) ≡ had
untold true o had e = rw e refl
untold false o had e = refl

call-clients : (s : State) (p q : ℕ) (c : TransactionCall) (answer : Reply) → PassesAscend s.active → IsAnswer c (step s q c).0 answer
    → is_some (at p (step s q c).1.active) ≡ has_after p (is_some (at p s.active)) (entry.Call q c answer)
call-clients s p q c answer up allowed = by (refusal_of s q c) refl
  where
    refused-none : (r : Reply) → refusal_of s q c ≡ Some r → IsAnswer c r answer → begins_or_ends c answer ≡ None
    refused-none r e (inl f) = ap (begins_or_ends c) f ∙ (refused-tells s q (transaction_of s q) c r e).0
    refused-none r e (inr g) = absurd ((refused-tells s q (transaction_of s q) c r e).1 g.0 g.2)

    by : (o : Option Reply) → refusal_of s q c ≡ o → is_some (at p (step s q c).1.active) ≡ has_after p (is_some (at p s.active)) (entry.Call q c answer)
    by (Some r) e =
        let is = step-refused s q c r e in
        let a = subst (λ (x : Reply × State). IsAnswer c x.0 answer) is allowed in
        ap (λ (x : Reply × State). is_some (at p x.1.active)) is ∙ sym (untold (q == p) (begins_or_ends c answer) (is_some (at p s.active)) (refused-none r e a))
    by None e =
        let is = step-granted s q c e in
        let a = subst (λ (x : Reply × State). IsAnswer c x.0 answer) is allowed in
        let told = granted-tells s q (transaction_of s q) c answer e a in
        ap (λ (x : Reply × State). is_some (at p x.1.active)) is
        ∙ (has-success s p q (unwrap_or (transaction_of s q) new_transaction) c up
        ∙ ⊎_elim
        (λ (f : q ≡ p). rw (eq-eqb q p f) (subst (λ (n : ℕ). has_done c ≡ unwrap_or (begins_or_ends c answer) (is_some (at n s.active))) f (sym told)))
        (λ (n : q ≢ p). rw (ne_eqb q p n) refl)
        (cases_eq q p))

-- ---- all entries

pub ascend-next : (m : Moment) (e : Entry) → PassesAscend m.state.active → PassesAscend (next m e).state.active
ascend-next m (entry.Call q c answer) up = ascend-step m.state q c up
ascend-next m (entry.Delete id) up = up
ascend-next m entry.Hidden up = up
ascend-next m (entry.Undo q) up = ascend-aborting q m.state.active up
ascend-next m (entry.TurnBusy q) up = up
ascend-next m (entry.Crash cells) up = tt

next-clients : (m : Moment) (e : Entry) (p : ℕ) → IsAllowed m e → is_crash e ≡ false → PassesAscend m.state.active → is_some (transaction_of (next m e).state p) ≡ has_after p (is_some (transaction_of m.state p)) e
next-clients m (entry.Call q c answer) p allowed none up = call-clients m.state p q c answer up (let a = allowed.1 in a.machine)
next-clients m (entry.Delete id) p allowed none up = refl
next-clients m entry.Hidden p allowed none up = refl
next-clients m (entry.Undo q) p allowed none up = has-aborting p q m.state.active
next-clients m (entry.TurnBusy q) p allowed none up = refl
next-clients m (entry.Crash cells) p allowed none up = absurd (cc)

moment-clients : (m : Moment) (es : List Entry) (p : ℕ) → IsLegalFrom m es → AllByRecursion (λ e. is_crash e ≡ false) es → PassesAscend m.state.active
    → is_some (transaction_of (moment_after m es).state p) ≡ fold (has_after p) (is_some (transaction_of m.state p)) es
moment-clients m [] p legal none up = refl
moment-clients m (e ∷ es) p legal none up =
    moment-clients (next m e) es p legal.1 none.1 (ascend-next m e up)
    ∙ ap (λ (b : Bool). fold (has_after p) b es) (next-clients m e p legal.0 none.0 up)

-- by a legal history without a crash
pub history-clients : (h : History) (p : ℕ) → IsLegal h → AllByRecursion (λ e. is_crash e ≡ false) h.entries → has_by h.entries p ≡ is_some (transaction_of (end_of h).state p)
history-clients h p legal none = sym (moment-clients (start_of h) h.entries p legal none tt)

-- a commit that isn't refused is done
pub commit-done : (s : State) (q : ℕ) → refusal_of s q call.Commit ≡ None → (step s q call.Commit).0 ≡ reply.Done
commit-done s q e = ap (λ (x : Reply × State). x.0) (step-granted s q call.Commit e)
