-- Each active transaction could have run alone, with the replies that it got.
use Rattle.std.proofs.Common.{◌≡◌, ◌≢◌, ℕ, List, [], ◌∷◌, ◌++◌, Option, Some, None, refl, sym, ap, ◌∙◌, subst, arith, true, false, ⊎_elim, ◌⊎◌, inl, inr}
use Rattle.std.specs.Prelude.{◌==◌, ◌&&◌, ◌||◌, if◌then◌else◌, is_some, unwrap_or}
use Rattle.std.specs.Option.{option_map_or}
use Rattle.std.specs.Ordering.{nat_cmp}
use Rattle.std.specs.BTreeMap.{is_at}
use Rattle.std.specs.Map.{set_value}
use Rattle.std.proofs.lemmas.Bool.Decides.{nat_tests}
use Rattle.std.proofs.lemmas.List.Sums.{fold-append}
use Rattle.plain_model.specs.declared.object.Object.{Object}
use Rattle.plain_model.specs.declared.calls.Call.{Call as TransactionCall}
use Rattle.plain_model.specs.declared.calls.Call.TheVariants.{Begin, Read, Make, Store, GetPay, SetPay, Release, Commit, Abort}
use Rattle.plain_model.specs.declared.calls.Reply.{Reply}
use Rattle.plain_model.specs.declared.calls.Reply.TheVariants.{Done}
use Rattle.plain_model.specs.declared.calls.Entry.{Entry}
use Rattle.plain_model.specs.declared.calls.Entry.TheVariants.{Call, Delete, Hidden, Undo, TurnBusy, Crash}
use Rattle.plain_model.specs.Graphs.{object_at}
use Rattle.plain_model.specs.ActiveTransaction.{ActiveTransaction}
use Rattle.plain_model.specs.Machine.{State, is_among, new_transaction, transaction_of, with_transaction, without_transaction, after_commit_of, step, success, refusal_in, free_id, own_graph, register_id}
use Rattle.plain_model.specs.History.{Moment, IsAllowed, IsFailedCommit, next, holds, after_undo, after_delete}
use Rattle.plain_laws.specs.Sound.{is_crash, IsSoundTransaction, IsSoundState, IsSoundMoment}
use Rattle.plain_model.specs.Serial.{AnsweredCall, is_success, is_release, has_released, with_call, with_answer, answered_calls}
use Rattle.plain_laws.specs.Laws.{commit-leaves_held}
use Rattle.plain_laws.proofs.Entries.{at, change-insert, change-set_value, at-remove}
use Rattle.plain_laws.proofs.Ids.{test_same}
use Rattle.plain_laws.proofs.Lookups.{object_at-after_writes, writes_at-other}
use Rattle.plain_laws.proofs.States.{contrary, not_true, apart-now, unowned_unwritten}
use Rattle.plain_laws.proofs.Legal.{sound-next, without_other}
use Rattle.plain_laws.proofs.Transactions.{holds-shares_more, holds-owns_more}
use Rattle.plain_laws.proofs.Alone.{AgreesHeld, IsWork, KeepsLocks, next_transaction, work-active, work-committed, work-aborting, work_alone, Runs, Runs-push, Runs-begin}
use Rattle.plain_laws.proofs.Ways.{Way, refused, begins, succeeds, way, success-succeeds}

-- ---- a commit leaves what others hold

pub commit-leaves_held_proof : commit-leaves_held
commit-leaves_held_proof s p q t u id h e f n is_held =
    object_at-after_writes s.slots s.committed t.writes id ∙ writes_at-other s.slots id (object_at s.committed id) t.writes
    (unowned_unwritten t id t.writes (h.transactions p t e).writes_owned (not_true (is_among id t.owned) (λ o. contrary (holds id u) is_held ((apart-now s p t h e q u f n id).0 o))))

-- ---- the calls so far, with one more entry

pub asked-push : (q : ℕ) (before : List Entry) (e : Entry) → answered_calls q (before ++ e ∷ []) ≡ with_answer q (answered_calls q before) e
asked-push q before e = fold-append (with_answer q) [] before (e ∷ [])

ask-other : (p q : ℕ) (sofar : List AnsweredCall) (call : TransactionCall) (reply : Reply) → q ≢ p → with_answer q sofar (Call p call reply) ≡ sofar
ask-other p q sofar call reply n = let e : (p == q) ≡ false = grind (arith, nat_tests) in rw e

ask-refused : (p q : ℕ) (sofar : List AnsweredCall) (call : TransactionCall) (reply : Reply) → is_success reply ≡ false → with_answer q sofar (Call p call reply) ≡ sofar
ask-refused p q sofar call reply f = elim (p == q) as (λ b. (if b && is_success reply then with_call sofar call reply else sofar) ≡ sofar) [ true ↦ rw f | false ↦ refl ]

pub ask-own : (p : ℕ) (sofar : List AnsweredCall) (call : TransactionCall) (reply : Reply) → is_success reply ≡ true → with_answer p sofar (Call p call reply) ≡ with_call sofar call reply
ask-own p sofar call reply f = let e = test_same p in rw (e, f)

with_call-work : (sofar : List AnsweredCall) (call : TransactionCall) (reply : Reply) → IsWork call → with_call sofar call reply ≡ sofar ++ record { call = call; reply = reply } ∷ []
with_call-work sofar Begin reply w = absurd w
with_call-work sofar Commit reply w = absurd w
with_call-work sofar Abort reply w = absurd w
with_call-work sofar (Read r slot into) reply w = refl
with_call-work sofar (GetPay r) reply w = refl
with_call-work sofar (Store r slot x) reply w = refl
with_call-work sofar (SetPay r v) reply w = refl
with_call-work sofar (Release r) reply w = refl
with_call-work sofar (Make into) reply w = refl

-- a call more, where none so far gave a lock back
pub released-push : (sofar : List AnsweredCall) (x : AnsweredCall) → has_released (sofar ++ x ∷ []) ≡ false → (has_released sofar ≡ false) × (is_release x.call ≡ false)
released-push [] x f = (refl, elim (is_release x.call) as (λ b. (b || false) ≡ false → b ≡ false) [ true ↦ λ e. e | false ↦ λ e. e ] f)
released-push (y ∷ ys) x f = elim (is_release y.call) as (λ b. (b || has_released (ys ++ x ∷ [])) ≡ false → ((b || has_released ys) ≡ false) × (is_release x.call ≡ false)) [ true ↦ λ e. absurd (cc) | false ↦ λ e. released-push ys x e ] f

keeps_locks : (call : TransactionCall) → is_release call ≡ false → KeepsLocks call
keeps_locks (Release r) f = absurd (cc)
keeps_locks Begin f = tt
keeps_locks Commit f = tt
keeps_locks Abort f = tt
keeps_locks (Read r slot into) f = tt
keeps_locks (GetPay r) f = tt
keeps_locks (Store r slot x) f = tt
keeps_locks (SetPay r v) f = tt
keeps_locks (Make into) f = tt

-- ---- each active transaction could have run alone

-- on each graph that agrees with the committed one where the transaction holds objects, unless it gave a shared lock back
abbrev pub IsTold : ℕ → ℕ → List Entry → State → Type 0
IsTold ids slots before s = (p : ℕ) (t : ActiveTransaction) → transaction_of s p ≡ Some t → t.aborting ≡ false → has_released (answered_calls p before) ≡ false → (g : List Object) → AgreesHeld g s.committed t → Runs ids slots g p (answered_calls p before) t

-- the entry doesn't concern the transaction
pub record IsKept (before : List Entry) (e : Entry) (s n : State) (q : ℕ) (u : ActiveTransaction) : Type 0 where
  pub asks : with_answer q (answered_calls q before) e ≡ answered_calls q before
  pub was : transaction_of s q ≡ Some u
  pub same : (x : ℕ) → holds x u ≡ true → object_at n.committed x ≡ object_at s.committed x

-- or the transaction runs alone after it
abbrev IsFresh : ℕ → ℕ → List Entry → Entry → State → ℕ → ActiveTransaction → Type 0
IsFresh ids slots before e n q u = has_released (with_answer q (answered_calls q before) e) ≡ false → (g : List Object) → AgreesHeld g n.committed u → Runs ids slots g q (with_answer q (answered_calls q before) e) u

agrees-back : (g c d : List Object) (t : ActiveTransaction) → ((x : ℕ) → holds x t ≡ true → object_at d x ≡ object_at c x) → AgreesHeld g d t → AgreesHeld g c t
agrees-back g c d t same a x h m = let e = same x h in a x h (ap is_some e ∙ m) ∙ e

told-by : (ids slots : ℕ) (before : List Entry) (e : Entry) (s n : State) → IsTold ids slots before s → ((q : ℕ) (u : ActiveTransaction) → transaction_of n q ≡ Some u → u.aborting ≡ false → IsKept before e s n q u ⊎ IsFresh ids slots before e n q u) → IsTold ids slots (before ++ e ∷ []) n
told-by ids slots before e s n told each q u f a none g agrees =
    let here : has_released (with_answer q (answered_calls q before) e) ≡ false = subst (λ xs. has_released xs ≡ false) (asked-push q before e) none in
    subst (λ xs. Runs ids slots g q xs u) (sym (asked-push q before e))
    (⊎_elim
    (λ (k : IsKept before e s n q u). subst (λ xs. Runs ids slots g q xs u) (sym k.asks) (told q u k.was a (subst (λ xs. has_released xs ≡ false) k.asks here) g (agrees-back g s.committed n.committed u k.same agrees)))
    (λ k. k here g agrees)
    (each q u f a))

held_more : (s : State) (t : ActiveTransaction) (call : TransactionCall) → IsWork call → KeepsLocks call → (x : ℕ) → holds x t ≡ true → holds x (next_transaction s t call) ≡ true
held_more s t Begin w l x m = absurd w
held_more s t Commit w l x m = absurd w
held_more s t Abort w l x m = absurd w
held_more s t (Read r slot into) w l x m = holds-shares_more x (register_id t r) t m
held_more s t (GetPay r) w l x m = holds-shares_more x (register_id t r) t m
held_more s t (Store r slot y) w l x m = holds-owns_more x (register_id t r) t m
held_more s t (SetPay r v) w l x m = holds-owns_more x (register_id t r) t m
held_more s t (Release r) w l x m = absurd l
held_more s t (Make into) w l x m = holds-owns_more x (unwrap_or (free_id s) 0) t m

-- a call between begin and end
told-work : (ids slots : ℕ) (before : List Entry) (s : State) (pass : ℕ) (t : ActiveTransaction) (call : TransactionCall) (reply : Reply) → IsWork call → s.slots ≡ slots → IsSoundState s → IsSoundState (success s pass t call).1 → transaction_of s pass ≡ Some t → refusal_in s pass t call ≡ None → reply ≡ (success s pass t call).0
    → IsTold ids slots before s → IsTold ids slots (before ++ Call pass call reply ∷ []) (success s pass t call).1
told-work ids slots before s pass t call reply w sl h h2 e f r told =
    let n = (success s pass t call).1 in
    let u = next_transaction s t call in
    let placed = work-active s pass t call w in
    let same = work-committed s pass t call w in
    told-by ids slots before (Call pass call reply) s n told (λ q v k a.
    ⊎_elim
    (λ (c : (q ≡ pass) × (v ≡ u)).
    let sound : IsSoundTransaction s.committed n.stored u = subst (λ g. IsSoundTransaction g n.stored u) same (subst (IsSoundTransaction n.committed n.stored) c.1 (h2.transactions q v k)) in
    let alive : t.aborting ≡ false = sym (work-aborting s t call w) ∙ (sym (ap (λ (z : ActiveTransaction). z.aborting) c.1) ∙ a) in
    inr (λ none g agrees.
    let listed : with_answer pass (answered_calls pass before) (Call pass call reply) ≡ answered_calls pass before ++ record { call = call; reply = (success s pass t call).0 } ∷ [] =
    ask-own pass (answered_calls pass before) call reply (ap is_success r ∙ success-succeeds s pass t call) ∙ (with_call-work (answered_calls pass before) call reply w ∙ ap (λ (z : Reply). answered_calls pass before ++ record { call = call; reply = z } ∷ []) r) in
    let kept = released-push (answered_calls pass before) (record { call = call; reply = (success s pass t call).0 }) (subst (λ xs. has_released xs ≡ false) listed (subst (λ z. has_released (with_answer z (answered_calls z before) (Call pass call reply)) ≡ false) c.0 none)) in
    let locks = keeps_locks call kept.1 in
    let agrees2 : AgreesHeld g s.committed u = subst (λ d. AgreesHeld g d u) same (subst (AgreesHeld g n.committed) c.1 agrees) in
    let agrees1 : AgreesHeld g s.committed t = λ x m. agrees2 x (held_more s t call w locks x m) in
    let before_it = told pass t e alive kept.0 g agrees1 in
    let goes = work_alone s ids slots g before_it.stored n.stored pass t call w locks sl h.committed sound f agrees2 in
    let run = Runs-push ids slots g pass (answered_calls pass before) t u call (success s pass t call).0 before_it goes in
    let here : Runs ids slots g pass (with_answer pass (answered_calls pass before) (Call pass call reply)) u = subst (λ xs. Runs ids slots g pass xs u) (sym listed) run in
    subst (λ z. Runs ids slots g q (with_answer q (answered_calls q before) (Call pass call reply)) z) (sym c.1) (subst (λ z. Runs ids slots g z (with_answer z (answered_calls z before) (Call pass call reply)) u) (sym c.0) here)))
    (λ (c : (q ≢ pass) × (at q s.active ≡ Some v)). inl (record { asks = ask-other pass q (answered_calls q before) call reply c.0; was = c.1; same = λ x m. ap (λ d. object_at d x) same }))
    (change-insert pass u s.active q v (subst (λ z. at q z ≡ Some v) placed k)))

-- it begins
told-begin : (ids slots : ℕ) (before : List Entry) (s : State) (pass : ℕ) → IsTold ids slots before s → IsTold ids slots (before ++ Call pass Begin Done ∷ []) (with_transaction s pass new_transaction)
told-begin ids slots before s pass told =
    told-by ids slots before (Call pass Begin Done) s (with_transaction s pass new_transaction) told (λ q v k a.
    ⊎_elim
    (λ (c : (q ≡ pass) × (v ≡ new_transaction)). inr (λ none g agrees.
    let here : Runs ids slots g pass (with_answer pass (answered_calls pass before) (Call pass Begin Done)) new_transaction = subst (λ xs. Runs ids slots g pass xs new_transaction) (sym (ask-own pass (answered_calls pass before) Begin Done refl)) (Runs-begin ids slots g pass) in
    subst (λ z. Runs ids slots g q (with_answer q (answered_calls q before) (Call pass Begin Done)) z) (sym c.1) (subst (λ z. Runs ids slots g z (with_answer z (answered_calls z before) (Call pass Begin Done)) new_transaction) (sym c.0) here)))
    (λ (c : (q ≢ pass) × (at q s.active ≡ Some v)). inl (record { asks = ask-other pass q (answered_calls q before) Begin Done c.0; was = c.1; same = λ x m. refl }))
    (change-insert pass new_transaction s.active q v k))

-- it ends, and what the others hold stays
told-ended : (ids slots : ℕ) (before : List Entry) (s : State) (pass : ℕ) (call : TransactionCall) (reply : Reply) (g : List Object) → IsSoundState s → ((q : ℕ) (u : ActiveTransaction) → q ≢ pass → transaction_of s q ≡ Some u → (x : ℕ) → holds x u ≡ true → object_at g x ≡ object_at s.committed x)
    → IsTold ids slots before s → IsTold ids slots (before ++ Call pass call reply ∷ []) (record (without_transaction s pass) { committed = g })
told-ended ids slots before s pass call reply g h same told =
    told-by ids slots before (Call pass call reply) s (record (without_transaction s pass) { committed = g }) told (λ q v k a.
    let c = at-remove pass q v s.active h.passes k in
    inl (record { asks = ask-other pass q (answered_calls q before) call reply c.0; was = c.1; same = λ x m. same q v c.0 c.1 x m }))

-- the call is refused
told-refused : (ids slots : ℕ) (before : List Entry) (s : State) (pass : ℕ) (call : TransactionCall) (reply : Reply) → is_success reply ≡ false → IsTold ids slots before s → IsTold ids slots (before ++ Call pass call reply ∷ []) s
told-refused ids slots before s pass call reply f told = told-by ids slots before (Call pass call reply) s s told (λ q v k a. inl (record { asks = ask-refused pass q (answered_calls q before) call reply f; was = k; same = λ x m. refl }))

told-commit : (ids slots : ℕ) (before : List Entry) (s : State) (pass : ℕ) (t : ActiveTransaction) (reply : Reply) → IsSoundState s → transaction_of s pass ≡ Some t → IsTold ids slots before s → IsTold ids slots (before ++ Call pass Commit reply ∷ []) (after_commit_of s pass t)
told-commit ids slots before s pass t reply h e told = told-ended ids slots before s pass Commit reply (own_graph s t) h (λ q u n f x m. commit-leaves_held_proof s pass q t u x h e f n m) told

-- the reply of a call other than a commit is the machine's
told_reply : (s : State) (pass : ℕ) (call : TransactionCall) (reply : Reply) → (call ≡ Commit → ⊥) → (reply ≡ (step s pass call).0) ⊎ IsFailedCommit s pass call reply → reply ≡ (step s pass call).0
told_reply s pass call reply n m = ⊎_elim (λ e. e) (λ f. absurd (n f.0)) m

told-success : (ids slots : ℕ) (before : List Entry) (s : State) (pass : ℕ) (t : ActiveTransaction) (call : TransactionCall) (reply : Reply) → s.slots ≡ slots → IsSoundState s → IsSoundState (success s pass t call).1 → transaction_of s pass ≡ Some t → refusal_in s pass t call ≡ None → ((call ≡ Commit → ⊥) → reply ≡ (success s pass t call).0)
    → IsTold ids slots before s → IsTold ids slots (before ++ Call pass call reply ∷ []) (success s pass t call).1
told-success ids slots before s pass t Begin reply sl h h2 e f r told = absurd (cc)
told-success ids slots before s pass t Commit reply sl h h2 e f r told = told-commit ids slots before s pass t reply h e told
told-success ids slots before s pass t Abort reply sl h h2 e f r told = told-ended ids slots before s pass Abort reply s.committed h (λ q u n k x m. refl) told
told-success ids slots before s pass t (Read rr slot into) reply sl h h2 e f r told = told-work ids slots before s pass t (Read rr slot into) reply tt sl h h2 e f (r (λ c. absurd (cc))) told
told-success ids slots before s pass t (GetPay rr) reply sl h h2 e f r told = told-work ids slots before s pass t (GetPay rr) reply tt sl h h2 e f (r (λ c. absurd (cc))) told
told-success ids slots before s pass t (Store rr slot x) reply sl h h2 e f r told = told-work ids slots before s pass t (Store rr slot x) reply tt sl h h2 e f (r (λ c. absurd (cc))) told
told-success ids slots before s pass t (SetPay rr v) reply sl h h2 e f r told = told-work ids slots before s pass t (SetPay rr v) reply tt sl h h2 e f (r (λ c. absurd (cc))) told
told-success ids slots before s pass t (Release rr) reply sl h h2 e f r told = told-work ids slots before s pass t (Release rr) reply tt sl h h2 e f (r (λ c. absurd (cc))) told
told-success ids slots before s pass t (Make into) reply sl h h2 e f r told = told-work ids slots before s pass t (Make into) reply tt sl h h2 e f (r (λ c. absurd (cc))) told

told-call : (ids slots : ℕ) (before : List Entry) (s : State) (pass : ℕ) (call : TransactionCall) (reply : Reply) → s.slots ≡ slots → IsSoundState s → IsSoundState (step s pass call).1 → (reply ≡ (step s pass call).0) ⊎ IsFailedCommit s pass call reply
    → IsTold ids slots before s → IsTold ids slots (before ++ Call pass call reply ∷ []) (step s pass call).1
told-call ids slots before s pass call reply sl h h2 m told = by (way s pass call)
  where
    by : Way s pass call → IsTold ids slots (before ++ Call pass call reply ∷ []) (step s pass call).1
    by (refused r e f) =
        let now : (step s pass call).1 ≡ s = ap (λ (z : Reply × State). z.1) e in
        let told_r : (step s pass call).0 ≡ r = ap (λ (z : Reply × State). z.0) e in
        let fails : is_success reply ≡ false = ⊎_elim (λ k. ap is_success (k ∙ told_r) ∙ f) (λ k. ap is_success k.1) m in
        subst (IsTold ids slots (before ++ Call pass call reply ∷ [])) (sym now) (told-refused ids slots before s pass call reply fails told)
    by (begins b e) =
        let now : (step s pass call).1 ≡ with_transaction s pass new_transaction = ap (λ (z : Reply × State). z.1) e in
        let told_r : (step s pass call).0 ≡ Done = ap (λ (z : Reply × State). z.0) e in
        let r : reply ≡ Done = told_reply s pass call reply (λ c. absurd (cc)) m ∙ told_r in
        subst (IsTold ids slots (before ++ Call pass call reply ∷ [])) (sym now)
        (subst (λ c. IsTold ids slots (before ++ Call pass c reply ∷ []) (with_transaction s pass new_transaction)) (sym b)
        (subst (λ c. IsTold ids slots (before ++ Call pass Begin c ∷ []) (with_transaction s pass new_transaction)) (sym r) (told-begin ids slots before s pass told)))
    by (succeeds t k f e) =
        let now : (step s pass call).1 ≡ (success s pass t call).1 = ap (λ (z : Reply × State). z.1) e in
        let told_r : (step s pass call).0 ≡ (success s pass t call).0 = ap (λ (z : Reply × State). z.0) e in
        subst (IsTold ids slots (before ++ Call pass call reply ∷ [])) (sym now)
        (told-success ids slots before s pass t call reply sl h (subst IsSoundState now h2) k f (λ n. told_reply s pass call reply n m ∙ told_r) told)

-- ---- each entry but a crash

undone_alive : (s : State) (pass q : ℕ) (u : ActiveTransaction) → transaction_of (after_undo s pass) q ≡ Some u → u.aborting ≡ false → transaction_of s q ≡ Some u
undone_alive s pass q u h a = by (transaction_of s pass) h
  where
    by : (o : Option ActiveTransaction) → at q (option_map_or (λ t. set_value (is_at (nat_cmp pass)) s.active (record t { aborting = true })) o s.active) ≡ Some u → transaction_of s q ≡ Some u
    by None e = e
    by (Some t) e =
        ⊎_elim
        (λ c. contrary u.aborting (ap (λ (z : ActiveTransaction). z.aborting) c.1) a)
        (λ c. c.1)
        (change-set_value pass (record t { aborting = true }) s.active q u e)

pub told-next : (ids slots : ℕ) (before : List Entry) (m : Moment) (e : Entry) → m.state.slots ≡ slots → IsSoundMoment m → IsAllowed m e → is_crash e ≡ false → IsTold ids slots before m.state → IsTold ids slots (before ++ e ∷ []) (next m e).state
told-next ids slots before m (Call pass call reply) sl h a c told = told-call ids slots before m.state pass call reply sl h.state (sound-next m (Call pass call reply) h a).state a.1.machine told
told-next ids slots before m (Delete id) sl h a c told =
    told-by ids slots before (Delete id) m.state (after_delete m.state id) told (λ q v k b. inl (record { asks = refl; was = k; same = λ x n. without_other m.state.committed id x (λ s. contrary (holds x v) n (subst (λ y. holds y v ≡ false) (sym s) (a.3 q v k))) }))
told-next ids slots before m Hidden sl h a c told = told-by ids slots before Hidden m.state m.state told (λ q v k b. inl (record { asks = refl; was = k; same = λ x n. refl }))
told-next ids slots before m (Undo pass) sl h a c told = told-by ids slots before (Undo pass) m.state (after_undo m.state pass) told (λ q v k b. inl (record { asks = refl; was = undone_alive m.state pass q v k b; same = λ x n. refl }))
told-next ids slots before m (TurnBusy pass) sl h a c told = told-by ids slots before (TurnBusy pass) m.state m.state told (λ q v k b. inl (record { asks = refl; was = k; same = λ x n. refl }))
told-next ids slots before m (Crash cells) sl h a c told = absurd (cc)
