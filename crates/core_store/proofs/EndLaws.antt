-- A transaction ends: it commits, or its abort is over.
use Rattle.std.proofs.Common.{◌≡◌, ◌≢◌, ℕ, List, refl, sym, ap, ◌∙◌, subst, Option, Some, None, ⊎_elim, arith, length, map, ne_eqb, []}
use Rattle.std.specs.Prelude.{◌==◌, ◌&&◌, not, count_by, Contains, nat_lt, nat_le, take}
use Rattle.std.specs.Option.{option_map_or}
use Rattle.std.specs.List.{list_any}
use Rattle.std.specs.Ordering.{nat_cmp}
use Rattle.std.specs.BTreeMap.{is_at}
use Rattle.plain_model.specs.declared.object.Object.{Object}
use Rattle.plain_model.specs.declared.write.Write.{Write}
use Rattle.plain_model.specs.declared.calls.Call.TheVariants.{Commit, Abort}
use Rattle.plain_model.specs.declared.calls.Entry.TheVariants.{Call}
use Rattle.plain_model.specs.declared.calls.Reply.{Reply}
use Rattle.plain_model.specs.declared.calls.Reply.TheVariants.{Done}
use Rattle.plain_model.specs.Graphs.{object_at, applied}
use Rattle.plain_model.specs.ActiveTransaction.{ActiveTransaction}
use Rattle.plain_model.specs.Machine.{State, transaction_of, without_transaction, after_commit_of, own_graph, is_stored}
use Rattle.plain_model.specs.History.{next, can_be_undone, undoable}
use Rattle.plain_model.proofs.StepLemmas.{step-abort}
use Rattle.plain_laws.proofs.Entries.{same_or_apart}
use Rattle.plain_laws.proofs.Ids.{test_same}
use Rattle.plain_laws.proofs.Locks.{transaction_of-without_same, transaction_of-without_other}
use Rattle.strict_locks.specs.Locks.{holders_of, is_owner, is_sharer}
use Rattle.log_record.specs.declared.cell_record.CellRecord.TheVariants as logs
use Rattle.store_model.specs.Core.{Core}
use Rattle.store_model.specs.Sound.{IsSound}
use Rattle.store_model.specs.Steps.{references_left}
use Rattle.store_model.proofs.CallLaws.{call-granted}
use Rattle.store_model.proofs.CallSound.{commit-call, abort-call}
use Rattle.store_model.proofs.MomentSound.{commit-earlier}
use Rattle.store_model.proofs.ReferenceLaws.{references_left-fit}
use Rattle.core_store.specs.declared.three.HeldFrame.{HeldFrame}
use Rattle.core_store.specs.Changes.{has_no_strong}
use Rattle.core_store.specs.Events.{after_event}
use Rattle.core_store.specs.Frames.{Agree}
use Rattle.core_store.specs.References.{named_by}
use Rattle.core_store.specs.Replaced.{replaced}
use Rattle.core_store.specs.Transactions.{Running, running_at}
use Rattle.core_store.specs.Tables.{TablesView}
use Rattle.core_store.specs.Steps.{Ends}
use Rattle.core_store.specs.Owed.{entries_owed}
use Rattle.core_store.specs.Queued.{queue_after_end}
use Rattle.core_store.specs.RoundView.{round_of, IsInStep}
use Rattle.core_store.specs.Stands.{IsRunning, Matches, CanLay, IsEmptied, IsTested, owns_in, shares_in, is_free, Stands, Answers, Ended, EndsAbort}
use Rattle.core_store.proofs.EndQueue.{references-left_are, queue-ended, queue-is_left}
use Rattle.core_store.proofs.OwedLaws.{owed-kept_ended}
use Rattle.core_store.proofs.PlanActive.{active-of}
use Rattle.core_store.proofs.RestLaws.{round-same, sound-untouched}
use Rattle.core_store.proofs.StepLaws.{Serves, logged-granted, after-granted}
use Rattle.core_store.proofs.ReplacedLaws.{replaced-same}

-- what is kept of a transaction holds over a graph over which its writes replace the same
pub matches-same : (slots : ℕ) (g k : List Object) (o : Option Running) (t : Option ActiveTransaction) (n : ℕ) → ((u : ActiveTransaction) → t ≡ Some u → replaced slots k u.writes ≡ replaced slots g u.writes) → Matches slots g o t n → Matches slots k o t n
matches-same slots g k None None n e m = tt
matches-same slots g k (Some kept) (Some u) n e m = record {
  registers = m.registers;
  aborting = m.aborting;
  left = m.left;
  replaced = m.replaced ∙ ap (λ ws. take (length kept.replaced) ws) (sym (e u refl));
}
matches-same slots g k None (Some u) n e m = absurd m
matches-same slots g k (Some kept) None n e m = absurd m

no_running : {X : Type 0} (o : Option Running) (kept : Running) → o ≡ None → o ≡ Some kept → X
no_running o kept a b = absurd (cc)

-- a transaction that the tables know has ended, and the references, the queue and the round are those after its end
module _ (slots : ℕ) (v w : TablesView) (c d : Core) (z : State) (pass : ℕ) (h : Stands slots v c) (ends : Ends v w pass) (state_is : d.moment.state ≡ z) (undone : (q : ℕ) → d.moment.undone q ≡ c.moment.undone q)
    (z_ids : z.ids ≡ c.moment.state.ids) (z_slots : z.slots ≡ c.moment.state.slots) (z_stored : z.stored ≡ c.moment.state.stored) (z_here : transaction_of z pass ≡ None) (z_others : (q : ℕ) → q ≢ pass → transaction_of z q ≡ transaction_of c.moment.state q)
    (same : (q : ℕ) (u : ActiveTransaction) → q ≢ pass → transaction_of c.moment.state q ≡ Some u → replaced slots z.committed u.writes ≡ replaced slots c.moment.state.committed u.writes) (sound : IsSound d)
    (cells : d.cells ≡ c.cells) (refs : d.refs ≡ references_left c.refs pass) (queue : d.queue ≡ queue_after_end c pass) (round : d.round ≡ c.round) (kept : Running) (here : running_at v.transactions pass ≡ Some kept) where
  running : (q : ℕ) → Matches slots z.committed (running_at w.transactions q) (transaction_of z q) (d.moment.undone q)
  running q =
      ⊎_elim
      (λ (e : q ≡ pass). subst (λ y. Matches slots z.committed (running_at w.transactions y) (transaction_of z y) (d.moment.undone y)) (sym e)
      (subst (λ o. Matches slots z.committed o (transaction_of z pass) (d.moment.undone pass)) (sym ends.transactions.here) (subst (λ o. Matches slots z.committed None o (d.moment.undone pass)) (sym z_here) tt)))
      (λ (n : q ≢ pass).
      subst (λ o. Matches slots z.committed o (transaction_of z q) (d.moment.undone q)) (sym (ends.transactions.others q n))
      (subst (λ o. Matches slots z.committed (running_at v.transactions q) o (d.moment.undone q)) (sym (z_others q n))
      (subst (λ k. Matches slots z.committed (running_at v.transactions q) (transaction_of c.moment.state q) k) (sym (undone q))
      (matches-same slots c.moment.state.committed z.committed (running_at v.transactions q) (transaction_of c.moment.state q) (c.moment.undone q) (λ u f. same q u n f) (h.running q)))))
      (same_or_apart q pass)

  owners : (k q : ℕ) → is_owner (holders_of w.locks k) q ≡ owns_in (transaction_of z q) k
  owners k q =
      ends.locks.owners k q ∙ ⊎_elim
      (λ (e : q ≡ pass). subst (λ y. (not (y == pass) && is_owner (holders_of v.locks k) y) ≡ owns_in (transaction_of z y) k) (sym e) (ap (λ b. not b && is_owner (holders_of v.locks k) pass) (test_same pass) ∙ ap (λ o. owns_in o k) (sym z_here)))
      (λ (n : q ≢ pass). ap (λ b. not b && is_owner (holders_of v.locks k) q) (ne_eqb q pass n) ∙ (h.owners k q ∙ ap (λ o. owns_in o k) (sym (z_others q n))))
      (same_or_apart q pass)

  sharers : (k q : ℕ) → is_sharer (holders_of w.locks k) q ≡ shares_in (transaction_of z q) k
  sharers k q =
      ends.locks.sharers k q ∙ ⊎_elim
      (λ (e : q ≡ pass). subst (λ y. (not (y == pass) && is_sharer (holders_of v.locks k) y) ≡ shares_in (transaction_of z y) k) (sym e) (ap (λ b. not b && is_sharer (holders_of v.locks k) pass) (test_same pass) ∙ ap (λ o. shares_in o k) (sym z_here)))
      (λ (n : q ≢ pass). ap (λ b. not b && is_sharer (holders_of v.locks k) q) (ne_eqb q pass n) ∙ (h.sharers k q ∙ ap (λ o. shares_in o k) (sym (z_others q n))))
      (same_or_apart q pass)

  free : (k : ℕ) → list_any (is_at (nat_cmp k)) w.free ≡ is_free z k
  free k =
      ap (list_any (is_at (nat_cmp k))) ends.free ∙ (h.free k ∙ (ap (λ i. nat_lt 0 k && nat_le k i && not (is_stored c.moment.state.stored k)) (sym z_ids) ∙ ap (λ ns. nat_lt 0 k && nat_le k z.ids && not (is_stored ns k)) (sym z_stored)))

  restorable : (q : ℕ) (kept2 : Running) → running_at w.transactions q ≡ Some kept2 → (x : Write) → Contains kept2.replaced x → CanLay slots d.cells x
  restorable q kept2 f x k =
      ⊎_elim
      (λ (e : q ≡ pass). no_running (running_at w.transactions pass) kept2 ends.transactions.here (subst (λ y. running_at w.transactions y ≡ Some kept2) e f))
      (λ (n : q ≢ pass). subst (λ cs. CanLay slots cs x) (sym cells) (h.restorable q kept2 (sym (ends.transactions.others q n) ∙ f) x k))
      (same_or_apart q pass)

  owed : w.owed ≡ entries_owed d.moment
  owed =
      let a = active-of h pass kept here in
      owed-kept_ended c.moment d.moment pass h.sound.state.passes sound.state.passes (λ q n. ap (λ (s : State). transaction_of s q) state_is ∙ z_others q n) (λ q n. undone q) slots kept a.transaction a.found a.runs (ap (λ (s : State). transaction_of s pass) state_is ∙ z_here) v.owed w.owed
      h.owed (ends.owed kept here)

  pub Stands-end : Stands slots w d
  Stands-end = record {
    ids = ap (λ (s : State). s.ids) state_is ∙ (z_ids ∙ (h.ids ∙ sym ends.ids));
    few = rw ends.ids h.few;
    slots_are = ap (λ (s : State). s.slots) state_is ∙ (z_slots ∙ h.slots_are);
    counted = h.counted;
    sound = sound;
    running = subst (λ (s : State). (q : ℕ) → Matches slots s.committed (running_at w.transactions q) (transaction_of s q) (d.moment.undone q)) (sym state_is) running;
    restorable = restorable;
    owners = subst (λ (s : State). (k q : ℕ) → is_owner (holders_of w.locks k) q ≡ owns_in (transaction_of s q) k) (sym state_is) owners;
    sharers = subst (λ (s : State). (k q : ℕ) → is_sharer (holders_of w.locks k) q ≡ shares_in (transaction_of s q) k) (sym state_is) sharers;
    free = subst (λ (s : State). (k : ℕ) → list_any (is_at (nat_cmp k)) w.free ≡ is_free s k) (sym state_is) free;
    zeros = ends.zeros ∙ (h.zeros ∙ ap (map has_no_strong) (sym cells));
    references = λ q. references-left_are slots v c h w pass ends q ∙ ap (λ rs. named_by rs q) (sym refs);
    queue = queue-ended slots v c h w pass ends ∙ sym queue;
    round = ap round_of ends.round ∙ (h.round ∙ sym round);
    in_step = subst (λ n. IsInStep slots n w.round) (sym ends.ids) (subst (λ r. IsInStep slots v.ids r) (sym ends.round) h.in_step);
    emptied = subst (λ r. IsEmptied d.cells r) (sym ends.round) (subst (λ cs. IsEmptied cs v.round) (sym cells) h.emptied);
    tested = subst (λ r. IsTested d.cells r) (sym ends.round) (subst (λ cs. IsTested cs v.round) (sym cells) h.tested);
    owed = owed;
  }

-- ---- a commit

pub answers-commit : (slots : ℕ) (v w : TablesView) (c : Core) (held : List (HeldFrame slots)) (pass : ℕ) (kept : Running) (t : ActiveTransaction) → Stands slots v c → Agree c.cells held → Serves slots v c.moment pass Commit kept t → Ends v w pass
    → Answers slots v w c held held pass Commit Done (Some (logs.Commit pass))
answers-commit slots v w c held pass kept t h agree s ends =
    let m = c.moment in
    let logged = Some (logs.Commit pass) in
    record {
      machine = sym (ap (λ (y : Reply × State). y.0) (call-granted m.state pass t Commit s.found s.granted));
      record_is = sym (logged-granted m.state c.cells pass Commit t s.found s.granted);
      moves = record { fits = tt; lays = tt; agree = agree; elsewhere = λ p e. refl };
      stands = Stands-end slots v w c (after_event slots c (Call pass Commit Done) logged) (after_commit_of m.state pass t) pass h ends (after-granted m pass Commit Done t s.found s.granted) (λ q. refl) refl refl refl
          (transaction_of-without_same m.state pass h.sound.state.passes) (λ q d. transaction_of-without_other m.state pass q d)
          (λ q u d f. replaced-same slots m.state.committed (own_graph m.state t) u.writes (λ x k earlier. subst (λ j. object_at (applied j (own_graph m.state t) earlier) x.id ≡ object_at (applied j m.state.committed earlier) x.id) h.slots_are
          (commit-earlier m.state h.sound.state q u f pass t s.found d x k earlier)))
          (sound-untouched (record c { moment = next m (Call pass Commit Done); refs = references_left c.refs pass; queue = queue_after_end c pass })
          (commit-call c h.sound pass t s.found (references_left c.refs pass) (queue_after_end c pass) (references_left-fit c.refs pass) (queue-is_left c h.sound pass) s.granted Done))
          refl refl refl (round-same c.round) kept s.here;
      round = ends.round;
    }

-- ---- the end of an abort

pub ended-abort : (slots : ℕ) (v w : TablesView) (c : Core) (pass : ℕ) (kept : Running) (t : ActiveTransaction) → Stands slots v c → running_at v.transactions pass ≡ Some kept → transaction_of c.moment.state pass ≡ Some t → IsRunning slots c.moment.state.committed kept t (c.moment.undone pass)
    → kept.replaced ≡ [] → Ends v w pass → Ended slots v w c pass
ended-abort slots v w c pass kept t h here found runs nothing ends =
    let m = c.moment in
    let none = ap (λ (ws : List Write). length ws) nothing in
    let left = runs.left in
    let count : undoable m.state pass ≡ count_by can_be_undone t.writes = ap (λ o. option_map_or (λ (t : ActiveTransaction). count_by can_be_undone t.writes) o 0) found in
    record {
      all_undone = omega (arith, left, none, count);
      machine = sym (ap (λ (y : Reply × State). y.0) (step-abort m.state pass t found));
      stands = Stands-end slots v w c (after_event slots c (Call pass Abort Done) (Some (logs.AbortEnd pass))) (without_transaction m.state pass) pass h ends (ap (λ (y : Reply × State). y.1) (step-abort m.state pass t found)) (λ q. refl) refl refl refl
          (transaction_of-without_same m.state pass h.sound.state.passes) (λ q d. transaction_of-without_other m.state pass q d) (λ q u d f. refl)
          (sound-untouched (record c { moment = next m (Call pass Abort Done); refs = references_left c.refs pass; queue = queue_after_end c pass })
          (abort-call c h.sound pass t found (references_left c.refs pass) (queue_after_end c pass) (references_left-fit c.refs pass) (queue-is_left c h.sound pass) (omega (arith, left, none)) Done))
          refl refl refl (round-same c.round) kept here;
      round = ends.round;
    }

-- whatever journal the tables stand for
pub ends-abort : (slots : ℕ) (v w : TablesView) (pass : ℕ) (kept : Running) → running_at v.transactions pass ≡ Some kept → kept.replaced ≡ [] → Ends v w pass → EndsAbort slots v w pass
ends-abort slots v w pass kept here nothing ends c h = let a = active-of h pass kept here in ended-abort slots v w c pass kept a.transaction h here a.found a.runs nothing ends
