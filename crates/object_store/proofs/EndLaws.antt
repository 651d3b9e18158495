-- A transaction that is ended without its writes.
use Rattle.std.proofs.Common.{◌≡◌, ℕ, zero, suc, [], ◌∷◌, Option, Some, None, Result, Ok, Err, replicate, refl, sym, ap, ◌∙◌, subst, true, false, ◌⊎◌, ⊎_elim, is_some}
use Rattle.std.specs.Prelude.{IfSome, IsSome, IfErr, OnOk, IsErrOf}
use Rattle.std.specs.Ordering.{nat_cmp}
use Rattle.std.specs.BTreeMap.{is_at}
use Rattle.std.specs.Map.{remove_entry}
use Rattle.std.proofs.lemmas.List.Sums.{fold-append}
use Rattle.plain_model.specs.declared.calls.Call.TheVariants.{Abort}
use Rattle.plain_model.specs.declared.calls.Reply.{Reply}
use Rattle.plain_model.specs.declared.calls.Reply.TheVariants.{Done}
use Rattle.plain_model.specs.declared.calls.Entry.TheVariants.{Call, Undo}
use Rattle.plain_model.specs.ActiveTransaction.{ActiveTransaction}
use Rattle.plain_model.specs.Machine.{State, step, transaction_of, without_transaction}
use Rattle.plain_model.specs.History.{History, Moment, next, moment_after, start_of, end_of, with_entry, with_aborting, left_to_undo}
use Rattle.plain_model.proofs.StepLemmas.{step-abort}
use Rattle.plain_model.proofs.HistoryLemmas.{end_of-with_entry}
use Rattle.plain_laws.proofs.Entries.{at_here}
use Rattle.logged_journal.specs.declared.failed.FailedCall.{FailedCall}
use Rattle.logged_journal.specs.declared.failed.Stopped.{Stopped}
use Rattle.logged_journal.specs.View.{LoggedView}
use Rattle.logged_journal.specs.Calls.{KeepsDisk}
use Rattle.framed_journal.specs.Steps.{with_undos}
use Rattle.framed_journal.proofs.StopLaws.{not-stopped}
use Rattle.object_store.specs.Seen.{client, state_of, open_in, IsQuiet, IsAlone}
use Rattle.object_store.specs.Ends.{Ends}
use Rattle.object_store.proofs.AloneLaws.{its_transaction, none_open}

-- ---- the undos, and the end

-- the client alone is active, and what is committed is as before
record Undone (m k : Moment) : Type 0 where
  transaction : ActiveTransaction
  active : k.state.active ≡ (client, transaction) ∷ []
  committed : k.state.committed ≡ m.state.committed

undone : (m : Moment) (n : ℕ) (t : ActiveTransaction) → m.state.active ≡ (client, t) ∷ [] → Undone m (moment_after m (replicate n (Undo client)))
undone m zero t e = record { transaction = t; active = e; committed = refl }
undone m (suc n) t e =
    let k : Moment = next m (Undo client) in
    let u : ActiveTransaction = record t { aborting = true } in
    let one : k.state.active ≡ (client, u) ∷ [] = ap (λ es. with_aborting client es) e in
    let rest : Undone k (moment_after k (replicate n (Undo client))) = undone k n u one in
    record { transaction = rest.transaction; active = rest.active; committed = rest.committed }

pub record AbortsTo (s z : State) : Type 0 where
  pub quiet : IsQuiet z
  pub committed : z.committed ≡ s.committed

pub aborts : (h : History) (n : ℕ) (t : ActiveTransaction) → (end_of h).state.active ≡ (client, t) ∷ [] → AbortsTo (end_of h).state (end_of (with_entry (with_undos h client n) (Call client Abort Done))).state
unfolding undone
aborts h n t e =
    let k : Moment = moment_after (end_of h) (replicate n (Undo client)) in
    let u : Undone (end_of h) k = undone (end_of h) n t e in
    let its : transaction_of k.state client ≡ Some u.transaction = ap (λ es. transaction_of (record k.state { active = es }) client) u.active ∙ at_here client (client, u.transaction) [] refl in
    let last : (step k.state client Abort).1 ≡ without_transaction k.state client = ap (λ (p : Reply × State). p.1) (step-abort k.state client u.transaction its) in
    let before : end_of (with_undos h client n) ≡ k = fold-append next (start_of h) h.entries (replicate n (Undo client)) in
    let whole : end_of (with_entry (with_undos h client n) (Call client Abort Done)) ≡ next k (Call client Abort Done) = end_of-with_entry (with_undos h client n) (Call client Abort Done) ∙ ap (λ m. next m (Call client Abort Done)) before in
    record {
      quiet = ap (λ (m : Moment). m.state.active) whole ∙ ap (λ (s : State). s.active) last ∙ ap (λ es. remove_entry (is_at (nat_cmp client)) es) u.active;
      committed = ap (λ (m : Moment). m.state.committed) whole ∙ ap (λ (s : State). s.committed) last ∙ u.committed;
    }

-- ---- what is open is ended

-- nothing is open, or the client alone is active
abbrev pub IsAtMostOne : {D : Type 0} → LoggedView D → Type 0
IsAtMostOne v = v.failed ≡ None → IsQuiet (state_of v) ⊎ IsAlone (state_of v)

same_disk : {D : Type 0} (v : LoggedView D) → KeepsDisk v v
same_disk v = record { disk = refl; durable = refl }

some_none : {X : Type 0} (o : Option X) → IsSome o → o ≡ None → ⊥
some_none None h e = absurd (cc)
some_none (Some x) h e = absurd (cc)

-- nothing was open, and nothing is done
pub ends_none : {D : Type 0} (v : LoggedView D) → IsAtMostOne v → is_some (open_in (state_of v)) ≡ false → Ends v v
ends_none v kept none = record {
  quiet = λ f. ⊎_elim
      (λ (q : IsQuiet (state_of v)). q)
      (λ (a : IsAlone (state_of v)). absurd (let some : is_some (open_in (state_of v)) ≡ true = ap (λ o. is_some o) (its_transaction (state_of v) a) in cc))
      (kept f);
  committed = refl;
  failed = refl;
  disk = same_disk v;
  same = λ q. refl;
}

-- the client's transaction was open, and is aborted; or the disk failed a call before
pub ends_one : {D : Type 0} (v w : LoggedView D) (r : Result (Unit {0}) Stopped) → IsAtMostOne v → is_some (open_in (state_of v)) ≡ true
    → IfSome v.failed (λ f. IsErrOf r (record { faults = f.faults }) × (w ≡ v)) → IfErr r (λ _. IsSome v.failed)
    → OnOk r (w.journal.history ≡ with_entry (with_undos v.journal.history client (left_to_undo (end_of v.journal.history) client)) (Call client Abort Done))
    → OnOk r ((w.failed ≡ None) × (w.log_full ≡ v.log_full)) → KeepsDisk v w → Ends v w
ends_one {D} v w (Ok x) kept some stopped only entries goes disk =
    let none : v.failed ≡ None = not-stopped v x (w ≡ v) stopped in
    let a : IsAlone (state_of v) = ⊎_elim
    (λ (q : IsQuiet (state_of v)). absurd (some_none (open_in (state_of v)) some (none_open (state_of v) q)))
    (λ (a : IsAlone (state_of v)). a)
    (kept none) in
    let to = aborts v.journal.history (left_to_undo (end_of v.journal.history) client) a.transaction a.active in
    let is : state_of w ≡ (end_of (with_entry (with_undos v.journal.history client (left_to_undo (end_of v.journal.history) client)) (Call client Abort Done))).state = ap (λ (h : History). (end_of h).state) entries in
    record {
      quiet = λ f. ap (λ (s : State). s.active) is ∙ to.quiet;
      committed = ap (λ (s : State). s.committed) is ∙ to.committed;
      failed = goes.0 ∙ sym none;
      disk = disk;
      same = λ q. absurd (some_none (open_in (state_of v)) some (none_open (state_of v) q));
    }
ends_one {D} v w (Err x) kept some stopped only entries goes disk = at_failed v.failed refl
  where
    at_failed : (o : Option FailedCall) → v.failed ≡ o → Ends v w
    at_failed None f = absurd (some_none v.failed only f)
    at_failed (Some f) e =
        let same : w ≡ v = (subst (λ o. IfSome o (λ f. IsErrOf {T = Unit {0}} {E = Stopped} (Err x) (record { faults = f.faults }) × (w ≡ v))) e stopped).1 in
        record {
          quiet = λ n. absurd (some_none v.failed only n);
          committed = ap (λ (u : LoggedView D). (state_of u).committed) same;
          failed = ap (λ (u : LoggedView D). u.failed) same;
          disk = record { disk = ap (λ (u : LoggedView D). u.disk) same; durable = ap (λ (u : LoggedView D). u.durable) same };
          same = λ q. same;
        }
