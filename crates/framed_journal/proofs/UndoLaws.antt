-- The steps of an abort, one after another.
use Rattle.std.proofs.Common.{◌≡◌, ℕ, suc, ◌+◌, ◌<◌, Bool, true, false, ◌==◌, cond, List, [], ◌∷◌, ◌++◌, Option, Some, None, replicate, refl, sym, ap, subst, ◌∙◌, append_assoc, add-zero, add-one, arith}
use Rattle.std.specs.Prelude.{IsSome}
use Rattle.std.specs.Map.{lookup, set_value}
use Rattle.std.specs.Ordering.{nat_cmp}
use Rattle.std.specs.BTreeMap.{is_at}
use Rattle.std.proofs.lemmas.Bool.Decides.{nat_tests}
use Rattle.std.proofs.lemmas.List.{replicate_more, append-nil}
use Rattle.plain_model.specs.declared.calls.Entry.{Entry}
use Rattle.plain_model.specs.declared.calls.Entry.TheVariants.{Undo}
use Rattle.plain_model.specs.ActiveTransaction.{ActiveTransaction}
use Rattle.plain_model.specs.Machine.{State, transaction_of}
use Rattle.plain_model.specs.History.{History, Moment, next, with_entry, end_of, after_undo, undoable, left_to_undo}
use Rattle.plain_model.proofs.HistoryLemmas.{end_of-with_entry}
use Rattle.core_store.specs.JournalView.{JournalView}
use Rattle.core_store.specs.declared.abort_step.AbortStep.{AbortStep}
use Rattle.core_store.specs.declared.abort_step.AbortStep.TheVariants.{Undone, Ended}
use Rattle.logged_journal.specs.Calls.{DoesAbortStep}
use Rattle.framed_journal.specs.Steps.{HasSameStart, UndoesOne, EndsAbort, Undoes, undone_none, undone_more, UndoesAll, with_undos}

-- ---- a step is an undo or the end

same-start : (slots client : ℕ) (j k : JournalView) (step : AbortStep) → DoesAbortStep slots j k client step → HasSameStart j k
same-start slots client j k step does = record { opening = does.opening.0; limits = does.opening.1; marks = does.opening.2 }

pub undoes-one : (slots client : ℕ) (j k : JournalView) → DoesAbortStep slots j k client Undone → UndoesOne slots client j k
undoes-one slots client j k does = record {
  some = (does.undone refl).0;
  entry = (does.undone refl).1;
  noted = does.noted_undo refl;
  collector = does.collector_undo refl;
  cursor = does.cursor_undo refl;
  start = same-start slots client j k Undone does;
}

pub ends-abort : (slots client : ℕ) (j k : JournalView) → DoesAbortStep slots j k client Ended → EndsAbort slots client j k
ends-abort slots client j k does = record {
  none = (does.ended refl).0;
  entry = (does.ended refl).1;
  noted = does.noted_end refl;
  collector = does.collector_end refl;
  cursor = does.cursor_end refl;
  start = same-start slots client j k Ended does;
}

-- ---- the client's transaction goes on, with one write less to undo

lookup-set_same : (test : ℕ → Bool) (es : List (ℕ × ActiveTransaction)) (v w : ActiveTransaction) → lookup test es ≡ Some v → lookup test (set_value test es w) ≡ Some w
lookup-set_same test [] v w h = cc
lookup-set_same test (e ∷ es) v w h =
    elim (test e.0) as (λ t. test e.0 ≡ t → cond t (Some e.1) (lookup test es) ≡ Some v → lookup test (cond t ((e.0, w) ∷ es) (e ∷ set_value test es w)) ≡ Some w) [
      | true ↦ λ t f. rw t
      | false ↦ λ t f. rw t (lookup-set_same test es v w f)
    ] refl h

some_of : (o : Option ActiveTransaction) → IsSome o → (t : ActiveTransaction) × (o ≡ Some t)
some_of None h = cc
some_of (Some t) h = (t, refl)

stays : (s : State) (client : ℕ) (t : ActiveTransaction) → transaction_of s client ≡ Some t → transaction_of (after_undo s client) client ≡ Some (record t { aborting = true })
stays s client t e = rw e (lookup-set_same (is_at (nat_cmp client)) s.active t (record t { aborting = true }) e)

still_active : (s : State) (client : ℕ) → IsSome (transaction_of s client) → IsSome (transaction_of (after_undo s client) client)
still_active s client h = let t = some_of (transaction_of s client) h in rw (stays s client t.0 t.1) refl

undoable-undo : (s : State) (client : ℕ) (t : ActiveTransaction) → transaction_of s client ≡ Some t → undoable (after_undo s client) client ≡ undoable s client
undoable-undo s client t e = rw (stays s client t e, e)

one_less : (m : Moment) (client : ℕ) → IsSome (transaction_of m.state client) → 0 < left_to_undo m client → left_to_undo (next m (Undo client)) client + 1 ≡ left_to_undo m client
one_less m client h l =
    let t = some_of (transaction_of m.state client) h in
    let e = undoable-undo m.state client t.0 t.1 in
    let u : cond (client == client) (m.undone client + 1) (m.undone client) ≡ m.undone client + 1 = grind (arith, nat_tests) in
    rw (e, u) (omega (arith, l))

end-undone : (client : ℕ) (j k : JournalView) → k.history ≡ with_entry j.history (Undo client) → end_of k.history ≡ next (end_of j.history) (Undo client)
end-undone client j k entry = ap end_of entry ∙ end_of-with_entry j.history (Undo client)

active-undone : (client : ℕ) (j k : JournalView) → k.history ≡ with_entry j.history (Undo client) → IsSome (transaction_of (end_of j.history).state client) → IsSome (transaction_of (end_of k.history).state client)
active-undone client j k entry h = rw (end-undone client j k entry) (still_active (end_of j.history).state client h)

pub left-undone : (client : ℕ) (j k : JournalView) → 0 < left_to_undo (end_of j.history) client → k.history ≡ with_entry j.history (Undo client) → IsSome (transaction_of (end_of j.history).state client) → left_to_undo (end_of k.history) client + 1 ≡ left_to_undo (end_of j.history) client
left-undone client j k some entry h = rw (end-undone client j k entry) (one_less (end_of j.history) client h some)

-- ---- how far the abort has come

-- some writes of the client were undone, and these are left
pub record HasUndone (slots client : ℕ) (old now : JournalView) : Type 0 where
  pub count : ℕ
  pub undoes : Undoes slots client old count now
  pub history : now.history ≡ with_undos old.history client count
  pub left : left_to_undo (end_of now.history) client + count ≡ left_to_undo (end_of old.history) client
  pub active : IsSome (transaction_of (end_of now.history).state client)

pub undone-none : (slots client : ℕ) (j : JournalView) → IsSome (transaction_of (end_of j.history).state client) → HasUndone slots client j j
undone-none slots client j h = record {
  count = 0;
  undoes = undone_none;
  history = ap (λ (es : List Entry). let r : History = record j.history { entries = es } in r) (sym (append-nil j.history.entries));
  left = add-zero (left_to_undo (end_of j.history) client);
  active = h;
}

pub undone-more : (slots client : ℕ) (i j k : JournalView) → HasUndone slots client i j → UndoesOne slots client j k → HasUndone slots client i k
undone-more slots client i j k before u =
    let one = left-undone client j k u.some u.entry before.active in
    record {
      count = suc before.count;
      undoes = undone_more before.count j k before.undoes u;
      history = more_undos (before.count) before.history;
      left = rw (← add-one before.count) (omega (arith, one, before.left));
      active = active-undone client j k u.entry before.active;
    }
  where
    more_undos : (count : ℕ) → j.history ≡ with_undos i.history client count → k.history ≡ with_undos i.history client (suc count)
    more_undos count is =
        u.entry
        ∙ ap (λ (h : History). with_entry h (Undo client)) is
        ∙ ap (λ (es : List Entry). let r : History = record i.history { entries = es } in r) (append_assoc i.history.entries (replicate count (Undo client)) (Undo client ∷ []) ∙ ap (λ (es : List Entry). i.history.entries ++ es) (replicate_more count (Undo client) ∙ ap (λ (n : ℕ). replicate n (Undo client)) (add-one count)))

-- where none is left, all that were left at the start are undone
all-undone : (slots client : ℕ) (i j k : JournalView) (h : HasUndone slots client i j) → EndsAbort slots client j k → h.count ≡ left_to_undo (end_of i.history) client
all-undone slots client i j k h e = omega (arith, h.left, e.none)

pub undone-all : (slots client : ℕ) (i j k : JournalView) → HasUndone slots client i j → EndsAbort slots client j k → UndoesAll slots client i k
undone-all slots client i j k h e = record { undone = j; undoes = subst (λ (n : ℕ). Undoes slots client i n j) (all-undone slots client i j k h e) h.undoes; ends = e }

pub undone-entries : (slots client : ℕ) (i j k : JournalView) → HasUndone slots client i j → (e : EndsAbort slots client j k) → (x : Entry) → k.history ≡ with_entry j.history x → k.history ≡ with_entry (with_undos i.history client (left_to_undo (end_of i.history) client)) x
undone-entries slots client i j k h e x is = is ∙ ap (λ (y : History). with_entry y x) (h.history ∙ ap (λ (n : ℕ). with_undos i.history client n) (all-undone slots client i j k h e))
