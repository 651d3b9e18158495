-- What the clients of a run did, by what the last pass keeps.
use Rattle.std.proofs.Common.{◌≡◌, ◌≢◌, ◌⊎◌, arith, ℕ, false, List, [], ◌∷◌, ◌++◌, map, None, is_some, refl, sym, ap, subst, ◌∙◌, ⊎_elim, inl, inr}
use Rattle.std.proofs.lemmas.Bool.{cases_eq}
use Rattle.std.proofs.lemmas.Bool.Decides.{nat_tests}
use Rattle.std.specs.List.{AllByRecursion}
use Rattle.std.specs.Map.{lookup}
use Rattle.std.specs.Ordering.{nat_cmp}
use Rattle.std.specs.BTreeMap.{is_at}
use Rattle.plain_model.specs.ActiveTransaction.{ActiveTransaction}
use Rattle.plain_model.specs.History.{History, end_of}
use Rattle.plain_model.specs.Machine.{transaction_of}
use Rattle.core_store.specs.declared.frame.Frame.{Frame}
use Rattle.core_store.specs.declared.note.Note.{Note}
use Rattle.logged_journal.specs.View.{LoggedView, history_of}
use Rattle.latch_table.specs.Rule.{AreAt, IsWhole, KeepsEachOnce}
use Rattle.shared_store.specs.Chronicles.Clients.{speaker_of}
use Rattle.shared_store.specs.Chronicles.View.{account, origin_of, notes_of, history_after, has_transaction}
use Rattle.shared_store.specs.Passes.{Known}
use Rattle.client_pass.specs.declared.ends.WorkEnd.{WorkEnd}
use Rattle.client_pass.specs.declared.ends.WorkEnd.TheVariants.{Finished}
use Rattle.client_pass.specs.declared.script.ClientScript.{ClientScript}
use Rattle.client_pass.specs.Attempts.{calls_in, Attempts}
use Rattle.client_pass.specs.Workings.{calls_of}
use Rattle.client_pass.specs.Runs.{IsNobody, IsNoteOfCollector, DoesScript, RunsScripts}
use Rattle.client_pass.proofs.EndLemmas.{attempts-no_transaction, nobody-no_transaction}
use Rattle.client_pass.proofs.KeptLemmas.{calls-of_log, nobody-calls, log-holds}
use Rattle.script_lines.specs.declared.grammar.Line.{Line}
use Rattle.script_lines.specs.Numbers.{object_slots}
use Rattle.brahma_shell.specs.ClientScripts.{AreScripts, AreOfLines}
use Rattle.brahma_shell.specs.Ran.{BeginAttempts, ClientsDo}
use Rattle.brahma_shell.specs.Running.{OnlyPeeks}

-- ---- nobody is active

-- where no client has a transaction none is active
none-active : (active : List (ℕ × ActiveTransaction)) → ((client : ℕ) → is_some (lookup (is_at (nat_cmp client)) active) ≡ false) → active ≡ []
none-active [] none = refl
none-active (e ∷ active) none = absurd (found-first e.0 e.1 active (none e.0))
  where
    found-first : (client : ℕ) (t : ActiveTransaction) (rest : List (ℕ × ActiveTransaction)) → is_some (lookup (is_at (nat_cmp client)) ((client, t) ∷ rest)) ≡ false → ⊥
    found-first client t rest e = grind (arith, nat_tests)

-- ---- the run

each-such : (P Q : ClientScript → Type 0) (scripts : List ClientScript) → ((s : ClientScript) → P s → Q s) → AllByRecursion P scripts → AllByRecursion Q scripts
each-such P Q [] more all = tt
each-such P Q (s ∷ scripts) more all = (more s all.0, each-such P Q scripts more all.1)

module _ {D : Type 0} (w : LoggedView D) (old behind new : Known object_slots) (scripts : List ClientScript) (end : WorkEnd) (frames : List (Frame object_slots)) (fresh : old.knowledge.entries ≡ []) (runs : RunsScripts old behind scripts end) (only : OnlyPeeks behind new)
    (whole : IsWhole (account D object_slots) new w frames) (history : history_after object_slots (origin_of w) (notes_of w) ≡ history_of w) where
  kept-all : new.knowledge.entries ≡ runs.kept
  kept-all = only.entries ∙ runs.entries ∙ ap (λ (xs : List (ℕ × Note)). xs ++ runs.kept) fresh

  at-places : AreAt (notes_of w) runs.kept
  at-places = subst (AreAt (notes_of w)) kept-all whole.later.entries

  each-once : KeepsEachOnce (notes_of w) runs.kept
  each-once = subst (KeepsEachOnce (notes_of w)) kept-all whole.once

  entries-told : map (λ n. n.entry) (notes_of w) ≡ (history_of w).entries
  entries-told = ap (λ (h : History). h.entries) history

  calls-told : (client : ℕ) → calls_of client runs.kept ≡ calls_in client (history_of w).entries
  calls-told client = calls-of_log client (notes_of w) runs.kept old.knowledge.seen behind.knowledge.seen at-places each-once (runs.in_order client) ∙ ap (calls_in client) entries-told

  none-told : (client : ℕ) → IsNobody client scripts → calls_in client (history_of w).entries ≡ []
  none-told client none = sym (ap (calls_in client) entries-told) ∙ nobody-calls client (notes_of w) runs.kept at-places each-once (runs.nobody client none)

  others-told : AllByRecursion (λ n. speaker_of n.entry ≡ None → IsNoteOfCollector n) (notes_of w)
  others-told = log-holds (λ (n : Note). speaker_of n.entry ≡ None → IsNoteOfCollector n) (notes_of w) runs.kept at-places each-once runs.collected

  module _ (asked : List Line) (each : AreScripts scripts) (of : AreOfLines asked scripts) where
    pub clients-began : ClientsDo BeginAttempts asked (history_of w).entries (notes_of w)
    clients-began = record {
      scripts = scripts;
      each = each;
      of_lines = of;
      made = each-such (DoesScript behind runs.kept end) (λ s. BeginAttempts s.txns (calls_in s.pass (history_of w).entries)) scripts (λ s d. subst (BeginAttempts s.txns) (calls-told s.pass) d.begun) runs.scripts_done;
      nobody = none-told;
      noted = entries-told;
      collected = others-told;
    }

    pub clients-did : end ≡ Finished → ClientsDo Attempts asked (history_of w).entries (notes_of w)
    clients-did done = record {
      scripts = scripts;
      each = each;
      of_lines = of;
      made = each-such (DoesScript behind runs.kept end) (λ s. Attempts s.txns (calls_in s.pass (history_of w).entries)) scripts (λ s d. subst (Attempts s.txns) (calls-told s.pass) (d.finished done).0) runs.scripts_done;
      nobody = none-told;
      noted = entries-told;
      collected = others-told;
    }

  -- a client that some script names has none, and no other client made a call
  some-or_none : (client : ℕ) (xs : List ClientScript) → AllByRecursion (λ s. has_transaction (notes_of w) s.pass ≡ false) xs → (has_transaction (notes_of w) client ≡ false) ⊎ IsNobody client xs
  some-or_none client [] all = inr tt
  some-or_none client (s ∷ xs) all =
      ⊎_elim
      (λ (same : s.pass ≡ client). inl (subst (λ (c : ℕ). has_transaction (notes_of w) c ≡ false) same all.0))
      (λ (other : s.pass ≢ client). ⊎_elim (λ h. inl h) (λ none. inr (other, none)) (some-or_none client xs all.1))
      (cases_eq s.pass client)

  -- what the notes have of a client
  calls-noted : (client : ℕ) → calls_of client runs.kept ≡ calls_in client (map (λ n. n.entry) (notes_of w))
  calls-noted client = calls-of_log client (notes_of w) runs.kept old.knowledge.seen behind.knowledge.seen at-places each-once (runs.in_order client)

  pub clients-idle : end ≡ Finished → (client : ℕ) → has_transaction (notes_of w) client ≡ false
  clients-idle done client =
      let ended : AllByRecursion (λ s. has_transaction (notes_of w) s.pass ≡ false) scripts =
      each-such (DoesScript behind runs.kept end) (λ s. has_transaction (notes_of w) s.pass ≡ false) scripts (λ s d. attempts-no_transaction s.pass (notes_of w) s.txns (subst (Attempts s.txns) (calls-noted s.pass) (d.finished done).0)) runs.scripts_done in
      ⊎_elim (λ h. h) (λ none. nobody-no_transaction client (notes_of w) (nobody-calls client (notes_of w) runs.kept at-places each-once (runs.nobody client none))) (some-or_none client scripts ended)

  pub clients-inactive : end ≡ Finished → ((client : ℕ) → has_transaction (notes_of w) client ≡ is_some (transaction_of (end_of (history_of w)).state client)) → (end_of (history_of w)).state.active ≡ []
  clients-inactive done told = none-active (end_of (history_of w)).state.active (λ client. sym (told client) ∙ clients-idle done client)
