-- What a run of several clients leaves in a log, of which the main pass keeps each place once.
use Rattle.std.proofs.Common.{◌≡◌, ◌≢◌, ◌⊎◌, inl, inr, ℕ, false, List, [], ◌∷◌, map, None, refl, sym, subst, ◌∙◌, ⊎_elim}
use Rattle.std.specs.List.{AllByRecursion}
use Rattle.std.proofs.lemmas.Bool.{cases_eq}
use Rattle.plain_model.specs.ActiveTransaction.{ActiveTransaction}
use Rattle.plain_model.specs.Machine.{State, transaction_of}
use Rattle.plain_laws.proofs.Entries.{at, at_here}
use Rattle.core_store.specs.declared.note.Note.{Note}
use Rattle.latch_table.specs.Rule.{AreAt, KeepsEachOnce}
use Rattle.shared_store.specs.Chronicles.View.{has_transaction}
use Rattle.shared_store.specs.Passes.{Known}
use Rattle.client_pass.specs.declared.ends.WorkEnd.{WorkEnd}
use Rattle.client_pass.specs.declared.ends.WorkEnd.TheVariants.{Finished}
use Rattle.client_pass.specs.declared.script.ClientScript.{ClientScript}
use Rattle.client_pass.specs.Attempts.{calls_in, Attempts, Begun}
use Rattle.client_pass.specs.Workings.{calls_of}
use Rattle.client_pass.specs.Runs.{IsNobody, DoesScript, RunsScripts}
use Rattle.client_pass.proofs.KeptLemmas.{calls-of_log, nobody-calls}
use Rattle.client_pass.proofs.EndLemmas.{attempts-no_transaction, nobody-no_transaction}

-- ---- scripts and clients

every : {X : Type 0} (P Q : X → Type 0) (xs : List X) → ((x : X) → P x → Q x) → AllByRecursion P xs → AllByRecursion Q xs
every P Q [] f a = tt
every P Q (x ∷ xs) f a = (f x a.0, every P Q xs f a.1)

-- a client has a script, of which holds what holds of each, or has none
has-script : (P : ClientScript → Type 0) (client : ℕ) (scripts : List ClientScript) → AllByRecursion P scripts → ((s : ClientScript) × (s.pass ≡ client) × P s) ⊎ IsNobody client scripts
has-script P client [] a = inr tt
has-script P client (s ∷ scripts) a =
    ⊎_elim
    (λ (e : s.pass ≡ client). inl (s, e, a.0))
    (λ (n : s.pass ≢ client).
    ⊎_elim
    (λ (h : (t : ClientScript) × (t.pass ≡ client) × P t). inl h)
    (λ (none : IsNobody client scripts). inr (n, none))
    (has-script P client scripts a.1))
    (cases_eq s.pass client)

-- ---- a run

module _ {slots : ℕ} (old new : Known slots) (scripts : List ClientScript) (end : WorkEnd) (r : RunsScripts old new scripts end) (log : List Note) (there : AreAt log r.kept) (once : KeepsEachOnce log r.kept) where
  -- a client's calls are those that the log has
  pub run-calls : (client : ℕ) → calls_of client r.kept ≡ calls_in client (map (λ n. n.entry) log)
  run-calls client = calls-of_log client log r.kept old.knowledge.seen new.knowledge.seen there once (r.in_order client)

  -- those of each script's client are the beginning of its attempts
  pub run-begun : AllByRecursion (λ s. Begun (Attempts s.txns) (calls_in s.pass (map (λ n. n.entry) log))) scripts
  run-begun =
      every (DoesScript new r.kept end) (λ (s : ClientScript). Begun (Attempts s.txns) (calls_in s.pass (map (λ (n : Note). n.entry) log))) scripts
      (λ s d. subst (Begun (Attempts s.txns)) (run-calls s.pass) d.begun) r.scripts_done

  -- and where the run came to its end they are those of its attempts
  pub run-attempts : end ≡ Finished → AllByRecursion (λ s. Attempts s.txns (calls_in s.pass (map (λ n. n.entry) log))) scripts
  run-attempts done =
      every (DoesScript new r.kept end) (λ (s : ClientScript). Attempts s.txns (calls_in s.pass (map (λ (n : Note). n.entry) log))) scripts
      (λ s d. subst (Attempts s.txns) (run-calls s.pass) (d.finished done).0) r.scripts_done

  -- nobody else made a call
  pub run-nobody : (client : ℕ) → IsNobody client scripts → calls_in client (map (λ n. n.entry) log) ≡ []
  run-nobody client none = nobody-calls client log r.kept there once (r.nobody client none)

  -- nobody has a transaction where the run came to its end
  pub run-ended : end ≡ Finished → (client : ℕ) → has_transaction log client ≡ false
  run-ended done client =
      ⊎_elim
      (λ (h : (s : ClientScript) × (s.pass ≡ client) × Attempts s.txns (calls_in s.pass (map (λ (n : Note). n.entry) log))).
      subst (λ c. has_transaction log c ≡ false) h.1 (attempts-no_transaction h.0.pass log h.0.txns h.2))
      (λ (none : IsNobody client scripts). nobody-no_transaction client log (run-nobody client none))
      (has-script (λ (s : ClientScript). Attempts s.txns (calls_in s.pass (map (λ (n : Note). n.entry) log))) client scripts (run-attempts done))

-- ---- nobody is active

none-listed : (active : List (ℕ × ActiveTransaction)) → ((client : ℕ) → at client active ≡ None) → active ≡ []
none-listed [] none = refl
none-listed (e ∷ active) none = let is = sym (at_here e.0 e active refl) ∙ none e.0 in absurd (cc)

-- where no client has a transaction none is active
pub none-active : (s : State) → ((client : ℕ) → transaction_of s client ≡ None) → s.active ≡ []
none-active s none = none-listed s.active none
