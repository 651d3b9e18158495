-- By the notes of a journal that the disk failed no call a client has a transaction or not; and what the notes give.
use Rattle.std.proofs.Common.{◌≡◌, ℕ, true, false, Option, Some, None, refl, sym, ap, subst, ◌∙◌}
use Rattle.std.specs.Prelude.{is_some, IsSome}
use Rattle.plain_model.specs.Machine.{transaction_of}
use Rattle.plain_model.specs.History.{History, end_of}
use Rattle.store_model.specs.Sound.{IsSound}
use Rattle.core_store.specs.JournalView.{JournalView, core_of, opening_of}
use Rattle.core_store.specs.Leads.{AreLed}
use Rattle.logged_journal.specs.View.{LoggedView, history_of}
use Rattle.shared_store.specs.Chronicles.View.{has_transaction, history_after, notes_of, origin_of}
use Rattle.shared_store.specs.Calls.{WasNoted}

none-is : {A : Type 0} (o : Option A) → is_some o ≡ false → o ≡ None
none-is None e = refl
none-is (Some x) e = absurd (cc)

module _ {D : Type 0} (j : LoggedView D) (client : ℕ) (told : has_transaction (notes_of j) client ≡ is_some (transaction_of (end_of (history_of j)).state client)) (running : history_of j ≡ j.journal.history) where
  pub none-active : has_transaction (notes_of j) client ≡ false → transaction_of (end_of j.journal.history).state client ≡ None
  none-active none = none-is (transaction_of (end_of j.journal.history).state client) (ap (λ (h : History). is_some (transaction_of (end_of h).state client)) (sym running) ∙ (sym told ∙ none))

  pub some-active : has_transaction (notes_of j) client ≡ true → IsSome (transaction_of (end_of j.journal.history).state client)
  some-active some = ap (λ (h : History). is_some (transaction_of (end_of h).state client)) (sym running) ∙ (sym told ∙ some)

-- the journal is sound, and as its notes give it
pub was-noted : {D : Type 0} (slots : ℕ) (v : LoggedView D) (j : JournalView) → j ≡ v.journal → IsSound (core_of j) → AreLed slots (opening_of j) j.notes (core_of j) → history_after slots (origin_of v) (notes_of v) ≡ history_of v → WasNoted slots v
was-noted slots v j same sound led history = record {
  sound = subst (λ (x : JournalView). IsSound (core_of x)) same sound;
  led = subst (λ (x : JournalView). AreLed slots (opening_of x) x.notes (core_of x)) same led;
  history = history;
}
