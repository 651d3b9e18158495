-- The collector looks on, where the pass has the log word.
use Rattle.std.proofs.Common.{◌≡◌, ℕ, Bool, true, false, List, [], ◌∷◌, ◌++◌, Option, Some, None, refl, sym, ap, ◌∙◌}
use Rattle.std.specs.Prelude.{◌||◌}
use Rattle.std.specs.Option.{option_or}
use Rattle.plain_model.specs.declared.calls.Entry.{Entry}
use Rattle.core_store.specs.declared.note.Note.{Note}
use Rattle.core_store.specs.JournalView.{JournalView}
use Rattle.core_store.specs.Steppings.{OnlyLooks}
use Rattle.logged_journal.specs.View.{LoggedView, failed_commit}
use Rattle.latch_table.specs.Account.{Marks}
use Rattle.latch_table.specs.Views.{joined_marks}
use Rattle.shared_store.specs.Chronicles.Steps.{Flags, EntersIf, GoesOnWith, no_mark, no_page, marks_with, count_kept}
use Rattle.shared_store.specs.Chronicles.View.{Origin, origin_of, notes_of, count_failed, marks_of, frame_after}
use Rattle.shared_store.proofs.Chronicles.Goings.{Stays, marks-same, stays-goes_on}
use Rattle.shared_store.proofs.Chronicles.Tables.{in-hand}
use Rattle.shared_store.specs.Passes.{Known}
use Rattle.shared_store.specs.Holding.{HasJournal}

-- where nothing was entered, the journal is still in hand
pub still-journal : {D : Type 0} (slots : ℕ) (j k : LoggedView D) (pages : ℕ) (v : Known slots) → GoesOnWith slots no_page j k None no_mark → HasJournal slots pages v j → HasJournal slots pages v k
still-journal slots j k pages v goes h = record {
  ids = h.ids ∙ ap (λ (x : Origin). x.ids) (sym goes.origin);
  in_hand = in-hand slots v j k no_page no_mark h.in_hand goes;
  idle = h.idle;
}

module _ {D : Type 0} (slots : ℕ) (j k : LoggedView D) (looks : OnlyLooks slots j.journal k.journal) (same : k ≡ record j { journal = k.journal }) where
  looked-stays : Stays j k
  looked-stays = record {
    history = ap (λ (x : JournalView). x.history) looks.same;
    notes = ap (λ (x : JournalView). x.notes) looks.same;
    opening = ap (λ (x : JournalView). x.opening) looks.same;
    limits = ap (λ (x : JournalView). x.limits) looks.same;
    opened = ap (λ (x : LoggedView D). x.opened) same;
    commit = ap (λ (x : LoggedView D). failed_commit x) same;
  }

  -- the chronicle shows what it showed
  pub looked-chronicle : GoesOnWith slots no_page j k None no_mark
  looked-chronicle =
      stays-goes_on slots j k no_page no_mark looked-stays
      (marks-same j k (ap (λ (x : LoggedView D). count_failed x) same) (ap (λ (x : JournalView). x.marks.trace) looks.same) (ap (λ (x : LoggedView D). x.log_full) same))

  -- it is still in hand
  pub looked-journal : (pages : ℕ) (v : Known slots) → HasJournal slots pages v j → HasJournal slots pages v k
  looked-journal pages v h = still-journal slots j k pages v looked-chronicle h

or-false : (b : Bool) → (b || false) ≡ b
or-false true = refl
or-false false = refl

or-none : (o : Option ℕ) → option_or o None ≡ o
or-none None = refl
or-none (Some n) = refl

joined-none : (m : Marks) (n : ℕ) → joined_marks m (marks_with no_mark n) ≡ m
joined-none m n = rw (or-none m.0, or-false m.1, or-false m.2) refl

-- a call after a look
module _ {D : Type 0} (slots : ℕ) (test : ℕ → Bool) (i j k : LoggedView D) (marked : Flags) (look : GoesOnWith slots no_page i j None no_mark) where
  notes-behind : (entered : Option Entry) → GoesOnWith slots test j k entered marked → EntersIf slots test i k entered
  notes-behind None h = h.notes ∙ look.notes
  notes-behind (Some e) h = let n = h.notes in record {
    note = n.note;
    of_entry = n.of_entry;
    notes = n.notes ∙ ap (λ (ns : List Note). ns ++ n.note ∷ []) look.notes;
    elsewhere = λ page other.
        ap (λ (x : Origin). frame_after slots x (notes_of k) page) (sym look.origin)
        ∙ (n.elsewhere page other
        ∙ (ap (λ (x : Origin). frame_after slots x (notes_of j) page) look.origin
        ∙ ap (λ (ns : List Note). frame_after slots (origin_of i) ns page) look.notes));
  }

  pub goes-behind : (entered : Option Entry) → GoesOnWith slots test j k entered marked → GoesOnWith slots test i k entered marked
  goes-behind entered h = record {
    origin = h.origin ∙ look.origin;
    notes = notes-behind entered h;
    marks = h.marks ∙ ap (λ (m : Marks). joined_marks m (marks_with marked (count_kept k))) (look.marks ∙ joined-none (marks_of i) (count_kept j));
  }
