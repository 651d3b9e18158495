-- What a call of a journal gives to a table that has its chronicle.
use Rattle.std.proofs.Common.{◌≡◌, ◌⊎◌, ℕ, Bool, true, false, List, [], ◌∷◌, ◌++◌, Some, None, refl, sym, ap, subst, ◌∙◌}
use Rattle.std.specs.Prelude.{◌||◌, Option}
use Rattle.std.specs.Option.{option_or}
use Rattle.plain_model.specs.declared.calls.Entry.{Entry}
use Rattle.core_store.specs.declared.frame.Frame.{Frame}
use Rattle.core_store.specs.declared.note.Note.{Note}
use Rattle.logged_journal.specs.View.{LoggedView}
use Rattle.latch_table.specs.declared.view.Story.{Story}
use Rattle.latch_table.specs.declared.view.View.{View}
use Rattle.latch_table.specs.Account.{Marks}
use Rattle.latch_table.specs.Views.{KeepMarks, joined_marks, entries_in, frame_of, log_of}
use Rattle.latch_table.specs.Rule.{IsInHand}
use Rattle.latch_table.specs.Steps.{IsNext}
use Rattle.shared_store.specs.Chronicles.Clients.{speaker_of}
use Rattle.shared_store.specs.Chronicles.View.{Origin, account, origin_of, notes_of, marks_of, frame_after}
use Rattle.shared_store.specs.Chronicles.Steps.{Flags, marks_with, count_kept, GoesOnWith}

or-left : (a b : Bool) → a ≡ true → (a || b) ≡ true
or-left true b e = refl
or-left false b e = absurd (cc)

or-first : (b c : Option ℕ) (n : ℕ) → b ≡ Some n → option_or b c ≡ Some n
or-first (Some k) c n e = e
or-first None c n e = absurd (cc)

-- marks that were set are set with others
within-joined : (a b m : Marks) → KeepMarks a b → KeepMarks a (joined_marks b m)
within-joined a b m w = (λ n e. or-first b.0 m.0 n (w.0 n e), λ e. or-left b.1 m.1 (w.1 e), λ e. or-left b.2 m.2 (w.2 e))

module _ {D : Type 0} (slots : ℕ) (v : View Note Origin (Frame slots)) (old new : LoggedView D) (test : ℕ → Bool) (marked : Flags) (hand : IsInHand (account D slots) v old) where
  within-after : marks_of new ≡ joined_marks (marks_of old) (marks_with marked (count_kept new)) → (st : Story Note) → KeepMarks st.marks (marks_of old) → KeepMarks st.marks (marks_of new)
  within-after e st w = subst (KeepMarks st.marks) (sym e) (within-joined st.marks (marks_of old) (marks_with marked (count_kept new)) w)

  -- Where a call entered nothing, the chronicle is still the one that the hold has: it may be given back.
  pub in-hand : GoesOnWith slots test old new None marked → IsInHand (account D slots) v new
  in-hand goes = record {
    fixed = hand.fixed ∙ ap Some (sym goes.origin);
    log = (let log = hand.log in (log.0, log.1, log.2 ∙ sym goes.notes, within-after goes.marks log.0 log.3));
  }

  -- Where it entered an entry that speaks for the hold or for none, and changes the hold's pages alone, that may be told by an
  -- append.
  pub is-next : (pages : ℕ) (e : Entry) → GoesOnWith slots test old new (Some e) marked → (speaker_of e ≡ None) ⊎ (speaker_of e ≡ Some v.station.name) → ((k : ℕ) → frame_of v.hands.pages k ≡ None → test k ≡ false)
      → IsNext (account D slots) pages v new
  is-next pages e goes speaks own =
      let n = goes.notes in
      let log = hand.log in
      let before : log_of v ≡ notes_of old = ap entries_in log.1 ∙ log.2 in
      record {
        entry = n.note;
        fixed = hand.fixed ∙ ap Some (sym goes.origin);
        entries = n.notes ∙ ap (λ (ns : List Note). ns ++ n.note ∷ []) (sym before);
        log = (log.0, log.1, within-after goes.marks log.0 log.3);
        speaks = subst (λ (x : Entry). (speaker_of x ≡ None) ⊎ (speaker_of x ≡ Some v.station.name)) (sym n.of_entry) speaks;
        others_same = λ k there none.
            ap (λ (ns : List Note). frame_after slots (origin_of new) (ns ++ n.note ∷ []) k) before
            ∙ (ap (λ (ns : List Note). frame_after slots (origin_of new) ns k) (sym n.notes)
            ∙ (ap (λ (x : Origin). frame_after slots x (notes_of new) k) goes.origin
            ∙ (n.elsewhere k (own k none)
            ∙ (ap (λ (x : Origin). frame_after slots x (notes_of old) k) (sym goes.origin)
            ∙ ap (λ (ns : List Note). frame_after slots (origin_of new) ns k) (sym before)))));
      }
