-- What a pass keeps after a call.
use Rattle.std.proofs.Common.{◌≡◌, ℕ, Bool, true, false, List, [], ◌∷◌, ◌++◌, Option, Some, None, sym, ap, ◌∙◌, subst}
use Rattle.std.specs.Prelude.{◌↔◌, IsSome}
use Rattle.plain_model.specs.declared.calls.Entry.{Entry}
use Rattle.core_store.specs.declared.frame.Frame.{Frame}
use Rattle.core_store.specs.declared.note.Note.{Note}
use Rattle.core_store.specs.declared.three.HeldFrame.{HeldFrame}
use Rattle.logged_journal.specs.View.{LoggedView}
use Rattle.latch_table.specs.Account.{Marks}
use Rattle.latch_table.specs.Views.{joined_marks, log_of, log_claimed, log_dropped}
use Rattle.latch_table.specs.Holds.{HoldView, IsAnother}
use Rattle.latch_table.specs.Rule.{HasMet, IsLater}
use Rattle.latch_table.specs.Steps.{told_of}
use Rattle.shared_store.specs.Chronicles.Steps.{Flags, marks_with, count_kept}
use Rattle.shared_store.specs.Chronicles.View.{Origin, account, notes_of, marks_of, sizes_of}
use Rattle.shared_store.specs.declared.refused.Refused.{Refused}
use Rattle.shared_store.specs.Passes.{Known, IsPass, AreMarked}
use Rattle.shared_store.specs.Acts.{Acts}
use Rattle.shared_store.specs.Calls.{GoesOnAs}
use Rattle.shared_store.specs.Holding.{with_pages}
use Rattle.shared_store.proofs.Goings.{Comes, comes, found-log, pass-after}

-- a pass claimed the log word, did its work, told of the entry, if one was entered, and gave all back
pub record IsDone {D : Type 0} (slots : ℕ) (v z : Known slots) (j k : LoggedView D) (entered : Option Entry) (marked : Flags) (found : Option (ℕ × ℕ)) : Type 0 where
  pub claimed : Known slots
  pub worked : Known slots
  pub held : List (HeldFrame slots)
  pub tells : Bool
  pub claim : claimed ≡ log_claimed v (notes_of j) (marks_of j) (sizes_of j)
  pub later : IsLater (account D slots) v j
  pub acts : Acts slots claimed worked j k held entered marked found
  pub iff : (tells ≡ true) ↔ IsSome entered
  pub told : tells ≡ true → (note : Note) × (notes_of k ≡ log_of worked ++ note ∷ []) × (z ≡ log_dropped (with_pages (told_of (account D slots) worked k note) []) (marks_of k))
  pub same : tells ≡ false → z ≡ log_dropped (with_pages worked []) (marks_of k)

pub done-comes : {D : Type 0} (slots : ℕ) (v z : Known slots) (j k : LoggedView D) (entered : Option Entry) (marked : Flags) (found : Option (ℕ × ℕ)) → IsDone slots v z j k entered marked found → Comes v z j k entered found
done-comes slots v z j k entered marked found d = comes slots v d.claimed d.worked z j k d.held entered marked found d.tells d.claim d.later d.acts d.iff d.told d.same

module _ {slots : ℕ} (h h' : HoldView Note Origin (Frame slots)) (main : Bool) (number : ℕ) (txn : Bool) (seen : ℕ) (refused : Refused) (left : List Bool) (p : IsPass h main number txn seen refused left) (table : h'.table ≡ h.table) where
  -- what the fields of the pass keep then
  pub done-pass : {D : Type 0} (j k : LoggedView D) (entered : Option Entry) (marked : Flags) (found : Option (ℕ × ℕ)) (txn' : Bool) (seen' : ℕ) (refused' : Refused) → IsDone slots h.view h'.view j k entered marked found
      → (GoesOnAs h.view h'.view entered found → txn' ≡ h'.view.knowledge.truth) → seen' ≡ h'.view.knowledge.seen → AreMarked refused' (joined_marks h.view.knowledge.marks (joined_marks (marks_of j) (marks_with marked (count_kept k)))) → IsPass h' main number txn' seen' refused' left
  done-pass j k entered marked found txn' seen' refused' d truth length_is counted =
      let c = done-comes slots h.view h'.view j k entered marked found d in
      let g = d.acts.goes_on in
      pass-after h h' main number txn txn' seen seen' refused refused' left entered found p table c.goes (truth c.goes) length_is
      (subst (λ (m : Marks). AreMarked refused' m) (ap (joined_marks h.view.knowledge.marks) (sym g.marks) ∙ sym c.marks) counted)

  -- another hold had the log word
  pub met-pass : (word seat : ℕ) → HasMet h.view h'.view word seat → IsAnother h.view seat → IsPass h' main number txn seen refused left
  met-pass word seat e other =
      pass-after h h' main number txn txn seen seen refused refused left None (Some (word, seat)) p table (found-log h.view h'.view word seat p.none e other)
      (p.txn_is ∙ sym (ap (λ (u : Known slots). u.knowledge.truth) e.2)) (p.seen_is ∙ sym (ap (λ (u : Known slots). u.knowledge.seen) e.2))
      (subst (λ (u : Known slots). AreMarked refused u.knowledge.marks) (sym e.2) p.marked)
