-- What a log tells of the pages of its store: the cells that it makes, a page's last image, and a page that no record concerns.
use Rattle.std.proofs.Common.{◌≡◌, ◌⊎◌, inl, inr, ⊎_elim, ℕ, ◌+◌, ◌*◌, ◌<◌, Bool, true, false, List, [], ◌∷◌, ◌++◌, fold, Option, Some, refl, sym, ◌∙◌, ap, subst, arith}
use Rattle.std.specs.Prelude.{IfSome, ◌==◌, ◌||◌, if◌then◌else◌}
use Rattle.std.specs.List.{AllByRecursion}
use Rattle.std.proofs.lemmas.List.{append_assoc, map-append}
use Rattle.cell_model.specs.Cells.{Cell}
use Rattle.cell_model.specs.Records.{Record as StoredRecord, cells_after, AllFit}
use Rattle.cell_model.specs.Consistent.{AreConsistent}
use Rattle.cell_page.specs.declared.cell.Cell.{Cell as PageCell}
use Rattle.cell_page.specs.Format.{IsSlotCount, AreTyped}
use Rattle.cell_page.specs.Stored.{HoldsPage}
use Rattle.cell_page.proofs.PointerLemmas.{cells_of-injective}
use Rattle.log_record.specs.declared.cell_record.CellRecord.{CellRecord}
use Rattle.log_record.specs.declared.record.Record.{Record}
use Rattle.log_record.specs.declared.record.Record.TheVariants.{OfCells, Image, Turn}
use Rattle.log_record.specs.Spelling.{HasCellSpelling}
use Rattle.restart_laws.specs.Local.{is_in_page}
use Rattle.restart_laws.specs.Unended.{AllFitUnended}
use Rattle.opened_images.specs.LogRecords.{all_of}
use Rattle.opened_images.specs.GoesOn.{stored_records}
use Rattle.opened_images.specs.WithImages.{AreOfEvents, HaveImages, AreSamePages, MakesCells, is_imaged}
use Rattle.opened_images.specs.Checkpoints.{GoOnFrom}
use Rattle.opened_images.specs.Marks.{concerns, current_by, is_current, last_image}
use Rattle.opened_images.proofs.ImagesInLog.{all_both, of_events_both, images_both, same_pages_more}
use Rattle.opened_images.proofs.Checkpoints.{go_on_from}
use Rattle.opened_images.proofs.Marks.{current}
use Rattle.opened_images.proofs.WithImages.{makes_cells}
use Rattle.core_store.specs.declared.note.Note.{Note}
use Rattle.core_store.specs.JournalView.{logged_in, cells_after_notes}
use Rattle.core_store.specs.Spelled.{IsOfIds}
use Rattle.logged_journal.specs.Records.{logged_of, AreTypedNotes, HaveRecords, AreRecords}
use Rattle.logged_journal.proofs.NoteRecords.{stored-are, spellings, within, last-have}
use Rattle.logged_journal.proofs.HeldRecords.{cells-behind}

-- what is told of the records of all notes of a store of so many pages
pub record FitStore (slots pages : ℕ) (opening : List Cell) (notes : List Note) : Type 0 where
  pub size : IsSlotCount slots
  pub after : AreConsistent slots (8 * pages) (cells_after_notes slots opening notes)
  pub spelled : AllByRecursion (λ (n : Note). IfSome n.logged (HasCellSpelling slots)) notes
  pub of_ids : AllByRecursion (λ (n : Note). IfSome n.logged (IsOfIds (8 * pages))) notes
  pub typed : AreTypedNotes notes
  pub fit : AllFit slots opening (logged_in notes)
  pub fit_unended : AllFitUnended [] (logged_in notes)

module _ (slots pages : ℕ) (opening : List Cell) (area : List ℕ) (notes more : List Note) (batches : List (List ℕ)) (rs : List (Record slots)) (bytes : List ℕ)
    (hold : HaveRecords slots pages opening area notes batches) (tail : AreRecords pages (cells_after_notes slots opening notes) more rs bytes) (facts : FitStore slots pages opening (notes ++ more)) where
  split : notes ++ more ≡ hold.first ++ (hold.later ++ more)
  split = ap (λ (ns : List Note). ns ++ more) hold.split ∙ append_assoc hold.first hold.later more

  -- the records of all notes are those of the first ones, and then what was logged since
  stored-is : logged_in (notes ++ more) ≡ logged_in hold.first ++ stored_records (logged_of (hold.later ++ more))
  stored-is = ap (λ (ns : List Note). logged_in ns) split ∙ map-append _ hold.first (hold.later ++ more) ∙ ap (λ (records : List (Option StoredRecord)). logged_in hold.first ++ records) (sym (stored-are (hold.later ++ more)))

  -- the log and the tail make the cells after all notes
  pub makes-own : MakesCells pages area (all_of (hold.earlier ++ hold.parts) ++ rs) (cells_after_notes slots opening (notes ++ more))
  makes-own =
      let P : Note → Type 0 = λ n. IfSome n.logged (HasCellSpelling slots) in
      let Q : Note → Type 0 = λ n. IfSome n.logged (IsOfIds (8 * pages)) in
      let begun = cells_after_notes slots opening hold.first in
      let events = logged_of (hold.later ++ more) in
      let go : GoOnFrom slots opening (logged_in hold.first) (stored_records events) = go_on_from slots opening (logged_in hold.first) (stored_records events) hold.over in
      let all : all_of (hold.earlier ++ hold.parts) ++ rs ≡ all_of hold.earlier ++ (all_of hold.parts ++ rs) =
      ap (λ (l : List (Record slots)). l ++ rs) (all_both hold.earlier hold.parts) ∙ append_assoc (all_of hold.earlier) (all_of hold.parts) rs in
      let cells : cells_after_notes slots opening (notes ++ more) ≡ cells_after slots begun (stored_records events) = ap (λ (records : List (Option StoredRecord)). cells_after slots opening records) stored-is ∙ go.cells_are in
      let made = makes_cells slots pages hold.before area hold.earlier (all_of hold.parts ++ rs) events begun facts.size hold.began hold.sound
      (subst (λ (l : List (Record slots)). AreSamePages pages l hold.before area) all (same_pages_more pages (all_of (hold.earlier ++ hold.parts)) rs hold.before area hold.same))
      (subst (λ (os : List (Option CellRecord)). AreOfEvents os (all_of hold.parts ++ rs)) (sym (map-append (λ (n : Note). n.logged) hold.later more)) (of_events_both (logged_of hold.later) (logged_of more) (all_of hold.parts) rs hold.logged tail.logged))
      (images_both pages begun (all_of hold.parts) rs hold.images (subst (λ (now : List Cell). HaveImages pages now rs) (sym (cells-behind slots pages opening area notes more batches hold)) tail.images))
      (spellings slots (hold.later ++ more) (last-have P hold.first (hold.later ++ more) (subst (AllByRecursion P) split facts.spelled)) (last-have _ hold.first (hold.later ++ more) (subst AreTypedNotes split facts.typed)))
      (within (8 * pages) (hold.later ++ more) (last-have Q hold.first (hold.later ++ more) (subst (AllByRecursion Q) split facts.of_ids)))
      (go.fit (subst (λ (records : List (Option StoredRecord)). AllFit slots opening records) stored-is facts.fit))
      (go.fit_unended (subst (λ (records : List (Option StoredRecord)). AllFitUnended [] records) stored-is facts.fit_unended))
      (subst (λ (now : List Cell). AreConsistent slots (8 * pages) now) cells facts.after) in
      subst (λ (l : List (Record slots)). MakesCells pages area l (cells_after_notes slots opening (notes ++ more))) (sym all)
      (subst (λ (now : List Cell). MakesCells pages area (all_of hold.earlier ++ (all_of hold.parts ++ rs)) now) (sym cells) made)

-- ---- a page with an image that is current

eq-in-page : (page other : ℕ) → (page == other) ≡ true → is_in_page other (8 * page + 1) ≡ true
eq-in-page page other is = grind (arith, Rattle.std.proofs.lemmas.Bool.Decides.nat_tests)

imaged-from : {slots : ℕ} (page : ℕ) (rs : List (Record slots)) (before : Bool) → fold (current_by page) before rs ≡ true → (before ≡ true) ⊎ (is_imaged page rs ≡ true)
imaged-from page [] before is = inl is
imaged-from {slots} page (OfCells r ∷ rs) before is = ⊎_elim (λ now. inl (by (concerns {slots = slots} page (OfCells r)) now)) (λ later. inr later) (imaged-from page rs (current_by {slots = slots} page before (OfCells r)) is)
  where
    by : (b : Bool) → (if b then false else before) ≡ true → before ≡ true
    by true e = absurd (cc (e))
    by false e = e
imaged-from page (Image other held ∷ rs) before is = by (page == other) refl (imaged-from page rs (current_by page before (Image other held)) is)
  where
    either : (b c : Bool) → c ≡ true → (b || c) ≡ true
    either true c e = refl
    either false c e = e

    by : (b : Bool) → (page == other) ≡ b → ((if page == other then page == other else before) ≡ true) ⊎ (is_imaged page rs ≡ true) → (before ≡ true) ⊎ ((is_in_page other (8 * page + 1) || is_imaged page rs) ≡ true)
    by true e has = inr (ap (λ (b : Bool). b || is_imaged page rs) (eq-in-page page other e))
    by false e has = ⊎_elim (λ now. inl (sym (ap (λ (b : Bool). if b then b else before) e) ∙ now)) (λ later. inr (either (is_in_page other (8 * page + 1)) (is_imaged page rs) later)) has
imaged-from page (Turn version count ∷ rs) before is = imaged-from page rs before is

-- has an image
pub current-imaged : {slots : ℕ} (page : ℕ) (rs : List (Record slots)) → is_current page rs ≡ true → is_imaged page rs ≡ true
current-imaged page rs is = ⊎_elim (λ none. absurd (cc (none))) (λ has. has) (imaged-from page rs false is)

-- the image is the frame that holds this page of the cells
pub frame-is : {slots : ℕ} (page : ℕ) (cells : List Cell) (held frame : List (PageCell slots)) → AreTyped held → AreTyped frame → HoldsPage cells page held → HoldsPage cells page frame → held ≡ frame
frame-is page cells held frame typed typed_frame these those = cells_of-injective page held frame these.rules those.rules typed typed_frame (these.same ∙ sym those.same)

-- so its last image is that frame
pub last-is-frame : (slots pages page : ℕ) (area : List ℕ) (rs : List (Record slots)) (cells : List Cell) (frame : List (PageCell slots)) → MakesCells pages area rs cells → page < pages → is_current page rs ≡ true → AreTyped frame → HoldsPage cells page frame
    → last_image page rs ≡ Some frame
last-is-frame slots pages page area rs cells frame makes low is typed holds =
    let c = current slots pages page area rs cells makes low is in
    c.1 ∙ ap (λ (held : List (PageCell slots)). Some held) (frame-is page cells c.0 frame c.2 typed c.3 holds)
