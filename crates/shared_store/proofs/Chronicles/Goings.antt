-- How a chronicle goes on: where nothing is entered, and where one note joins.
use Rattle.std.proofs.Common.{◌≡◌, ◌⊎◌, ℕ, zero, suc, ◌*◌, ◌<◌, ◌≤◌, List, [], ◌∷◌, ◌++◌, length, Bool, true, false, Option, Some, None, refl, sym, ap, subst, ◌∙◌, inl, inr, arith}
use Rattle.std.specs.Prelude.{◌==◌, ◌||◌, option_map, unwrap_or, IfSome, slice_get}
use Rattle.std.specs.Option.{option_or}
use Rattle.std.proofs.Math.Bool.{or-false}
use Rattle.std.proofs.lemmas.Bool.{eqb-true}
use Rattle.plain_model.specs.declared.calls.Call.TheVariants.{Commit}
use Rattle.plain_model.specs.declared.calls.Reply.TheVariants.{DiskFault}
use Rattle.plain_model.specs.declared.calls.Entry.{Entry}
use Rattle.plain_model.specs.declared.calls.Entry.TheVariants.{Call}
use Rattle.plain_model.specs.Machine.{refusal_of}
use Rattle.plain_model.specs.History.{History, with_entry, end_of}
use Rattle.cell_model.specs.Cells.{Cell}
use Rattle.cell_page.specs.Format.{IsSlotCount}
use Rattle.cell_page.specs.Stored.{page_of, HoldsPage}
use Rattle.core_store.specs.declared.frame.Frame.{Frame}
use Rattle.core_store.specs.declared.note.Note.{Note}
use Rattle.core_store.specs.declared.three.HeldFrame.{HeldFrame}
use Rattle.core_store.specs.Frames.{Agree, AllAgree, IsSameElsewhere, is_held, pages_held}
use Rattle.core_store.specs.JournalView.{JournalView, cells_of}
use Rattle.core_store.proofs.PageLaws.{is_held-pages}
use Rattle.logged_journal.specs.declared.failed.FailedCall.{FailedCall}
use Rattle.logged_journal.specs.View.{LoggedView, failed_commit}
use Rattle.logged_journal.specs.Kept.{CanCommit}
use Rattle.logged_journal.specs.Calls.{KeepsFrames}
use Rattle.latch_table.specs.Views.{joined_marks}
use Rattle.shared_store.specs.Chronicles.Pages.{page_in}
use Rattle.shared_store.specs.Chronicles.View.{Origin, origin_of, notes_of, count_failed, marks_of, failed_note, frame_after}
use Rattle.shared_store.specs.Chronicles.Steps.{Flags, no_mark, disk_mark, trace_mark, log_mark, marks_with, count_kept, GoesOnWith}
use Rattle.shared_store.specs.Chronicles.Inside.{FitFrames, IsChronicle}
use Rattle.shared_store.proofs.Chronicles.Notes.{no-commit, notes-running, notes-failed, frame-is}
use Rattle.shared_store.proofs.Chronicles.PageCells.{page-same, holds-same, holds-exact}

-- ---- the marks

or-true : (b : Bool) → (b || true) ≡ true
or-true true = refl
or-true false = refl

or-none : (o : Option ℕ) → option_or o None ≡ o
or-none None = refl
or-none (Some n) = refl

-- the disk failed this call, or one before
disk-count : (o n : Option FailedCall) (f : FailedCall) → n ≡ Some f → (o ≡ None) ⊎ (o ≡ n)
    → option_map (λ (x : FailedCall). x.faults) n ≡ option_or (option_map (λ (x : FailedCall). x.faults) o) (Some (unwrap_or (option_map (λ (x : FailedCall). x.faults) n) 0))
disk-count o n f is (inl none) = rw (none, is) refl
disk-count o n f is (inr same) = rw (same ∙ is, is) refl

module _ {D : Type 0} (old new : LoggedView D) where
  marks-are : (a : Option ℕ) (b c : Bool) → count_failed new ≡ a → new.journal.marks.trace ≡ b → new.log_full ≡ c → marks_of new ≡ (a, b, c)
  marks-are a b c e f g = rw (e, f, g) refl

  -- none was set
  pub marks-same : count_failed new ≡ count_failed old → new.journal.marks.trace ≡ old.journal.marks.trace → new.log_full ≡ old.log_full → marks_of new ≡ joined_marks (marks_of old) (marks_with no_mark (count_kept new))
  marks-same e f g =
      marks-are (option_or (count_failed old) None) (old.journal.marks.trace || false) (old.log_full || false)
      (e ∙ sym (or-none (count_failed old))) (f ∙ sym (or-false old.journal.marks.trace)) (g ∙ sym (or-false old.log_full))

  pub marks-disk : (failed : FailedCall) → new.failed ≡ Some failed → (old.failed ≡ None) ⊎ (old.failed ≡ new.failed) → new.journal.marks.trace ≡ old.journal.marks.trace → new.log_full ≡ old.log_full
      → marks_of new ≡ joined_marks (marks_of old) (marks_with disk_mark (count_kept new))
  marks-disk failed is before f g =
      marks-are (option_or (count_failed old) (Some (count_kept new))) (old.journal.marks.trace || false) (old.log_full || false)
      (disk-count old.failed new.failed failed is before) (f ∙ sym (or-false old.journal.marks.trace)) (g ∙ sym (or-false old.log_full))

  pub marks-trace : count_failed new ≡ count_failed old → new.journal.marks.trace ≡ true → new.log_full ≡ old.log_full → marks_of new ≡ joined_marks (marks_of old) (marks_with trace_mark (count_kept new))
  marks-trace e f g =
      marks-are (option_or (count_failed old) None) (old.journal.marks.trace || true) (old.log_full || false)
      (e ∙ sym (or-none (count_failed old))) (f ∙ sym (or-true old.journal.marks.trace)) (g ∙ sym (or-false old.log_full))

  pub marks-log : count_failed new ≡ count_failed old → new.journal.marks.trace ≡ old.journal.marks.trace → new.log_full ≡ true → marks_of new ≡ joined_marks (marks_of old) (marks_with log_mark (count_kept new))
  marks-log e f g =
      marks-are (option_or (count_failed old) None) (old.journal.marks.trace || false) (old.log_full || true)
      (e ∙ sym (or-none (count_failed old))) (f ∙ sym (or-false old.journal.marks.trace)) (g ∙ sym (or-true old.log_full))

-- ---- nothing is entered

-- what stays of a journal then: all but marks, the collector's cursor and room that was taken
pub record Stays {D : Type 0} (old new : LoggedView D) : Type 0 where
  pub history : new.journal.history ≡ old.journal.history
  pub notes : new.journal.notes ≡ old.journal.notes
  pub opening : new.journal.opening ≡ old.journal.opening
  pub limits : new.journal.limits ≡ old.journal.limits
  pub opened : new.opened ≡ old.opened
  pub commit : failed_commit new ≡ failed_commit old

-- one note joined, and the disk failed nothing
pub record Joins {D : Type 0} (old new : LoggedView D) (n : Note) : Type 0 where
  pub history : new.journal.history ≡ with_entry old.journal.history n.entry
  pub notes : new.journal.notes ≡ old.journal.notes ++ n ∷ []
  pub opening : new.journal.opening ≡ old.journal.opening
  pub limits : new.journal.limits ≡ old.journal.limits
  pub opened : new.opened ≡ old.opened
  pub before : old.failed ≡ None
  pub running : new.failed ≡ None

origin-is : {D : Type 0} (old new : LoggedView D) → new.journal.limits ≡ old.journal.limits → new.journal.opening ≡ old.journal.opening → new.journal.history.ids ≡ old.journal.history.ids → new.opened ≡ old.opened
    → origin_of new ≡ origin_of old
origin-is old new e f g h = rw (e, f, g, h) refl

module _ {D : Type 0} (slots : ℕ) (old new : LoggedView D) where
  pub stays-goes_on : (test : ℕ → Bool) (marked : Flags) → Stays old new → marks_of new ≡ joined_marks (marks_of old) (marks_with marked (count_kept new)) → GoesOnWith slots test old new None marked
  stays-goes_on test marked s marks = record {
    origin = origin-is old new s.limits s.opening (ap (λ (x : History). x.ids) s.history) s.opened;
    notes = by (failed_commit old) refl;
    marks = marks;
  }
    where
      by : (o : Option ℕ) → failed_commit old ≡ o → notes_of new ≡ notes_of old
      by None e = notes-running new (s.commit ∙ e) ∙ (s.notes ∙ sym (notes-running old e))
      by (Some client) e =
          notes-failed new client (s.commit ∙ e)
          ∙ (ap (λ (ns : List Note). ns ++ failed_note ns client ∷ []) s.notes ∙ sym (notes-failed old client e))

  stays-cells : Stays old new → cells_of new.journal ≡ cells_of old.journal
  stays-cells s = rw (s.history, s.opening, s.notes) refl

  can-commit : (o : Option ℕ) (j k : JournalView) → k.history ≡ j.history → IfSome o (CanCommit j) → IfSome o (CanCommit k)
  can-commit None j k e g = tt
  can-commit (Some client) j k e g = record { client = g.client; granted = subst (λ (h : History). refusal_of (end_of h).state client Commit ≡ None) (sym e) g.granted }

  pub stays-chronicle : Stays old new → IsChronicle slots old → IsChronicle slots new
  stays-chronicle s c = record {
    pages = λ page there.
        subst (λ (cells : List Cell). HoldsPage cells page (page_in slots cells page)) (sym (stays-cells s))
        (c.pages page (subst (λ (h : History). 8 * page < h.ids) s.history there));
    granted = subst (λ (o : Option ℕ). IfSome o (CanCommit new.journal)) (sym s.commit) (can-commit (failed_commit old) old.journal new.journal s.history c.granted);
  }

-- ---- a note joins

module _ {D : Type 0} (slots : ℕ) (old new : LoggedView D) (own : old.journal.history.slots ≡ slots) (owned : new.journal.history.slots ≡ slots) where
  frames-same : origin_of new ≡ origin_of old → (page : ℕ) → page_of (cells_of new.journal) page ≡ page_of (cells_of old.journal) page
      → frame_after slots (origin_of old) (notes_of new) page ≡ frame_after slots (origin_of old) (notes_of old) page
  frames-same origin page same =
      ap (λ (x : Origin). frame_after slots x (notes_of new) page) (sym origin)
      ∙ (frame-is slots new owned page
      ∙ (ap (λ p. record { page = p }) (page-same slots (cells_of old.journal) (cells_of new.journal) page same)
      ∙ sym (frame-is slots old own page)))

  pub joins-goes_on : (test : ℕ → Bool) (marked : Flags) (n : Note) → Joins old new n → ((page : ℕ) → test page ≡ false → page_of (cells_of new.journal) page ≡ page_of (cells_of old.journal) page)
      → marks_of new ≡ joined_marks (marks_of old) (marks_with marked (count_kept new)) → GoesOnWith slots test old new (Some n.entry) marked
  joins-goes_on test marked n j same marks = record {
    origin = origin;
    notes = record {
      note = n;
      of_entry = refl;
      notes = notes-running new (no-commit new j.running) ∙ (j.notes ∙ ap (λ (ns : List Note). ns ++ n ∷ []) (sym (notes-running old (no-commit old j.before))));
      elsewhere = λ page other. frames-same origin page (same page other);
    };
    marks = marks;
  }
    where
      origin : origin_of new ≡ origin_of old
      origin = origin-is old new j.limits j.opening (ap (λ (x : History). x.ids) j.history) j.opened

  -- the disk failed a commit, and the journal stays
  pub fails-goes_on : (test : ℕ → Bool) (client : ℕ) → new.journal ≡ old.journal → new.opened ≡ old.opened → failed_commit old ≡ None → failed_commit new ≡ Some client → marks_of new ≡ joined_marks (marks_of old) (marks_with disk_mark (count_kept new))
      → GoesOnWith slots test old new (Some (Call client Commit DiskFault)) disk_mark
  fails-goes_on test client journal opened before failed marks = record {
    origin = origin;
    notes = record {
      note = failed_note old.journal.notes client;
      of_entry = refl;
      notes = notes-failed new client failed
          ∙ (ap (λ (x : JournalView). x.notes ++ failed_note x.notes client ∷ []) journal
          ∙ ap (λ (ns : List Note). ns ++ failed_note old.journal.notes client ∷ []) (sym (notes-running old before)));
      elsewhere = λ page other. frames-same origin page (ap (λ (x : JournalView). page_of (cells_of x) page) journal);
    };
    marks = marks;
  }
    where
      origin : origin_of new ≡ origin_of old
      origin = origin-is old new (ap (λ (x : JournalView). x.limits) journal) (ap (λ (x : JournalView). x.opening) journal) (ap (λ (x : JournalView). x.history.ids) journal) opened

-- ---- each page can still stand in a frame

page-found : {slots : ℕ} (cells : List Cell) (held : List (HeldFrame slots)) (page : ℕ) → Agree cells held → is_held held page ≡ true → HoldsPage cells page (page_in slots cells page)
page-found cells [] page agree there = absurd (cc)
page-found {slots} cells (h ∷ hs) page agree there = by (λ t. page-found cells hs page agree.1 t) (h.page == page) refl there
  where
    by : (is_held hs page ≡ true → HoldsPage cells page (page_in slots cells page)) → (b : Bool) → (h.page == page) ≡ b → (b || is_held hs page) ≡ true → HoldsPage cells page (page_in slots cells page)
    by later true is t = subst (λ (p : ℕ). HoldsPage cells p (page_in slots cells p)) (eqb-true h.page page is) (holds-exact cells h.page h.frame.page agree.0)
    by later false is t = later t

pub pages-kept : {slots : ℕ} (ids : ℕ) (before after : List Cell) (held held_new : List (HeldFrame slots)) → FitFrames slots ids before → pages_held held_new ≡ pages_held held → Agree after held_new → IsSameElsewhere before after held → FitFrames slots ids after
pages-kept {slots} ids before after held held_new pages same agree elsewhere = λ page there. by page there (is_held held page) refl
  where
    by : (page : ℕ) → 8 * page < ids → (b : Bool) → is_held held page ≡ b → HoldsPage after page (page_in slots after page)
    by page there true e = page-found after held_new page agree (is_held-pages held_new held page same ∙ e)
    by page there false e = holds-same slots before after page (elsewhere page e) (pages page there)

pub joins-chronicle : {D : Type 0} (slots : ℕ) (old new : LoggedView D) (n : Note) → Joins old new n → FitFrames slots old.journal.history.ids (cells_of new.journal) → IsChronicle slots new
joins-chronicle slots old new n j pages = record {
  pages = subst (λ (h : History). FitFrames slots h.ids (cells_of new.journal)) (sym j.history) pages;
  granted = subst (λ (o : Option ℕ). IfSome o (CanCommit new.journal)) (sym (no-commit new j.running)) tt;
}

-- ---- what a call comes to

-- the call goes on with the chronicle, leaves the held frames where it entered nothing, and each page can still stand in a frame
pub record Came {D : Type 0} (slots : ℕ) (old new : LoggedView D) (held held_new : List (HeldFrame slots)) (entered : Option Entry) (marked : Flags) : Type 0 where
  pub goes : GoesOnWith slots (is_held held) old new entered marked
  pub rest : entered ≡ None → held_new ≡ held
  pub chronicle : IsChronicle slots new

-- the journal is one with the same history, notes, opening and limits
pub stays-by : {D : Type 0} (old new : LoggedView D) (k : JournalView) → new.journal ≡ k → k.history ≡ old.journal.history → k.notes ≡ old.journal.notes → k.opening ≡ old.journal.opening → k.limits ≡ old.journal.limits
    → new.opened ≡ old.opened → failed_commit new ≡ failed_commit old → Stays old new
stays-by old new k is history notes opening limits opened commit = record {
  history = ap (λ (x : JournalView). x.history) is ∙ history;
  notes = ap (λ (x : JournalView). x.notes) is ∙ notes;
  opening = ap (λ (x : JournalView). x.opening) is ∙ opening;
  limits = ap (λ (x : JournalView). x.limits) is ∙ limits;
  opened = opened;
  commit = commit;
}

pub stays-same : {D : Type 0} (old new : LoggedView D) → new ≡ old → Stays old new
stays-same {D} old new e =
    stays-by old new old.journal (ap (λ (v : LoggedView D). v.journal) e) refl refl refl refl (ap (λ (v : LoggedView D). v.opened) e) (ap (λ (v : LoggedView D). failed_commit v) e)

-- neither has failed
pub commit-same : {D : Type 0} (old new : LoggedView D) → old.failed ≡ None → new.failed ≡ None → failed_commit new ≡ failed_commit old
commit-same old new e f = no-commit new f ∙ sym (no-commit old e)

pub some-same : {D : Type 0} (old new : LoggedView D) → old.failed ≡ None → new.failed ≡ None → count_failed new ≡ count_failed old
some-same old new e f = ap (option_map (λ (x : FailedCall). x.faults)) f ∙ sym (ap (option_map (λ (x : FailedCall). x.faults)) e)

pub came-still : {D : Type 0} (slots : ℕ) (old new : LoggedView D) (held held_new : List (HeldFrame slots)) (marked : Flags) → IsChronicle slots old → Stays old new → held_new ≡ held → marks_of new ≡ joined_marks (marks_of old) (marks_with marked (count_kept new))
    → Came slots old new held held_new None marked
came-still slots old new held held_new marked before stays same marks = record {
  goes = stays-goes_on slots old new (is_held held) marked stays marks;
  rest = λ e. same;
  chronicle = stays-chronicle slots old new stays before;
}

-- the disk had failed a call before
pub came-stopped : {D : Type 0} (slots : ℕ) (old new : LoggedView D) (held held_new : List (HeldFrame slots)) → IsChronicle slots old → new ≡ old → held_new ≡ held → (f : FailedCall) → old.failed ≡ Some f → Came slots old new held held_new None disk_mark
came-stopped {D} slots old new held held_new before same held_same f failed =
    came-still slots old new held held_new disk_mark before (stays-same old new same) held_same
    (marks-disk old new f (ap (λ (v : LoggedView D). v.failed) same ∙ failed) (inr (sym (ap (λ (v : LoggedView D). v.failed) same))) (ap (λ (v : LoggedView D). v.journal.marks.trace) same) (ap (λ (v : LoggedView D). v.log_full) same))

-- the log is full
pub came-full : {D : Type 0} (slots : ℕ) (old new : LoggedView D) (held held_new : List (HeldFrame slots)) → IsChronicle slots old → new ≡ record old { log_full = true } → held_new ≡ held → Came slots old new held held_new None log_mark
came-full {D} slots old new held held_new before is held_same =
    came-still slots old new held held_new log_mark before
    (stays-by old new old.journal (ap (λ (v : LoggedView D). v.journal) is) refl refl refl refl (ap (λ (v : LoggedView D). v.opened) is) (ap (λ (v : LoggedView D). failed_commit v) is))
    held_same
    (marks-log old new (ap (λ (v : LoggedView D). count_failed v) is) (ap (λ (v : LoggedView D). v.journal.marks.trace) is) (ap (λ (v : LoggedView D). v.log_full) is))

-- a note joined
pub came-joined : {D : Type 0} (slots : ℕ) (old new : LoggedView D) (held held_new : List (HeldFrame slots)) (n : Note) → old.journal.history.slots ≡ slots → new.journal.history.slots ≡ slots → IsChronicle slots old → Joins old new n
    → KeepsFrames old.journal new.journal held held_new → new.journal.marks.trace ≡ old.journal.marks.trace → new.log_full ≡ old.log_full → Came slots old new held held_new (Some n.entry) no_mark
came-joined slots old new held held_new n own owned before j frames trace log_full = record {
  goes = joins-goes_on slots old new own owned (is_held held) no_mark n j frames.elsewhere (marks-same old new (some-same old new j.before j.running) trace log_full);
  rest = λ e. absurd (cc);
  chronicle = joins-chronicle slots old new n j (pages-kept old.journal.history.ids (cells_of old.journal) (cells_of new.journal) held held_new before.pages frames.pages frames.agree frames.elsewhere);
}

-- ---- a chronicle begins

pub slots-few : (slots : ℕ) → IsSlotCount slots → slots ≤ 14
slots-few slots (inl e) = rw e (omega arith)
slots-few slots (inr e) = rw e (omega arith)

-- the frame of the page is there
frame-there : {slots : ℕ} (frames : List (Frame slots)) (page : ℕ) → page < length frames → (frame : Frame slots) × (slice_get frames page ≡ Some frame)
frame-there [] page within = absurd (omega arith)
frame-there (f ∷ fs) zero within = (f, refl)
frame-there (f ∷ fs) (suc page) within = let rest = frame-there fs page (omega (arith, within)) in (rest.0, rest.1)

-- where the frames are the pages of a journal that the disk failed no call, each page can stand in a frame
pub opened-chronicle : {D : Type 0} (slots : ℕ) (v : LoggedView D) (frames : List (Frame slots)) → v.failed ≡ None → 8 * length frames ≡ v.journal.history.ids → AllAgree (cells_of v.journal) frames → IsChronicle slots v
opened-chronicle slots v frames running pages agree = record {
  pages = λ page there.
      let f = frame-there frames page (omega (arith, there, pages)) in
      holds-exact (cells_of v.journal) page f.0.page (agree page f.0 f.1);
  granted = subst (λ (o : Option ℕ). IfSome o (CanCommit v.journal)) (sym (no-commit v running)) tt;
}
