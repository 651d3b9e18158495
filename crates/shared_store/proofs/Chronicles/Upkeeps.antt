-- What upkeep and the looks of the collector make of a chronicle: no page changes.
use Rattle.std.proofs.Common.{◌≡◌, ◌≢◌, ℕ, List, Bool, true, false, Option, Some, None, inl, inr, refl, sym, ap, subst, ◌∙◌}
use Rattle.std.specs.Prelude.{IfSome, IsSome}
use Rattle.plain_model.specs.declared.calls.Entry.{Entry}
use Rattle.plain_model.specs.declared.calls.Entry.TheVariants.{Hidden, TurnBusy}
use Rattle.cell_model.specs.Cells.{Cell}
use Rattle.cell_page.specs.Stored.{page_of}
use Rattle.core_store.specs.declared.act.Act.TheVariants.{Other}
use Rattle.core_store.specs.declared.note.Note.{Note}
use Rattle.core_store.specs.JournalView.{JournalView, cells_of}
use Rattle.core_store.specs.Limited.{is_past_limit}
use Rattle.core_store.specs.RoundView.{left_of}
use Rattle.core_store.specs.Steppings.{OnlyLooks}
use Rattle.core_store.specs.Upkeep.{with_upkeep}
use Rattle.logged_journal.specs.declared.failed.FailedCall.{FailedCall}
use Rattle.logged_journal.specs.declared.upkeep.Upkeep.{Upkeep}
use Rattle.logged_journal.specs.declared.upkeep.Upkeep.TheVariants as upkeep
use Rattle.logged_journal.specs.View.{LoggedView, OnlyTakesRoom, failed_commit}
use Rattle.logged_journal.specs.Upkeep.{DoesUpkeep, FailsUpkeep}
use Rattle.latch_table.specs.Views.{joined_marks}
use Rattle.shared_store.specs.Chronicles.Steps.{Flags, no_mark, disk_mark, trace_mark, log_mark, marks_with, count_kept, entered_by_refusal, entered_by_upkeep, marked_by_refusal, marked_by_upkeep, no_page, GoesOnWith}
use Rattle.shared_store.specs.Chronicles.View.{count_failed, marks_of}
use Rattle.shared_store.specs.Chronicles.Inside.{FitFrames, IsChronicle}
use Rattle.shared_store.proofs.Chronicles.Notes.{cells-unlogged}
use Rattle.shared_store.proofs.Chronicles.Goings.{Stays, Joins, stays-by, stays-same, stays-goes_on, stays-chronicle, some-same, marks-same, marks-disk, marks-trace, marks-log, joins-goes_on, joins-chronicle}

-- the call goes on with the chronicle, no page changes its frame, and each can still stand in one
pub record Kept {D : Type 0} (slots : ℕ) (old new : LoggedView D) (entered : Option Entry) (marked : Flags) : Type 0 where
  pub goes : GoesOnWith slots no_page old new entered marked
  pub chronicle : IsChronicle slots new

kept-still : {D : Type 0} (slots : ℕ) (old new : LoggedView D) (marked : Flags) → IsChronicle slots old → Stays old new → marks_of new ≡ joined_marks (marks_of old) (marks_with marked (count_kept new)) → Kept slots old new None marked
kept-still slots old new marked before stays marks = record { goes = stays-goes_on slots old new no_page marked stays marks; chronicle = stays-chronicle slots old new stays before }

-- ---- the collector looks on

pub looked : {D : Type 0} (slots : ℕ) (old new : LoggedView D) → IsChronicle slots old → new ≡ record old { journal = new.journal } → OnlyLooks slots old.journal new.journal → Kept slots old new None no_mark
looked {D} slots old new before is looks =
    let round = new.journal.round in
    kept-still slots old new no_mark before
    (stays-by old new (record old.journal { round = new.journal.round }) looks.same refl refl refl refl (ap (λ (v : LoggedView D). v.opened) is) (ap (λ (v : LoggedView D). failed_commit v) is))
    (marks-same old new (ap (λ (v : LoggedView D). count_failed v) is) (ap (λ (j : JournalView). j.marks.trace) looks.same) (ap (λ (v : LoggedView D). v.log_full) is))

-- ---- upkeep

-- what a call says that cleans a page or turns the log
pub record Upkept {D : Type 0} (faults : D → ℕ) (slots : ℕ) (old new : LoggedView D) (r : Upkeep) : Type 0 where
  pub own : old.journal.history.slots ≡ slots
  pub owned : new.journal.history.slots ≡ slots
  pub before : IsChronicle slots old
  pub stopped : IfSome old.failed (λ f. (r ≡ upkeep.Stopped f.faults) × (new ≡ old))
  pub only_stopped : (n : ℕ) → r ≡ upkeep.Stopped n → IsSome old.failed
  pub marked : r ≡ upkeep.TraceFull → new ≡ record old { journal = record old.journal { marks = record old.journal.marks { trace = true } } }
  pub log_marked : r ≡ upkeep.LogFull → OnlyTakesRoom (record old { log_full = true }) new
  pub memory : r ≡ upkeep.Memory → OnlyTakesRoom old new
  pub done : r ≡ upkeep.Done → DoesUpkeep slots old new
  pub told : (pass : ℕ) → r ≡ upkeep.Busy pass → new ≡ record old { journal = with_upkeep slots old.journal (TurnBusy pass) }
  pub fault : r ≡ upkeep.DiskFault → FailsUpkeep faults old new

module _ {D : Type 0} (faults : D → ℕ) (slots : ℕ) (old new : LoggedView D) where
  -- an entry joined that logs nothing
  entered : (e : Entry) → old.journal.history.slots ≡ slots → new.journal.history.slots ≡ slots → IsChronicle slots old → new.journal ≡ with_upkeep slots old.journal e → old.failed ≡ None → new.failed ≡ None → new.opened ≡ old.opened → new.log_full ≡ old.log_full
      → Kept slots old new (Some e) no_mark
  entered e own owned before is failed running opened log_full =
      let n : Note = record { entry = e; logged = None; left = left_of slots old.journal.round; act = Other } in
      let cells : cells_of new.journal ≡ cells_of old.journal = ap cells_of is ∙ cells-unlogged old.journal.history.slots old.journal.opening old.journal.notes n refl in
      let j : Joins old new n = record {
        history = ap (λ (x : JournalView). x.history) is;
        notes = ap (λ (x : JournalView). x.notes) is;
        opening = ap (λ (x : JournalView). x.opening) is;
        limits = ap (λ (x : JournalView). x.limits) is;
        opened = opened;
        before = failed;
        running = running;
      } in
      record {
        goes = joins-goes_on slots old new own owned no_page no_mark n j (λ page other. ap (λ (cs : List Cell). page_of cs page) cells)
            (marks-same old new (some-same old new failed running) (ap (λ (x : JournalView). x.marks.trace) is) log_full);
        chronicle = joins-chronicle slots old new n j (subst (FitFrames slots old.journal.history.ids) (sym cells) before.pages);
      }

  running : (r : Upkeep) → Upkept faults slots old new r → old.failed ≡ None → Kept slots old new (entered_by_upkeep r) (marked_by_upkeep r)
  running upkeep.Done a before =
      let d = a.done refl in
      entered Hidden a.own a.owned a.before d.journal before d.running d.opened d.log_full
  running (upkeep.Busy pass) a before =
      let is = a.told pass refl in
      entered (TurnBusy pass) a.own a.owned a.before (ap (λ (v : LoggedView D). v.journal) is) before (ap (λ (v : LoggedView D). v.failed) is ∙ before) (ap (λ (v : LoggedView D). v.opened) is) (ap (λ (v : LoggedView D). v.log_full) is)
  running (upkeep.Stopped n) a before = absurd (let s = subst IsSome before (a.only_stopped n refl) in cc)
  running upkeep.TraceFull a before =
      let is = a.marked refl in
      kept-still slots old new trace_mark a.before
      (stays-by old new (record old.journal { marks = record old.journal.marks { trace = true } }) (ap (λ (v : LoggedView D). v.journal) is) refl refl refl refl (ap (λ (v : LoggedView D). v.opened) is) (ap (λ (v : LoggedView D). failed_commit v) is))
      (marks-trace old new (ap (λ (v : LoggedView D). count_failed v) is) (ap (λ (v : LoggedView D). v.journal.marks.trace) is) (ap (λ (v : LoggedView D). v.log_full) is))
  running upkeep.LogFull a before =
      let is = a.log_marked refl in
      kept-still slots old new log_mark a.before
      (stays-by old new (record old.journal { reserved = new.journal.reserved }) (ap (λ (v : LoggedView D). v.journal) is) refl refl refl refl (ap (λ (v : LoggedView D). v.opened) is) (ap (λ (v : LoggedView D). failed_commit v) is))
      (marks-log old new (ap (λ (v : LoggedView D). count_failed v) is) (ap (λ (v : LoggedView D). v.journal.marks.trace) is) (ap (λ (v : LoggedView D). v.log_full) is))
  running upkeep.Memory a before =
      let is = a.memory refl in
      kept-still slots old new no_mark a.before
      (stays-by old new (record old.journal { reserved = new.journal.reserved }) (ap (λ (v : LoggedView D). v.journal) is) refl refl refl refl (ap (λ (v : LoggedView D). v.opened) is) (ap (λ (v : LoggedView D). failed_commit v) is))
      (marks-same old new (ap (λ (v : LoggedView D). count_failed v) is) (ap (λ (v : LoggedView D). v.journal.marks.trace) is) (ap (λ (v : LoggedView D). v.log_full) is))
  running upkeep.DiskFault a before =
      let f = a.fault refl in
      let commit : failed_commit new ≡ failed_commit old = rw (f.told, before) refl in
      kept-still slots old new disk_mark a.before
      (stays-by old new (record old.journal { reserved = new.journal.reserved }) f.journal refl refl refl refl f.opened commit)
      (marks-disk old new _ f.told (inl before) (ap (λ (j : JournalView). j.marks.trace) f.journal) f.log_full)

  pub upkept : (r : Upkeep) → Upkept faults slots old new r → Kept slots old new (entered_by_upkeep r) (marked_by_upkeep r)
  upkept r a = by old.failed refl a.stopped
    where
      by : (o : Option FailedCall) → old.failed ≡ o → IfSome o (λ f. (r ≡ upkeep.Stopped f.faults) × (new ≡ old)) → Kept slots old new (entered_by_upkeep r) (marked_by_upkeep r)
      by None e stopped = running r a e
      by (Some f) e stopped =
          subst (λ (x : Upkeep). Kept slots old new (entered_by_upkeep x) (marked_by_upkeep x)) (sym stopped.0)
          (kept-still slots old new disk_mark a.before (stays-same old new stopped.1)
          (marks-disk old new f (ap (λ (v : LoggedView D). v.failed) stopped.1 ∙ e) (inr (sym (ap (λ (v : LoggedView D). v.failed) stopped.1))) (ap (λ (v : LoggedView D). v.journal.marks.trace) stopped.1) (ap (λ (v : LoggedView D). v.log_full) stopped.1)))

-- ---- upkeep that is refused before it is tried

-- what a call says that refuses upkeep, or finds that it may be tried
pub record Refused {D : Type 0} (slots : ℕ) (old new : LoggedView D) (r : Option Upkeep) : Type 0 where
  pub own : old.journal.history.slots ≡ slots
  pub owned : new.journal.history.slots ≡ slots
  pub before : IsChronicle slots old
  pub stopped : IfSome old.failed (λ f. (r ≡ Some (upkeep.Stopped f.faults)) × (new ≡ old))
  pub only_stopped : (n : ℕ) → r ≡ Some (upkeep.Stopped n) → IsSome old.failed
  pub marked : r ≡ Some upkeep.TraceFull → new ≡ record old { journal = record old.journal { marks = record old.journal.marks { trace = true } } }
  pub memory : r ≡ Some upkeep.Memory → new ≡ old
  pub never : (r ≢ Some upkeep.Done) × (r ≢ Some upkeep.LogFull) × (r ≢ Some upkeep.DiskFault)
  pub told : (pass : ℕ) → r ≡ Some (upkeep.Busy pass) → new ≡ record old { journal = with_upkeep slots old.journal (TurnBusy pass) }
  pub free : r ≡ None → OnlyTakesRoom old new

module _ {D : Type 0} (faults : D → ℕ) (slots : ℕ) (old new : LoggedView D) where
  -- it took room at most
  took-room : IsChronicle slots old → OnlyTakesRoom old new → Kept slots old new None no_mark
  took-room before is =
      kept-still slots old new no_mark before
      (stays-by old new (record old.journal { reserved = new.journal.reserved }) (ap (λ (v : LoggedView D). v.journal) is) refl refl refl refl (ap (λ (v : LoggedView D). v.opened) is) (ap (λ (v : LoggedView D). failed_commit v) is))
      (marks-same old new (ap (λ (v : LoggedView D). count_failed v) is) (ap (λ (v : LoggedView D). v.journal.marks.trace) is) (ap (λ (v : LoggedView D). v.log_full) is))

  took-none : new ≡ old → OnlyTakesRoom old new
  took-none is = rw is refl

  stopped-so : (u : Upkeep) (o : Option FailedCall) → IfSome o (λ f. (Some u ≡ Some (upkeep.Stopped f.faults)) × (new ≡ old)) → IfSome o (λ f. (u ≡ upkeep.Stopped f.faults) × (new ≡ old))
  stopped-so u None is = is
  stopped-so u (Some f) is = (let e = is.0 in cc (e), is.1)

  pub refused : (r : Option Upkeep) → Refused slots old new r → Kept slots old new (entered_by_refusal r) (marked_by_refusal r)
  refused None a = took-room a.before (a.free refl)
  refused (Some u) a =
      upkept faults slots old new u
      (record {
        own = a.own;
        owned = a.owned;
        before = a.before;
        stopped = stopped-so u old.failed a.stopped;
        only_stopped = λ n is. a.only_stopped n (ap Some is);
        marked = λ is. a.marked (ap Some is);
        log_marked = λ is. absurd (a.never.1 (ap Some is));
        memory = λ is. took-none (a.memory (ap Some is));
        done = λ is. absurd (a.never.0 (ap Some is));
        told = λ pass is. a.told pass (ap Some is);
        fault = λ is. absurd (a.never.2 (ap Some is));
      })

  -- a page's cleaning is refused because the store is stopped or the history full, or may be tried
  pub clean-refused : (r : Option Upkeep) → IsChronicle slots old → IfSome old.failed (λ f. (r ≡ Some (upkeep.Stopped f.faults)) × (new ≡ old))
      → (old.failed ≡ None → is_past_limit old.journal 1 ≡ true → (r ≡ Some upkeep.TraceFull) × (new ≡ record old { journal = record old.journal { marks = record old.journal.marks { trace = true } } }))
      → (old.failed ≡ None → is_past_limit old.journal 1 ≡ false → (r ≡ None) × OnlyTakesRoom old new)
      → Kept slots old new None (marked_by_refusal r)
  clean-refused r before stopped full free = by old.failed refl stopped (is_past_limit old.journal 1) refl
    where
      by : (o : Option FailedCall) → old.failed ≡ o → IfSome o (λ f. (r ≡ Some (upkeep.Stopped f.faults)) × (new ≡ old)) → (past : Bool) → is_past_limit old.journal 1 ≡ past → Kept slots old new None (marked_by_refusal r)
      by (Some f) e is past p =
          subst (λ (x : Option Upkeep). Kept slots old new None (marked_by_refusal x)) (sym is.0)
          (kept-still slots old new disk_mark before (stays-same old new is.1)
          (marks-disk old new f (ap (λ (v : LoggedView D). v.failed) is.1 ∙ e) (inr (sym (ap (λ (v : LoggedView D). v.failed) is.1))) (ap (λ (v : LoggedView D). v.journal.marks.trace) is.1) (ap (λ (v : LoggedView D). v.log_full) is.1)))
      by None e is true p =
          let so = full e p in
          subst (λ (x : Option Upkeep). Kept slots old new None (marked_by_refusal x)) (sym so.0)
          (kept-still slots old new trace_mark before
          (stays-by old new (record old.journal { marks = record old.journal.marks { trace = true } }) (ap (λ (v : LoggedView D). v.journal) so.1) refl refl refl refl (ap (λ (v : LoggedView D). v.opened) so.1) (ap (λ (v : LoggedView D). failed_commit v) so.1))
          (marks-trace old new (ap (λ (v : LoggedView D). count_failed v) so.1) (ap (λ (v : LoggedView D). v.journal.marks.trace) so.1) (ap (λ (v : LoggedView D). v.log_full) so.1)))
      by None e is false p =
          let so = free e p in
          subst (λ (x : Option Upkeep). Kept slots old new None (marked_by_refusal x)) (sym so.0) (took-room before so.1)
