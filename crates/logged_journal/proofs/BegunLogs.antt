-- What a journal with its log keeps when its store has just opened.
use Rattle.std.proofs.Common.{◌≡◌, ℕ, ◌+◌, ◌*◌, ◌≤◌, max, false, List, [], length, map, None, sym, ◌∙◌, ap, subst, arith}
use Rattle.cell_model.specs.Consistent.{AreConsistent}
use Rattle.cell_page.specs.Format.{page_size}
use Rattle.disk_model.specs.declared.area.Area.{Area}
use Rattle.disk_model.specs.declared.area.Area.TheVariants.{Pages, Super}
use Rattle.disk_model.specs.Areas.{in_area}
use Rattle.disk_model.specs.Told.{Leaves}
use Rattle.plain_model.specs.declared.calls.Entry.{Entry}
use Rattle.plain_model.specs.History.{History, start_of, moment_after, end_of}
use Rattle.gate_log.specs.declared.stage.Stage.TheVariants.{Standing}
use Rattle.gate_log.specs.Batches.{most_bytes, IsLog}
use Rattle.gate_log.specs.State.{LogState, used}
use Rattle.gate_log.specs.OnDisk.{IsOn}
use Rattle.page_marks.specs.declared.marks.PageMark.{PageMark}
use Rattle.core_store.specs.declared.note.Note.{Note}
use Rattle.core_store.specs.JournalView.{JournalView, cells_after_notes}
use Rattle.core_store.specs.Owed.{bytes_owed}
use Rattle.core_store.specs.Safe.{AreEntries, IsSafe, IsDurable}
use Rattle.core_store.proofs.SafeLaws.{durable-all}
use Rattle.logged_journal.specs.View.{LoggedView}
use Rattle.logged_journal.specs.Records.{AreTypedNotes, OpenedWith, HaveMarked, durable}
use Rattle.logged_journal.specs.Kept.{IsKept}
use Rattle.logged_journal.proofs.HeldRecords.{tail-empty, opened-records}

-- the view of one
abbrev pub begun_view : {D : Type 0} → JournalView → LogState → D → List PageMark → ℕ → ℕ → LoggedView D
begun_view j log disk marks count opened = record { journal = j; log = log; disk = disk; durable = count; marks = marks; failed = None; log_full = false; peak = used log; opened = opened }

-- where nothing happened nobody owes bytes
owes-none : (h : History) → h.entries ≡ [] → bytes_owed (end_of h) ≡ 0
owes-none h none = ap (λ (es : List Entry). bytes_owed (moment_after (start_of h) es)) none

module _ {D : Type 0} (may_leave : D → Area → List ℕ → Type 0) (known : ℕ) where
  -- so it is where no notes are durable
  by-none : (j : JournalView) (log : LogState) (disk : D) (marks : List PageMark) (batches : List (List ℕ)) (opened : ℕ) → j.history.ids ≡ 8 * length marks → AreConsistent known j.history.ids j.opening → j.notes ≡ [] → AreEntries j → IsSafe j → log.stage ≡ Standing → log.tail ≡ [] → used log ≤ most_bytes
      → IsOn may_leave log disk batches → Leaves may_leave disk Pages (λ area. OpenedWith j area batches marks) → Leaves may_leave disk Pages (λ area. page_size j.history.slots * length marks ≤ length area) → IsKept may_leave (begun_view j log disk marks 0 opened)
  by-none j log disk marks batches opened ids sound notes entries safe stage tail bounded on begun long =
      let pages = length marks in
      let hold : Leaves may_leave disk Pages (λ area. HaveMarked {slots = j.history.slots} pages j.opening area [] batches [] marks) = λ area may. opened-records known j pages area batches marks ids sound (begun area may) in
      let owed : bytes_owed (end_of j.history) ≡ 0 = owes-none j.history (sym entries ∙ ap (λ (l : List Note). map (λ n. n.entry) l) notes) in
      let empty = ap (λ (l : List ℕ). length l) tail in
      let short : max most_bytes (log.durable + 1) ≡ most_bytes = omega (arith, bounded) in
      record {
        standing = λ running. record {
          stage = stage;
          batches = batches;
          on = on;
          pages = pages;
          ids = ids;
          records = record { rs = []; behind = tail-empty j.history.slots pages (cells_after_notes j.history.slots j.opening []) j.notes log.tail notes tail; hold = hold };
          long = long;
          room = omega (arith, owed);
          bounded = omega (arith, owed, bounded);
          peak = omega (arith, owed);
        };
        inside = omega (arith);
        many = ids;
        lasting = subst (λ (l : List Note). IsDurable j l) notes (durable-all j entries safe);
        images = λ image may. durable (record {
          batches = batches;
          log = record { area = log.area; named = on.named image.super_area (may Super); log = subst (λ (most : ℕ). IsLog most batches (in_area image log.area)) short (on.logs (in_area image log.area) (may log.area)) };
          hold = (pages, ids, (hold image.pages (may Pages)).have);
        });
        granted = tt;
        typed = subst AreTypedNotes (sym notes) tt;
        full = λ is. absurd (cc (is));
      }

  pub kept-begun : (j : JournalView) (log : LogState) (disk : D) (marks : List PageMark) (batches : List (List ℕ)) (count opened peak : ℕ) → j.history.ids ≡ 8 * length marks → AreConsistent known j.history.ids j.opening → j.notes ≡ [] → AreEntries j → IsSafe j → log.stage ≡ Standing → log.tail ≡ [] → used log ≤ most_bytes
      → IsOn may_leave log disk batches → Leaves may_leave disk Pages (λ area. OpenedWith j area batches marks) → Leaves may_leave disk Pages (λ area. page_size j.history.slots * length marks ≤ length area)
      → count ≡ 0 → peak ≡ used log → IsKept may_leave (record (begun_view j log disk marks count opened) { peak = peak })
  kept-begun j log disk marks batches count opened peak ids sound notes entries safe stage tail bounded on begun long none is =
      subst (λ (p : ℕ). IsKept may_leave (record (begun_view j log disk marks count opened) { peak = p })) (sym is)
      (subst (λ (n : ℕ). IsKept may_leave (begun_view j log disk marks n opened)) (sym none) (by-none j log disk marks batches opened ids sound notes entries safe stage tail bounded on begun long))
