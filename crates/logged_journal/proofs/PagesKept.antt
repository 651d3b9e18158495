-- What the images of a disk tell of pages, where a journal's log stands on it.
use Rattle.std.proofs.Common.{◌≡◌, inl, ℕ, ◌+◌, ◌*◌, ◌<◌, ◌≤◌, true, false, List, [], ◌∷◌, ◌++◌, length, drop, take-append-drop, Option, Some, None, Result, Ok, Err, sym, ◌∙◌, ap, subst, arith}
use Rattle.std.specs.Prelude.{IfSome, IfErr, is_err}
use Rattle.disk_model.specs.Causes.{Rose}
use Rattle.page_area.specs.declared.refusal.PageRefusal.{PageRefusal}
use Rattle.page_area.specs.declared.refusal.PageRefusal.TheVariants.{Disk}
use Rattle.page_area.specs.Place.{HasDiskCause}
use Rattle.std.proofs.Math.Nat.{mul-le-mul_left}
use Rattle.std.specs.List.{AllByRecursion}
use Rattle.std.proofs.lemmas.List.{append-nil}
use Rattle.disk_model.specs.declared.area.Area.{Area}
use Rattle.disk_model.specs.declared.area.Area.TheVariants.{Pages, Super}
use Rattle.disk_model.specs.Areas.{Bytes, in_area}
use Rattle.disk_model.specs.Told.{EachImage}
use Rattle.disk_model.specs.Time.{LeavesOnlyImages}
use Rattle.disk_model.proofs.Moments.{weaken}
use Rattle.cell_model.specs.Records.{AllFit}
use Rattle.cell_model.specs.Consistent.{AreConsistent}
use Rattle.cell_page.specs.declared.cell.Cell.{Cell as PageCell}
use Rattle.cell_page.specs.Format.{AreTyped, page_bytes, page_size}
use Rattle.cell_page.specs.Stored.{HoldsPage}
use Rattle.gate_log.specs.Batches.{IsLog, most_bytes}
use Rattle.log_record.specs.declared.record.Record.{Record}
use Rattle.page_area.specs.InPlace.{AreTorn, HasTornPages, HasCopy}
use Rattle.opened_images.specs.LogRecords.{body_of, bodies_of, all_of, first_records}
use Rattle.opened_images.specs.WithImages.{MakesCells, is_imaged}
use Rattle.opened_images.specs.Marks.{is_changed, is_current, StandsInPlace}
use Rattle.opened_images.proofs.ImagesInLog.{no_bytes_no_records}
use Rattle.opened_images.proofs.Checkpoints.{copied}
use Rattle.opened_images.proofs.Marks.{unchanged}
use Rattle.page_marks.specs.declared.marks.PageMark.{PageMark}
use Rattle.page_marks.specs.Marks.{unmarked, AreMarks}
use Rattle.core_store.specs.declared.note.Note.{Note}
use Rattle.core_store.specs.JournalView.{JournalView, cells_of, cells_after_notes, logged_in}
use Rattle.core_store.specs.Spelled.{IsOfIds}
use Rattle.logged_journal.specs.View.{LoggedView, mark_at}
use Rattle.logged_journal.specs.Records.{HaveMarked, durable_notes, durable, MayHaveAll}
use Rattle.logged_journal.specs.Kept.{IsKept, IsStanding}
use Rattle.logged_journal.specs.Upkeep.{HasImage}
use Rattle.logged_journal.proofs.ImagesOpen.{TellsItself, first-facts}
use Rattle.logged_journal.proofs.PagesInLog.{FitStore, makes-own, current-imaged, last-is-frame}
use Rattle.logged_journal.proofs.Upkeeps.{has-log, torn-marked}

-- ---- what a journal tells of its records

pub fit-store : (slots : ℕ) (j : JournalView) (pages : ℕ) → TellsItself slots j → j.history.slots ≡ slots → j.history.ids ≡ 8 * pages → FitStore j.history.slots pages j.opening j.notes
fit-store slots j pages t own ids =
    let facts = first-facts slots j j.notes [] t (sym (append-nil j.notes)) in
    let known : FitStore slots pages j.opening j.notes =
    record {
      size = facts.size;
      after = subst (λ (n : ℕ). AreConsistent slots n (cells_after_notes slots j.opening j.notes)) ids facts.after;
      spelled = facts.spelled;
      of_ids = subst (λ (n : ℕ). AllByRecursion (λ (n' : Note). IfSome n'.logged (IsOfIds n)) j.notes) ids facts.of_ids;
      typed = facts.typed;
      fit = subst (λ (s : ℕ). AllFit s j.opening (logged_in j.notes)) own t.safe.fit;
      fit_unended = t.safe.fit_unended;
    } in
    subst (λ (s : ℕ). FitStore s pages j.opening j.notes) (sym own) known

-- ---- marks

pub mark-current : {slots : ℕ} (rs : List (Record slots)) (marks : List PageMark) (page : ℕ) → AreMarks rs marks → page < length marks → (mark_at marks page).current ≡ true → is_current page rs ≡ true
mark-current rs marks page are low is = sym (ap (λ (m : PageMark). m.current) (are page unmarked low)) ∙ is

pub mark-changed : {slots : ℕ} (rs : List (Record slots)) (marks : List PageMark) (page : ℕ) → AreMarks rs marks → page < length marks → (mark_at marks page).changed ≡ false → is_changed page rs ≡ false
mark-changed rs marks page are low is = sym (ap (λ (m : PageMark). m.changed) (are page unmarked low)) ∙ is

module _ {D : Type 0} (may_leave : D → Area → List ℕ → Type 0) (v : LoggedView D) (kept : IsKept may_leave v) (stands : IsStanding may_leave v) where
  -- a page of the store has a mark
  pub low-mark : (page : ℕ) → 8 * page < v.journal.history.ids → (page < length v.marks) × (page < stands.pages)
  low-mark page there = let many = kept.many in let ids = stands.ids in (omega (arith, there, many), omega (arith, there, ids))

  -- an empty tail has no records
  pub no-tail : v.log.tail ≡ [] → stands.records.rs ≡ []
  no-tail empty = no_bytes_no_records stands.records.rs (sym stands.records.behind.are ∙ empty)

  module _ (page : ℕ) (there : 8 * page < v.journal.history.ids) (is : (mark_at v.marks page).current ≡ true) (empty : v.log.tail ≡ []) where
    -- among the records of the log its last image is current
    pub log-current : (area : List ℕ) (may : may_leave v.disk Pages area) → is_current page (all_of ((stands.records.hold area may).have.earlier ++ (stands.records.hold area may).have.parts)) ≡ true
    log-current area may =
        let h = stands.records.hold area may in
        let all = all_of (h.have.earlier ++ h.have.parts) in
        subst (λ (l : List (Record v.journal.history.slots)). is_current page l ≡ true) (ap (λ (l : List (Record v.journal.history.slots)). all ++ l) (no-tail empty) ∙ append-nil all)
        (mark-current (all ++ stands.records.rs) v.marks page h.marked (low-mark page there).0 is)

    pub log-imaged : (area : List ℕ) (may : may_leave v.disk Pages area) → is_imaged page (all_of ((stands.records.hold area may).have.earlier ++ (stands.records.hold area may).have.parts)) ≡ true
    log-imaged area may = current-imaged page (all_of ((stands.records.hold area may).have.earlier ++ (stands.records.hold area may).have.parts)) (log-current area may)

    -- and no other page is among these
    pub one-imaged : (area : List ℕ) (may : may_leave v.disk Pages area) (other : ℕ) → page ≤ other → other < page + 1 → is_imaged other (all_of ((stands.records.hold area may).have.earlier ++ (stands.records.hold area may).have.parts)) ≡ true
    one-imaged area may other low high =
        let same : page ≡ other = omega (arith, low, high) in
        subst (λ (p : ℕ). is_imaged p (all_of ((stands.records.hold area may).have.earlier ++ (stands.records.hold area may).have.parts)) ≡ true) same (log-imaged area may)

module _ {D : Type 0} (may_leave : D → Area → List ℕ → Type 0) (slots : ℕ) (v : LoggedView D) (kept : IsKept may_leave v) (stands : IsStanding may_leave v) (tells : TellsItself slots v.journal) (own : v.journal.history.slots ≡ slots) where
  -- the log and the tail make the cells as they are
  pub makes-cells : (area : List ℕ) (may : may_leave v.disk Pages area)
      → MakesCells stands.pages area (all_of ((stands.records.hold area may).have.earlier ++ (stands.records.hold area may).have.parts) ++ stands.records.rs) (cells_of v.journal)
  makes-cells area may =
      let j = v.journal in
      let s = j.history.slots in
      let h = stands.records.hold area may in
      let all = take-append-drop v.durable j.notes in
      subst (λ (ns : List Note). MakesCells stands.pages area (all_of (h.have.earlier ++ h.have.parts) ++ stands.records.rs) (cells_after_notes s j.opening ns)) all
      (makes-own s stands.pages j.opening area (durable_notes v) (drop v.durable j.notes) stands.batches stands.records.rs v.log.tail h.have stands.records.behind
      (subst (λ (ns : List Note). FitStore s stands.pages j.opening ns) (sym all) (fit-store slots j stands.pages tells own stands.ids)))

  -- ---- a page that isn't marked as changed

  pub stands-unchanged : (page : ℕ) → 8 * page < v.journal.history.ids → (mark_at v.marks page).changed ≡ false → (area : List ℕ) → may_leave v.disk Pages area → StandsInPlace slots area (cells_of v.journal) page
  stands-unchanged page there is area may =
      let h = stands.records.hold area may in
      let rs = all_of (h.have.earlier ++ h.have.parts) ++ stands.records.rs in
      let low = low-mark may_leave v kept stands page there in
      subst (λ (s : ℕ). StandsInPlace s area (cells_of v.journal) page) own
      (unchanged v.journal.history.slots stands.pages page area rs (cells_of v.journal) (makes-cells area may) low.1 (mark-changed rs v.marks page h.marked low.0 is))

  -- ---- a page whose image is current

  module _ (page : ℕ) (there : 8 * page < v.journal.history.ids) (is : (mark_at v.marks page).current ≡ true) (empty : v.log.tail ≡ []) where
    -- each image of the disk has the frame as the last image of the page
    image-own : (frame : List (PageCell v.journal.history.slots)) → AreTyped frame → HoldsPage (cells_of v.journal) page frame → EachImage may_leave v.disk (HasImage page frame)
    image-own frame typed holds image may =
        let s = v.journal.history.slots in
        let h = stands.records.hold image.pages (may Pages) in
        let have = h.have in
        let batches : List (List (Record s)) = have.earlier ++ have.parts in
        let all = all_of batches in
        let makes : MakesCells stands.pages image.pages all (cells_of v.journal) =
        subst (λ (l : List (Record s)). MakesCells stands.pages image.pages l (cells_of v.journal)) (ap (λ (l : List (Record s)). all ++ l) (no-tail may_leave v kept stands empty) ∙ append-nil all) (makes-cells image.pages (may Pages)) in
        let bounded = stands.bounded in
        let log = has-log may_leave v.log v.disk stands.batches stands.on (omega (arith, bounded)) image (may Super) (may v.log.area) in
        let is_log : IsLog most_bytes (body_of (first_records s stands.pages) ∷ bodies_of batches) (in_area image log.area) = subst (λ (bs : List (List ℕ)). IsLog most_bytes bs (in_area image log.area)) have.are log.log in
        let read = have.began.read in
        record {
          area = log.area;
          pages = stands.pages;
          batches = batches;
          read = record {
            named = log.named;
            log = record {
              batches_are = record { some = read.some; few = read.few; bodies = is_log.bodies.1; spelled = makes.spelled; fit = makes.fit_log };
              log = is_log;
            };
          };
          last = last-is-frame s stands.pages page image.pages all (cells_of v.journal) frame makes (low-mark may_leave v kept stands page there).1 (log-current may_leave v kept stands page there is empty image.pages (may Pages)) typed holds;
        }

    pub image-has : (frame : List (PageCell slots)) → AreTyped frame → HoldsPage (cells_of v.journal) page frame → EachImage may_leave v.disk (HasImage page frame)
    image-has = subst (λ (s : ℕ). (frame : List (PageCell s)) → AreTyped frame → HoldsPage (cells_of v.journal) page frame → EachImage may_leave v.disk (HasImage page frame)) own image-own

-- so each image has a copy of it
pub image-copied : {slots : ℕ} (page : ℕ) (frame : List (PageCell slots)) (image : Bytes) → HasImage page frame image → HasCopy slots page (page_bytes frame) image
image-copied {slots} page frame image has = copied slots has.pages page image has.area has.batches frame has.read has.last

-- ---- pages with images are written in place

module _ {D : Type 0} (may_leave : D → Area → List ℕ → Type 0) (slots : ℕ) (v : LoggedView D) (stands : IsStanding may_leave v) (own : v.journal.history.slots ≡ slots) («first» count : ℕ)
    (imaged : (was : List ℕ) (may : may_leave v.disk Pages was) (page : ℕ) → «first» ≤ page → page < «first» + count → is_imaged page (all_of ((stands.records.hold was may).have.earlier ++ (stands.records.hold was may).have.parts)) ≡ true) where
  -- any bytes in them leave the log's records and the marks
  pub torn-holds : (was area : List ℕ) → may_leave v.disk Pages was → AreTorn slots «first» count was area → HaveMarked stands.pages v.journal.opening area (durable_notes v) stands.batches stands.records.rs v.marks
  torn-holds was area may torn =
      torn-marked may_leave stands.pages v.journal.opening (durable_notes v) stands.batches stands.records.rs v.marks «first» count was area (stands.records.hold was may) (stands.long was may) (imaged was may)
      (subst (λ (s : ℕ). AreTorn s «first» count was area) (sym own) torn)

  pub torn-image : (image : Bytes) → HasTornPages may_leave v.disk slots «first» count image → MayHaveAll v image
  torn-image image has =
      let bounded = stands.bounded in
      let was = has.here in
      inl (durable (record {
        batches = stands.batches;
        log = has-log may_leave v.log v.disk stands.batches stands.on (omega (arith, bounded)) image (has.others Super (λ e. cc (e))) (has.others v.log.area (λ e. Rattle.logged_journal.proofs.Commits.pages-apart v.log.area stands.on.area (sym e)));
        hold = (stands.pages, stands.ids, (torn-holds was.0 image.pages was.1 was.2).have);
      }))

  pub torn-moments : (moment : D → ℕ) (left_since : D → ℕ → Bytes → Type 0) (now : D) → LeavesOnlyImages moment left_since v.disk now (HasTornPages may_leave v.disk slots «first» count) → LeavesOnlyImages moment left_since v.disk now (MayHaveAll v)
  torn-moments moment left_since now run = weaken (MayHaveAll v) torn-image run

-- the pages area reaches to a page of the store
pub reaches-page : {D : Type 0} (may_leave : D → Area → List ℕ → Type 0) (slots : ℕ) (v : LoggedView D) (stands : IsStanding may_leave v) → v.journal.history.slots ≡ slots → (page : ℕ) → 8 * page < v.journal.history.ids
    → (o : Option (List ℕ)) → IfSome o (may_leave v.disk Pages) → IfSome o (λ area. page_size slots * page ≤ length area)
reaches-page may_leave slots v stands own page there None may = tt
reaches-page may_leave slots v stands own page there (Some area) may =
    let long : page_size slots * stands.pages ≤ length area = subst (λ (s : ℕ). page_size s * stands.pages ≤ length area) own (stands.long area may) in
    let ids = stands.ids in
    let low : page ≤ stands.pages = omega (arith, there, ids) in
    let less : page_size slots * page ≤ page_size slots * stands.pages = mul-le-mul_left (page_size slots) low in
    omega (arith, long, less)

-- one that was done left it
pub written-kept : {T : Type 0} (r : Result T PageRefusal) (before now : ℕ) → is_err r ≡ false → HasDiskCause before now r → now ≡ before
written-kept (Ok x) before now is cause = cause.kept (λ e. cc)
written-kept (Err e) before now is cause = absurd (cc (is))

-- a write that failed raised the count of faults
pub written-faults : {T : Type 0} (r : Result T PageRefusal) (before now : ℕ) → IfErr r (λ e. e ≡ Disk) → HasDiskCause before now r → is_err r ≡ true → Rose before now
written-faults (Ok x) before now only cause is = absurd (cc (is))
written-faults {T} (Err e) before now only cause is = cause.failed (ap (λ (x : PageRefusal). let r : Result T PageRefusal = Err x in r) only)
