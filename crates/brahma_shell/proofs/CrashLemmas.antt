-- What a loss of power leaves of a disk that tells what it reads.
use Rattle.std.proofs.Common.{◌≡◌, ◌⊎◌, ⊎_elim, ℕ, ◌+◌, ◌-◌, ◌≤◌, List, [], length, Option, Some, None, Result, Ok, Err, refl, sym, ap, subst, ◌∙◌, arith, true, false, Bool}
use Rattle.std.specs.Prelude.{IsSome, IfSome, IfOk, IfErr, OnOk, OnErr, is_err, codes}
use Rattle.std.specs.Io.KnownBytes.{Appends}
use Rattle.disk_model.specs.Causes.{Rose}
use Rattle.disk_model.specs.Told.{KeepsAll}
use Rattle.store_opening.specs.declared.open_refusal.OpenRefusal.{OpenRefusal}
use Rattle.store_opening.specs.declared.open_refusal.OpenRefusal.TheVariants as refusal
use Rattle.store_opening.specs.declared.open_refusal.Place.TheVariants as place
use Rattle.store_opening.specs.Store.{Refuses}
use Rattle.journal_opening.specs.Openings.{OpensAs, RefusesToOpen, OpensMeanwhile, HasFault}
use Rattle.core_store.specs.Opening.{opened_history}
use Rattle.plain_model.specs.declared.calls.Call.TheVariants.{Commit}
use Rattle.plain_model.specs.declared.calls.Reply.TheVariants.{DiskFault}
use Rattle.plain_model.specs.declared.calls.Entry.TheVariants.{Call}
use Rattle.plain_model.specs.History.{with_entry}
use Rattle.std.specs.Option.{option_map_or}
use Rattle.logged_journal.specs.View.{LoggedView, failed_commit, history_of}
use Rattle.script_lines.specs.Output.{AppendsFront, EndsWith, crash_line, open_refusal_line}
use Rattle.brahma_shell.specs.declared.ended.Ended.{Ended}
use Rattle.brahma_shell.specs.declared.ended.Ended.TheVariants.{Shut, Kept}
use Rattle.brahma_shell.specs.Top.{IsJustOpened, IsOfReplay, status_of_refusal}
use Rattle.brahma_shell.specs.Crashes.{reopened_line, Reopens, StaysShut, StopsCrash, shut, unwritten}
use Rattle.plain_model.specs.History.{History, end_of, IsCrashConsistent}
use Rattle.cell_model.specs.Cells.{Cell}
use Rattle.cell_model.specs.Graph.{graph_of}
use Rattle.cell_page.specs.Format.{IsSlotCount}
use Rattle.disk_model.specs.declared.area.Area.{Area}
use Rattle.disk_model.specs.declared.area.Area.TheVariants.{Pages, LogA, LogB, Super}
use Rattle.disk_model.specs.Areas.{Bytes, in_area}
use Rattle.disk_model.specs.Told.{LeavesOne, IsImage, EachImage}
use Rattle.opened_images.specs.Opened.{Opened, OpensTo}
use Rattle.opened_images.proofs.OneOutcome.{one_outcome}
use Rattle.store_opening.specs.Store.{Reads}
use Rattle.journal_opening.specs.Openings.{ReadsAs}
use Rattle.logged_journal.specs.Opens.{OpensAfter}
use Rattle.brahma_shell.specs.Top.{Tell}
use Rattle.script_lines.specs.Numbers.{object_slots}

told : (o : Option (List ℕ)) (P : Type 0) → IsSome o → IfSome o (λ _. P) → P
told None P some h = absurd (cc (some))
told (Some c) P some h = h

got : (o : Option (List ℕ)) → IsSome o → (c : List ℕ) × (o ≡ Some c)
got None some = absurd (cc (some))
got (Some c) some = (c, refl)

same-some : (a b : List ℕ) → Some a ≡ Some b → a ≡ b
same-some a b e = cc (e)

same-cells : (a b : List Cell) → OpensTo a ≡ OpensTo b → a ≡ b
same-cells a b e = cc (e)

module _ {D : Type 0} (content : D → Area → Option (List ℕ)) (tell : Tell content) where
  -- it reads four areas
  pub read-image : (disk : D) → (image : Bytes) × Reads content disk image
  read-image disk =
      let pages = got (content disk Pages) (tell disk Pages) in
      let log_a = got (content disk LogA) (tell disk LogA) in
      let log_b = got (content disk LogB) (tell disk LogB) in
      let super_area = got (content disk Super) (tell disk Super) in
      let image : Bytes = record { pages = pages.0; log_a = log_a.0; log_b = log_b.0; super_area = super_area.0 } in
      (image, all image pages.1 log_a.1 log_b.1 super_area.1)
    where
      all : (image : Bytes) → content disk Pages ≡ Some image.pages → content disk LogA ≡ Some image.log_a → content disk LogB ≡ Some image.log_b → content disk Super ≡ Some image.super_area → Reads content disk image
      all image p a b s Pages = p
      all image p a b s LogA = a
      all image p a b s LogB = b
      all image p a b s Super = s

  module _ (may_leave : D → Area → List ℕ → Type 0) (old new : D) (lost : LeavesOne content may_leave old new) where
    -- what it reads afterwards is an image of before
    pub read-before : (image : Bytes) → Reads content new image → IsImage may_leave old image
    read-before image reads area =
        let one = told (content old area) _ (tell old area) (lost area) in
        subst (may_leave old area) (same-some one.0 (in_area image area) (sym one.1 ∙ reads area)) one.2

    -- so where each image of before opens after this history, it opens to a graph that a crash may leave
    pub reopened-safe : (h : History) (cells : List Cell) → IsSlotCount object_slots → EachImage may_leave old (OpensAfter object_slots h) → ReadsAs content object_slots new cells → IsCrashConsistent (end_of h) (graph_of cells)
    reopened-safe h cells size opens holds =
        let read = read-image new in
        let after = opens read.0 (read-before read.0 read.1) in
        let same = same-cells after.cells cells (one_outcome size read.0 (OpensTo after.cells) (OpensTo cells) after.opened (holds read.0 read.1)) in
        subst (λ (cs : List Cell). IsCrashConsistent (end_of h) (graph_of cs)) same after.graph

    -- what the disk read at first opens to the same cells, and so does whatever else it may leave while it is opened
    pub images-after : (h : History) (now : D) (moment : D → ℕ) (left_since : D → ℕ → Bytes → Type 0)
        → ((disk : D) (t : ℕ) (b : Bytes) → t ≤ moment disk → IsImage may_leave disk b → left_since disk t b)
        → EachImage may_leave old (OpensAfter object_slots h) → OpensMeanwhile content may_leave moment left_since object_slots new now → EachImage may_leave now (OpensAfter object_slots h)
    images-after h now moment left_since counts opens meanwhile image is =
        let read = read-image new in
        let after = opens read.0 (read-before read.0 read.1) in
        let leaves = meanwhile after.cells read.0 read.1 after.opened in
        ⊎_elim
        (λ before. opens image (before-loss image before))
        (λ same. record { cells = after.cells; opened = same; size = after.size; graph = after.graph })
        (leaves.each image (counts now (moment new) image leaves.later is))
      where
        before-loss : (image : Bytes) → IsImage may_leave new image → IsImage may_leave old image
        before-loss image is area =
            let one = told (content old area) _ (tell old area) (lost area) in
            subst (may_leave old area) (sym (one.3 (in_area image area) (is area))) one.2

    -- a store that opens is refused for want of memory, or since the disk failed
    pub never-refused : (h : History) (e : OpenRefusal) → IsSlotCount object_slots → EachImage may_leave old (OpensAfter object_slots h) → ((image : Bytes) → Reads content new image → Refuses object_slots image e) → status_of_refusal e ≡ 7 → ⊥
    never-refused h e size opens refused is =
        let read = read-image new in
        let after = opens read.0 (read-before read.0 read.1) in
        none e read.0 after.cells after.opened (refused read.0 read.1) is
      where
        none : (e : OpenRefusal) (image : Bytes) (cells : List Cell) → Opened object_slots image (OpensTo cells) → Refuses object_slots image e → status_of_refusal e ≡ 7 → ⊥
        none refusal.Disk image cells o r is = absurd (omega (arith, is))
        none (refusal.Damaged place.LogA at) image cells o r is = let e = one_outcome size image _ _ o r in absurd (cc (e))
        none (refusal.Damaged place.LogB at) image cells o r is = let e = one_outcome size image _ _ o r in absurd (cc (e))
        none (refusal.Damaged (place.Page page) at) image cells o r is = let e = one_outcome size image _ _ o r in absurd (cc (e))
        none refusal.NoStore image cells o r is = let e = one_outcome size image _ _ o r in absurd (cc (e))
        none (refusal.UnknownVersion byte) image cells o r is = let e = one_outcome size image _ _ o r in absurd (cc (e))
        none (refusal.Unsound id rule) image cells o r is = let e = one_outcome size image _ _ o r in absurd (cc (e))
        none refusal.Memory image cells o r is = absurd (omega (arith, is))
        none refusal.LogFull image cells o r is = absurd (omega (arith, is))

    -- a store that is opened again has as many ids as before
    pub same-size : (h : History) (cells : List Cell) → IsSlotCount object_slots → EachImage may_leave old (OpensAfter object_slots h) → ReadsAs content object_slots new cells → length cells ≡ h.ids + 1
    same-size h cells size opens holds =
        let read = read-image new in
        let after = opens read.0 (read-before read.0 read.1) in
        let same = same-cells after.cells cells (one_outcome size read.0 (OpensTo after.cells) (OpensTo cells) after.opened (holds read.0 read.1)) in
        subst (λ (cs : List Cell). length cs ≡ h.ids + 1) same after.size

-- ---- what a call answered

pub on-ok : {T E : Type 0} {P : Type 0} (r : Result T E) (b : Bool) → b ≡ is_err r → b ≡ false → OnOk r P → P
on-ok (Ok x) b e f h = h
on-ok (Err x) b e f h = absurd (cc)

pub on-err : {T E : Type 0} {P : Type 0} (r : Result T E) (b : Bool) → b ≡ is_err r → b ≡ true → OnErr r P → P
on-err (Ok x) b e f h = absurd (cc)
on-err (Err x) b e f h = h

pub if-ok : {T E : Type 0} (r : Result T E) (P Q : T → Type 0) → ((x : T) → P x → Q x) → IfOk r P → IfOk r Q
if-ok (Ok x) P Q f h = f x h
if-ok (Err e) P Q f h = tt

pub if-err : {T E : Type 0} (r : Result T E) (P Q R S : E → Type 0) → ((x : E) → P x → Q x → R x → S x) → IfErr r P → IfErr r Q → IfErr r R → IfErr r S
if-err (Ok x) P Q R S f p q r = tt
if-err (Err e) P Q R S f p q r = f e p q r

-- ---- a store that is opened again

-- a commit that the disk failed leaves the number of ids
pub history-ids : {D : Type 0} (v : LoggedView D) → (history_of v).ids ≡ v.journal.history.ids
history-ids v = cases (failed_commit v)
  where
    cases : (o : Option ℕ) → (option_map_or (λ client. with_entry v.journal.history (Call client Commit DiskFault)) o v.journal.history).ids ≡ v.journal.history.ids
    cases None = refl
    cases (Some f) = refl

-- the journal is that of the opening
pub just-opened : {D : Type 0} (content : D → Area → Option (List ℕ)) (faults : D → ℕ) (disk : D) (v : LoggedView D) → OpensAs content faults object_slots disk (record { trace = 1048576; log = 1071644672 }) v → IsJustOpened v
just-opened content faults disk v o =
    let ids : v.journal.history.ids ≡ length v.journal.opening - 1 = ap (λ (h : History). h.ids) o.history in
    let entries : v.journal.history.entries ≡ [] = ap (λ (h : History). h.entries) o.history in
    record {
      store = record {
        history = o.history ∙ ap (λ (n : ℕ). opened_history object_slots n v.journal.opening) (sym ids) ∙ ap (λ es. record (opened_history object_slots v.journal.history.ids v.journal.opening) { entries = es }) (sym entries);
        limits = o.limits;
      };
      entries = entries;
      notes = o.notes.0;
      unmarked = ap (λ m. m.trace) o.unmarked.0;
      log_unmarked = o.unmarked.1;
      running = o.running;
      size = ids;
    }

-- its line tells what is stored
pub stored-opening : {D : Type 0} (v : LoggedView D) → IsJustOpened v → crash_line (end_of v.journal.history).state.stored ≡ reopened_line v
stored-opening v just =
    let history : v.journal.history ≡ opened_history object_slots v.journal.history.ids v.journal.opening = just.store.history ∙ ap (λ es. record (opened_history object_slots v.journal.history.ids v.journal.opening) { entries = es }) just.entries in
    ap (λ (h : History). crash_line (end_of h).state.stored) history

module _ {D : Type 0} (content : D → Area → Option (List ℕ)) (may_leave : D → Area → List ℕ → Type 0) (faults : D → ℕ) (v : LoggedView D) (before : D) (is : before ≡ v.disk) (opens : EachImage may_leave v.disk (OpensAfter object_slots (history_of v))) where
  opens-before : EachImage may_leave before (OpensAfter object_slots (history_of v))
  opens-before = subst (λ (d : D). EachImage may_leave d (OpensAfter object_slots (history_of v))) (sym is) opens

  -- the disk could not be made to lose power
  pub stays-shut-kept : (written now : Option (List ℕ)) (first_faults faults_now : ℕ) (disk : D) → KeepsAll content may_leave before disk → faults before ≤ faults disk → Rose (faults before) (faults disk)
      → EndsWith written now first_faults faults_now [] (codes "refused: disk\n") → StaysShut content may_leave faults v written now first_faults faults_now 6 disk
  stays-shut-kept written now first_faults faults_now disk keeps later rose ends = record {
    refusal = refusal.Disk;
    told = refl;
    printed = ends;
    failed = λ _. subst (λ (d : D). Rose (faults d) (faults disk)) is rose;
    later = subst (λ (d : D). faults d ≤ faults disk) is later;
    only_untold = λ e _. absurd (omega (arith, e));
    opens = λ _ image leaves. opens-before image (λ area. let k = keeps area in k.no_more (in_area image area) (leaves area));
  }

  module _ (lost : D) (loses : LeavesOne content may_leave before lost) (later : faults before ≤ faults lost) where
    -- power was lost, and the opening is refused
    pub stays-shut-refused : (moment : D → ℕ) (left_since : D → ℕ → Bytes → Type 0) → ((disk : D) (t : ℕ) (b : Bytes) → t ≤ moment disk → IsImage may_leave disk b → left_since disk t b)
        → (e : OpenRefusal) (disk : D) (written now : Option (List ℕ)) (first_faults faults_now status : ℕ) → IsSlotCount object_slots → RefusesToOpen content may_leave moment left_since object_slots lost e disk → OpensMeanwhile content may_leave moment left_since object_slots lost disk → HasFault (faults lost) (faults disk) e
        → status ≡ status_of_refusal e → EndsWith written now first_faults faults_now [] (open_refusal_line e) → StaysShut content may_leave faults v written now first_faults faults_now status disk
    stays-shut-refused moment left_since counts e disk written now first_faults faults_now status size refuses meanwhile fault told ends =
        let first : faults v.disk ≤ faults lost = subst (λ (d : D). faults d ≤ faults lost) is later in
        record {
          refusal = e;
          told = told;
          printed = ends;
          failed = λ d. let rose = fault.failed d in omega (arith, first, rose);
          later = omega (arith, first, fault.later);
          only_untold = λ seven tell. never-refused content tell may_leave before lost loses (history_of v) e size opens-before refuses.refused (sym told ∙ seven);
          opens = λ tell. images-after content tell may_leave before lost loses (history_of v) disk moment left_since counts opens-before meanwhile;
        }

    -- it was opened, and there is no memory for its line
    pub stays-shut-memory : (moment : D → ℕ) (left_since : D → ℕ → Bytes → Type 0) → ((disk : D) (t : ℕ) (b : Bytes) → t ≤ moment disk → IsImage may_leave disk b → left_since disk t b)
        → (disk : D) (written now : Option (List ℕ)) (first_faults faults_now status : ℕ) → OpensMeanwhile content may_leave moment left_since object_slots lost disk → faults lost ≤ faults disk
        → status ≡ 8 → EndsWith written now first_faults faults_now [] (codes "refused: memory\n") → StaysShut content may_leave faults v written now first_faults faults_now status disk
    stays-shut-memory moment left_since counts disk written now first_faults faults_now status meanwhile after told ends =
        let first : faults v.disk ≤ faults lost = subst (λ (d : D). faults d ≤ faults lost) is later in
        record {
          refusal = refusal.Memory;
          told = told;
          printed = ends;
          failed = λ d. absurd (cc (d));
          later = omega (arith, first, after);
          only_untold = λ seven _. absurd (omega (arith, told, seven));
          opens = λ tell. images-after content tell may_leave before lost loses (history_of v) disk moment left_since counts opens-before meanwhile;
        }

    -- it was opened again
    pub reopens : (new : LoggedView D) → IsSlotCount object_slots → OpensAs content faults object_slots lost (record { trace = 1048576; log = 1071644672 }) new → (history_of v).ids ≡ v.journal.history.ids → (IsJustOpened new → IsOfReplay may_leave new) → Reopens content may_leave faults v new
    reopens new size o ids journal =
        let first : faults v.disk ≤ faults lost = subst (λ (d : D). faults d ≤ faults lost) is later in
        let count : new.journal.history.ids ≡ length new.journal.opening - 1 = ap (λ (h : History). h.ids) o.history in
        record {
          just = just-opened content faults lost new o;
          journal = journal (just-opened content faults lost new o);
          later = omega (arith, first, o.counted.1, o.counted.0);
          same_ids = λ tell. let many = same-size content tell may_leave before lost loses (history_of v) new.journal.opening size opens-before o.opens in omega (arith, count, many, ids);
          safe = λ tell. reopened-safe content tell may_leave before lost loses (history_of v) new.journal.opening size opens-before o.opens;
        }

-- ---- how its line stops the replay

module _ {D : Type 0} (content : D → Area → Option (List ℕ)) (may_leave : D → Area → List ℕ → Type 0) (faults : D → ℕ) (v new : LoggedView D) (written now : Option (List ℕ)) (first_faults faults_now : ℕ) where
  -- it is told
  pub told-again : {E : Type 0} (r : Result (LoggedView D) E) → Reopens content may_leave faults v new
      → IfOk r (λ s. (s ≡ new) × Appends written now (crash_line (end_of new.journal.history).state.stored)) → IfOk r (λ s. Reopens content may_leave faults v s × Appends written now (reopened_line s))
  told-again r again h =
      let line = stored-opening new again.just in
      if-ok r _ (λ s. Reopens content may_leave faults v s × Appends written now (reopened_line s))
      (λ s p. subst (λ (x : LoggedView D). Reopens content may_leave faults v x × Appends written now (reopened_line x)) (sym p.0) (again, subst (Appends written now) line p.1))
      h

  -- there is no memory for its line, or the sink fails it
  pub stops-told : (r : Result (LoggedView D) (ℕ × Ended D)) → Reopens content may_leave faults v new → ((status : ℕ) → status ≡ 8 → EndsWith written now first_faults faults_now [] (codes "refused: memory\n") → StaysShut content may_leave faults v written now first_faults faults_now status new.disk)
      → IfErr r (λ e. e.0 ≡ 8 → (e.1 ≡ Shut new.disk) × EndsWith written now first_faults faults_now [] (codes "refused: memory\n"))
      → IfErr r (λ e. e.0 ≡ 5 → (e.1 ≡ Kept new) × AppendsFront written now (crash_line (end_of new.journal.history).state.stored) × Rose first_faults faults_now)
      → IfErr r (λ e. (e.0 ≡ 5) ⊎ (e.0 ≡ 8)) → IfErr r (λ e. StopsCrash content may_leave faults v written now first_faults faults_now e.0 e.1)
  stops-told r again memory m w s =
      let line = stored-opening new again.just in
      if-err r _ _ _ (λ e. StopsCrash content may_leave faults v written now first_faults faults_now e.0 e.1)
      (λ e m w s. ⊎_elim
      (λ five. let x = w five in subst (StopsCrash content may_leave faults v written now first_faults faults_now e.0) (sym x.0) (unwritten new five again (subst (AppendsFront written now) line x.1) x.2))
      (λ eight. let x = m eight in subst (StopsCrash content may_leave faults v written now first_faults faults_now e.0) (sym x.0) (shut new.disk (memory e.0 eight x.1)))
      s)
      m w s
