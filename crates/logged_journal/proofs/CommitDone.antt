-- A commit that is granted: what it logs, and what a journal with its log keeps when it is done or failed.
use Rattle.std.proofs.Common.{◌≡◌, ⊎_elim, ℕ, ◌+◌, ◌-◌, ◌≤◌, true, false, List, [], ◌∷◌, ◌++◌, length, take, drop, Option, Some, None, Result, Ok, Err, refl, sym, ◌∙◌, ap, subst, arith, append_assoc, ◌*◌, take-append-drop}
use Rattle.std.specs.Prelude.{⊤, is_ok, is_err, IfSome, OnOk, OnErr, if◌then◌else◌, unwrap_or}
use Rattle.std.specs.Option.{option_map_or}
use Rattle.std.proofs.lemmas.List.{length-append, take_all, drop_all}
use Rattle.disk_model.specs.declared.area.Area.{Area}
use Rattle.disk_model.specs.Areas.{Bytes}
use Rattle.disk_model.specs.declared.area.Area.TheVariants.{Pages}
use Rattle.disk_model.specs.Told.{EachImage, Leaves, IsImageBut}
use Rattle.disk_model.specs.Time.{LeavesOnlyImages}
use Rattle.plain_model.specs.declared.calls.Call.TheVariants as call
use Rattle.plain_model.specs.declared.calls.Reply.{Reply}
use Rattle.plain_model.specs.declared.calls.Reply.TheVariants as reply
use Rattle.plain_model.specs.declared.calls.Entry.TheVariants.{Call}
use Rattle.plain_model.specs.ActiveTransaction.{ActiveTransaction}
use Rattle.plain_model.specs.Machine.{State, step, success, refusal_of, refusal_in, refusal_out, transaction_of, new_transaction}
use Rattle.plain_model.specs.History.{History, with_entry, end_of, next}
use Rattle.cell_model.specs.Cells.{Cell}
use Rattle.log_record.specs.declared.cell_record.CellRecord.{CellRecord}
use Rattle.log_record.specs.declared.cell_record.CellRecord.TheVariants as logs
use Rattle.log_record.specs.Spelling.{cell_record_bytes, IsTypedCellRecord}
use Rattle.gate_log.specs.Batches.{most_bytes}
use Rattle.gate_log.specs.State.{LogState, used, appended, forced, batch_length}
use Rattle.gate_log.specs.OnDisk.{IsOn, HasLog, HasEither, with_batch}
use Rattle.gate_log.proofs.Standing.{batch_length_most}
use Rattle.page_marks.specs.declared.marks.PageMark.{PageMark}
use Rattle.page_marks.specs.Marks.{AreMarkedBy}
use Rattle.log_record.specs.declared.record.Record.TheVariants.{OfCells}
use Rattle.cell_page.specs.Format.{page_size}
use Rattle.std.specs.Option.{option_and_then}
use Rattle.core_store.specs.declared.note.Note.{Note}
use Rattle.core_store.specs.JournalView.{JournalView}
use Rattle.core_store.specs.Logged.{logged_by, record_in}
use Rattle.core_store.specs.Owed.{bytes_owed}
use Rattle.core_store.specs.Safe.{IsDurable, HasNote}
use Rattle.core_store.proofs.BytesOwed.{commit-owes}
use Rattle.plain_model.proofs.GraphLemmas.{AllByRecursion-push}
use Rattle.plain_model.proofs.HistoryLemmas.{end_of-with_entry}
use Rattle.logged_journal.specs.declared.failed.FailedCall.{FailedCall}
use Rattle.logged_journal.specs.View.{LoggedView, bytes_counted, image_need}
use Rattle.logged_journal.specs.Records.{note_bytes, IsTypedNote, AreTypedNotes, HoldRecords, HoldsNotes, AreMarkedAfter, HasRecords, with_commit, durable_notes, MayBeLeft, durable, failed, MayHave}
use Rattle.logged_journal.specs.Kept.{CanCommit, IsKept, IsStanding}
use Rattle.logged_journal.proofs.Ascending.{ascends}
use Rattle.logged_journal.proofs.Commits.{forced-image, pages-apart, both}
use Rattle.logged_journal.proofs.HeldRecords.{holds-as, holds-push, holds-forced}
use Rattle.logged_journal.proofs.Kept.{on-same}

-- ---- what the machine says of it

pub commit-done : (s : State) (pass : ℕ) → refusal_of s pass call.Commit ≡ None → (step s pass call.Commit).0 ≡ reply.Done
unfolding step
commit-done s pass none = ap (λ (o : Option Reply). (option_map_or (λ reply. (reply, s)) o (success s pass (unwrap_or (transaction_of s pass) new_transaction) call.Commit)).0) none

pub commit-logged : (s : State) (cells : List Cell) (pass : ℕ) → refusal_of s pass call.Commit ≡ None → logged_by s cells pass call.Commit ≡ Some (logs.Commit pass)
commit-logged s cells pass none =
    ap (λ (o : Option Reply). option_map_or (λ reply. None) o (option_map_or (λ t. record_in s cells pass t call.Commit) (transaction_of s pass) (Some (logs.Begin pass)))) none
    ∙ by (transaction_of s pass) refl none
  where
    by : (o : Option ActiveTransaction) → transaction_of s pass ≡ o → refusal_of s pass call.Commit ≡ None → option_map_or (λ t. record_in s cells pass t call.Commit) o (Some (logs.Begin pass)) ≡ Some (logs.Commit pass)
    by (Some t) f g = refl
    by None f g = absurd (let k = sym (ap (λ (o : Option ActiveTransaction). option_map_or (λ t. refusal_in s pass t call.Commit) o (refusal_out call.Commit)) f) ∙ g in cc (k))

-- its end owed seven bytes
pub commit-falls : (h k : History) (pass : ℕ) (r : Reply) → refusal_of (end_of h).state pass call.Commit ≡ None → r ≡ (step (end_of h).state pass call.Commit).0
    → k ≡ with_entry h (Call pass call.Commit r) → bytes_owed (end_of k) + 7 ≤ bytes_owed (end_of h)
commit-falls h k pass r none machine is =
    let falls = commit-owes (end_of h) pass (ascends h) none in
    subst (λ x. bytes_owed (end_of x) + 7 ≤ bytes_owed (end_of h)) (sym is)
    (subst (λ m. bytes_owed m + 7 ≤ bytes_owed (end_of h)) (sym (end_of-with_entry h (Call pass call.Commit r)))
    (subst (λ q. bytes_owed (next (end_of h) (Call pass call.Commit q)) + 7 ≤ bytes_owed (end_of h)) (sym machine) falls))

pub commit-owed : (h : History) (pass : ℕ) → refusal_of (end_of h).state pass call.Commit ≡ None → 7 ≤ bytes_owed (end_of h)
commit-owed h pass none = let falls = commit-owes (end_of h) pass (ascends h) none in omega (arith, falls)

-- ---- what a force was answered

pub was-ok : {E X : Type 0} (r : Result (Unit {0}) E) (a b : X) → is_err r ≡ false → (if is_ok r then a else b) ≡ a
was-ok (Ok u) a b e = refl
was-ok (Err x) a b e = absurd (cc (e))

pub on-ok : {E : Type 0} (r : Result (Unit {0}) E) (P : Type 0) → is_err r ≡ false → OnOk r P → P
on-ok (Ok u) P e has = has
on-ok (Err x) P e has = absurd (cc (e))

pub on-err : {E : Type 0} (r : Result (Unit {0}) E) (P : Type 0) → is_err r ≡ true → OnErr r P → P
on-err (Ok u) P e has = absurd (cc (e))
on-err (Err x) P e has = has

-- ---- the log with the record of the commit

-- the log with it in its tail
abbrev pub with_record : LogState → ℕ → LogState
with_record log pass = appended log (cell_record_bytes (logs.Commit pass))

-- a commit marks no page
pub commit-marked : (slots pass : ℕ) (marks : List PageMark) → AreMarkedBy {slots = slots} (OfCells (logs.Commit pass)) marks marks
commit-marked slots pass marks = record { as_many = refl; each = λ page d low. refl }

pub length-record : (log : LogState) (pass : ℕ) → length (with_record log pass).tail ≡ length log.tail + 2
unfolding cell_record_bytes
length-record log pass = length-append log.tail (cell_record_bytes (logs.Commit pass))

module _ {D : Type 0} (may_leave : D → Area → List ℕ → Type 0) where
  -- it stands on the disk as before
  pub record-on : (v : LoggedView D) (log : LogState) (pass : ℕ) (stands : IsStanding may_leave v) → log ≡ with_record v.log pass → IsOn may_leave log v.disk stands.batches
  record-on v log pass stands is = on-same may_leave v.log log v.disk v.disk stands.batches (ap (λ l. l.area) is) (ap (λ l. l.durable) is) refl stands.on

  -- with this note of the commit the log has all records of the journal and the commit's, once the tail is forced
  pub note-holds : (v : LoggedView D) (log : LogState) (pass : ℕ) (n : Note) (stands : IsStanding may_leave v) → v.durable ≤ length v.journal.notes → log ≡ with_record v.log pass → n.logged ≡ Some (logs.Commit pass)
      → (now : D) → ((area : List ℕ) → may_leave now Pages area → may_leave v.disk Pages area)
      → HoldsNotes may_leave v.journal.history.slots stands.pages v.journal.opening (v.journal.notes ++ n ∷ []) [] v.marks now (with_batch stands.batches log.tail) []
  note-holds v log pass n stands inside is logged now keeps =
      let slots = v.journal.history.slots in
      let front = durable_notes v in
      let rest = drop v.durable v.journal.notes in
      let bytes : note_bytes n ≡ cell_record_bytes (logs.Commit pass) = ap (λ (o : Option CellRecord). option_map_or cell_record_bytes o []) logged in
      let longer : log.tail ≡ v.log.tail ++ note_bytes n = ap (λ l. l.tail) is ∙ ap (λ (l : List ℕ). v.log.tail ++ l) (sym bytes) in
      let pushed = holds-push may_leave slots stands.pages v.journal.opening front rest v.marks v.disk stands.batches v.log.tail stands.records n v.marks log.tail longer
      (subst (λ (o : Option CellRecord). AreMarkedAfter slots o v.marks v.marks) (sym logged) (commit-marked slots pass v.marks)) in
      let all : front ++ (rest ++ n ∷ []) ≡ v.journal.notes ++ n ∷ [] = sym (append_assoc front rest (n ∷ [])) ∙ ap (λ (ns : List Note). ns ++ n ∷ []) (take-append-drop v.durable v.journal.notes) in
      subst (λ (ns : List Note). HoldsNotes may_leave slots stands.pages v.journal.opening ns [] v.marks now (with_batch stands.batches log.tail) []) all
      (holds-forced may_leave slots stands.pages v.journal.opening front (rest ++ n ∷ []) v.marks v.disk stands.batches log.tail pushed now keeps)

  -- so it has with the note of a commit that the disk failed
  pub record-holds : (v : LoggedView D) (log : LogState) (pass : ℕ) (stands : IsStanding may_leave v) → v.durable ≤ length v.journal.notes → log ≡ with_record v.log pass
      → Leaves may_leave v.disk Pages (λ area. HoldRecords v.journal area (with_commit v.journal.notes pass) (with_batch stands.batches log.tail))
  record-holds v log pass stands inside is = λ area may.
      (stands.pages, stands.ids, ((note-holds v log pass _ stands inside is refl v.disk (λ c left. left)).hold area may).have)

  -- it is within the log's bytes
  pub record-bounded : (v : LoggedView D) (log : LogState) (pass : ℕ) → IsStanding may_leave v → 7 ≤ bytes_owed (end_of v.journal.history) → log ≡ with_record v.log pass → used log ≤ most_bytes
  record-bounded v log pass stands owed is =
      let bounded = stands.bounded in
      let long = length-record v.log pass in
      subst (λ (l : LogState). used l ≤ most_bytes) (sym is) (omega (arith, bounded, owed, long))

  -- at each moment of the force
  pub record-moments : (v : LoggedView D) (moment : D → ℕ) (left_since : D → ℕ → Bytes → Type 0) (log : LogState) (now : D) (pass : ℕ) (stands : IsStanding may_leave v) → v.durable ≤ length v.journal.notes → 7 ≤ bytes_owed (end_of v.journal.history)
      → log ≡ with_record v.log pass
      → ((batches : List (List ℕ)) → IsOn may_leave log v.disk batches → used log ≤ most_bytes → LeavesOnlyImages moment left_since v.disk now (HasEither batches (with_batch batches log.tail)))
      → LeavesOnlyImages moment left_since v.disk now (IsImageBut may_leave v.disk log.area (λ _. ⊤))
      → LeavesOnlyImages moment left_since v.disk now (MayHave v pass)
  record-moments v moment left_since log now pass stands inside owed is run others =
      let on = record-on v log pass stands is in
      both (MayHave v pass)
      (λ image has but.
      let may = but.others Pages (pages-apart log.area on.area) in
      forced-image v pass stands.batches (with_batch stands.batches log.tail) image (stands.pages, stands.ids, (stands.records.hold image.pages may).have) (record-holds v log pass stands inside is image.pages may) has)
      (run stands.batches on (record-bounded v log pass stands owed is)) others

  -- ---- what is kept where the disk fails it

  failed-image : (v w : LoggedView D) (pass faults : ℕ) (image : Bytes) → v.failed ≡ None → w.journal ≡ v.journal → w.durable ≡ v.durable → w.failed ≡ Some (record { commit = Some pass; faults = faults })
      → MayHave v pass image → MayBeLeft w image
  failed-image v w pass faults image running journal count told has =
      ⊎_elim (λ (left : MayBeLeft v image). before left)
      (λ (all : HasRecords v.journal (with_commit v.journal.notes pass) image).
      failed (record { commit = Some pass; faults = faults }) told (subst (λ (j : JournalView). HasRecords j (with_commit j.notes pass) image) (sym journal) all))
      has
    where
      before : MayBeLeft v image → MayBeLeft w image
      before (durable is) =
          durable (subst (λ (d : ℕ). HasRecords w.journal (take d w.journal.notes) image) (sym count)
          (subst (λ (j : JournalView). HasRecords j (take v.durable j.notes) image) (sym journal) is))
      before (failed f is more) = absurd (cc (running, is))

  pub kept-failed : (v w : LoggedView D) (pass faults : ℕ) → IsKept may_leave v → v.failed ≡ None → w.journal ≡ v.journal → w.durable ≡ v.durable → w.failed ≡ Some (record { commit = Some pass; faults = faults })
      → w.log_full ≡ v.log_full → w.peak ≡ v.peak → w.marks ≡ v.marks → CanCommit v.journal pass → EachImage may_leave w.disk (MayHave v pass) → IsKept may_leave w
  kept-failed v w pass faults kept running journal count told full peak marks can images =
      record {
        standing = λ is. absurd (cc (told, is));
        inside = subst (λ (d : ℕ). d ≤ length w.journal.notes) (sym count) (subst (λ (j : JournalView). v.durable ≤ length j.notes) (sym journal) kept.inside);
        lasting = subst (λ (d : ℕ). IsDurable w.journal (take d w.journal.notes)) (sym count) (subst (λ (j : JournalView). IsDurable j (take v.durable j.notes)) (sym journal) kept.lasting);
        images = λ image may. failed-image v w pass faults image running journal count told (images image may);
        many =
            let before = kept.many in
            let ids = ap (λ (j : JournalView). j.history.ids) journal in
            let many = ap (λ (l : List PageMark). length l) marks in
            omega (arith, before, ids, many);
        granted = subst (λ (o : Option FailedCall). IfSome (option_and_then (λ (f : FailedCall). f.commit) o) (CanCommit w.journal)) (sym told) (subst (λ (j : JournalView). CanCommit j pass) (sym journal) can);
        typed = subst (λ (j : JournalView). AreTypedNotes j.notes) (sym journal) kept.typed;
        full = λ is.
            let before = kept.full (sym full ∙ is) in
            let limit = ap (λ (j : JournalView). j.limits.log) journal in
            let need = ap (λ (j : JournalView). image_need j.history.slots) journal in
            omega (arith, before, limit, need, peak);
      }

  -- ---- what is kept where it is done

  -- the commit was done, and its note joined
  pub record HasCommitted (v w : LoggedView D) (pass : ℕ) (n : Note) (batches : List (List ℕ)) : Type 0 where
    pub note : HasNote v.journal w.journal n
    pub logged : n.logged ≡ Some (logs.Commit pass)
    pub limits : w.journal.limits ≡ v.journal.limits
    pub log : w.log ≡ forced (with_record v.log pass)
    pub on : IsOn may_leave w.log w.disk batches
    pub have : EachImage may_leave w.disk (HasLog batches)
    pub pages : ℕ
    pub ids : v.journal.history.ids ≡ 8 * pages
    pub records : HoldsNotes may_leave v.journal.history.slots pages v.journal.opening (v.journal.notes ++ n ∷ []) [] v.marks w.disk batches []
    pub long : Leaves may_leave w.disk Pages (λ area. page_size v.journal.history.slots * pages ≤ length area)
    pub marks : w.marks ≡ v.marks
    pub all : w.durable ≡ length w.journal.notes
    pub lasting : IsDurable w.journal w.journal.notes
    pub running : w.failed ≡ None
    pub others : (w.log_full ≡ v.log_full) × (w.peak ≡ v.peak)
    pub falls : bytes_owed (end_of w.journal.history) + 7 ≤ bytes_owed (end_of v.journal.history)

  -- what is in use and owed doesn't rise
  pub counted-falls : (v w : LoggedView D) (pass : ℕ) → w.log ≡ forced (with_record v.log pass) → bytes_owed (end_of w.journal.history) + 7 ≤ bytes_owed (end_of v.journal.history) → bytes_counted w ≤ bytes_counted v
  counted-falls v w pass is falls =
      let tail = (with_record v.log pass).tail in
      let after : used w.log ≡ v.log.durable + batch_length tail + 6 = ap (λ (l : LogState). used l) is ∙ omega (arith) in
      let most = batch_length_most tail in
      let long = length-record v.log pass in
      omega (arith, after, most, long, falls)

  pub kept-done : (v w : LoggedView D) (pass : ℕ) (n : Note) (batches : List (List ℕ)) → IsKept may_leave v → v.failed ≡ None → HasCommitted v w pass n batches → IsKept may_leave w
  unfolding cell_record_bytes
  kept-done v w pass n batches kept running e =
      let stands = kept.standing running in
      let notes = w.journal.notes in
      let some : durable_notes w ≡ notes = take_all w.durable notes (let k = e.all in omega (arith, k)) in
      let records : HoldsNotes may_leave w.journal.history.slots e.pages w.journal.opening (durable_notes w) (drop w.durable notes) w.marks w.disk batches w.log.tail =
      subst (λ (tail : List ℕ). HoldsNotes may_leave w.journal.history.slots e.pages w.journal.opening (durable_notes w) (drop w.durable notes) w.marks w.disk batches tail) (sym (ap (λ (l : LogState). l.tail) e.log))
      (subst (λ (marks : List PageMark). HoldsNotes may_leave w.journal.history.slots e.pages w.journal.opening (durable_notes w) (drop w.durable notes) marks w.disk batches []) (sym e.marks)
      (holds-as may_leave v.journal.history.slots w.journal.history.slots e.pages v.journal.opening w.journal.opening (v.journal.notes ++ n ∷ []) (durable_notes w) [] (drop w.durable notes) v.marks w.disk w.disk batches []
      (ap (λ h. h.slots) e.note.entry) e.note.opening (some ∙ e.note.noted) (drop_all w.durable notes (let k = e.all in omega (arith, k))) refl e.records)) in
      let ids = ap (λ h. h.ids) e.note.entry ∙ e.ids in
      let counted = counted-falls v w pass e.log e.falls in
      let peak = e.others.1 in
      record {
        standing = λ _. record {
          stage = ap (λ (l : LogState). l.stage) e.log ∙ stands.stage;
          batches = batches;
          on = e.on;
          pages = e.pages;
          ids = ids;
          records = records;
          long = λ area may. subst (λ (s : ℕ). page_size s * e.pages ≤ length area) (sym (ap (λ h. h.slots) e.note.entry)) (e.long area may);
          room =
              let was = stands.room in
              let now : w.log.room ≡ v.log.room - 2 = ap (λ (l : LogState). l.room) e.log in
              let falls = e.falls in
              omega (arith, was, now, falls);
          bounded = let b = stands.bounded in omega (arith, counted, b);
          peak = let b = stands.peak in omega (arith, counted, b, peak);
        };
        inside = let k = e.all in omega (arith, k);
        many =
            let before = kept.many in
            let same = ap (λ h. h.ids) e.note.entry in
            let many = ap (λ (l : List PageMark). length l) e.marks in
            omega (arith, before, same, many);
        lasting = subst (λ (l : List Note). IsDurable w.journal l) (sym some) e.lasting;
        images = λ image may. durable (record { batches = batches; log = e.have image may; hold = (e.pages, ids, (records.hold image.pages (may Pages)).have) });
        granted = subst (λ (o : Option FailedCall). IfSome (option_and_then (λ (f : FailedCall). f.commit) o) (CanCommit w.journal)) (sym e.running) tt;
        typed = subst AreTypedNotes (sym e.note.noted) (AllByRecursion-push IsTypedNote v.journal.notes n kept.typed (subst (λ (o : Option CellRecord). IfSome o IsTypedCellRecord) (sym e.logged) tt));
        full = λ is.
            let before = kept.full (sym e.others.0 ∙ is) in
            let limit = ap (λ l. l.log) e.limits in
            let need = ap (λ h. image_need h.slots) e.note.entry in
            omega (arith, before, limit, need, peak);
      }
