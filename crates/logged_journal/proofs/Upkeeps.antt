-- What a journal with its log keeps at the steps of upkeep.
use Rattle.std.proofs.Common.{◌≡◌, ◌≢◌, inl, inr, ⊎_elim, ℕ, ◌+◌, ◌*◌, ◌<◌, ◌≤◌, max, true, false, ◌||◌, List, [], ◌++◌, length, take, drop, take-append-drop, Some, None, refl, sym, ◌∙◌, ap, subst, arith}
use Rattle.std.specs.Prelude.{⊤, Bool, Result, Ok, Err, IsErrOf, OnOk}
use Rattle.std.proofs.lemmas.List.{append-nil, take_all, drop_all, length-append}
use Rattle.disk_model.specs.declared.area.Area.{Area}
use Rattle.disk_model.specs.declared.area.Area.TheVariants.{Pages, Super}
use Rattle.disk_model.specs.Areas.{Bytes, in_area}
use Rattle.disk_model.specs.Told.{EachImage, Leaves, IsImageBut}
use Rattle.disk_model.specs.Time.{LeavesOnlyImages}
use Rattle.plain_model.specs.declared.calls.Entry.{Entry}
use Rattle.plain_model.specs.declared.calls.Entry.TheVariants.{Hidden, TurnBusy}
use Rattle.plain_model.specs.History.{Moment, end_of, next, with_entry}
use Rattle.plain_laws.specs.Sound.{is_crash}
use Rattle.restart_laws.specs.Settled.{acknowledges}
use Rattle.plain_model.proofs.HistoryLemmas.{end_of-with_entry}
use Rattle.cell_model.specs.Cells.{Cell}
use Rattle.cell_page.specs.declared.cell.Cell.{Cell as PageCell}
use Rattle.cell_page.specs.Format.{AreTyped, page_size}
use Rattle.cell_page.specs.Stored.{HoldsPage}
use Rattle.log_record.specs.declared.record.Record.{Record}
use Rattle.log_record.specs.declared.record.Record.TheVariants.{Image}
use Rattle.log_record.specs.Spelling.{record_bytes}
use Rattle.gate_log.specs.Batches.{IsLog, most_bytes}
use Rattle.gate_log.specs.State.{LogState, used, appended, forced}
use Rattle.gate_log.specs.OnDisk.{IsOn, HasLog, HasEither, with_batch}
use Rattle.gate_log.proofs.Standing.{batch_length_most}
use Rattle.page_area.specs.InPlace.{AreTorn}
use Rattle.opened_images.specs.LogRecords.{all_of}
use Rattle.opened_images.specs.WithImages.{is_imaged}
use Rattle.opened_images.proofs.Checkpoints.{any_bytes}
use Rattle.page_marks.specs.declared.marks.PageMark.{PageMark}
use Rattle.page_marks.specs.Marks.{AreMarkedBy}
use Rattle.core_store.specs.declared.act.Act.TheVariants.{Other}
use Rattle.core_store.specs.declared.marks.Marks.{Marks}
use Rattle.core_store.specs.declared.note.Note.{Note}
use Rattle.core_store.specs.declared.room_refusal.RoomRefusal.{RoomRefusal}
use Rattle.core_store.specs.declared.room_refusal.RoomRefusal.TheVariants.{TraceFull, Memory}
use Rattle.core_store.specs.JournalView.{JournalView, cells_of, cells_after_notes}
use Rattle.core_store.specs.Owed.{bytes_owed}
use Rattle.core_store.specs.RoundView.{left_of}
use Rattle.core_store.specs.Safe.{AreEntries, IsSafe, IsDurable}
use Rattle.core_store.specs.Upkeep.{IsUpkeep, with_upkeep}
use Rattle.core_store.proofs.SafeLaws.{durable-all}
use Rattle.logged_journal.specs.View.{LoggedView, bytes_counted}
use Rattle.logged_journal.specs.Records.{HasRecords, HaveMarked, HoldsNotes, durable_notes, MayBeLeft, durable, failed, MayHaveAll}
use Rattle.logged_journal.specs.Kept.{IsKept, IsStanding}
use Rattle.logged_journal.proofs.CalledJournals.{kept-room}
use Rattle.logged_journal.proofs.Commits.{pages-apart, both}
use Rattle.logged_journal.proofs.HeldRecords.{holds-as, holds-image, holds-forced}
use Rattle.logged_journal.proofs.Kept.{kept-event, on-same}

-- ---- an entry of upkeep

-- it changes nothing
pub upkeep-stays : (m : Moment) (entry : Entry) → IsUpkeep m entry → next m entry ≡ m
upkeep-stays m Hidden is = refl
upkeep-stays m (TurnBusy pass) is = refl
upkeep-stays m _ is = absurd is

-- and promises nothing
upkeep-unpromised : (m : Moment) (entry : Entry) → IsUpkeep m entry → (acknowledges entry || is_crash entry) ≡ false
upkeep-unpromised m Hidden is = refl
upkeep-unpromised m (TurnBusy pass) is = refl
upkeep-unpromised m _ is = absurd is

-- where room for an entry is asked for, only that and the marks of answers change
pub reserved-is : (old new : JournalView) (r : Result (Unit {0}) RoomRefusal) → (IsErrOf r TraceFull → new ≡ record old { marks = record old.marks { trace = true } }) → (IsErrOf r Memory → new ≡ old) → OnOk r (new ≡ record old { reserved = true })
    → (marks : Marks) × (reserved : Bool) × (new ≡ record old { marks = marks; reserved = reserved })
reserved-is old new (Ok u) full memory done = (old.marks, true, done)
reserved-is old new (Err TraceFull) full memory done = (record old.marks { trace = true }, old.reserved, full refl)
reserved-is old new (Err Memory) full memory done = (old.marks, old.reserved, memory refl)

module _ {D : Type 0} where
  -- ---- what a power loss may leave

  -- nothing of that but the journal, what is durable of it and what failed is looked at
  pub have-same : (v w : LoggedView D) (image : Bytes) → w.journal ≡ v.journal → w.durable ≡ v.durable → w.failed ≡ v.failed → MayHaveAll w image → MayHaveAll v image
  have-same v w image journal count told has = ⊎_elim (λ before. inl (left before)) (λ all. inr (subst (λ (j : JournalView). HasRecords j j.notes image) journal all)) has
    where
      left : MayBeLeft w image → MayBeLeft v image
      left (durable is) = durable (subst (λ (n : ℕ). HasRecords v.journal (take n v.journal.notes) image) count (subst (λ (j : JournalView). HasRecords j (take w.durable j.notes) image) journal is))
      left (failed f is more) = failed f (sym told ∙ is) (subst (λ (j : JournalView). HasRecords j (Rattle.logged_journal.specs.Records.notes_failed j.notes f) image) journal more)

  -- where all notes became durable
  pub have-all : (v w : LoggedView D) (image : Bytes) → w.journal ≡ v.journal → w.durable ≡ length v.journal.notes → w.failed ≡ None → MayHaveAll w image → MayHaveAll v image
  have-all v w image journal count running has = inr (⊎_elim (λ before. left before) (λ all. subst (λ (j : JournalView). HasRecords j j.notes image) journal all) has)
    where
      left : MayBeLeft w image → HasRecords v.journal v.journal.notes image
      left (durable is) = subst (λ (ns : List Note). HasRecords v.journal ns image) (take_all w.durable v.journal.notes (omega (arith, count))) (subst (λ (j : JournalView). HasRecords j (take w.durable j.notes) image) journal is)
      left (failed f is more) = absurd (cc (running, is))

-- ---- the journal's records

module _ {D : Type 0} (may_leave : D → Area → List ℕ → Type 0) where
  -- once the tail is forced the log has the records of all notes
  pub all-hold : (v : LoggedView D) (stands : IsStanding may_leave v) (now : D) → ((area : List ℕ) → may_leave now Pages area → may_leave v.disk Pages area)
      → HoldsNotes may_leave v.journal.history.slots stands.pages v.journal.opening v.journal.notes [] v.marks now (with_batch stands.batches v.log.tail) []
  all-hold v stands now keeps =
      subst (λ (ns : List Note). HoldsNotes may_leave v.journal.history.slots stands.pages v.journal.opening ns [] v.marks now (with_batch stands.batches v.log.tail) []) (take-append-drop v.durable v.journal.notes)
      (holds-forced may_leave v.journal.history.slots stands.pages v.journal.opening (durable_notes v) (drop v.durable v.journal.notes) v.marks v.disk stands.batches v.log.tail stands.records now keeps)

  -- where all notes are durable
  pub all-durable : (j : JournalView) (slots pages count : ℕ) (marks : List PageMark) (disk : D) (batches : List (List ℕ)) → length j.notes ≤ count
      → HoldsNotes may_leave slots pages j.opening j.notes [] marks disk batches [] → HoldsNotes may_leave slots pages j.opening (take count j.notes) (drop count j.notes) marks disk batches []
  all-durable j slots pages count marks disk batches all holds =
      holds-as may_leave slots slots pages j.opening j.opening j.notes (take count j.notes) [] (drop count j.notes) marks disk disk batches [] refl refl (take_all count j.notes all) (drop_all count j.notes all) refl holds

  -- whatever a power loss leaves has the batches with which the log stands
  pub has-log : (log : LogState) (disk : D) (batches : List (List ℕ)) → IsOn may_leave log disk batches → used log ≤ most_bytes → (image : Bytes) → may_leave disk Super image.super_area → may_leave disk log.area (in_area image log.area) → HasLog batches image
  has-log log disk batches on bounded image may_super may_log =
      let short : max most_bytes (log.durable + 1) ≡ most_bytes = omega (arith, bounded) in
      record { area = log.area; named = on.named image.super_area may_super; log = subst (λ (most : ℕ). IsLog most batches (in_area image log.area)) short (on.logs (in_area image log.area) may_log) }

  -- the log stands on where only the pages changed
  pub on-others : (log : LogState) (before now : D) (batches : List (List ℕ)) → ((area : Area) → area ≢ Pages → (c : List ℕ) → may_leave now area c → may_leave before area c) → IsOn may_leave log before batches → IsOn may_leave log now batches
  on-others log before now batches keeps on =
      record {
        area = on.area;
        named = λ c may. on.named c (keeps Super (λ e. cc (e)) c may);
        logs = λ c may. on.logs c (keeps log.area (λ e. pages-apart log.area on.area (sym e)) c may);
        commit_byte = on.commit_byte;
      }

  -- ---- an image joins the tail

  imaged-own : (v : LoggedView D) (page : ℕ) (now : List PageMark) (peak : ℕ) → IsKept may_leave v → v.failed ≡ None → 8 * page < v.journal.history.ids
      → (held : List (PageCell v.journal.history.slots)) → AreTyped held → HoldsPage (cells_of v.journal) page held → AreMarkedBy (Image page held) v.marks now
      → bytes_owed (end_of v.journal.history) + length (record_bytes (Image page held)) ≤ v.log.room → bytes_counted v + length (record_bytes (Image page held)) ≤ most_bytes
      → v.peak ≤ peak → bytes_counted v + length (record_bytes (Image page held)) ≤ peak
      → IsKept may_leave (record v { log = appended v.log (record_bytes (Image page held)); marks = now; peak = peak })
  imaged-own v page now peak kept running there held typed holds marked enough fits higher counted =
      let bytes = record_bytes (Image page held) in
      let stands = kept.standing running in
      let long = length-append v.log.tail bytes in
      let ids = stands.ids in
      let low : page < stands.pages = omega (arith, there, ids) in
      let all : HoldsPage (cells_after_notes v.journal.history.slots v.journal.opening (durable_notes v ++ drop v.durable v.journal.notes)) page held =
      subst (λ (ns : List Note). HoldsPage (cells_after_notes v.journal.history.slots v.journal.opening ns) page held) (sym (take-append-drop v.durable v.journal.notes)) holds in
      record {
        standing = λ _. record {
          stage = stands.stage;
          batches = stands.batches;
          on = on-same may_leave v.log (appended v.log bytes) v.disk v.disk stands.batches refl refl refl stands.on;
          pages = stands.pages;
          ids = stands.ids;
          records = holds-image may_leave v.journal.history.slots stands.pages v.journal.opening (durable_notes v) (drop v.durable v.journal.notes) v.marks v.disk stands.batches v.log.tail stands.records page held now low typed all marked;
          long = stands.long;
          room = omega (arith, enough);
          bounded = omega (arith, long, fits);
          peak = omega (arith, long, counted);
        };
        inside = kept.inside;
        many = let many = kept.many in let same = marked.as_many in omega (arith, many, same);
        lasting = kept.lasting;
        images = λ image may. left image (kept.images image may);
        granted = kept.granted;
        typed = kept.typed;
        full = λ is. let before = kept.full is in omega (arith, before, higher);
      }
    where
      left : (image : Bytes) → MayBeLeft v image → MayBeLeft (record v { log = appended v.log (record_bytes (Image page held)); marks = now; peak = peak }) image
      left image (durable is) = durable is
      left image (failed f told is) = failed f told is

  -- the same with the number of slots that the program has
  pub kept-imaged : (slots : ℕ) (v : LoggedView D) (page : ℕ) (held : List (PageCell slots)) (now : List PageMark) (log : LogState) (peak : ℕ) → v.journal.history.slots ≡ slots → IsKept may_leave v → v.failed ≡ None → 8 * page < v.journal.history.ids
      → AreTyped held → HoldsPage (cells_of v.journal) page held → AreMarkedBy (Image page held) v.marks now
      → bytes_owed (end_of v.journal.history) + length (record_bytes (Image page held)) ≤ v.log.room → bytes_counted v + length (record_bytes (Image page held)) ≤ most_bytes
      → v.peak ≤ peak → bytes_counted v + length (record_bytes (Image page held)) ≤ peak → log ≡ appended v.log (record_bytes (Image page held))
      → IsKept may_leave (record v { log = log; marks = now; peak = peak })
  kept-imaged slots v page held now log peak own kept running there typed holds marked enough fits higher counted is =
      subst (λ (l : LogState). IsKept may_leave (record v { log = l; marks = now; peak = peak })) (sym is)
      (subst
      (λ (s : ℕ). (held : List (PageCell s)) → AreTyped held → HoldsPage (cells_of v.journal) page held → AreMarkedBy (Image page held) v.marks now
      → bytes_owed (end_of v.journal.history) + length (record_bytes (Image page held)) ≤ v.log.room → bytes_counted v + length (record_bytes (Image page held)) ≤ most_bytes
      → v.peak ≤ peak → bytes_counted v + length (record_bytes (Image page held)) ≤ peak
      → IsKept may_leave (record v { log = appended v.log (record_bytes (Image page held)); marks = now; peak = peak }))
      own (imaged-own v page now peak kept running there) held typed holds marked enough fits higher counted)

  -- ---- the tail is forced

  -- what a power loss may leave while it is
  pub forced-moments : (v : LoggedView D) (moment : D → ℕ) (left_since : D → ℕ → Bytes → Type 0) (now : D) (stands : IsStanding may_leave v)
      → LeavesOnlyImages moment left_since v.disk now (HasEither stands.batches (with_batch stands.batches v.log.tail))
      → LeavesOnlyImages moment left_since v.disk now (IsImageBut may_leave v.disk v.log.area (λ _. ⊤)) → LeavesOnlyImages moment left_since v.disk now (MayHaveAll v)
  forced-moments v moment left_since now stands run others =
      both (MayHaveAll v)
      (λ image has but.
      let may = but.others Pages (pages-apart v.log.area stands.on.area) in
      ⊎_elim
      (λ log. inl (durable (record { batches = stands.batches; log = log; hold = (stands.pages, stands.ids, (stands.records.hold image.pages may).have) })))
      (λ log. inr (record { batches = with_batch stands.batches v.log.tail; log = log; hold = (stands.pages, stands.ids, ((all-hold v stands v.disk (λ area may. may)).hold image.pages may).have) }))
      has)
      run others

  -- what is in use grows by five bytes at most
  pub forced-counted : (log : LogState) → used (forced log) ≤ used log + 5
  forced-counted log = let most = batch_length_most log.tail in omega (arith, most)

  pub kept-forced : (v : LoggedView D) (log : LogState) (now : D) (count peak : ℕ) → IsKept may_leave v → v.failed ≡ None → (stands : IsStanding may_leave v) → AreEntries v.journal → IsSafe v.journal
      → log ≡ forced v.log → count ≡ length v.journal.notes → bytes_counted v + 5 ≤ most_bytes → v.peak ≤ peak → used log + bytes_owed (end_of v.journal.history) ≤ peak
      → IsOn may_leave log now (with_batch stands.batches v.log.tail) → EachImage may_leave now (HasLog (with_batch stands.batches v.log.tail))
      → ((area : List ℕ) → may_leave now Pages area → may_leave v.disk Pages area)
      → IsKept may_leave (record v { log = log; disk = now; durable = count; peak = peak })
  kept-forced v log now count peak kept running stands entries safe is all fits higher counted on has keeps =
      let holds = all-hold v stands now keeps in
      let most = forced-counted v.log in
      let long = ap (λ (l : LogState). used l) is in
      let room = ap (λ (l : LogState). l.room) is in
      let every : length v.journal.notes ≤ count = omega (arith, all) in
      let some : take count v.journal.notes ≡ v.journal.notes = take_all count v.journal.notes every in
      record {
        standing = λ _. record {
          stage = ap (λ (l : LogState). l.stage) is ∙ stands.stage;
          batches = with_batch stands.batches v.log.tail;
          on = on;
          pages = stands.pages;
          ids = stands.ids;
          records = subst (λ (tail : List ℕ). HoldsNotes may_leave v.journal.history.slots stands.pages v.journal.opening (take count v.journal.notes) (drop count v.journal.notes) v.marks now (with_batch stands.batches v.log.tail) tail)
              (sym (ap (λ (l : LogState). l.tail) is)) (all-durable v.journal v.journal.history.slots stands.pages count v.marks now (with_batch stands.batches v.log.tail) every holds);
          long = λ area may. stands.long area (keeps area may);
          room = let enough = stands.room in omega (arith, enough, room);
          bounded = omega (arith, fits, most, long);
          peak = counted;
        };
        inside = omega (arith, all);
        many = kept.many;
        lasting = subst (λ (ns : List Note). IsDurable v.journal ns) (sym some) (durable-all v.journal entries safe);
        images = λ image may. durable (record {
          batches = with_batch stands.batches v.log.tail;
          log = has image may;
          hold = (stands.pages, stands.ids, subst (λ (ns : List Note). Rattle.logged_journal.specs.Records.HaveRecords v.journal.history.slots stands.pages v.journal.opening image.pages ns (with_batch stands.batches v.log.tail)) (sym some) (holds.hold image.pages (may Pages)).have);
        });
        granted = kept.granted;
        typed = kept.typed;
        full = λ is. let before = kept.full is in omega (arith, before, higher);
      }

  -- ---- the disk failed it

  pub kept-stopped : (v : LoggedView D) (log : LogState) (now : D) (faults : ℕ) → IsKept may_leave v → v.failed ≡ None → EachImage may_leave now (MayHaveAll v)
      → IsKept may_leave (record v { log = log; disk = now; failed = Some (record { commit = None; faults = faults }) })
  kept-stopped v log now faults kept running images =
      record {
        standing = λ is. absurd (cc (is));
        inside = kept.inside;
        many = kept.many;
        lasting = kept.lasting;
        images = λ image may. ⊎_elim (λ before. left image before) (λ all. failed (record { commit = None; faults = faults }) refl all) (images image may);
        granted = tt;
        typed = kept.typed;
        full = kept.full;
      }
    where
      left : (image : Bytes) → MayBeLeft v image → MayBeLeft (record v { log = log; disk = now; failed = Some (record { commit = None; faults = faults }) }) image
      left image (durable is) = durable is
      left image (failed f told is) = absurd (cc (running, told))

  -- ---- the pages area

  -- so is what may be left in it, each image has what it had before
  pub kept-disk : (v : LoggedView D) (now : D) → IsKept may_leave v → (stands : IsStanding may_leave v) → IsOn may_leave v.log now stands.batches
      → Leaves may_leave now Pages (λ area. HaveMarked stands.pages v.journal.opening area (durable_notes v) stands.batches stands.records.rs v.marks)
      → Leaves may_leave now Pages (λ area. page_size v.journal.history.slots * stands.pages ≤ length area) → IsKept may_leave (record v { disk = now })
  kept-disk v now kept stands on hold long =
      let bounded = stands.bounded in
      record {
        standing = λ _. record {
          stage = stands.stage;
          batches = stands.batches;
          on = on;
          pages = stands.pages;
          ids = stands.ids;
          records = record { rs = stands.records.rs; behind = stands.records.behind; hold = hold };
          long = long;
          room = stands.room;
          bounded = stands.bounded;
          peak = stands.peak;
        };
        inside = kept.inside;
        many = kept.many;
        lasting = kept.lasting;
        images = λ image may. durable (record {
          batches = stands.batches;
          log = has-log v.log now stands.batches on (omega (arith, bounded)) image (may Super) (may v.log.area);
          hold = (stands.pages, stands.ids, (hold image.pages (may Pages)).have);
        });
        granted = kept.granted;
        typed = kept.typed;
        full = kept.full;
      }

  -- nothing new may be left there
  pub kept-still : (v : LoggedView D) (now : D) → IsKept may_leave v → v.failed ≡ None → ((area : Area) (c : List ℕ) → may_leave now area c → may_leave v.disk area c) → IsKept may_leave (record v { disk = now })
  kept-still v now kept running keeps =
      let stands = kept.standing running in
      kept-disk v now kept stands (on-others v.log v.disk now stands.batches (λ area apart c may. keeps area c may) stands.on)
      (λ area may. stands.records.hold area (keeps Pages area may)) (λ area may. stands.long area (keeps Pages area may))

  -- with any bytes in pages that have images the log has the same records
  pub torn-marked : {slots : ℕ} (pages : ℕ) (opening : List Cell) (notes : List Note) (batches : List (List ℕ)) (rs : List (Record slots)) (marks : List PageMark) («first» count : ℕ) (was area : List ℕ)
      → (h : HaveMarked pages opening was notes batches rs marks) → page_size slots * pages ≤ length was
      → ((page : ℕ) → «first» ≤ page → page < «first» + count → is_imaged page (all_of (h.have.earlier ++ h.have.parts)) ≡ true) → AreTorn slots «first» count was area
      → HaveMarked pages opening area notes batches rs marks
  torn-marked {slots} pages opening notes batches rs marks first count was area h long imaged torn =
      let have = h.have in
      record {
        have = record {
          opens = have.opens;
          «first» = have.first;
          later = have.later;
          split = have.split;
          over = have.over;
          sound = have.sound;
          before = have.before;
          earlier = have.earlier;
          began = have.began;
          parts = have.parts;
          logged = have.logged;
          images = have.images;
          same = any_bytes slots pages first count (all_of (have.earlier ++ have.parts)) have.before was area have.same long imaged torn;
          are = have.are;
        };
        marked = h.marked;
      }

  -- ---- upkeep enters the history

  -- an empty tail makes all notes durable
  pub kept-all : (v : LoggedView D) (count : ℕ) → IsKept may_leave v → v.failed ≡ None → AreEntries v.journal → IsSafe v.journal → v.log.tail ≡ [] → count ≡ length v.journal.notes → IsKept may_leave (record v { durable = count })
  kept-all v count kept running entries safe empty all =
      let stands = kept.standing running in
      let bounded = stands.bounded in
      let every : length v.journal.notes ≤ count = omega (arith, all) in
      let some : take count v.journal.notes ≡ v.journal.notes = take_all count v.journal.notes every in
      let holds : HoldsNotes may_leave v.journal.history.slots stands.pages v.journal.opening v.journal.notes [] v.marks v.disk stands.batches [] =
      subst (λ (tail : List ℕ). HoldsNotes may_leave v.journal.history.slots stands.pages v.journal.opening v.journal.notes [] v.marks v.disk (with_batch stands.batches tail) []) empty (all-hold v stands v.disk (λ area may. may)) in
      record {
        standing = λ _. record {
          stage = stands.stage;
          batches = stands.batches;
          on = stands.on;
          pages = stands.pages;
          ids = stands.ids;
          records = subst (λ (tail : List ℕ). HoldsNotes may_leave v.journal.history.slots stands.pages v.journal.opening (take count v.journal.notes) (drop count v.journal.notes) v.marks v.disk stands.batches tail)
              (sym empty) (all-durable v.journal v.journal.history.slots stands.pages count v.marks v.disk stands.batches every holds);
          long = stands.long;
          room = stands.room;
          bounded = stands.bounded;
          peak = stands.peak;
        };
        inside = omega (arith, all);
        many = kept.many;
        lasting = subst (λ (ns : List Note). IsDurable v.journal ns) (sym some) (durable-all v.journal entries safe);
        images = λ image may. durable (record {
          batches = stands.batches;
          log = has-log v.log v.disk stands.batches stands.on (omega (arith, bounded)) image (may Super) (may v.log.area);
          hold = (stands.pages, stands.ids, subst (λ (ns : List Note). Rattle.logged_journal.specs.Records.HaveRecords v.journal.history.slots stands.pages v.journal.opening image.pages ns stands.batches) (sym some) (holds.hold image.pages (may Pages)).have);
        });
        granted = kept.granted;
        typed = kept.typed;
        full = kept.full;
      }

  -- an entry of upkeep, which logs nothing
  pub kept-entry : (slots : ℕ) (v : LoggedView D) (entry : Entry) → IsKept may_leave v → v.failed ≡ None → IsUpkeep (end_of v.journal.history) entry → IsKept may_leave (record v { journal = with_upkeep slots v.journal entry })
  kept-entry slots v entry kept running upkeep =
      let stands = kept.standing running in
      let room = stands.room in
      let bounded = stands.bounded in
      let peak = stands.peak in
      let owed : bytes_owed (end_of (with_entry v.journal.history entry)) ≡ bytes_owed (end_of v.journal.history) = ap bytes_owed (end_of-with_entry v.journal.history entry) ∙ ap bytes_owed (upkeep-stays (end_of v.journal.history) entry upkeep) in
      kept-event may_leave v (record v { journal = with_upkeep slots v.journal entry }) (record { entry = entry; logged = None; left = left_of slots v.journal.round; act = Other }) kept
      (record {
        note = record { entry = refl; noted = refl; opening = refl };
        limits = refl;
        area = refl;
        stage = refl;
        offset = refl;
        tail = sym (append-nil v.log.tail);
        disk = refl;
        durable = refl;
        marked = refl;
        running = (running, running);
        log_full = refl;
        unpromised = upkeep-unpromised (end_of v.journal.history) entry upkeep;
        typed = tt;
        room = omega (arith, owed, room);
        bounded = omega (arith, owed, bounded);
        peak = omega (arith, owed, peak);
        higher = omega (arith);
      })

  -- room for it was asked for
  pub kept-entry-room : (v : LoggedView D) (j : JournalView) (marks : Marks) (reserved : Bool) → j ≡ record v.journal { marks = marks; reserved = reserved } → IsKept may_leave v → IsKept may_leave (record v { journal = j })
  kept-entry-room v j marks reserved is kept = subst (λ (k : JournalView). IsKept may_leave (record v { journal = k })) (sym is) (kept-room may_leave v marks reserved v.log.room kept (omega (arith)))
