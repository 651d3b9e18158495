-- The log begins anew, where all pages stand in place and no transaction is active.
use Rattle.std.proofs.Common.{◌≡◌, inl, inr, ⊎_elim, ℕ, ◌+◌, ◌*◌, ◌<◌, ◌≤◌, max, false, List, [], ◌∷◌, ◌++◌, length, drop, map, Some, None, refl, sym, ◌∙◌, ap, subst, arith}
use Rattle.std.specs.Prelude.{replicate}
use Rattle.std.specs.Option.{option_and_then}
use Rattle.std.proofs.lemmas.List.{append-nil, take_all, length-replicate, get_or_past}
use Rattle.std.proofs.lemmas.Bool.{cases_lt}
use Rattle.disk_model.specs.declared.area.Area.{Area}
use Rattle.disk_model.specs.declared.area.Area.TheVariants.{Pages, Super}
use Rattle.disk_model.specs.Areas.{Bytes, in_area}
use Rattle.disk_model.specs.Told.{EachImage}
use Rattle.disk_model.specs.Time.{LeavesOnlyImages}
use Rattle.plain_model.specs.Graphs.{root}
use Rattle.plain_model.specs.ActiveTransaction.{ActiveTransaction}
use Rattle.plain_model.specs.Machine.{State}
use Rattle.plain_model.specs.History.{Moment, end_of, least_active}
use Rattle.plain_model.proofs.StepLaws.{end_of-ids}
use Rattle.cell_model.specs.Cells.{Cell, blank_cell}
use Rattle.cell_model.specs.Consistent.{AreConsistent}
use Rattle.log_record.specs.declared.record.Record.{Record}
use Rattle.gate_log.specs.Batches.{IsLog, most_bytes}
use Rattle.gate_log.specs.State.{LogState, used, turned}
use Rattle.gate_log.specs.OnDisk.{IsOn, HasLog, HasEither}
use Rattle.store_model.specs.Sound.{Kept, as_root}
use Rattle.restart_laws.specs.Unended.{unended_after_all}
use Rattle.restart_laws.specs.Told.{told_of}
use Rattle.opened_images.specs.LogRecords.{body_of, bodies_of, all_of, first_records}
use Rattle.opened_images.specs.GoesOn.{IsBegun}
use Rattle.opened_images.specs.Marks.{StandsInPlace}
use Rattle.opened_images.proofs.Checkpoints.{begins_anew}
use Rattle.page_marks.specs.declared.marks.PageMark.{PageMark}
use Rattle.page_marks.specs.Marks.{unmarked, AreMarks}
use Rattle.page_marks.proofs.MarkLaws.{first-marks}
use Rattle.core_store.specs.declared.note.Note.{Note}
use Rattle.core_store.specs.JournalView.{JournalView, logged_in, cells_of, cells_after_notes}
use Rattle.core_store.specs.Owed.{bytes_owed}
use Rattle.core_store.specs.Safe.{IsSafe}
use Rattle.logged_journal.specs.View.{LoggedView}
use Rattle.logged_journal.specs.Records.{HaveMarked, HoldsNotes, durable_notes, MayBeLeft, durable, MayHaveAll}
use Rattle.logged_journal.specs.Kept.{IsKept, IsStanding}
use Rattle.logged_journal.specs.Upkeep.{IsTurned}
use Rattle.logged_journal.proofs.Commits.{both}
use Rattle.logged_journal.proofs.HeldRecords.{tail-empty}
use Rattle.logged_journal.proofs.ImagesOpen.{TellsItself}
use Rattle.logged_journal.proofs.PagesKept.{fit-store}
use Rattle.logged_journal.proofs.Upkeeps.{all-durable}

-- ---- no transaction is active

none-active : (s : State) → least_active s ≡ None → s.active ≡ []
none-active s none = by s.active refl
  where
    by : (es : List (ℕ × ActiveTransaction)) → s.active ≡ es → es ≡ []
    by [] e = refl
    by (x ∷ es) e = absurd (let some : Some x.0 ≡ None = subst (λ (l : List (ℕ × ActiveTransaction)). least_active (record s { active = l }) ≡ None) e none in cc (some))

-- nobody owes bytes
pub idle-owes : (m : Moment) → least_active m.state ≡ None → bytes_owed m ≡ 0
idle-owes m none = ap (λ (es : List (ℕ × ActiveTransaction)). Rattle.std.specs.List.sum_by (λ e. 25 * Rattle.plain_model.specs.History.left_to_undo m e.0 + 7) es) (none-active m.state none)

-- the records tell of no transaction that hasn't ended
idle-over : (j : JournalView) → IsSafe j → least_active (end_of j.history).state ≡ None → unended_after_all [] (logged_in j.notes) ≡ []
idle-over j safe none = safe.tells ∙ ap (λ (es : List (ℕ × ActiveTransaction)). map (λ e. (e.0, told_of (end_of j.history) e)) es) (none-active (end_of j.history).state none)

-- a store has an id, that of its root
pub some-id : (j : JournalView) → IsSafe j → 1 ≤ j.history.ids
some-id j safe =
    let live = (safe.sound.kept root (Kept.start root (as_root refl))).live in
    let sized = safe.sound.consistent.sized in
    let ids = end_of-ids j.history in
    ⊎_elim (λ (low : root < length (cells_of j)). omega (arith, low, sized, ids))
    (λ (past : length (cells_of j) ≤ root). absurd (let e = sym (ap (λ (c : Cell). c.live) (get_or_past (cells_of j) root (blank_cell false 0) past)) ∙ live in cc (e)))
    (cases_lt root (length (cells_of j)))

-- ---- the one batch

no-bodies : {slots : ℕ} (batches : List (List (Record slots))) → [] ≡ bodies_of batches → batches ≡ []
no-bodies [] e = refl
no-bodies (b ∷ bs) e = absurd (cc (e))

tail-of : {X : Type 0} (a b : X) (xs ys : List X) → a ∷ xs ≡ b ∷ ys → xs ≡ ys
tail-of a b xs ys e = ap (λ (l : List _). drop 1 l) e

-- where all pages stand in place the one batch has the records of all notes
pub anew-records : (slots pages many : ℕ) (j : JournalView) (area : List ℕ) → TellsItself slots j → j.history.slots ≡ slots → j.history.ids ≡ 8 * pages → least_active (end_of j.history).state ≡ None → 1 ≤ pages → pages ≤ 1024
    → ((page : ℕ) → page < pages → StandsInPlace slots area (cells_of j) page)
    → HaveMarked {slots = j.history.slots} pages j.opening area j.notes (body_of (first_records j.history.slots pages) ∷ []) [] (replicate many unmarked)
anew-records slots pages many j area t own ids idle some few stand =
    let s = j.history.slots in
    let cells = cells_of j in
    let fits = fit-store slots j pages t own ids in
    let begun : IsBegun s pages area (body_of (first_records s pages) ∷ []) cells =
    begins_anew s pages area cells some few fits.after (λ page low. subst (λ (k : ℕ). StandsInPlace k area cells page) (sym own) (stand page low)) in
    let none : begun.0 ≡ [] = no-bodies begun.0 (tail-of (body_of (first_records s pages)) (body_of (first_records s pages)) [] (bodies_of begun.0) begun.1) in
    let all : all_of (begun.0 ++ []) ++ [] ≡ [] = ap (λ (bs : List (List (Record s))). all_of (bs ++ []) ++ []) none in
    record {
      have = record {
        opens = subst (λ (k : ℕ). AreConsistent k (8 * pages) j.opening) (sym own) (subst (λ (n : ℕ). AreConsistent slots n j.opening) ids (t.consistent [] j.notes refl));
        «first» = j.notes;
        later = [];
        split = sym (append-nil j.notes);
        over = idle-over j t.safe idle;
        sound = fits.after;
        before = area;
        earlier = begun.0;
        began = begun.2;
        parts = [];
        logged = refl;
        images = tt;
        same = λ page low none. refl;
        are = begun.1 ∙ ap (λ (bs : List (List (Record s))). body_of (first_records s pages) ∷ bodies_of bs) (sym (append-nil begun.0));
      };
      marked = subst (λ (rs : List (Record s)). AreMarks rs (replicate many unmarked)) (sym all) (first-marks s many);
    }

-- ---- the disk

module _ {D : Type 0} (may_leave : D → Area → List ℕ → Type 0) (slots : ℕ) (v : LoggedView D) (stands : IsStanding may_leave v) (tells : TellsItself slots v.journal) (own : v.journal.history.slots ≡ slots) (few : stands.pages ≤ 1024)
    (idle : least_active (end_of v.journal.history).state ≡ None) (stand : (page : ℕ) → page < stands.pages → (area : List ℕ) → may_leave v.disk Pages area → StandsInPlace slots area (cells_of v.journal) page) where
  -- the bytes of the one batch
  abbrev pub anew : List ℕ
  anew = body_of (first_records v.journal.history.slots stands.pages)

  pub anew-hold : (many : ℕ) (area : List ℕ) → may_leave v.disk Pages area → HaveMarked {slots = v.journal.history.slots} stands.pages v.journal.opening area v.journal.notes (anew ∷ []) [] (replicate many unmarked)
  anew-hold many area may =
      let id = some-id v.journal tells.safe in
      let ids = stands.ids in
      anew-records slots stands.pages many v.journal area tells own stands.ids idle (omega (arith, id, ids)) few (λ page low. stand page low area may)

  -- what a power loss may leave at each moment of it
  pub anew-moments : (moment : D → ℕ) (left_since : D → ℕ → Bytes → Type 0) (now : D) → LeavesOnlyImages moment left_since v.disk now (HasEither stands.batches (anew ∷ []))
      → LeavesOnlyImages moment left_since v.disk now (λ image. may_leave v.disk Pages (in_area image Pages)) → LeavesOnlyImages moment left_since v.disk now (MayHaveAll v)
  anew-moments moment left_since now run pages =
      both (MayHaveAll v)
      (λ image has may. ⊎_elim
      (λ log. inl (durable (record { batches = stands.batches; log = log; hold = (stands.pages, stands.ids, (stands.records.hold image.pages may).have) })))
      (λ log. inr (record { batches = anew ∷ []; log = log; hold = (stands.pages, stands.ids, (anew-hold 0 image.pages may).have) }))
      has)
      run pages

  -- what is kept after it
  pub kept-anew : (log : LogState) (now : D) (marks : List PageMark) (peak : ℕ) → IsKept may_leave v → v.durable ≡ length v.journal.notes → v.log.tail ≡ [] → log ≡ turned v.log anew
      → IsOn may_leave log now (anew ∷ []) → EachImage may_leave now (HasLog (anew ∷ [])) → ((area : List ℕ) → may_leave now Pages area → may_leave v.disk Pages area) → marks ≡ replicate (length v.marks) unmarked
      → v.peak ≤ peak → used log + bytes_owed (end_of v.journal.history) ≤ peak → IsKept may_leave (record v { log = log; disk = now; marks = marks; peak = peak })
  kept-anew log now marks peak kept all empty is on has keeps cleared higher counted =
      let s = v.journal.history.slots in
      let every : length v.journal.notes ≤ v.durable = omega (arith, all) in
      let some : durable_notes v ≡ v.journal.notes = take_all v.durable v.journal.notes every in
      let owed = idle-owes (end_of v.journal.history) idle in
      let long = ap (λ (l : LogState). used l) is in
      let room = ap (λ (l : LogState). l.room) is in
      let holds : HoldsNotes may_leave s stands.pages v.journal.opening v.journal.notes [] marks now (anew ∷ []) [] = record {
        rs = [];
        behind = tail-empty s stands.pages (cells_after_notes s v.journal.opening v.journal.notes) [] [] refl refl;
        hold = λ area may. subst (λ (ms : List PageMark). HaveMarked {slots = s} stands.pages v.journal.opening area v.journal.notes (anew ∷ []) [] ms) (sym cleared) (anew-hold (length v.marks) area (keeps area may));
      } in
      let durables = all-durable may_leave v.journal s stands.pages v.durable marks now (anew ∷ []) every holds in
      record {
        standing = λ _. record {
          stage = ap (λ (l : LogState). l.stage) is ∙ stands.stage;
          batches = anew ∷ [];
          on = on;
          pages = stands.pages;
          ids = stands.ids;
          records = subst (λ (tail : List ℕ). HoldsNotes may_leave s stands.pages v.journal.opening (durable_notes v) (drop v.durable v.journal.notes) marks now (anew ∷ []) tail) (sym (ap (λ (l : LogState). l.tail) is)) durables;
          long = λ area may. stands.long area (keeps area may);
          room = let enough = stands.room in omega (arith, owed);
          bounded = omega (arith, long, owed);
          peak = counted;
        };
        inside = kept.inside;
        many = (let many = kept.many in let same = ap (λ (ms : List PageMark). length ms) cleared ∙ length-replicate (length v.marks) unmarked in omega (arith, many, same));
        lasting = kept.lasting;
        images = λ image may. durable (record {
          batches = anew ∷ [];
          log = has image may;
          hold = (stands.pages, stands.ids, subst (λ (ns : List Note). Rattle.logged_journal.specs.Records.HaveRecords s stands.pages v.journal.opening image.pages ns (anew ∷ [])) (sym some) (holds.hold image.pages (may Pages)).have);
        });
        granted = kept.granted;
        typed = kept.typed;
        full = λ is. let before = kept.full is in omega (arith, before, higher);
      }

  -- and what each image has
  pub anew-turned : (log : LogState) (now : D) → log ≡ turned v.log anew → IsOn may_leave log now (anew ∷ []) → ((area : List ℕ) → may_leave now Pages area → may_leave v.disk Pages area)
      → EachImage may_leave now (IsTurned slots (cells_of v.journal) log.area)
  anew-turned log now is on keeps image may =
      let offset = ap (λ (l : LogState). l.durable) is in
      let short : max most_bytes (log.durable + 1) ≡ most_bytes = omega (arith, offset) in
      record {
        pages = stands.pages;
        whole = (let sized = tells.safe.sound.consistent.sized in let ids = end_of-ids v.journal.history in let count = stands.ids in omega (arith, sized, ids, count));
        named = on.named image.super_area (may Super);
        log = subst (λ (s : ℕ). IsLog most_bytes (body_of (first_records s stands.pages) ∷ []) (in_area image log.area)) own
            (subst (λ (most : ℕ). IsLog most (anew ∷ []) (in_area image log.area)) short (on.logs (in_area image log.area) (may log.area)));
        in_place = λ page low. stand page low image.pages (keeps image.pages (may Pages));
      }

-- ---- a journal whose log may begin anew

pub record IsReady {D : Type 0} (may_leave : D → Area → List ℕ → Type 0) (slots : ℕ) (v : LoggedView D) : Type 0 where
  pub kept : IsKept may_leave v
  pub running : v.failed ≡ None
  pub stands : IsStanding may_leave v
  pub tells : TellsItself slots v.journal
  pub own : v.journal.history.slots ≡ slots
  pub few : stands.pages ≤ 1024
  pub idle : least_active (end_of v.journal.history).state ≡ None
  pub all : v.durable ≡ length v.journal.notes
  pub empty : v.log.tail ≡ []
  pub stand : (page : ℕ) → page < stands.pages → (area : List ℕ) → may_leave v.disk Pages area → StandsInPlace slots area (cells_of v.journal) page

pub ready : {D : Type 0} (may_leave : D → Area → List ℕ → Type 0) (slots pages : ℕ) (v now : LoggedView D) → v ≡ now → IsKept may_leave v → TellsItself slots v.journal → v.journal.history.slots ≡ slots → length v.marks ≤ 1024
    → now.failed ≡ None → 8 * pages ≡ now.journal.history.ids → least_active (end_of now.journal.history).state ≡ None → now.durable ≡ length now.journal.notes → now.log.tail ≡ []
    → ((page : ℕ) → page < pages → (area : List ℕ) → may_leave now.disk Pages area → StandsInPlace slots area (cells_of now.journal) page) → IsReady may_leave slots v
ready may_leave slots pages v now is kept tells own few running ids idle all empty stand =
    let runs : v.failed ≡ None = subst (λ (w : LoggedView _). w.failed ≡ None) (sym is) running in
    let stands = kept.standing runs in
    let known : 8 * pages ≡ v.journal.history.ids = subst (λ (w : LoggedView _). 8 * pages ≡ w.journal.history.ids) (sym is) ids in
    let count = stands.ids in
    let many = kept.many in
    let there : (page : ℕ) → page < pages → (area : List ℕ) → may_leave v.disk Pages area → StandsInPlace slots area (cells_of v.journal) page =
    subst (λ (w : LoggedView _). (page : ℕ) → page < pages → (area : List ℕ) → may_leave w.disk Pages area → StandsInPlace slots area (cells_of w.journal) page) (sym is) stand in
    record {
      kept = kept;
      running = runs;
      stands = stands;
      tells = tells;
      own = own;
      few = omega (arith, count, many, few);
      idle = subst (λ (w : LoggedView _). least_active (end_of w.journal.history).state ≡ None) (sym is) idle;
      all = subst (λ (w : LoggedView _). w.durable ≡ length w.journal.notes) (sym is) all;
      empty = subst (λ (w : LoggedView _). w.log.tail ≡ []) (sym is) empty;
      stand = λ page low. there page (omega (arith, low, count, known));
    }

-- the first batch of a log of so many pages
pub first-bytes : (slots own pages count version : ℕ) (bytes : List ℕ) → own ≡ slots → 8 * pages ≡ 8 * count → version ≡ Rattle.log_record.specs.Spelling.known_version slots
    → bytes ≡ Rattle.log_record.specs.Spelling.record_bytes {slots = slots} (Rattle.log_record.specs.declared.record.Record.TheVariants.Turn version pages) → bytes ≡ body_of (first_records own count)
first-bytes slots own pages count version bytes same many known is =
    let equal : pages ≡ count = omega (arith, many) in
    is ∙ ap (λ (n : ℕ). Rattle.log_record.specs.Spelling.record_bytes {slots = slots} (Rattle.log_record.specs.declared.record.Record.TheVariants.Turn n pages)) known
    ∙ sym (append-nil (Rattle.log_record.specs.Spelling.record_bytes {slots = slots} (Rattle.log_record.specs.declared.record.Record.TheVariants.Turn (Rattle.log_record.specs.Spelling.known_version slots) pages)))
    ∙ ap (λ (n : ℕ). body_of (first_records slots n)) equal ∙ ap (λ (s : ℕ). body_of (first_records s count)) (sym same)

-- what the log's turn tells, of the disk and the bytes that it was handed
abbrev pub Runs : {D : Type 0} → (D → Area → List ℕ → Type 0) → (D → ℕ) → (D → ℕ → Bytes → Type 0) → LogState → List ℕ → D → D → Type 0
Runs may_leave moment left_since log «first» now before = (batches : List (List ℕ)) → IsOn may_leave log before batches → used log ≤ most_bytes → LeavesOnlyImages moment left_since before now (HasEither batches («first» ∷ []))

abbrev pub StaysInPlace : {D : Type 0} → (D → Area → List ℕ → Type 0) → (D → ℕ) → (D → ℕ → Bytes → Type 0) → D → D → Type 0
StaysInPlace may_leave moment left_since now before = LeavesOnlyImages moment left_since before now (λ image. may_leave before Pages (in_area image Pages))

module _ {D : Type 0} (may_leave : D → Area → List ℕ → Type 0) (slots : ℕ) (v : LoggedView D) (r : IsReady may_leave slots v) where
  abbrev pub batch : List ℕ
  batch = anew may_leave slots v r.stands r.tells r.own r.few r.idle r.stand

  pub turn-moments : (moment : D → ℕ) (left_since : D → ℕ → Bytes → Type 0) (before now : D) («first» : List ℕ) → before ≡ v.disk → «first» ≡ batch → Runs may_leave moment left_since v.log «first» now before → StaysInPlace may_leave moment left_since now before
      → LeavesOnlyImages moment left_since v.disk now (MayHaveAll v)
  turn-moments moment left_since before now first same bytes run pages =
      let bounded = r.stands.bounded in
      let runs : Runs may_leave moment left_since v.log batch now v.disk = subst (λ (d : D). Runs may_leave moment left_since v.log batch now d) same (subst (λ (b : List ℕ). Runs may_leave moment left_since v.log b now before) bytes run) in
      anew-moments may_leave slots v r.stands r.tells r.own r.few r.idle r.stand moment left_since now (runs r.stands.batches r.stands.on (omega (arith, bounded)))
      (subst (λ (d : D). StaysInPlace may_leave moment left_since now d) same pages)
