-- The steps of a turn one after another.
use Rattle.std.proofs.Common.{◌≡◌, inl, ℕ, zero, suc, ◌+◌, ◌<◌, ◌≤◌, max, Bool, true, false, List, [], length, None, refl, sym, ◌∙◌, ap, subst, arith}
use Rattle.std.specs.Prelude.{if◌then◌else◌, replicate}
use Rattle.disk_model.specs.Areas.{Bytes}
use Rattle.disk_model.specs.Time.{LeavesOnlyImages}
use Rattle.disk_model.proofs.Moments.{weaken, and_then}
use Rattle.disk_model.specs.declared.area.Area.{Area}
use Rattle.plain_model.specs.declared.calls.Entry.TheVariants.{Hidden}
use Rattle.plain_model.specs.History.{end_of, least_active}
use Rattle.plain_model.proofs.HistoryLemmas.{end_of-with_entry}
use Rattle.gate_log.specs.State.{LogState, used, turned, other_log}
use Rattle.page_marks.specs.declared.marks.PageMark.{PageMark}
use Rattle.page_marks.specs.Marks.{unmarked}
use Rattle.core_store.specs.declared.frame.Frame.{Frame}
use Rattle.core_store.specs.JournalView.{JournalView}
use Rattle.core_store.specs.Owed.{bytes_owed}
use Rattle.core_store.specs.Upkeep.{with_upkeep}
use Rattle.logged_journal.specs.View.{LoggedView, bytes_counted, mark_at, image_need}
use Rattle.logged_journal.specs.Records.{MayBeLeft, durable, failed, MayHaveAll}
use Rattle.logged_journal.specs.Kept.{IsKept}
use Rattle.logged_journal.specs.Upkeep.{ForcesAll, OnlyDisk, Turns}
use Rattle.logged_journal.specs.Checkpoints.{has_changed, changed_below, imaged, LogsImages, AreCurrent, BeginsAnew}
use Rattle.logged_journal.proofs.Counting.{count_with, count_without}
use Rattle.logged_journal.proofs.Upkeeps.{have-same, have-all}
use Rattle.logged_journal.proofs.CleanSteps.{LeadsOn, leads-then, leads-forced}
use Rattle.logged_journal.proofs.CheckpointBegins.{idle-owes}

-- ---- marks after the images

imaged-changed : (m : PageMark) → (imaged m).changed ≡ m.changed
imaged-changed m = by m.changed refl
  where
    by : (b : Bool) → m.changed ≡ b → (imaged m).changed ≡ m.changed
    by true is = ap (λ (x : Bool). (if x then record { changed = true; current = true } else m).changed) is ∙ sym is
    by false is = ap (λ (x : Bool). (if x then record { changed = true; current = true } else m).changed) is

imaged-current : (m : PageMark) → (imaged m).changed ≡ true → (imaged m).current ≡ true
imaged-current m is = ap (λ (x : Bool). (if x then record { changed = true; current = true } else m).current) (sym (imaged-changed m) ∙ is)

-- as many pages changed
count-same : (old new : List PageMark) (n : ℕ) → ((page : ℕ) → page < n → has_changed new page ≡ has_changed old page) → length (changed_below new n) ≡ length (changed_below old n)
count-same old new zero same = refl
count-same old new (suc n) same =
    let before = count-same old new n (λ page low. same page (omega (arith, low))) in
    let next : n + 1 ≡ suc n = omega arith in
    subst (λ (k : ℕ). length (changed_below new k) ≡ length (changed_below old k)) next (by (has_changed old n) refl before)
  where
    by : (b : Bool) → has_changed old n ≡ b → length (changed_below new n) ≡ length (changed_below old n) → length (changed_below new (n + 1)) ≡ length (changed_below old (n + 1))
    by true is before =
        let a = count_with (has_changed old) n is in
        let b = count_with (has_changed new) n (same n (omega arith) ∙ is) in
        omega (arith, a, b, before)
    by false is before =
        let a = count_without (has_changed old) n is in
        let b = count_without (has_changed new) n (same n (omega arith) ∙ is) in
        omega (arith, a, b, before)

module _ {D : Type 0} {slots : ℕ} (frames : List (Frame slots)) (old imaged_ : LoggedView D) (h : LogsImages frames (length old.marks) old imaged_) where
  pub images-current : AreCurrent imaged_.marks
  images-current page low changed =
      let many = h.many in
      let is = h.below page (omega (arith, low, many)) (omega (arith, low, many)) in
      ap (λ (m : PageMark). m.current) is ∙ imaged-current (mark_at old.marks page) (sym (ap (λ (m : PageMark). m.changed) is) ∙ changed)

  pub images-changed : length (changed_below imaged_.marks (length imaged_.marks)) ≡ length (changed_below old.marks (length old.marks))
  images-changed =
      ap (λ (n : ℕ). length (changed_below imaged_.marks n)) h.many
      ∙ count-same old.marks imaged_.marks (length old.marks) (λ page low. ap (λ (m : PageMark). m.changed) (h.below page low low) ∙ imaged-changed (mark_at old.marks page))

  pub leads-images : bytes_counted old ≤ bytes_counted imaged_ → LeadsOn old imaged_
  leads-images counted = record {
    journal = ap (λ (v : LoggedView D). v.journal) h.same;
    durable = inl (ap (λ (v : LoggedView D). v.durable) h.same);
    running = ap (λ (v : LoggedView D). v.failed) h.same;
    log_full = ap (λ (v : LoggedView D). v.log_full) h.same;
    peak = ap (λ (v : LoggedView D). v.peak) h.same;
    counted = counted;
    opened = ap (λ (v : LoggedView D). v.opened) h.same;
  }

-- only the disk changed
pub leads-only : {D : Type 0} (old new : LoggedView D) → bytes_counted old ≤ old.peak → OnlyDisk old new → LeadsOn old new
leads-only old new most is =
    let counted = ap (λ (v : LoggedView _). bytes_counted v) is in
    let peak = ap (λ (v : LoggedView _). v.peak) is in
    record {
      journal = ap (λ (v : LoggedView _). v.journal) is;
      durable = inl (ap (λ (v : LoggedView _). v.durable) is);
      running = ap (λ (v : LoggedView _). v.failed) is;
      log_full = ap (λ (v : LoggedView _). v.log_full) is;
      peak = omega (arith, counted, peak, most);
      counted = omega (arith, counted);
      opened = ap (λ (v : LoggedView _). v.opened) is;
    }

-- ---- a turn

module _ {D : Type 0} {slots : ℕ} (frames : List (Frame slots)) (v images_ all : LoggedView D) (running : v.failed ≡ None) (logs : LogsImages frames (length v.marks) v images_) (forces : ForcesAll images_ all) (counted : bytes_counted v ≤ bytes_counted images_) where
  pub leads-all : LeadsOn v all
  leads-all = leads-then v images_ all (leads-images frames v images_ logs counted) (leads-forced images_ all forces)

  pub all-runs : all.failed ≡ None
  all-runs = leads-all.running ∙ running

  pub all-durable : all.durable ≡ length v.journal.notes
  all-durable = ap (λ (w : LoggedView D). w.durable) forces ∙ ap (λ (w : LoggedView D). length w.journal.notes) logs.same

  pub all-marks : all.marks ≡ images_.marks
  all-marks = ap (λ (w : LoggedView D). w.marks) forces

  pub all-empty : all.log.tail ≡ []
  all-empty = ap (λ (w : LoggedView D). w.log.tail) forces

  pub all-peak : bytes_counted all ≤ all.peak
  all-peak = let peak = ap (λ (w : LoggedView D). w.peak) forces in omega (arith, peak)

  -- at each moment of the force
  pub forced-moments : (moment : D → ℕ) (left_since : D → ℕ → Bytes → Type 0) (now : D) → LeavesOnlyImages moment left_since images_.disk now (MayHaveAll images_) → LeavesOnlyImages moment left_since v.disk now (MayHaveAll v)
  forced-moments moment left_since now run =
      subst (λ (d : D). LeavesOnlyImages moment left_since d now (MayHaveAll v)) (ap (λ (w : LoggedView D). w.disk) logs.same)
      (weaken (MayHaveAll v) (λ image has. have-same v images_ image (ap (λ (w : LoggedView D). w.journal) logs.same) (ap (λ (w : LoggedView D). w.durable) logs.same) (ap (λ (w : LoggedView D). w.failed) logs.same) has) run)

  -- and while the pages are placed
  pub placed-moments : (moment : D → ℕ) (left_since : D → ℕ → Bytes → Type 0) (now : D) → LeavesOnlyImages moment left_since images_.disk all.disk (MayHaveAll images_) → LeavesOnlyImages moment left_since all.disk now (MayHaveAll all)
      → LeavesOnlyImages moment left_since v.disk now (MayHaveAll v)
  placed-moments moment left_since now run next =
      and_then (MayHaveAll v) (λ image has. has) (λ image has. have-all v all image leads-all.journal all-durable all-runs has) (forced-moments moment left_since all.disk run) next

  module _ (placed : LoggedView D) (only : OnlyDisk all placed) where
    pub leads-placed : LeadsOn v placed
    leads-placed = leads-then v all placed leads-all (leads-only all placed all-peak only)

    pub placed-durable : placed.durable ≡ length v.journal.notes
    placed-durable = ap (λ (w : LoggedView D). w.durable) only ∙ all-durable

    -- and while the log begins anew
    pub anew-moments : (moment : D → ℕ) (left_since : D → ℕ → Bytes → Type 0) (now : D) → LeavesOnlyImages moment left_since images_.disk all.disk (MayHaveAll images_) → LeavesOnlyImages moment left_since all.disk placed.disk (MayHaveAll all)
        → LeavesOnlyImages moment left_since placed.disk now (MayHaveAll placed) → LeavesOnlyImages moment left_since v.disk now (MayHaveAll v)
    anew-moments moment left_since now run next last =
        and_then (MayHaveAll v) (λ image has. has) (λ image has. have-all v placed image leads-placed.journal placed-durable (leads-placed.running ∙ running) has) (placed-moments moment left_since placed.disk run next) last

    -- the log stands where it stood
    pub placed-area : placed.log.area ≡ v.log.area
    placed-area = ap (λ (w : LoggedView D). w.log.area) only ∙ ap (λ (w : LoggedView D). w.log.area) forces ∙ ap (λ (l : LogState). l.area) logs.log

    module _ (pages : ℕ) (anew hidden : LoggedView D) (begins : BeginsAnew slots pages placed anew) (hides : hidden ≡ record anew { journal = with_upkeep slots anew.journal Hidden; durable = length hidden.journal.notes })
        (idle : least_active (end_of v.journal.history).state ≡ None) where
      hidden-journal : hidden.journal ≡ with_upkeep slots v.journal Hidden
      hidden-journal = ap (λ (w : LoggedView D). w.journal) hides ∙ ap (λ (w : LoggedView D). with_upkeep slots w.journal Hidden) begins ∙ ap (λ (j : JournalView). with_upkeep slots j Hidden) leads-placed.journal

      hidden-log : hidden.log ≡ turned placed.log (Rattle.opened_images.specs.LogRecords.body_of (Rattle.opened_images.specs.LogRecords.first_records slots pages))
      hidden-log = ap (λ (w : LoggedView D). w.log) hides ∙ ap (λ (w : LoggedView D). w.log) begins

      -- nobody owes bytes
      pub hidden-owes : bytes_owed (end_of hidden.journal.history) ≡ 0
      hidden-owes = ap (λ (j : JournalView). bytes_owed (end_of j.history)) hidden-journal ∙ ap bytes_owed (end_of-with_entry v.journal.history Hidden) ∙ idle-owes (end_of v.journal.history) idle

      pub hidden-runs : hidden.failed ≡ None
      hidden-runs = ap (λ (w : LoggedView D). w.failed) hides ∙ ap (λ (w : LoggedView D). w.failed) begins ∙ leads-placed.running ∙ running

      pub hidden-full : hidden.log_full ≡ v.log_full
      hidden-full = ap (λ (w : LoggedView D). w.log_full) hides ∙ ap (λ (w : LoggedView D). w.log_full) begins ∙ leads-placed.log_full

      pub hidden-limits : hidden.journal.limits ≡ v.journal.limits
      hidden-limits = ap (λ (j : JournalView). j.limits) hidden-journal

      -- the log was turned
      pub turns : (new : LoggedView D) (peak : ℕ) → peak ≡ max v.peak (used hidden.log) → new ≡ record hidden { peak = peak } → Turns slots v new
      turns new peak most lowers =
          let owes = hidden-owes in
          let journal = ap (λ (w : LoggedView D). w.journal) lowers in
          let owed : bytes_owed (end_of new.journal.history) ≡ bytes_owed (end_of hidden.journal.history) = ap (λ (j : JournalView). bytes_owed (end_of j.history)) journal in
          let long = ap (λ (w : LoggedView D). used w.log) lowers in
          let high = ap (λ (w : LoggedView D). w.peak) lowers in
          let log : new.log ≡ turned placed.log (Rattle.opened_images.specs.LogRecords.body_of (Rattle.opened_images.specs.LogRecords.first_records slots pages)) = ap (λ (w : LoggedView D). w.log) lowers ∙ hidden-log in
          record {
            does = record {
              journal = journal ∙ hidden-journal;
              durable = ap (λ (w : LoggedView D). w.durable) lowers ∙ ap (λ (w : LoggedView D). w.durable) hides ∙ ap (λ (j : JournalView). length j.notes) (sym journal);
              tail = ap (λ (l : LogState). l.tail) log;
              running = ap (λ (w : LoggedView D). w.failed) lowers ∙ hidden-runs;
              log_full = ap (λ (w : LoggedView D). w.log_full) lowers ∙ hidden-full;
              peak = omega (arith, high, most, long, owed, owes);
              opened = ap (λ (w : LoggedView D). w.opened) lowers ∙ ap (λ (w : LoggedView D). w.opened) hides ∙ ap (λ (w : LoggedView D). w.opened) begins ∙ leads-placed.opened;
            };
            area = ap (λ (l : LogState). l.area) log ∙ ap other_log placed-area;
            first = ap (λ (l : LogState). l.durable) log;
            marks = ap (λ (w : LoggedView D). w.marks) lowers ∙ ap (λ (w : LoggedView D). w.marks) hides ∙ ap (λ (w : LoggedView D). w.marks) begins
                ∙ ap (λ (n : ℕ). replicate n unmarked) (ap (λ (w : LoggedView D). length w.marks) only ∙ ap (λ (w : LoggedView D). length w.marks) forces ∙ logs.many);
          }

-- ---- the peak is set back

pub kept-peak : {D : Type 0} (may_leave : D → Area → List ℕ → Type 0) (v : LoggedView D) (peak : ℕ) → IsKept may_leave v → bytes_counted v ≤ peak → (v.log_full ≡ true → v.journal.limits.log < peak + image_need v.journal.history.slots)
    → IsKept may_leave (record v { peak = peak })
kept-peak may_leave v peak kept counted full =
    record {
      standing = λ running. let stands = kept.standing running in record {
        stage = stands.stage;
        batches = stands.batches;
        on = stands.on;
        pages = stands.pages;
        ids = stands.ids;
        records = stands.records;
        long = stands.long;
        room = stands.room;
        bounded = stands.bounded;
        peak = counted;
      };
      inside = kept.inside;
      many = kept.many;
      lasting = kept.lasting;
      images = λ image may. left image (kept.images image may);
      granted = kept.granted;
      typed = kept.typed;
      full = full;
    }
  where
    left : (image : Bytes) → MayBeLeft v image → MayBeLeft (record v { peak = peak }) image
    left image (durable is) = durable is
    left image (failed f told is) = failed f told is
