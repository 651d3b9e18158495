-- The steps of upkeep one after another, and a page that was cleaned by them.
use Rattle.std.proofs.Common.{◌≡◌, ◌⊎◌, inl, inr, ⊎_elim, ℕ, ◌≤◌, max, List, [], ◌∷◌, length, None, refl, sym, ◌∙◌, ap, subst, arith}
use Rattle.std.proofs.lemmas.List.{length-append}
use Rattle.disk_model.specs.Areas.{Bytes}
use Rattle.disk_model.specs.Time.{LeavesOnlyImages}
use Rattle.disk_model.proofs.Moments.{and_then, weaken}
use Rattle.plain_model.specs.declared.calls.Entry.TheVariants.{Hidden}
use Rattle.plain_model.specs.History.{end_of}
use Rattle.plain_model.proofs.HistoryLemmas.{end_of-with_entry}
use Rattle.cell_page.specs.declared.cell.Cell.{Cell as PageCell}
use Rattle.log_record.specs.declared.record.Record.TheVariants.{Image}
use Rattle.gate_log.specs.State.{LogState, used, appended, forced}
use Rattle.page_marks.specs.declared.marks.PageMark.{PageMark}
use Rattle.page_marks.specs.Marks.{AreMarkedBy}
use Rattle.core_store.specs.JournalView.{JournalView}
use Rattle.core_store.specs.Owed.{bytes_owed}
use Rattle.core_store.specs.Upkeep.{with_upkeep}
use Rattle.logged_journal.specs.View.{LoggedView, bytes_counted}
use Rattle.logged_journal.specs.Records.{MayHaveAll}
use Rattle.logged_journal.specs.Upkeep.{ForcesAll, OnlyDisk, FailsUpkeep, LogsWanted, Cleans, image_wanted}
use Rattle.logged_journal.proofs.Upkeeps.{have-same, have-all}

-- what is in use doesn't fall where a tail is forced
pub forced-grows : (log : LogState) → used log ≤ used (forced log)
forced-grows log = by log.tail refl
  where
    by : (tail : List ℕ) → log.tail ≡ tail → used log ≤ used (forced log)
    by [] is = let none = ap (λ (l : List ℕ). length l) is in omega (arith, none)
    by (byte ∷ more) is =
        let long = ap (λ (l : List ℕ). length l) is in
        let batch = ap (λ (l : List ℕ). Rattle.gate_log.specs.State.batch_length l) is in
        omega (arith, long, batch)

module _ {D : Type 0} where
  -- a step of upkeep led on: the journal stays, what is durable may have become all, and the peak is kept
  pub record LeadsOn (old new : LoggedView D) : Type 0 where
    pub journal : new.journal ≡ old.journal
    pub durable : (new.durable ≡ old.durable) ⊎ (new.durable ≡ length old.journal.notes)
    pub running : new.failed ≡ old.failed
    pub log_full : new.log_full ≡ old.log_full
    pub peak : new.peak ≡ max old.peak (bytes_counted new)
    pub counted : bytes_counted old ≤ bytes_counted new
    pub opened : new.opened ≡ old.opened

  pub leads-then : (a b c : LoggedView D) → LeadsOn a b → LeadsOn b c → LeadsOn a c
  leads-then a b c first second =
      let peak = first.peak in
      let more = second.peak in
      let low = first.counted in
      let high = second.counted in
      record {
        journal = second.journal ∙ first.journal;
        durable = ⊎_elim (λ same. ⊎_elim (λ before. inl (same ∙ before)) (λ all. inr (same ∙ all)) first.durable) (λ all. inr (all ∙ ap (λ (j : JournalView). length j.notes) first.journal)) second.durable;
        running = second.running ∙ first.running;
        log_full = second.log_full ∙ first.log_full;
        peak = omega (arith, peak, more, low, high);
        counted = omega (arith, low, high);
        opened = second.opened ∙ first.opened;
      }

  pub leads-wanted : {slots : ℕ} (old new : LoggedView D) (page : ℕ) (held : List (PageCell slots)) → LogsWanted old new page held → LeadsOn old new
  leads-wanted old new page held logs =
      let long = length-append old.log.tail (image_wanted old.marks page held) in
      let same = ap (λ (v : LoggedView D). bytes_counted v) logs.same in
      record {
        journal = ap (λ (v : LoggedView D). v.journal) logs.same;
        durable = inl (ap (λ (v : LoggedView D). v.durable) logs.same);
        running = ap (λ (v : LoggedView D). v.failed) logs.same;
        log_full = ap (λ (v : LoggedView D). v.log_full) logs.same;
        peak = ap (λ (v : LoggedView D). v.peak) logs.same;
        counted = omega (arith, long, same);
        opened = ap (λ (v : LoggedView D). v.opened) logs.same;
      }

  pub leads-forced : (old new : LoggedView D) → ForcesAll old new → LeadsOn old new
  leads-forced old new is =
      let grows = forced-grows old.log in
      let same = ap (λ (v : LoggedView D). bytes_counted v) is in
      record {
        journal = ap (λ (v : LoggedView D). v.journal) is;
        durable = inr (ap (λ (v : LoggedView D). v.durable) is);
        running = ap (λ (v : LoggedView D). v.failed) is;
        log_full = ap (λ (v : LoggedView D). v.log_full) is;
        peak = ap (λ (v : LoggedView D). v.peak) is;
        counted = omega (arith, grows, same);
        opened = ap (λ (v : LoggedView D). v.opened) is;
      }

  -- after such steps upkeep failed
  pub fails-behind : (faults : D → ℕ) (old mid new : LoggedView D) → LeadsOn old mid → faults old.disk ≤ faults mid.disk → FailsUpkeep faults mid new → FailsUpkeep faults old new
  fails-behind faults old mid new leads later fails =
      let peak = leads.peak in
      let more = fails.peak in
      let low = leads.counted in
      let high = fails.counted in
      let rose = fails.rose in
      record {
        journal = fails.journal ∙ ap (λ (j : JournalView). record j { reserved = new.journal.reserved }) leads.journal;
        told = fails.told;
        rose = omega (arith, rose, later);
        durable = ⊎_elim (λ same. ⊎_elim (λ before. inl (same ∙ before)) (λ all. inr (same ∙ all)) leads.durable) (λ all. inr (all ∙ ap (λ (j : JournalView). length j.notes) leads.journal)) fails.durable;
        log_full = fails.log_full ∙ leads.log_full;
        peak = omega (arith, peak, more, low, high);
        counted = omega (arith, low, high);
        opened = fails.opened ∙ leads.opened;
      }

  -- ---- a page was cleaned

  module _ {slots : ℕ} (page : ℕ) (held : List (PageCell slots)) (v imaged : LoggedView D) (running : v.failed ≡ None) (logs : LogsWanted v imaged page held) where
    -- at each moment of the force
    pub wanted-moments : (moment : D → ℕ) (left_since : D → ℕ → Bytes → Type 0) (now : D) → LeavesOnlyImages moment left_since imaged.disk now (MayHaveAll imaged) → LeavesOnlyImages moment left_since v.disk now (MayHaveAll v)
    wanted-moments moment left_since now run =
        subst (λ (d : D). LeavesOnlyImages moment left_since d now (MayHaveAll v)) (ap (λ (w : LoggedView D). w.disk) logs.same)
        (weaken (MayHaveAll v)
        (λ image has. have-same v imaged image (ap (λ (w : LoggedView D). w.journal) logs.same) (ap (λ (w : LoggedView D). w.durable) logs.same) (ap (λ (w : LoggedView D). w.failed) logs.same) has) run)

    module _ (all : LoggedView D) (forces : ForcesAll imaged all) where
      -- and after it
      pub placed-moments : (moment : D → ℕ) (left_since : D → ℕ → Bytes → Type 0) (now : D) → LeavesOnlyImages moment left_since imaged.disk all.disk (MayHaveAll imaged) → LeavesOnlyImages moment left_since all.disk now (MayHaveAll all)
          → LeavesOnlyImages moment left_since v.disk now (MayHaveAll v)
      placed-moments moment left_since now run next =
          let journal = ap (λ (w : LoggedView D). w.journal) forces ∙ ap (λ (w : LoggedView D). w.journal) logs.same in
          and_then (MayHaveAll v) (λ image has. has)
          (λ image has. have-all v all image journal (ap (λ (w : LoggedView D). w.durable) forces ∙ ap (λ (w : LoggedView D). length w.journal.notes) logs.same)
          (ap (λ (w : LoggedView D). w.failed) forces ∙ ap (λ (w : LoggedView D). w.failed) logs.same ∙ running) has)
          (wanted-moments moment left_since all.disk run) next

      pub leads-all : LeadsOn v all
      leads-all = leads-then v imaged all (leads-wanted v imaged page held logs) (leads-forced imaged all forces)

      pub cleans : (placed new : LoggedView D) → OnlyDisk all placed → new ≡ record placed { journal = with_upkeep slots placed.journal Hidden; durable = length new.journal.notes } → Cleans v new page held
      cleans placed new only hides =
          let leads = leads-all in
          let log : new.log ≡ forced (appended v.log (image_wanted v.marks page held)) =
          ap (λ (w : LoggedView D). w.log) hides ∙ ap (λ (w : LoggedView D). w.log) only ∙ ap (λ (w : LoggedView D). w.log) forces ∙ ap (λ (w : LoggedView D). forced w.log) logs.same in
          let journal : placed.journal ≡ v.journal = ap (λ (w : LoggedView D). w.journal) only ∙ leads.journal in
          let now : new.journal ≡ with_upkeep slots v.journal Hidden = ap (λ (w : LoggedView D). w.journal) hides ∙ ap (λ (j : JournalView). with_upkeep slots j Hidden) journal in
          let owed : bytes_owed (end_of new.journal.history) ≡ bytes_owed (end_of v.journal.history) = ap (λ (j : JournalView). bytes_owed (end_of j.history)) now ∙ ap bytes_owed (end_of-with_entry v.journal.history Hidden) in
          let owed_all : bytes_owed (end_of all.journal.history) ≡ bytes_owed (end_of v.journal.history) = ap (λ (j : JournalView). bytes_owed (end_of j.history)) leads.journal in
          let log_all : used new.log ≡ used all.log = ap (λ (w : LoggedView D). used w.log) hides ∙ ap (λ (w : LoggedView D). used w.log) only in
          let peak : new.peak ≡ all.peak = ap (λ (w : LoggedView D). w.peak) hides ∙ ap (λ (w : LoggedView D). w.peak) only in
          let before = leads.peak in
          let marks : new.marks ≡ imaged.marks = ap (λ (w : LoggedView D). w.marks) hides ∙ ap (λ (w : LoggedView D). w.marks) only ∙ ap (λ (w : LoggedView D). w.marks) forces in
          record {
            does = record {
              journal = now;
              durable = ap (λ (w : LoggedView D). w.durable) hides;
              tail = ap (λ (l : LogState). l.tail) log;
              running = ap (λ (w : LoggedView D). w.failed) hides ∙ ap (λ (w : LoggedView D). w.failed) only ∙ leads.running ∙ running;
              log_full = ap (λ (w : LoggedView D). w.log_full) hides ∙ ap (λ (w : LoggedView D). w.log_full) only ∙ leads.log_full;
              peak = omega (arith, peak, before, log_all, owed, owed_all);
              opened = ap (λ (w : LoggedView D). w.opened) hides ∙ ap (λ (w : LoggedView D). w.opened) only ∙ leads.opened;
            };
            log = log ∙ ap (λ (room : ℕ). record (forced (appended v.log (image_wanted v.marks page held))) { room = room }) (sym (ap (λ (l : LogState). l.room) log));
            current = λ is. marks ∙ logs.current is;
            imaged = λ is. subst (λ (ms : List PageMark). AreMarkedBy (Image page held) v.marks ms) (sym marks) (logs.imaged is);
          }
