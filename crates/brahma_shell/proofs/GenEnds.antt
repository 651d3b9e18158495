-- How `gen` ends.
use Rattle.std.proofs.Common.{◌≡◌, ◌⊎◌, ⊎_elim, inl, inr, ℕ, ◌≤◌, ◌-◌, true, List, length, [], ◌∷◌, ◌++◌, Option, refl, sym, ap, subst, ◌∙◌, arith}
use Rattle.std.specs.Prelude.{codes, flat_map}
use Rattle.plain_model.specs.declared.calls.Call.TheVariants.{Commit}
use Rattle.std.specs.Io.KnownBytes.{Appends}
use Rattle.disk_model.specs.declared.area.Area.{Area}
use Rattle.disk_model.specs.Causes.{Rose}
use Rattle.core_store.specs.declared.note.Note.{Note}
use Rattle.core_store.specs.JournalView.{JournalView, core_of}
use Rattle.plain_model.specs.History.{History}
use Rattle.plain_laws.specs.Sound.{IsSoundGraph}
use Rattle.cell_model.specs.Cells.{Cell}
use Rattle.store_model.specs.Sound.{IsSound}
use Rattle.core_store.specs.Limited.{WasFull}
use Rattle.journal_opening.specs.Openings.{ReadsAs}
use Rattle.logged_journal.specs.View.{LoggedView}
use Rattle.call_generator.specs.declared.turns.Turn.{Turn}
use Rattle.call_generator.specs.Generator.{generator, Generates, turns_left}
use Rattle.call_generator.proofs.TurnLaws.{generator-inside, gives-turns}
use Rattle.script_lines.specs.declared.grammar.Line.{Line}
use Rattle.script_lines.specs.declared.grammar.Line.TheVariants as line
use Rattle.script_lines.specs.Output.{AppendsFront}
use Rattle.call_generator.specs.declared.options.Asked.{Asked}
use Rattle.brahma_shell.specs.declared.replay.Stop.{Stop}
use Rattle.brahma_shell.specs.declared.replay.Stop.TheVariants as stop
use Rattle.brahma_shell.specs.Generated.{lines_in, generated_lines, generated_text, GivesLines, GivesPart, GivesUpTo, DoesLines, StopsLines}
use Rattle.brahma_shell.specs.Growth.{Grows}
use Rattle.brahma_shell.specs.Log.{StaysRunning, WasLogFull}
use Rattle.brahma_shell.specs.Points.{Point, after_notes, start_point, point_of, MayRest, IsExactAt}
use Rattle.brahma_shell.specs.Replay.{status_of, last_line}
use Rattle.brahma_shell.specs.Top.{IsOfReplay, IsOfOpenedStore, IsJustOpened, Outside, Ends, Generated}
use Rattle.brahma_shell.proofs.AgreeLemmas.{all-idle, start-agrees}
use Rattle.brahma_shell.proofs.EndLemmas.{FailedGranted, granted-running, both-unmarked, no-failure, of-opened, sound-opening}
use Rattle.brahma_shell.proofs.LogLemmas.{committed}
use Rattle.brahma_shell.proofs.GivesLemmas.{lines-split, gives-all, gives-none}
use Rattle.brahma_shell.proofs.GrowthLemmas.{Grows-start, IsSameStart-none, IsSameStart-more}
use Rattle.brahma_shell.proofs.PointLemmas.{after_notes-append}
use Rattle.script_lines.specs.Numbers.{object_slots}

-- a journal that is just opened has no point after it
fresh-point : {D : Type 0} (v : LoggedView D) → IsJustOpened v → point_of v.journal ≡ start_point v.journal
fresh-point v just = ap (after_notes (start_point v.journal)) just.notes

-- from a journal that is just opened the notes are those that came since
record Since {D : Type 0} (v w : LoggedView D) (notes : List Note) : Type 0 where
  notes_are : w.journal.notes ≡ notes
  start : point_of v.journal ≡ start_point w.journal

since : {D : Type 0} (v w : LoggedView D) (notes : List Note) → IsJustOpened v → Grows v.journal w.journal notes → Since v w notes
since v w notes just g = record {
  notes_are = g.notes ∙ ap (λ (ns : List Note). ns ++ notes) just.notes;
  start = fresh-point v just ∙ sym (Grows-start v.journal w.journal notes g);
}

gives-since : {D : Type 0} (v w : LoggedView D) (notes : List Note) (P : Point → List Note → Type 0) → IsJustOpened v → Grows v.journal w.journal notes → P (point_of v.journal) notes → P (start_point w.journal) w.journal.notes
gives-since v w notes P just g h =
    let s = since v w notes just g in
    subst (λ (p : Point). P p w.journal.notes) s.start (subst (P (point_of v.journal)) (sym s.notes_are) h)

-- after all lines the collector rests, and just the reachable objects are stored
pub record Rests (j : JournalView) (lines : List Line) : Type 0 where
  pub gives : GivesLines (start_point j) lines j.notes
  pub rests : MayRest (point_of j)
  pub exact : IsExactAt (point_of j)

rests-behind : (asked : Asked) (turns : List Turn) (j : JournalView) → asked.clients ≤ 64 → Generates (generator asked.seed asked.clients asked.transactions) turns → GivesLines (start_point j) (generated_lines turns) j.notes → Rests j (generated_lines turns)
rests-behind asked turns j few gives given =
    let p = start_point j in
    let g = generator asked.seed asked.clients asked.transactions in
    let s = lines-split p (flat_map lines_in turns) (line.CollectAll ∷ []) j.notes given in
    let idle = all-idle g turns gives (generator-inside asked.seed asked.clients asked.transactions few) p s.front (start-agrees asked.clients asked.transactions p.moment.state refl) s.before in
    let last : s.back ≡ s.behind.0 = s.behind.2 ∙ ap (λ (ns : List Note). s.behind.0 ++ ns) s.behind.4 ∙ nil s.behind.0 in
    let there : after_notes (after_notes p s.front) s.behind.0 ≡ point_of j = ap (after_notes (after_notes p s.front)) (sym last) ∙ sym (after_notes-append p s.front s.back) ∙ ap (after_notes p) (sym s.all) in
    record {
      gives = given;
      rests = subst MayRest there (s.behind.3.rests idle);
      exact = subst IsExactAt there (s.behind.3.exact idle);
    }
  where
    nil : (ns : List Note) → ns ++ [] ≡ ns
    nil [] = refl
    nil (n ∷ ns) = ap (λ (x : List Note). n ∷ x) (nil ns)

module _ {D : Type 0} (content : D → Area → Option (List ℕ)) (may_leave : D → Area → List ℕ → Type 0) (faults : D → ℕ) (asked : Asked) (disk : D) (before after : Outside) (v w : LoggedView D) (just : IsJustOpened v) (turns : List Turn)
    (gives : Generates (generator asked.seed asked.clients asked.transactions) turns) (opened : ReadsAs content object_slots disk w.journal.opening) (size : w.journal.history.ids ≡ length w.journal.opening - 1) (journal : IsOfReplay may_leave w) where
  -- memory was out before the first turn
  pub ends-unmade : w ≡ v → Ends before after [] (codes "refused: memory\n") → Generated content may_leave asked disk before after 8 w
  ends-unmade same printed =
      let fresh : IsJustOpened w = subst IsJustOpened (sym same) just in
      record {
        opened = opened;
        size = size;
        journal = journal;
        turns = turns;
        generated = gives;
        statuses = inr (inr (inr (inl refl)));
        follows = λ e. absurd (⊎_elim (λ z. omega (arith, z)) (λ f. omega (arith, f)) e);
        done = λ e. absurd (omega (arith, e));
        write = λ e. absurd (omega (arith, e));
        failed_disk = λ e. absurd (omega (arith, e));
        memory = λ _. (subst (GivesPart (start_point w.journal) (generated_lines turns)) (sym fresh.notes) (gives-none (start_point w.journal) (generated_lines turns)), printed);
        limit = λ e. absurd (omega (arith, e));
        complete = λ writes disks. inr (inl refl);
        marked = both-unmarked w.journal.marks.trace w.log_full 8 fresh.unmarked fresh.log_unmarked (λ e. omega (arith, e));
        failed = λ some. absurd (no-failure w fresh.running some);
      }

  -- all was done, and it was told, or not
  pub ends-told : (status : ℕ) → asked.clients ≤ 64 → DoesLines v.journal w.journal (generated_lines turns) → StaysRunning faults v w → (status ≡ 0) ⊎ ((status ≡ 5) ⊎ (status ≡ 8)) → (status ≡ 0 → Appends before.written after.written (generated_text w.journal.history))
      → (status ≡ 5 → AppendsFront before.written after.written (generated_text w.journal.history) × Rose before.write_faults after.write_faults) → (status ≡ 8 → Ends before after [] (codes "refused: memory\n")) → Generated content may_leave asked disk before after status w
  ends-told status few does goes is done write memory =
      let given = gives-since v w does.notes (λ p ns. GivesLines p (generated_lines turns) ns) just does.grows does.gives in
      let rest = rests-behind asked turns w.journal few gives given in
      let other : (n : ℕ) → (n ≡ 0 → ⊥) → (n ≡ 5 → ⊥) → (n ≡ 8 → ⊥) → status ≡ n → ⊥ = λ n a b c e. ⊎_elim (λ z. a (sym e ∙ z)) (λ h. ⊎_elim (λ f. b (sym e ∙ f)) (λ f. c (sym e ∙ f)) h) is in
      record {
        opened = opened;
        size = size;
        journal = journal;
        turns = turns;
        generated = gives;
        statuses = ⊎_elim (λ z. inl z) (λ h. ⊎_elim (λ f. inr (inl f)) (λ m. inr (inr (inr (inl m)))) h) is;
        follows = λ _. (rest.gives, rest.rests, rest.exact);
        done = done;
        write = λ e. let h = write e in (h.1, h.0);
        failed_disk = λ e. absurd (other 6 (λ z. omega (arith, z)) (λ z. omega (arith, z)) (λ z. omega (arith, z)) e);
        memory = λ e. (gives-all (start_point w.journal) (generated_lines turns) w.journal.notes given, memory e);
        limit = λ e. absurd (other 9 (λ z. omega (arith, z)) (λ z. omega (arith, z)) (λ z. omega (arith, z)) e);
        complete = λ writes disks. ⊎_elim (λ z. inl z) (λ h. ⊎_elim (λ f. absurd (writes (write f).1)) (λ m. inr (inl m)) h) is;
        marked = both-unmarked w.journal.marks.trace w.log_full status (ap (λ m. m.trace) does.unmarked ∙ just.unmarked) (goes.log_full ∙ just.log_unmarked) (λ e. other 9 (λ z. omega (arith, z)) (λ z. omega (arith, z)) (λ z. omega (arith, z)) e);
        failed = λ some. absurd (no-failure w goes.running some);
      }

  -- a line stopped
  pub ends-stopped : (s : Stop) → StopsLines faults s v w (generated_lines turns) → (w.journal.marks.trace ≡ true → WasFull w.journal) → (w.log_full ≡ true → WasLogFull w) → (Rose (faults v.disk) (faults w.disk) → Rose before.disk_faults after.disk_faults) → Ends before after [] (last_line s) → Generated content may_leave asked disk before after (status_of s) w
  ends-stopped (stop.Line k) h full log_full rose printed = absurd h
  ends-stopped stop.Read h full log_full rose printed = absurd h
  ends-stopped stop.Write h full log_full rose printed = absurd h
  ends-stopped stop.Memory h full log_full rose printed = record {
    opened = opened;
    size = size;
    journal = journal;
    turns = turns;
    generated = gives;
    statuses = inr (inr (inr (inl refl)));
    follows = λ e. absurd (⊎_elim (λ z. omega (arith, z)) (λ f. omega (arith, f)) e);
    done = λ e. absurd (omega (arith, e));
    write = λ e. absurd (omega (arith, e));
    failed_disk = λ e. absurd (omega (arith, e));
    memory = λ _. (gives-since v w h.0.notes (λ p ns. GivesPart p (generated_lines turns) ns) just h.0.grows h.0.gives, printed);
    limit = λ e. absurd (omega (arith, e));
    complete = λ writes disks. inr (inl refl);
    marked = both-unmarked w.journal.marks.trace w.log_full 8 (ap (λ m. m.trace) h.1 ∙ just.unmarked) (h.2.log_full ∙ just.log_unmarked) (λ e. omega (arith, e));
    failed = λ some. absurd (no-failure w h.2.running some);
  }
  ends-stopped stop.Full h full log_full rose printed = record {
    opened = opened;
    size = size;
    journal = journal;
    turns = turns;
    generated = gives;
    statuses = inr (inr (inr (inr refl)));
    follows = λ e. absurd (⊎_elim (λ z. omega (arith, z)) (λ f. omega (arith, f)) e);
    done = λ e. absurd (omega (arith, e));
    write = λ e. absurd (omega (arith, e));
    failed_disk = λ e. absurd (omega (arith, e));
    memory = λ e. absurd (omega (arith, e));
    limit = λ _. (gives-since v w h.0.notes (λ p ns. GivesPart p (generated_lines turns) ns) just h.0.grows h.0.gives, inl (h.1, h.2.log_full ∙ just.log_unmarked, full h.1, printed));
    complete = λ writes disks. inr (inr refl);
    marked = (λ _. refl, λ _. inl h.1);
    failed = λ some. absurd (no-failure w h.2.running some);
  }
  ends-stopped stop.LogFull h full log_full rose printed = record {
    opened = opened;
    size = size;
    journal = journal;
    turns = turns;
    generated = gives;
    statuses = inr (inr (inr (inr refl)));
    follows = λ e. absurd (⊎_elim (λ z. omega (arith, z)) (λ f. omega (arith, f)) e);
    done = λ e. absurd (omega (arith, e));
    write = λ e. absurd (omega (arith, e));
    failed_disk = λ e. absurd (omega (arith, e));
    memory = λ e. absurd (omega (arith, e));
    limit = λ _. (gives-since v w h.0.notes (λ p ns. GivesPart p (generated_lines turns) ns) just h.0.grows h.0.gives, inr (ap (λ m. m.trace) h.1 ∙ just.unmarked, h.2.marked, log_full h.2.marked, printed));
    complete = λ writes disks. inr (inr refl);
    marked = (λ _. refl, λ _. inr h.2.marked);
    failed = λ some. absurd (no-failure w h.2.running some);
  }
  ends-stopped stop.Fault h full log_full rose printed = record {
    opened = opened;
    size = size;
    journal = journal;
    turns = turns;
    generated = gives;
    statuses = inr (inr (inl refl));
    follows = λ e. absurd (⊎_elim (λ z. omega (arith, z)) (λ f. omega (arith, f)) e);
    done = λ e. absurd (omega (arith, e));
    write = λ e. absurd (omega (arith, e));
    failed_disk = λ _. (rose h.lost.rose, record { client = h.client; faults = faults w.disk; told = h.lost.told; gives = gives-since v w h.notes (λ p ns. GivesUpTo p (generated_lines turns) (line.Ask h.client Commit) ns) just h.grows h.gives; printed = printed });
    memory = λ e. absurd (omega (arith, e));
    limit = λ e. absurd (omega (arith, e));
    complete = λ writes disks. absurd (disks (rose h.lost.rose));
    marked = both-unmarked w.journal.marks.trace w.log_full 6 (ap (λ m. m.trace) h.unmarked ∙ just.unmarked) (h.lost.log_full ∙ just.log_unmarked) (λ e. omega (arith, e));
    failed = λ _. refl;
  }
  ends-stopped stop.UpkeepFault h full log_full rose printed = absurd h
  ends-stopped stop.Stopped h full log_full rose printed = absurd h

-- ---- what is known where it ends

-- where lines stopped: what came since, and that the disk failed no commit but one that would have been done
pub record Stopped {D : Type 0} (faults : D → ℕ) (v w : LoggedView D) : Type 0 where
  pub notes : List Note
  pub grows : Grows v.journal w.journal notes
  pub granted : FailedGranted w
  pub later : faults v.disk ≤ faults w.disk

pub stopped-at : {D : Type 0} (faults : D → ℕ) (s : Stop) (v w : LoggedView D) (lines : List Line) → StopsLines faults s v w lines → Stopped faults v w
stopped-at faults (stop.Line k) v w lines h = absurd h
stopped-at faults stop.Read v w lines h = absurd h
stopped-at faults stop.Write v w lines h = absurd h
stopped-at faults stop.Memory v w lines h = record { notes = h.0.notes; grows = h.0.grows; granted = granted-running w h.2.running; later = h.2.later }
stopped-at faults stop.Full v w lines h = record { notes = h.0.notes; grows = h.0.grows; granted = granted-running w h.2.running; later = h.2.later }
stopped-at faults stop.LogFull v w lines h = record { notes = h.0.notes; grows = h.0.grows; granted = granted-running w h.2.running; later = h.2.later }
stopped-at faults stop.Fault v w lines h = record { notes = h.notes; grows = h.grows; granted = inr (h.client, committed faults h.client v w h.lost, h.lost.granted); later = h.lost.later }
stopped-at faults stop.UpkeepFault v w lines h = absurd h
stopped-at faults stop.Stopped v w lines h = absurd h

-- the graph of an opening is sound at the end as at the beginning
pub opening-sound : {D : Type 0} (v w : LoggedView D) (notes : List Note) → IsJustOpened v → IsSound (core_of v.journal) → Grows v.journal w.journal notes → IsSoundGraph w.journal.history.opening
opening-sound v w notes just sound g =
    let same : w.journal.history.opening ≡ v.journal.history.opening = ap (λ (h : History). h.opening) g.history in
    subst IsSoundGraph (sym same) (sound-opening v.journal sound just.entries)

pub opened-since : {D : Type 0} (v w : LoggedView D) (notes : List Note) → IsJustOpened v → Grows v.journal w.journal notes → IsOfOpenedStore w.journal
opened-since v w notes just g = of-opened v w just (IsSameStart-more v.journal v.journal w.journal notes (IsSameStart-none v.journal) g)

-- the opening's cells are read as before
pub reads-since : {D : Type 0} (content : D → Area → Option (List ℕ)) (disk : D) (v w : LoggedView D) (notes : List Note) → Grows v.journal w.journal notes → ReadsAs content object_slots disk v.journal.opening → ReadsAs content object_slots disk w.journal.opening
reads-since content disk v w notes g reads = subst (ReadsAs content object_slots disk) (sym g.opening) reads

-- and there are as many ids
pub size-since : {D : Type 0} (v w : LoggedView D) (notes : List Note) → IsJustOpened v → Grows v.journal w.journal notes → w.journal.history.ids ≡ length w.journal.opening - 1
size-since v w notes just g =
    ap (λ (h : History). h.ids) g.history ∙ just.size ∙ ap (λ (cells : List Cell). length cells - 1) (sym g.opening)

-- the turns of a seed
pub turns-of-seed : (asked : Asked) → asked.clients ≤ 64 → (turns : List Turn) × Generates (generator asked.seed asked.clients asked.transactions) turns
turns-of-seed asked few =
    let g = generator asked.seed asked.clients asked.transactions in
    gives-turns (turns_left g) g (generator-inside asked.seed asked.clients asked.transactions few) (omega arith)
