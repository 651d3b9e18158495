-- What upkeep is to the journal of a replay, and what a line gives that asks it.
use Rattle.std.proofs.Common.{◌≡◌, ◌⊎◌, ⊎_elim, inl, ◌↔◌, ◌≤◌, ℕ, Bool, true, false, List, [], ◌∷◌, Option, Some, None, refl, sym, ap, subst, ◌∙◌}
use Rattle.std.specs.Prelude.{IsSome, Result, Ok, Err, OnOk, IfErr}
use Rattle.std.specs.Io.KnownBytes.{Appends}
use Rattle.std.proofs.lemmas.List.{append-nil}
use Rattle.plain_model.specs.declared.calls.Entry.{Entry}
use Rattle.plain_model.specs.declared.calls.Entry.TheVariants.{Hidden, TurnBusy}
use Rattle.plain_model.specs.History.{Moment, end_of, least_active}
use Rattle.plain_model.specs.Text.{line_of, text_of}
use Rattle.core_store.specs.declared.act.Act.TheVariants.{Other}
use Rattle.core_store.specs.JournalView.{JournalView}
use Rattle.core_store.specs.RoundView.{left_of}
use Rattle.core_store.specs.Upkeep.{with_upkeep}
use Rattle.logged_journal.specs.declared.failed.FailedCall.{FailedCall}
use Rattle.logged_journal.specs.declared.upkeep.Upkeep.{Upkeep}
use Rattle.logged_journal.specs.declared.upkeep.Upkeep.TheVariants as upkeep
use Rattle.logged_journal.specs.View.{LoggedView, OnlyTakesRoom}
use Rattle.logged_journal.specs.Upkeep.{DoesUpkeep, FailsUpkeep, TellsBusy}
use Rattle.script_lines.specs.declared.grammar.Line.TheVariants.{Clean, Turn}
use Rattle.brahma_shell.specs.Points.{entries_in}
use Rattle.brahma_shell.specs.Growth.{Grows, GrowsBy, GrowsByUpkeep, IsOfUpkeep, BecomesFull}
use Rattle.brahma_shell.specs.Log.{StaysRunning, TellsFull, LosesUpkeep}
use Rattle.brahma_shell.specs.Upkeep.{GivesUp}
use Rattle.brahma_shell.specs.Follows.{turn_entry}
use Rattle.disk_model.specs.declared.area.Area.{Area}
use Rattle.disk_model.specs.Causes.{Rose}
use Rattle.script_lines.specs.Output.{AppendsFront}
use Rattle.brahma_shell.specs.declared.replay.Stop.{Stop}
use Rattle.brahma_shell.specs.declared.replay.Stop.TheVariants as stop
use Rattle.brahma_shell.specs.Replay.{Performs, IsUpkeepDone, StopsPerform, LeavesLog, FailsPerform}
use Rattle.brahma_shell.proofs.LogLemmas.{write-leaves}
use Rattle.brahma_shell.proofs.GrowthLemmas.{Grows-none}
use Rattle.brahma_shell.proofs.PointLemmas.{moment_of_point}
use Rattle.brahma_shell.proofs.StoreLemmas.{marked-full}

-- ---- the journal

-- an entry of upkeep is one note more
entered : (slots : ℕ) (j : JournalView) (e : Entry) → GrowsByUpkeep j (with_upkeep slots j e) e
entered slots j e = record {
  note = record { entry = e; logged = None; left = left_of slots j.round; act = Other };
  is = record { entry = refl; logged = refl; act = refl };
  grows = record { notes = refl; history = refl; opening = refl; limits = refl };
  unmarked = refl;
}

pub grows-upkeep : (slots : ℕ) (j k : JournalView) (e : Entry) → k ≡ with_upkeep slots j e → GrowsByUpkeep j k e
grows-upkeep slots j k e is = subst (λ (x : JournalView). GrowsByUpkeep j x e) (sym is) (entered slots j e)

-- room that is taken is no note
reserved-none : (j k : JournalView) (b : Bool) → k ≡ record j { reserved = b } → GrowsBy j k []
reserved-none j k b e = record {
  more = [];
  entries = refl;
  grows = subst (λ (x : JournalView). Grows j x []) (sym e) (record { notes = none.notes; history = none.history; opening = refl; limits = refl });
  unmarked = ap (λ (x : JournalView). x.marks) e;
}
  where
    none : Grows j j []
    none = Grows-none j

-- ---- the journal with its log

module _ {D : Type 0} (faults : D → ℕ) (old new : LoggedView D) (running : old.failed ≡ None) (later : faults old.disk ≤ faults new.disk) where
  pub upkeep-done : (slots : ℕ) → DoesUpkeep slots old new → GrowsByUpkeep old.journal new.journal Hidden × StaysRunning faults old new
  upkeep-done slots d = (grows-upkeep slots old.journal new.journal Hidden d.journal, record { running = d.running; log_full = d.log_full; later = later })

  pub upkeep-busy : (slots pass : ℕ) → TellsBusy slots old new pass → GrowsByUpkeep old.journal new.journal (TurnBusy pass) × StaysRunning faults old new
  upkeep-busy slots pass e = (
    grows-upkeep slots old.journal new.journal (TurnBusy pass) (ap (λ (v : LoggedView D). v.journal) e),
    record { running = ap (λ (v : LoggedView D). v.failed) e ∙ running; log_full = ap (λ (v : LoggedView D). v.log_full) e; later = later },
  )

  fills : OnlyTakesRoom (record old { log_full = true }) new → GrowsBy old.journal new.journal [] × TellsFull faults old new
  fills e = (
    reserved-none old.journal new.journal new.journal.reserved (ap (λ (v : LoggedView D). v.journal) e),
    record { running = ap (λ (v : LoggedView D). v.failed) e ∙ running; marked = ap (λ (v : LoggedView D). v.log_full) e; later = later },
  )

  takes : OnlyTakesRoom old new → GrowsBy old.journal new.journal [] × StaysRunning faults old new
  takes e = (
    reserved-none old.journal new.journal new.journal.reserved (ap (λ (v : LoggedView D). v.journal) e),
    record { running = ap (λ (v : LoggedView D). v.failed) e ∙ running; log_full = ap (λ (v : LoggedView D). v.log_full) e; later = later },
  )

  marks : new ≡ record old { journal = record old.journal { marks = record old.journal.marks { trace = true } } } → BecomesFull old.journal new.journal × StaysRunning faults old new
  marks e = (
    marked-full old.journal new.journal (ap (λ (v : LoggedView D). v.journal) e),
    record { running = ap (λ (v : LoggedView D). v.failed) e ∙ running; log_full = ap (λ (v : LoggedView D). v.log_full) e; later = later },
  )

  loses : FailsUpkeep faults old new → GrowsBy old.journal new.journal [] × LosesUpkeep faults old new
  loses f = (
    reserved-none old.journal new.journal new.journal.reserved f.journal,
    record { told = f.told; log_full = f.log_full; rose = f.rose; later = later },
  )

  none-some : (o : Option FailedCall) → o ≡ None → IsSome o → ⊥
  none-some None e s = absurd (cc)
  none-some (Some f) e s = absurd (cc)

  -- what it leaves where it was not done
  pub gives-up : (r : Upkeep) → ((n : ℕ) → r ≡ upkeep.Stopped n → IsSome old.failed) → (r ≡ upkeep.TraceFull → new ≡ record old { journal = record old.journal { marks = record old.journal.marks { trace = true } } })
      → (r ≡ upkeep.LogFull → OnlyTakesRoom (record old { log_full = true }) new) → (r ≡ upkeep.Memory → OnlyTakesRoom old new) → (r ≡ upkeep.DiskFault → FailsUpkeep faults old new) → GivesUp faults old new r
  gives-up upkeep.Done only full log memory fault = tt
  gives-up (upkeep.Busy pass) only full log memory fault = tt
  gives-up (upkeep.Stopped n) only full log memory fault = none-some old.failed running (only n refl)
  gives-up upkeep.TraceFull only full log memory fault = marks (full refl)
  gives-up upkeep.LogFull only full log memory fault = fills (log refl)
  gives-up upkeep.Memory only full log memory fault = takes (memory refl)
  gives-up upkeep.DiskFault only full log memory fault = loses (fault refl)

-- a checkpoint is made only where no client has a transaction
pub none-active : (r : Upkeep) (failed : Option FailedCall) (past : Bool) (least : Option ℕ) → failed ≡ None → (r ≡ upkeep.TraceFull) ↔ (failed ≡ None) × (past ≡ true)
    → ((pass : ℕ) → failed ≡ None → past ≡ false → least ≡ Some pass → (r ≡ upkeep.Busy pass) ⊎ (r ≡ upkeep.Memory)) → r ≡ upkeep.Done → least ≡ None
none-active r failed past None running full busy done = refl
none-active r failed true (Some pass) running full busy done = let e = full.1 (running, refl) in absurd (cc)
none-active r failed false (Some pass) running full busy done = ⊎_elim (λ e. absurd (cc)) (λ e. absurd (cc)) (busy pass running refl refl)

-- ---- a line

pub performs-clean : (old new : JournalView) (page : ℕ) → GrowsByUpkeep old new Hidden → Performs old new (Clean page) []
performs-clean old new page g = record {
  notes = g.note ∷ [];
  grows = g.grows;
  unmarked = g.unmarked;
  gives = (g.note, refl, g.is);
  printed = ap (λ (e : Entry). text_of (e ∷ [])) g.is.entry;
}

performs-turn : (old new : JournalView) (e : Entry) → entries_in old.notes ≡ old.history.entries → turn_entry (end_of old.history) ≡ e → GrowsByUpkeep old new e → Performs old new Turn (line_of e)
performs-turn old new e same told g = record {
  notes = g.note ∷ [];
  grows = g.grows;
  unmarked = g.unmarked;
  gives = (g.note, refl, subst (λ x. IsOfUpkeep x g.note) (sym (ap turn_entry (moment_of_point old same) ∙ told)) g.is);
  printed = ap (λ (x : Entry). text_of (x ∷ [])) g.is.entry ∙ append-nil (line_of e);
}

turn_entry-none : (m : Moment) → least_active m.state ≡ None → turn_entry m ≡ Hidden
turn_entry-none m e = rw e refl

turn_entry-some : (m : Moment) (pass : ℕ) → least_active m.state ≡ Some pass → turn_entry m ≡ TurnBusy pass
turn_entry-some m pass e = rw e refl

pub performs-turned : (old new : JournalView) → entries_in old.notes ≡ old.history.entries → least_active (end_of old.history).state ≡ None → GrowsByUpkeep old new Hidden → Performs old new Turn []
performs-turned old new same none g = performs-turn old new Hidden same (turn_entry-none (end_of old.history) none) g

pub performs-busy : (old new : JournalView) (pass : ℕ) → entries_in old.notes ≡ old.history.entries → least_active (end_of old.history).state ≡ Some pass → GrowsByUpkeep old new (TurnBusy pass) → Performs old new Turn (line_of (TurnBusy pass))
performs-busy old new pass same least g = performs-turn old new (TurnBusy pass) same (turn_entry-some (end_of old.history) pass least) g

-- ---- a refused checkpoint, which is printed

on-all : (r : Result (Unit {0}) Stop) (P : Type 0) → P → OnOk r P
on-all (Ok u) P p = p
on-all (Err s) P p = tt

pub busy-goes_on : {D : Type 0} (faults : D → ℕ) (r : Result (Unit {0}) Stop) (old new : LoggedView D) → StaysRunning faults old new → OnOk r (StaysRunning faults old new)
busy-goes_on faults r old new g = on-all r (StaysRunning faults old new) g

some-none : (o : Option ℕ) (pass : ℕ) → o ≡ Some pass → o ≡ None → ⊥
some-none None pass e n = absurd (cc)
some-none (Some p) pass e n = absurd (cc)

pub busy-not_turned : {D : Type 0} (may_leave : D → Area → List ℕ → Type 0) (r : Result (Unit {0}) Stop) (old new : LoggedView D) (pass : ℕ) → least_active (end_of old.journal.history).state ≡ Some pass → OnOk r (IsUpkeepDone may_leave Turn old new)
busy-not_turned may_leave r old new pass least = on-all r (IsUpkeepDone may_leave Turn old new) (λ none. absurd (some-none (least_active (end_of old.journal.history).state) pass least none))

pub busy-told : (r : Result (Unit {0}) Stop) (old new : JournalView) (text : List ℕ) (before now : Option (List ℕ)) → Performs old new Turn text → OnOk r (Appends before now text) → OnOk r ((text : List ℕ) × Performs old new Turn text × Appends before now text)
busy-told (Ok u) old new text before now p h = (text, p, h)
busy-told (Err s) old new text before now p h = tt

pub busy-unwritten : {D : Type 0} (faults : D → ℕ) (r : Result (Unit {0}) Stop) (old new : LoggedView D) (text : List ℕ) (before now : Option (List ℕ)) (first_faults faults_now : ℕ) → Performs old.journal new.journal Turn text → StaysRunning faults old new
    → IfErr r (λ s. (s ≡ stop.Write) × AppendsFront before now text × Rose first_faults faults_now) → IfErr r (λ s. StopsPerform s Turn old.journal new.journal before now × LeavesLog faults s old new ⊎ FailsPerform faults s Turn old new before now)
busy-unwritten faults (Ok u) old new text before now first_faults faults_now p g h = tt
busy-unwritten faults (Err s) old new text before now first_faults faults_now p g h =
    inl (subst (λ (t : Stop). StopsPerform t Turn old.journal new.journal before now) (sym h.0) (text, inl p, p.unmarked, h.1), write-leaves faults s old new h.0 g)
