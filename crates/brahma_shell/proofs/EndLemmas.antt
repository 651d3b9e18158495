-- How a replay ends in its store, by how its lines ended.
use Rattle.std.proofs.Common.{◌≡◌, ◌⊎◌, ◌≤◌, ◌↔◌, ℕ, Bool, true, false, List, [], ◌∷◌, ◌++◌, Option, Some, None, refl, sym, ap, subst, ◌∙◌, ⊎_elim, inl, inr}
use Rattle.std.specs.Prelude.{IsSome}
use Rattle.std.proofs.lemmas.Bool.{false≢true}
use Rattle.std.proofs.lemmas.List.{append-nil}
use Rattle.std.specs.Io.KnownBytes.{Appends}
use Rattle.plain_model.specs.declared.calls.Call.TheVariants.{Commit}
use Rattle.plain_model.specs.declared.calls.Reply.TheVariants.{Done, DiskFault}
use Rattle.plain_model.specs.declared.calls.Entry.TheVariants.{Call}
use Rattle.plain_model.specs.Machine.{State, refusal_of, step}
use Rattle.plain_model.specs.History.{History, Moment, IsLegal, start_of, moment_after, end_of, is_stopped, with_entry}
use Rattle.plain_model.proofs.HistoryLemmas.{IsLegal-with_entry}
use Rattle.plain_laws.specs.Sound.{IsSoundGraph}
use Rattle.plain_laws.proofs.Serializable.{IsSerializable-legal}
use Rattle.cell_model.specs.Cells.{Cell}
use Rattle.core_store.specs.Opening.{opened_history}
use Rattle.logged_journal.specs.Opens.{OpensAfter}
use Rattle.brahma_shell.specs.Top.{IsOfOpenedStore, IsJustOpened, IsOfReplay}
use Rattle.store_model.specs.Sound.{IsSound}
use Rattle.disk_model.specs.Told.{EachImage}
use Rattle.disk_model.specs.declared.area.Area.{Area}
use Rattle.core_store.specs.declared.marks.Marks.{Marks}
use Rattle.core_store.specs.JournalView.{JournalView, core_of, opening_of}
use Rattle.core_store.specs.Leads.{AreLed}
use Rattle.core_store.specs.Safe.{IsDurable}
use Rattle.logged_journal.specs.View.{LoggedView, failed_commit, history_of}
use Rattle.logged_journal.specs.Records.{MayBeLeft, durable_notes}
use Rattle.script_lines.specs.Output.{AppendsFront, EndsWith}
use Rattle.script_lines.proofs.OutputLemmas.{Appends-trans}
use Rattle.brahma_shell.specs.declared.replay.Stop.{Stop}
use Rattle.brahma_shell.specs.declared.replay.Stop.TheVariants as stop
use Rattle.script_lines.specs.declared.grammar.Line.{Line}
use Rattle.brahma_shell.specs.Runs.{Stretch}
use Rattle.brahma_shell.specs.Follows.{FollowsPart, FollowsTo}
use Rattle.brahma_shell.specs.Growth.{IsSameStart}
use Rattle.brahma_shell.specs.Points.{entries_in}
use Rattle.brahma_shell.specs.Replay.{StopsReplay, FailsReplay, LeavesLog}
use Rattle.brahma_shell.proofs.LogLemmas.{none-committed, none-committed_lost, committed, history-uncommitted}
use Rattle.script_lines.specs.Numbers.{object_slots}

-- ---- the history

history-failed : {D : Type 0} (v : LoggedView D) (client : ℕ) → failed_commit v ≡ Some client → history_of v ≡ with_entry v.journal.history (Call client Commit DiskFault)
history-failed v client e = rw e refl

-- a commit that isn't refused would be done
granted-done : (s : State) (pass : ℕ) → refusal_of s pass Commit ≡ None → (step s pass Commit).0 ≡ Done
unfolding step
granted-done s pass e = rw e refl

-- the disk failed no commit, or one that would have been done
abbrev pub FailedGranted : {D : Type 0} → LoggedView D → Type 0
FailedGranted v = (failed_commit v ≡ None) ⊎ ((client : ℕ) × (failed_commit v ≡ Some client) × (refusal_of (end_of v.journal.history).state client Commit ≡ None))

pub granted-running : {D : Type 0} (v : LoggedView D) → v.failed ≡ None → FailedGranted v
granted-running v e = inl (none-committed v e)

pub legal-history : {D : Type 0} (v : LoggedView D) → IsLegal v.journal.history → is_stopped (end_of v.journal.history) ≡ false → FailedGranted v → IsLegal (history_of v)
legal-history v legal running f =
    ⊎_elim
    (λ e. subst IsLegal (sym (history-uncommitted v e)) legal)
    (λ h. subst IsLegal (sym (history-failed v h.0 h.1))
    (IsLegal-with_entry v.journal.history (Call h.0 Commit DiskFault) legal (running, record { machine = inr (refl, refl, granted-done (end_of v.journal.history).state h.0 h.2); undone = λ e. absurd (cc) })))
    f

-- it begins as the journal's
same-opening : {D : Type 0} (v : LoggedView D) → FailedGranted v → (history_of v).opening ≡ v.journal.history.opening
same-opening v f =
    ⊎_elim
    (λ e. ap (λ (h : History). h.opening) (history-uncommitted v e))
    (λ h. ap (λ (h : History). h.opening) (history-failed v h.0 h.1))
    f

-- a replay stops where no commit failed, or at one that would have been done
pub stops-granted : {D : Type 0} (faults : D → ℕ) (s : Stop) (number : ℕ) (source left before written : Option (List ℕ)) (old v : LoggedView D) → StopsReplay s number source left before written v.journal × LeavesLog faults s old v ⊎ FailsReplay faults s number source before written old v → FailedGranted v
stops-granted {D} faults s number source left before written old v h = ⊎_elim (λ h. granted-running v (leaves s h.1)) (λ h. fails s h) h
  where
    leaves : (s : Stop) → LeavesLog faults s old v → v.failed ≡ None
    leaves (stop.Line k) g = g.running
    leaves stop.Read g = g.running
    leaves stop.Write g = g.running
    leaves stop.Memory g = g.running
    leaves stop.Full g = g.running
    leaves stop.LogFull g = g.running
    leaves stop.Fault g = g.running
    leaves stop.UpkeepFault g = g.running
    leaves stop.Stopped g = g.running

    fails : (s : Stop) → FailsReplay faults s number source before written old v → FailedGranted v
    fails (stop.Line k) h = absurd h
    fails stop.Read h = absurd h
    fails stop.Write h = inr (h.0, committed faults h.0 old v h.1, h.1.granted)
    fails stop.Memory h = absurd h
    fails stop.Full h = absurd h
    fails stop.LogFull h = absurd h
    fails stop.Fault h = inr (h.0, committed faults h.0 old v h.1, h.1.granted)
    fails stop.UpkeepFault h = inl (none-committed_lost faults old v h.0)
    fails stop.Stopped h = absurd h

-- ---- what is written

no-front : («front» rest : List ℕ) → [] ≡ «front» ++ rest → «front» ≡ []
no-front [] rest e = refl
no-front (x ∷ xs) rest e = cc

-- nothing was written after
pub nothing-more : (old new : Option (List ℕ)) (before now : ℕ) → EndsWith old new before now [] [] → Appends old new []
nothing-more old new before now h = ⊎_elim (λ a. a) (λ h. subst (Appends old new) (no-front h.0 h.1 h.2) h.3) h

pub front-kept : (old mid new : Option (List ℕ)) (text : List ℕ) → AppendsFront old mid text → Appends mid new [] → AppendsFront old new text
front-kept old mid new text h none = (h.0, (h.1.0, h.1.1, subst (Appends old new) (append-nil h.1.0) (Appends-trans old mid new h.1.0 [] h.1.2 none)), h.2)

-- ---- the marks

pub both-unmarked : (trace log : Bool) (status : ℕ) → trace ≡ false → log ≡ false → (status ≡ 9 → ⊥) → ((trace ≡ true) ⊎ (log ≡ true)) ↔ (status ≡ 9)
both-unmarked trace log status t l other = (λ on. absurd (⊎_elim (λ e. false≢true (sym t ∙ e)) (λ e. false≢true (sym l ∙ e)) on), λ is. absurd (other is))

pub off : (a b : Marks) → a ≡ b → b.trace ≡ false → a.trace ≡ false
off a b e f = ap (λ (m : Marks). m.trace) e ∙ f

pub no-failure : {D : Type 0} (v : LoggedView D) → v.failed ≡ None → IsSome v.failed → ⊥
no-failure v e some = let h = rw e at some in absurd (cc)

-- the stretch follows the lines before one, and no part of it
pub FollowsPart-to : (start : Option (List ℕ)) (asked : Line) (s : Stretch) → FollowsTo start asked s → FollowsPart start s
FollowsPart-to None asked s f = tt
FollowsPart-to (Some bytes) asked s f = record {
  before = f.before;
  behind = f.line ∷ f.behind;
  parts = f.parts;
  done = s.events;
  part = [];
  events = sym (append-nil s.events);
  follows = f.follows;
  next = inl refl;
}

-- ---- the journal of a replay

-- a journal that has noted nothing begins with a sound graph
pub sound-opening : (j : JournalView) → IsSound (core_of j) → j.history.entries ≡ [] → IsSoundGraph j.history.opening
sound-opening j sound none = subst (λ (m : Moment). IsSoundGraph m.state.committed) (ap (moment_after (start_of j.history)) none) sound.state.committed

-- what is known of a journal, one fact for each
module _ {D : Type 0} (may_leave : D → Area → List ℕ → Type 0) (v : LoggedView D) where
  pub of-replay : IsOfOpenedStore v.journal → IsSoundGraph v.journal.history.opening → FailedGranted v
      → IsLegal v.journal.history → is_stopped (end_of v.journal.history) ≡ false → entries_in v.journal.notes ≡ v.journal.history.entries → IsSound (core_of v.journal)
      → AreLed object_slots (opening_of v.journal) v.journal.notes (core_of v.journal) → IsDurable v.journal (durable_notes v) → EachImage may_leave v.disk (MayBeLeft v) → EachImage may_leave v.disk (OpensAfter object_slots (history_of v)) → IsOfReplay may_leave v
  of-replay opened graph granted legal running entries sound led lasting images opens =
      let whole = legal-history v legal running granted in
      record {
        legal = whole;
        running = running;
        opened = opened;
        serializable = IsSerializable-legal (history_of v) (subst IsSoundGraph (sym (same-opening v granted)) graph) whole;
        entries = entries;
        sound = sound;
        led = led;
        lasting = lasting;
        images = images;
        opens = opens;
      }

-- a journal that goes on from a store that is just opened is of that store
pub of-opened : {D : Type 0} (v w : LoggedView D) → IsJustOpened v → IsSameStart v.journal w.journal → IsOfOpenedStore w.journal
of-opened v w just same =
    let ids : w.journal.history.ids ≡ v.journal.history.ids = ap (λ (h : History). h.ids) same.history in
    record {
      history =
          same.history
          ∙ ap (λ (h : History). record h { entries = w.journal.history.entries }) just.store.history
          ∙ ap (λ (n : ℕ). record (opened_history object_slots n v.journal.opening) { entries = w.journal.history.entries }) (sym ids)
          ∙ ap (λ (cs : List Cell). record (opened_history object_slots w.journal.history.ids cs) { entries = w.journal.history.entries }) (sym same.opening);
      limits = same.limits ∙ just.store.limits;
    }

-- however a replay stops, the disk's count of faults doesn't fall
pub stops-later : {D : Type 0} (faults : D → ℕ) (s : Stop) (number : ℕ) (source left before written : Option (List ℕ)) (old v : LoggedView D) → StopsReplay s number source left before written v.journal × LeavesLog faults s old v ⊎ FailsReplay faults s number source before written old v → faults old.disk ≤ faults v.disk
stops-later {D} faults s number source left before written old v h = ⊎_elim (λ h. leaves s h.1) (λ h. fails s h) h
  where
    leaves : (s : Stop) → LeavesLog faults s old v → faults old.disk ≤ faults v.disk
    leaves (stop.Line k) g = g.later
    leaves stop.Read g = g.later
    leaves stop.Write g = g.later
    leaves stop.Memory g = g.later
    leaves stop.Full g = g.later
    leaves stop.LogFull g = g.later
    leaves stop.Fault g = g.later
    leaves stop.UpkeepFault g = g.later
    leaves stop.Stopped g = g.later

    fails : (s : Stop) → FailsReplay faults s number source before written old v → faults old.disk ≤ faults v.disk
    fails (stop.Line k) h = absurd h
    fails stop.Read h = absurd h
    fails stop.Write h = h.1.later
    fails stop.Memory h = absurd h
    fails stop.Full h = absurd h
    fails stop.LogFull h = absurd h
    fails stop.Fault h = h.1.later
    fails stop.UpkeepFault h = h.0.later
    fails stop.Stopped h = absurd h
