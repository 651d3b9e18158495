-- What a step of the collector is to the journal before the looks.
use Rattle.std.proofs.Common.{◌≡◌, ℕ, ◌<◌, max, true, false, List, [], ◌∷◌, ◌++◌, Ok, Err, None, refl, sym, ap, subst, ◌∙◌}
use Rattle.std.specs.Prelude.{◌↔◌, Result, IfOk, IsErrOf, Some}
use Rattle.plain_model.specs.History.{History, end_of}
use Rattle.plain_model.specs.Outcomes.{IsReachableInSomeOutcome}
use Rattle.store_model.specs.Core.{Core}
use Rattle.core_store.specs.declared.collect.Collect.{Collect}
use Rattle.core_store.specs.declared.collect.Collect.TheVariants.{Idle, Deleted, TraceFull}
use Rattle.core_store.specs.JournalView.{JournalView, cells_of, last_left}
use Rattle.core_store.specs.Limited.{is_past_limit}
use Rattle.core_store.specs.RoundView.{RoundView, Closed, Walking, Sweeping, asked, is_event, round_of, left_of}
use Rattle.core_store.specs.Steppings.{left_told, pops, OnlyLooks}
use Rattle.logged_journal.specs.declared.collect.CollectRefusal.{CollectRefusal}
use Rattle.logged_journal.specs.declared.collect.CollectRefusal.TheVariants.{LogFull}
use Rattle.logged_journal.specs.View.{LoggedView, bytes_counted}
use Rattle.page_marks.specs.declared.marks.PageMark.{PageMark}
use Rattle.logged_journal.specs.Records.{AreMarkedAfter, bytes_joined}
use Rattle.gate_log.specs.State.{appended, forced}
use Rattle.logged_journal.specs.Calls.{KeepsDisk, GoesOn, GoWithNotes, LogGoesOn, appends, forces, stayed, joined, IsPastLogToCollect, DoesCollect}
use Rattle.framed_journal.specs.Steps.{CollectsOnFrames, CollectsNext, FillsLog}

-- looks leave the history as full as it was
looks-past_limit : (slots : ℕ) (i j : JournalView) (needed : ℕ) → OnlyLooks slots i j → is_past_limit j needed ≡ is_past_limit i needed
looks-past_limit slots i j needed l = ap (λ (x : JournalView). is_past_limit x needed) l.same

looks-queue : (slots : ℕ) (i j : JournalView) → OnlyLooks slots i j → j.queue ≡ i.queue
looks-queue slots i j l = ap (λ (x : JournalView). x.queue) l.same

-- no round is open after looks where none was before, and none was before where none is after
closed-alike : (u v : RoundView) → round_of u ≡ round_of v → v ≡ Closed → u ≡ Closed
closed-alike Closed v same e = refl
closed-alike (Walking w) v same e = absurd (let none : round_of (Walking w) ≡ None = same ∙ ap round_of e in cc)
closed-alike (Sweeping w s slot g) v same e = absurd (let none : round_of (Sweeping w s slot g) ≡ None = same ∙ ap round_of e in cc)

looks-round : (slots : ℕ) (i j : JournalView) → OnlyLooks slots i j → round_of j.round ≡ round_of i.round
looks-round slots i j l = ap (λ (c : Core). c.round) l.core

-- where the collector is idle after its looks it was idle before, and looked at nothing
idle-before : (slots : ℕ) (i j : JournalView) (r : Collect) → OnlyLooks slots i j → (r ≡ Idle) ↔ (is_past_limit j 1 ≡ false) × (j.queue ≡ []) × (j.round ≡ Closed) → (r ≡ Idle) ↔ (is_past_limit i 1 ≡ false) × (i.queue ≡ []) × (i.round ≡ Closed)
idle-before slots i j r l idle = (
  λ e. let h = idle.0 e in (sym (looks-past_limit slots i j 1 l) ∙ h.0, sym (looks-queue slots i j l) ∙ h.1, closed-alike i.round j.round (sym (looks-round slots i j l)) h.2),
  λ h. idle.1 (looks-past_limit slots i j 1 l ∙ h.0, looks-queue slots i j l ∙ h.1, closed-alike j.round i.round (looks-round slots i j l) h.2),
)

unchanged-before : (slots : ℕ) (i j : JournalView) → OnlyLooks slots i j → j.round ≡ Closed → j ≡ i
unchanged-before slots i j l closed =
    let before = closed-alike i.round j.round (sym (looks-round slots i j l)) closed in
    l.same ∙ ap (λ (r : RoundView). let x : JournalView = record i { round = r } in x) (closed ∙ sym before)

full-before : (slots : ℕ) (i j : JournalView) (r : Collect) → OnlyLooks slots i j → (r ≡ TraceFull) ↔ (is_past_limit j 1 ≡ true) → (r ≡ TraceFull) ↔ (is_past_limit i 1 ≡ true)
full-before slots i j r l full = (λ e. sym (looks-past_limit slots i j 1 l) ∙ full.0 e, λ e. full.1 (looks-past_limit slots i j 1 l ∙ e))

-- what is reachable in some outcome is what it was before the looks
safe-before : (slots : ℕ) (i j : JournalView) (r : Collect) → OnlyLooks slots i j → ((id left : ℕ) → r ≡ Deleted id left → IsReachableInSomeOutcome (end_of j.history).state id → ⊥) → (id left : ℕ) → r ≡ Deleted id left → IsReachableInSomeOutcome (end_of i.history).state id → ⊥
safe-before slots i j r l safe id left e reached =
    let history : i.history ≡ j.history = sym (ap (λ (x : JournalView). x.history) l.same) in
    safe id left e (subst (λ (h : History). IsReachableInSomeOutcome (end_of h).state id) history reached)

-- and so is what the last note told
lower-before : (slots : ℕ) (i j k : JournalView) (r : Collect) → OnlyLooks slots i j → ((left : ℕ) → left_told r ≡ Some left → (left ≡ left_of slots k.round) × (pops r ≡ false → left < last_left j.notes)) → (left : ℕ) → left_told r ≡ Some left → (left ≡ left_of slots k.round) × (pops r ≡ false → left < last_left i.notes)
lower-before slots i j k r l lower left e =
    let both = lower left e in
    let last : last_left j.notes ≡ last_left i.notes = ap (λ (x : JournalView). last_left x.notes) l.same in
    (both.0, λ p. subst (λ (n : ℕ). left < n) last (both.1 p))

opening-before : (slots : ℕ) (i j k : JournalView) → OnlyLooks slots i j → (k.opening ≡ j.opening) × (k.limits ≡ j.limits) → (k.opening ≡ i.opening) × (k.limits ≡ i.limits)
opening-before slots i j k l start = (start.0 ∙ ap (λ (x : JournalView). x.opening) l.same, start.1 ∙ ap (λ (x : JournalView). x.limits) l.same)

-- ---- the log, from the value before the looks on

-- a step after the looks is a step of the collector on frames
collects-on_frames : (slots : ℕ) (i j k : JournalView) (step : Collect) → OnlyLooks slots i j → DoesCollect slots j k step → CollectsOnFrames slots i k step
collects-on_frames slots i j k step l does = record {
  full = full-before slots i j step l does.full;
  marked = λ e. record { looked = j; looks = l; marked = does.marked e };
  idle = idle-before slots i j step l does.idle;
  unchanged = λ e. does.unchanged e ∙ unchanged-before slots i j l (does.idle.0 e).2;
  memory = λ e. subst (λ (x : JournalView). OnlyLooks slots i x) (sym (does.memory e)) l;
  event = λ e. record { looked = j; looks = l; event = does.event e };
  safe = safe-before slots i j step l does.safe;
  lower = lower-before slots i j k step l does.lower;
  opening = opening-before slots i j k l does.opening;
}

pub collects-all : (slots : ℕ) (i j k : JournalView) (r : Result Collect CollectRefusal) → OnlyLooks slots i j → IfOk r (λ step. DoesCollect slots j k step) → IfOk r (λ step. CollectsOnFrames slots i k step)
collects-all slots i j k (Ok step) l does = collects-on_frames slots i j k step l does
collects-all slots i j k (Err e) l does = tt

-- a step that was made wasn't one for which the log had no room
pub collects-next : {D : Type 0} (slots : ℕ) (u v w : LoggedView D) (r : Result Collect CollectRefusal) → v ≡ record u { journal = v.journal } → OnlyLooks slots u.journal v.journal → (IsPastLogToCollect v → IsErrOf r LogFull) → IfOk r (λ step. DoesCollect slots v.journal w.journal step) → IfOk r (λ step. CollectsNext slots u w step)
collects-next {D} slots u v w (Ok step) same l full does = record {
  looked = v.journal;
  looks = l;
  within = λ past. absurd (let clash = full (subst (λ (x : LoggedView D). IsPastLogToCollect x) (sym same) past) in cc);
  step = does;
}
collects-next slots u v w (Err e) same l full does = tt

pub fills-log : {D : Type 0} (slots : ℕ) (u v w : LoggedView D) → v ≡ record u { journal = v.journal } → OnlyLooks slots u.journal v.journal → (is_past_limit v.journal 1 ≡ false → is_event (cells_of v.journal) (asked v.journal.round) ≡ true) → IsPastLogToCollect v → w ≡ record v { log_full = true } → FillsLog slots u w
fills-log {D} slots u v w same l ready past marked = record {
  looked = v.journal;
  looks = l;
  event = ready past.room;
  past = subst (λ (x : LoggedView D). IsPastLogToCollect x) same past;
  marked = marked ∙ ap (λ (x : LoggedView D). let y : LoggedView D = record x { log_full = true } in y) same;
}

-- looks join no note, and so leave the marks of pages
with_notes-before : {D : Type 0} (slots : ℕ) (u v w : LoggedView D) → v ≡ record u { journal = v.journal } → OnlyLooks slots u.journal v.journal → GoWithNotes v w → GoWithNotes u w
with_notes-before {D} slots u v w same l (stayed notes marks) = stayed (notes ∙ ap (λ (j : JournalView). j.notes) l.same) (marks ∙ ap (λ (x : LoggedView D). x.marks) same)
with_notes-before {D} slots u v w same l (joined n notes marked) =
    joined n (notes ∙ ap (λ (j : JournalView). j.notes ++ n ∷ []) l.same)
    (subst (λ (ms : List PageMark). AreMarkedAfter u.journal.history.slots n.logged ms w.marks) (ap (λ (x : LoggedView D). x.marks) same)
    (subst (λ (k : ℕ). AreMarkedAfter k n.logged v.marks w.marks) (ap (λ (j : JournalView). j.history.slots) l.same) marked))

-- nor do they join the log
log-before : {D : Type 0} (slots : ℕ) (u v w : LoggedView D) → v ≡ record u { journal = v.journal } → OnlyLooks slots u.journal v.journal → LogGoesOn v w → LogGoesOn u w
log-before {D} slots u v w same l (appends kept log) =
    appends (record { disk = kept.disk ∙ ap (λ (x : LoggedView D). x.disk) same; durable = kept.durable ∙ ap (λ (x : LoggedView D). x.durable) same })
    (log
    ∙ ap (λ (x : LoggedView D). record (appended x.log (bytes_joined v.journal w.journal)) { room = w.log.room }) same
    ∙ ap (λ (j : JournalView). record (appended u.log (bytes_joined j w.journal)) { room = w.log.room }) l.same)
log-before {D} slots u v w same l (forces all log) =
    forces all
    (log
    ∙ ap (λ (x : LoggedView D). record (forced (appended x.log (bytes_joined v.journal w.journal))) { room = w.log.room }) same
    ∙ ap (λ (j : JournalView). record (forced (appended u.log (bytes_joined j w.journal))) { room = w.log.room }) l.same)

pub goes_on-before : {D : Type 0} (slots : ℕ) (u v w : LoggedView D) → v ≡ record u { journal = v.journal } → OnlyLooks slots u.journal v.journal → GoesOn v w → GoesOn u w
goes_on-before {D} slots u v w same l on = record {
  marks = with_notes-before slots u v w same l on.marks;
  log = log-before slots u v w same l on.log;
  running = on.running;
  log_full = on.log_full ∙ ap (λ (x : LoggedView D). x.log_full) same;
  peak = on.peak ∙ ap (λ (x : LoggedView D). max x.peak (bytes_counted w)) same;
  opened = on.opened ∙ ap (λ (x : LoggedView D). x.opened) same;
}

pub all_go_on-before : {D : Type 0} (slots : ℕ) (u v w : LoggedView D) (r : Result Collect CollectRefusal) → v ≡ record u { journal = v.journal } → OnlyLooks slots u.journal v.journal → IfOk r (λ _. GoesOn v w) → IfOk r (λ _. GoesOn u w)
all_go_on-before slots u v w (Ok step) same l on = goes_on-before slots u v w same l on
all_go_on-before slots u v w (Err e) same l on = tt

pub disk-before : {D : Type 0} (u v w : LoggedView D) → v ≡ record u { journal = v.journal } → KeepsDisk v w → KeepsDisk u w
disk-before {D} u v w same kept = record { disk = kept.disk ∙ ap (λ (x : LoggedView D). x.disk) same; durable = kept.durable ∙ ap (λ (x : LoggedView D). x.durable) same }
