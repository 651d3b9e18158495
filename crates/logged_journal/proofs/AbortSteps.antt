-- What a journal with its log keeps at a step of an abort.
use Rattle.std.proofs.Common.{◌≡◌, ℕ, ◌+◌, ◌≤◌, false, ◌||◌, List, [], ◌∷◌, ◌++◌, length, length-append, Some, None, refl, ◌∙◌, ap, arith}
use Rattle.std.specs.Prelude.{IsSome, option_map}
use Rattle.disk_model.specs.declared.area.Area.{Area}
use Rattle.plain_laws.specs.Sound.{is_crash}
use Rattle.plain_model.specs.declared.calls.Call.TheVariants.{Abort}
use Rattle.plain_model.specs.declared.calls.Reply.TheVariants.{Done}
use Rattle.plain_model.specs.declared.calls.Entry.TheVariants.{Call, Undo}
use Rattle.plain_model.specs.Machine.{transaction_of}
use Rattle.plain_model.specs.History.{end_of}
use Rattle.plain_model.proofs.HistoryLemmas.{end_of-with_entry}
use Rattle.restart_laws.specs.Settled.{acknowledges}
use Rattle.log_record.specs.declared.cell_record.CellRecord.TheVariants.{AbortEnd}
use Rattle.gate_log.specs.State.{appended}
use Rattle.page_marks.specs.declared.marks.PageMark.{PageMark}
use Rattle.core_store.specs.declared.abort_step.AbortStep.{AbortStep}
use Rattle.core_store.specs.declared.abort_step.AbortStep.TheVariants.{Undone, Ended}
use Rattle.core_store.specs.declared.act.Act.TheVariants.{Other}
use Rattle.core_store.specs.declared.note.Note.{Note}
use Rattle.core_store.specs.JournalView.{JournalView, cells_of}
use Rattle.core_store.specs.Logged.{logged_by_undo}
use Rattle.core_store.specs.Owed.{bytes_owed}
use Rattle.core_store.specs.Replaced.{next_to_restore}
use Rattle.core_store.specs.RoundView.{left_of}
use Rattle.core_store.proofs.BytesOwed.{undo-owes, end-owes}
use Rattle.logged_journal.specs.View.{LoggedView, bytes_counted}
use Rattle.logged_journal.specs.Records.{note_bytes, last_bytes, IsLastTyped, last_logged, AreMarkedAfter}
use Rattle.logged_journal.specs.Kept.{IsKept}
use Rattle.logged_journal.specs.Calls.{DoesAbortStep, GoesOn, joined}
use Rattle.logged_journal.proofs.RecordLengths.{size-is, at-most-25}
use Rattle.logged_journal.proofs.NoteBytes.{last-push, last-typed, last-marked, appends-last}
use Rattle.logged_journal.proofs.Kept.{HasEvent, kept-event}
use Rattle.logged_journal.proofs.Ascending.{ascends}
use Rattle.logged_journal.proofs.CollectorEvents.{bytes-length}

-- its record joined the tail, in room that was owed
abbrev pub stepped : {D : Type 0} → LoggedView D → JournalView → List PageMark → LoggedView D
stepped v j marks = record v { journal = j; log = appended v.log (last_bytes j.notes); marks = marks }

-- one note more, whose record and what is owed after it were owed
pub record HasOwed (old new : JournalView) : Type 0 where
  pub note : Note
  pub entry : new.history ≡ Rattle.plain_model.specs.History.with_entry old.history note.entry
  pub noted : new.notes ≡ old.notes ++ note ∷ []
  pub unpromised : (acknowledges note.entry || is_crash note.entry) ≡ false
  pub owed : bytes_owed (end_of new.history) + length (note_bytes note) ≤ bytes_owed (end_of old.history)

-- so it is at a step of an abort
pub has-owed : (slots : ℕ) (old new : JournalView) (pass : ℕ) (step : AbortStep) → IsSome (transaction_of (end_of old.history).state pass) → DoesAbortStep slots old new pass step → HasOwed old new
has-owed slots old new pass Undone active does =
    let logged = option_map (logged_by_undo (cells_of old) pass) (next_to_restore (end_of old.history) pass) in
    let note : Note = record { entry = Undo pass; logged = logged; left = left_of slots new.round; act = Other } in
    let entry = (does.undone refl).1 in
    let after = ap (λ h. bytes_owed (end_of h)) entry ∙ ap bytes_owed (end_of-with_entry old.history (Undo pass)) in
    let owed = undo-owes (end_of old.history) pass (ascends old.history) (does.undone refl).0 in
    let long = bytes-length note in
    let most = at-most-25 logged in
    record { note = note; entry = entry; noted = does.noted_undo refl; unpromised = refl; owed = omega (arith, after, owed, long, most) }
has-owed slots old new pass Ended active does =
    let note : Note = record { entry = Call pass Abort Done; logged = Some (AbortEnd pass); left = left_of slots new.round; act = Other } in
    let entry = (does.ended refl).1 in
    let after = ap (λ h. bytes_owed (end_of h)) entry ∙ ap bytes_owed (end_of-with_entry old.history (Call pass Abort Done)) in
    let owed = end-owes (end_of old.history) pass (ascends old.history) active in
    let long = size-is (AbortEnd pass) in
    record { note = note; entry = entry; noted = does.noted_end refl; unpromised = refl; owed = omega (arith, after, owed, long) }

last-is : (old new : JournalView) (has : HasOwed old new) → last_bytes new.notes ≡ note_bytes has.note
last-is old new has = ap last_bytes has.noted ∙ last-push old.notes has.note

-- its record is owed
pub last-owed : (old new : JournalView) → HasOwed old new → bytes_owed (end_of new.history) + length (last_bytes new.notes) ≤ bytes_owed (end_of old.history)
last-owed old new has =
    let e = ap (λ (l : List ℕ). length l) (last-is old new has) in
    let owed = has.owed in
    omega (arith, e, owed)

module _ {D : Type 0} (may_leave : D → Area → List ℕ → Type 0) (slots : ℕ) (v : LoggedView D) (j : JournalView) (marks : List PageMark) (pass : ℕ) (step : AbortStep) where
  -- what is told of the step
  pub record IsStepped : Type 0 where
    pub kept : IsKept may_leave v
    pub running : v.failed ≡ None
    pub active : IsSome (transaction_of (end_of v.journal.history).state pass)
    pub does : DoesAbortStep slots v.journal j pass step
    pub own : v.journal.history.slots ≡ slots
    pub marked : AreMarkedAfter slots (last_logged j.notes) v.marks marks

  -- no more bytes are counted than before
  counted-less : IsStepped → bytes_counted (stepped v j marks) ≤ bytes_counted v
  counted-less is =
      let owed = last-owed v.journal j (has-owed slots v.journal j pass step is.active is.does) in
      let long = length-append v.log.tail (last_bytes j.notes) in
      omega (arith, owed, long)

  -- the marks are as its record makes them
  note-marked : (is : IsStepped) → AreMarkedAfter v.journal.history.slots (has-owed slots v.journal j pass step is.active is.does).note.logged v.marks marks
  note-marked is =
      let has = has-owed slots v.journal j pass step is.active is.does in
      last-marked slots v.journal.history.slots v.journal.notes j.notes has.note v.marks marks is.own has.noted is.marked

  has-event : IsLastTyped j.notes → (is : IsStepped) → HasEvent v (stepped v j marks) (has-owed slots v.journal j pass step is.active is.does).note
  has-event typed is =
      let has = has-owed slots v.journal j pass step is.active is.does in
      let stands = is.kept.standing is.running in
      let owed = last-owed v.journal j has in
      let less = counted-less is in
      let room = stands.room in
      let bounded = stands.bounded in
      let peak = stands.peak in
      record {
        note = record { entry = has.entry; noted = has.noted; opening = is.does.opening.0 };
        limits = is.does.opening.1;
        area = refl;
        stage = refl;
        offset = refl;
        tail = ap (λ (l : List ℕ). v.log.tail ++ l) (last-is v.journal j has);
        disk = refl;
        durable = refl;
        marked = note-marked is;
        running = (is.running, is.running);
        log_full = refl;
        unpromised = has.unpromised;
        typed = last-typed v.journal.notes j.notes has.note has.noted typed;
        room = omega (arith, owed, room);
        bounded = omega (arith, less, bounded);
        peak = omega (arith, less, peak);
        higher = omega (arith);
      }

  pub kept-stepped : IsLastTyped j.notes → IsStepped → IsKept may_leave (stepped v j marks)
  kept-stepped typed is = kept-event may_leave v (stepped v j marks) (has-owed slots v.journal j pass step is.active is.does).note is.kept (has-event typed is)

  pub goes-on-stepped : IsStepped → GoesOn v (stepped v j marks)
  goes-on-stepped is =
      let less = counted-less is in
      let peak = (is.kept.standing is.running).peak in
      let has = has-owed slots v.journal j pass step is.active is.does in
      record { running = is.running; log_full = refl; peak = omega (arith, less, peak); opened = refl; marks = joined has.note has.noted (note-marked is); log = appends-last v (stepped v j marks) has.note has.noted (record { disk = refl; durable = refl }) refl }
