-- What a journal with its log keeps at an event of its collector.
use Rattle.std.proofs.Common.{◌≡◌, ◌⊎◌, inl, inr, ℕ, ◌+◌, ◌≤◌, ◌<◌, max, false, ◌||◌, List, [], ◌++◌, length, length-append, Option, Some, None, refl, ◌∙◌, ap, arith}
use Rattle.disk_model.specs.declared.area.Area.{Area}
use Rattle.plain_laws.specs.Sound.{is_crash}
use Rattle.plain_model.specs.History.{Moment, next, end_of}
use Rattle.plain_model.specs.Outcomes.{IsReachableInSomeOutcome}
use Rattle.plain_model.proofs.HistoryLemmas.{end_of-with_entry}
use Rattle.restart_laws.specs.Settled.{acknowledges}
use Rattle.log_record.specs.declared.cell_record.CellRecord.{CellRecord}
use Rattle.log_record.specs.declared.cell_record.CellRecord.TheVariants as logs
use Rattle.gate_log.specs.State.{appended}
use Rattle.page_marks.specs.declared.marks.PageMark.{PageMark}
use Rattle.core_store.specs.declared.collect.Collect.{Collect}
use Rattle.core_store.specs.declared.collect.Collect.TheVariants as collect
use Rattle.core_store.specs.declared.note.Note.{Note}
use Rattle.core_store.specs.Collects.{entry_of}
use Rattle.core_store.specs.JournalView.{JournalView, last_left}
use Rattle.core_store.specs.Limited.{AreLimits, is_past_limit}
use Rattle.core_store.specs.Owed.{bytes_owed}
use Rattle.core_store.specs.RoundView.{Closed, left_of}
use Rattle.core_store.specs.Steppings.{IsEvent, MakesEvent, left_told, pops, bytes_to_collect}
use Rattle.core_store.proofs.EventAnswers.{no-rest}
use Rattle.logged_journal.specs.View.{LoggedView, bytes_counted, IsPast}
use Rattle.logged_journal.specs.Records.{note_bytes, last_bytes, IsLastTyped, last_logged, AreMarkedAfter}
use Rattle.logged_journal.specs.Kept.{IsKept}
use Rattle.logged_journal.specs.Calls.{DoesCollect, GoesOn, joined}
use Rattle.logged_journal.proofs.RecordLengths.{logged_length, collect-length}
use Rattle.logged_journal.proofs.NoteBytes.{last-push, last-typed, last-marked, appends-last}
use Rattle.logged_journal.proofs.Kept.{HasEvent, kept-event}

-- ---- of the record alone

-- nothing of what the transactions owe changes
pub owed-collected : (m : Moment) (logged : Option CellRecord) → bytes_owed (next m (entry_of logged)) ≡ bytes_owed m
owed-collected m None = refl
owed-collected m (Some (logs.Begin pass)) = refl
owed-collected m (Some (logs.Make pass id)) = refl
owed-collected m (Some (logs.Store pass id slot old_target old_strong new_target new_bit new_strong)) = refl
owed-collected m (Some (logs.Pay pass id old_value new_value)) = refl
owed-collected m (Some (logs.Commit pass)) = refl
owed-collected m (Some (logs.Undo pass place from_strong to_bit id «from» to)) = refl
owed-collected m (Some (logs.AbortEnd pass)) = refl
owed-collected m (Some (logs.Weaken id slot target)) = refl
owed-collected m (Some (logs.Strengthen id slot target)) = refl
owed-collected m (Some (logs.Flip id)) = refl
owed-collected m (Some (logs.CutDead id slot target was_strong)) = refl
owed-collected m (Some (logs.Free id)) = refl

-- nothing is promised
unpromised : (logged : Option CellRecord) → (acknowledges (entry_of logged) || is_crash (entry_of logged)) ≡ false
unpromised None = refl
unpromised (Some (logs.Begin pass)) = refl
unpromised (Some (logs.Make pass id)) = refl
unpromised (Some (logs.Store pass id slot old_target old_strong new_target new_bit new_strong)) = refl
unpromised (Some (logs.Pay pass id old_value new_value)) = refl
unpromised (Some (logs.Commit pass)) = refl
unpromised (Some (logs.Undo pass place from_strong to_bit id «from» to)) = refl
unpromised (Some (logs.AbortEnd pass)) = refl
unpromised (Some (logs.Weaken id slot target)) = refl
unpromised (Some (logs.Strengthen id slot target)) = refl
unpromised (Some (logs.Flip id)) = refl
unpromised (Some (logs.CutDead id slot target was_strong)) = refl
unpromised (Some (logs.Free id)) = refl

-- the bytes of a note are those of its record
pub bytes-length : (n : Note) → length (note_bytes n) ≡ logged_length n.logged
bytes-length n = by n.logged
  where
    by : (o : Option CellRecord) → length (Rattle.std.specs.Option.option_map_or Rattle.log_record.specs.Spelling.cell_record_bytes o []) ≡ logged_length o
    by None = refl
    by (Some r) = refl

-- ---- of the journal

-- where the history isn't full and something is queued or a round is open, it is what a step of the collector is
pub does-made : (slots : ℕ) (old new : JournalView) (result : Collect) → (result ≡ collect.Memory) ⊎ IsEvent result → is_past_limit old 1 ≡ false → ((old.queue ≡ []) × (old.round ≡ Closed) → ⊥)
    → (result ≡ collect.Memory → new ≡ old) → (IsEvent result → MakesEvent slots old new result)
    → ((id left : ℕ) → result ≡ collect.Deleted id left → IsReachableInSomeOutcome (end_of old.history).state id → ⊥)
    → ((left : ℕ) → left_told result ≡ Some left → (left ≡ left_of slots new.round) × (pops result ≡ false → left < last_left old.notes))
    → (new.opening ≡ old.opening) × (new.limits ≡ old.limits) → DoesCollect slots old new result
does-made slots old new result made room some memory event safe lower opening = record {
  full = (λ is. absurd (no-rest result made (inl is)), λ past. absurd (cc (past, room)));
  marked = λ is. absurd (no-rest result made (inl is));
  idle = (λ is. absurd (no-rest result made (inr is)), λ idle. absurd (some (idle.1, idle.2)));
  unchanged = λ is. absurd (no-rest result made (inr is));
  memory = memory;
  event = event;
  safe = safe;
  lower = lower;
  opening = opening;
}

module _ {slots : ℕ} {old new : JournalView} {result : Collect} (makes : MakesEvent slots old new result) where
  -- the note of the event
  abbrev note_of : Note
  note_of = record { entry = entry_of makes.logged; logged = makes.logged; left = left_of slots new.round; act = makes.event }

  last-is : last_bytes new.notes ≡ note_bytes note_of
  last-is = ap last_bytes makes.noted ∙ last-push old.notes note_of

  -- its record is as long as told at most
  pub last-collected : length (last_bytes new.notes) ≤ bytes_to_collect old.round
  last-collected =
      let e = ap (λ (l : List ℕ). length l) last-is in
      let k = bytes-length note_of in
      let most = collect-length slots old.history.ids old.round new.round makes.event makes.logged makes.proceeds in
      omega (arith, e, k, most)

  pub owed-same : bytes_owed (end_of new.history) ≡ bytes_owed (end_of old.history)
  owed-same = ap (λ h. bytes_owed (end_of h)) makes.entry ∙ ap bytes_owed (end_of-with_entry old.history (entry_of makes.logged)) ∙ owed-collected (end_of old.history) makes.logged

-- ---- of the journal with its log

-- its record joined the tail, in room that was taken
abbrev pub collected : {D : Type 0} → LoggedView D → JournalView → List PageMark → ℕ → LoggedView D
collected v j marks room =
    let w = record v { journal = j; log = appended (record v.log { room = room }) (last_bytes j.notes); marks = marks } in
    record w { peak = max v.peak (bytes_counted w) }

module _ {D : Type 0} (may_leave : D → Area → List ℕ → Type 0) (slots : ℕ) (v : LoggedView D) (j : JournalView) (marks : List PageMark) (result : Collect) (room : ℕ) where
  -- what is told of the event
  pub record IsCollected : Type 0 where
    pub kept : IsKept may_leave v
    pub running : v.failed ≡ None
    pub limits : AreLimits v.journal.limits
    pub fits : IsPast v (bytes_to_collect v.journal.round) → ⊥
    pub room_taken : bytes_owed (end_of v.journal.history) + bytes_to_collect v.journal.round ≤ room
    pub does : DoesCollect slots v.journal j result
    pub event : IsEvent result
    pub own : v.journal.history.slots ≡ slots
    pub marked : AreMarkedAfter slots (last_logged j.notes) v.marks marks

  -- the marks are as its record makes them
  note-marked : (is : IsCollected) → AreMarkedAfter v.journal.history.slots (is.does.event is.event).logged v.marks marks
  note-marked is =
      let makes = is.does.event is.event in
      last-marked slots v.journal.history.slots v.journal.notes j.notes (note_of makes) v.marks marks is.own makes.noted is.marked

  has-event : IsLastTyped j.notes → (is : IsCollected) → HasEvent v (collected v j marks room) (note_of (is.does.event is.event))
  has-event typed is =
      let makes = is.does.event is.event in
      let owed = owed-same makes in
      let most = last-collected makes in
      let limit = is.limits.log in
      let fits = is.fits in
      let taken = is.room_taken in
      let long = length-append v.log.tail (last_bytes j.notes) in
      record {
        note = record { entry = makes.entry; noted = makes.noted; opening = is.does.opening.0 };
        limits = is.does.opening.1;
        area = refl;
        stage = refl;
        offset = refl;
        tail = ap (λ (l : List ℕ). v.log.tail ++ l) (last-is makes);
        disk = refl;
        durable = refl;
        marked = note-marked is;
        running = (is.running, is.running);
        log_full = refl;
        unpromised = unpromised makes.logged;
        typed = last-typed v.journal.notes j.notes (note_of makes) makes.noted typed;
        room = omega (arith, owed, most, taken);
        bounded = omega (arith, owed, most, limit, fits, long);
        peak = omega (arith);
        higher = omega (arith);
      }

  pub kept-collected : IsLastTyped j.notes → IsCollected → IsKept may_leave (collected v j marks room)
  kept-collected typed is = kept-event may_leave v (collected v j marks room) (note_of (is.does.event is.event)) is.kept (has-event typed is)

  pub goes-on-collected : IsCollected → GoesOn v (collected v j marks room)
  goes-on-collected is =
      let makes = is.does.event is.event in
      record { running = is.running; log_full = refl; peak = refl; opened = refl; marks = joined (note_of makes) makes.noted (note-marked is); log = appends-last v (collected v j marks room) (note_of makes) makes.noted (record { disk = refl; durable = refl }) refl }
