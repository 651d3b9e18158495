use Rattle.std.proofs.Common.{◌≡◌, ◌≢◌, ℕ, ◌+◌, ◌≤◌, List, ⊎_elim, inl, inr, max, true, false, [], ap, sym, ◌∙◌, subst, refl, arith, rules}
use Rattle.std.specs.Prelude.{is_ok, if◌then◌else◌}
use Rattle.gate_log.specs.State.{LogState, used, appended}
use Rattle.plain_model.specs.History.{end_of, with_entry}
use Rattle.page_marks.specs.declared.marks.PageMark.{PageMark}
use Rattle.core_store.specs.declared.collect.Collect.{Collect}
use Rattle.core_store.specs.declared.collect.Collect.TheVariants.{Memory}
use Rattle.core_store.specs.Collects.{entry_of}
use Rattle.core_store.specs.Frames.{Agree}
use Rattle.core_store.specs.Owed.{bytes_owed}
use Rattle.core_store.specs.JournalView.{JournalView, cells_of}
use Rattle.core_store.specs.Limited.{AreLimits, is_past_limit}
use Rattle.core_store.specs.RoundView.{Closed}
use Rattle.core_store.specs.Steppings.{IsEvent, bytes_at, bytes_to_collect}
use Rattle.core_store.proofs.EventAnswers.{no-rest}
use Rattle.logged_journal.specs.Inside.{view_of}
use Rattle.logged_journal.specs.View.{LoggedView, IsPast, bytes_counted}
use Rattle.logged_journal.specs.Records.{last_bytes, last_logged, AreMarkedAfter}
use Rattle.logged_journal.specs.Kept.{IsKept}
use Rattle.logged_journal.specs.Calls.{DoesCollect, KeepsFrames, GoesOn}
use Rattle.logged_journal.proofs.Resting.{kept-same, goes-on-same, room-more, room-enough}
use Rattle.logged_journal.proofs.CollectorEvents.{IsCollected, does-made, last-collected, collected, kept-collected, goes-on-collected}
use Rattle.logged_journal.proofs.logged.LoggedJournal.log_step.Given.{Over}
use Rattle.logged_journal.proofs.logged.LoggedJournal.log_step.Goals as goal
use Rattle.logged_journal.proofs.logged.LoggedJournal.log_step.Goals.{In_default}

-- what it was
abbrev before : (g : Over) (c : In_default g) → LoggedView g.row.D.Denot
before g c =
    let s = c.self.inside in
    view_of s

-- the room in the log after the reservation
abbrev room : (g : Over) (c : In_default g) → ℕ
room g c = if is_ok c.reserve.result then max c.self.inside.log.room (c.bytes_owed.result + c.record_length.result) else c.self.inside.log.room

-- there is room in the history
history_is : (g : Over) (c : In_default g) → is_past_limit c.self.inside.journal 1 ≡ false
history_is g c = ap (λ (v : LoggedView g.row.D.Denot). is_past_limit v.journal 1) c.self.view_is ∙ c.requires.history

-- there is something to do
some_is : (g : Over) (c : In_default g) → (c.self.inside.journal.queue ≡ []) × (c.self.inside.journal.round ≡ Closed) → ⊥
some_is g c = subst (λ (v : LoggedView g.row.D.Denot). (v.journal.queue ≡ []) × (v.journal.round ≡ Closed) → ⊥) (sym c.self.view_is) c.requires.some

does : (g : Over) (c : In_default g) → DoesCollect g.row.SLOTS c.self.inside.journal c.make_event.new.self c.make_event.result
does g c =
    let e = c.make_event.ensures in
    does-made g.row.SLOTS c.self.inside.journal c.make_event.new.self c.make_event.result e.made (history_is g c) (some_is g c) (λ is. (e.memory is).0) e.event e.safe e.lower e.opening

event_is : (g : Over) (c : In_default g) → IsEvent c.make_event.result
event_is g c =
    let other : c.make_event.result ≢ Memory = search rules in
    ⊎_elim (λ memory. absurd (other memory)) (λ event. event) c.make_event.ensures.made

room_taken : (g : Over) (c : In_default g) → bytes_owed (end_of c.self.inside.journal.history) + bytes_to_collect c.self.inside.journal.round ≤ room g c
room_taken g c =
    let taken : is_ok c.reserve.result ≡ true = search rules in
    let enough = room-enough (is_ok c.reserve.result) c.self.inside.log.room (c.bytes_owed.result + c.record_length.result) taken in
    let owed = c.bytes_owed.ensures.value in
    let next = c.record_length.ensures ∙ ap bytes_at c.requires.at ∙ sym (ap (λ (v : LoggedView g.row.D.Denot). bytes_to_collect v.journal.round) c.self.view_is) in
    omega (arith, enough, owed, next)

collected_is : (g : Over) (c : In_default g) (marks : List PageMark) → AreMarkedAfter g.row.SLOTS (last_logged c.make_event.new.self.notes) c.self.inside.marks marks
    → IsCollected g.D.Disk.may_leave g.row.SLOTS (before g c) c.make_event.new.self marks c.make_event.result (room g c)
collected_is g c marks marked =
    record {
      kept = c.self.invariant.kept;
      running = ap (λ (v : LoggedView g.row.D.Denot). v.failed) c.self.view_is ∙ c.requires.running;
      limits = subst (λ (v : LoggedView g.row.D.Denot). AreLimits v.journal.limits) (sym c.self.view_is) c.requires.limits;
      fits = subst (λ (v : LoggedView g.row.D.Denot). IsPast v (bytes_to_collect v.journal.round) → ⊥) (sym c.self.view_is) c.requires.room;
      room_taken = room_taken g c;
      does = does g c;
      event = event_is g c;
      own = c.self.invariant.own;
      marked = marked;
    }

makes-entry : (g : Over) (c : In_default g) → c.make_event.new.self.history ≡ with_entry c.self.inside.journal.history (entry_of ((does g c).event (event_is g c)).logged)
makes-entry g c = ((does g c).event (event_is g c)).entry

-- the event's record has joined the log, and this many bytes at most are counted
after : (g : Over) (c : In_default g) (log : LogState) (marks : List PageMark) (peak : ℕ) → log ≡ appended c.reserve.new.self (last_bytes c.make_event.new.self.notes)
    → peak ≡ max c.self.inside.peak (bytes_counted (record (before g c) { journal = c.make_event.new.self; log = log }))
    → record (before g c) { journal = c.make_event.new.self; log = log; marks = marks; peak = peak } ≡ collected (before g c) c.make_event.new.self marks (room g c)
after g c log marks peak log_is peak_is =
    let j = c.make_event.new.self in
    let all = log_is ∙ ap (λ (l : LogState). appended l (last_bytes j.notes)) c.reserve.ensures.log in
    ap (λ (p : ℕ). record (before g c) { journal = j; log = log; marks = marks; peak = p }) peak_is
    ∙ ap (λ (l : LogState). let w = record (before g c) { journal = j; log = l; marks = marks } in record w { peak = max c.self.inside.peak (bytes_counted w) }) all

pub invariant_of-self : goal.invariant_of-self
invariant_of-self g c =
    let s = c.self.inside in
    let v : LoggedView g.row.D.Denot = view_of s in
    let room = if is_ok c.reserve.result then max s.log.room (c.bytes_owed.result + c.record_length.result) else s.log.room in
    record {
      size = c.self.invariant.size;
      own = c.self.invariant.own;
      spelling = c.self.invariant.spelling;
      counted = c.self.invariant.counted;
      kept = subst (λ (log : LogState). IsKept g.D.Disk.may_leave (record v { log = log })) (sym c.reserve.ensures.log)
          (kept-same g.D.Disk.may_leave v s.journal s.journal.round s.journal.marks room refl (room-more (is_ok c.reserve.result) s.log.room (c.bytes_owed.result + c.record_length.result)) c.self.invariant.kept);
    }

pub returns-then-is_err-clause-frames : goal.returns-then-is_err-clause-frames
returns-then-is_err-clause-frames g c =
    let agree = subst (λ (v : LoggedView g.row.D.Denot). Agree (cells_of v.journal) c.args.held.now) (sym c.self.view_is) c.requires.agree in
    subst (λ (v : LoggedView g.row.D.Denot). KeepsFrames v.journal c.self.inside.journal c.args.held.now c.args.held.now) c.self.view_is
    (record { pages = refl; agree = agree; elsewhere = λ page out. refl })

pub returns-then-is_err-clause-goes_on : goal.returns-then-is_err-clause-goes_on
returns-then-is_err-clause-goes_on g c =
    let v : LoggedView g.row.D.Denot = view_of c.self.inside in
    let running = ap (λ (w : LoggedView g.row.D.Denot). w.failed) c.self.view_is ∙ c.requires.running in
    subst (λ (w : LoggedView g.row.D.Denot). GoesOn w (record v { log = c.reserve.new.self })) c.self.view_is
    (subst (λ (l : LogState). GoesOn v (record v { log = l })) (sym c.reserve.ensures.log)
    (goes-on-same g.D.Disk.may_leave v v.journal v.journal.round v.journal.marks _ refl running c.self.invariant.kept))

pub returns-in-Memory-clause-goes_on : goal.returns-in-Memory-clause-goes_on
returns-in-Memory-clause-goes_on g c =
    let v : LoggedView g.row.D.Denot = view_of c.self.inside in
    let running = ap (λ (w : LoggedView g.row.D.Denot). w.failed) c.self.view_is ∙ c.requires.running in
    subst (λ (w : LoggedView g.row.D.Denot). GoesOn w (record v { journal = c.make_event.new.self; log = c.reserve.new.self })) c.self.view_is
    (subst (λ (l : LogState). GoesOn v (record v { journal = c.make_event.new.self; log = l })) (sym c.reserve.ensures.log)
    (goes-on-same g.D.Disk.may_leave v c.make_event.new.self v.journal.round v.journal.marks _ (c.make_event.ensures.memory c.in-Memory.is).0 running c.self.invariant.kept))

pub invariant_of-self-in-Memory : goal.invariant_of-self-in-Memory
invariant_of-self-in-Memory g c =
    let s = c.self.inside in
    let v : LoggedView g.row.D.Denot = view_of s in
    let room = if is_ok c.reserve.result then max s.log.room (c.bytes_owed.result + c.record_length.result) else s.log.room in
    let same = (c.make_event.ensures.memory c.in-Memory.is).0 in
    record {
      size = c.self.invariant.size;
      own = ap (λ (j : JournalView). j.history.slots) same ∙ c.self.invariant.own;
      spelling = c.self.invariant.spelling;
      counted = c.self.invariant.counted;
      kept = subst (λ (log : LogState). IsKept g.D.Disk.may_leave (record v { journal = c.make_event.new.self; log = log })) (sym c.reserve.ensures.log)
          (kept-same g.D.Disk.may_leave v c.make_event.new.self s.journal.round s.journal.marks room same (room-more (is_ok c.reserve.result) s.log.room (c.bytes_owed.result + c.record_length.result)) c.self.invariant.kept);
    }

pub append_last-requires : goal.append_last-requires
append_last-requires g c =
    let d = (goal.at.append_last-requires g c).In_default in
    let running = ap (λ (v : LoggedView g.row.D.Denot). v.failed) c.self.view_is ∙ c.requires.running in
    let stands = c.self.invariant.kept.standing running in
    let log = c.reserve.ensures.log in
    let stage = ap (λ (l : LogState). l.stage) log ∙ stands.stage in
    let size = ap (λ (l : LogState). used l) log in
    let place = ap (λ (l : LogState). l.room) log in
    let most = last-collected ((does g d).event (event_is g d)) in
    let taken = room_taken g d in
    let bounded = stands.bounded in
    let ids = ap (λ h. h.ids) (makes-entry g d) ∙ c.self.invariant.kept.many in
    (search rules, (c.self.invariant.size, (ids, (stage, (omega (arith, most, taken, place), omega (arith, bounded, size))))))

pub overflow_add-used : goal.overflow_add-used
overflow_add-used g c =
    let d = (goal.at.overflow_add-used g c).In_default in
    let is = collected_is g d c.append_last.new.marks c.append_last.ensures.marks in
    let bounded = (kept-collected g.D.Disk.may_leave g.row.SLOTS (before g d) c.make_event.new.self c.append_last.new.marks c.make_event.result (room g d) c.append_last.ensures.typed is).standing is.running in
    let most = bounded.bounded in
    let log = c.append_last.ensures.log ∙ ap (λ (l : LogState). appended l (last_bytes c.make_event.new.self.notes)) c.reserve.ensures.log in
    let size = ap (λ (l : LogState). used l) log in
    let total = c.used.ensures in
    let owed = c.bytes_owed-in_default.ensures.value in
    omega (arith, most, size, total, owed)

pub invariant_of-self-in_default : goal.invariant_of-self-in_default
invariant_of-self-in_default g c =
    let d = (goal.at.invariant_of-self-in_default g c).In_default in
    let v = before g d in
    let total = c.used.ensures in
    let owed = c.bytes_owed-in_default.ensures.value in
    let higher = c.max-self-inside.ensures in
    let peak : c.max-self-inside.result ≡ max c.self.inside.peak (used c.append_last.new.log + bytes_owed (end_of c.make_event.new.self.history)) = omega (arith, total, owed, higher) in
    record {
      size = c.self.invariant.size;
      own = ap (λ h. h.slots) (makes-entry g d) ∙ c.self.invariant.own;
      spelling = c.self.invariant.spelling;
      counted = c.self.invariant.counted;
      kept = subst (λ (w : LoggedView g.row.D.Denot). IsKept g.D.Disk.may_leave w) (sym (after g d c.append_last.new.log c.append_last.new.marks c.max-self-inside.result c.append_last.ensures.log peak))
          (kept-collected g.D.Disk.may_leave g.row.SLOTS v c.make_event.new.self c.append_last.new.marks c.make_event.result (room g d) c.append_last.ensures.typed (collected_is g d c.append_last.new.marks c.append_last.ensures.marks));
    }

pub returns-in-Memory-clause-does : goal.returns-in-Memory-clause-does
returns-in-Memory-clause-does g c =
    let e = c.make_event.ensures in
    let history = ap (λ (v : LoggedView g.row.D.Denot). is_past_limit v.journal 1) c.self.view_is ∙ c.requires.history in
    let some = subst (λ (v : LoggedView g.row.D.Denot). (v.journal.queue ≡ []) × (v.journal.round ≡ Closed) → ⊥) (sym c.self.view_is) c.requires.some in
    let does = does-made g.row.SLOTS c.self.inside.journal c.make_event.new.self c.make_event.result e.made history some (λ is. (e.memory is).0) e.event e.safe e.lower e.opening in
    subst (λ (r : Collect). DoesCollect g.row.SLOTS c.args.self.now.journal c.make_event.new.self r) c.in-Memory.is
    (subst (λ (v : LoggedView g.row.D.Denot). DoesCollect g.row.SLOTS v.journal c.make_event.new.self c.make_event.result) c.self.view_is does)

pub returns-in-Memory-clause-frames : goal.returns-in-Memory-clause-frames
returns-in-Memory-clause-frames g c =
    let e = c.make_event.ensures in
    subst (λ (v : LoggedView g.row.D.Denot). KeepsFrames v.journal c.make_event.new.self c.args.held.now c.make_event.new.held) c.self.view_is
    (record { pages = e.pages; agree = e.agree; elsewhere = e.elsewhere })

pub returns-in_default : goal.returns-in_default
returns-in_default g c =
    let d = (goal.at.returns-in_default g c).In_default in
    let v = before g d in
    let e = c.make_event.ensures in
    let total = c.used.ensures in
    let owed = c.bytes_owed-in_default.ensures.value in
    let higher = c.max-self-inside.ensures in
    let peak : c.max-self-inside.result ≡ max c.self.inside.peak (used c.append_last.new.log + bytes_owed (end_of c.make_event.new.self.history)) = omega (arith, total, owed, higher) in
    record {
      does = subst (λ (w : LoggedView g.row.D.Denot). DoesCollect g.row.SLOTS w.journal c.make_event.new.self c.make_event.result) c.self.view_is (does g d);
      goes_on = subst (λ (w : LoggedView g.row.D.Denot). GoesOn w (record v { journal = c.make_event.new.self; log = c.append_last.new.log; marks = c.append_last.new.marks; peak = c.max-self-inside.result })) c.self.view_is
          (subst (λ (w : LoggedView g.row.D.Denot). GoesOn v w) (sym (after g d c.append_last.new.log c.append_last.new.marks c.max-self-inside.result c.append_last.ensures.log peak))
          (goes-on-collected g.D.Disk.may_leave g.row.SLOTS v c.make_event.new.self c.append_last.new.marks c.make_event.result (room g d) (collected_is g d c.append_last.new.marks c.append_last.ensures.marks)));
      frames = subst (λ (w : LoggedView g.row.D.Denot). KeepsFrames w.journal c.make_event.new.self c.args.held.now c.make_event.new.held) c.self.view_is
          (record { pages = e.pages; agree = e.agree; elsewhere = e.elsewhere });
      same = λ is. ⊎_elim (λ full. absurd (no-rest c.make_event.result e.made (inl full))) (λ others. ⊎_elim (λ idle. absurd (no-rest c.make_event.result e.made (inr idle))) (λ memory. (e.memory memory).1) others) is;
      disk = search rules;
    }
