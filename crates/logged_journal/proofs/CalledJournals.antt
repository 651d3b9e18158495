-- What a journal with its log keeps at a call that is no commit that was done.
use Rattle.std.proofs.Common.{◌≡◌, ◌≢◌, ℕ, ◌+◌, ◌≤◌, ◌<◌, max, Bool, true, false, ◌||◌, List, [], ◌++◌, length, Option, Some, None, refl, sym, ◌∙◌, ap, subst, arith}
use Rattle.std.specs.Prelude.{if◌then◌else◌, IfSome}
use Rattle.std.specs.Option.{option_map_or}
use Rattle.std.proofs.lemmas.List.{append-nil}
use Rattle.disk_model.specs.declared.area.Area.{Area}
use Rattle.disk_model.specs.Areas.{Bytes}
use Rattle.plain_model.specs.declared.calls.Call.{Call as TransactionCall}
use Rattle.plain_model.specs.declared.calls.Call.TheVariants as call
use Rattle.plain_model.specs.declared.calls.Reply.{Reply}
use Rattle.plain_model.specs.declared.calls.Reply.TheVariants as reply
use Rattle.plain_model.specs.declared.calls.Entry.TheVariants.{Call}
use Rattle.plain_model.specs.ActiveTransaction.{ActiveTransaction}
use Rattle.plain_model.specs.Machine.{State, refusal_of, transaction_of}
use Rattle.plain_model.specs.History.{Moment, end_of, next}
use Rattle.plain_model.proofs.HistoryLemmas.{end_of-with_entry}
use Rattle.plain_model.proofs.StepLaws.{is_plain, step-plain}
use Rattle.plain_laws.specs.Sound.{is_crash, PassesAscend}
use Rattle.restart_laws.specs.Settled.{acknowledges}
use Rattle.store_model.proofs.CallLaws.{call-refused}
use Rattle.gate_log.specs.Batches.{most_bytes}
use Rattle.gate_log.specs.State.{LogState, used, appended}
use Rattle.log_record.specs.declared.cell_record.CellRecord.{CellRecord}
use Rattle.log_record.specs.declared.cell_record.CellRecord.TheVariants as logs
use Rattle.log_record.specs.Spelling.{cell_record_bytes, IsTypedCellRecord}
use Rattle.page_marks.specs.declared.marks.PageMark.{PageMark}
use Rattle.core_store.specs.declared.act.Act.TheVariants.{Other}
use Rattle.core_store.specs.declared.marks.Marks.{Marks}
use Rattle.core_store.specs.declared.note.Note.{Note}
use Rattle.core_store.specs.JournalView.{JournalView, cells_of}
use Rattle.core_store.specs.Limited.{AreLimits, is_past_limit}
use Rattle.core_store.specs.Logged.{logged_by, record_in}
use Rattle.core_store.specs.Owed.{bytes_owed, bytes_needed, entries_needed}
use Rattle.core_store.specs.RoundView.{left_of}
use Rattle.core_store.specs.Steppings.{IsEntered}
use Rattle.core_store.proofs.BytesOwed.{call-owes, refused-owes}
use Rattle.core_store.proofs.PlanLaws.{refusal-in, refusal-out}
use Rattle.logged_journal.specs.View.{LoggedView, IsPast, failed_commit, bytes_counted, image_need}
use Rattle.logged_journal.specs.Records.{note_bytes, last_bytes, last_logged, IsLastTyped, AreMarkedAfter, HasRecords, MayBeLeft, durable, failed}
use Rattle.logged_journal.specs.Kept.{IsKept}
use Rattle.logged_journal.specs.Calls.{IsOfJournal, IsGranted, DoesCall, GoesOn, GoWithNotes, LogGoesOn, stayed, joined}
use Rattle.logged_journal.proofs.Kept.{kept-event, on-same}
use Rattle.logged_journal.proofs.NoteBytes.{last-push, last-typed, last-marked, appends-none, appends-silent}
use Rattle.logged_journal.proofs.RecordLengths.{logged_length, call-length}
use Rattle.logged_journal.proofs.Resting.{granted-rested}

-- ---- replies

-- out of memory, a full history, or a reply that enters the history
pub data Answers (r : Reply) : Type 0 where
  memory : r ≡ reply.Memory → Answers r
  full : r ≡ reply.TraceFull → Answers r
  entered : IsEntered r → Answers r

pub answers : (r : Reply) → Answers r
answers reply.Memory = memory refl
answers reply.TraceFull = full refl
answers other = entered (λ e. absurd (cc (e)), λ e. absurd (cc (e)))

plain-journal : (r : Reply) → is_plain r ≡ true → IsOfJournal r
plain-journal (reply.Stopped faults) e = absurd (cc (e))
plain-journal reply.LogFull e = absurd (cc (e))
plain-journal reply.DiskFault e = absurd (cc (e))
plain-journal other e = tt

-- a journal gives no reply of its log
pub of-journal : (slots : ℕ) (old new : JournalView) (pass : ℕ) (c : TransactionCall) (r : Reply) → DoesCall slots old new pass c r → IsOfJournal r
of-journal slots old new pass c r does = by (answers r)
  where
    by : Answers r → IsOfJournal r
    by (memory e) = subst IsOfJournal (sym e) tt
    by (full e) = subst IsOfJournal (sym e) tt
    by (entered e) = plain-journal r (ap is_plain (does.machine e) ∙ step-plain (end_of old.history).state pass c)

-- only a commit is acknowledged
other-unpromised : (pass : ℕ) (c : TransactionCall) (r : Reply) → c ≢ call.Commit → (acknowledges (Call pass c r) || is_crash (Call pass c r)) ≡ false
other-unpromised pass call.Commit r other = absurd (other refl)
other-unpromised pass c r other = refl

-- and only one that was done
undone-unpromised : (pass : ℕ) (c : TransactionCall) (r : Reply) → (c ≡ call.Commit → r ≢ reply.Done) → (acknowledges (Call pass c r) || is_crash (Call pass c r)) ≡ false
undone-unpromised pass call.Commit reply.Done other = absurd (other refl refl)
undone-unpromised pass call.Commit r other = refl
undone-unpromised pass c r other = refl

-- no refusal of a commit tells that it was done
pub commit-refused : (s : State) (pass : ℕ) (o : Option ActiveTransaction) → transaction_of s pass ≡ o → refusal_of s pass call.Commit ≢ Some reply.Done
commit-refused s pass (Some t) is e = by t.aborting (sym (refusal-in s pass t call.Commit is) ∙ e)
  where
    by : (b : Bool) → (if b then Some reply.Aborting else None) ≢ Some reply.Done
    by true f = absurd (cc (f))
    by false f = absurd (cc (f))
commit-refused s pass None is e = let f = sym (refusal-out s pass call.Commit is) ∙ e in absurd (cc (f))

-- ---- refused calls

-- a call that isn't granted, and whose reply enters the history, is refused by the machine
pub refused-so : (slots : ℕ) (old new : JournalView) (pass : ℕ) (c : TransactionCall) (r : Reply) → (IsGranted old pass c → ⊥) → DoesCall slots old new pass c r → IsEntered r → refusal_of (end_of old.history).state pass c ≡ Some r
refused-so slots old new pass c r refused does e = by-room (is_past_limit old (entries_needed c)) refl
  where
    s : State
    s = (end_of old.history).state

    by-reply : is_past_limit old (entries_needed c) ≡ false → (o : Option Reply) → refusal_of s pass c ≡ o → refusal_of s pass c ≡ Some r
    by-reply room (Some q) is =
        let same : r ≡ q = does.machine e ∙ ap (λ (x : Reply × State). x.0) (call-refused s pass c q is) in
        is ∙ ap (λ (q : Reply). Some q) (sym same)
    by-reply room None is = absurd (refused (record { room = room; granted = is }))

    by-room : (b : Bool) → is_past_limit old (entries_needed c) ≡ b → refusal_of s pass c ≡ Some r
    by-room true is = absurd (e.1 (does.full.1 is))
    by-room false is = by-reply is (refusal_of s pass c) refl

-- it logs nothing
refused-logs : (s : State) (j : JournalView) (pass : ℕ) (c : TransactionCall) (r : Reply) → refusal_of s pass c ≡ Some r → logged_by s (cells_of j) pass c ≡ None
refused-logs s j pass c r is = ap (λ (o : Option Reply). option_map_or (λ reply. None) o (option_map_or (λ t. record_in s (cells_of j) pass t c) (transaction_of s pass) (Some (logs.Begin pass)))) is

-- the note of a call that was answered
abbrev pub note_of : ℕ → JournalView → JournalView → ℕ → TransactionCall → Reply → Note
note_of slots old new pass c r = record { entry = Call pass c r; logged = logged_by (end_of old.history).state (cells_of old) pass c; left = left_of slots new.round; act = Other }

-- and what is owed after it
owed-after : (slots : ℕ) (old new : JournalView) (pass : ℕ) (c : TransactionCall) (r : Reply) → DoesCall slots old new pass c r → IsEntered r → bytes_owed (end_of new.history) ≡ bytes_owed (next (end_of old.history) (Call pass c r))
owed-after slots old new pass c r does e = ap (λ h. bytes_owed (end_of h)) (does.entry e) ∙ ap bytes_owed (end_of-with_entry old.history (Call pass c r))

-- a call leaves the number of slots
pub called-slots : (slots : ℕ) (old new : JournalView) (pass : ℕ) (c : TransactionCall) (r : Reply) → DoesCall slots old new pass c r → new.history.slots ≡ old.history.slots
called-slots slots old new pass c r does = by (answers r)
  where
    by : Answers r → new.history.slots ≡ old.history.slots
    by (memory e) = ap (λ (j : JournalView). j.history.slots) (does.memory e)
    by (full e) = ap (λ (j : JournalView). j.history.slots) (does.marked e)
    by (entered e) = ap (λ h. h.slots) (does.entry e)

-- a refused call leaves what is owed
refused-owed : (slots : ℕ) (old new : JournalView) (pass : ℕ) (c : TransactionCall) (r : Reply) → (IsGranted old pass c → ⊥) → DoesCall slots old new pass c r → bytes_owed (end_of new.history) ≡ bytes_owed (end_of old.history)
refused-owed slots old new pass c r refused does = by (answers r)
  where
    by : Answers r → bytes_owed (end_of new.history) ≡ bytes_owed (end_of old.history)
    by (memory e) = ap (λ (j : JournalView). bytes_owed (end_of j.history)) (does.memory e)
    by (full e) = ap (λ (j : JournalView). bytes_owed (end_of j.history)) (does.marked e)
    by (entered e) = owed-after slots old new pass c r does e ∙ refused-owes (end_of old.history) pass c r (refused-so slots old new pass c r refused does e)

module _ {D : Type 0} (may_leave : D → Area → List ℕ → Type 0) where
  -- other marks of the journal, and more room in the log and in the history
  pub kept-room : (v : LoggedView D) (marks : Marks) (reserved : Bool) (room : ℕ) → IsKept may_leave v → v.log.room ≤ room
      → IsKept may_leave (record v { journal = record v.journal { marks = marks; reserved = reserved }; log = record v.log { room = room } })
  kept-room v marks reserved room kept more =
      record {
        standing = λ running.
            let s = kept.standing running in
            record {
              stage = s.stage;
              batches = s.batches;
              on = on-same may_leave v.log (record v.log { room = room }) v.disk v.disk s.batches refl refl refl s.on;
              pages = s.pages;
              ids = s.ids;
              records = s.records;
              long = s.long;
              room = let enough = s.room in omega (arith, enough, more);
              bounded = s.bounded;
              peak = s.peak;
            };
        inside = kept.inside;
        many = kept.many;
        lasting = let d = kept.lasting in record { rest = d.rest; split = d.split; core = d.core; safe = d.safe; unpromised = d.unpromised };
        images = λ image may. left image (kept.images image may);
        granted = granted-rested (failed_commit v) v.journal (record v.journal { marks = marks; reserved = reserved }) refl kept.granted;
        typed = kept.typed;
        full = kept.full;
      }
    where
      has : (notes : List Note) (image : Bytes) → HasRecords v.journal notes image → HasRecords (record v.journal { marks = marks; reserved = reserved }) notes image
      has notes image is = record { batches = is.batches; log = is.log; hold = is.hold }

      left : (image : Bytes) → MayBeLeft v image → MayBeLeft (record v { journal = record v.journal { marks = marks; reserved = reserved }; log = record v.log { room = room } }) image
      left image (durable is) = durable (has _ image is)
      left image (failed f told is) = failed f told (has _ image is)

  pub kept-marks : (v : LoggedView D) (marks : Marks) (room : ℕ) → IsKept may_leave v → v.log.room ≤ room → IsKept may_leave (record v { journal = record v.journal { marks = marks }; log = record v.log { room = room } })
  kept-marks v marks room kept more = kept-room v marks v.journal.reserved room kept more

  -- room was asked for, and taken or not
  pub kept-reserved : (v : LoggedView D) (log : LogState) (taken : Bool) (room : ℕ) → log ≡ record v.log { room = if taken then max v.log.room room else v.log.room } → IsKept may_leave v → IsKept may_leave (record v { log = log })
  kept-reserved v log taken room is kept = subst (λ (l : LogState). IsKept may_leave (record v { log = l })) (sym is) (kept-marks v v.journal.marks _ kept (grows taken))
    where
      grows : (taken : Bool) → v.log.room ≤ (if taken then max v.log.room room else v.log.room)
      grows true = omega (arith)
      grows false = omega (arith)

  -- a call was answered that the log is full, which it nearly was
  pub kept-log_full : (v : LoggedView D) (needed : ℕ) → IsKept may_leave v → v.failed ≡ None → needed ≤ image_need v.journal.history.slots → IsPast v needed → IsKept may_leave (record v { log_full = true })
  kept-log_full v needed kept running few past =
      record {
        standing = λ running.
            let s = kept.standing running in
            record { stage = s.stage; batches = s.batches; on = s.on; pages = s.pages; ids = s.ids; records = s.records; long = s.long; room = s.room; bounded = s.bounded; peak = s.peak };
        inside = kept.inside;
        many = kept.many;
        lasting = kept.lasting;
        images = λ image may. left image (kept.images image may);
        granted = kept.granted;
        typed = kept.typed;
        full = λ is. let peak = (kept.standing running).peak in omega (arith, few, past, peak);
      }
    where
      left : (image : Bytes) → MayBeLeft v image → MayBeLeft (record v { log_full = true }) image
      left image (durable is) = durable is
      left image (failed f told is) = failed f told is

  -- a refused call
  pub kept-refused : (slots : ℕ) (v : LoggedView D) (new : JournalView) (pass : ℕ) (c : TransactionCall) (r : Reply) → IsKept may_leave v → v.failed ≡ None → (IsGranted v.journal pass c → ⊥) → DoesCall slots v.journal new pass c r
      → IsKept may_leave (record v { journal = new })
  kept-refused slots v new pass c r kept running refused does = by (answers r)
    where
      by : Answers r → IsKept may_leave (record v { journal = new })
      by (memory e) = subst (λ (j : JournalView). IsKept may_leave (record v { journal = j })) (sym (does.memory e)) kept
      by (full e) = subst (λ (j : JournalView). IsKept may_leave (record v { journal = j })) (sym (does.marked e)) (kept-marks v _ v.log.room kept (omega (arith)))
      by (entered e) =
          let stands = kept.standing running in
          let is = refused-so slots v.journal new pass c r refused does e in
          let owed = refused-owed slots v.journal new pass c r refused does in
          let enough = stands.room in
          let bounded = stands.bounded in
          let peak = stands.peak in
          let logged = refused-logs (end_of v.journal.history).state v.journal pass c r is in
          kept-event may_leave v (record v { journal = new }) (note_of slots v.journal new pass c r) kept
          (record {
            note = record { entry = does.entry e; noted = does.noted e; opening = does.opening.0 };
            limits = does.opening.1;
            area = refl;
            stage = refl;
            offset = refl;
            tail = sym (ap (λ (o : Option CellRecord). v.log.tail ++ option_map_or cell_record_bytes o []) logged ∙ append-nil v.log.tail);
            disk = refl;
            durable = refl;
            marked = subst (λ (o : Option CellRecord). AreMarkedAfter v.journal.history.slots o v.marks v.marks) (sym logged) refl;
            running = (running, running);
            log_full = refl;
            unpromised = undone-unpromised pass c r (λ f done.
                commit-refused (end_of v.journal.history).state pass (transaction_of (end_of v.journal.history).state pass) refl
                (subst (λ (c : TransactionCall). refusal_of (end_of v.journal.history).state pass c ≡ Some reply.Done) f (is ∙ ap (λ (q : Reply). Some q) done)));
            typed = subst (λ (o : Option CellRecord). IfSome o IsTypedCellRecord) (sym logged) tt;
            room = omega (arith, owed, enough);
            bounded = omega (arith, owed, bounded);
            peak = omega (arith, owed, peak);
            higher = omega (arith);
          })

  pub goes-on-refused : (slots : ℕ) (v : LoggedView D) (new : JournalView) (pass : ℕ) (c : TransactionCall) (r : Reply) → IsKept may_leave v → v.failed ≡ None → (IsGranted v.journal pass c → ⊥) → DoesCall slots v.journal new pass c r
      → GoesOn v (record v { journal = new })
  goes-on-refused slots v new pass c r kept running refused does =
      let peak = (kept.standing running).peak in
      let owed = refused-owed slots v.journal new pass c r refused does in
      record { running = running; log_full = refl; peak = omega (arith, owed, peak); opened = refl; marks = by (answers r); log = on (answers r) }
    where
      by : Answers r → GoWithNotes v (record v { journal = new })
      by (memory e) = stayed (ap (λ (j : JournalView). j.notes) (does.memory e)) refl
      by (full e) = stayed (ap (λ (j : JournalView). j.notes) (does.marked e)) refl
      by (entered e) =
          let logged = refused-logs (end_of v.journal.history).state v.journal pass c r (refused-so slots v.journal new pass c r refused does e) in
          joined (note_of slots v.journal new pass c r) (does.noted e) (subst (λ (o : Option CellRecord). AreMarkedAfter v.journal.history.slots o v.marks v.marks) (sym logged) refl)

      on : Answers r → LogGoesOn v (record v { journal = new })
      on (memory e) = appends-none v (record v { journal = new }) (ap (λ (j : JournalView). j.notes) (does.memory e)) (record { disk = refl; durable = refl }) refl
      on (full e) = appends-none v (record v { journal = new }) (ap (λ (j : JournalView). j.notes) (does.marked e)) (record { disk = refl; durable = refl }) refl
      on (entered e) =
          appends-silent v (record v { journal = new }) (note_of slots v.journal new pass c r) (refused-logs (end_of v.journal.history).state v.journal pass c r (refused-so slots v.journal new pass c r refused does e)) (does.noted e)
          (record { disk = refl; durable = refl }) refl

-- ---- granted calls

-- nobody without a transaction is granted an abort
granted-other : (s : State) (pass : ℕ) (c : TransactionCall) → refusal_of s pass c ≡ None → (c ≡ call.Abort → transaction_of s pass ≡ None) → c ≢ call.Abort
granted-other s pass c granted none is =
    let e : Some reply.NoTxn ≡ None = sym (refusal-out s pass call.Abort (none is)) ∙ subst (λ (c : TransactionCall). refusal_of s pass c ≡ None) is granted in
    absurd (cc (e))

note-length : (n : Note) → length (note_bytes n) ≡ logged_length n.logged
note-length n = by n.logged
  where
    by : (o : Option CellRecord) → length (option_map_or cell_record_bytes o []) ≡ logged_length o
    by None = refl
    by (Some r) = refl

-- a call that was answered, that there is room for, and its journal after it
pub record IsCalled {D : Type 0} (slots : ℕ) (v : LoggedView D) (new : JournalView) (pass : ℕ) (c : TransactionCall) (r : Reply) : Type 0 where
  pub running : v.failed ≡ None
  pub other : c ≢ call.Commit
  pub no_abort : c ≡ call.Abort → transaction_of (end_of v.journal.history).state pass ≡ None
  pub ascend : PassesAscend (end_of v.journal.history).state.active
  pub room : IsPast v (bytes_needed c) → ⊥
  pub limits : AreLimits v.journal.limits
  pub does : DoesCall slots v.journal new pass c r
  pub entered : IsEntered r

-- the bytes of the log that the call asks for
abbrev pub asked : {D : Type 0} → LoggedView D → TransactionCall → ℕ
asked v c = bytes_owed (end_of v.journal.history) + bytes_needed c

-- the journal and its log after it
abbrev pub after_call : {D : Type 0} → LoggedView D → JournalView → List PageMark → TransactionCall → LoggedView D
after_call v new marks c =
    let log : LogState = appended (record v.log { room = max v.log.room (asked v c) }) (last_bytes new.notes) in
    record v { journal = new; log = log; marks = marks; peak = max v.peak (used log + bytes_owed (end_of new.history)) }

-- its record
called-last : {D : Type 0} (slots : ℕ) (v : LoggedView D) (new : JournalView) (pass : ℕ) (c : TransactionCall) (r : Reply) → IsCalled slots v new pass c r → last_bytes new.notes ≡ note_bytes (note_of slots v.journal new pass c r)
called-last slots v new pass c r h = ap last_bytes (h.does.noted h.entered) ∙ last-push v.journal.notes (note_of slots v.journal new pass c r)

-- what it logs and the transactions then owe is at most what it asks for
pub called-owes : {D : Type 0} (slots : ℕ) (v : LoggedView D) (new : JournalView) (pass : ℕ) (c : TransactionCall) (r : Reply) → IsCalled slots v new pass c r → bytes_owed (end_of new.history) + length (last_bytes new.notes) ≤ asked v c
called-owes slots v new pass c r h = by (refusal_of m.state pass c) refl
  where
    m : Moment
    m = end_of v.journal.history

    owed : bytes_owed (end_of new.history) ≡ bytes_owed (next m (Call pass c r))
    owed = owed-after slots v.journal new pass c r h.does h.entered

    len : length (last_bytes new.notes) ≡ logged_length (logged_by m.state (cells_of v.journal) pass c)
    len = ap (λ (l : List ℕ). length l) (called-last slots v new pass c r h) ∙ note-length (note_of slots v.journal new pass c r)

    by : (o : Option Reply) → refusal_of m.state pass c ≡ o → bytes_owed (end_of new.history) + length (last_bytes new.notes) ≤ asked v c
    by None granted =
        let law = call-owes m pass c h.ascend (granted-other m.state pass c granted h.no_abort) granted in
        let after = owed ∙ ap (λ (r : Reply). bytes_owed (next m (Call pass c r))) (h.does.machine h.entered) in
        let most = call-length m.state (cells_of v.journal) pass c granted in
        omega (arith, law, after, len, most)
    by (Some q) refused =
        let same : r ≡ q = h.does.machine h.entered ∙ ap (λ (x : Reply × State). x.0) (call-refused m.state pass c q refused) in
        let is : refusal_of m.state pass c ≡ Some r = refused ∙ ap (λ (q : Reply). Some q) (sym same) in
        let after = owed ∙ refused-owes m pass c r is in
        let none : length (last_bytes new.notes) ≡ 0 = len ∙ ap logged_length (refused-logs m.state v.journal pass c r is) in
        omega (arith, after, none)

-- so the log has room for its record
pub called-room : {D : Type 0} (slots : ℕ) (v : LoggedView D) (new : JournalView) (pass : ℕ) (c : TransactionCall) (r : Reply) → IsCalled slots v new pass c r → length (last_bytes new.notes) ≤ max v.log.room (asked v c)
called-room slots v new pass c r h = let owes = called-owes slots v new pass c r h in omega (arith, owes)

-- and stays within the most bytes
pub called-bounded : {D : Type 0} (slots : ℕ) (v : LoggedView D) (new : JournalView) (marks : List PageMark) (pass : ℕ) (c : TransactionCall) (r : Reply) → IsCalled slots v new pass c r → bytes_counted (after_call v new marks c) ≤ most_bytes
called-bounded slots v new marks pass c r h =
    let owes = called-owes slots v new pass c r h in
    let len = Rattle.std.proofs.lemmas.List.length-append v.log.tail (last_bytes new.notes) in
    let within : bytes_counted v + bytes_needed c ≤ v.journal.limits.log = not-past (bytes_counted v + bytes_needed c) v.journal.limits.log h.room in
    let limit = h.limits.log in
    omega (arith, owes, len, within, limit)
  where
    not-past : (counted limit : ℕ) → (limit < counted → ⊥) → counted ≤ limit
    not-past counted limit none = omega (arith, none)

-- the marks are as its record makes them
called-marked : {D : Type 0} (slots : ℕ) (v : LoggedView D) (new : JournalView) (marks : List PageMark) (pass : ℕ) (c : TransactionCall) (r : Reply) → v.journal.history.slots ≡ slots → AreMarkedAfter slots (last_logged new.notes) v.marks marks
    → IsCalled slots v new pass c r → AreMarkedAfter v.journal.history.slots (logged_by (end_of v.journal.history).state (cells_of v.journal) pass c) v.marks marks
called-marked slots v new marks pass c r own marked h =
    last-marked slots v.journal.history.slots v.journal.notes new.notes (note_of slots v.journal new pass c r) v.marks marks own (h.does.noted h.entered) marked

pub called-goes : {D : Type 0} (slots : ℕ) (v : LoggedView D) (new : JournalView) (marks : List PageMark) (pass : ℕ) (c : TransactionCall) (r : Reply) → v.journal.history.slots ≡ slots → AreMarkedAfter slots (last_logged new.notes) v.marks marks
    → IsCalled slots v new pass c r → GoWithNotes v (after_call v new marks c)
called-goes slots v new marks pass c r own marked h = joined (note_of slots v.journal new pass c r) (h.does.noted h.entered) (called-marked slots v new marks pass c r own marked h)

module _ {D : Type 0} (may_leave : D → Area → List ℕ → Type 0) where
  pub kept-called : (slots : ℕ) (v : LoggedView D) (new : JournalView) (marks : List PageMark) (pass : ℕ) (c : TransactionCall) (r : Reply) → IsKept may_leave v → IsLastTyped new.notes → v.journal.history.slots ≡ slots → AreMarkedAfter slots (last_logged new.notes) v.marks marks
      → IsCalled slots v new pass c r → IsKept may_leave (after_call v new marks c)
  kept-called slots v new marks pass c r kept typed own marked h =
      let e = h.entered in
      let owes = called-owes slots v new pass c r h in
      kept-event may_leave v (after_call v new marks c) (note_of slots v.journal new pass c r) kept
      (record {
        note = record { entry = h.does.entry e; noted = h.does.noted e; opening = h.does.opening.0 };
        limits = h.does.opening.1;
        area = refl;
        stage = refl;
        offset = refl;
        tail = ap (λ (l : List ℕ). v.log.tail ++ l) (called-last slots v new pass c r h);
        disk = refl;
        durable = refl;
        marked = called-marked slots v new marks pass c r own marked h;
        running = (h.running, h.running);
        log_full = refl;
        unpromised = other-unpromised pass c r h.other;
        typed = last-typed v.journal.notes new.notes (note_of slots v.journal new pass c r) (h.does.noted e) typed;
        room = omega (arith, owes);
        bounded = called-bounded slots v new marks pass c r h;
        peak = omega (arith);
        higher = omega (arith);
      })
