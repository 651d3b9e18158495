use Rattle.std.proofs.Common.{◌≡◌, ◌≢◌, ◌≤◌, ◌<◌, ◌+◌, ⊎_elim, ℕ, max, Bool, false, length, None, refl, sym, ap, ◌∙◌, subst, arith, rules}
use Rattle.std.specs.Prelude.{◌↔◌, true, if◌then◌else◌, not}
use Rattle.plain_model.specs.declared.calls.Call.{Call as TransactionCall}
use Rattle.plain_model.specs.declared.calls.Call.TheVariants as call
use Rattle.plain_model.specs.declared.calls.Reply.{Reply}
use Rattle.plain_model.specs.declared.calls.Reply.TheVariants as reply
use Rattle.plain_model.specs.Machine.{transaction_of}
use Rattle.plain_model.specs.History.{end_of}
use Rattle.plain_laws.specs.Sound.{PassesAscend}
use Rattle.gate_log.specs.State.{LogState, used, appended}
use Rattle.core_store.specs.Frames.{Agree, HasPages}
use Rattle.core_store.specs.JournalView.{JournalView, cells_of}
use Rattle.core_store.specs.Limited.{AreLimits, is_past_limit, pages_for_call}
use Rattle.core_store.specs.Owed.{bytes_owed, bytes_needed, entries_needed}
use Rattle.core_store.specs.Steppings.{IsEntered}
use Rattle.logged_journal.specs.Inside.{view_of}
use Rattle.logged_journal.specs.declared.logged.LoggedJournal.TheInside.{Inside}
use Rattle.logged_journal.specs.View.{LoggedView, IsPast}
use Rattle.logged_journal.specs.Records.{last_bytes}
use Rattle.logged_journal.specs.Kept.{IsKept}
use Rattle.logged_journal.specs.Calls.{DoesCall, KeepsFrames, GoesOn, GoWithNotes, stayed, joined}
use Rattle.logged_journal.proofs.NoteBytes.{appends-last}
use Rattle.logged_journal.proofs.Resting.{goes-on-same}
use Rattle.logged_journal.proofs.CalledJournals.{note_of, of-journal, called-slots, called-goes, kept-reserved, IsCalled, asked, after_call, called-room, called-bounded, kept-called}
use Rattle.logged_journal.proofs.logged.LoggedJournal.log_call.Given.{Over}
use Rattle.logged_journal.proofs.logged.LoggedJournal.log_call.Goals as goal

running : {slots : ℕ} {D : Type 0} (a : Inside slots D) (now : LoggedView D) → view_of a ≡ now → now.failed ≡ None → a.failed ≡ None
running a now is runs = subst (λ v. v.failed ≡ None) (sym is) runs

-- the room was taken
taken : {slots : ℕ} {D : Type 0} (a : Inside slots D) (c : TransactionCall) (log : LogState) (ok err : Bool) (owed needed : ℕ) → log ≡ record a.log { room = if ok then max a.log.room (owed + needed) else a.log.room }
    → ok ≡ not err → err ≡ false → owed ≡ bytes_owed (end_of a.journal.history) → needed ≡ bytes_needed c → log ≡ record a.log { room = max a.log.room (asked (view_of a) c) }
taken a c log ok err owed needed is negation none value need =
    is
    ∙ ap (λ (b : Bool). record a.log { room = if b then max a.log.room (owed + needed) else a.log.room }) (negation ∙ ap not none)
    ∙ ap (λ (n : ℕ). record a.log { room = max a.log.room (n + needed) }) value
    ∙ ap (λ (n : ℕ). record a.log { room = max a.log.room (bytes_owed (end_of a.journal.history) + n) }) need

called : {slots : ℕ} {D : Type 0} (a : Inside slots D) (now : LoggedView D) (new : JournalView) (pass : ℕ) (c : TransactionCall) (r : Reply) → view_of a ≡ now → now.failed ≡ None → c ≢ call.Commit
    → (c ≡ call.Abort → transaction_of (end_of now.journal.history).state pass ≡ None) → PassesAscend (end_of a.journal.history).state.active → (IsPast now (bytes_needed c) → ⊥) → AreLimits now.journal.limits
    → DoesCall slots a.journal new pass c r → IsEntered r → IsCalled slots (view_of a) new pass c r
called a now new pass c r is runs other no_abort ascend room limits does entered =
    record {
      running = running a now is runs;
      other = other;
      no_abort = subst (λ v. c ≡ call.Abort → transaction_of (end_of v.journal.history).state pass ≡ None) (sym is) no_abort;
      ascend = ascend;
      room = subst (λ v. IsPast v (bytes_needed c) → ⊥) (sym is) room;
      limits = subst (λ v. AreLimits v.journal.limits) (sym is) limits;
      does = does;
      entered = entered;
    }

-- the history had room for it
answered : {slots : ℕ} {D : Type 0} (a : Inside slots D) (now : LoggedView D) (c : TransactionCall) (r : Reply) → view_of a ≡ now → r ≢ reply.Memory → (r ≡ reply.TraceFull) ↔ (is_past_limit a.journal (entries_needed c) ≡ true)
    → is_past_limit now.journal (entries_needed c) ≡ false → IsEntered r
answered {D} a now c r is some full room = (
  some,
  λ e. absurd (let x : true ≡ false = sym (full.0 e) ∙ (ap (λ (v : LoggedView D). is_past_limit v.journal (entries_needed c)) is ∙ room) in cc (x)),
)

pub invariant_of-self : goal.invariant_of-self
invariant_of-self g c =
    record {
      size = c.self.invariant.size;
      own = c.self.invariant.own;
      spelling = c.self.invariant.spelling;
      counted = c.self.invariant.counted;
      kept = kept-reserved g.D.Disk.may_leave (view_of c.self.inside) c.reserve.new.self _ _ c.reserve.ensures.log c.self.invariant.kept;
    }

pub returns-then-is_err-clause-frames : goal.returns-then-is_err-clause-frames
returns-then-is_err-clause-frames g c =
    subst (λ (v : LoggedView g.row.D.Denot). KeepsFrames v.journal c.self.inside.journal c.args.held.now c.args.held.now) c.self.view_is
    (record {
      pages = refl;
      agree = subst (λ (v : LoggedView g.row.D.Denot). Agree (cells_of v.journal) c.args.held.now) (sym c.self.view_is) c.requires.agree;
      elsewhere = λ page apart. refl;
    })

pub returns-then-is_err-clause-goes_on : goal.returns-then-is_err-clause-goes_on
returns-then-is_err-clause-goes_on g c =
    let v : LoggedView g.row.D.Denot = view_of c.self.inside in
    subst (λ (w : LoggedView g.row.D.Denot). GoesOn w (record v { log = c.reserve.new.self })) c.self.view_is
    (subst (λ (l : LogState). GoesOn v (record v { log = l })) (sym c.reserve.ensures.log)
    (goes-on-same g.D.Disk.may_leave v v.journal v.journal.round v.journal.marks _ refl (running c.self.inside c.args.self.now c.self.view_is c.requires.running) c.self.invariant.kept))

pub apply-requires : goal.apply-requires
apply-requires g c =
    let small : g.row.SLOTS ≤ 14 = ⊎_elim (λ six. omega arith) (λ fourteen. omega arith) c.self.invariant.size in (
      search rules,
      (
        search rules,
        (
          c.requires.client,
          (
            c.requires.in_range,
            (
              subst (λ (v : LoggedView g.row.D.Denot). c.args.call.now ≡ call.Abort → transaction_of (end_of v.journal.history).state c.args.pass ≡ None) (sym c.self.view_is) c.requires.no_abort,
              (
                subst (λ (v : LoggedView g.row.D.Denot). Agree (cells_of v.journal) c.args.held.now) (sym c.self.view_is) c.requires.agree,
                subst (λ (v : LoggedView g.row.D.Denot). HasPages v.journal.history.ids (pages_for_call v.journal c.args.pass c.args.call.now) c.args.held.now) (sym c.self.view_is) c.requires.ready,
              ),
            ),
          ),
        ),
      ),
    )

pub invariant_of-self-in-Memory : goal.invariant_of-self-in-Memory
invariant_of-self-in-Memory g c =
    let v : LoggedView g.row.D.Denot = view_of c.self.inside in
    record {
      size = c.self.invariant.size;
      own = ap (λ (j : JournalView). j.history.slots) (c.apply.ensures.memory c.in-Memory.is).0 ∙ c.self.invariant.own;
      spelling = c.self.invariant.spelling;
      counted = c.self.invariant.counted;
      kept = subst (λ (j : JournalView). IsKept g.D.Disk.may_leave (record v { journal = j; log = c.reserve.new.self })) (sym (c.apply.ensures.memory c.in-Memory.is).0)
          (kept-reserved g.D.Disk.may_leave v c.reserve.new.self _ _ c.reserve.ensures.log c.self.invariant.kept);
    }

pub returns-in-Memory-clause-frames : goal.returns-in-Memory-clause-frames
returns-in-Memory-clause-frames g c =
    let e = c.apply.ensures in
    subst (λ (v : LoggedView g.row.D.Denot). KeepsFrames v.journal c.apply.new.self c.args.held.now c.apply.new.held) c.self.view_is
    (record { pages = e.pages; agree = e.agree; elsewhere = e.elsewhere })

pub returns-in-Memory-clause-goes_on : goal.returns-in-Memory-clause-goes_on
returns-in-Memory-clause-goes_on g c =
    let v : LoggedView g.row.D.Denot = view_of c.self.inside in
    subst (λ (w : LoggedView g.row.D.Denot). GoesOn w (record v { journal = c.apply.new.self; log = c.reserve.new.self })) c.self.view_is
    (subst (λ (l : LogState). GoesOn v (record v { journal = c.apply.new.self; log = l })) (sym c.reserve.ensures.log)
    (goes-on-same g.D.Disk.may_leave v c.apply.new.self v.journal.round v.journal.marks _ (c.apply.ensures.memory c.in-Memory.is).0 (running c.self.inside c.args.self.now c.self.view_is c.requires.running) c.self.invariant.kept))

-- ---- where it was answered

pub append_last-requires : goal.append_last-requires
append_last-requires g c =
    let e = c.apply.ensures in
    let does : DoesCall g.row.SLOTS c.self.inside.journal c.apply.new.self c.args.pass c.args.call.now c.apply.result = record {
      full = e.full;
      marked = λ is. (e.marked is).0;
      memory = λ is. (e.memory is).0;
      entry = e.entry;
      machine = e.machine;
      noted = e.noted;
      collector = e.collector;
      cursor = e.cursor;
      opening = e.opening;
      unmarked = e.unmarked;
    } in
    let r = c.requires in
    let is = called c.self.inside c.args.self.now c.apply.new.self c.args.pass c.args.call.now c.apply.result c.self.view_is r.running r.other r.no_abort c.bytes_owed.ensures.ascend r.room r.limits does (answered c.self.inside c.args.self.now c.args.call.now c.apply.result c.self.view_is c.in_default.not-Memory c.apply.ensures.full r.history) in
    let log = taken c.self.inside c.args.call.now c.reserve.new.self _ _ _ _ c.reserve.ensures.log c.is_err.ensures.negation c.if-is_err.false c.bytes_owed.ensures.value c.bytes_needed.ensures.value in
    let stands = c.self.invariant.kept.standing is.running in
    let bounded = stands.bounded in
    let few : used c.self.inside.log + 25 < 4294967296 = omega (arith, bounded) in
    let ids = ap (λ h. h.ids) (does.entry is.entered) ∙ c.self.invariant.kept.many in (
      search rules,
      (
        c.self.invariant.size,
        (
          ids,
          (
            ap (λ (l : LogState). l.stage) log ∙ stands.stage,
            (
              subst (λ (l : LogState). length (last_bytes c.apply.new.self.notes) ≤ l.room) (sym log) (called-room g.row.SLOTS (view_of c.self.inside) c.apply.new.self c.args.pass c.args.call.now c.apply.result is),
              subst (λ (l : LogState). used l + 25 < 4294967296) (sym log) few,
            ),
          ),
        ),
      ),
    )

pub overflow_add-used : goal.overflow_add-used
overflow_add-used g c =
    let e = c.apply.ensures in
    let does : DoesCall g.row.SLOTS c.self.inside.journal c.apply.new.self c.args.pass c.args.call.now c.apply.result = record {
      full = e.full;
      marked = λ is. (e.marked is).0;
      memory = λ is. (e.memory is).0;
      entry = e.entry;
      machine = e.machine;
      noted = e.noted;
      collector = e.collector;
      cursor = e.cursor;
      opening = e.opening;
      unmarked = e.unmarked;
    } in
    let r = c.requires in
    let is = called c.self.inside c.args.self.now c.apply.new.self c.args.pass c.args.call.now c.apply.result c.self.view_is r.running r.other r.no_abort c.bytes_owed.ensures.ascend r.room r.limits does (answered c.self.inside c.args.self.now c.args.call.now c.apply.result c.self.view_is c.in_default.not-Memory c.apply.ensures.full r.history) in
    let log = taken c.self.inside c.args.call.now c.reserve.new.self _ _ _ _ c.reserve.ensures.log c.is_err.ensures.negation c.if-is_err.false c.bytes_owed.ensures.value c.bytes_needed.ensures.value in
    let in-use = c.used.ensures ∙ ap used (c.append_last.ensures.log ∙ ap (λ (l : LogState). appended l (last_bytes c.apply.new.self.notes)) log) in
    let owed = c.bytes_owed-in_default.ensures.value in
    let bounded = called-bounded g.row.SLOTS (view_of c.self.inside) c.apply.new.self c.append_last.new.marks c.args.pass c.args.call.now c.apply.result is in
    omega (arith, in-use, owed, bounded)

-- what it was called with, and its log and its peak after it
abbrev does : (g : Over) (c : goal.After-self-1 g) → DoesCall g.row.SLOTS c.self.inside.journal c.apply.new.self c.args.pass c.args.call.now c.apply.result
does g c =
    let e = c.apply.ensures in
    record {
      full = e.full;
      marked = λ is. (e.marked is).0;
      memory = λ is. (e.memory is).0;
      entry = e.entry;
      machine = e.machine;
      noted = e.noted;
      collector = e.collector;
      cursor = e.cursor;
      opening = e.opening;
      unmarked = e.unmarked;
    }

log-is : (g : Over) (c : goal.After-self-1 g) → c.append_last.new.log ≡ (after_call (view_of c.self.inside) c.apply.new.self c.append_last.new.marks c.args.call.now).log
log-is g c =
    c.append_last.ensures.log
    ∙ ap (λ (l : LogState). appended l (last_bytes c.apply.new.self.notes))
    (taken c.self.inside c.args.call.now c.reserve.new.self _ _ _ _ c.reserve.ensures.log c.is_err.ensures.negation c.if-is_err.false c.bytes_owed.ensures.value c.bytes_needed.ensures.value)

peak-is : (g : Over) (c : goal.After-self-1 g) → c.max-self-inside.result ≡ max c.self.inside.peak (used c.append_last.new.log + bytes_owed (end_of c.apply.new.self.history))
peak-is g c =
    c.max-self-inside.ensures
    ∙ ap (λ (n : ℕ). max c.self.inside.peak (n + c.bytes_owed-in_default.result)) c.used.ensures
    ∙ ap (λ (n : ℕ). max c.self.inside.peak (used c.append_last.new.log + n)) c.bytes_owed-in_default.ensures.value

pub invariant_of-self-in_default : goal.invariant_of-self-in_default
invariant_of-self-in_default g c =
    let v : LoggedView g.row.D.Denot = view_of c.self.inside in
    let r = c.requires in
    let is = called c.self.inside c.args.self.now c.apply.new.self c.args.pass c.args.call.now c.apply.result c.self.view_is r.running r.other r.no_abort c.bytes_owed.ensures.ascend r.room r.limits (does g c) (answered c.self.inside c.args.self.now c.args.call.now c.apply.result c.self.view_is c.in_default.not-Memory c.apply.ensures.full r.history) in
    let P : LogState → ℕ → Type 0 = λ log peak. IsKept g.D.Disk.may_leave (record v { journal = c.apply.new.self; log = log; marks = c.append_last.new.marks; peak = peak }) in
    record {
      size = c.self.invariant.size;
      own = called-slots g.row.SLOTS c.self.inside.journal c.apply.new.self c.args.pass c.args.call.now c.apply.result (does g c) ∙ c.self.invariant.own;
      spelling = c.self.invariant.spelling;
      counted = c.self.invariant.counted;
      kept = subst (P c.append_last.new.log) (sym (peak-is g c))
          (subst (λ (l : LogState). P l (max c.self.inside.peak (used l + bytes_owed (end_of c.apply.new.self.history)))) (sym (log-is g c))
          (kept-called g.D.Disk.may_leave g.row.SLOTS v c.apply.new.self c.append_last.new.marks c.args.pass c.args.call.now c.apply.result c.self.invariant.kept c.append_last.ensures.typed c.self.invariant.own c.append_last.ensures.marks is));
    }

-- the marks of pages look at the notes and the marks alone
goes-with : (g : Over) (c : goal.After-self-1 g) → GoWithNotes (view_of c.self.inside) (after_call (view_of c.self.inside) c.apply.new.self c.append_last.new.marks c.args.call.now)
    → GoWithNotes (view_of c.self.inside) (record (view_of c.self.inside) { journal = c.apply.new.self; log = c.append_last.new.log; marks = c.append_last.new.marks; peak = c.max-self-inside.result })
goes-with g c (stayed notes marks) = stayed notes marks
goes-with g c (joined n notes marks) = joined n notes marks

-- the log but for its room
log-joined : (g : Over) (c : goal.After-self-1 g) → c.append_last.new.log ≡ record (appended (view_of c.self.inside).log (last_bytes c.apply.new.self.notes)) { room = c.append_last.new.log.room }
log-joined g c =
    let is = log-is g c in
    is ∙ ap (λ (n : ℕ). record (appended (view_of c.self.inside).log (last_bytes c.apply.new.self.notes)) { room = n }) (sym (ap (λ (l : LogState). l.room) is))

pub returns-in_default : goal.returns-in_default
returns-in_default g c =
    let e = c.apply.ensures in
    let v : LoggedView g.row.D.Denot = view_of c.self.inside in
    let w : LoggedView g.row.D.Denot = record v { journal = c.apply.new.self; log = c.append_last.new.log; marks = c.append_last.new.marks; peak = c.max-self-inside.result } in
    let r = c.requires in
    let is = called c.self.inside c.args.self.now c.apply.new.self c.args.pass c.args.call.now c.apply.result c.self.view_is r.running r.other r.no_abort c.bytes_owed.ensures.ascend r.room r.limits (does g c) (answered c.self.inside c.args.self.now c.args.call.now c.apply.result c.self.view_is c.in_default.not-Memory c.apply.ensures.full r.history) in
    record {
      journal = of-journal g.row.SLOTS c.self.inside.journal c.apply.new.self c.args.pass c.args.call.now c.apply.result (does g c);
      does = subst (λ (v : LoggedView g.row.D.Denot). DoesCall g.row.SLOTS v.journal c.apply.new.self c.args.pass c.args.call.now c.apply.result) c.self.view_is (does g c);
      frames = subst (λ (v : LoggedView g.row.D.Denot). KeepsFrames v.journal c.apply.new.self c.args.held.now c.apply.new.held) c.self.view_is
          (record { pages = e.pages; agree = e.agree; elsewhere = e.elsewhere });
      same = λ is. ⊎_elim (λ full. (e.marked full).1) (λ memory. (e.memory memory).1) is;
      kept = λ either. absurd (⊎_elim (λ full. is.entered.1 full) (λ memory. is.entered.0 memory) either);
      disk = record { disk = ap (λ (w : LoggedView g.row.D.Denot). w.disk) c.self.view_is; durable = ap (λ (w : LoggedView g.row.D.Denot). w.durable) c.self.view_is };
      goes_on = subst (λ (old : LoggedView g.row.D.Denot). GoesOn old w) c.self.view_is
          (record { running = running c.self.inside c.args.self.now c.self.view_is c.requires.running; log_full = refl; peak = peak-is g c; opened = refl; marks = goes-with g c (called-goes g.row.SLOTS v c.apply.new.self c.append_last.new.marks c.args.pass c.args.call.now c.apply.result c.self.invariant.own c.append_last.ensures.marks is); log = appends-last v w (note_of g.row.SLOTS v.journal c.apply.new.self c.args.pass c.args.call.now c.apply.result) (is.does.noted is.entered) (record { disk = refl; durable = refl }) (log-joined g c) });
    }
