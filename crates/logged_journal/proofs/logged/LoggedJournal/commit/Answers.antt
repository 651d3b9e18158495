use Rattle.std.proofs.Common.{◌≡◌, ◌∙◌, ℕ, ◌+◌, ◌≤◌, false, List, [], length, option_map, Option, None, ⊎_elim, refl, sym, map, ap, subst, arith, rules}
use Rattle.std.specs.Prelude.{⊤, is_err, IfSome}
use Rattle.std.specs.Option.{option_map_or}
use Rattle.plain_model.specs.declared.calls.Call.TheVariants as call
use Rattle.plain_model.specs.declared.calls.Reply.TheVariants as reply
use Rattle.plain_model.specs.declared.calls.Entry.TheVariants.{Call}
use Rattle.plain_model.specs.History.{end_of}
use Rattle.disk_model.specs.declared.area.Area.{Area}
use Rattle.disk_model.specs.declared.area.Area.TheVariants.{Pages}
use Rattle.disk_model.specs.Areas.{Bytes}
use Rattle.disk_model.specs.Causes.{Rose}
use Rattle.disk_model.specs.Told.{KeepsOthers, IsImageBut}
use Rattle.disk_model.specs.Time.{LeavesOnlyImages}
use Rattle.disk_model.proofs.Moments.{at_exit}
use Rattle.log_record.specs.declared.cell_record.CellRecord.{CellRecord}
use Rattle.log_record.specs.declared.cell_record.CellRecord.TheVariants as logs
use Rattle.log_record.specs.Spelling.{cell_record_bytes}
use Rattle.gate_log.specs.Batches.{most_bytes}
use Rattle.gate_log.specs.State.{LogState, forced, failed, used, forced_area}
use Rattle.gate_log.specs.OnDisk.{with_batch, IsOn, HasEither}
use Rattle.core_store.specs.declared.act.Act.TheVariants.{Other}
use Rattle.core_store.specs.declared.note.Note.{Note}
use Rattle.core_store.specs.Frames.{Agree, HasPages}
use Rattle.core_store.specs.Limited.{pages_for_call}
use Rattle.core_store.specs.JournalView.{cells_of}
use Rattle.core_store.specs.Logged.{logged_by}
use Rattle.core_store.specs.Owed.{bytes_owed}
use Rattle.core_store.specs.RoundView.{left_of}
use Rattle.core_store.specs.Steppings.{IsEntered}
use Rattle.core_store.proofs.SafeLaws.{durable-all}
use Rattle.logged_journal.specs.Inside.{view_of}
use Rattle.logged_journal.specs.declared.logged.LoggedJournal.TheInside.{Inside}
use Rattle.logged_journal.specs.declared.failed.FailedCall.{FailedCall}
use Rattle.logged_journal.specs.View.{LoggedView}
use Rattle.logged_journal.specs.Records.{MayHave, AreMarkedAfter, bytes_joined}
use Rattle.logged_journal.proofs.NoteBytes.{joined-one, forces-these}
use Rattle.logged_journal.proofs.Areas.{others-forced, batch-forced}
use Rattle.logged_journal.specs.Calls.{IsOfJournal, IsGranted, DoesCall, KeepsFrames, GoesOn, OnlyForces, joined}
use Rattle.logged_journal.specs.Kept.{IsStanding}
use Rattle.logged_journal.proofs.Commits.{pages-apart}
use Rattle.logged_journal.proofs.CommitDone.{commit-done, commit-marked, commit-logged, commit-falls, commit-owed, was-ok, on-ok, on-err, with_record, record-on, note-holds, record-bounded, record-moments, kept-failed, HasCommitted, counted-falls, kept-done}
use Rattle.logged_journal.proofs.logged.LoggedJournal.commit.Given.{Over}
use Rattle.logged_journal.proofs.logged.LoggedJournal.commit.Goals as goal

-- ---- what the force leaves, from the disk that stood in the box

abbrev Runs : {D : Type 0} → (D → Area → List ℕ → Type 0) → (D → ℕ) → (D → ℕ → Bytes → Type 0) → LogState → D → D → Type 0
Runs may_leave moment left_since log now before =
    (batches : List (List ℕ)) → IsOn may_leave log before batches → used log ≤ most_bytes → LeavesOnlyImages moment left_since before now (HasEither batches (with_batch batches log.tail))

-- and in the areas but the log's
abbrev Others : {D : Type 0} → (D → Area → List ℕ → Type 0) → (D → ℕ) → (D → ℕ → Bytes → Type 0) → LogState → D → D → Type 0
Others may_leave moment left_since log now before = LeavesOnlyImages moment left_since before now (IsImageBut may_leave before log.area (λ _. ⊤))

-- ---- before the force

-- it runs, and grants the commit
running : {slots : ℕ} {D : Type 0} (a : Inside slots D) (now : LoggedView D) → view_of a ≡ now → now.failed ≡ None → a.failed ≡ None
running a now is runs = subst (λ v. v.failed ≡ None) (sym is) runs

granted : {slots : ℕ} {D : Type 0} (a : Inside slots D) (now : LoggedView D) (pass : ℕ) → view_of a ≡ now → IsGranted now.journal pass call.Commit → IsGranted a.journal pass call.Commit
granted a now pass is grants = subst (λ v. IsGranted v.journal pass call.Commit) (sym is) grants

owed : {slots : ℕ} {D : Type 0} (a : Inside slots D) (now : LoggedView D) (pass : ℕ) → view_of a ≡ now → IsGranted now.journal pass call.Commit → 7 ≤ bytes_owed (end_of a.journal.history)
owed a now pass is grants = commit-owed a.journal.history pass (granted a now pass is grants).granted

pub append_record-requires-clause-room : goal.append_record-requires-clause-room
unfolding cell_record_bytes
append_record-requires-clause-room g c =
    let room = (c.self.invariant.kept.standing (running c.self.inside c.args.self.now c.self.view_is c.requires.running)).room in
    let owes = owed c.self.inside c.args.self.now c.args.pass c.self.view_is c.requires.granted in
    omega (arith, room, owes)

pub force-requires-clause-on : goal.force-requires-clause-on
force-requires-clause-on g c κs within =
    let stands = c.self.invariant.kept.standing (running c.self.inside c.args.self.now c.self.view_is c.requires.running) in (
      stands.batches,
      subst (λ (d : g.row.D.Denot). IsOn g.D.Disk.may_leave c.append_record.new.log d stands.batches) (sym c.as_mut.ensures.value)
          (record-on g.D.Disk.may_leave (view_of c.self.inside) c.append_record.new.log c.args.pass stands c.append_record.ensures.log),
    )

-- ---- where the disk failed it

pub invariant_of-self : goal.invariant_of-self
invariant_of-self g c =
    let run = subst (λ (d : g.row.D.Denot). Runs g.D.Disk.may_leave g.D.Disk.moment g.D.Disk.left_since c.append_record.new.log c.force.new.disk d) c.as_mut.ensures.value c.force.ensures.moments in
    let others = subst (λ (d : g.row.D.Denot). Others g.D.Disk.may_leave g.D.Disk.moment g.D.Disk.left_since c.append_record.new.log c.force.new.disk d) c.as_mut.ensures.value c.force.ensures.others in
    let moments = record-moments g.D.Disk.may_leave (view_of c.self.inside) g.D.Disk.moment g.D.Disk.left_since c.append_record.new.log c.force.new.disk c.args.pass
    (c.self.invariant.kept.standing (running c.self.inside c.args.self.now c.self.view_is c.requires.running)) c.self.invariant.kept.inside
    (owed c.self.inside c.args.self.now c.args.pass c.self.view_is c.requires.granted) c.append_record.ensures.log run others in
    record {
      size = c.self.invariant.size;
      own = c.self.invariant.own;
      spelling = c.self.invariant.spelling;
      counted = (
        let before = c.self.invariant.counted.0 in
            let value = ap g.D.Disk.faults c.as_mut.ensures.value in
            let cause = c.force.ensures.cause.later in
            omega (arith, before, value, cause),
        let before = c.self.invariant.counted.0 in
            let value = ap g.D.Disk.faults c.as_mut.ensures.value in
            let rose = on-err c.force.result _ (sym c.is_err.ensures.value ∙ c.if-is_err.true) c.force.ensures.cause.failed in
            let told = c.faults.ensures ∙ ap g.D.Disk.faults c.deref.ensures in
            (omega (arith, before, value, rose, told), omega (arith, told)),
        λ none. absurd (cc (none)),
      );
      kept = kept-failed g.D.Disk.may_leave (view_of c.self.inside) _ c.args.pass c.faults.result c.self.invariant.kept
          (running c.self.inside c.args.self.now c.self.view_is c.requires.running) refl refl refl refl refl refl
          (record { client = c.requires.client; granted = (granted c.self.inside c.args.self.now c.args.pass c.self.view_is c.requires.granted).granted }) (at_exit g.D.Disk.may_leave g.D.Disk.counts_now moments);
    }

pub returns-then-is_err-clause-frames : goal.returns-then-is_err-clause-frames
returns-then-is_err-clause-frames g c =
    let v = view_of c.self.inside in
    subst (λ (w : LoggedView g.row.D.Denot). KeepsFrames w.journal c.self.inside.journal c.args.held.now c.args.held.now) c.self.view_is
    (record {
      pages = refl;
      agree = subst (λ (w : LoggedView g.row.D.Denot). Agree (cells_of w.journal) c.args.held.now) (sym c.self.view_is) c.requires.agree;
      elsewhere = λ page apart. refl;
    })

pub returns-then-is_err-clause-moments : goal.returns-then-is_err-clause-moments
returns-then-is_err-clause-moments g c =
    let run = subst (λ (d : g.row.D.Denot). Runs g.D.Disk.may_leave g.D.Disk.moment g.D.Disk.left_since c.append_record.new.log c.force.new.disk d) c.as_mut.ensures.value c.force.ensures.moments in
    let others = subst (λ (d : g.row.D.Denot). Others g.D.Disk.may_leave g.D.Disk.moment g.D.Disk.left_since c.append_record.new.log c.force.new.disk d) c.as_mut.ensures.value c.force.ensures.others in
    let moments = record-moments g.D.Disk.may_leave (view_of c.self.inside) g.D.Disk.moment g.D.Disk.left_since c.append_record.new.log c.force.new.disk c.args.pass
    (c.self.invariant.kept.standing (running c.self.inside c.args.self.now c.self.view_is c.requires.running)) c.self.invariant.kept.inside
    (owed c.self.inside c.args.self.now c.args.pass c.self.view_is c.requires.granted) c.append_record.ensures.log run others in
    subst (λ (w : LoggedView g.row.D.Denot). LeavesOnlyImages g.D.Disk.moment g.D.Disk.left_since w.disk c.force.new.disk (MayHave w c.args.pass)) c.self.view_is moments

pub returns-then-is_err-clause-areas : goal.returns-then-is_err-clause-areas
returns-then-is_err-clause-areas g c =
    let v = view_of c.self.inside in
    let log = c.append_record.new.log in
    let keeps = subst (λ (d : g.row.D.Denot). KeepsOthers g.D.Disk.content g.D.Disk.may_leave d c.force.new.disk log.area) c.as_mut.ensures.value c.force.ensures.keeps in
    record {
      others = subst (λ (w : LoggedView g.row.D.Denot). KeepsOthers g.D.Disk.content g.D.Disk.may_leave w.disk c.force.new.disk w.log.area) c.self.view_is
          (others-forced g.D.Disk.content g.D.Disk.may_leave v c.force.new.disk log c.args.pass c.append_record.ensures.log keeps);
      batch = λ is done. absurd (cc (done));
    }

-- ---- where it was done

pub apply-reply-requires : goal.apply-reply-requires
apply-reply-requires g c =
    let small : g.row.SLOTS ≤ 14 = ⊎_elim (λ six. omega arith) (λ fourteen. omega arith) c.self.invariant.size in (
      search rules,
      (
        search rules,
        (
          c.requires.client,
          (
            tt,
            (
              (λ e. absurd (cc (e))),
              (
                subst (λ (v : LoggedView g.row.D.Denot). Agree (cells_of v.journal) c.args.held.now) (sym c.self.view_is) c.requires.agree,
                subst (λ (v : LoggedView g.row.D.Denot). HasPages v.journal.history.ids (pages_for_call v.journal c.args.pass call.Commit) c.args.held.now) (sym c.self.view_is) c.requires.ready,
              ),
            ),
          ),
        ),
      ),
    )

grants : (g : Over) (c : goal.After-self-2-1 g) → IsGranted c.self.inside.journal c.args.pass call.Commit
grants g c = granted c.self.inside c.args.self.now c.args.pass c.self.view_is c.requires.granted

entered : (g : Over) (c : goal.After-self-2-1 g) → IsEntered c.apply-reply.result
entered g c =
    (c.apply-reply.ensures.commit refl (grants g c).granted, λ full. absurd (let past = c.apply-reply.ensures.full.0 full in let within = (grants g c).room in cc (past, within)))

done : (g : Over) (c : goal.After-self-2-1 g) → c.apply-reply.result ≡ reply.Done
done g c = c.apply-reply.ensures.machine (entered g c) ∙ commit-done (end_of c.self.inside.journal.history).state c.args.pass (grants g c).granted

does : (g : Over) (c : goal.After-self-2-1 g) → DoesCall g.row.SLOTS c.self.inside.journal c.apply-reply.new.self c.args.pass call.Commit c.apply-reply.result
does g c =
    let a = c.apply-reply.ensures in
    record {
      full = a.full;
      marked = λ is. (a.marked is).0;
      memory = λ is. (a.memory is).0;
      entry = a.entry;
      machine = a.machine;
      noted = a.noted;
      collector = a.collector;
      cursor = a.cursor;
      opening = a.opening;
      unmarked = a.unmarked;
    }

-- its note
abbrev note : (g : Over) (c : goal.After-self-2-1 g) → Note
note g c = record {
  entry = Call c.args.pass call.Commit c.apply-reply.result;
  logged = logged_by (end_of c.self.inside.journal.history).state (cells_of c.self.inside.journal) c.args.pass call.Commit;
  left = left_of g.row.SLOTS c.apply-reply.new.self.round;
  act = Other;
}

-- the journal with its log, after it
abbrev after : (g : Over) (c : goal.After-self-2-1 g) → LoggedView g.row.D.Denot
after g c = record {
  journal = c.apply-reply.new.self;
  log = c.force.new.self;
  disk = c.force.new.disk;
  durable = c.len-self-inside.result;
  marks = c.self.inside.marks;
  failed = c.self.inside.failed;
  log_full = c.self.inside.log_full;
  peak = c.self.inside.peak;
  opened = c.self.inside.opened;
}

succeeded : (g : Over) (c : goal.After-self-2-1 g) → is_err c.force.result ≡ false
succeeded g c = sym c.is_err.ensures.value ∙ c.if-is_err.false

falls : (g : Over) (c : goal.After-self-2-1 g) → bytes_owed (end_of c.apply-reply.new.self.history) + 7 ≤ bytes_owed (end_of c.self.inside.journal.history)
falls g c =
    commit-falls c.self.inside.journal.history c.apply-reply.new.self.history c.args.pass c.apply-reply.result (grants g c).granted (c.apply-reply.ensures.machine (entered g c))
    (c.apply-reply.ensures.entry (entered g c))

log-is : (g : Over) (c : goal.After-self-2-1 g) → c.force.new.self ≡ forced (with_record c.self.inside.log c.args.pass)
log-is g c =
    c.force.ensures.log ∙ was-ok c.force.result (forced c.append_record.new.log) (failed c.append_record.new.log) (succeeded g c)
    ∙ ap (λ (l : LogState). forced l) c.append_record.ensures.log

stands : (g : Over) (c : goal.After-self-2-1 g) → IsStanding g.D.Disk.may_leave (view_of c.self.inside)
stands g c = c.self.invariant.kept.standing (running c.self.inside c.args.self.now c.self.view_is c.requires.running)

-- the commit's record is that of the note that joined
record-joined : (g : Over) (c : goal.After-self-2-1 g) → bytes_joined c.self.inside.journal c.apply-reply.new.self ≡ cell_record_bytes (logs.Commit c.args.pass)
record-joined g c =
    joined-one c.self.inside.journal c.apply-reply.new.self (note g c) (c.apply-reply.ensures.noted (entered g c))
    ∙ ap (λ (o : Option CellRecord). option_map_or cell_record_bytes o []) (commit-logged (end_of c.self.inside.journal.history).state (cells_of c.self.inside.journal) c.args.pass (grants g c).granted)

committed : (g : Over) (c : goal.After-self-2-1 g)
    → HasCommitted g.D.Disk.may_leave (view_of c.self.inside) (after g c) c.args.pass (note g c) (with_batch (stands g c).batches c.append_record.new.log.tail)
committed g c =
    let v = view_of c.self.inside in
    let log = c.append_record.new.log in
    let s = stands g c in
    let a = c.apply-reply.ensures in
    let on = record-on g.D.Disk.may_leave v log c.args.pass s c.append_record.ensures.log in
    let reached = subst (λ (d : g.row.D.Denot). IsOn g.D.Disk.may_leave log d s.batches) (sym c.as_mut.ensures.value) on in
    let keeps = subst (λ (d : g.row.D.Denot). KeepsOthers g.D.Disk.content g.D.Disk.may_leave d c.force.new.disk log.area) c.as_mut.ensures.value c.force.ensures.keeps in
    let bounded = record-bounded g.D.Disk.may_leave v log c.args.pass s (owed c.self.inside c.args.self.now c.args.pass c.self.view_is c.requires.granted) c.append_record.ensures.log in
    record {
      note = record { entry = a.entry (entered g c); noted = a.noted (entered g c); opening = a.opening.0 };
      logged = commit-logged (end_of c.self.inside.journal.history).state (cells_of c.self.inside.journal) c.args.pass (grants g c).granted;
      limits = a.opening.1;
      log = log-is g c;
      on = on-ok c.force.result _ (succeeded g c) (c.force.ensures.on s.batches reached);
      have = on-ok c.force.result _ (succeeded g c) (c.force.ensures.images s.batches reached bounded);
      pages = s.pages;
      ids = s.ids;
      records = note-holds g.D.Disk.may_leave v log c.args.pass (note g c) s c.self.invariant.kept.inside c.append_record.ensures.log
          (commit-logged (end_of c.self.inside.journal.history).state (cells_of c.self.inside.journal) c.args.pass (grants g c).granted)
          c.force.new.disk (λ area may. (keeps Pages (pages-apart log.area on.area)).no_more area may);
      long = λ area may. s.long area ((keeps Pages (pages-apart log.area on.area)).no_more area may);
      marks = refl;
      all = c.len-self-inside.ensures ∙ ap (λ (l : List Note). length l) c.history.ensures.notes;
      lasting = durable-all c.apply-reply.new.self (subst (λ (l : List Note). map (λ n. n.entry) l ≡ c.apply-reply.new.self.history.entries) c.history.ensures.notes c.history.ensures.entries) c.history.ensures.safe;
      running = running c.self.inside c.args.self.now c.self.view_is c.requires.running;
      others = (refl, refl);
      falls = falls g c;
    }

pub invariant_of-self-2 : goal.invariant_of-self-2
invariant_of-self-2 g c =
    record {
      size = c.self.invariant.size;
      own = ap (λ h. h.slots) (c.apply-reply.ensures.entry (entered g c)) ∙ c.self.invariant.own;
      spelling = c.self.invariant.spelling;
      counted = (
        let before = c.self.invariant.counted.0 in
            let value = ap g.D.Disk.faults c.as_mut.ensures.value in
            let cause = c.force.ensures.cause.later in
            omega (arith, before, value, cause),
        subst (λ (o : Option FailedCall). IfSome o (λ f. Rose c.self.inside.opened f.faults × (f.faults ≤ g.D.Disk.faults c.force.new.disk))) (sym (running c.self.inside c.args.self.now c.self.view_is c.requires.running)) tt,
        λ none.
            let before = c.self.invariant.counted.2 ((running c.self.inside c.args.self.now c.self.view_is c.requires.running)) in
            let value = ap g.D.Disk.faults c.as_mut.ensures.value in
            let kept = on-ok c.force.result _ (sym c.is_err.ensures.value ∙ c.if-is_err.false) c.force.ensures.cause.kept in
            omega (arith, before, value, kept),
      );
      kept = kept-done g.D.Disk.may_leave (view_of c.self.inside) (after g c) c.args.pass (note g c) _ c.self.invariant.kept
          (running c.self.inside c.args.self.now c.self.view_is c.requires.running) (committed g c);
    }

pub returns-clause-done : goal.returns-clause-done
returns-clause-done g c is = (done g c, c.len-self-inside.ensures ∙ ap (λ (l : List Note). length l) c.history.ensures.notes)

pub returns-clause-does : goal.returns-clause-does
returns-clause-does g c is =
    subst (λ (w : LoggedView g.row.D.Denot). DoesCall g.row.SLOTS w.journal c.apply-reply.new.self c.args.pass call.Commit c.apply-reply.result) c.self.view_is (does g c)

pub returns-clause-goes_on : goal.returns-clause-goes_on
returns-clause-goes_on g c is =
    let v = view_of c.self.inside in
    let counted = counted-falls g.D.Disk.may_leave v (after g c) c.args.pass (log-is g c) (falls g c) in
    let peak = (stands g c).peak in
    subst (λ (w : LoggedView g.row.D.Denot). GoesOn w (after g c)) c.self.view_is
    (record {
      running = running c.self.inside c.args.self.now c.self.view_is c.requires.running;
      log_full = refl;
      peak = omega (arith, counted, peak);
      opened = refl;
      marks = joined (note g c) (c.apply-reply.ensures.noted (entered g c))
          (subst (λ (o : Option CellRecord). AreMarkedAfter c.self.inside.journal.history.slots o c.self.inside.marks c.self.inside.marks)
          (sym (commit-logged (end_of c.self.inside.journal.history).state (cells_of c.self.inside.journal) c.args.pass (grants g c).granted)) (commit-marked c.self.inside.journal.history.slots c.args.pass c.self.inside.marks));
      log = forces-these v (after g c) (cell_record_bytes (logs.Commit c.args.pass)) (record-joined g c) (c.len-self-inside.ensures ∙ ap (λ (l : List Note). length l) c.history.ensures.notes) (log-is g c);
    })

pub returns-clause-areas : goal.returns-clause-areas
returns-clause-areas g c =
    let v = view_of c.self.inside in
    let log = c.append_record.new.log in
    let keeps = subst (λ (d : g.row.D.Denot). KeepsOthers g.D.Disk.content g.D.Disk.may_leave d c.force.new.disk log.area) c.as_mut.ensures.value c.force.ensures.keeps in
    let bytes = subst (λ (d : g.row.D.Denot). g.D.Disk.content c.force.new.disk log.area ≡ option_map (forced_area log.durable log.tail) (g.D.Disk.content d log.area)) c.as_mut.ensures.value (on-ok c.force.result _ (succeeded g c) c.force.ensures.bytes) in
    subst (λ (w : LoggedView g.row.D.Denot). OnlyForces g.D.Disk.content g.D.Disk.may_leave w (after g c) call.Commit c.apply-reply.result) c.self.view_is
    (record {
      others = others-forced g.D.Disk.content g.D.Disk.may_leave v c.force.new.disk log c.args.pass c.append_record.ensures.log keeps;
      batch = λ is done. batch-forced g.D.Disk.content v (after g c) log c.args.pass c.append_record.ensures.log (record-joined g c) bytes;
    })

pub returns-clause-frames : goal.returns-clause-frames
returns-clause-frames g c =
    subst (λ (w : LoggedView g.row.D.Denot). KeepsFrames w.journal c.apply-reply.new.self c.args.held.now c.apply-reply.new.held) c.self.view_is
    (record { pages = c.apply-reply.ensures.pages; agree = c.apply-reply.ensures.agree; elsewhere = c.apply-reply.ensures.elsewhere })

pub returns-clause-other : goal.returns-clause-other
returns-clause-other g c isnt = absurd (isnt (subst IsOfJournal (sym (done g c)) tt))

pub returns-clause-fault : goal.returns-clause-fault
returns-clause-fault g c is = absurd (let k = sym (done g c) ∙ is in cc (k))

pub returns-clause-moments : goal.returns-clause-moments
returns-clause-moments g c =
    let run = subst (λ (d : g.row.D.Denot). Runs g.D.Disk.may_leave g.D.Disk.moment g.D.Disk.left_since c.append_record.new.log c.force.new.disk d) c.as_mut.ensures.value c.force.ensures.moments in
    let others = subst (λ (d : g.row.D.Denot). Others g.D.Disk.may_leave g.D.Disk.moment g.D.Disk.left_since c.append_record.new.log c.force.new.disk d) c.as_mut.ensures.value c.force.ensures.others in
    subst (λ (w : LoggedView g.row.D.Denot). LeavesOnlyImages g.D.Disk.moment g.D.Disk.left_since w.disk c.force.new.disk (MayHave w c.args.pass)) c.self.view_is
    (record-moments g.D.Disk.may_leave (view_of c.self.inside) g.D.Disk.moment g.D.Disk.left_since c.append_record.new.log c.force.new.disk c.args.pass (stands g c) c.self.invariant.kept.inside
    (owed c.self.inside c.args.self.now c.args.pass c.self.view_is c.requires.granted) c.append_record.ensures.log run others)
