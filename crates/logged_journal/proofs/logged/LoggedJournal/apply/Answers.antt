use Rattle.std.proofs.Common.{rules, ◌≡◌, ◌≤◌, arith, ⊎_elim, sym, ◌∙◌, ap, subst, refl}
use Rattle.disk_model.specs.Time.{LeavesOnlyImages}
use Rattle.plain_model.specs.declared.calls.Call.{Call as TransactionCall}
use Rattle.plain_model.specs.declared.calls.Call.TheVariants as call
use Rattle.plain_model.specs.declared.calls.Reply.TheVariants as reply
use Rattle.core_store.specs.Limited.{is_past_limit}
use Rattle.core_store.specs.Owed.{entries_needed}
use Rattle.logged_journal.specs.View.{LoggedView, IsPast}
use Rattle.logged_journal.specs.Records.{MayHave}
use Rattle.logged_journal.specs.Calls.{IsOfJournal, DoesCall, FailsCommit, IsGranted, KeepsFrames, OnlyForces}
use Rattle.logged_journal.proofs.Areas.{areas-kept}
use Rattle.logged_journal.proofs.AppliedCalls.{few-needed, still, opens-still, opens-commit, not-granted, is-granted, never-done, never-memory, no-other, if-none, commit-left}
use Rattle.logged_journal.proofs.logged.LoggedJournal.apply.Given.{Over}
use Rattle.logged_journal.proofs.logged.LoggedJournal.apply.Goals as goal

pub returns-in-Some-clause-moments : goal.returns-in-Some-clause-moments
returns-in-Some-clause-moments g c =
    subst (λ (w : LoggedView g.row.D.Denot). LeavesOnlyImages g.D.Disk.moment g.D.Disk.left_since w.disk w.disk (MayHave w c.args.pass)) c.self.view_is
    (still g.D.Disk.may_leave g.D.Disk.moment g.D.Disk.left_since g.D.Disk.only_now _ c.args.pass c.self.inside.disk.value refl c.self.invariant.kept)

refused : (g : Over) (c : goal.After-refuse g) → IsGranted c.args.self.now.journal c.args.pass c.args.call.now → ⊥
refused g c granted = not-granted c.self.inside.journal c.args.pass c.args.call.now c.grants.result c.grants.ensures c.if-not-grants.true
    (subst (λ (w : LoggedView g.row.D.Denot). IsGranted w.journal c.args.pass c.args.call.now) (sym c.self.view_is) granted)

pub returns-then-not-grants-clause-committed : goal.returns-then-not-grants-clause-committed
returns-then-not-grants-clause-committed g c is done =
    absurd (never-done g.row.SLOTS c.args.self.now.journal c.refuse.new.self.journal c.args.pass c.refuse.result
    (λ granted. refused g c (subst (λ (x : TransactionCall). IsGranted c.args.self.now.journal c.args.pass x) (sym is) granted))
    (subst (λ (x : TransactionCall). DoesCall g.row.SLOTS c.args.self.now.journal c.refuse.new.self.journal c.args.pass x c.refuse.result) is c.refuse.ensures.does) done)

pub returns-then-not-grants-clause-commit : goal.returns-then-not-grants-clause-commit
returns-then-not-grants-clause-commit g c is granted memory =
    never-memory g.row.SLOTS c.args.self.now.journal c.refuse.new.self.journal c.args.pass c.refuse.result
    (λ granted. refused g c (subst (λ (x : TransactionCall). IsGranted c.args.self.now.journal c.args.pass x) (sym is) granted))
    (subst (λ (x : TransactionCall). DoesCall g.row.SLOTS c.args.self.now.journal c.refuse.new.self.journal c.args.pass x c.refuse.result) is c.refuse.ensures.does) granted memory

pub returns-then-not-grants-clause-moments : goal.returns-then-not-grants-clause-moments
returns-then-not-grants-clause-moments g c =
    subst (λ (w : LoggedView g.row.D.Denot). w.disk ≡ w.disk → LeavesOnlyImages g.D.Disk.moment g.D.Disk.left_since w.disk c.refuse.new.self.disk (MayHave w c.args.pass)) c.self.view_is
    (λ _. still g.D.Disk.may_leave g.D.Disk.moment g.D.Disk.left_since g.D.Disk.only_now _ c.args.pass c.refuse.new.self.disk
    (c.refuse.ensures.disk.disk ∙ ap (λ (w : LoggedView g.row.D.Denot). w.disk) (sym c.self.view_is)) c.self.invariant.kept) refl

pub is_within-requires-clause-running : goal.is_within-requires-clause-running
is_within-requires-clause-running g c κs within = (search rules, ap (λ (w : LoggedView g.row.D.Denot). w.failed) (sym c.self.view_is) ∙ c.in_default.is)

pub is_past-requires-after_bounds : goal.is_past-requires-after_bounds
is_past-requires-after_bounds g c κs within = (search rules, (ap (λ (w : LoggedView g.row.D.Denot). w.failed) (sym c.self.view_is) ∙ c.in_default.is, few-needed g.row.SLOTS _ c.self.invariant.size c.bytes_needed.ensures.few))

pub mark_full-requires-after_bounds : goal.mark_full-requires-after_bounds
mark_full-requires-after_bounds g c κs within =
    (search rules, (ap (λ (w : LoggedView g.row.D.Denot). w.failed) (sym c.self.view_is) ∙ c.in_default.is, (c.bytes_needed.result, few-needed g.row.SLOTS _ c.self.invariant.size c.bytes_needed.ensures.few, c.is_past.ensures.past.0 c.if-is_past.true)))

granted : (g : Over) (c : goal.After-mark_full g) → IsGranted c.args.self.now.journal c.args.pass c.args.call.now
granted g c = subst (λ (w : LoggedView g.row.D.Denot). IsGranted w.journal c.args.pass c.args.call.now) c.self.view_is
    (is-granted c.self.inside.journal c.args.pass c.args.call.now c.grants.result c.grants.ensures c.if-not-grants.false)

pub returns-then-is_past-clause-log_full : goal.returns-then-is_past-clause-log_full
returns-then-is_past-clause-log_full g c = (
  (λ _. record {
    running = ap (λ (w : LoggedView g.row.D.Denot). w.failed) (sym c.self.view_is) ∙ c.in_default.is;
    granted = granted g c;
    past = subst (λ n. IsPast c.args.self.now n) c.bytes_needed.ensures.value (c.is_past.ensures.past.0 c.if-is_past.true);
  }),
  (λ _. refl),
)

pub returns-then-is_past-clause-frames : goal.returns-then-is_past-clause-frames
returns-then-is_past-clause-frames g c =
    subst (λ (w : LoggedView g.row.D.Denot). KeepsFrames c.args.self.now.journal w.journal c.args.held.now c.args.held.now) (sym c.mark_full.ensures.marked)
    (record { pages = refl; agree = c.requires.agree; elsewhere = λ page out. refl })

pub returns-then-is_past-clause-moments : goal.returns-then-is_past-clause-moments
returns-then-is_past-clause-moments g c =
    subst (λ (w : LoggedView g.row.D.Denot). w.disk ≡ w.disk → LeavesOnlyImages g.D.Disk.moment g.D.Disk.left_since w.disk c.mark_full.new.self.disk (MayHave w c.args.pass)) c.self.view_is
    (λ _. still g.D.Disk.may_leave g.D.Disk.moment g.D.Disk.left_since g.D.Disk.only_now _ c.args.pass c.mark_full.new.self.disk
    (ap (λ (w : LoggedView g.row.D.Denot). w.disk) c.mark_full.ensures.marked ∙ ap (λ (w : LoggedView g.row.D.Denot). w.disk) (sym c.self.view_is)) c.self.invariant.kept) refl

pub commit-requires-after_bounds : goal.commit-requires-after_bounds
commit-requires-after_bounds g c κs within =
    let size = c.self.invariant.size in
    let all = subst (λ (w : LoggedView g.row.D.Denot). IsGranted w.journal c.args.pass c.args.call.now) c.self.view_is
    (is-granted c.self.inside.journal c.args.pass c.args.call.now c.grants.result c.grants.ensures c.if-not-grants.false) in (
      search rules,
      (
        search rules,
        (
          c.requires.client,
          (
            c.requires.agree,
            (
              search rules,
              (
                ap (λ (w : LoggedView g.row.D.Denot). w.failed) (sym c.self.view_is) ∙ c.in_default.is,
                subst (λ (x : TransactionCall). IsGranted c.args.self.now.journal c.args.pass x)
                    (commit-left c.args.self.now c.args.call.now (is_past_limit c.args.self.now.journal (entries_needed c.args.call.now)) c.is_past.result c.bytes_needed.result (c.is_within.ensures.other c.if-is_within.false) all.room c.is_past.ensures.past.1 c.if-is_past.false c.bytes_needed.ensures.value) all,
              ),
            ),
          ),
        ),
      ),
    )

pub log_call-requires-after_bounds : goal.log_call-requires-after_bounds
log_call-requires-after_bounds g c κs within =
    let free = c.is_within.ensures.within c.if-is_within.true in (
      search rules,
      (
        search rules,
        (
          c.requires.client,
          (
            c.requires.in_range,
            (
              c.requires.no_abort,
              (
                c.requires.agree,
                (
                  c.requires.ready,
                  (
                    ap (λ (w : LoggedView g.row.D.Denot). w.failed) (sym c.self.view_is) ∙ c.in_default.is,
                    (free.1, (free.0, (free.2, free.3))),
                  ),
                ),
              ),
            ),
          ),
        ),
      ),
    )

-- what is left is a commit
left : (g : Over) (c : goal.After-commit g) → c.args.call.now ≡ call.Commit
left g c =
    let all = subst (λ (w : LoggedView g.row.D.Denot). IsGranted w.journal c.args.pass c.args.call.now) c.self.view_is
    (is-granted c.self.inside.journal c.args.pass c.args.call.now c.grants.result c.grants.ensures c.if-not-grants.false) in
    commit-left c.args.self.now c.args.call.now (is_past_limit c.args.self.now.journal (entries_needed c.args.call.now)) c.is_past.result c.bytes_needed.result (c.is_within.ensures.other c.if-is_within.false) all.room c.is_past.ensures.past.1 c.if-is_past.false c.bytes_needed.ensures.value

pub returns-clause-log_full : goal.returns-clause-log_full
returns-clause-log_full g c =
    ((λ is. let e = sym is ∙ c.commit.ensures.other (λ of. subst IsOfJournal is of) in absurd (cc (e))), λ past. absurd (let e = sym c.if-is_past.false ∙ c.is_past.ensures.past.1 (subst (λ n. IsPast c.args.self.now n) (sym c.bytes_needed.ensures.value) past.past) in cc (e)))

pub returns-clause-does : goal.returns-clause-does
returns-clause-does g c of =
    subst (λ (x : TransactionCall). DoesCall g.row.SLOTS c.args.self.now.journal c.commit.new.self.journal c.args.pass x c.commit.result) (sym (left g c)) (c.commit.ensures.does of)

pub returns-clause-same : goal.returns-clause-same
returns-clause-same g c is =
    absurd (⊎_elim (λ full. no-other c.commit.result reply.TraceFull (λ of. (c.commit.ensures.done of).0) full (λ e. cc (e)) tt)
    (λ memory. no-other c.commit.result reply.Memory (λ of. (c.commit.ensures.done of).0) memory (λ e. cc (e)) tt) is)

pub returns-clause-committed : goal.returns-clause-committed
returns-clause-committed g c is done = (c.commit.ensures.done (subst IsOfJournal (sym done) tt)).1

pub returns-clause-commit : goal.returns-clause-commit
returns-clause-commit g c is granted memory = no-other c.commit.result reply.Memory (λ of. (c.commit.ensures.done of).0) memory (λ e. cc (e)) tt

pub returns-clause-untouched : goal.returns-clause-untouched
returns-clause-untouched g c never =
    let all = subst (λ (w : LoggedView g.row.D.Denot). IsGranted w.journal c.args.pass c.args.call.now) c.self.view_is
    (is-granted c.self.inside.journal c.args.pass c.args.call.now c.grants.result c.grants.ensures c.if-not-grants.false) in
    absurd (never (left g c) (subst (λ (x : TransactionCall). IsGranted c.args.self.now.journal c.args.pass x) (left g c) all))

pub returns-clause-fault : goal.returns-clause-fault
returns-clause-fault g c is =
    let fails = c.commit.ensures.fault is in
    (subst (λ (x : TransactionCall). FailsCommit g.D.Disk.faults c.args.self.now c.commit.new.self c.args.pass x) (sym (left g c)) fails.0, fails.1)

pub returns-then-is_within : goal.returns-then-is_within
returns-then-is_within g c =
    let none = ap (λ (w : LoggedView g.row.D.Denot). w.failed) (sym c.self.view_is) ∙ c.in_default.is in
    let free = c.is_within.ensures.within c.if-is_within.true in
    record {
      stopped = if-none c.args.self.now.failed _ none;
      only_stopped = λ faults is. absurd (subst IsOfJournal is c.log_call.ensures.journal);
      log_full = (
        (λ is. absurd (subst IsOfJournal is c.log_call.ensures.journal)),
        (λ past. absurd (free.2 past.past)),
      );
      log_marked = λ is. absurd (subst IsOfJournal is c.log_call.ensures.journal);
      does = λ of. c.log_call.ensures.does;
      goes_on = λ of. c.log_call.ensures.goes_on;
      frames = c.log_call.ensures.frames;
      same = c.log_call.ensures.same;
      kept = c.log_call.ensures.kept;
      committed = λ is done. absurd (free.0 is);
      commit = λ is granted memory. free.0 is;
      untouched = λ never. c.log_call.ensures.disk;
      fault = λ is. absurd (subst IsOfJournal is c.log_call.ensures.journal);
      later = subst (λ (d : g.row.D.Denot). g.D.Disk.faults c.args.self.now.disk ≤ g.D.Disk.faults d) (sym c.log_call.ensures.disk.disk) (omega (arith));
      count = λ _. ap (λ (d : g.row.D.Denot). g.D.Disk.faults d) c.log_call.ensures.disk.disk;
      areas = areas-kept g.D.Disk.content g.D.Disk.may_leave c.args.self.now c.log_call.new.self c.args.call.now c.log_call.result c.log_call.ensures.disk.disk (λ is _. free.0 is);
      moments = subst (λ (w : LoggedView g.row.D.Denot). w.disk ≡ w.disk → LeavesOnlyImages g.D.Disk.moment g.D.Disk.left_since w.disk c.log_call.new.self.disk (MayHave w c.args.pass)) c.self.view_is
          (λ _. still g.D.Disk.may_leave g.D.Disk.moment g.D.Disk.left_since g.D.Disk.only_now _ c.args.pass c.log_call.new.self.disk
          (c.log_call.ensures.disk.disk ∙ ap (λ (w : LoggedView g.row.D.Denot). w.disk) (sym c.self.view_is)) c.self.invariant.kept) refl;
      opens = opens-still g.D.Disk.may_leave g.D.Disk.moment g.D.Disk.left_since g.D.Disk.only_now g.row.SLOTS c.args.pass c.args.call.now _ c.args.self.now c.log_call.new.self.disk c.self.view_is
          c.self.invariant.kept c.log_call.ensures.disk.disk c.know_images.ensures.left;
    }

-- ---- what the areas have

pub returns-in-Some-clause-areas : goal.returns-in-Some-clause-areas
returns-in-Some-clause-areas g c = areas-kept g.D.Disk.content g.D.Disk.may_leave c.args.self.now c.args.self.now c.args.call.now _ refl (λ is done. absurd (cc (done)))

pub returns-then-not-grants-clause-areas : goal.returns-then-not-grants-clause-areas
returns-then-not-grants-clause-areas g c =
    areas-kept g.D.Disk.content g.D.Disk.may_leave c.args.self.now c.refuse.new.self c.args.call.now c.refuse.result c.refuse.ensures.disk.disk
    (λ is done.
    never-done g.row.SLOTS c.args.self.now.journal c.refuse.new.self.journal c.args.pass c.refuse.result
    (λ granted. refused g c (subst (λ (x : TransactionCall). IsGranted c.args.self.now.journal c.args.pass x) (sym is) granted))
    (subst (λ (x : TransactionCall). DoesCall g.row.SLOTS c.args.self.now.journal c.refuse.new.self.journal c.args.pass x c.refuse.result) is c.refuse.ensures.does) done)

pub returns-then-is_past-clause-areas : goal.returns-then-is_past-clause-areas
returns-then-is_past-clause-areas g c =
    areas-kept g.D.Disk.content g.D.Disk.may_leave c.args.self.now c.mark_full.new.self c.args.call.now reply.LogFull (ap (λ (w : LoggedView g.row.D.Denot). w.disk) c.mark_full.ensures.marked)
    (λ is done. absurd (cc (done)))

pub returns-clause-areas : goal.returns-clause-areas
returns-clause-areas g c =
    subst (λ (x : TransactionCall). OnlyForces g.D.Disk.content g.D.Disk.may_leave c.args.self.now c.commit.new.self x c.commit.result) (sym (left g c)) c.commit.ensures.areas

-- ---- what the images open to

pub returns-in-Some-clause-opens : goal.returns-in-Some-clause-opens
returns-in-Some-clause-opens g c =
    opens-still g.D.Disk.may_leave g.D.Disk.moment g.D.Disk.left_since g.D.Disk.only_now g.row.SLOTS c.args.pass c.args.call.now _ c.args.self.now c.args.self.now.disk c.self.view_is
    c.self.invariant.kept refl c.know_images.ensures.left

pub returns-then-not-grants-clause-opens : goal.returns-then-not-grants-clause-opens
returns-then-not-grants-clause-opens g c =
    opens-still g.D.Disk.may_leave g.D.Disk.moment g.D.Disk.left_since g.D.Disk.only_now g.row.SLOTS c.args.pass c.args.call.now _ c.args.self.now c.refuse.new.self.disk c.self.view_is
    c.self.invariant.kept c.refuse.ensures.disk.disk c.know_images.ensures.left

pub returns-then-is_past-clause-opens : goal.returns-then-is_past-clause-opens
returns-then-is_past-clause-opens g c =
    opens-still g.D.Disk.may_leave g.D.Disk.moment g.D.Disk.left_since g.D.Disk.only_now g.row.SLOTS c.args.pass c.args.call.now _ c.args.self.now c.mark_full.new.self.disk c.self.view_is
    c.self.invariant.kept (ap (λ (w : LoggedView g.row.D.Denot). w.disk) c.mark_full.ensures.marked) c.know_images.ensures.left

pub returns-clause-opens : goal.returns-clause-opens
returns-clause-opens g c =
    let all = subst (λ (w : LoggedView g.row.D.Denot). IsGranted w.journal c.args.pass c.args.call.now) c.self.view_is
    (is-granted c.self.inside.journal c.args.pass c.args.call.now c.grants.result c.grants.ensures c.if-not-grants.false) in
    opens-commit g.D.Disk.moment g.D.Disk.left_since g.row.SLOTS c.args.pass c.args.call.now c.args.self.now c.args.self.now.disk c.commit.new.self.disk (left g c)
    (ap (λ (w : LoggedView g.row.D.Denot). w.failed) (sym c.self.view_is) ∙ c.in_default.is) c.requires.client
    (subst (λ (x : TransactionCall). IsGranted c.args.self.now.journal c.args.pass x) (left g c) all) c.know_images.ensures.left c.know_images.ensures.failing c.commit.ensures.moments
