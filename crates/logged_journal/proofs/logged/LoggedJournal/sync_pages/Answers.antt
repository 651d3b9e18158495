use Rattle.std.proofs.Common.{◌≤◌, ◌∙◌, inl, Option, sym, ap, subst, arith}
use Rattle.std.specs.Prelude.{IfSome}
use Rattle.disk_model.specs.Areas.{in_area}
use Rattle.disk_model.specs.Causes.{Rose}
use Rattle.disk_model.specs.Told.{KeepsAll}
use Rattle.disk_model.specs.Time.{LeavesOnlyImages, Elapses}
use Rattle.disk_model.proofs.Moments.{no_call, one_more}
use Rattle.logged_journal.specs.declared.failed.FailedCall.{FailedCall}
use Rattle.logged_journal.specs.Inside.{view_of}
use Rattle.logged_journal.specs.View.{LoggedView}
use Rattle.logged_journal.specs.Records.{MayHaveAll}
use Rattle.logged_journal.proofs.CommitDone.{on-ok, on-err}
use Rattle.logged_journal.proofs.Upkeeps.{kept-stopped, kept-still}
use Rattle.logged_journal.proofs.logged.LoggedJournal.sync_pages.Goals as goal

pub invariant_of-self : goal.invariant_of-self
invariant_of-self g c =
    let v = view_of c.self.inside in
    let running = ap (λ (w : LoggedView g.row.D.Denot). w.failed) c.self.view_is ∙ c.requires.running in
    let keeps = subst (λ (d : g.row.D.Denot). KeepsAll g.D.Disk.content g.D.Disk.may_leave d c.sync.new.self) c.as_mut.ensures.value c.sync.ensures.keeps in
    record {
      size = c.self.invariant.size;
      own = c.self.invariant.own;
      spelling = c.self.invariant.spelling;
      counted = (
        let before = c.self.invariant.counted.0 in
            let value = ap g.D.Disk.faults c.as_mut.ensures.value in
            let cause = c.sync.ensures.cause.later in
            omega (arith, before, value, cause),
        let before = c.self.invariant.counted.0 in
            let value = ap g.D.Disk.faults c.as_mut.ensures.value in
            let rose = on-err c.sync.result _ (sym c.is_err.ensures.value ∙ c.if-is_err.true) c.sync.ensures.cause.failed in
            let told = c.faults.ensures ∙ ap g.D.Disk.faults c.deref.ensures in
            (omega (arith, before, value, rose, told), omega (arith, told)),
        λ none. absurd (cc (none)),
      );
      kept = kept-stopped g.D.Disk.may_leave v c.self.inside.log c.sync.new.self c.faults.result c.self.invariant.kept running
          (λ image may. inl (c.self.invariant.kept.images image (λ area. (keeps area).no_more (in_area image area) (may area))));
    }

pub returns-then-is_err-clause-moments : goal.returns-then-is_err-clause-moments
returns-then-is_err-clause-moments g c =
    let v = view_of c.self.inside in
    let keeps = subst (λ (d : g.row.D.Denot). KeepsAll g.D.Disk.content g.D.Disk.may_leave d c.sync.new.self) c.as_mut.ensures.value c.sync.ensures.keeps in
    let time = subst (λ (d : g.row.D.Denot). Elapses g.D.Disk.may_leave g.D.Disk.moment g.D.Disk.left_since d c.sync.new.self) c.as_mut.ensures.value c.sync.ensures.time in
    subst (λ (w : LoggedView g.row.D.Denot). LeavesOnlyImages g.D.Disk.moment g.D.Disk.left_since w.disk c.sync.new.self (MayHaveAll w)) c.self.view_is
    (one_more (no_call g.D.Disk.may_leave (MayHaveAll v) g.D.Disk.only_now (λ image may. inl (c.self.invariant.kept.images image may))) time
    (λ image may. inl (c.self.invariant.kept.images image (λ area. (keeps area).no_more (in_area image area) (may area)))))

pub invariant_of-self-else-is_err : goal.invariant_of-self-else-is_err
invariant_of-self-else-is_err g c =
    let v = view_of c.self.inside in
    let running = ap (λ (w : LoggedView g.row.D.Denot). w.failed) c.self.view_is ∙ c.requires.running in
    let keeps = subst (λ (d : g.row.D.Denot). KeepsAll g.D.Disk.content g.D.Disk.may_leave d c.sync.new.self) c.as_mut.ensures.value c.sync.ensures.keeps in
    record {
      size = c.self.invariant.size;
      own = c.self.invariant.own;
      spelling = c.self.invariant.spelling;
      counted = (
        let before = c.self.invariant.counted.0 in
            let value = ap g.D.Disk.faults c.as_mut.ensures.value in
            let cause = c.sync.ensures.cause.later in
            omega (arith, before, value, cause),
        subst (λ (o : Option FailedCall). IfSome o (λ f. Rose c.self.inside.opened f.faults × (f.faults ≤ g.D.Disk.faults c.sync.new.self))) (sym running) tt,
        λ none.
            let before = c.self.invariant.counted.2 (running) in
            let value = ap g.D.Disk.faults c.as_mut.ensures.value in
            let kept = on-ok c.sync.result _ (sym c.is_err.ensures.value ∙ c.if-is_err.false) c.sync.ensures.cause.kept in
            omega (arith, before, value, kept),
      );
      kept = kept-still g.D.Disk.may_leave v c.sync.new.self c.self.invariant.kept running (λ area bytes may. (keeps area).no_more bytes may);
    }

pub returns-clause-moments : goal.returns-clause-moments
returns-clause-moments g c =
    let v = view_of c.self.inside in
    let keeps = subst (λ (d : g.row.D.Denot). KeepsAll g.D.Disk.content g.D.Disk.may_leave d c.sync.new.self) c.as_mut.ensures.value c.sync.ensures.keeps in
    let time = subst (λ (d : g.row.D.Denot). Elapses g.D.Disk.may_leave g.D.Disk.moment g.D.Disk.left_since d c.sync.new.self) c.as_mut.ensures.value c.sync.ensures.time in
    subst (λ (w : LoggedView g.row.D.Denot). LeavesOnlyImages g.D.Disk.moment g.D.Disk.left_since w.disk c.sync.new.self (MayHaveAll w)) c.self.view_is
    (one_more (no_call g.D.Disk.may_leave (MayHaveAll v) g.D.Disk.only_now (λ image may. inl (c.self.invariant.kept.images image may))) time
    (λ image may. inl (c.self.invariant.kept.images image (λ area. (keeps area).no_more (in_area image area) (may area)))))
