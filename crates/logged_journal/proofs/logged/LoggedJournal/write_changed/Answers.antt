use Rattle.std.proofs.Common.{◌≡◌, ◌∙◌, ℕ, ◌*◌, ◌<◌, ◌≤◌, true, List, length, Option, sym, ap, subst, arith, rules}
use Rattle.std.specs.Prelude.{IfSome, vec_capacity}
use Rattle.disk_model.specs.declared.area.Area.TheVariants.{Pages}
use Rattle.disk_model.specs.Causes.{Rose}
use Rattle.disk_model.specs.Told.{KeepsOthers, EachImage}
use Rattle.disk_model.specs.Time.{LeavesOnlyImages}
use Rattle.disk_model.proofs.Moments.{at_exit}
use Rattle.cell_page.specs.Format.{page_size, page_bytes}
use Rattle.page_area.specs.InPlace.{HasCopy}
use Rattle.page_marks.specs.declared.marks.PageMark.{PageMark}
use Rattle.core_store.specs.JournalView.{cells_of}
use Rattle.logged_journal.specs.declared.failed.FailedCall.{FailedCall}
use Rattle.logged_journal.specs.Inside.{view_of}
use Rattle.logged_journal.specs.View.{LoggedView}
use Rattle.logged_journal.specs.Records.{MayHaveAll}
use Rattle.logged_journal.specs.Checkpoints.{page_in, has_changed, changed_below, OnlyPlaces, AreCurrent}
use Rattle.logged_journal.proofs.Upkeeps.{kept-stopped}
use Rattle.logged_journal.proofs.PagesKept.{written-faults, written-kept}
use Rattle.logged_journal.proofs.CheckpointImages.{frame-holds}
use Rattle.logged_journal.proofs.CheckpointPlaces.{placed-kept, placed-moments}
use Rattle.logged_journal.proofs.logged.LoggedJournal.write_changed.Goals as goal

pub place_changed-requires-after_bounds : goal.place_changed-requires-after_bounds
place_changed-requires-after_bounds g c κs within =
    let v = view_of c.self.inside in
    let kept = c.self.invariant.kept in
    let running = ap (λ (w : LoggedView g.row.D.Denot). w.failed) c.self.view_is ∙ c.requires.running in
    let stands = kept.standing running in
    let many = c.know_few.ensures.many ∙ ap (λ (w : LoggedView g.row.D.Denot). length w.marks) (sym c.self.view_is) in
    let ids = stands.ids in
    let count = kept.many in
    let all : stands.pages ≡ length v.marks = omega (arith, ids, count) in
    let long : (area : List ℕ) → g.D.Disk.may_leave v.disk Pages area → page_size g.row.SLOTS * length v.marks ≤ length area = λ area may.
    subst (λ (s : ℕ). page_size s * length v.marks ≤ length area) c.self.invariant.own (subst (λ (n : ℕ). page_size v.journal.history.slots * n ≤ length area) all (stands.long area may)) in
    let copied : (page : ℕ) → page < length v.marks → has_changed v.marks page ≡ true → EachImage g.D.Disk.may_leave v.disk (HasCopy g.row.SLOTS page (page_bytes (page_in c.args.frames.now page))) =
    subst (λ (w : LoggedView g.row.D.Denot). (page : ℕ) → page < length w.marks → has_changed w.marks page ≡ true → EachImage g.D.Disk.may_leave w.disk (HasCopy g.row.SLOTS page (page_bytes (page_in c.args.frames.now page)))) (sym c.self.view_is) c.know_copies.ensures.copied in (
      search rules,
      (
        c.self.invariant.size,
        (
          many,
          (
            c.know_few.ensures.few,
            (
              (λ page low. (frame-holds (cells_of c.args.self.now.journal) c.args.frames.now page c.requires.agree low).rules),
              (
                subst (λ (d : g.row.D.Denot). (area : List ℕ) → g.D.Disk.may_leave d Pages area → page_size g.row.SLOTS * length v.marks ≤ length area) (sym c.as_mut.ensures.value) long,
                (
                  subst (λ (d : g.row.D.Denot). (page : ℕ) → page < length v.marks → has_changed v.marks page ≡ true → EachImage g.D.Disk.may_leave d (HasCopy g.row.SLOTS page (page_bytes (page_in c.args.frames.now page)))) (sym c.as_mut.ensures.value) copied,
                  subst (λ (ms : List PageMark). page_size g.row.SLOTS * length (changed_below ms (length ms)) ≤ vec_capacity c.args.run.now) (ap (λ (w : LoggedView g.row.D.Denot). w.marks) (sym c.self.view_is)) c.requires.room,
                ),
              ),
            ),
          ),
        ),
      ),
    )

pub invariant_of-self : goal.invariant_of-self
invariant_of-self g c =
    let v = view_of c.self.inside in
    let kept = c.self.invariant.kept in
    let running = ap (λ (w : LoggedView g.row.D.Denot). w.failed) c.self.view_is ∙ c.requires.running in
    let stands = kept.standing running in
    let current = subst (λ (w : LoggedView g.row.D.Denot). AreCurrent w.marks) (sym c.self.view_is) c.requires.current in
    let empty = ap (λ (w : LoggedView g.row.D.Denot). w.log.tail) c.self.view_is ∙ c.requires.empty in
    let now = c.place_changed.new.disk in
    let only = subst (λ (d : g.row.D.Denot). OnlyPlaces g.D.Disk.content g.D.Disk.may_leave g.D.Disk.moment g.D.Disk.left_since g.D.Disk.faults g.row.SLOTS v.marks d now) c.as_mut.ensures.value c.place_changed.ensures.only in
    record {
      size = c.self.invariant.size;
      own = c.self.invariant.own;
      spelling = c.self.invariant.spelling;
      counted = (
        let before = c.self.invariant.counted.0 in
            let value = ap g.D.Disk.faults c.as_mut.ensures.value in
            let cause = c.place_changed.ensures.cause.later in
            omega (arith, before, value, cause),
        let before = c.self.invariant.counted.0 in
            let value = ap g.D.Disk.faults c.as_mut.ensures.value in
            let rose = written-faults c.place_changed.result _ _ c.place_changed.ensures.refusals c.place_changed.ensures.cause (sym c.is_err.ensures.value ∙ c.if-is_err.true) in
            let told = c.faults.ensures ∙ ap g.D.Disk.faults c.deref.ensures in
            (omega (arith, before, value, rose, told), omega (arith, told)),
        λ none. absurd (cc (none)),
      );
      kept = kept-stopped g.D.Disk.may_leave v c.self.inside.log now c.faults.result kept running (at_exit g.D.Disk.may_leave g.D.Disk.counts_now (placed-moments g.D.Disk.content g.D.Disk.may_leave g.D.Disk.moment g.D.Disk.left_since g.D.Disk.faults g.row.SLOTS v kept stands c.self.invariant.own current empty now only));
    }

pub returns-then-is_err-clause-moments : goal.returns-then-is_err-clause-moments
returns-then-is_err-clause-moments g c =
    let v = view_of c.self.inside in
    let kept = c.self.invariant.kept in
    let running = ap (λ (w : LoggedView g.row.D.Denot). w.failed) c.self.view_is ∙ c.requires.running in
    let stands = kept.standing running in
    let current = subst (λ (w : LoggedView g.row.D.Denot). AreCurrent w.marks) (sym c.self.view_is) c.requires.current in
    let empty = ap (λ (w : LoggedView g.row.D.Denot). w.log.tail) c.self.view_is ∙ c.requires.empty in
    let now = c.place_changed.new.disk in
    let only = subst (λ (d : g.row.D.Denot). OnlyPlaces g.D.Disk.content g.D.Disk.may_leave g.D.Disk.moment g.D.Disk.left_since g.D.Disk.faults g.row.SLOTS v.marks d now) c.as_mut.ensures.value c.place_changed.ensures.only in
    subst (λ (w : LoggedView g.row.D.Denot). LeavesOnlyImages g.D.Disk.moment g.D.Disk.left_since w.disk now (MayHaveAll w)) c.self.view_is (placed-moments g.D.Disk.content g.D.Disk.may_leave g.D.Disk.moment g.D.Disk.left_since g.D.Disk.faults g.row.SLOTS v kept stands c.self.invariant.own current empty now only)

pub invariant_of-self-else-is_err : goal.invariant_of-self-else-is_err
invariant_of-self-else-is_err g c =
    let v = view_of c.self.inside in
    let kept = c.self.invariant.kept in
    let running = ap (λ (w : LoggedView g.row.D.Denot). w.failed) c.self.view_is ∙ c.requires.running in
    let stands = kept.standing running in
    let current = subst (λ (w : LoggedView g.row.D.Denot). AreCurrent w.marks) (sym c.self.view_is) c.requires.current in
    let empty = ap (λ (w : LoggedView g.row.D.Denot). w.log.tail) c.self.view_is ∙ c.requires.empty in
    let now = c.place_changed.new.disk in
    let only = subst (λ (d : g.row.D.Denot). OnlyPlaces g.D.Disk.content g.D.Disk.may_leave g.D.Disk.moment g.D.Disk.left_since g.D.Disk.faults g.row.SLOTS v.marks d now) c.as_mut.ensures.value c.place_changed.ensures.only in
    record {
      size = c.self.invariant.size;
      own = c.self.invariant.own;
      spelling = c.self.invariant.spelling;
      counted = (
        let before = c.self.invariant.counted.0 in
            let value = ap g.D.Disk.faults c.as_mut.ensures.value in
            let cause = c.place_changed.ensures.cause.later in
            omega (arith, before, value, cause),
        subst (λ (o : Option FailedCall). IfSome o (λ f. Rose c.self.inside.opened f.faults × (f.faults ≤ g.D.Disk.faults c.place_changed.new.disk))) (sym running) tt,
        λ none.
            let before = c.self.invariant.counted.2 (running) in
            let value = ap g.D.Disk.faults c.as_mut.ensures.value in
            let kept = written-kept c.place_changed.result _ _ (sym c.is_err.ensures.value ∙ c.if-is_err.false) c.place_changed.ensures.cause in
            omega (arith, before, value, kept),
      );
      kept = placed-kept g.D.Disk.content g.D.Disk.may_leave g.D.Disk.moment g.D.Disk.left_since g.D.Disk.faults g.row.SLOTS v kept stands c.self.invariant.own current empty now only;
    }

pub returns-clause-moments : goal.returns-clause-moments
returns-clause-moments g c =
    let v = view_of c.self.inside in
    let kept = c.self.invariant.kept in
    let running = ap (λ (w : LoggedView g.row.D.Denot). w.failed) c.self.view_is ∙ c.requires.running in
    let stands = kept.standing running in
    let current = subst (λ (w : LoggedView g.row.D.Denot). AreCurrent w.marks) (sym c.self.view_is) c.requires.current in
    let empty = ap (λ (w : LoggedView g.row.D.Denot). w.log.tail) c.self.view_is ∙ c.requires.empty in
    let now = c.place_changed.new.disk in
    let only = subst (λ (d : g.row.D.Denot). OnlyPlaces g.D.Disk.content g.D.Disk.may_leave g.D.Disk.moment g.D.Disk.left_since g.D.Disk.faults g.row.SLOTS v.marks d now) c.as_mut.ensures.value c.place_changed.ensures.only in
    subst (λ (w : LoggedView g.row.D.Denot). LeavesOnlyImages g.D.Disk.moment g.D.Disk.left_since w.disk now (MayHaveAll w)) c.self.view_is (placed-moments g.D.Disk.content g.D.Disk.may_leave g.D.Disk.moment g.D.Disk.left_since g.D.Disk.faults g.row.SLOTS v kept stands c.self.invariant.own current empty now only)

pub returns-clause-others : goal.returns-clause-others
returns-clause-others g c =
    let now = c.place_changed.new.disk in
    subst (λ (w : LoggedView g.row.D.Denot). KeepsOthers g.D.Disk.content g.D.Disk.may_leave w.disk now Pages) c.self.view_is
    (subst (λ (d : g.row.D.Denot). KeepsOthers g.D.Disk.content g.D.Disk.may_leave d now Pages) c.as_mut.ensures.value c.place_changed.ensures.only.keeps)

pub returns-then-is_err-clause-others : goal.returns-then-is_err-clause-others
returns-then-is_err-clause-others g c =
    let now = c.place_changed.new.disk in
    subst (λ (w : LoggedView g.row.D.Denot). KeepsOthers g.D.Disk.content g.D.Disk.may_leave w.disk now Pages) c.self.view_is
    (subst (λ (d : g.row.D.Denot). KeepsOthers g.D.Disk.content g.D.Disk.may_leave d now Pages) c.as_mut.ensures.value c.place_changed.ensures.only.keeps)
