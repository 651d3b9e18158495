use Rattle.std.proofs.Common.{◌≡◌, ◌∙◌, ℕ, ◌+◌, ◌≤◌, List, length, Option, None, sym, map, ap, subst, arith}
use Rattle.std.specs.Prelude.{⊤, IfSome, option_map}
use Rattle.disk_model.specs.declared.area.Area.{Area}
use Rattle.disk_model.specs.declared.area.Area.TheVariants.{Pages}
use Rattle.disk_model.specs.Areas.{Bytes}
use Rattle.disk_model.specs.Causes.{Rose}
use Rattle.disk_model.specs.Told.{KeepsOthers, IsImageBut}
use Rattle.disk_model.specs.Time.{LeavesOnlyImages}
use Rattle.disk_model.proofs.Moments.{at_exit}
use Rattle.gate_log.specs.Batches.{most_bytes}
use Rattle.gate_log.specs.State.{LogState, IsLogArea, forced, forced_area, failed, used}
use Rattle.gate_log.specs.OnDisk.{with_batch, IsOn, HasEither}
use Rattle.core_store.specs.declared.note.Note.{Note}
use Rattle.logged_journal.specs.declared.failed.FailedCall.{FailedCall}
use Rattle.logged_journal.specs.Inside.{view_of}
use Rattle.logged_journal.specs.View.{LoggedView, bytes_counted}
use Rattle.logged_journal.specs.Records.{MayHaveAll}
use Rattle.logged_journal.proofs.Commits.{pages-apart}
use Rattle.logged_journal.proofs.CommitDone.{was-ok, on-ok, on-err}
use Rattle.logged_journal.proofs.Upkeeps.{forced-moments, kept-forced, kept-stopped}
use Rattle.logged_journal.proofs.logged.LoggedJournal.force_all.Goals as goal

-- what the force leaves, from the disk that stood in the box
abbrev Runs : {D : Type 0} → (D → Area → List ℕ → Type 0) → (D → ℕ) → (D → ℕ → Bytes → Type 0) → LogState → D → D → Type 0
Runs may_leave moment left_since log now before =
    (batches : List (List ℕ)) → IsOn may_leave log before batches → used log ≤ most_bytes → LeavesOnlyImages moment left_since before now (HasEither batches (with_batch batches log.tail))

-- and in the areas but the log's
abbrev Others : {D : Type 0} → (D → Area → List ℕ → Type 0) → (D → ℕ) → (D → ℕ → Bytes → Type 0) → LogState → D → D → Type 0
Others may_leave moment left_since log now before = LeavesOnlyImages moment left_since before now (IsImageBut may_leave before log.area (λ _. ⊤))

runs : {D : Type 0} (v now : LoggedView D) → v ≡ now → now.failed ≡ None → v.failed ≡ None
runs v now is running = subst (λ w. w.failed ≡ None) (sym is) running

pub invariant_of-self : goal.invariant_of-self
invariant_of-self g c =
    let v = view_of c.self.inside in
    let running = runs v c.args.self.now c.self.view_is c.requires.running in
    let stands = c.self.invariant.kept.standing running in
    let bounded = stands.bounded in
    let run = subst (λ (d : g.row.D.Denot). Runs g.D.Disk.may_leave g.D.Disk.moment g.D.Disk.left_since c.self.inside.log c.force.new.disk d) c.as_mut.ensures.value c.force.ensures.moments in
    let others = subst (λ (d : g.row.D.Denot). Others g.D.Disk.may_leave g.D.Disk.moment g.D.Disk.left_since c.self.inside.log c.force.new.disk d) c.as_mut.ensures.value c.force.ensures.others in
    let moments = forced-moments g.D.Disk.may_leave v g.D.Disk.moment g.D.Disk.left_since c.force.new.disk stands (run stands.batches stands.on (omega (arith, bounded))) others in
    record {
      size = c.self.invariant.size;
      own = c.self.invariant.own;
      spelling = c.self.invariant.spelling;
      counted = (
        let before = c.self.invariant.counted.0 in
            let value = ap g.D.Disk.faults c.as_mut.ensures.value in
            let cause = c.force.ensures.cause.later in
            omega (arith, before, value, cause),
        let before = c.self.invariant.counted.0 in
            let value = ap g.D.Disk.faults c.as_mut.ensures.value in
            let rose = on-err c.force.result _ (sym c.is_err.ensures.value ∙ c.if-is_err.true) c.force.ensures.cause.failed in
            let told = c.faults.ensures ∙ ap g.D.Disk.faults c.deref.ensures in
            (omega (arith, before, value, rose, told), omega (arith, told)),
        λ none. absurd (cc (none)),
      );
      kept = kept-stopped g.D.Disk.may_leave v c.force.new.self c.force.new.disk c.faults.result c.self.invariant.kept running (at_exit g.D.Disk.may_leave g.D.Disk.counts_now moments);
    }

pub returns-then-is_err-clause-moments : goal.returns-then-is_err-clause-moments
returns-then-is_err-clause-moments g c =
    let v = view_of c.self.inside in
    let stands = c.self.invariant.kept.standing (runs v c.args.self.now c.self.view_is c.requires.running) in
    let bounded = stands.bounded in
    let run = subst (λ (d : g.row.D.Denot). Runs g.D.Disk.may_leave g.D.Disk.moment g.D.Disk.left_since c.self.inside.log c.force.new.disk d) c.as_mut.ensures.value c.force.ensures.moments in
    let others = subst (λ (d : g.row.D.Denot). Others g.D.Disk.may_leave g.D.Disk.moment g.D.Disk.left_since c.self.inside.log c.force.new.disk d) c.as_mut.ensures.value c.force.ensures.others in
    subst (λ (w : LoggedView g.row.D.Denot). LeavesOnlyImages g.D.Disk.moment g.D.Disk.left_since w.disk c.force.new.disk (MayHaveAll w)) c.self.view_is
    (forced-moments g.D.Disk.may_leave v g.D.Disk.moment g.D.Disk.left_since c.force.new.disk stands (run stands.batches stands.on (omega (arith, bounded))) others)

pub invariant_of-self-2 : goal.invariant_of-self-2
invariant_of-self-2 g c =
    let v = view_of c.self.inside in
    let log = c.self.inside.log in
    let running = runs v c.args.self.now c.self.view_is c.requires.running in
    let stands = c.self.invariant.kept.standing running in
    let bounded = stands.bounded in
    let succeeded = sym c.is_err.ensures.value ∙ c.if-is_err.false in
    let reached = subst (λ (d : g.row.D.Denot). IsOn g.D.Disk.may_leave log d stands.batches) (sym c.as_mut.ensures.value) stands.on in
    let keeps = subst (λ (d : g.row.D.Denot). KeepsOthers g.D.Disk.content g.D.Disk.may_leave d c.force.new.disk log.area) c.as_mut.ensures.value c.force.ensures.keeps in
    let used-is = c.used.ensures in
    let owed-is = c.bytes_owed.ensures.value in
    let peak-is = c.max-self-inside.ensures in
    record {
      size = c.self.invariant.size;
      own = c.self.invariant.own;
      spelling = c.self.invariant.spelling;
      counted = (
        let before = c.self.invariant.counted.0 in
            let value = ap g.D.Disk.faults c.as_mut.ensures.value in
            let cause = c.force.ensures.cause.later in
            omega (arith, before, value, cause),
        subst (λ (o : Option FailedCall). IfSome o (λ f. Rose c.self.inside.opened f.faults × (f.faults ≤ g.D.Disk.faults c.force.new.disk))) (sym running) tt,
        λ none.
            let before = c.self.invariant.counted.2 (running) in
            let value = ap g.D.Disk.faults c.as_mut.ensures.value in
            let kept = on-ok c.force.result _ (succeeded) c.force.ensures.cause.kept in
            omega (arith, before, value, kept),
      );
      kept = kept-forced g.D.Disk.may_leave v c.force.new.self c.force.new.disk c.len-self-inside.result c.max-self-inside.result c.self.invariant.kept running stands
          (subst (λ (l : List Note). map (λ n. n.entry) l ≡ c.self.inside.journal.history.entries) c.history.ensures.notes c.history.ensures.entries) c.history.ensures.safe
          (c.force.ensures.log ∙ was-ok c.force.result (forced log) (failed log) succeeded) (c.len-self-inside.ensures ∙ ap (λ (l : List Note). length l) c.history.ensures.notes)
          (subst (λ (w : LoggedView g.row.D.Denot). bytes_counted w + 5 ≤ most_bytes) (sym c.self.view_is) c.requires.bounded)
          (omega (arith, peak-is)) (omega (arith, peak-is, used-is, owed-is))
          (on-ok c.force.result _ succeeded (c.force.ensures.on stands.batches reached)) (on-ok c.force.result _ succeeded (c.force.ensures.images stands.batches reached (omega (arith, bounded))))
          (λ area may. (keeps Pages (pages-apart log.area stands.on.area)).no_more area may);
    }

pub returns-clause-moments : goal.returns-clause-moments
returns-clause-moments g c =
    let v = view_of c.self.inside in
    let stands = c.self.invariant.kept.standing (runs v c.args.self.now c.self.view_is c.requires.running) in
    let bounded = stands.bounded in
    let run = subst (λ (d : g.row.D.Denot). Runs g.D.Disk.may_leave g.D.Disk.moment g.D.Disk.left_since c.self.inside.log c.force.new.disk d) c.as_mut.ensures.value c.force.ensures.moments in
    let others = subst (λ (d : g.row.D.Denot). Others g.D.Disk.may_leave g.D.Disk.moment g.D.Disk.left_since c.self.inside.log c.force.new.disk d) c.as_mut.ensures.value c.force.ensures.others in
    subst (λ (w : LoggedView g.row.D.Denot). LeavesOnlyImages g.D.Disk.moment g.D.Disk.left_since w.disk c.force.new.disk (MayHaveAll w)) c.self.view_is
    (forced-moments g.D.Disk.may_leave v g.D.Disk.moment g.D.Disk.left_since c.force.new.disk stands (run stands.batches stands.on (omega (arith, bounded))) others)

pub returns-clause-bytes : goal.returns-clause-bytes
returns-clause-bytes g c =
    let log = c.self.inside.log in
    subst (λ (w : LoggedView g.row.D.Denot). g.D.Disk.content c.force.new.disk w.log.area ≡ option_map (forced_area w.log.durable w.log.tail) (g.D.Disk.content w.disk w.log.area)) c.self.view_is
    (subst (λ (d : g.row.D.Denot). g.D.Disk.content c.force.new.disk log.area ≡ option_map (forced_area log.durable log.tail) (g.D.Disk.content d log.area)) c.as_mut.ensures.value
    (on-ok c.force.result _ (sym c.is_err.ensures.value ∙ c.if-is_err.false) c.force.ensures.bytes))

pub returns-clause-area : goal.returns-clause-area
returns-clause-area g c =
    let v = view_of c.self.inside in
    let stands = c.self.invariant.kept.standing (runs v c.args.self.now c.self.view_is c.requires.running) in
    subst (λ (w : LoggedView g.row.D.Denot). IsLogArea w.log.area) c.self.view_is stands.on.area

pub returns-then-is_err-clause-area : goal.returns-then-is_err-clause-area
returns-then-is_err-clause-area g c =
    let v = view_of c.self.inside in
    let stands = c.self.invariant.kept.standing (runs v c.args.self.now c.self.view_is c.requires.running) in
    subst (λ (w : LoggedView g.row.D.Denot). IsLogArea w.log.area) c.self.view_is stands.on.area

pub returns-then-is_err-clause-others : goal.returns-then-is_err-clause-others
returns-then-is_err-clause-others g c =
    subst (λ (w : LoggedView g.row.D.Denot). KeepsOthers g.D.Disk.content g.D.Disk.may_leave w.disk c.force.new.disk w.log.area) c.self.view_is
    (subst (λ (d : g.row.D.Denot). KeepsOthers g.D.Disk.content g.D.Disk.may_leave d c.force.new.disk c.self.inside.log.area) c.as_mut.ensures.value c.force.ensures.keeps)

pub returns-clause-others : goal.returns-clause-others
returns-clause-others g c =
    subst (λ (w : LoggedView g.row.D.Denot). KeepsOthers g.D.Disk.content g.D.Disk.may_leave w.disk c.force.new.disk w.log.area) c.self.view_is
    (subst (λ (d : g.row.D.Denot). KeepsOthers g.D.Disk.content g.D.Disk.may_leave d c.force.new.disk c.self.inside.log.area) c.as_mut.ensures.value c.force.ensures.keeps)
