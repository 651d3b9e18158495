use Rattle.std.proofs.Common.{◌≡◌, ◌+◌, ◌^◌, cond, refl, sym, subst, ◌∙◌, arith}
use Rattle.std.proofs.lemmas.Result.{err_from_is_err_and}
use Rattle.brahma_shell.proofs.GcLemmas.{Collected, Collected-none, Collected-more, left-more, all-rest, all-popped, all-stops, counted-yes, counted-no, step-within, step-smaller}
use Rattle.brahma_shell.proofs.LogLemmas.{StaysRunning-same, StaysRunning-trans, LeavesLog-after}
use Rattle.brahma_shell.proofs.QuietLemmas.{quiet-none, quiet-more}
use Rattle.brahma_shell.proofs.gc.collect_all.Goals as goal
use Rattle.brahma_shell.proofs.gc.collect_all.Goals.{then-step, else-step, else-step-eq0-via-then-step-eq0+else-popped-ids, else-step-eq0-via-else-step-eq0}

pub steps-init : goal.steps-init
steps-init g c = record { so_far = Collected-none c.args.store.now.journal (g.W.Sink.written c.args.out.now); within = omega arith; in_round = λ e. let some = c.ids-ids.ensures.some in absurd (omega (arith, e, some)); quiet = λ idle. quiet-none c.args.store.now.journal idle; goes_on = StaysRunning-same g.D.Disk.faults c.args.store.now c.requires.running; later = omega arith }

pub returns-in_err-step-clause-stopped : goal.returns-in_err-step-clause-stopped
returns-in_err-step-clause-stopped g c =
    let p = err_from_is_err_and c.from_residual.result c.from_residual.ensures.1 in
    rw (p.1, p.2) (
      all-stops c.in_err-step.field-0.0 c.args.store.now.journal c.steps.store.journal c.collect_step.new.store.journal c.steps.popped _ _ _ c.steps.invariant.so_far c.in_err-step.ensures.stopped.0,
      LeavesLog-after g.D.Disk.faults c.in_err-step.field-0.0 c.args.store.now c.steps.store c.collect_step.new.store c.steps.invariant.goes_on c.in_err-step.ensures.stopped.1,
    )

pub returns-in_default-clause-ok : goal.returns-in_default-clause-ok
returns-in_default-clause-ok g c =
    let h = rw c.in_default.is at c.in_ok-step.ensures.ok in
    all-rest c.args.store.now.journal c.steps.store.journal c.collect_step.new.store.journal c.steps.popped h.0 _ _ _ c.steps.invariant.so_far c.steps.invariant.quiet h.1 h.2

pub returns-then-popped-ids-clause-ok : goal.returns-then-popped-ids-clause-ok
returns-then-popped-ids-clause-ok g c =
    let s = c.in-Some.step in
    let a = c.args.store.now.journal in
    let b = c.steps.store.journal in
    let d = c.collect_step.new.store.journal in
    let h = rw c.in-Some.is at c.in_ok-step.ensures.ok in
    let count : c.if-step.popped ≡ c.steps.popped + cond s.popped 1 0 = elim c.if-step.branch [ then-step w ↦ counted-yes _ c.steps.popped s.popped w.popped-is w.if-step.true | else-step w ↦ counted-no _ c.steps.popped s.popped w.popped-is w.if-step.false ] in
    let so_far = Collected-more a b d c.steps.popped s h.0 _ _ _ c.steps.invariant.so_far h.1 h.2 in
    all-popped a d (c.steps.popped + cond s.popped 1 0) _ _ so_far (λ idle. quiet-more b d s h.0 c.steps.popped (c.steps.popped + cond s.popped 1 0) (c.steps.invariant.quiet idle) h.1 refl) (left-more b d s h.0 h.1 ∙ c.if-step-eq0.true) (omega (arith, c.ids-ids.ensures.value, c.ids-ids.ensures.some)) (omega (arith, count, c.if-popped-ids.true, c.ids-ids.ensures.value))

pub steps-smaller : goal.steps-smaller
steps-smaller g c =
    let s = c.in-Some.step in
    let h = rw c.in-Some.is at c.in_ok-step.ensures.ok in
    let count : c.if-step.popped ≡ c.steps.popped + cond s.popped 1 0 = elim c.if-step.branch [ then-step w ↦ counted-yes _ c.steps.popped s.popped w.popped-is w.if-step.true | else-step w ↦ counted-no _ c.steps.popped s.popped w.popped-is w.if-step.false ] in
    step-smaller c.steps.store.journal c.collect_step.new.store.journal s h.0 c.steps.popped c.if-step.popped c.ids-ids.result (2 ^ 64) h.1 c.steps.invariant.within c.steps.invariant.in_round count (omega arith)

pub steps-preserved : goal.steps-preserved
steps-preserved g c =
    let s = c.in-Some.step in
    let a = c.args.store.now.journal in
    let b = c.steps.store.journal in
    let d = c.collect_step.new.store.journal in
    let h = rw c.in-Some.is at c.in_ok-step.ensures.ok in
    let count : c.if-step.popped ≡ c.steps.popped + cond s.popped 1 0 = elim c.if-step.branch [ then-step w ↦ counted-yes _ c.steps.popped s.popped w.popped-is w.if-step.true | else-step w ↦ counted-no _ c.steps.popped s.popped w.popped-is w.if-step.false ] in
    let so_far = Collected-more a b d c.steps.popped s h.0 _ _ _ c.steps.invariant.so_far h.1 h.2 in
    let left = left-more b d s h.0 h.1 in
    record {
      so_far = subst (λ k. Collected a d k (g.W.Sink.written c.args.out.now) (g.W.Sink.written c.collect_step.new.out)) (sym count) so_far;
      within = step-within b d s h.0 c.steps.popped c.if-step.popped c.ids-ids.result h.1 c.steps.invariant.within c.steps.invariant.in_round count;
      in_round = λ e. elim c.else-step-eq0.branch [ else-step-eq0-via-then-step-eq0+else-popped-ids w ↦ absurd (omega (arith, e, w.if-popped-ids.false)) | else-step-eq0-via-else-step-eq0 w ↦ omega (arith, left, w.if-step-eq0.false) ];
      quiet = λ idle. quiet-more b d s h.0 c.steps.popped c.if-step.popped (c.steps.invariant.quiet idle) h.1 count;
      goes_on = StaysRunning-trans g.D.Disk.faults c.args.store.now c.steps.store c.collect_step.new.store c.steps.invariant.goes_on c.in_ok-step.ensures.goes_on;
      later = omega (arith, c.steps.invariant.later, c.in_ok-step.ensures.later);
    }
