use Rattle.std.proofs.Common.{◌≤◌, subst, rules, sym, ◌∙◌}
use Rattle.logged_journal.specs.View.{LoggedView}
use Rattle.core_store.specs.Frames.{is_held}
use Rattle.shared_store.specs.Chronicles.Steps.{entered_by_abort_step, marked_by_abort_step, GoesOnWith}
use Rattle.shared_store.specs.Chronicles.Inside.{IsChronicle}
use Rattle.shared_store.proofs.Chronicles.Goings.{Came, slots-few}
use Rattle.shared_store.proofs.Chronicles.CollectorSteps.{abort-stepped}
use Rattle.shared_store.proofs.chronicle.JournalChronicle.abort_step.Given.{Over}
use Rattle.shared_store.proofs.chronicle.JournalChronicle.abort_step.Goals as goal

came : (g : Over) (c : goal.After-self-2-1 g)
    → Came g.row.SLOTS c.as_mut-logged.result.now c.abort_step-step.new.self c.args.held.now c.abort_step-step.new.held (entered_by_abort_step c.args.pass c.abort_step-step.result) (marked_by_abort_step c.abort_step-step.result)
came g c =
    let e = c.abort_step-step.ensures in
    abort-stepped g.row.SLOTS c.as_mut-logged.result.now c.abort_step-step.new.self c.args.held.now c.abort_step-step.new.held c.args.pass c.abort_step-step.result
    (record {
      own = c.journal.ensures.slots;
      owned = c.journal-2.ensures.slots;
      before = (subst (λ v. IsChronicle g.row.SLOTS v) (sym c.as_mut-logged.ensures.value) c.self.invariant.kept);
      stopped = e.stopped;
      only_stopped = e.only_stopped;
      does = e.does;
      goes_on = e.goes_on;
      frames = e.frames;
    })

pub abort_step-step-requires-after_bounds : goal.abort_step-step-requires-after_bounds
abort_step-step-requires-after_bounds g c κs within =
    let small : g.row.SLOTS ≤ 14 = slots-few g.row.SLOTS c.self.invariant.size in
    rw (c.as_mut-logged.ensures.value ∙ c.self.view_is)
    (search rules, (search rules, (c.requires.active, (c.requires.agree, c.requires.ready))))

pub invariant_of-self : goal.invariant_of-self
invariant_of-self g c = let all = came g c in record { size = c.self.invariant.size; kept = all.chronicle; counted = c.count_notes-self-inside.ensures }

pub returns-clause-chronicle : goal.returns-clause-chronicle
returns-clause-chronicle g c =
    let all = came g c in
    subst (λ (v : LoggedView g.row.D.Denot). GoesOnWith g.row.SLOTS (is_held c.args.held.now) v c.abort_step-step.new.self (entered_by_abort_step c.args.pass c.abort_step-step.result) (marked_by_abort_step c.abort_step-step.result)) (c.as_mut-logged.ensures.value ∙ c.self.view_is) all.goes

pub returns-clause-rest : goal.returns-clause-rest
returns-clause-rest g c = let all = came g c in all.rest
