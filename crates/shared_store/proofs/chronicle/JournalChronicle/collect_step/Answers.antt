use Rattle.std.proofs.Common.{subst, sym, ◌∙◌}
use Rattle.logged_journal.specs.View.{LoggedView}
use Rattle.core_store.specs.Frames.{is_held}
use Rattle.shared_store.specs.Chronicles.Steps.{entered_by_collect_step, marked_by_collect_step, GoesOnWith}
use Rattle.shared_store.specs.Chronicles.Inside.{IsChronicle}
use Rattle.shared_store.proofs.Chronicles.Goings.{Came}
use Rattle.shared_store.proofs.Chronicles.CollectorSteps.{collect-stepped}
use Rattle.shared_store.proofs.chronicle.JournalChronicle.collect_step.Given.{Over}
use Rattle.shared_store.proofs.chronicle.JournalChronicle.collect_step.Goals as goal

came : (g : Over) (c : goal.After-self-2-1 g)
    → Came g.row.SLOTS c.as_mut-logged.result.now c.collect_step-step.new.self c.args.held.now c.collect_step-step.new.held (entered_by_collect_step c.collect_step-step.result) (marked_by_collect_step c.collect_step-step.result)
came g c =
    let e = c.collect_step-step.ensures in
    collect-stepped g.row.SLOTS c.as_mut-logged.result.now c.collect_step-step.new.self c.args.held.now c.collect_step-step.new.held c.collect_step-step.result
    (record {
      own = c.journal.ensures.slots;
      owned = c.journal-2.ensures.slots;
      before = (subst (λ v. IsChronicle g.row.SLOTS v) (sym c.as_mut-logged.ensures.value) c.self.invariant.kept);
      stopped = e.stopped;
      only_stopped = e.only_stopped;
      log_marked = e.log_marked;
      does = e.does;
      goes_on = e.goes_on;
      frames = e.frames;
      same = e.same;
    })

pub invariant_of-self : goal.invariant_of-self
invariant_of-self g c = let all = came g c in record { size = c.self.invariant.size; kept = all.chronicle; counted = c.count_notes-self-inside.ensures }

pub returns-clause-chronicle : goal.returns-clause-chronicle
returns-clause-chronicle g c =
    let all = came g c in
    subst (λ (v : LoggedView g.row.D.Denot). GoesOnWith g.row.SLOTS (is_held c.args.held.now) v c.collect_step-step.new.self (entered_by_collect_step c.collect_step-step.result) (marked_by_collect_step c.collect_step-step.result)) (c.as_mut-logged.ensures.value ∙ c.self.view_is) all.goes
