use Rattle.std.proofs.Common.{◌≡◌, Option, None, subst, sym, ap, ◌∙◌}
use Rattle.std.specs.Prelude.{IfSome, IsErrOf}
use Rattle.logged_journal.specs.declared.collect.CollectRefusal.TheVariants as refusal
use Rattle.logged_journal.specs.declared.failed.FailedCall.{FailedCall}
use Rattle.logged_journal.specs.View.{LoggedView}
use Rattle.core_store.specs.Frames.{is_held}
use Rattle.shared_store.specs.Chronicles.Steps.{entered_by_collect_step, marked_by_collect_step, GoesOnWith}
use Rattle.shared_store.specs.Chronicles.Inside.{IsChronicle}
use Rattle.shared_store.proofs.Chronicles.Goings.{Came}
use Rattle.shared_store.proofs.Chronicles.CollectorSteps.{collect-stepped}
use Rattle.shared_store.proofs.chronicle.JournalChronicle.collect_at.Given.{Over}
use Rattle.shared_store.proofs.chronicle.JournalChronicle.collect_at.Goals as goal

running : (g : Over) (c : goal.After-self-2-1 g) → c.as_mut-logged.result.now.failed ≡ None
running g c = ap (λ (v : LoggedView g.row.D.Denot). v.failed) (c.as_mut-logged.ensures.value ∙ c.self.view_is) ∙ c.requires.running

came : (g : Over) (c : goal.After-self-2-1 g)
    → Came g.row.SLOTS c.as_mut-logged.result.now c.collect_at-step.new.self c.args.held.now c.collect_at-step.new.held (entered_by_collect_step c.collect_at-step.result) (marked_by_collect_step c.collect_at-step.result)
came g c =
    let e = c.collect_at-step.ensures in
    collect-stepped g.row.SLOTS c.as_mut-logged.result.now c.collect_at-step.new.self c.args.held.now c.collect_at-step.new.held c.collect_at-step.result
    (record {
      own = c.journal.ensures.slots;
      owned = c.journal-2.ensures.slots;
      before = (subst (λ v. IsChronicle g.row.SLOTS v) (sym c.as_mut-logged.ensures.value) c.self.invariant.kept);
      stopped = subst (λ (o : Option FailedCall). IfSome o (λ f. (IsErrOf c.collect_at-step.result (refusal.Stopped f.faults)) × (c.collect_at-step.new.self ≡ c.as_mut-logged.result.now) × (c.collect_at-step.new.held ≡ c.args.held.now))) (sym (running g c)) tt;
      only_stopped = λ faults is. absurd (e.never_stopped faults is);
      log_marked = e.log_marked;
      does = e.does;
      goes_on = e.goes_on;
      frames = e.frames;
      same = e.same;
    })

pub invariant_of-self : goal.invariant_of-self
invariant_of-self g c = let all = came g c in record { size = c.self.invariant.size; kept = all.chronicle; counted = c.count_notes-self-inside.ensures }

pub returns-clause-chronicle : goal.returns-clause-chronicle
returns-clause-chronicle g c =
    let all = came g c in
    subst (λ (v : LoggedView g.row.D.Denot). GoesOnWith g.row.SLOTS (is_held c.args.held.now) v c.collect_at-step.new.self (entered_by_collect_step c.collect_at-step.result) (marked_by_collect_step c.collect_at-step.result)) (c.as_mut-logged.ensures.value ∙ c.self.view_is) all.goes
