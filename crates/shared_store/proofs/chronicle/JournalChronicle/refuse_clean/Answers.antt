use Rattle.std.proofs.Common.{None, subst, sym, ◌∙◌}
use Rattle.logged_journal.specs.View.{LoggedView}
use Rattle.shared_store.specs.Chronicles.Steps.{marked_by_refusal, no_page, GoesOnWith}
use Rattle.shared_store.specs.Chronicles.Inside.{IsChronicle}
use Rattle.shared_store.proofs.Chronicles.Upkeeps.{Kept, clean-refused}
use Rattle.shared_store.proofs.chronicle.JournalChronicle.refuse_clean.Given.{Over}
use Rattle.shared_store.proofs.chronicle.JournalChronicle.refuse_clean.Goals as goal

kept : (g : Over) (c : goal.After-self-2-1 g) → Kept g.row.SLOTS c.as_mut-logged.result.now c.refuse_clean-answer.new.self None (marked_by_refusal c.refuse_clean-answer.result)
kept g c =
    let e = c.refuse_clean-answer.ensures in
    clean-refused g.D.Disk.faults g.row.SLOTS c.as_mut-logged.result.now c.refuse_clean-answer.new.self c.refuse_clean-answer.result (subst (λ v. IsChronicle g.row.SLOTS v) (sym c.as_mut-logged.ensures.value) c.self.invariant.kept) e.stopped e.full e.free

pub invariant_of-self : goal.invariant_of-self
invariant_of-self g c = let all = kept g c in record { size = c.self.invariant.size; kept = all.chronicle; counted = c.count_notes-self-inside.ensures }

pub returns-clause-chronicle : goal.returns-clause-chronicle
returns-clause-chronicle g c =
    let all = kept g c in
    subst (λ (v : LoggedView g.row.D.Denot). GoesOnWith g.row.SLOTS no_page v c.refuse_clean-answer.new.self None (marked_by_refusal c.refuse_clean-answer.result)) (c.as_mut-logged.ensures.value ∙ c.self.view_is) all.goes
