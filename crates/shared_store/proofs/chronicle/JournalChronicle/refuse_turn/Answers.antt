use Rattle.std.proofs.Common.{refl, subst, sym, ◌∙◌}
use Rattle.logged_journal.specs.View.{LoggedView}
use Rattle.logged_journal.specs.Calls.{KeepsDisk}
use Rattle.shared_store.specs.Chronicles.Steps.{entered_by_refusal, marked_by_refusal, no_page, GoesOnWith}
use Rattle.shared_store.specs.Chronicles.Inside.{IsChronicle}
use Rattle.shared_store.proofs.Chronicles.Upkeeps.{Kept, refused}
use Rattle.shared_store.proofs.chronicle.JournalChronicle.refuse_turn.Given.{Over}
use Rattle.shared_store.proofs.chronicle.JournalChronicle.refuse_turn.Goals as goal

kept : (g : Over) (c : goal.After-self-2-1 g) → Kept g.row.SLOTS c.as_mut-logged.result.now c.refuse_turn-answer.new.self (entered_by_refusal c.refuse_turn-answer.result) (marked_by_refusal c.refuse_turn-answer.result)
kept g c =
    let e = c.refuse_turn-answer.ensures in
    refused g.D.Disk.faults g.row.SLOTS c.as_mut-logged.result.now c.refuse_turn-answer.new.self c.refuse_turn-answer.result
    (record {
      own = c.journal.ensures.slots;
      owned = c.journal-2.ensures.slots;
      before = (subst (λ v. IsChronicle g.row.SLOTS v) (sym c.as_mut-logged.ensures.value) c.self.invariant.kept);
      stopped = e.stopped;
      only_stopped = e.only_stopped;
      marked = e.marked;
      memory = e.memory;
      never = e.never;
      told = e.told;
      free = λ is. let f = e.free is in rw f.2 refl;
    })

pub invariant_of-self : goal.invariant_of-self
invariant_of-self g c = let all = kept g c in record { size = c.self.invariant.size; kept = all.chronicle; counted = c.count_notes-self-inside.ensures }

pub returns-clause-chronicle : goal.returns-clause-chronicle
returns-clause-chronicle g c =
    let all = kept g c in
    subst (λ (v : LoggedView g.row.D.Denot). GoesOnWith g.row.SLOTS no_page v c.refuse_turn-answer.new.self (entered_by_refusal c.refuse_turn-answer.result) (marked_by_refusal c.refuse_turn-answer.result)) (c.as_mut-logged.ensures.value ∙ c.self.view_is) all.goes
