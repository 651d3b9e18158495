use Rattle.std.proofs.Common.{◌≡◌, ◌≢◌, subst, sym, ◌∙◌}
use Rattle.logged_journal.specs.declared.upkeep.Upkeep.TheVariants.{DiskFault}
use Rattle.logged_journal.specs.View.{LoggedView}
use Rattle.logged_journal.specs.Upkeep.{OnlyCleans}
use Rattle.shared_store.specs.Chronicles.Steps.{entered_by_upkeep, marked_by_upkeep, no_page, GoesOnWith}
use Rattle.shared_store.specs.Chronicles.Inside.{IsChronicle}
use Rattle.shared_store.proofs.Chronicles.Upkeeps.{Kept, upkept}
use Rattle.shared_store.proofs.chronicle.JournalChronicle.clean.Given.{Over}
use Rattle.shared_store.proofs.chronicle.JournalChronicle.clean.Goals as goal

kept : (g : Over) (c : goal.After-self-2-1 g) → Kept g.row.SLOTS c.as_mut-logged.result.now c.clean-answer.new.self (entered_by_upkeep c.clean-answer.result) (marked_by_upkeep c.clean-answer.result)
kept g c =
    let e = c.clean-answer.ensures in
    upkept g.D.Disk.faults g.row.SLOTS c.as_mut-logged.result.now c.clean-answer.new.self c.clean-answer.result
    (record {
      own = c.journal.ensures.slots;
      owned = c.journal-2.ensures.slots;
      before = (subst (λ v. IsChronicle g.row.SLOTS v) (sym c.as_mut-logged.ensures.value) c.self.invariant.kept);
      stopped = e.stopped;
      only_stopped = e.only_stopped;
      marked = e.marked;
      log_marked = e.log_marked;
      memory = e.memory;
      done = λ is. let d = e.done is in d.does;
      told = λ pass is. absurd (e.never_busy pass is);
      fault = e.fault;
    })

pub invariant_of-self : goal.invariant_of-self
invariant_of-self g c = let all = kept g c in record { size = c.self.invariant.size; kept = all.chronicle; counted = c.count_notes-self-inside.ensures }

pub returns-clause-chronicle : goal.returns-clause-chronicle
returns-clause-chronicle g c =
    let all = kept g c in
    subst (λ (v : LoggedView g.row.D.Denot). GoesOnWith g.row.SLOTS no_page v c.clean-answer.new.self (entered_by_upkeep c.clean-answer.result) (marked_by_upkeep c.clean-answer.result)) (c.as_mut-logged.ensures.value ∙ c.self.view_is) all.goes

pub returns-clause-areas : goal.returns-clause-areas
returns-clause-areas g c =
    subst (λ (v : LoggedView g.row.D.Denot). OnlyCleans g.D.Disk.content g.D.Disk.may_leave v c.clean-answer.new.self c.args.page c.args.frame.now.page c.clean-answer.result) (c.as_mut-logged.ensures.value ∙ c.self.view_is) c.clean-answer.ensures.areas

pub returns-clause-count : goal.returns-clause-count
returns-clause-count g c =
    subst (λ (v : LoggedView g.row.D.Denot). c.clean-answer.result ≢ DiskFault → g.D.Disk.faults c.clean-answer.new.self.disk ≡ g.D.Disk.faults v.disk) (c.as_mut-logged.ensures.value ∙ c.self.view_is) c.clean-answer.ensures.count
