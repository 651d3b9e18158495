use Rattle.std.proofs.Common.{◌≡◌, ◌≢◌, ◌⊎◌, ◌≤◌, length, subst, rules, sym, ◌∙◌}
use Rattle.logged_journal.specs.declared.upkeep.Upkeep.TheVariants.{Done, LogFull, Memory, DiskFault}
use Rattle.logged_journal.specs.View.{LoggedView}
use Rattle.logged_journal.specs.Checkpoints.{ForcesImages}
use Rattle.logged_journal.specs.Upkeep.{OnlyNames, IsPastLogToTurn}
use Rattle.shared_store.specs.Chronicles.Steps.{entered_by_upkeep, marked_by_upkeep, no_page, GoesOnWith}
use Rattle.shared_store.specs.Chronicles.Inside.{IsChronicle}
use Rattle.shared_store.proofs.Chronicles.Goings.{slots-few}
use Rattle.shared_store.proofs.Chronicles.Upkeeps.{Kept, upkept}
use Rattle.shared_store.proofs.chronicle.JournalChronicle.turn.Given.{Over}
use Rattle.shared_store.proofs.chronicle.JournalChronicle.turn.Goals as goal

kept : (g : Over) (c : goal.After-self-2-1 g) → Kept g.row.SLOTS c.as_mut-logged.result.now c.turn-answer.new.self (entered_by_upkeep c.turn-answer.result) (marked_by_upkeep c.turn-answer.result)
kept g c =
    let e = c.turn-answer.ensures in
    upkept g.D.Disk.faults g.row.SLOTS c.as_mut-logged.result.now c.turn-answer.new.self c.turn-answer.result
    (record {
      own = c.journal.ensures.slots;
      owned = c.journal-2.ensures.slots;
      before = (subst (λ v. IsChronicle g.row.SLOTS v) (sym c.as_mut-logged.ensures.value) c.self.invariant.kept);
      stopped = e.stopped;
      only_stopped = e.only_stopped;
      marked = e.marked;
      log_marked = e.log_marked;
      memory = e.memory;
      done = λ is. let d = e.done is in d.does;
      told = e.told;
      fault = e.fault;
    })

pub turn-answer-requires-after_bounds : goal.turn-answer-requires-after_bounds
turn-answer-requires-after_bounds g c κs within =
    let small : g.row.SLOTS ≤ 14 = slots-few g.row.SLOTS c.self.invariant.size in
    rw (c.as_mut-logged.ensures.value ∙ c.self.view_is)
    (search rules, (search rules, (c.requires.pages, c.requires.agree)))

pub invariant_of-self : goal.invariant_of-self
invariant_of-self g c = let all = kept g c in record { size = c.self.invariant.size; kept = all.chronicle; counted = c.count_notes-self-inside.ensures }

pub returns-clause-chronicle : goal.returns-clause-chronicle
returns-clause-chronicle g c =
    let all = kept g c in
    subst (λ (v : LoggedView g.row.D.Denot). GoesOnWith g.row.SLOTS no_page v c.turn-answer.new.self (entered_by_upkeep c.turn-answer.result) (marked_by_upkeep c.turn-answer.result)) (c.as_mut-logged.ensures.value ∙ c.self.view_is) all.goes

pub returns-clause-too_long : goal.returns-clause-too_long
returns-clause-too_long g c =
    subst (λ (v : LoggedView g.row.D.Denot). c.turn-answer.result ≡ LogFull → IsPastLogToTurn g.row.SLOTS v) (c.as_mut-logged.ensures.value ∙ c.self.view_is) c.turn-answer.ensures.too_long

pub returns-clause-only_too_long : goal.returns-clause-only_too_long
returns-clause-only_too_long g c =
    subst (λ (v : LoggedView g.row.D.Denot). IsPastLogToTurn g.row.SLOTS v → (c.turn-answer.result ≡ LogFull) ⊎ (c.turn-answer.result ≡ Memory)) (c.as_mut-logged.ensures.value ∙ c.self.view_is) c.turn-answer.ensures.only_too_long

pub returns-clause-old_log : goal.returns-clause-old_log
returns-clause-old_log g c =
    subst (λ (v : LoggedView g.row.D.Denot). c.turn-answer.result ≡ Done → ForcesImages g.D.Disk.content c.args.frames.now v c.turn-answer.new.self) (c.as_mut-logged.ensures.value ∙ c.self.view_is) c.turn-answer.ensures.old_log

pub returns-clause-count : goal.returns-clause-count
returns-clause-count g c =
    subst (λ (v : LoggedView g.row.D.Denot). c.turn-answer.result ≢ DiskFault → g.D.Disk.faults c.turn-answer.new.self.disk ≡ g.D.Disk.faults v.disk) (c.as_mut-logged.ensures.value ∙ c.self.view_is) c.turn-answer.ensures.count

pub returns-clause-super_area : goal.returns-clause-super_area
returns-clause-super_area g c =
    subst (λ (v : LoggedView g.row.D.Denot). OnlyNames g.D.Disk.content g.D.Disk.may_leave v c.turn-answer.new.self c.turn-answer.result) (c.as_mut-logged.ensures.value ∙ c.self.view_is) c.turn-answer.ensures.super_area
