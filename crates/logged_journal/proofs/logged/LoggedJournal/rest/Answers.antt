use Rattle.std.proofs.Common.{◌≡◌, ◌≤◌, ◌⊎◌, ⊎_elim, [], true, ap, sym, ◌∙◌, subst, arith, rules}
use Rattle.core_store.specs.declared.marks.Marks.{Marks}
use Rattle.core_store.specs.JournalView.{JournalView, cells_of}
use Rattle.core_store.specs.Frames.{Agree}
use Rattle.core_store.specs.Limited.{is_past_limit}
use Rattle.core_store.specs.RoundView.{Closed}
use Rattle.core_store.specs.Steppings.{IsReadyForCollector}
use Rattle.logged_journal.specs.Inside.{view_of}
use Rattle.logged_journal.specs.View.{LoggedView}
use Rattle.logged_journal.specs.Calls.{DoesCollect, KeepsFrames, GoesOn}
use Rattle.logged_journal.proofs.Resting.{kept-same, goes-on-same, at-rest}
use Rattle.logged_journal.proofs.logged.LoggedJournal.rest.Given.{Over}
use Rattle.logged_journal.proofs.logged.LoggedJournal.rest.Goals as goal

-- what it was
abbrev before : (g : Over) (c : goal.After-collect_step g) → LoggedView g.row.D.Denot
before g c =
    let s = c.self.inside in
    view_of s

does : (g : Over) (c : goal.After-collect_step g) → DoesCollect g.row.SLOTS c.self.inside.journal c.collect_step.new.self c.collect_step.result
does g c =
    let e = c.collect_step.ensures in
    record {
      full = e.full;
      marked = λ is. (e.marked is).0;
      idle = e.idle;
      unchanged = λ is. (e.unchanged is).0;
      memory = λ is. (e.memory is).0;
      event = e.event;
      safe = e.safe;
      lower = e.lower;
      opening = e.opening;
    }

same : (g : Over) (c : goal.After-collect_step g) → (marks : Marks) × (c.collect_step.new.self ≡ record c.self.inside.journal { marks = marks })
same g c =
    at-rest g.row.SLOTS c.self.inside.journal c.collect_step.new.self c.collect_step.result (does g c)
    (subst (λ (v : LoggedView g.row.D.Denot). (is_past_limit v.journal 1 ≡ true) ⊎ ((v.journal.queue ≡ []) × (v.journal.round ≡ Closed))) (sym c.self.view_is) c.requires.none)

pub collect_step-requires : goal.collect_step-requires
collect_step-requires g c =
    let small : g.row.SLOTS ≤ 14 = ⊎_elim (λ six. omega arith) (λ fourteen. omega arith) c.self.invariant.size in (
      search rules,
      (
        search rules,
        (
          subst (λ (v : LoggedView g.row.D.Denot). Agree (cells_of v.journal) c.args.held.now) (sym c.self.view_is) c.requires.agree,
          subst (λ (v : LoggedView g.row.D.Denot). IsReadyForCollector v.journal c.args.held.now) (sym c.self.view_is) c.requires.ready,
        ),
      ),
    )

pub invariant_of-self : goal.invariant_of-self
invariant_of-self g c =
    record {
      size = c.self.invariant.size;
      own = ap (λ (j : JournalView). j.history.slots) (same g c).1 ∙ c.self.invariant.own;
      spelling = c.self.invariant.spelling;
      counted = c.self.invariant.counted;
      kept = kept-same g.D.Disk.may_leave (before g c) c.collect_step.new.self c.self.inside.journal.round (same g c).0 c.self.inside.log.room (same g c).1 (omega (arith)) c.self.invariant.kept;
    }

pub returns-clause-does : goal.returns-clause-does
returns-clause-does g c = subst (λ (v : LoggedView g.row.D.Denot). DoesCollect g.row.SLOTS v.journal c.collect_step.new.self c.collect_step.result) c.self.view_is (does g c)

pub returns-clause-goes_on : goal.returns-clause-goes_on
returns-clause-goes_on g c =
    let v = before g c in
    let running = ap (λ (w : LoggedView g.row.D.Denot). w.failed) c.self.view_is ∙ c.requires.running in
    subst (λ (w : LoggedView g.row.D.Denot). GoesOn w (record v { journal = c.collect_step.new.self })) c.self.view_is
    (goes-on-same g.D.Disk.may_leave v c.collect_step.new.self v.journal.round (same g c).0 v.log.room (same g c).1 running c.self.invariant.kept)

pub returns-clause-frames : goal.returns-clause-frames
returns-clause-frames g c =
    let e = c.collect_step.ensures in
    subst (λ (v : LoggedView g.row.D.Denot). KeepsFrames v.journal c.collect_step.new.self c.args.held.now c.collect_step.new.held) c.self.view_is
    (record { pages = e.pages; agree = e.agree; elsewhere = e.elsewhere })

pub returns-clause-same : goal.returns-clause-same
returns-clause-same g c =
    let e = c.collect_step.ensures in
    λ is. ⊎_elim (λ full. (e.marked full).1) (λ others. ⊎_elim (λ idle. (e.unchanged idle).1) (λ memory. (e.memory memory).1) others) is
