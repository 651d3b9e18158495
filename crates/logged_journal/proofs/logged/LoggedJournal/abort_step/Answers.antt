use Rattle.std.proofs.Common.{◌≡◌, ◌∙◌, ap, None, List, ◌≤◌, ⊎_elim, sym, subst, arith, rules}
use Rattle.std.specs.Prelude.{IsSome}
use Rattle.plain_model.specs.Machine.{transaction_of}
use Rattle.plain_model.specs.History.{end_of}
use Rattle.gate_log.specs.State.{LogState}
use Rattle.core_store.specs.JournalView.{cells_of}
use Rattle.core_store.specs.Frames.{Agree, HasPages}
use Rattle.core_store.specs.Logged.{pages_for_undo}
use Rattle.core_store.specs.Replaced.{next_to_restore}
use Rattle.logged_journal.specs.Inside.{view_of}
use Rattle.logged_journal.specs.View.{LoggedView}
use Rattle.page_marks.specs.declared.marks.PageMark.{PageMark}
use Rattle.logged_journal.specs.Records.{last_logged, AreMarkedAfter}
use Rattle.logged_journal.specs.Kept.{IsKept}
use Rattle.logged_journal.specs.Calls.{DoesAbortStep, KeepsFrames, GoesOn}
use Rattle.logged_journal.proofs.AbortSteps.{HasOwed, IsStepped, has-owed, last-owed, kept-stepped, goes-on-stepped}
use Rattle.logged_journal.proofs.logged.LoggedJournal.abort_step.Given.{Over}
use Rattle.logged_journal.proofs.logged.LoggedJournal.abort_step.Goals as goal
use Rattle.logged_journal.proofs.logged.LoggedJournal.abort_step.Goals.{After-abort_step-step}

-- what it was
abbrev before : (g : Over) (c : After-abort_step-step g) → LoggedView g.row.D.Denot
before g c =
    let s = c.self.inside in
    view_of s

does : (g : Over) (c : After-abort_step-step g) → DoesAbortStep g.row.SLOTS c.self.inside.journal c.abort_step-step.new.self c.args.pass c.abort_step-step.result
does g c =
    let e = c.abort_step-step.ensures in
    record {
      undone = e.undone;
      ended = e.ended;
      noted_undo = e.noted_undo;
      noted_end = e.noted_end;
      collector_undo = e.collector_undo;
      collector_end = e.collector_end;
      cursor_undo = e.cursor_undo;
      cursor_end = e.cursor_end;
      opening = e.opening;
    }

running : (g : Over) (c : After-abort_step-step g) → (before g c).failed ≡ None
running g c = search rules

active : (g : Over) (c : After-abort_step-step g) → IsSome (transaction_of (end_of c.self.inside.journal.history).state c.args.pass)
active g c = subst (λ (v : LoggedView g.row.D.Denot). IsSome (transaction_of (end_of v.journal.history).state c.args.pass)) (sym c.self.view_is) c.requires.active

owes : (g : Over) (c : After-abort_step-step g) → HasOwed c.self.inside.journal c.abort_step-step.new.self
owes g c = has-owed g.row.SLOTS c.self.inside.journal c.abort_step-step.new.self c.args.pass c.abort_step-step.result (active g c) (does g c)

stepped : (g : Over) (c : After-abort_step-step g) (marks : List PageMark) → AreMarkedAfter g.row.SLOTS (last_logged c.abort_step-step.new.self.notes) c.self.inside.marks marks
    → IsStepped g.D.Disk.may_leave g.row.SLOTS (before g c) c.abort_step-step.new.self marks c.args.pass c.abort_step-step.result
stepped g c marks marked =
    record {
      kept = c.self.invariant.kept;
      running = running g c;
      active = active g c;
      does = does g c;
      own = c.self.invariant.own;
      marked = marked;
    }

pub abort_step-step-requires : goal.abort_step-step-requires
abort_step-step-requires g c =
    let small : g.row.SLOTS ≤ 14 = ⊎_elim (λ six. omega arith) (λ fourteen. omega arith) c.self.invariant.size in (
      search rules,
      (
        search rules,
        (
          subst (λ (v : LoggedView g.row.D.Denot). IsSome (transaction_of (end_of v.journal.history).state c.args.pass)) (sym c.self.view_is) c.requires.active,
          (
            subst (λ (v : LoggedView g.row.D.Denot). Agree (cells_of v.journal) c.args.held.now) (sym c.self.view_is) c.requires.agree,
            subst (λ (v : LoggedView g.row.D.Denot). HasPages v.journal.history.ids (pages_for_undo (cells_of v.journal) (next_to_restore (end_of v.journal.history) c.args.pass)) c.args.held.now) (sym c.self.view_is) c.requires.ready,
          ),
        ),
      ),
    )

pub append_last-requires : goal.append_last-requires
append_last-requires g c =
    let d = (goal.at.append_last-requires g c).After-abort_step-step in
    let stands = c.self.invariant.kept.standing (running g d) in
    let owed = last-owed c.self.inside.journal c.abort_step-step.new.self (owes g d) in
    let ids = ap (λ h. h.ids) (owes g d).entry ∙ c.self.invariant.kept.many in
    let room = stands.room in
    let bounded = stands.bounded in
    (search rules, (c.self.invariant.size, (ids, (stands.stage, (omega (arith, owed, room), omega (arith, bounded))))))

pub invariant_of-self : goal.invariant_of-self
invariant_of-self g c =
    let d = (goal.at.invariant_of-self g c).After-abort_step-step in
    record {
      size = c.self.invariant.size;
      own = ap (λ h. h.slots) (owes g d).entry ∙ c.self.invariant.own;
      spelling = c.self.invariant.spelling;
      counted = c.self.invariant.counted;
      kept = subst (λ (log : LogState). IsKept g.D.Disk.may_leave (record (before g d) { journal = c.abort_step-step.new.self; log = log; marks = c.append_last.new.marks })) (sym c.append_last.ensures.log)
          (kept-stepped g.D.Disk.may_leave g.row.SLOTS (before g d) c.abort_step-step.new.self c.append_last.new.marks c.args.pass c.abort_step-step.result c.append_last.ensures.typed (stepped g d c.append_last.new.marks c.append_last.ensures.marks));
    }

pub returns-clause-does : goal.returns-clause-does
returns-clause-does g c =
    let d = (goal.at.returns-clause-does g c).After-abort_step-step in
    subst (λ (v : LoggedView g.row.D.Denot). DoesAbortStep g.row.SLOTS v.journal c.abort_step-step.new.self c.args.pass c.abort_step-step.result) c.self.view_is (does g d)

pub returns-clause-goes_on : goal.returns-clause-goes_on
returns-clause-goes_on g c =
    let d = (goal.at.returns-clause-goes_on g c).After-abort_step-step in
    subst (λ (w : LoggedView g.row.D.Denot). GoesOn w (record (before g d) { journal = c.abort_step-step.new.self; log = c.append_last.new.log; marks = c.append_last.new.marks })) c.self.view_is
    (subst (λ (log : LogState). GoesOn (before g d) (record (before g d) { journal = c.abort_step-step.new.self; log = log; marks = c.append_last.new.marks })) (sym c.append_last.ensures.log)
    (goes-on-stepped g.D.Disk.may_leave g.row.SLOTS (before g d) c.abort_step-step.new.self c.append_last.new.marks c.args.pass c.abort_step-step.result (stepped g d c.append_last.new.marks c.append_last.ensures.marks)))

pub returns-clause-frames : goal.returns-clause-frames
returns-clause-frames g c =
    let e = c.abort_step-step.ensures in
    subst (λ (v : LoggedView g.row.D.Denot). KeepsFrames v.journal c.abort_step-step.new.self c.args.held.now c.abort_step-step.new.held) c.self.view_is
    (record { pages = e.pages; agree = e.agree; elsewhere = e.elsewhere })
