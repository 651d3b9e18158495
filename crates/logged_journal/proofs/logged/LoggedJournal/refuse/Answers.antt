use Rattle.std.proofs.Common.{◌≡◌, ◌≤◌, ⊎_elim, None, sym, ap, ◌∙◌, subst, arith, rules}
use Rattle.plain_model.specs.declared.calls.Call.TheVariants as call
use Rattle.plain_model.specs.Machine.{transaction_of}
use Rattle.plain_model.specs.History.{end_of}
use Rattle.core_store.specs.Frames.{Agree, HasPages}
use Rattle.core_store.specs.JournalView.{cells_of}
use Rattle.core_store.specs.Limited.{pages_for_call}
use Rattle.logged_journal.specs.Inside.{view_of}
use Rattle.logged_journal.specs.View.{LoggedView}
use Rattle.logged_journal.specs.Calls.{DoesCall, IsGranted, KeepsFrames, GoesOn}
use Rattle.logged_journal.proofs.CalledJournals.{of-journal, called-slots, kept-refused, goes-on-refused}
use Rattle.logged_journal.proofs.logged.LoggedJournal.refuse.Given.{Over}
use Rattle.logged_journal.proofs.logged.LoggedJournal.refuse.Goals as goal

pub apply-requires : goal.apply-requires
apply-requires g c =
    let small : g.row.SLOTS ≤ 14 = ⊎_elim (λ six. omega arith) (λ fourteen. omega arith) c.self.invariant.size in (
      search rules,
      (
        search rules,
        (
          c.requires.client,
          (
            c.requires.in_range,
            (
              subst (λ (v : LoggedView g.row.D.Denot). c.args.call.now ≡ call.Abort → transaction_of (end_of v.journal.history).state c.args.pass ≡ None) (sym c.self.view_is) c.requires.no_abort,
              (
                subst (λ (v : LoggedView g.row.D.Denot). Agree (cells_of v.journal) c.args.held.now) (sym c.self.view_is) c.requires.agree,
                subst (λ (v : LoggedView g.row.D.Denot). HasPages v.journal.history.ids (pages_for_call v.journal c.args.pass c.args.call.now) c.args.held.now) (sym c.self.view_is) c.requires.ready,
              ),
            ),
          ),
        ),
      ),
    )

-- what it was
abbrev before : (g : Over) (c : goal.After-apply g) → LoggedView g.row.D.Denot
before g c =
    let s = c.self.inside in
    view_of s

does : (g : Over) (c : goal.After-apply g) → DoesCall g.row.SLOTS c.self.inside.journal c.apply.new.self c.args.pass c.args.call.now c.apply.result
does g c =
    let e = c.apply.ensures in
    record {
      full = e.full;
      marked = λ is. (e.marked is).0;
      memory = λ is. (e.memory is).0;
      entry = e.entry;
      machine = e.machine;
      noted = e.noted;
      collector = e.collector;
      cursor = e.cursor;
      opening = e.opening;
      unmarked = e.unmarked;
    }

refused : (g : Over) (c : goal.After-apply g) → IsGranted c.self.inside.journal c.args.pass c.args.call.now → ⊥
refused g c granted = c.requires.refused (subst (λ (v : LoggedView g.row.D.Denot). IsGranted v.journal c.args.pass c.args.call.now) c.self.view_is granted)

pub invariant_of-self : goal.invariant_of-self
invariant_of-self g c =
    let running = ap (λ (v : LoggedView g.row.D.Denot). v.failed) c.self.view_is ∙ c.requires.running in
    record {
      size = c.self.invariant.size;
      own = called-slots g.row.SLOTS c.self.inside.journal c.apply.new.self c.args.pass c.args.call.now c.apply.result (does g c) ∙ c.self.invariant.own;
      spelling = c.self.invariant.spelling;
      counted = c.self.invariant.counted;
      kept = kept-refused g.D.Disk.may_leave g.row.SLOTS (before g c) c.apply.new.self c.args.pass c.args.call.now c.apply.result c.self.invariant.kept running (refused g c) (does g c);
    }

pub returns-clause-journal : goal.returns-clause-journal
returns-clause-journal g c = of-journal g.row.SLOTS c.self.inside.journal c.apply.new.self c.args.pass c.args.call.now c.apply.result (does g c)

pub returns-clause-does : goal.returns-clause-does
returns-clause-does g c = subst (λ (v : LoggedView g.row.D.Denot). DoesCall g.row.SLOTS v.journal c.apply.new.self c.args.pass c.args.call.now c.apply.result) c.self.view_is (does g c)

pub returns-clause-frames : goal.returns-clause-frames
returns-clause-frames g c =
    let e = c.apply.ensures in
    subst (λ (v : LoggedView g.row.D.Denot). KeepsFrames v.journal c.apply.new.self c.args.held.now c.apply.new.held) c.self.view_is
    (record { pages = e.pages; agree = e.agree; elsewhere = e.elsewhere })

pub returns-clause-same : goal.returns-clause-same
returns-clause-same g c =
    let e = c.apply.ensures in
    λ is. ⊎_elim (λ full. (e.marked full).1) (λ memory. (e.memory memory).1) is

pub returns-clause-goes_on : goal.returns-clause-goes_on
returns-clause-goes_on g c =
    let v = before g c in
    let running = ap (λ (w : LoggedView g.row.D.Denot). w.failed) c.self.view_is ∙ c.requires.running in
    subst (λ (w : LoggedView g.row.D.Denot). GoesOn w (record v { journal = c.apply.new.self })) c.self.view_is
    (goes-on-refused g.D.Disk.may_leave g.row.SLOTS v c.apply.new.self c.args.pass c.args.call.now c.apply.result c.self.invariant.kept running (refused g c) (does g c))
