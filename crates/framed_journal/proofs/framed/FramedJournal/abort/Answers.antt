use Rattle.std.proofs.Common.{◌≡◌, ◌∙◌, Ok, None, sym, arith}
use Rattle.std.specs.Prelude.{IsErrOf}
use Rattle.std.proofs.lemmas.Option.{MatchOption-from_none}
use Rattle.logged_journal.specs.declared.failed.FailedCall.{FailedCall}
use Rattle.logged_journal.specs.declared.failed.Stopped.{Stopped}
use Rattle.plain_model.specs.declared.calls.Call.TheVariants.{Abort}
use Rattle.plain_model.specs.declared.calls.Reply.TheVariants.{Done}
use Rattle.plain_model.specs.declared.calls.Entry.TheVariants.{Call}
use Rattle.framed_journal.proofs.StopLaws.{run-none, run-more, not-stopped}
use Rattle.framed_journal.proofs.UndoLaws.{undone-none, undone-more, left-undone, undone-all, undone-entries, undoes-one, ends-abort}
use Rattle.framed_journal.proofs.framed.FramedJournal.abort.Goals as goal

pub steps-init : goal.steps-init
steps-init g c = record { undone = undone-none g.row.SLOTS c.args.client c.args.self.now.journal c.requires; run = run-none c.args.self.now }

pub steps-preserved : goal.steps-preserved
steps-preserved g c =
    let told = c.in_ok-abort_step.ensures in
    let j = c.steps.self in
    let k = c.abort_step.new.self in
    let ran = not-stopped j c.in_ok-abort_step.field-0 (k ≡ j) told.stopped in
    let one = undoes-one g.row.SLOTS c.args.client j.journal k.journal (rw c.in-Undone.is at told.does) in
    record {
      undone = undone-more g.row.SLOTS c.args.client c.args.self.now.journal j.journal k.journal c.steps.invariant.undone one;
      run = run-more c.args.self.now j k c.steps.invariant.run ran told.goes_on told.untouched;
    }

pub steps-smaller : goal.steps-smaller
steps-smaller g c =
    let told = c.in_ok-abort_step.ensures in
    let j = c.steps.self in
    let k = c.abort_step.new.self in
    let does = undoes-one g.row.SLOTS c.args.client j.journal k.journal (rw c.in-Undone.is at told.does) in
    let one = left-undone c.args.client j.journal k.journal does.some does.entry c.steps.invariant.undone.active in
    omega (arith, one)

pub returns-in-Ended-clause-stopped : goal.returns-in-Ended-clause-stopped
returns-in-Ended-clause-stopped g c =
    let i = c.args.self.now in
    let j = c.steps.self in
    let k = c.abort_step.new.self in
    let ran = not-stopped j c.in_ok-abort_step.field-0 (k ≡ j) c.in_ok-abort_step.ensures.stopped in
    let none : i.failed ≡ None = sym c.steps.invariant.run.failed ∙ ran in
    MatchOption-from_none i.failed (λ (f : FailedCall). IsErrOf {T = Unit {0}} {E = Stopped} (Ok tt) (record { faults = f.faults }) × (k ≡ i)) none

pub returns-in-Ended-clause-entries : goal.returns-in-Ended-clause-entries
returns-in-Ended-clause-entries g c =
    let i = c.args.self.now.journal in
    let j = c.steps.self.journal in
    let k = c.abort_step.new.self.journal in
    let ends = ends-abort g.row.SLOTS c.args.client j k (rw c.in-Ended.is at c.in_ok-abort_step.ensures.does) in
    undone-entries g.row.SLOTS c.args.client i j k c.steps.invariant.undone ends (Call c.args.client Abort Done) ends.entry

pub returns-in-Ended-clause-steps : goal.returns-in-Ended-clause-steps
returns-in-Ended-clause-steps g c =
    let i = c.args.self.now.journal in
    let j = c.steps.self.journal in
    let k = c.abort_step.new.self.journal in
    let ends = ends-abort g.row.SLOTS c.args.client j k (rw c.in-Ended.is at c.in_ok-abort_step.ensures.does) in
    undone-all g.row.SLOTS c.args.client i j k c.steps.invariant.undone ends
