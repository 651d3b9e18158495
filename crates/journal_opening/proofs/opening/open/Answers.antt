use Rattle.std.proofs.Common.{ℕ, ◌≤◌, List, inl, sym, ap, ◌∙◌, subst}
use Rattle.cell_model.specs.Cells.{Cell}
use Rattle.gate_log.specs.State.{LogState, used}
use Rattle.restart_laws.specs.Graph.{zeros_of}
use Rattle.opened_store.specs.Unopened.{OnlyLooksUnlessOpen}
use Rattle.journal_opening.specs.Openings.{ReadsAs, OpensMeanwhile}
use Rattle.journal_opening.proofs.OpeningLaws.{same-history}
use Rattle.std.proofs.Common.{inr}
use Rattle.opened_store.specs.Touched.{TouchesOnly, GetsUndo}
use Rattle.journal_opening.proofs.opening.open.Goals as goal

pub returns-in-Ok-resume-clause-opened : goal.returns-in-Ok-resume-clause-opened
returns-in-Ok-resume-clause-opened g c =
    let begun = c.in-Ok.ensures.begun in
    let told = c.in-Ok-resume.ensures in
    let v = c.in-Ok-resume.journal in
    let faults = g.D.Disk.faults in
    record {
      opens = subst (λ (cells : List Cell). ReadsAs g.D.Disk.content g.row.SLOTS c.args.disk cells) (sym told.opening) begun.opens;
      history = told.history ∙ same-history c.in-Ok.opened.0.items v.journal.opening begun.pages told.opening;
      notes = told.notes;
      limits = told.limits.0;
      unmarked = (told.limits.1, told.running.1);
      collector = (told.collector.0 ∙ ap zeros_of (sym told.opening), told.collector.1);
      running = told.running.0;
      log = (ap (λ (l : LogState). l.tail) told.log.0 ∙ begun.standing.1, told.log.1 ∙ ap used (sym told.log.0));
      counted = (told.opened ∙ ap faults (sym told.disk), subst (λ (n : ℕ). faults c.args.disk ≤ n) (sym told.opened) c.in-Ok.ensures.cause.later);
      unfailed = told.opened ∙ c.in-Ok.ensures.cause.kept tt;
    }

pub returns-in-Ok-resume-clause-meanwhile : goal.returns-in-Ok-resume-clause-meanwhile
returns-in-Ok-resume-clause-meanwhile g c =
    subst (λ (d : g.row.D.Denot). OpensMeanwhile g.D.Disk.content g.D.Disk.may_leave g.D.Disk.moment g.D.Disk.left_since g.row.SLOTS c.args.disk d) (sym c.in-Ok-resume.ensures.disk) c.in-Ok.ensures.moments

pub returns-in-Err-resume-clause-refused : goal.returns-in-Err-resume-clause-refused
returns-in-Err-resume-clause-refused g c = record {
  refused = λ image reads. tt;
  for_good = λ of_store. absurd of_store;
  unwritten = inl tt;
  only_looks = subst (λ (d : g.row.D.Denot). OnlyLooksUnlessOpen g.D.Disk.content g.D.Disk.may_leave g.D.Disk.moment g.D.Disk.left_since g.row.SLOTS c.args.disk d) (sym c.in-Err-resume.ensures.back) c.open_frames.ensures.only_looks;
}

pub returns-in-Ok-resume-clause-touches : goal.returns-in-Ok-resume-clause-touches
returns-in-Ok-resume-clause-touches g c =
    let told = c.in-Ok-resume.ensures in
    subst (λ (d : g.row.D.Denot). TouchesOnly g.D.Disk.content g.D.Disk.may_leave g.D.Disk.moment g.D.Disk.left_since c.args.disk d c.in-Ok-resume.journal.log.area) (sym told.disk)
    (subst (λ (l : LogState). TouchesOnly g.D.Disk.content g.D.Disk.may_leave g.D.Disk.moment g.D.Disk.left_since c.args.disk c.open_frames.new.disk l.area) (sym told.log.0) c.in-Ok.ensures.touches)

pub returns-in-Ok-resume-clause-undo : goal.returns-in-Ok-resume-clause-undo
returns-in-Ok-resume-clause-undo g c =
    let told = c.in-Ok-resume.ensures in
    subst (λ (d : g.row.D.Denot). GetsUndo g.D.Disk.content g.row.SLOTS c.args.disk d c.in-Ok-resume.journal.log) (sym told.disk)
    (subst (λ (l : LogState). GetsUndo g.D.Disk.content g.row.SLOTS c.args.disk c.open_frames.new.disk l) (sym told.log.0) c.in-Ok.ensures.undo)

pub returns-in-Err-resume-clause-touches_refused : goal.returns-in-Err-resume-clause-touches_refused
returns-in-Err-resume-clause-touches_refused g c =
    inr (
      c.in-Ok.opened.1.area,
      subst (λ (d : g.row.D.Denot). TouchesOnly g.D.Disk.content g.D.Disk.may_leave g.D.Disk.moment g.D.Disk.left_since c.args.disk d c.in-Ok.opened.1.area) (sym c.in-Err-resume.ensures.back) c.in-Ok.ensures.touches,
    )
