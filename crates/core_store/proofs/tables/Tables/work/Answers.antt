use Rattle.std.proofs.Common.{ap, sym, subst, ◌∙◌}
use Rattle.std.specs.Prelude.{Option}
use Rattle.core_store.specs.declared.want.Work.{Work}
use Rattle.core_store.specs.Work.{IsWorkIn, pages_of_work}
use Rattle.core_store.proofs.PlanRecords.{pages-work, refused-pages}
use Rattle.core_store.proofs.WorkLaws.{no-work, works-plan}
use Rattle.core_store.proofs.tables.Tables.work.Goals as goal

pub returns-in-Ok-clause-works : goal.returns-in-Ok-clause-works
returns-in-Ok-clause-works g c = λ core h.
    subst (λ (o : Option Work). IsWorkIn g.row.SLOTS c.args.self.now.ids core.cells o) (sym c.work_of.ensures) (works-plan h c.args.pass c.args.call.now c.in-Ok.plan c.requires.in_range c.in-Ok.ensures.ok)

pub returns-in-Ok-clause-pages : goal.returns-in-Ok-clause-pages
returns-in-Ok-clause-pages g c = λ core h.
    ap (λ (o : Option Work). pages_of_work core.cells o) c.work_of.ensures ∙ sym (pages-work h c.args.pass c.args.call.now c.in-Ok.plan c.in-Ok.ensures.ok)

pub returns-in-Err-clause-works : goal.returns-in-Err-clause-works
returns-in-Err-clause-works g c = λ core h. no-work g.row.SLOTS c.args.self.now.ids core.cells

pub returns-in-Err-clause-pages : goal.returns-in-Err-clause-pages
returns-in-Err-clause-pages g c = λ core h. sym (refused-pages core.moment.state core.cells c.args.pass c.args.call.now _ (c.in-Err.ensures.err core h))
