use Rattle.std.proofs.Common.{Some, ap, sym, subst, ◌∙◌}
use Rattle.std.specs.Prelude.{Option}
use Rattle.plain_model.specs.declared.write.Write.{Write}
use Rattle.core_store.specs.declared.want.Work.{Work}
use Rattle.core_store.specs.Logged.{pages_for_undo}
use Rattle.core_store.specs.Work.{IsWorkIn, pages_of_work}
use Rattle.core_store.proofs.PlanUndo.{pages-undo, next-noted, undo-work}
use Rattle.core_store.proofs.WorkLaws.{no-work, works-undo}
use Rattle.core_store.proofs.tables.Tables.undo_work.Goals as goal

pub work_of_undo-requires : goal.work_of_undo-requires
work_of_undo-requires g c = let w = c.requires.standing in (undo-work w.1 c.args.pass c.in-Some.replaced (sym c.last_replaced.ensures ∙ c.in-Some.is)).1

pub returns-in-Some-clause-works : goal.returns-in-Some-clause-works
returns-in-Some-clause-works g c = λ core h.
    subst (λ (w : Work). IsWorkIn g.row.SLOTS c.args.self.now.ids core.cells (Some w)) (sym c.work_of_undo.ensures) (works-undo h c.args.pass c.in-Some.replaced (sym c.last_replaced.ensures ∙ c.in-Some.is))

pub returns-in-Some-clause-pages : goal.returns-in-Some-clause-pages
returns-in-Some-clause-pages g c = λ core h.
    ap (λ (w : Work). pages_of_work core.cells (Some w)) c.work_of_undo.ensures
    ∙ (sym (pages-undo core.cells c.in-Some.replaced) ∙ ap (λ (o : Option Write). pages_for_undo core.cells o) (sym (next-noted h c.args.pass ∙ (sym c.last_replaced.ensures ∙ c.in-Some.is))))

pub returns-in-None-clause-works : goal.returns-in-None-clause-works
returns-in-None-clause-works g c = λ core h. no-work g.row.SLOTS c.args.self.now.ids core.cells

pub returns-in-None-clause-pages : goal.returns-in-None-clause-pages
returns-in-None-clause-pages g c = λ core h. ap (λ (o : Option Write). pages_for_undo core.cells o) (sym (next-noted h c.args.pass ∙ (sym c.last_replaced.ensures ∙ c.in-None.is)))
