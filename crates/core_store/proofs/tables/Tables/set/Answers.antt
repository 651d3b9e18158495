use Rattle.std.proofs.Common.{Some, sym, ap, subst, rules}
use Rattle.core_store.specs.Views.{view_of}
use Rattle.core_store.proofs.HandlerLaws.{small-set, ready-set, does-set, noted-view}
use Rattle.cell_model.specs.Cells.{Cell as StoredCell}
use Rattle.log_record.specs.declared.cell_record.CellRecord.TheVariants as logs
use Rattle.plain_model.specs.declared.calls.Reply.TheVariants as reply
use Rattle.core_store.specs.declared.plan.Plan.TheVariants as plan
use Rattle.core_store.specs.Tables.{TablesView}
use Rattle.core_store.specs.Ready.{Does}
use Rattle.core_store.proofs.tables.Tables.set.Goals as goal

pub cell-requires : goal.cell-requires
cell-requires g c =
    let r = c.requires.ready in
    (search rules, (search rules, (small-set (view_of c.args.self.now) c.args.held.now c.args.pass c.args.id c.args.value r, (r.pages.0, (r.standing.core.cells, r.standing.agree)))))

pub pay-old_value-requires : goal.pay-old_value-requires
pay-old_value-requires g c = (search rules, ready-set (view_of c.args.self.now) c.args.held.now c.args.pass c.args.id c.args.value c.requires.ready)

pub returns-clause-ok : goal.returns-clause-ok
returns-clause-ok g c =
    let v = view_of c.args.self.now in
    let noted = c.in_ok-own_to_write.ensures.ok in
    let is = noted-view v (view_of c.own_to_write.new.self) c.args.pass c.args.id _ noted in
    subst (λ (w : TablesView). Does v w c.args.held.now c.pay-old_value.new.held c.args.pass (plan.Set c.args.id c.args.value) (record { reply = reply.Done; logged = Some (logs.Pay c.args.pass c.args.id c.pay-old_value.result c.args.value) })) (sym is)
    (does-set v c.args.held.now c.args.pass c.pay-old_value.new.held (view_of c.own_to_write.new.self).locks c.args.id c.args.value c.cell.result.now.payload c.pay-old_value.result (view_of c.own_to_write.new.self).owed noted.owed noted.locks c.requires.ready.pages.0
    (λ cells agree. ap (λ (x : StoredCell). x.payload) (c.cell.ensures.stored cells agree)) c.pay-old_value.ensures.old c.pay-old_value.ensures.stored)
