use Rattle.std.proofs.Common.{sym, subst}
use Rattle.plain_model.specs.declared.calls.Call.TheVariants.{Store}
use Rattle.plain_model.specs.declared.calls.Reply.{Reply}
use Rattle.core_store.specs.Plans.{IsRefused}
use Rattle.core_store.specs.Views.{view_of}
use Rattle.core_store.proofs.PlanRefusals.{refuses-store_busy}
use Rattle.core_store.proofs.tables.Tables.plan_store.Goals as goal

pub returns-in-Some-clause-err : goal.returns-in-Some-clause-err
returns-in-Some-clause-err g c =
    let v = view_of c.args.self.now in
    let b = c.in-Some.ensures in
    subst (λ (x : Reply). IsRefused g.row.SLOTS v c.args.pass (Store c.args.r c.args.slot c.args.from) x) (sym b.1)
    (refuses-store_busy g.row.SLOTS v c.args.pass c.args.r c.args.slot c.args.from c.in-Ok.id c.in-Ok.target b.0 c.in-Ok.ensures.ok.0 c.in-Ok.ensures.ok.1 b.2)
