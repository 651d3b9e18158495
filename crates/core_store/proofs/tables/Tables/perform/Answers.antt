use Rattle.std.proofs.Common.{arith}
use Rattle.core_store.specs.declared.handlers.Performed.{Performed}
use Rattle.core_store.specs.Ready.{Does, DoesPlanned}
use Rattle.core_store.specs.Views.{view_of}
use Rattle.core_store.proofs.ReplyLaws.{if_ok}
use Rattle.core_store.proofs.PlannedLaws.{does-granted, does-refused, needed-planned}
use Rattle.core_store.proofs.NeededLaws.{needed-some}
use Rattle.core_store.proofs.tables.Tables.perform.Goals as goal

pub returns-in-Ok-clause-ok : goal.returns-in-Ok-clause-ok
returns-in-Ok-clause-ok g c =
    let v = view_of c.args.self.now in
    let w = view_of c.grant.new.self in
    if_ok c.grant.result (λ (o : Performed). Does v w c.args.held.now c.grant.new.held c.args.pass c.in-Ok.plan o) (λ (o : Performed). DoesPlanned v w c.args.held.now c.grant.new.held c.args.pass c.args.planned o)
    (does-granted v w c.args.held.now c.grant.new.held c.args.pass c.args.planned c.in-Ok.plan c.in-Ok.is) c.grant.ensures.ok

pub returns-in-Ok-clause-owed : goal.returns-in-Ok-clause-owed
returns-in-Ok-clause-owed g c = λ call planned.
    let needed = needed-planned g.row.SLOTS (view_of c.args.self.now) c.args.pass call c.args.planned c.in-Ok.plan c.in-Ok.is planned in
    let owed = c.grant.ensures.owed in
    omega (arith, needed, owed)

pub returns-in-Err-clause-ok : goal.returns-in-Err-clause-ok
returns-in-Err-clause-ok g c = does-refused (view_of c.args.self.now) c.args.held.now c.args.pass c.args.planned c.in-Err.reply c.in-Err.is

pub returns-in-Err-clause-owed : goal.returns-in-Err-clause-owed
returns-in-Err-clause-owed g c = λ call planned. let n = needed-some call in omega (arith, n)
