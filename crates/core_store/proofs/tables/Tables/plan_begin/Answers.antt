use Rattle.std.proofs.Common.{sym, ◌∙◌}
use Rattle.core_store.specs.Views.{view_of}
use Rattle.core_store.proofs.PlanRefusals.{refuses-begin}
use Rattle.core_store.proofs.tables.Tables.plan_begin.Goals as goal

pub returns-then-has-clause-err : goal.returns-then-has-clause-err
returns-then-has-clause-err g c = refuses-begin g.row.SLOTS (view_of c.args.self.now) c.args.pass (sym c.has.ensures ∙ c.if-has.true)
