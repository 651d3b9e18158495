use Rattle.std.proofs.Common.{sym, ◌∙◌}
use Rattle.core_store.specs.Views.{view_of}
use Rattle.core_store.proofs.PlanRefusals.{refuses-commit}
use Rattle.core_store.proofs.tables.Tables.plan_commit.Goals as goal

pub returns-in-Some-clause-err : goal.returns-in-Some-clause-err
returns-in-Some-clause-err g c = refuses-commit g.row.SLOTS (view_of c.args.self.now) c.args.pass c.in-Some.reply (sym c.not_running.ensures ∙ c.in-Some.is)
