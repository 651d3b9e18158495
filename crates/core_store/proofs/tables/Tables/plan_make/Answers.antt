use Rattle.std.proofs.Common.{sym, ◌∙◌}
use Rattle.core_store.specs.Views.{view_of}
use Rattle.core_store.proofs.MapLaws.{none_from}
use Rattle.core_store.proofs.PlanRefusals.{refuses-make, refuses-make_full}
use Rattle.core_store.proofs.tables.Tables.plan_make.Goals as goal

pub returns-in-None-clause-err : goal.returns-in-None-clause-err
returns-in-None-clause-err g c = refuses-make_full g.row.SLOTS (view_of c.args.self.now) c.args.pass c.args.into (none_from _ (λ x e. c.in_default.not-Some x (c.not_running.ensures ∙ e))) c.in-None.ensures

pub returns-in-Some-clause-err : goal.returns-in-Some-clause-err
returns-in-Some-clause-err g c = refuses-make g.row.SLOTS (view_of c.args.self.now) c.args.pass c.args.into c.in-Some.reply (sym c.not_running.ensures ∙ c.in-Some.is)
