use Rattle.std.proofs.Common.{sym, subst}
use Rattle.plain_model.specs.declared.calls.Call.TheVariants.{Release}
use Rattle.plain_model.specs.declared.calls.Reply.{Reply}
use Rattle.core_store.specs.Plans.{IsRefused}
use Rattle.core_store.specs.Views.{view_of}
use Rattle.core_store.proofs.MapLaws.{if_err}
use Rattle.core_store.proofs.PlanRefusals.{refuses-release, refuses-release_unshared}
use Rattle.core_store.proofs.tables.Tables.releasable.Goals as goal

pub returns-else-shares-clause-err : goal.returns-else-shares-clause-err
returns-else-shares-clause-err g c = refuses-release_unshared g.row.SLOTS (view_of c.args.self.now) c.args.pass c.args.r c.in_ok-id.id c.in_ok-id.ensures.ok (sym c.if-shares.ensures)

pub returns-in_err-id-clause-err : goal.returns-in_err-id-clause-err
returns-in_err-id-clause-err g c =
    let v = view_of c.args.self.now in
    let P = λ (reply : Reply). IsRefused g.row.SLOTS v c.args.pass (Release c.args.r) reply in
    if_err c.from_residual.result _ P c.from_residual.ensures.1 (λ y k. subst P (sym k) (refuses-release g.row.SLOTS v c.args.pass c.args.r c.in_err-id.field-0.0 c.in_err-id.ensures.err))
