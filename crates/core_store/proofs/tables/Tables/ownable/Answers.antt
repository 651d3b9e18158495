use Rattle.std.proofs.Common.{ℕ, sym, subst}
use Rattle.plain_model.specs.declared.calls.Call.TheVariants.{SetPay}
use Rattle.plain_model.specs.declared.calls.Reply.{Reply}
use Rattle.core_store.specs.Plans.{IsRefused}
use Rattle.core_store.specs.Views.{view_of}
use Rattle.core_store.proofs.MapLaws.{if_err}
use Rattle.core_store.proofs.PlanRefusals.{refuses-set, refuses-set_busy}
use Rattle.core_store.proofs.tables.Tables.ownable.Goals as goal

pub returns-in-Some-clause-err : goal.returns-in-Some-clause-err
returns-in-Some-clause-err g c = λ value.
    let v = view_of c.args.self.now in
    let b = c.in-Some.ensures in
    subst (λ (x : Reply). IsRefused g.row.SLOTS v c.args.pass (SetPay c.args.r value) x) (sym b.1) (refuses-set_busy g.row.SLOTS v c.args.pass c.args.r value c.in_ok-id.id b.0 c.in_ok-id.ensures.ok b.2)

pub returns-in_err-id-clause-err : goal.returns-in_err-id-clause-err
returns-in_err-id-clause-err g c =
    let v = view_of c.args.self.now in
    let P = λ (reply : Reply). (value : ℕ) → IsRefused g.row.SLOTS v c.args.pass (SetPay c.args.r value) reply in
    if_err c.from_residual.result _ P c.from_residual.ensures.1 (λ y k. subst P (sym k) (λ value. refuses-set g.row.SLOTS v c.args.pass c.args.r value c.in_err-id.field-0.0 c.in_err-id.ensures.err))
