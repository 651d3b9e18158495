use Rattle.std.proofs.Common.{IfErr, sym, subst}
use Rattle.plain_model.specs.declared.calls.Call.{Call}
use Rattle.plain_model.specs.declared.calls.Call.TheVariants.{Read, GetPay, SetPay, Release}
use Rattle.plain_model.specs.declared.calls.Reply.{Reply}
use Rattle.core_store.specs.Plans.{IsRefused}
use Rattle.core_store.specs.Views.{view_of}
use Rattle.core_store.proofs.MapLaws.{if_err}
use Rattle.core_store.proofs.tables.Tables.plan.Goals as goal

pub returns-in_err-id-in-Read-clause-err : goal.returns-in_err-id-in-Read-clause-err
returns-in_err-id-in-Read-clause-err g c =
    let P = λ (x : Call) (reply : Reply). IsRefused g.row.SLOTS (view_of c.args.self.now) c.args.pass x reply in
    if_err c.from_residual.result _ (P c.args.call.now) c.from_residual.ensures.1
    (λ y k. subst (λ (x : Call). P x y) (sym c.in-Read.is) (subst (λ (e : Reply). P (Read c.in-Read.r c.in-Read.slot c.in-Read.into) e) (sym k) c.in_err-id-in-Read.ensures.err))

pub returns-in_err-id-in-GetPay-clause-err : goal.returns-in_err-id-in-GetPay-clause-err
returns-in_err-id-in-GetPay-clause-err g c =
    let P = λ (x : Call) (reply : Reply). IsRefused g.row.SLOTS (view_of c.args.self.now) c.args.pass x reply in
    if_err c.from_residual-in_err-id-in-GetPay.result _ (P c.args.call.now) c.from_residual-in_err-id-in-GetPay.ensures.1
    (λ y k. subst (λ (x : Call). P x y) (sym c.in-GetPay.is) (subst (λ (e : Reply). P (GetPay c.in-GetPay.r) e) (sym k) c.in_err-id-in-GetPay.ensures.err))

pub returns-in_err-id-in-Release-clause-err : goal.returns-in_err-id-in-Release-clause-err
returns-in_err-id-in-Release-clause-err g c =
    let P = λ (x : Call) (reply : Reply). IsRefused g.row.SLOTS (view_of c.args.self.now) c.args.pass x reply in
    if_err c.from_residual-in_err-id-in-Release.result _ (P c.args.call.now) c.from_residual-in_err-id-in-Release.ensures.1
    (λ y k. subst (λ (x : Call). P x y) (sym c.in-Release.is) (subst (λ (e : Reply). P (Release c.in-Release.r) e) (sym k) c.in_err-id-in-Release.ensures.err))

pub returns-in_err-id-in-SetPay-clause-err : goal.returns-in_err-id-in-SetPay-clause-err
returns-in_err-id-in-SetPay-clause-err g c =
    let P = λ (x : Call) (reply : Reply). IsRefused g.row.SLOTS (view_of c.args.self.now) c.args.pass x reply in
    if_err c.from_residual-in_err-id-in-SetPay.result _ (P c.args.call.now) c.from_residual-in_err-id-in-SetPay.ensures.1
    (λ y k. subst (λ (x : Call). P x y) (sym c.in-SetPay.is) (subst (λ (e : Reply). P (SetPay c.in-SetPay.r c.in-SetPay.value) e) (sym k) (c.in_err-id-in-SetPay.ensures.err c.in-SetPay.value)))

pub returns-in-Begin-clause-err : goal.returns-in-Begin-clause-err
returns-in-Begin-clause-err g c = subst (λ (x : Call). IfErr c.plan_begin.result (λ reply. IsRefused g.row.SLOTS (view_of c.args.self.now) c.args.pass x reply)) (sym c.in-Begin.is) c.plan_begin.ensures.err

pub returns-in-Make-clause-err : goal.returns-in-Make-clause-err
returns-in-Make-clause-err g c = subst (λ (x : Call). IfErr c.plan_make.result (λ reply. IsRefused g.row.SLOTS (view_of c.args.self.now) c.args.pass x reply)) (sym c.in-Make.is) c.plan_make.ensures.err

pub returns-in-Store-clause-err : goal.returns-in-Store-clause-err
returns-in-Store-clause-err g c = subst (λ (x : Call). IfErr c.plan_store.result (λ reply. IsRefused g.row.SLOTS (view_of c.args.self.now) c.args.pass x reply)) (sym c.in-Store.is) c.plan_store.ensures.err

pub returns-in-Commit-clause-err : goal.returns-in-Commit-clause-err
returns-in-Commit-clause-err g c = subst (λ (x : Call). IfErr c.plan_commit.result (λ reply. IsRefused g.row.SLOTS (view_of c.args.self.now) c.args.pass x reply)) (sym c.in-Commit.is) c.plan_commit.ensures.err
