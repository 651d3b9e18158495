-- What the plan of a commit does, from the tables alone.
use Rattle.std.proofs.Common.{ℕ, List, sym, subst, Some}
use Rattle.plain_model.specs.declared.calls.Call.{Call as TransactionCall}
use Rattle.plain_model.specs.declared.calls.Reply.TheVariants as reply
use Rattle.log_record.specs.declared.cell_record.CellRecord.TheVariants as logs
use Rattle.core_store.specs.declared.three.HeldFrame.{HeldFrame}
use Rattle.core_store.specs.declared.plan.Plan.TheVariants as plan
use Rattle.core_store.specs.Tables.{TablesView}
use Rattle.core_store.specs.Stands.{Answers}
use Rattle.core_store.specs.Steps.{Ends}
use Rattle.core_store.specs.Ready.{Does}
use Rattle.core_store.proofs.EndLaws.{answers-commit}
use Rattle.core_store.proofs.HandlerLaws.{serves}
use Rattle.core_store.proofs.PlanLaws.{granted-commit}

module _ {slots : ℕ} (v : TablesView) (held : List (HeldFrame slots)) (pass : ℕ) where
  pub does-commit : (w : TablesView) → Ends v w pass → Does v w held held pass plan.Commit (record { reply = reply.Done; logged = Some (logs.Commit pass) })
  does-commit w ends c k core h agree =
      let g = granted-commit h pass k.1 in
      subst (λ (c : TransactionCall). Answers slots v w core held held pass c reply.Done (Some (logs.Commit pass))) (sym k.0) (answers-commit slots v w core held pass g.kept g.transaction h agree (serves g) ends)
