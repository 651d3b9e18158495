use Rattle.std.proofs.Common.{◌∙◌, sym}
use Rattle.disk_model.proofs.Events.{turn_here, turn_elsewhere}
use Rattle.disk_model.proofs.held.replay_in.Goals.{then-is_in+in_ok-apply, else-is_in}
use Rattle.disk_model.proofs.held.replay_in.Goals as goal

pub steps-preserved : goal.steps-preserved
steps-preserved c = elim c.if-is_in.branch [
  | then-is_in+in_ok-apply w ↦
      turn_here c.args.contents.now c.steps.contents c.if-is_in.contents c.args.area c.args.steps.now c.steps.step-index c.step-item.result c.steps-test.true c.step-item.is
      (sym c.is_in.ensures ∙ w.if-is_in.true) c.steps.invariant (w.contents-is ∙ w.in_ok-apply.ensures)
  | else-is_in w ↦
      w.contents-is
      ∙ turn_elsewhere c.args.contents.now c.steps.contents c.args.area c.args.steps.now c.steps.step-index c.step-item.result c.steps-test.true c.step-item.is
      (sym c.is_in.ensures ∙ w.if-is_in.false) c.steps.invariant
]
