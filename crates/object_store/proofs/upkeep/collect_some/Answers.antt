use Rattle.std.proofs.Common.{Ok, ap, ◌∙◌}
use Rattle.object_store.proofs.CollectLaws.{makes_none, makes_then}
use Rattle.object_store.proofs.upkeep.collect_some.Goals as goal

pub steps-init : goal.steps-init
steps-init g c = makes_none c.args.below.now c.requires.running c.requires.quiet

pub steps-preserved : goal.steps-preserved
steps-preserved g c = makes_then c.steps.made 1 c.args.below.now c.steps.below c.collect_once.new.below c.steps.invariant (c.collect_once.ensures.made (c.in-Ok-true.is ∙ ap Ok c.in-Ok-true.field-0-test))
