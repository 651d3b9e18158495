use Rattle.standby.proofs.PageFacts.{AreTypedBelow}
use Rattle.standby.proofs.settling.know_pages.Given as goal

abbrev pub invariant-loop-number : goal.invariant-loop-number
invariant-loop-number g l = AreTypedBelow l.pages l.number
