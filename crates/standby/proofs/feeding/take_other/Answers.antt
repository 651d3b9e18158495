use Rattle.std.proofs.Common.{refl}
use Rattle.standby.proofs.feeding.take_other.Goals as goal

pub returns-then-is_empty-clause-none : goal.returns-then-is_empty-clause-none
returns-then-is_empty-clause-none g c is = ((λ rs are. (c.is_empty.ensures rs are).0 c.if-is_empty.true), refl)
