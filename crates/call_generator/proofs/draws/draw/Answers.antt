use Rattle.std.proofs.Common.{refl}
use Rattle.call_generator.specs.Draws.{drawn}
use Rattle.call_generator.proofs.draws.draw.Goals as goal

pub returns-clause-drawn : goal.returns-clause-drawn
unfolding drawn
returns-clause-drawn c = refl
