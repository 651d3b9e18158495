use Rattle.std.proofs.Common.{length, arith}
use Rattle.core_store.proofs.PagePlaces.{held-within}
use Rattle.core_store.proofs.three.place_of.Goals as goal

-- after the loop no cell has the id, though one of them does
pub returns-clause-within : goal.returns-clause-within
returns-clause-within g c = held-within c.args.frames.now (length c.args.frames.now) c.args.page c.requires.there (λ j d l. c.loop-place.invariant j d (omega arith))

pub returns-clause-page : goal.returns-clause-page
returns-clause-page g c = λ d. let no = returns-clause-within g c in absurd (omega (arith, no))
