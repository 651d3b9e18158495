use Rattle.std.proofs.Common.{refl, arith}
use Rattle.cell_page.proofs.layout.cell_len.Goals as goal

pub returns-then-this-eq6-clause-least : goal.returns-then-this-eq6-clause-least
returns-then-this-eq6-clause-least g c = ((6, refl), omega arith, omega arith)

pub returns-else-this-eq6-clause-least : goal.returns-else-this-eq6-clause-least
returns-else-this-eq6-clause-least g c = ((7, refl), omega arith, omega arith)
