use Rattle.std.proofs.Common.{arith}
use Rattle.std.proofs.lemmas.Grind.{common_steps}
use Rattle.cell_page.specs.Format.{cell_bytes}
use Rattle.cell_page.proofs.encode.encode_cell.Goals as goal

pub returns : goal.returns
unfolding cell_bytes
returns g c = grind (arith, common_steps)
