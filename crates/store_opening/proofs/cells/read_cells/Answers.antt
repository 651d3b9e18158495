use Rattle.std.proofs.Common.{◌∙◌}
use Rattle.store_opening.proofs.LookLaws.{and_look}
use Rattle.store_opening.proofs.cells.read_cells.Goals as goal

pub returns-in-Ok-clause-read : goal.returns-in-Ok-clause-read
returns-in-Ok-clause-read g c image reads = c.in-Ok.ensures.read image (λ a. (c.cells_at_once.ensures.looks.keeps a).same ∙ reads a)

pub returns-in-Ok-None-clause-refused : goal.returns-in-Ok-None-clause-refused
returns-in-Ok-None-clause-refused g c image reads = c.in-Err-read_in_order.ensures.refused image (λ a. (c.cells_at_once.ensures.looks.keeps a).same ∙ reads a)

pub returns-in-Ok-clause-looks : goal.returns-in-Ok-clause-looks
returns-in-Ok-clause-looks g c = and_look g.D.Disk.content c.cells_at_once.ensures.looks c.read_in_order.ensures.looks
