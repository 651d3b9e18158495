use Rattle.std.proofs.Common.{map, ◌∙◌}
use Rattle.cell_page.specs.Stored.{cell_of}
use Rattle.par_audit.specs.Marks.{is_reached}
use Rattle.par_audit.proofs.GarbageLaws.{unreached-garbage}
use Rattle.par_audit.proofs.recounting.garbage_by_pieces.Goals as goal

pub returns : goal.returns
returns g c =
    let stored = map cell_of c.args.cells.now in
    let table = c.in_ok-unreached.unreached.items in
    let unreached = c.in_ok-unreached.ensures.unreached in
    (is_reached stored table, unreached.reach, (rw (c.as_slice.ensures.value) at c.garbage_in.ensures) ∙ unreached-garbage stored table c.args.ids unreached.objects)
