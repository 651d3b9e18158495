use Rattle.green_walk.proofs.RowLaws.{slot-in}
use Rattle.green_walk.proofs.copied_slots.slot_in.Goals as goal

pub returns : goal.returns
returns g c d = slot-in g.row.SLOTS c.args.ids.now c.args.rows.now c.args.place d c.requires.size c.requires.long c.requires.each c.requires.within
