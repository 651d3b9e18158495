use Rattle.green_walk.proofs.RowLaws.{target-in}
use Rattle.green_walk.proofs.copied_slots.target_in.Goals as goal

pub returns : goal.returns
returns g c = target-in g.row.SLOTS c.args.rows.now c.args.place c.requires.size c.requires.long c.requires.within
