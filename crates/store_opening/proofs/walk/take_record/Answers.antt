use Rattle.std.proofs.Common.{arith}
use Rattle.store_opening.proofs.walk.take_record.Goals as goal

pub take_change-requires : goal.take_change-requires
take_change-requires g c = (omega arith, (c.requires.count, (c.requires.same, (c.requires.as_many, c.in-Some.ensures.some g.row.SLOTS))))
