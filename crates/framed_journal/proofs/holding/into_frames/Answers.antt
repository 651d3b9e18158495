use Rattle.framed_journal.proofs.WholeLaws.{all-whole, all-few}
use Rattle.framed_journal.proofs.holding.into_frames.Goals as goal

pub returns-in-Some : goal.returns-in-Some
returns-in-Some g c = all-whole c.in-Some.all.items c.args.frames.items c.args.held c.in-Some.ensures.all c.in-Some.ensures.some

pub returns-in-None : goal.returns-in-None
returns-in-None g c = all-few c.args.frames.items c.args.held c.in-None.ensures.some
