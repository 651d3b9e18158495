use Rattle.log_replay.proofs.PageLists.{sized_over}
use Rattle.log_replay.proofs.replay.Replay.over.Goals as goal

pub invariant_of-result : goal.invariant_of-result
invariant_of-result g c = sized_over c.args.pages.items c.new.result c.new-2.result.entries c.args.skip.items c.requires.pages c.new.ensures c.requires.skip c.new-2.ensures.empty
