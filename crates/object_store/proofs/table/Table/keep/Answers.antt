use Rattle.std.proofs.Common.{refl}
use Rattle.object_store.proofs.KeptLaws.{still_put, only_put}
use Rattle.object_store.proofs.table.Table.keep.Goals as goal

pub returns-in-None : goal.returns-in-None
returns-in-None c = record {
  id = refl;
  holds = c.put.ensures.here;
  still = still_put c.args.self.now c.put.new.self c.args.register c.args.id c.requires.free c.put.ensures.others;
  only = only_put c.args.self.now c.put.new.self c.args.register c.args.id c.put.ensures.here c.put.ensures.others;
  once = λ r small e. absurd (c.find.ensures.none c.in-None.is r small e);
}
