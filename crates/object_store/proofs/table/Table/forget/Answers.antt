use Rattle.object_store.proofs.KeptLaws.{only_cleared}
use Rattle.object_store.proofs.table.Table.forget.Goals as goal

pub returns-clause-only : goal.returns-clause-only
returns-clause-only c = only_cleared c.args.self.now c.put.new.self c.args.held.register c.put.ensures.here c.put.ensures.others
