use Rattle.std.proofs.Common.{◌≤◌, rules}
use Rattle.framed_journal.proofs.HoldLaws.{slots-few}
use Rattle.shared_store.proofs.pass.Pass.made.Goals as goal

pub made-requires-room-J-Chronicle-2 : goal.made-requires-room-J-Chronicle-2
made-requires-room-J-Chronicle-2 g c κs = let small : g.row.SLOTS ≤ 14 = slots-few g.row.SLOTS c.self.invariant.size in search rules
