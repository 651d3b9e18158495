use Rattle.std.proofs.Common.{◌≡◌}
use Rattle.core_store.specs.Views.{view_of}
use Rattle.core_store.proofs.QueueLaws.{HaveJoined}
use Rattle.core_store.proofs.tables.Tables.queue_named.Given as goal

-- the first ids that were named joined where they are to, and nothing else changed
abbrev pub invariant-loop-place : goal.invariant-loop-place
invariant-loop-place g l = record {
  queue : HaveJoined (view_of l.initial.self) (view_of l.self) l.initial.self.named.ids l.place;
  named : l.self.named ≡ l.initial.self.named;
}
