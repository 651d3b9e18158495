use Rattle.std.proofs.Common.{◌≡◌, length}
use Rattle.store_opening.specs.Marks.{AreIds, AreSettled}
use Rattle.store_opening.proofs.settle.walk_from.Given as goal

abbrev pub invariant-loop-turn : goal.invariant-loop-turn
invariant-loop-turn g l = record {
  settled : AreSettled l.replay.cells l.walk.settled.items;
  seen : length l.walk.seen.items ≡ length l.replay.cells;
  way : AreIds (length l.replay.cells) l.walk.way.items;
}
