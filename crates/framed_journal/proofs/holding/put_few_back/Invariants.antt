use Rattle.std.proofs.Common.{◌≡◌, ◌<◌, length}
use Rattle.std.specs.List.{AllByRecursion}
use Rattle.framed_journal.specs.Holding.{PutsBack}
use Rattle.framed_journal.proofs.holding.put_few_back.Given as goal

-- those that are put back have followed the change, and the others are still held
abbrev pub invariant-frames : goal.invariant-frames
invariant-frames g l = record {
  follows : PutsBack l.fn.frames.items l.frames.items l.fn.held l.held;
  within : AllByRecursion (λ h. h.page < length l.frames.items) l.held;
  count : length l.frames.items ≡ length l.fn.frames.items;
}

abbrev pub decreases-frames : goal.decreases-frames
decreases-frames g l = length l.held
