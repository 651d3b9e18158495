use Rattle.std.proofs.Common.{◌≡◌, ℕ, ◌-◌, ◌<◌, ◌==◌, length, slice_index, count_by, take}
use Rattle.green_walk.proofs.counts.take_off.Given as goal

abbrev pub invariant-loop-target : goal.invariant-loop-target
invariant-loop-target g l = record {
  less : (place : ℕ) → place < length l.red.list → slice_index l.others.items place ≡ slice_index l.initial.others.items place - count_by (λ t. t == slice_index l.red.list place) (take l.target-index l.slots);
  len : length l.others.items ≡ length l.initial.others.items;
}
