use Rattle.std.proofs.Common.{◌≡◌, ℕ, ◌-◌, ◌<◌, length, slice_index, take}
use Rattle.store_model.specs.Verdict.{copied_names}
use Rattle.green_walk.proofs.counts.take_off_all.Given as goal

abbrev pub invariant-loop-place : goal.invariant-loop-place
invariant-loop-place g l = record {
  less : (place : ℕ) → place < length l.red.list → slice_index l.others.items place ≡ slice_index l.initial.others.items place - copied_names (take l.place l.red.copies) (slice_index l.red.list place);
  len : length l.others.items ≡ length l.initial.others.items;
}
