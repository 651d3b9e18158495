use Rattle.std.proofs.Common.{◌≡◌, ℕ, ◌<◌, length, slice_index, slice_index_or}
use Rattle.store_model.specs.Core.{Copy}
use Rattle.green_walk.specs.Judged.{pointers_of}
use Rattle.green_walk.proofs.counts.note_counted.Given as goal

abbrev pub invariant-loop-place : goal.invariant-loop-place
invariant-loop-place g l = record {
  counted : (place : ℕ) (d : ℕ × Copy) → place < l.place → slice_index l.others.items place ≡ pointers_of (slice_index_or l.red.copies place d);
  len : length l.others.items ≡ length l.initial.others.items;
}
