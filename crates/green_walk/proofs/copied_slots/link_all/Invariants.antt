use Rattle.std.proofs.Common.{◌≡◌, ℕ, ◌+◌, ◌-◌, ◌*◌, ◌≤◌, length, vec_capacity}
use Rattle.green_walk.specs.Linked.{AreLinked, bare}
use Rattle.green_walk.proofs.copied_slots.link_all.Given as goal

abbrev pub invariant-loop-done : goal.invariant-loop-done
invariant-loop-done g l = record {
  linked : (limit : ℕ) → length l.initial.first.items ≡ limit + 1 → AreLinked (bare l.rows) (g.row.SLOTS * (length l.rows - l.done)) limit l.first.items l.next.items;
  firsts : length l.first.items ≡ length l.initial.first.items;
  nexts : length l.next.items ≡ length l.initial.next.items;
  room : vec_capacity l.initial.next ≤ vec_capacity l.next;
}
