use Rattle.std.proofs.Common.{◌≡◌, ℕ, ◌+◌, ◌-◌, ◌*◌, ◌≤◌, length, vec_capacity}
use Rattle.green_walk.specs.Linked.{AreLinked, bare}
use Rattle.green_walk.proofs.copied_slots.link_object.Given as goal

abbrev pub invariant-loop-done : goal.invariant-loop-done
invariant-loop-done g l = record {
  linked : (limit : ℕ) → length l.initial.first.items ≡ limit + 1 → AreLinked (bare l.rows) (g.row.SLOTS * (l.object + 1)) limit l.initial.first.items l.initial.next.items → AreLinked (bare l.rows) (g.row.SLOTS * l.object + (g.row.SLOTS - l.done)) limit l.first.items l.next.items;
  firsts : length l.first.items ≡ length l.initial.first.items;
  nexts : length l.next.items ≡ length l.initial.next.items;
  room : vec_capacity l.initial.next ≤ vec_capacity l.next;
}
