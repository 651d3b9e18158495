use Rattle.std.proofs.Common.{◌≡◌, ◌≤◌, length, take, vec_capacity}
use Rattle.green_walk.specs.Greening.{copied_slots}
use Rattle.green_walk.specs.Linked.{AreRowsOf, slots_of}
use Rattle.green_walk.proofs.copied_slots.push_all.Given as goal

abbrev pub invariant-loop-place : goal.invariant-loop-place
invariant-loop-place g l = record {
  slots : slots_of l.ids.items l.rows.items ≡ copied_slots (take l.place l.red.copies);
  long : AreRowsOf g.row.SLOTS l.rows.items;
  ids : length l.ids.items ≡ l.place;
  rows : length l.rows.items ≡ l.place;
  ids_room : vec_capacity l.initial.ids ≤ vec_capacity l.ids;
  rows_room : vec_capacity l.initial.rows ≤ vec_capacity l.rows;
}
