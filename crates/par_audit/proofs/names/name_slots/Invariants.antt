use Rattle.std.proofs.Common.{◌≡◌, ℕ, ◌<◌, length, take}
use Rattle.std.specs.Prelude.{◌||◌}
use Rattle.par_audit.specs.Marks.{has_id, is_in}
use Rattle.par_audit.proofs.names.name_slots.Given as goal

abbrev pub invariant-loop-target : goal.invariant-loop-target
invariant-loop-target l = record {
  len : length l.table ≡ length l.fn.table;
  each : (id : ℕ) → id < length l.fn.table → has_id l.table id ≡ (has_id l.fn.table id || is_in (take l.target-index l.slots) id);
}
