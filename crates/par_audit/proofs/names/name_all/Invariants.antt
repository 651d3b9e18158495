use Rattle.std.proofs.Common.{◌≡◌, ℕ, ◌<◌, length, take}
use Rattle.par_audit.specs.Marks.{has_id, is_named}
use Rattle.par_audit.proofs.names.name_all.Given as goal

abbrev pub invariant-loop-id : goal.invariant-loop-id
invariant-loop-id g l = record {
  len : length l.table ≡ length l.fn.table;
  each : (id : ℕ) → id < length l.fn.table → has_id l.table id ≡ is_named l.cells (take l.id-index l.piece) id;
}
