use Rattle.std.proofs.Common.{◌≤◌, ◌<◌, ◌*◌, ℕ, length}
use Rattle.std.specs.Prelude.{slice_index}
use Rattle.audit_bench.proofs.plain.count_all.Given as goal

abbrev pub invariant-loop-cell : goal.invariant-loop-cell
invariant-loop-cell l = (id : ℕ) → id < length l.counts → slice_index l.counts id ≤ 14 * l.cell-index
