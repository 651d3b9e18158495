use Rattle.std.proofs.Common.{◌≡◌, ◌≢◌, ℕ, ◌+◌, ◌≤◌, ◌++◌, take}
use Rattle.ref_tables.specs.Refs.{entries_of, room_of}
use Rattle.store_model.specs.Steps.{held_ids}
use Rattle.core_store.specs.References.{targets_of}
use Rattle.core_store.proofs.references.note_held.Given as goal

-- what the first registers hold is named, and there is room for the others
abbrev pub invariant-loop-r : goal.invariant-loop-r
invariant-loop-r l = record {
  room : 8 ≤ room_of l.references l.pass + l.r;
  named : targets_of (entries_of l.references l.pass) ≡ targets_of (entries_of l.fn.references l.pass) ++ held_ids (take l.r l.fn.registers);
  others : (p : ℕ) → p ≢ l.pass → targets_of (entries_of l.references p) ≡ targets_of (entries_of l.fn.references p);
}
