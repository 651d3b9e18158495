use Rattle.std.proofs.Common.{◌≡◌, ℕ, ◌+◌, replicate}
use Rattle.std.specs.Prelude.{IsSome}
use Rattle.plain_model.specs.declared.calls.Entry.TheVariants.{Undo}
use Rattle.plain_model.specs.Machine.{transaction_of}
use Rattle.plain_model.specs.History.{end_of, left_to_undo}
use Rattle.brahma_shell.specs.Log.{StaysRunning}
use Rattle.brahma_shell.specs.Growth.{GrowsBy}
use Rattle.brahma_shell.proofs.perform.undo_all.Given as goal

abbrev pub invariant-steps : goal.invariant-steps
invariant-steps g l = record {
  undone : (k : ℕ) × GrowsBy l.fn.store.journal l.store.journal (replicate k (Undo l.client)) × (left_to_undo (end_of l.store.journal.history) l.client + k ≡ left_to_undo (end_of l.fn.store.journal.history) l.client);
  goes_on : StaysRunning g.D.Disk.faults l.fn.store l.store;
  active : IsSome (transaction_of (end_of l.store.journal.history).state l.client);
}

abbrev pub decreases-steps : goal.decreases-steps
decreases-steps g l = left_to_undo (end_of l.store.journal.history) l.client
