use Rattle.std.proofs.Common.{◌≡◌}
use Rattle.brahma_shell.specs.Running.{OnlyPeeks, HasSeenLive}
use Rattle.brahma_shell.proofs.running.stored_ids.Given as goal

abbrev pub invariant-ids : goal.invariant-ids
invariant-ids g l = record {
  of : l.main.table ≡ l.store.table;
  only : OnlyPeeks l.fn.main.view l.main.view;
  seen : HasSeenLive l.main.view l.before l.stored.items;
}
