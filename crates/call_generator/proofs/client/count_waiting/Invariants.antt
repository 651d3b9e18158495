use Rattle.std.proofs.Common.{◌≡◌, ◌≤◌, length, take}
use Rattle.call_generator.specs.Generator.{waiting}
use Rattle.call_generator.proofs.client.count_waiting.Given as goal

abbrev pub invariant-loop-client : goal.invariant-loop-client
invariant-loop-client l = record {
  counted : l.count ≡ length (waiting (take l.client-index l.clients));
  few : l.count ≤ l.client-index;
}
