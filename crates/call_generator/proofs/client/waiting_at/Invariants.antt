use Rattle.std.proofs.Common.{◌≡◌, ◌≤◌, length, take}
use Rattle.call_generator.specs.Generator.{waiting}
use Rattle.call_generator.proofs.client.waiting_at.Given as goal

abbrev pub invariant-loop-index : goal.invariant-loop-index
invariant-loop-index l = record {
  counted : l.before ≡ length (waiting (take l.index l.clients));
  within : l.before ≤ l.place;
  few : l.before ≤ l.index;
}
