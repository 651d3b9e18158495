use Rattle.std.proofs.Common.{◌≡◌, ◌≤◌, replicate, vec_capacity}
use Rattle.latch_table.specs.declared.content.Content.TheVariants.{Away}
use Rattle.latch_table.proofs.starting.away.Given as goal

-- so many are there, and there is room for the others
abbrev pub invariant-slots : goal.invariant-slots
invariant-slots g l = (l.slots.items ≡ replicate l.counter Away) × (l.fn.count ≤ vec_capacity l.slots)
