use Rattle.std.proofs.Common.{◌≡◌, take}
use Rattle.core_store.specs.References.{targets_of}
use Rattle.core_store.specs.Queued.{each_once}
use Rattle.core_store.proofs.references.collect_targets.Given as goal

-- the list has the targets of the entries so far
abbrev pub invariant-loop-entry : goal.invariant-loop-entry
invariant-loop-entry l = l.targets ≡ record l.fn.targets { ids = each_once (targets_of (take l.entry-index l.entries)) }
