use Rattle.std.proofs.Common.{◌≡◌, length, take}
use Rattle.restart_laws.specs.Graph.{zeros_of}
use Rattle.core_store.specs.Opening.{store_of}
use Rattle.core_store.proofs.opening.queue.Given as goal

-- those of the first cells are queued
abbrev pub invariant-loop-place : goal.invariant-loop-place
invariant-loop-place g l = l.queue ≡ record { ids = zeros_of (store_of (take l.place l.cells)); limit = length l.cells }
