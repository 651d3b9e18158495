use Rattle.std.proofs.Common.{◌≡◌, take}
use Rattle.disk_model.specs.Pending.{held_after}
use Rattle.disk_model.proofs.held.replay_past.Given as goal

abbrev pub invariant-past : goal.invariant-past
invariant-past l =
    (l.contents ≡ (held_after l.initial.contents (take l.done-index l.past)).synced)
    × (l.pending.items ≡ (held_after l.initial.contents (take l.done-index l.past)).pending)
