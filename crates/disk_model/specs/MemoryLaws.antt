-- What a power loss leaves of a disk in memory is what the plain definition lets it leave.
use Rattle.std.specs.Prelude.{◌≡◌, ℕ}
use Rattle.disk_model.specs.declared.area.Area.{Area}
use Rattle.disk_model.specs.Areas.{Bytes, in_area}
use Rattle.disk_model.specs.Pending.{Held, reads, after_power_loss, MayLeave}

-- whatever the number that picks: one choice of the pending steps gives what all four areas then read
abbrev pub loss-leaves-image : Type 0
loss-leaves-image = (h : Held) (pick : ℕ)
    → (b : Bytes) × MayLeave h b × ((area : Area) → reads (after_power_loss h pick) area ≡ in_area b area)
