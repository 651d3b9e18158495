use Rattle.std.proofs.Common.{refl}
use Rattle.disk_model.specs.Pending.{replayed, picked}
use Rattle.disk_model.proofs.Left.{picked_left}
use Rattle.disk_model.proofs.laws.power_losses_leave_images.Goals as goal

pub returns : goal.returns
returns c h pick = (
  replayed h.synced (picked pick h.pending),
  record { left = picked pick h.pending; are_left = picked_left pick h.pending; are = refl },
  λ area. refl,
)
