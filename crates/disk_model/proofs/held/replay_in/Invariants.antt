use Rattle.std.proofs.Common.{◌≡◌, take}
use Rattle.disk_model.specs.Areas.{in_area, with_area}
use Rattle.disk_model.specs.Pending.{replayed}
use Rattle.disk_model.proofs.held.replay_in.Given as goal

abbrev pub invariant-steps : goal.invariant-steps
invariant-steps l = l.contents ≡ with_area l.initial.contents l.area (in_area (replayed l.initial.contents (take l.step-index l.steps)) l.area)
