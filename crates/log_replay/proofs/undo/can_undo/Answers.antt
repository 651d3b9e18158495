use Rattle.std.proofs.Common.{◌-◌, length, arith}
use Rattle.log_replay.proofs.PlacedLaws.{values_fit}
use Rattle.log_replay.proofs.undo.can_undo.Goals as goal

pub overflow_cast-write : goal.overflow_cast-write
overflow_cast-write g c =
    let few = c.requires.few in
    let w = c.args.write.now in
    (values_fit g.row.SLOTS (length c.args.pages.now - 1) w.place w.old w.new c.in-Slot.slot c.requires.placed.place c.in-Slot.is (omega (arith, few))).0

pub overflow_cast-write-in-Slot : goal.overflow_cast-write-in-Slot
overflow_cast-write-in-Slot g c =
    let few = c.requires.few in
    let w = c.args.write.now in
    (values_fit g.row.SLOTS (length c.args.pages.now - 1) w.place w.old w.new c.in-Slot.slot c.requires.placed.place c.in-Slot.is (omega (arith, few))).1
