use Rattle.std.proofs.Common.{◌≡◌, ◌<◌, List, Bool, refl, subst, arith}
use Rattle.log_record.specs.declared.cell_record.CellRecord.TheVariants as logs
use Rattle.log_record.specs.Records.{after_cell_record}
use Rattle.core_store.specs.Logged.{logged_by_undo}
use Rattle.core_store.specs.Slots.{IsChanged}
use Rattle.core_store.specs.Views.{view_of}
use Rattle.core_store.proofs.SlotRestores.{small-value, can-change, restored-place, restores-slot, restores-payload}
use Rattle.core_store.proofs.TouchLaws.{marks-touched, view-touched}
use Rattle.core_store.proofs.tables.Tables.restore.Goals as goal

pub overflow_cast-target : goal.overflow_cast-target
overflow_cast-target g c =
    let small : c.args.replaced.value < 65536 = small-value c.args.held.now c.args.self.now.zeros.items c.args.replaced c.in-Slot.slot c.in-Slot.is c.requires.ready in
    omega arith

pub returns-in-Slot-clause-restores : goal.returns-in-Slot-clause-restores
returns-in-Slot-clause-restores g c ids cells agree can =
    let slot = c.in-Slot.slot in
    let undo = logs.Undo c.args.pass slot c.restore-change.result.old_strong c.restore-change.result.new_bit c.args.replaced.id c.into.result c.args.replaced.value in
    subst (λ (marks : List Bool). (undo ≡ logged_by_undo cells c.args.pass c.args.replaced) × IsChanged cells (after_cell_record g.row.SLOTS cells undo) c.args.held.now c.restore-change.new.held c.args.self.now.zeros.items marks)
    (marks-touched (view_of c.touch.new.self) (view_of c.args.self.now) c.restore-change.new.zeros.items _ c.touch.ensures.touched)
    (restores-slot g.row.SLOTS ids cells c.args.pass c.args.replaced slot c.in-Slot.is c.restore-change.result c.into.result c.into.ensures c.requires.size can
    (c.restore-change.ensures.changes ids cells agree (can-change g.row.SLOTS ids cells c.args.pass c.args.replaced slot c.in-Slot.is can)))

pub returns-in-Slot-clause-same : goal.returns-in-Slot-clause-same
returns-in-Slot-clause-same g c =
    let slot = c.in-Slot.slot in
    view-touched (view_of c.touch.new.self) (view_of c.args.self.now) c.restore-change.new.zeros.items c.args.pass c.args.replaced.id slot c.restore-change.result.old_target c.into.result c.restore-change.result.old_strong c.args.replaced.value c.restore-change.result.new_bit
    c.touch.ensures.touched c.into.ensures (restored-place c.args.held.now c.args.self.now.zeros.items c.args.replaced slot c.in-Slot.is c.requires.size c.requires.ready)

pub returns-in-Payload : goal.returns-in-Payload
returns-in-Payload g c = record {
  restores = λ ids cells agree can.
      restores-payload c.args.replaced c.in-Payload.is c.args.held.now c.pay.new.held c.args.self.now.zeros.items ids cells c.args.pass c.pay.result c.requires.ready can (c.pay.ensures.old cells agree) (c.pay.ensures.stored cells agree);
  same = refl;
  pages = c.pay.ensures.pages;
}
