use Rattle.std.proofs.Common.{◌≡◌, ℕ, ◌+◌, ◌*◌, List, length, inr, refl, ap, arith, length-append}
use Rattle.cell_model.specs.Cells.{Cell}
use Rattle.log_record.specs.declared.record.Record.TheVariants.{Image}
use Rattle.log_record.specs.Spelling.{record_bytes}
use Rattle.store_migration.specs.Wider.{all_wider}
use Rattle.store_migration.proofs.MadeLogs.{one_image_more, image-size}
use Rattle.store_migration.proofs.images.wide_images.Goals as goal

pub loop-number-preserved : goal.loop-number-preserved
loop-number-preserved c =
    let cells : List Cell = all_wider 8 c.args.replay.now.cells in
    let bytes : List ℕ = c.loop-number.bytes.items in
    let held = c.wide_page_of.result in
    let wrote = c.in_ok-write.ensures.ok in
    let before : length bytes ≡ 1027 * c.loop-number.number = c.loop-number.invariant.1 in
    let size = image-size {slots = 14} c.loop-number.number held cells (inr refl) c.wide_page_of.ensures.typed c.wide_page_of.ensures.holds in (
      one_image_more {slots = 14} c.loop-number.number cells bytes c.write.new.into.items held c.loop-number.invariant.0 c.wide_page_of.ensures.typed c.wide_page_of.ensures.holds wrote,
      omega (arith, before, size, ap length wrote, length-append bytes (record_bytes {slots = 14} (Image c.loop-number.number held))),
    )
