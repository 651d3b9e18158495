use Rattle.std.proofs.Common.{◌≡◌, Some, sym, ◌∙◌}
use Rattle.disk_model.specs.declared.area.Area.TheVariants.{Super}
use Rattle.disk_model.specs.Areas.{in_area}
use Rattle.gate_log.specs.OnDisk.{named_by}
use Rattle.store_opening.proofs.LookLaws.{and_look, settled_kept, was_ok}
use Rattle.store_opening.proofs.StoreLaws.{told_of}
use Rattle.store_opening.proofs.at_once.cells_at_once.Goals as goal

pub returns-in-Ok-clause-read : goal.returns-in-Ok-clause-read
returns-in-Ok-clause-read g c image reads =
    let named = told_of (g.D.Disk.content c.sync_areas.new.disk Super) (in_area image Super) (λ bytes. c.in-Ok-Some.field-0 ≡ named_by bytes)
    ((c.sync_areas.ensures.looks.keeps Super).same ∙ reads Super) c.in-Ok-Some.ensures.named in
    let naming : named_by image.super_area ≡ Some c.in-Ok-Some.area = sym named ∙ c.in-Ok-Some.field-0-is in
    c.in-Ok.ensures.read image (λ a. (c.named_area.ensures.looks.keeps a).same ∙ (c.sync_areas.ensures.looks.keeps a).same ∙ reads a) naming

pub returns-in-Ok-clause-looks : goal.returns-in-Ok-clause-looks
returns-in-Ok-clause-looks g c = and_look g.D.Disk.content (and_look g.D.Disk.content c.sync_areas.ensures.looks c.named_area.ensures.looks) c.replay_in_place.ensures.looks

pub returns-in-Err-Disk-clause-looks : goal.returns-in-Err-Disk-clause-looks
returns-in-Err-Disk-clause-looks g c = and_look g.D.Disk.content (and_look g.D.Disk.content c.sync_areas.ensures.looks c.named_area.ensures.looks) c.replay_in_place.ensures.looks

pub returns-in-Err-Memory-clause-looks : goal.returns-in-Err-Memory-clause-looks
returns-in-Err-Memory-clause-looks g c = and_look g.D.Disk.content (and_look g.D.Disk.content c.sync_areas.ensures.looks c.named_area.ensures.looks) c.replay_in_place.ensures.looks

pub returns-in-Err-Damaged-clause-looks : goal.returns-in-Err-Damaged-clause-looks
returns-in-Err-Damaged-clause-looks g c = and_look g.D.Disk.content (and_look g.D.Disk.content c.sync_areas.ensures.looks c.named_area.ensures.looks) c.replay_in_place.ensures.looks

pub returns-in-Err-UnknownVersion-clause-looks : goal.returns-in-Err-UnknownVersion-clause-looks
returns-in-Err-UnknownVersion-clause-looks g c = and_look g.D.Disk.content (and_look g.D.Disk.content c.sync_areas.ensures.looks c.named_area.ensures.looks) c.replay_in_place.ensures.looks

pub returns-in-Ok-clause-settled : goal.returns-in-Ok-clause-settled
returns-in-Ok-clause-settled g c =
    settled_kept g.D.Disk.content c.replay_in_place.ensures.looks (settled_kept g.D.Disk.content c.named_area.ensures.looks (was_ok c.sync_areas.result _ (sym c.is_err.ensures.value ∙ c.if-is_err.false) c.sync_areas.ensures.settled))

pub returns-in-Err-Damaged-clause-settled : goal.returns-in-Err-Damaged-clause-settled
returns-in-Err-Damaged-clause-settled g c =
    settled_kept g.D.Disk.content c.replay_in_place.ensures.looks (settled_kept g.D.Disk.content c.named_area.ensures.looks (was_ok c.sync_areas.result _ (sym c.is_err.ensures.value ∙ c.if-is_err.false) c.sync_areas.ensures.settled))

pub returns-in-Err-UnknownVersion-clause-settled : goal.returns-in-Err-UnknownVersion-clause-settled
returns-in-Err-UnknownVersion-clause-settled g c =
    settled_kept g.D.Disk.content c.replay_in_place.ensures.looks (settled_kept g.D.Disk.content c.named_area.ensures.looks (was_ok c.sync_areas.result _ (sym c.is_err.ensures.value ∙ c.if-is_err.false) c.sync_areas.ensures.settled))

pub returns-in-Ok-None-clause-settled : goal.returns-in-Ok-None-clause-settled
returns-in-Ok-None-clause-settled g c = settled_kept g.D.Disk.content c.named_area.ensures.looks (was_ok c.sync_areas.result _ (sym c.is_err.ensures.value ∙ c.if-is_err.false) c.sync_areas.ensures.settled)
