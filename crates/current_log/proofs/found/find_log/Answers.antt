use Rattle.std.proofs.Common.{◌≡◌, Option, Some, subst, sym, ◌∙◌}
use Rattle.std.specs.Prelude.{IfSome}
use Rattle.disk_model.specs.declared.area.Area.{Area}
use Rattle.disk_model.specs.declared.area.Area.TheVariants.{Super}
use Rattle.disk_model.specs.Areas.{in_area}
use Rattle.gate_log.specs.State.{IsLogArea}
use Rattle.gate_log.specs.OnDisk.{named_by}
use Rattle.current_log.specs.Current.{RefusesLogIn}
use Rattle.current_log.proofs.FoundLaws.{here, refuses, err_more}
use Rattle.current_log.proofs.found.find_log.Goals as goal

pub returns-clause-refused : goal.returns-clause-refused
returns-clause-refused g c =
    err_more c.test_log.result _ _
    (λ e told image reads.
    let named = subst (λ (o : Option Area). IfSome (g.D.Disk.content c.args.disk.now Super) (λ bytes. o ≡ named_by bytes)) c.in-Ok-Some.field-0-is c.in-Ok-Some.ensures.named in
    let is_log = subst (λ (o : Option Area). IfSome o IsLogArea) c.in-Ok-Some.field-0-is c.in-Ok-Some.ensures.area in
    refuses g.row.SLOTS image c.in-Ok-Some.area e is_log (sym (here (g.D.Disk.content c.args.disk.now Super) image.super_area (λ bytes. Some c.in-Ok-Some.area ≡ named_by bytes) (reads Super) named))
    (here (g.D.Disk.content c.named_area.new.disk c.in-Ok-Some.area) (in_area image c.in-Ok-Some.area) (RefusesLogIn g.row.SLOTS c.in-Ok-Some.area e)
    ((c.in-Ok-Some.ensures.looks.keeps c.in-Ok-Some.area).same ∙ reads c.in-Ok-Some.area) told))
    c.test_log.ensures.refused
