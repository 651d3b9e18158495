use Rattle.disk_model.proofs.Moments.{no_call}
use Rattle.page_area.specs.InPlace.{HasTornPages}
use Rattle.page_area.proofs.InPlaceLaws.{images_before}
use Rattle.logged_journal.proofs.placing.write_run.Goals as goal

pub returns-then-is_empty-clause-moments : goal.returns-then-is_empty-clause-moments
returns-then-is_empty-clause-moments g c = λ count long.
    no_call g.D.Disk.may_leave (HasTornPages g.D.Disk.may_leave c.args.disk.now g.row.SLOTS c.args.first count) g.D.Disk.only_now (images_before g.D.Disk.may_leave g.row.SLOTS c.args.first count c.args.disk.now)
