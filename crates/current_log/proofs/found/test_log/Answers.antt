use Rattle.std.proofs.Common.{ℕ, List, Option, Err, ap, subst, sym}
use Rattle.std.specs.Prelude.{IfSome}
use Rattle.opened_images.specs.LogRecords.{IsDamagedLog}
use Rattle.store_opening.specs.declared.open_refusal.OpenRefusal.{OpenRefusal}
use Rattle.store_opening.proofs.LookLaws.{and_look}
use Rattle.current_log.specs.Current.{RefusesLogIn}
use Rattle.current_log.proofs.FoundLaws.{refused_later}
use Rattle.current_log.proofs.found.test_log.Goals as goal

pub returns-clause-refused : goal.returns-clause-refused
returns-clause-refused g c =
    subst (λ (e : OpenRefusal). IfSome (g.D.Disk.content c.args.disk.now c.args.area) (RefusesLogIn g.row.SLOTS c.args.area e)) (sym c.refusal_in.ensures.value)
    (refused_later (g.D.Disk.content c.args.disk.now c.args.area) g.row.SLOTS c.args.area c.in-Err-test_batches.refusal
    (λ place is. subst (λ (o : Option (List ℕ)). IfSome o (λ bytes. IsDamagedLog g.row.SLOTS bytes place)) (c.test_first.ensures.looks.keeps c.args.area).same
    (c.in-Err-test_batches.ensures.damaged place (ap Err is))))

pub returns-clause-looks : goal.returns-clause-looks
returns-clause-looks g c = and_look g.D.Disk.content c.test_first.ensures.looks c.test_batches.ensures.looks

pub test_first-requires-clause-window : goal.test_first-requires-clause-window
test_first-requires-clause-window g c κs within = c.new-window.ensures (g.D.Disk.content c.args.disk.now c.args.area)

pub returns-in-Ok-test_batches-clause-looks : goal.returns-in-Ok-test_batches-clause-looks
returns-in-Ok-test_batches-clause-looks g c = and_look g.D.Disk.content c.test_first.ensures.looks c.test_batches.ensures.looks
