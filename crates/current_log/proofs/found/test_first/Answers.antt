use Rattle.std.proofs.Common.{ℕ, List, Option, Err, Vec, Global, refl, ap, subst, sym}
use Rattle.std.specs.Prelude.{IfSome}
use Rattle.gate_log.specs.CommitBytes.{IsBatchAt}
use Rattle.opened_images.specs.LogRecords.{BeginsWithBody}
use Rattle.store_opening.specs.declared.open_refusal.OpenRefusal.{OpenRefusal}
use Rattle.store_opening.specs.Firsts.{IsUnknownTurn, IsDamagedFirst}
use Rattle.store_opening.proofs.FirstLaws.{of_version, damaged_first}
use Rattle.store_opening.proofs.WalkLaws.{some_more}
use Rattle.current_log.specs.Current.{RefusesLogIn}
use Rattle.current_log.proofs.BatchLaws.{told_first}
use Rattle.current_log.proofs.FoundLaws.{refused_first}
use Rattle.current_log.proofs.found.test_first.Goals as goal

pub returns-in-Err-Damaged-clause-refused : goal.returns-in-Err-Damaged-clause-refused
returns-in-Err-Damaged-clause-refused g c =
    let batch = subst (λ (o : Option (Vec ℕ Global)). IfSome o (λ body. IfSome (g.D.Disk.content c.args.disk.now c.args.area) (IsBatchAt 0 body.items))) c.in-Ok-Some.field-0-is c.in-Ok-Some.ensures.batch in
    let damaged = subst (λ (l : List ℕ). IsDamagedFirst g.row.SLOTS c.in-Err-Damaged.at l) c.deref.ensures.value (c.in-Err-Damaged.ensures.damaged c.in-Err-Damaged.at (ap Err c.in-Err-Damaged.field-0-is)) in
    some_more (g.D.Disk.content c.args.disk.now c.args.area) (BeginsWithBody c.in-Ok-Some.body.items) (RefusesLogIn g.row.SLOTS c.args.area c.damaged.result)
    (λ area begins. subst (λ (e : OpenRefusal). RefusesLogIn g.row.SLOTS c.args.area e area) (sym c.damaged.ensures.value)
    (refl, damaged_first g.row.SLOTS c.in-Err-Damaged.at c.in-Ok-Some.body.items area damaged begins))
    (told_first (g.D.Disk.content c.args.disk.now c.args.area) c.in-Ok-Some.body.items batch c.in-Ok-Some.ensures.short)

pub returns-in-Ok-Some-clause-refused : goal.returns-in-Ok-Some-clause-refused
returns-in-Ok-Some-clause-refused g c =
    let batch = subst (λ (o : Option (Vec ℕ Global)). IfSome o (λ body. IfSome (g.D.Disk.content c.args.disk.now c.args.area) (IsBatchAt 0 body.items))) c.in-Ok-Some.field-0-is c.in-Ok-Some.ensures.batch in
    let turn = subst (λ (l : List ℕ). IsUnknownTurn g.row.SLOTS c.in-Err-UnknownVersion.byte l) c.deref.ensures.value (c.in-Err-UnknownVersion.ensures.version c.in-Err-UnknownVersion.byte (ap Err c.in-Err-UnknownVersion.field-0-is)) in
    some_more (g.D.Disk.content c.args.disk.now c.args.area) (BeginsWithBody c.in-Ok-Some.body.items) _
    (λ area begins. of_version g.row.SLOTS c.in-Err-UnknownVersion.byte c.in-Ok-Some.body.items area turn begins)
    (told_first (g.D.Disk.content c.args.disk.now c.args.area) c.in-Ok-Some.body.items batch c.in-Ok-Some.ensures.short)

pub returns-clause-refused : goal.returns-clause-refused
returns-clause-refused g c =
    subst (λ (e : OpenRefusal). IfSome (g.D.Disk.content c.args.disk.now c.args.area) (RefusesLogIn g.row.SLOTS c.args.area e)) (sym c.refusal_in.ensures.value)
    (refused_first (g.D.Disk.content c.args.disk.now c.args.area) g.row.SLOTS c.args.area c.in-Err.refusal (λ place is. c.in-Err.ensures.damaged place (ap Err is)))
