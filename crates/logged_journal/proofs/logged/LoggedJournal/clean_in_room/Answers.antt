use Rattle.std.proofs.Common.{◌∙◌, rules, sym, ap, subst, arith}
use Rattle.disk_model.specs.Time.{LeavesOnlyImages}
use Rattle.logged_journal.specs.View.{LoggedView}
use Rattle.logged_journal.specs.Records.{MayHaveAll}
use Rattle.logged_journal.proofs.Areas.{cleans-unforced, cleans-unplaced, cleans-all}
use Rattle.logged_journal.proofs.CommitDone.{on-ok, on-err}
use Rattle.logged_journal.proofs.CleanSteps.{fails-behind, wanted-moments, placed-moments, leads-all, cleans}
use Rattle.logged_journal.proofs.logged.LoggedJournal.clean_in_room.Goals as goal

pub force_all-requires-after_bounds : goal.force_all-requires-after_bounds
force_all-requires-after_bounds g c κs within =
    let few = c.log_wanted.ensures.few in
    let fits = c.requires.bounded in
    (search rules, (ap (λ (w : LoggedView g.row.D.Denot). w.failed) c.log_wanted.ensures.logged.same ∙ c.requires.running, omega (arith, few, fits)))

pub returns-then-is_err-clause-moments : goal.returns-then-is_err-clause-moments
returns-then-is_err-clause-moments g c =
    wanted-moments c.args.page c.args.frame.now.page c.args.self.now c.log_wanted.new.self c.requires.running c.log_wanted.ensures.logged g.D.Disk.moment g.D.Disk.left_since c.force_all.new.self.disk c.force_all.ensures.moments

pub returns-then-is_err-2-clause-fault : goal.returns-then-is_err-2-clause-fault
returns-then-is_err-2-clause-fault g c is =
    let forces = on-ok c.force_all.result _ (sym c.is_err.ensures.value ∙ c.if-is_err.false) c.force_all.ensures.done in
    let same = ap (λ (w : LoggedView g.row.D.Denot). g.D.Disk.faults w.disk) c.log_wanted.ensures.logged.same in
    let later = c.force_all.ensures.later in
    fails-behind g.D.Disk.faults c.args.self.now c.force_all.new.self c.put_in_place.new.self
    (leads-all c.args.page c.args.frame.now.page c.args.self.now c.log_wanted.new.self c.requires.running c.log_wanted.ensures.logged c.force_all.new.self forces) (omega (arith, same, later))
    (on-err c.put_in_place.result _ (sym c.is_err-2.ensures.value ∙ c.if-is_err-2.true) c.put_in_place.ensures.fault)

pub returns-then-is_err-2-clause-moments : goal.returns-then-is_err-2-clause-moments
returns-then-is_err-2-clause-moments g c =
    let forces = on-ok c.force_all.result _ (sym c.is_err.ensures.value ∙ c.if-is_err.false) c.force_all.ensures.done in
    placed-moments c.args.page c.args.frame.now.page c.args.self.now c.log_wanted.new.self c.requires.running c.log_wanted.ensures.logged c.force_all.new.self forces
    g.D.Disk.moment g.D.Disk.left_since c.put_in_place.new.self.disk c.force_all.ensures.moments c.put_in_place.ensures.moments

pub returns-clause-done : goal.returns-clause-done
returns-clause-done g c is =
    let forces = on-ok c.force_all.result _ (sym c.is_err.ensures.value ∙ c.if-is_err.false) c.force_all.ensures.done in
    let only = on-ok c.put_in_place.result _ (sym c.is_err-2.ensures.value ∙ c.if-is_err-2.false) c.put_in_place.ensures.done in
    cleans c.args.page c.args.frame.now.page c.args.self.now c.log_wanted.new.self c.requires.running c.log_wanted.ensures.logged c.force_all.new.self forces c.put_in_place.new.self c.hide.new.self only c.hide.ensures.hidden

pub returns-clause-moments : goal.returns-clause-moments
returns-clause-moments g c =
    let forces = on-ok c.force_all.result _ (sym c.is_err.ensures.value ∙ c.if-is_err.false) c.force_all.ensures.done in
    subst (λ (d : g.row.D.Denot). LeavesOnlyImages g.D.Disk.moment g.D.Disk.left_since c.args.self.now.disk d (MayHaveAll c.args.self.now)) (sym (ap (λ (w : LoggedView g.row.D.Denot). w.disk) c.hide.ensures.hidden))
    (placed-moments c.args.page c.args.frame.now.page c.args.self.now c.log_wanted.new.self c.requires.running c.log_wanted.ensures.logged c.force_all.new.self forces
    g.D.Disk.moment g.D.Disk.left_since c.put_in_place.new.self.disk c.force_all.ensures.moments c.put_in_place.ensures.moments)

-- ---- what the areas have

pub returns-then-is_err-clause-areas : goal.returns-then-is_err-clause-areas
returns-then-is_err-clause-areas g c =
    cleans-unforced g.D.Disk.content g.D.Disk.may_leave c.args.page c.args.frame.now.page c.args.self.now c.log_wanted.new.self c.log_wanted.ensures.logged c.force_all.new.self c.force_all.ensures.others

pub returns-then-is_err-2-clause-areas : goal.returns-then-is_err-2-clause-areas
returns-then-is_err-2-clause-areas g c =
    cleans-unplaced g.D.Disk.content g.D.Disk.may_leave c.args.page c.args.frame.now.page c.args.self.now c.log_wanted.new.self c.log_wanted.ensures.logged c.force_all.new.self c.put_in_place.new.self
    c.force_all.ensures.others c.put_in_place.ensures.others

pub returns-clause-areas : goal.returns-clause-areas
returns-clause-areas g c =
    let succeeded = sym c.is_err.ensures.value ∙ c.if-is_err.false in
    cleans-all g.D.Disk.content g.D.Disk.may_leave c.args.page c.args.frame.now.page c.args.self.now c.log_wanted.new.self c.log_wanted.ensures.logged c.force_all.new.self c.put_in_place.new.self c.hide.new.self
    c.force_all.ensures.area c.force_all.ensures.others c.put_in_place.ensures.others (on-ok c.force_all.result _ succeeded c.force_all.ensures.bytes)
    (ap (λ (w : LoggedView g.row.D.Denot). w.disk) c.hide.ensures.hidden)
