use Rattle.std.proofs.Common.{[], ◌∷◌, ◌++◌}
use Rattle.log_record.specs.declared.record.Record.TheVariants.{OfCells}
use Rattle.log_checker.specs.Tallies.{Tells, IsStep}
use Rattle.log_checker.proofs.TallyLaws.{on_ok, tells_step}
use Rattle.log_checker.proofs.tally.Tally.take_of_cells.Goals as goal

pub returns-clause-told : goal.returns-clause-told
returns-clause-told g c =
    let r = c.args.r.now in
    let t = c.args.self.now in
    let u = c.step.new.self in
    λ base rs told.
    on_ok c.step.result (IsStep g.row.SLOTS r t u) (Tells base (rs ++ OfCells r ∷ []) u) (λ step. tells_step {slots = g.row.SLOTS} base rs t u told r c.know.ensures c.requires.spelled step) c.step.ensures.ok
