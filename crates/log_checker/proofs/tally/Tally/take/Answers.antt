use Rattle.std.proofs.Common.{[], ◌∷◌, ◌++◌, sym, subst}
use Rattle.std.specs.Prelude.{OnOk}
use Rattle.log_record.specs.declared.record.Record.{Record}
use Rattle.log_checker.specs.Tallies.{Tells}
use Rattle.log_checker.proofs.TallyLaws.{tells_else}
use Rattle.log_checker.proofs.tally.Tally.take.Goals as goal

pub returns-in-OfCells-clause-told : goal.returns-in-OfCells-clause-told
returns-in-OfCells-clause-told g c =
    let u = c.take_of_cells.new.self in
    λ base rs told.
    subst (λ (x : Record g.row.SLOTS). OnOk c.take_of_cells.result (Tells base (rs ++ x ∷ []) u)) (sym c.in-OfCells.is) (c.take_of_cells.ensures.told base rs told)

pub returns-in-Image-clause-told : goal.returns-in-Image-clause-told
returns-in-Image-clause-told g c = λ base rs told. tells_else base rs c.args.self.now c.args.rec.now told c.in-Image.is

pub returns-in-Image-2-clause-told : goal.returns-in-Image-2-clause-told
returns-in-Image-2-clause-told g c = λ base rs told. tells_else base rs c.args.self.now c.args.rec.now told c.in-Image.is
