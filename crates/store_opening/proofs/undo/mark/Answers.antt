use Rattle.std.proofs.Common.{sym, subst}
use Rattle.log_record.specs.declared.record.Record.{Record}
use Rattle.page_marks.specs.Marks.{AreMarkedBy}
use Rattle.store_opening.proofs.undo.mark.Goals as goal

pub returns-in-OfCells : goal.returns-in-OfCells
returns-in-OfCells g c = subst (λ (r : Record g.row.SLOTS). AreMarkedBy r c.args.marks.now c.take.new.self) (sym c.in-OfCells.is) (c.take.ensures g.row.SLOTS)
