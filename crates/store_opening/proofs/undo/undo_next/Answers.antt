use Rattle.std.proofs.Common.{rules, ℕ, ◌*◌, Option, sym, subst}
use Rattle.log_record.specs.declared.record.Record.{Record}
use Rattle.log_replay.specs.Finishes.{FinishesBy}
use Rattle.log_replay.specs.Replays.{IsWithin}
use Rattle.store_opening.proofs.UndoLaws.{step-of}
use Rattle.store_opening.proofs.undo.undo_next.Goals as goal

pub mark-requires : goal.mark-requires
mark-requires g c =
    let f = subst (λ (o : Option (Record g.row.SLOTS)). FinishesBy {slots = g.row.SLOTS} c.args.replay.now o c.finish.new.self) c.in-Ok-Some.field-0-is c.in-Ok-Some.ensures.done in
    let s = step-of c.args.replay.now c.finish.new.self c.in-Ok-Some.rec f in
    (search rules, (s.cell, s.is, subst (λ (n : ℕ). IsWithin (8 * n) s.cell) (sym c.requires.as_many) s.fits.0))
