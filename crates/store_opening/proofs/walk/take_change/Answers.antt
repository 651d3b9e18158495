use Rattle.std.proofs.Common.{◌≡◌, ◌*◌, ℕ, length, Err, ap, sym, subst, ◌∙◌}
use Rattle.log_record.specs.Changes.{change_record}
use Rattle.log_record.specs.declared.cell_record.CellRecord.{CellRecord}
use Rattle.log_record.specs.declared.record.Record.TheVariants.{OfCells}
use Rattle.log_replay.specs.Replays.{Replaying, IsWithin}
use Rattle.log_replay.specs.declared.refusals.TakeRefusal.TheVariants.{Unfit}
use Rattle.page_marks.specs.Marks.{AreMarkedBy}
use Rattle.store_opening.proofs.TakeLaws.{none_taken, first_within}
use Rattle.store_opening.proofs.walk.take_change.Goals as goal

pub take-requires : goal.take-requires
take-requires g c =
    subst (λ (r : CellRecord). IsWithin (8 * length c.args.walk.now.marks) r) (sym c.record.ensures)
    (subst (λ (n : ℕ). IsWithin (8 * n) (change_record c.args.change)) (sym c.requires.as_many) (c.in-Ok.ensures.unfit.0 (λ e. cc e)).0)

pub returns-in-Ok-clause-took : goal.returns-in-Ok-clause-took
returns-in-Ok-clause-took g c =
    record {
      r = OfCells (change_record c.args.change);
      begins = c.requires.begins;
      fits = c.in-Ok.ensures.unfit.0 (λ e. cc e);
      are = c.in-Ok.ensures.ok;
      marked = subst (λ (r : CellRecord). AreMarkedBy {slots = g.row.SLOTS} (OfCells r) c.args.walk.now.marks c.take.new.self) c.record.ensures (c.take.ensures g.row.SLOTS);
    }

pub returns-in-Ok-clause-within : goal.returns-in-Ok-clause-within
returns-in-Ok-clause-within g c = first_within c.args.bytes.now (OfCells (change_record c.args.change)) c.args.len c.requires.begins

pub returns-in-Ok-clause-as_many : goal.returns-in-Ok-clause-as_many
returns-in-Ok-clause-as_many g c = (c.take.ensures g.row.SLOTS).as_many ∙ c.requires.as_many ∙ ap (λ (v : Replaying). length v.skips) (sym c.in-Ok.ensures.ok)

pub returns-in-Err-clause-unfit : goal.returns-in-Err-clause-unfit
returns-in-Err-clause-unfit g c is =
    none_taken c.requires.count c.args.bytes.now (OfCells (change_record c.args.change)) c.args.len c.args.walk.now.replay c.requires.begins
    (λ fits. let same : c.in-Err.refusal ≡ Unfit = cc is in c.in-Err.ensures.unfit.1 fits (ap Err same))
