use Rattle.std.proofs.Common.{◌≡◌, Err, ap}
use Rattle.log_record.specs.declared.record.Record.TheVariants.{OfCells}
use Rattle.log_replay.specs.declared.refusals.TakeRefusal.TheVariants.{Unfit}
use Rattle.current_log.proofs.TestLaws.{first_within, fits_log, fits_replay, tests_on, none_fits}
use Rattle.current_log.proofs.records.test_record.Goals as goal

pub returns-in-Ok-take_of_cells-clause-fits : goal.returns-in-Ok-take_of_cells-clause-fits
returns-in-Ok-take_of_cells-clause-fits g c us is =
    record {
      r = OfCells c.in-Ok.rec;
      begins = c.in-Ok.ensures.ok;
      fits = fits_log g.row.SLOTS c.args.pages us c.args.replay.now c.in-Ok.rec is (c.in-Ok-take_of_cells.ensures.unfit.0 (λ e. cc e));
      testing = tests_on g.row.SLOTS c.args.pages us c.args.replay.now c.take_of_cells.new.self c.in-Ok.rec is c.in-Ok-take_of_cells.ensures.ok;
    }

pub returns-in-Ok-take_of_cells-clause-within : goal.returns-in-Ok-take_of_cells-clause-within
returns-in-Ok-take_of_cells-clause-within g c = first_within {slots = g.row.SLOTS} c.args.bytes.now (OfCells c.in-Ok.rec) c.in-Ok.len c.in-Ok.ensures.ok

pub returns-in-Err-take_of_cells-clause-unfit : goal.returns-in-Err-take_of_cells-clause-unfit
returns-in-Err-take_of_cells-clause-unfit g c us is e =
    none_fits {slots = g.row.SLOTS} c.requires.count c.args.pages us c.args.bytes.now (OfCells c.in-Ok.rec) c.in-Ok.len c.in-Ok.ensures.ok
    (λ fits.
    let same : c.in-Err-take_of_cells.refusal ≡ Unfit = cc e in
    c.in-Err-take_of_cells.ensures.unfit.1 (fits_replay g.row.SLOTS c.args.pages us c.args.replay.now c.in-Ok.rec is fits) (ap Err same))
