use Rattle.std.proofs.Common.{◌≡◌, Err, ap, subst, rules}
use Rattle.log_record.specs.declared.record.Record.{Record}
use Rattle.log_record.specs.declared.record.Record.TheVariants.{OfCells}
use Rattle.log_record.specs.Spelling.{BeginsWith}
use Rattle.log_replay.specs.declared.refusals.TakeRefusal.TheVariants.{Unfit}
use Rattle.opened_images.specs.LogRecords.{FitsLog}
use Rattle.current_log.proofs.TestLaws.{first_within, fits_log, fits_replay, tests_on, none_fits, image_unfit, turn_unfit}
use Rattle.current_log.proofs.records.test_of_any_kind.Goals as goal

pub returns-in_default-clause-unfit : goal.returns-in_default-clause-unfit
returns-in_default-clause-unfit g c us is e r len begins fits = c.in_default.ensures.bad r len begins

pub returns-then-page-pages-clause-unfit : goal.returns-then-page-pages-clause-unfit
returns-then-page-pages-clause-unfit g c us is e =
    none_fits c.requires.count c.args.pages us c.args.bytes.now c.in-Ok.rec c.in-Ok.len c.in-Ok.ensures.ok
    (image_unfit c.args.pages c.in-Image.page us c.in-Ok.rec c.in-Image.cells c.in-Image.is (search rules))

pub returns-in-Ok-take_of_cells-clause-fits : goal.returns-in-Ok-take_of_cells-clause-fits
returns-in-Ok-take_of_cells-clause-fits g c us is =
    record {
      r = OfCells c.in-OfCells.r;
      begins = subst (λ (r : Record g.row.SLOTS). BeginsWith c.args.bytes.now r c.in-Ok.len) c.in-OfCells.is c.in-Ok.ensures.ok;
      fits = fits_log g.row.SLOTS c.args.pages us c.args.replay.now c.in-OfCells.r is (c.in-Ok-take_of_cells.ensures.unfit.0 (λ e. cc e));
      testing = tests_on g.row.SLOTS c.args.pages us c.args.replay.now c.take_of_cells.new.self c.in-OfCells.r is c.in-Ok-take_of_cells.ensures.ok;
    }

pub returns-in-Ok-take_of_cells-clause-within : goal.returns-in-Ok-take_of_cells-clause-within
returns-in-Ok-take_of_cells-clause-within g c = first_within c.args.bytes.now c.in-Ok.rec c.in-Ok.len c.in-Ok.ensures.ok

pub returns-in-Err-clause-unfit : goal.returns-in-Err-clause-unfit
returns-in-Err-clause-unfit g c us is e =
    none_fits c.requires.count c.args.pages us c.args.bytes.now c.in-Ok.rec c.in-Ok.len c.in-Ok.ensures.ok
    (λ fits.
    let same : c.in-Err.refusal ≡ Unfit = cc e in
    c.in-Err.ensures.unfit.1 (fits_replay g.row.SLOTS c.args.pages us c.args.replay.now c.in-OfCells.r is (subst (λ (r : Record g.row.SLOTS). FitsLog c.args.pages us r) c.in-OfCells.is fits)) (ap Err same))

pub returns-in-Turn-clause-unfit : goal.returns-in-Turn-clause-unfit
returns-in-Turn-clause-unfit g c us is e =
    none_fits c.requires.count c.args.pages us c.args.bytes.now c.in-Ok.rec c.in-Ok.len c.in-Ok.ensures.ok
    (turn_unfit c.args.pages c.in-Turn.version c.in-Turn.pages us c.in-Ok.rec c.in-Turn.is)
