use Rattle.std.proofs.Common.{◌≡◌, Err, ap, subst, sym, ◌∙◌}
use Rattle.log_record.specs.declared.record.Record.TheVariants.{OfCells}
use Rattle.ship_stream.specs.Runs.{RecordRun}
use Rattle.log_checker.specs.Taking.{TakesBoth}
use Rattle.log_checker.proofs.RecordLaws.{within_cells, beside_next, took_one}
use Rattle.log_checker.proofs.feeding.take_next.Goals as goal

pub returns-in-Ok-take_of_cells-clause-took : goal.returns-in-Ok-take_of_cells-clause-took
returns-in-Ok-take_of_cells-clause-took g c is = record {
  taken = record {
    r = OfCells c.in-Some.rec;
    next = λ rs are. let n = c.in-Some.ensures.next rs are in (n.0, n.1, n.2);
    place = c.in-Some.ensures.place;
    fewer = c.in-Some.ensures.fewer;
    fits = c.in-Ok.ensures.unfit.0 (λ e. cc e);
    took = c.in-Ok.ensures.ok;
  };
  told = c.in-Ok-take_of_cells.ensures.told;
  beside = beside_next {slots = g.row.SLOTS} c.args.replay.now c.take_of_cells.new.self c.args.tally.now c.take_of_cells-in-Some.new.self c.args.records.now c.next_of_cells.new.self (OfCells c.in-Some.rec) c.in-Ok.ensures.ok c.take_of_cells-in-Some.ensures.sized c.take_of_cells-in-Some.ensures.counted
      c.in-Some.ensures.fewer c.requires.beside;
}

pub returns-in-Err-Unfit-clause-damaged : goal.returns-in-Err-Unfit-clause-damaged
returns-in-Err-Unfit-clause-damaged g c at is =
    let same : c.in-Some.at ≡ at = cc is in
    record {
      r = OfCells c.in-Some.rec;
      next = λ rs are. let n = c.in-Some.ensures.next rs are in (n.0, n.1, sym same ∙ n.3);
      unfit = λ fits. c.in-Err-Unfit.ensures.unfit.1 fits (ap Err c.in-Err-Unfit.field-0-is);
    }

pub returns-in-None-clause-took : goal.returns-in-None-clause-took
returns-in-None-clause-took g c is =
    subst (λ (v : RecordRun). TakesBoth g.row.SLOTS c.args.replay.now c.take_other.new.replay c.args.tally.now c.take_other.new.tally v c.take_other.new.records) c.in-None.ensures.kept
    (c.take_other.ensures.took is)
