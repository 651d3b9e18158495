use Rattle.std.proofs.Common.{◌*◌, length, arith}
use Rattle.log_record.specs.Records.{record_of}
use Rattle.log_replay.proofs.TakenLaws.{one-fits, fits-all}
use Rattle.log_replay.proofs.replay.Replay.fits_cells.Goals as goal

pub fits_cell-requires : goal.fits_cell-requires
fits_cell-requires g c =
    let w = (c.concerned-ids.ensures.within (8 * length c.args.self.now.skips) c.requires.within).0 in
    let s = c.requires.sized in
    (omega arith, (omega (arith, w, s), c.requires.spelled))

pub returns-then-not-fits_cell-clause-unless : goal.returns-then-not-fits_cell-clause-unless
returns-then-not-fits_cell-clause-unless g c = λ _ fits.
    let v = c.args.self.now in
    let ids = c.concerned-ids.result in
    let w = (c.concerned-ids.ensures.within (8 * length v.skips) c.requires.within).0 in
    let s = c.requires.sized in
    c.fits_cell.ensures.unless c.if-not-fits_cell.true (one-fits v.skips v.cells (record_of c.args.r.now) ids.own (omega (arith, w, s)) fits)

pub fits_cell-requires-2 : goal.fits_cell-requires-2
fits_cell-requires-2 g c =
    let w = (c.concerned-ids.ensures.within (8 * length c.args.self.now.skips) c.requires.within).1 in
    let s = c.requires.sized in
    (omega arith, (omega (arith, w, s), c.requires.spelled))

pub returns-then-not-fits_cell-2-clause-unless : goal.returns-then-not-fits_cell-2-clause-unless
returns-then-not-fits_cell-2-clause-unless g c = λ _ fits.
    let v = c.args.self.now in
    let ids = c.concerned-ids.result in
    let w = (c.concerned-ids.ensures.within (8 * length v.skips) c.requires.within).1 in
    let s = c.requires.sized in
    c.fits_cell-2.ensures.unless c.if-not-fits_cell-2.true (one-fits v.skips v.cells (record_of c.args.r.now) ids.«from» (omega (arith, w, s)) fits)

pub fits_cell-requires-3 : goal.fits_cell-requires-3
fits_cell-requires-3 g c =
    let w = (c.concerned-ids.ensures.within (8 * length c.args.self.now.skips) c.requires.within).2 in
    let s = c.requires.sized in
    (omega arith, (omega (arith, w, s), c.requires.spelled))

pub returns-clause-yes : goal.returns-clause-yes
returns-clause-yes g c = λ is.
    let v = c.args.self.now in
    fits-all g.row.SLOTS v.skips (record_of c.args.r.now) c.concerned-ids.result v.cells (c.concerned-ids.ensures.all g.row.SLOTS)
    (c.fits_cell.ensures.yes c.if-not-fits_cell.false) (c.fits_cell-2.ensures.yes c.if-not-fits_cell-2.false) (c.fits_cell-3.ensures.yes is)

pub returns-clause-unless : goal.returns-clause-unless
returns-clause-unless g c = λ is fits.
    let v = c.args.self.now in
    let ids = c.concerned-ids.result in
    let w = (c.concerned-ids.ensures.within (8 * length v.skips) c.requires.within).2 in
    let s = c.requires.sized in
    c.fits_cell-3.ensures.unless is (one-fits v.skips v.cells (record_of c.args.r.now) ids.to (omega (arith, w, s)) fits)
