use Rattle.std.proofs.Common.{◌*◌, ◌<◌, List, length, sym, ap, ◌∙◌, subst, arith}
use Rattle.cell_model.specs.Cells.{Cell as StoredCell}
use Rattle.log_record.specs.Records.{record_of}
use Rattle.log_replay.specs.Replays.{Replaying, after_cells}
use Rattle.log_replay.specs.Steps.{FitsCell, changed_in}
use Rattle.log_replay.proofs.TakenLaws.{done_at, length-done_at, three-done, one-fits, kept-fits}
use Rattle.log_replay.proofs.replay.Replay.change_cells.Goals as goal

pub change_cell-requires : goal.change_cell-requires
change_cell-requires g c =
    let v = c.args.self.now in
    let ids = c.concerned-ids.result in
    let w = (c.concerned-ids.ensures.within (8 * length v.skips) c.requires.within).0 in
    let s = c.requires.sized in
    let below : ids.own < length v.cells = omega (arith, w, s) in
    (omega arith, (c.requires.spelled, (below, one-fits v.skips v.cells (record_of c.args.r.now) ids.own below c.requires.fits)))

pub change_cell-requires-2 : goal.change_cell-requires-2
change_cell-requires-2 g c =
    let v = c.args.self.now in
    let r = record_of c.args.r.now in
    let f = after_cells g.row.SLOTS v.skips r in
    let ids = c.concerned-ids.result in
    let are = c.concerned-ids.ensures.all g.row.SLOTS in
    let w = (c.concerned-ids.ensures.within (8 * length v.skips) c.requires.within).1 in
    let s = c.requires.sized in
    let l = length-done_at f ids.own v.cells in
    let old : ids.«from» < length v.cells = omega (arith, w, s) in
    let below : ids.«from» < length (done_at f ids.own v.cells) = omega (arith, old, l) in
    let fits : FitsCell v.skips (done_at f ids.own v.cells) r ids.«from» = kept-fits g.row.SLOTS v.skips r ids.own ids.«from» v.cells are.from_apart (one-fits v.skips v.cells r ids.«from» old c.requires.fits) in
    (omega arith, (c.requires.spelled, subst (λ (u : Replaying). (ids.«from» < length u.cells) × FitsCell u.skips u.cells r ids.«from») (sym c.change_cell.ensures) (below, fits)))

pub change_cell-requires-3 : goal.change_cell-requires-3
change_cell-requires-3 g c =
    let v = c.args.self.now in
    let r = record_of c.args.r.now in
    let f = after_cells g.row.SLOTS v.skips r in
    let ids = c.concerned-ids.result in
    let are = c.concerned-ids.ensures.all g.row.SLOTS in
    let w = (c.concerned-ids.ensures.within (8 * length v.skips) c.requires.within).2 in
    let s = c.requires.sized in
    let one = done_at f ids.own v.cells in
    let l = length-done_at f ids.own v.cells in
    let k = length-done_at f ids.«from» one in
    let old : ids.to < length v.cells = omega (arith, w, s) in
    let below : ids.to < length (done_at f ids.«from» one) = omega (arith, old, l, k) in
    let first_fits : FitsCell v.skips one r ids.to = kept-fits g.row.SLOTS v.skips r ids.own ids.to v.cells (λ n. (are.to_apart n).0) (one-fits v.skips v.cells r ids.to old c.requires.fits) in
    let fits : FitsCell v.skips (done_at f ids.«from» one) r ids.to = kept-fits g.row.SLOTS v.skips r ids.«from» ids.to one (λ n. (are.to_apart n).1) first_fits in
    let e = c.change_cell-2.ensures ∙ ap (λ (u : Replaying). changed_in g.row.SLOTS r ids.«from» u) c.change_cell.ensures in
    (omega arith, (c.requires.spelled, subst (λ (u : Replaying). (ids.to < length u.cells) × FitsCell u.skips u.cells r ids.to) (sym e) (below, fits)))

pub returns : goal.returns
returns g c =
    let v = c.args.self.now in
    let r = record_of c.args.r.now in
    let ids = c.concerned-ids.result in
    let w = c.concerned-ids.ensures.within (8 * length v.skips) c.requires.within in
    let s = c.requires.sized in
    let w0 = w.0 in
    let w1 = w.1 in
    let w2 = w.2 in
    let e = c.change_cell-2.ensures ∙ ap (λ (u : Replaying). changed_in g.row.SLOTS r ids.«from» u) c.change_cell.ensures in
    c.change_cell-3.ensures
    ∙ (ap (λ (u : Replaying). changed_in g.row.SLOTS r ids.to u) e
    ∙ ap (λ (cs : List StoredCell). let u : Replaying = record v { cells = cs } in u) (three-done g.row.SLOTS v.skips r ids v.cells (c.concerned-ids.ensures.all g.row.SLOTS) (omega (arith, w0, s)) (omega (arith, w1, s)) (omega (arith, w2, s))))
