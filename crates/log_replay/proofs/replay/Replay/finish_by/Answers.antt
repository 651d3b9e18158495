use Rattle.std.proofs.Common.{◌*◌, List, length, sym, ap, ◌∙◌, subst, arith}
use Rattle.cell_model.specs.Cells.{Cell as StoredCell}
use Rattle.cell_model.specs.Consistent.{AreConsistent}
use Rattle.cell_model.proofs.ConsistentLaws.{consistent-kept}
use Rattle.log_record.specs.Records.{record_of}
use Rattle.log_replay.specs.Replays.{Replaying}
use Rattle.log_replay.proofs.FinishLaws.{fits-each, after-each}
use Rattle.log_replay.proofs.replay.Replay.finish_by.Goals as goal

pub take_leaving-requires : goal.take_leaving-requires
take_leaving-requires g c =
    let v = c.args.self.now in
    let few = c.ids-few.ensures.few in
    let ids = c.ids-few.ensures.ids in
    (omega arith, (c.requires.nothing, (c.requires.spelled, (c.requires.within, fits-each g.row.SLOTS (8 * length v.skips) v.skips v.cells (record_of c.args.r.now) c.ids-few.ensures.slots (omega (arith, few, ids)) c.requires.rules c.requires.fits))))

pub returns-clause-done : goal.returns-clause-done
returns-clause-done g c =
    let v = c.args.self.now in
    let r = record_of c.args.r.now in
    let few = c.ids-few.ensures.few in
    let ids = c.ids-few.ensures.ids in
    let fits = fits-each g.row.SLOTS (8 * length v.skips) v.skips v.cells r c.ids-few.ensures.slots (omega (arith, few, ids)) c.requires.rules c.requires.fits in
    let is = c.take_leaving.ensures in
    let cells = ap (λ (u : Replaying). u.cells) is ∙ after-each g.row.SLOTS (8 * length v.skips) v.skips v.cells r c.requires.skips c.requires.rules c.requires.fits c.requires.laid in
    (c.requires.next, c.requires.can, c.requires.spelled, (c.requires.within, c.requires.unended, fits), is, cells)

pub returns-clause-rules : goal.returns-clause-rules
returns-clause-rules g c =
    let v = c.args.self.now in
    let r = record_of c.args.r.now in
    let kept = consistent-kept g.row.SLOTS (8 * length v.skips) v.cells r c.requires.fits c.requires.laid c.requires.rules in
    let after = after-each g.row.SLOTS (8 * length v.skips) v.skips v.cells r c.requires.skips c.requires.rules c.requires.fits c.requires.laid in
    subst (λ (u : Replaying). AreConsistent g.row.SLOTS (8 * length u.skips) u.cells) (sym c.take_leaving.ensures) (subst (λ (cs : List StoredCell). AreConsistent g.row.SLOTS (8 * length v.skips) cs) (sym after) kept)
