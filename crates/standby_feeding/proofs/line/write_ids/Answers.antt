use Rattle.std.proofs.Common.{◌<◌, length, rules}
use Rattle.standby_feeding.proofs.LineLaws.{ids_cut}
use Rattle.standby_feeding.proofs.line.write_ids.Goals as goal

pub returns-in-Err-clause-front : goal.returns-in-Err-clause-front
returns-in-Err-clause-front g c =
    let low : c.ids.id-index < length c.args.ids.now = search rules in
    ids_cut (g.W.Sink.written c.args.out.now) (g.W.Sink.written c.ids.out) (g.W.Sink.written c.write_id.new.out) c.args.ids.now c.ids.id-index low c.ids.invariant.0 c.in-Err.ensures.front
