use Rattle.std.proofs.Common.{inl, inr, refl, arith}
use Rattle.brahma_shell.proofs.MapLemmas.{ran, ran_later, unmapped, lost_later, lost_status}
use Rattle.brahma_shell.proofs.mapping.map_store.Goals as goal

-- ---- the lines were done

pub map_script-status-requires-clause-goes : goal.map_script-status-requires-clause-goes
map_script-status-requires-clause-goes g c κs within = c.in-Ok.ensures.goes

pub ended_with-requires-clause-limits : goal.ended_with-requires-clause-limits
ended_with-requires-clause-limits g c κs within = c.release-released.ensures.limits

pub returns-in-Ok-clause-mapped : goal.returns-in-Ok-clause-mapped
returns-in-Ok-clause-mapped g c =
    rw c.ended_with.ensures.is
    (inr (ran g.D.Disk.content g.D.Disk.may_leave g.D.Disk.moment g.D.Disk.left_since g.D.Disk.faults c.args.disk (g.R.Source.left c.args.script.now) (g.R.Source.left c.map_script-status.new.source) (g.R.Source.faults c.args.script.now) (g.R.Source.faults c.map_script-status.new.source) (g.W.Sink.written c.args.out.now) (g.W.Sink.written c.map_script-status.new.out) (g.W.Sink.faults c.args.out.now) (g.W.Sink.faults c.map_script-status.new.out) c.map_script-status.result c.release-released.result c.in-Ok.store c.map_script-status.new.store c.in-Ok.ensures.found c.release-released.ensures.released c.map_script-status.ensures.mapped (rw c.ended_with.ensures.is at c.ended_with.ensures.journal)))

pub returns-in-Ok-clause-later : goal.returns-in-Ok-clause-later
returns-in-Ok-clause-later g c =
    rw c.ended_with.ensures.is
    (record {
      reads = c.map_script-status.ensures.source_later;
      writes = c.map_script-status.ensures.out_later;
      disk = ran_later g.D.Disk.content g.D.Disk.may_leave g.D.Disk.moment g.D.Disk.left_since g.D.Disk.faults c.args.disk (g.R.Source.left c.args.script.now) (g.R.Source.left c.map_script-status.new.source) (g.R.Source.faults c.args.script.now) (g.R.Source.faults c.map_script-status.new.source) (g.W.Sink.written c.args.out.now) (g.W.Sink.written c.map_script-status.new.out) (g.W.Sink.faults c.args.out.now) (g.W.Sink.faults c.map_script-status.new.out) c.map_script-status.result c.release-released.result c.in-Ok.store c.map_script-status.new.store c.in-Ok.ensures.found c.release-released.ensures.released c.map_script-status.ensures.later;
    })

pub returns-in-Ok-clause-statuses : goal.returns-in-Ok-clause-statuses
returns-in-Ok-clause-statuses g c =
    (ran g.D.Disk.content g.D.Disk.may_leave g.D.Disk.moment g.D.Disk.left_since g.D.Disk.faults c.args.disk (g.R.Source.left c.args.script.now) (g.R.Source.left c.map_script-status.new.source) (g.R.Source.faults c.args.script.now) (g.R.Source.faults c.map_script-status.new.source) (g.W.Sink.written c.args.out.now) (g.W.Sink.written c.map_script-status.new.out) (g.W.Sink.faults c.args.out.now) (g.W.Sink.faults c.map_script-status.new.out) c.map_script-status.result c.release-released.result c.in-Ok.store c.map_script-status.new.store c.in-Ok.ensures.found c.release-released.ensures.released c.map_script-status.ensures.mapped (rw c.ended_with.ensures.is at c.ended_with.ensures.journal)).statuses

-- ---- no map was found

pub ended_with-requires-in-Err-clause-limits : goal.ended_with-requires-in-Err-clause-limits
ended_with-requires-in-Err-clause-limits g c κs within = c.in-Err.ensures.limits

pub returns-in-Err-clause-mapped : goal.returns-in-Err-clause-mapped
returns-in-Err-clause-mapped g c =
    let n = c.in-Err.ensures.none in
    rw c.ended_with-in-Err.ensures.is
    (inl (refl, unmapped g.D.Disk.content g.D.Disk.may_leave g.D.Disk.moment g.D.Disk.left_since g.D.Disk.faults c.args.disk (g.R.Source.left c.args.script.now) (g.R.Source.left c.args.script.now) (g.R.Source.faults c.args.script.now) (g.R.Source.faults c.args.script.now) (g.W.Sink.written c.args.out.now) (g.W.Sink.written c.end_unopened-status.new.out) (g.W.Sink.faults c.args.out.now) (g.W.Sink.faults c.end_unopened-status.new.out) c.end_unopened-status.result c.in-Err.released c.in-Err.unopened n.0 n.1 n.2 c.end_unopened-status.ensures.status c.end_unopened-status.ensures.last (rw c.ended_with-in-Err.ensures.is at c.ended_with-in-Err.ensures.journal)))

pub returns-in-Err-clause-later : goal.returns-in-Err-clause-later
returns-in-Err-clause-later g c =
    let n = c.in-Err.ensures.none in
    rw c.ended_with-in-Err.ensures.is
    (record {
      reads = omega arith;
      writes = c.end_unopened-status.ensures.later;
      disk = lost_later g.D.Disk.content g.D.Disk.may_leave g.D.Disk.moment g.D.Disk.left_since g.D.Disk.faults c.args.disk (g.R.Source.left c.args.script.now) (g.R.Source.left c.args.script.now) (g.R.Source.faults c.args.script.now) (g.R.Source.faults c.args.script.now) (g.W.Sink.written c.args.out.now) (g.W.Sink.written c.end_unopened-status.new.out) (g.W.Sink.faults c.args.out.now) (g.W.Sink.faults c.end_unopened-status.new.out) c.end_unopened-status.result c.in-Err.released c.in-Err.unopened n.0 n.1 n.2;
    })

pub returns-in-Err-clause-statuses : goal.returns-in-Err-clause-statuses
returns-in-Err-clause-statuses g c =
    let n = c.in-Err.ensures.none in
    lost_status g.D.Disk.content g.D.Disk.may_leave g.D.Disk.moment g.D.Disk.left_since g.D.Disk.faults c.args.disk (g.R.Source.left c.args.script.now) (g.R.Source.left c.args.script.now) (g.R.Source.faults c.args.script.now) (g.R.Source.faults c.args.script.now) (g.W.Sink.written c.args.out.now) (g.W.Sink.written c.end_unopened-status.new.out) (g.W.Sink.faults c.args.out.now) (g.W.Sink.faults c.end_unopened-status.new.out) c.end_unopened-status.result c.in-Err.released c.in-Err.unopened n.0 n.1 c.end_unopened-status.ensures.status
