use Rattle.stored_map.specs.Stores.{view_of}
use Rattle.stored_map.proofs.CallLaws.{looks_done, looks_failed}
use Rattle.stored_map.proofs.RestLaws.{map_kept, not_earlier, all_idles, all_goes, all_room, all_fails, all_limits}
use Rattle.stored_map.proofs.resting.collect_all.Goals as goal

pub collect-requires-clause-quiet : goal.collect-requires-clause-quiet
collect-requires-clause-quiet g c κs within = c.take_idle-store.ensures.idle.quiet

pub returns-in-Ok-clause-looks : goal.returns-in-Ok-clause-looks
returns-in-Ok-clause-looks g c =
    looks_done _ _ _ _ _ tt
    (map_kept g.D.Disk.faults g.D.Disk.may_leave (view_of g.D.Disk.faults c.args.kept.now) c.take_idle-store.result c.collect.new.store c.take_idle-store.ensures.idle c.take_idle-store.ensures.same c.collect.ensures.collects c.know_left.ensures.settled c.know_left-in-Ok.ensures.settled c.know_left.ensures.known c.know_left-in-Ok.ensures.known c.know_left-in-Ok.ensures.left)
    (all_goes g.D.Disk.faults g.D.Disk.may_leave (view_of g.D.Disk.faults c.args.kept.now) c.take_idle-store.result c.collect.new.store c.take_idle-store.ensures.idle c.take_idle-store.ensures.same c.collect.ensures.collects c.know_left.ensures.settled c.know_left-in-Ok.ensures.settled c.know_left.ensures.known c.know_left-in-Ok.ensures.known c.know_left-in-Ok.ensures.left c.in-Ok.ensures.quiet)
    (not_earlier g.D.Disk.faults g.D.Disk.may_leave (view_of g.D.Disk.faults c.args.kept.now) c.take_idle-store.result c.collect.new.store c.take_idle-store.ensures.idle c.take_idle-store.ensures.same c.collect.ensures.collects c.know_left.ensures.settled c.know_left-in-Ok.ensures.settled c.know_left.ensures.known c.know_left-in-Ok.ensures.known c.know_left-in-Ok.ensures.left)

pub returns-in-Ok-clause-room : goal.returns-in-Ok-clause-room
returns-in-Ok-clause-room g c =
    all_room g.D.Disk.faults g.D.Disk.may_leave (view_of g.D.Disk.faults c.args.kept.now) c.take_idle-store.result c.collect.new.store c.take_idle-store.ensures.idle c.take_idle-store.ensures.same c.collect.ensures.collects c.know_left.ensures.settled c.know_left-in-Ok.ensures.settled c.know_left.ensures.known c.know_left-in-Ok.ensures.known c.know_left-in-Ok.ensures.left c.in-Ok.ensures.exact

pub returns-in-Ok-clause-kept : goal.returns-in-Ok-clause-kept
returns-in-Ok-clause-kept g c =
    all_idles g.D.Disk.faults g.D.Disk.may_leave (view_of g.D.Disk.faults c.args.kept.now) c.take_idle-store.result c.collect.new.store c.take_idle-store.ensures.idle c.take_idle-store.ensures.same c.collect.ensures.collects c.know_left.ensures.settled c.know_left-in-Ok.ensures.settled c.know_left.ensures.known c.know_left-in-Ok.ensures.known c.know_left-in-Ok.ensures.left c.in-Ok.ensures.quiet

pub returns-in-Err-clause-looks : goal.returns-in-Err-clause-looks
returns-in-Err-clause-looks g c =
    looks_failed _ _ _ _ _
    (all_fails g.D.Disk.faults g.D.Disk.may_leave (view_of g.D.Disk.faults c.args.kept.now) c.take_idle-store.result c.collect.new.store c.take_idle-store.ensures.idle c.take_idle-store.ensures.same c.collect.ensures.collects c.know_left.ensures.settled c.know_left-in-Err.ensures.settled c.know_left.ensures.known c.know_left-in-Err.ensures.known c.know_left-in-Err.ensures.left c.in-Err.failure c.in-Err.ensures.no_disk c.in-Err.ensures.marked)
    (not_earlier g.D.Disk.faults g.D.Disk.may_leave (view_of g.D.Disk.faults c.args.kept.now) c.take_idle-store.result c.collect.new.store c.take_idle-store.ensures.idle c.take_idle-store.ensures.same c.collect.ensures.collects c.know_left.ensures.settled c.know_left-in-Err.ensures.settled c.know_left.ensures.known c.know_left-in-Err.ensures.known c.know_left-in-Err.ensures.left)

pub returns-in-Err-clause-kept : goal.returns-in-Err-clause-kept
returns-in-Err-clause-kept g c =
    all_limits g.D.Disk.faults g.D.Disk.may_leave (view_of g.D.Disk.faults c.args.kept.now) c.take_idle-store.result c.collect.new.store c.take_idle-store.ensures.idle c.take_idle-store.ensures.same c.collect.ensures.collects c.know_left.ensures.settled c.know_left-in-Err.ensures.settled c.know_left.ensures.known c.know_left-in-Err.ensures.known c.know_left-in-Err.ensures.left
