use Rattle.std.proofs.Common.{◌≡◌}
use Rattle.object_map.specs.Clients.{seen}
use Rattle.stored_map.specs.Graphs.{pairs_in}
use Rattle.stored_map.specs.Stores.{view_of}
use Rattle.stored_map.proofs.ViewLaws.{looked_more, looked_map, looked_keeps, looked_asked}
use Rattle.stored_map.proofs.CallLaws.{looks_done, looks_failed, looks_unbegun, map_stops, commit_stops, later_then, looks_same}
use Rattle.stored_map.proofs.looking.get.Goals as goal

pub get-requires-clause-rooted : goal.get-requires-clause-rooted
get-requires-clause-rooted g c κs within = c.in-Ok.ensures.looked.rooted

pub get-requires-clause-map : goal.get-requires-clause-map
get-requires-clause-map g c κs within = (pairs_in (seen c.in-Ok.client).graph, looked_keeps g.D.Disk.faults (view_of g.D.Disk.faults c.args.kept.now) c.in-Ok.client c.in-Ok.ensures.looked)

pub returns-in-Err-clause-looks : goal.returns-in-Err-clause-looks
returns-in-Err-clause-looks g c = looks_unbegun _ _ _ _ _ c.in-Err.ensures.failed c.in-Err.ensures.later

pub commit-requires-clause-at_work : goal.commit-requires-clause-at_work
commit-requires-clause-at_work g c κs within =
    (looked_more g.D.Disk.faults (view_of g.D.Disk.faults c.args.kept.now) 198 c.in-Ok.client c.get.new.client c.in-Ok.ensures.looked c.in-Ok.ensures.looked.working.at_work.running c.in-Ok-get.ensures.asks c.get.ensures.rooted c.in-Ok-get.ensures.kept).working.at_work

pub commit-requires-clause-map : goal.commit-requires-clause-map
commit-requires-clause-map g c κs within =
    looked_keeps g.D.Disk.faults (view_of g.D.Disk.faults c.args.kept.now) c.get.new.client
    (looked_more g.D.Disk.faults (view_of g.D.Disk.faults c.args.kept.now) 198 c.in-Ok.client c.get.new.client c.in-Ok.ensures.looked c.in-Ok.ensures.looked.working.at_work.running c.in-Ok-get.ensures.asks c.get.ensures.rooted c.in-Ok-get.ensures.kept)

pub returns-in-Ok-commit-clause-looks : goal.returns-in-Ok-commit-clause-looks
returns-in-Ok-commit-clause-looks g c =
    let before = view_of g.D.Disk.faults c.args.kept.now in
    let l = looked_more g.D.Disk.faults before 198 c.in-Ok.client c.get.new.client c.in-Ok.ensures.looked c.in-Ok.ensures.looked.working.at_work.running c.in-Ok-get.ensures.asks c.get.ensures.rooted c.in-Ok-get.ensures.kept in
    looks_done _ _ _ _ _ (c.in-Ok-get.ensures.value before.map.pairs (looked_map g.D.Disk.faults before c.in-Ok.client c.in-Ok.ensures.looked))
    (looks_same g.D.Disk.faults before c.get.new.client c.commit.new.kept l c.in-Ok-commit.ensures.done) c.in-Ok-commit.ensures.goes (later_then g.D.Disk.faults before c.get.new.client _ l.working c.commit.ensures.later)

pub returns-in-Err-commit-clause-looks : goal.returns-in-Err-commit-clause-looks
returns-in-Err-commit-clause-looks g c =
    let before = view_of g.D.Disk.faults c.args.kept.now in
    let l = looked_more g.D.Disk.faults before 198 c.in-Ok.client c.get.new.client c.in-Ok.ensures.looked c.in-Ok.ensures.looked.working.at_work.running c.in-Ok-get.ensures.asks c.get.ensures.rooted c.in-Ok-get.ensures.kept in
    looks_failed _ _ _ _ _ (commit_stops g.D.Disk.faults g.D.Disk.may_leave c.in-Err-commit.failure before c.get.new.client c.commit.new.kept (λ n. n ≡ before.map) l.working (looked_keeps g.D.Disk.faults before c.get.new.client l) (λ s within. looked_asked g.D.Disk.faults before c.get.new.client l) c.in-Err-commit.ensures.failed)
    (later_then g.D.Disk.faults before c.get.new.client _ l.working c.commit.ensures.later)

pub returns-in-Err-get-clause-looks : goal.returns-in-Err-get-clause-looks
returns-in-Err-get-clause-looks g c =
    let before = view_of g.D.Disk.faults c.args.kept.now in
    let s = map_stops g.D.Disk.faults g.D.Disk.may_leave c.in-Err-get.refusal c.failure_in.result before c.in-Ok.client c.get.new.client c.stop.new.kept (λ n. n ≡ before.map) c.in-Ok.ensures.looked.working c.in-Err-get.ensures.refused c.in-Err-get.ensures.never_full c.failure_in.ensures c.stop.ensures.kept c.stop.ensures.left in
    looks_failed _ _ _ _ _ s.fails s.later

pub returns-in-Err-get-clause-kept : goal.returns-in-Err-get-clause-kept
returns-in-Err-get-clause-kept g c =
    let before = view_of g.D.Disk.faults c.args.kept.now in
    (map_stops g.D.Disk.faults g.D.Disk.may_leave c.in-Err-get.refusal c.failure_in.result before c.in-Ok.client c.get.new.client c.stop.new.kept (λ n. n ≡ before.map) c.in-Ok.ensures.looked.working c.in-Err-get.ensures.refused c.in-Err-get.ensures.never_full c.failure_in.ensures c.stop.ensures.kept c.stop.ensures.left).is_kept
