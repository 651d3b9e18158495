use Rattle.std.proofs.Common.{◌≡◌, ◌∙◌}
use Rattle.stored_map.specs.Stores.{view_of}
use Rattle.stored_map.proofs.LookLaws.{looked_looks}
use Rattle.stored_map.proofs.ViewLaws.{looked_map, looked_keeps, looked_pairs, looked_asked}
use Rattle.stored_map.proofs.CallLaws.{looks_done, looks_failed, looks_unbegun, stops_with, commit_stops, later_then, looks_same}
use Rattle.stored_map.proofs.looking.list.Goals as goal

pub all_pairs-requires-clause-rooted : goal.all_pairs-requires-clause-rooted
all_pairs-requires-clause-rooted g c κs within = c.in-Ok.ensures.looked.rooted

pub all_pairs-requires-clause-map : goal.all_pairs-requires-clause-map
all_pairs-requires-clause-map g c κs within = looked_keeps g.D.Disk.faults (view_of g.D.Disk.faults c.args.kept.now) c.in-Ok.client c.in-Ok.ensures.looked

pub all_pairs-requires-clause-running : goal.all_pairs-requires-clause-running
all_pairs-requires-clause-running g c κs within = c.in-Ok.ensures.looked.working.at_work.running

pub all_pairs-requires-clause-unmarked : goal.all_pairs-requires-clause-unmarked
all_pairs-requires-clause-unmarked g c κs within = c.in-Ok.ensures.looked.working.at_work.unmarked

pub returns-in-Err-clause-looks : goal.returns-in-Err-clause-looks
returns-in-Err-clause-looks g c = looks_unbegun _ _ _ _ _ c.in-Err.ensures.failed c.in-Err.ensures.later

pub commit-requires-clause-at_work : goal.commit-requires-clause-at_work
commit-requires-clause-at_work g c κs within = (looked_looks g.D.Disk.faults (view_of g.D.Disk.faults c.args.kept.now) c.in-Ok.client c.all_pairs.new.client c.in-Ok.ensures.looked c.in-Ok-all_pairs.ensures.looks).working.at_work

pub commit-requires-clause-map : goal.commit-requires-clause-map
commit-requires-clause-map g c κs within =
    let before = view_of g.D.Disk.faults c.args.kept.now in
    looked_keeps g.D.Disk.faults before c.all_pairs.new.client (looked_looks g.D.Disk.faults before c.in-Ok.client c.all_pairs.new.client c.in-Ok.ensures.looked c.in-Ok-all_pairs.ensures.looks)

pub returns-in-Ok-commit-clause-looks : goal.returns-in-Ok-commit-clause-looks
returns-in-Ok-commit-clause-looks g c =
    let before = view_of g.D.Disk.faults c.args.kept.now in
    let l = looked_looks g.D.Disk.faults before c.in-Ok.client c.all_pairs.new.client c.in-Ok.ensures.looked c.in-Ok-all_pairs.ensures.looks in
    looks_done _ _ _ _ _ (c.in-Ok-all_pairs.ensures.pairs ∙ looked_pairs g.D.Disk.faults before c.in-Ok.client c.in-Ok.ensures.looked) (looks_same g.D.Disk.faults before c.all_pairs.new.client c.commit.new.kept l c.in-Ok-commit.ensures.done)
    c.in-Ok-commit.ensures.goes (later_then g.D.Disk.faults before c.all_pairs.new.client _ l.working c.commit.ensures.later)

pub returns-in-Err-commit-clause-looks : goal.returns-in-Err-commit-clause-looks
returns-in-Err-commit-clause-looks g c =
    let before = view_of g.D.Disk.faults c.args.kept.now in
    let l = looked_looks g.D.Disk.faults before c.in-Ok.client c.all_pairs.new.client c.in-Ok.ensures.looked c.in-Ok-all_pairs.ensures.looks in
    looks_failed _ _ _ _ _ (commit_stops g.D.Disk.faults g.D.Disk.may_leave c.in-Err-commit.failure before c.all_pairs.new.client c.commit.new.kept (λ n. n ≡ before.map) l.working (looked_keeps g.D.Disk.faults before c.all_pairs.new.client l) (λ s within. looked_asked g.D.Disk.faults before c.all_pairs.new.client l) c.in-Err-commit.ensures.failed)
    (later_then g.D.Disk.faults before c.all_pairs.new.client _ l.working c.commit.ensures.later)

pub returns-in-Err-all_pairs-clause-looks : goal.returns-in-Err-all_pairs-clause-looks
returns-in-Err-all_pairs-clause-looks g c =
    let before = view_of g.D.Disk.faults c.args.kept.now in
    let s = stops_with g.D.Disk.faults g.D.Disk.may_leave c.in-Err-all_pairs.failure before c.in-Ok.client c.all_pairs.new.client c.stop.new.kept (λ n. n ≡ before.map) c.in-Ok.ensures.looked.working c.in-Err-all_pairs.ensures.refused c.stop.ensures.kept c.stop.ensures.left in
    looks_failed _ _ _ _ _ s.fails s.later

pub returns-in-Err-all_pairs-clause-kept : goal.returns-in-Err-all_pairs-clause-kept
returns-in-Err-all_pairs-clause-kept g c =
    let before = view_of g.D.Disk.faults c.args.kept.now in
    (stops_with g.D.Disk.faults g.D.Disk.may_leave c.in-Err-all_pairs.failure before c.in-Ok.client c.all_pairs.new.client c.stop.new.kept (λ n. n ≡ before.map) c.in-Ok.ensures.looked.working c.in-Err-all_pairs.ensures.refused c.stop.ensures.kept c.stop.ensures.left).is_kept
