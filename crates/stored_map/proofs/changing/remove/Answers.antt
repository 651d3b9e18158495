use Rattle.std.proofs.Common.{◌≡◌}
use Rattle.map_calls.specs.Maps.{Deletes}
use Rattle.object_map.specs.Clients.{seen}
use Rattle.plain_map.specs.Pairs.{without_key}
use Rattle.stored_map.specs.Graphs.{pairs_in}
use Rattle.stored_map.specs.Stores.{view_of}
use Rattle.stored_map.proofs.StepLaws.{asks_stays, asks_marks, run_number}
use Rattle.stored_map.proofs.ViewLaws.{working_on, looked_map, looked_keeps}
use Rattle.stored_map.proofs.GraphLaws.{keeps_map}
use Rattle.stored_map.proofs.CallLaws.{key_removed, remove_failed, remove_unbegun, map_stops, commit_stops, later_then, remove_asked, remove_changes}
use Rattle.stored_map.proofs.changing.remove.Goals as goal

pub remove-requires-clause-rooted : goal.remove-requires-clause-rooted
remove-requires-clause-rooted g c κs within = c.in-Ok.ensures.looked.rooted

pub remove-requires-clause-map : goal.remove-requires-clause-map
remove-requires-clause-map g c κs within = (pairs_in (seen c.in-Ok.client).graph, looked_keeps g.D.Disk.faults (view_of g.D.Disk.faults c.args.kept.now) c.in-Ok.client c.in-Ok.ensures.looked)

pub returns-in-Err-clause-removes : goal.returns-in-Err-clause-removes
returns-in-Err-clause-removes g c = remove_unbegun c.args.key _ _ _ _ c.in-Err.ensures.failed c.in-Err.ensures.later

-- ---- the key was removed

pub commit-requires-clause-at_work : goal.commit-requires-clause-at_work
commit-requires-clause-at_work g c κs within =
    let before = view_of g.D.Disk.faults c.args.kept.now in
    let l = c.in-Ok.ensures.looked in
    let a = c.in-Ok-remove.ensures.asks before.map.pairs (looked_map g.D.Disk.faults before c.in-Ok.client l) in
    (working_on g.D.Disk.faults before c.in-Ok.client c.remove.new.client l.working (asks_stays 330 a.0 c.in-Ok.client c.remove.new.client l.working.at_work.running a.1.1) (asks_marks 330 a.0 c.in-Ok.client c.remove.new.client a.1.1) (run_number a.1.1.made c.in-Ok.client c.remove.new.client a.1.1.run)).at_work

pub commit-requires-clause-map : goal.commit-requires-clause-map
commit-requires-clause-map g c κs within =
    let before = view_of g.D.Disk.faults c.args.kept.now in
    keeps_map (seen c.remove.new.client).graph (without_key c.args.key before.map.pairs) (c.in-Ok-remove.ensures.map before.map.pairs (looked_map g.D.Disk.faults before c.in-Ok.client c.in-Ok.ensures.looked))

pub returns-in-Ok-commit-clause-removes : goal.returns-in-Ok-commit-clause-removes
returns-in-Ok-commit-clause-removes g c =
    let before = view_of g.D.Disk.faults c.args.kept.now in
    let l = c.in-Ok.ensures.looked in
    let m = looked_map g.D.Disk.faults before c.in-Ok.client l in
    let a = c.in-Ok-remove.ensures.asks before.map.pairs m in
    let stays = asks_stays 330 a.0 c.in-Ok.client c.remove.new.client l.working.at_work.running a.1.1 in
    let number = run_number a.1.1.made c.in-Ok.client c.remove.new.client a.1.1.run in
    let w = working_on g.D.Disk.faults before c.in-Ok.client c.remove.new.client l.working stays (asks_marks 330 a.0 c.in-Ok.client c.remove.new.client a.1.1) number in
    key_removed c.args.key c.in-Ok-remove.value before _ _ (c.in-Ok-remove.ensures.before before.map.pairs m)
    (remove_changes g.D.Disk.faults before c.in-Ok.client c.remove.new.client c.commit.new.kept l stays number c.in-Ok-commit.ensures.done c.args.key c.in-Ok-remove.ensures.map c.in-Ok-remove.ensures.outside c.in-Ok-remove.ensures.loses c.in-Ok-remove.ensures.once)
    c.in-Ok-commit.ensures.goes (later_then g.D.Disk.faults before c.remove.new.client _ w c.commit.ensures.later)

pub returns-in-Err-commit-clause-removes : goal.returns-in-Err-commit-clause-removes
returns-in-Err-commit-clause-removes g c =
    let before = view_of g.D.Disk.faults c.args.kept.now in
    let l = c.in-Ok.ensures.looked in
    let m = looked_map g.D.Disk.faults before c.in-Ok.client l in
    let a = c.in-Ok-remove.ensures.asks before.map.pairs m in
    let stays = asks_stays 330 a.0 c.in-Ok.client c.remove.new.client l.working.at_work.running a.1.1 in
    let number = run_number a.1.1.made c.in-Ok.client c.remove.new.client a.1.1.run in
    let w = working_on g.D.Disk.faults before c.in-Ok.client c.remove.new.client l.working stays (asks_marks 330 a.0 c.in-Ok.client c.remove.new.client a.1.1) number in
    remove_failed c.args.key c.in-Err-commit.failure before _ _
    (commit_stops g.D.Disk.faults g.D.Disk.may_leave c.in-Err-commit.failure before c.remove.new.client c.commit.new.kept (Deletes c.args.key before.map) w (keeps_map (seen c.remove.new.client).graph (without_key c.args.key before.map.pairs) (c.in-Ok-remove.ensures.map before.map.pairs m))
    (λ sound within. remove_asked g.D.Disk.faults before c.in-Ok.client c.remove.new.client l stays sound within c.args.key c.in-Ok-remove.ensures.map c.in-Ok-remove.ensures.outside c.in-Ok-remove.ensures.loses c.in-Ok-remove.ensures.once) c.in-Err-commit.ensures.failed)
    (later_then g.D.Disk.faults before c.remove.new.client _ w c.commit.ensures.later)

-- ---- it was refused

pub returns-in-Err-remove-clause-removes : goal.returns-in-Err-remove-clause-removes
returns-in-Err-remove-clause-removes g c =
    let before = view_of g.D.Disk.faults c.args.kept.now in
    let s = map_stops g.D.Disk.faults g.D.Disk.may_leave c.in-Err-remove.refusal c.failure_in.result before c.in-Ok.client c.remove.new.client c.stop.new.kept (Deletes c.args.key before.map) c.in-Ok.ensures.looked.working c.in-Err-remove.ensures.refused c.in-Err-remove.ensures.never_full c.failure_in.ensures c.stop.ensures.kept c.stop.ensures.left in
    remove_failed c.args.key c.failure_in.result before _ _ s.fails s.later

pub returns-in-Err-remove-clause-kept : goal.returns-in-Err-remove-clause-kept
returns-in-Err-remove-clause-kept g c =
    let before = view_of g.D.Disk.faults c.args.kept.now in
    (map_stops g.D.Disk.faults g.D.Disk.may_leave c.in-Err-remove.refusal c.failure_in.result before c.in-Ok.client c.remove.new.client c.stop.new.kept (λ n. n ≡ before.map) c.in-Ok.ensures.looked.working c.in-Err-remove.ensures.refused c.in-Err-remove.ensures.never_full c.failure_in.ensures c.stop.ensures.kept c.stop.ensures.left).is_kept
