use Rattle.std.proofs.Common.{◌≡◌, sym, ◌∙◌}
use Rattle.map_calls.specs.Maps.{Puts}
use Rattle.object_map.specs.Clients.{seen}
use Rattle.plain_map.specs.Pairs.{with_pair}
use Rattle.stored_map.specs.Graphs.{pairs_in}
use Rattle.stored_map.specs.Stores.{view_of}
use Rattle.stored_map.proofs.StepLaws.{asks_stays, asks_marks, run_number, full_stays, full_marks, full_number}
use Rattle.stored_map.proofs.ViewLaws.{working_on, looked_map, looked_keeps}
use Rattle.stored_map.proofs.GraphLaws.{keeps_map}
use Rattle.stored_map.proofs.CallLaws.{put_stored, put_no_room, put_failed, put_unbegun, map_stops, commit_stops, later_then, put_asked, put_changes, gives_up, no_room}
use Rattle.stored_map.proofs.FailLaws.{is_no_id, not_no_id}
use Rattle.stored_map.proofs.changing.put.Goals as goal

pub put-requires-clause-rooted : goal.put-requires-clause-rooted
put-requires-clause-rooted g c κs within = c.in-Ok.ensures.looked.rooted

pub put-requires-clause-map : goal.put-requires-clause-map
put-requires-clause-map g c κs within = (pairs_in (seen c.in-Ok.client).graph, looked_keeps g.D.Disk.faults (view_of g.D.Disk.faults c.args.kept.now) c.in-Ok.client c.in-Ok.ensures.looked)

pub returns-in-Err-clause-puts : goal.returns-in-Err-clause-puts
returns-in-Err-clause-puts g c = put_unbegun c.args.key c.args.value _ _ _ _ c.in-Err.ensures.failed c.in-Err.ensures.later

-- ---- the pair was put

pub commit-requires-clause-at_work : goal.commit-requires-clause-at_work
commit-requires-clause-at_work g c κs within =
    let before = view_of g.D.Disk.faults c.args.kept.now in
    let l = c.in-Ok.ensures.looked in
    let a = c.in-Ok-put.ensures.asks before.map.pairs (looked_map g.D.Disk.faults before c.in-Ok.client l) in
    (working_on g.D.Disk.faults before c.in-Ok.client c.put.new.client l.working (asks_stays 528 a.0 c.in-Ok.client c.put.new.client l.working.at_work.running a.1.1) (asks_marks 528 a.0 c.in-Ok.client c.put.new.client a.1.1) (run_number a.1.1.made c.in-Ok.client c.put.new.client a.1.1.run)).at_work

pub commit-requires-clause-map : goal.commit-requires-clause-map
commit-requires-clause-map g c κs within =
    let before = view_of g.D.Disk.faults c.args.kept.now in
    keeps_map (seen c.put.new.client).graph (with_pair c.args.key c.args.value before.map.pairs) (c.in-Ok-put.ensures.map before.map.pairs (looked_map g.D.Disk.faults before c.in-Ok.client c.in-Ok.ensures.looked))

pub returns-in-Ok-commit-clause-puts : goal.returns-in-Ok-commit-clause-puts
returns-in-Ok-commit-clause-puts g c =
    let before = view_of g.D.Disk.faults c.args.kept.now in
    let l = c.in-Ok.ensures.looked in
    let m = looked_map g.D.Disk.faults before c.in-Ok.client l in
    let a = c.in-Ok-put.ensures.asks before.map.pairs m in
    let stays = asks_stays 528 a.0 c.in-Ok.client c.put.new.client l.working.at_work.running a.1.1 in
    let number = run_number a.1.1.made c.in-Ok.client c.put.new.client a.1.1.run in
    let w = working_on g.D.Disk.faults before c.in-Ok.client c.put.new.client l.working stays (asks_marks 528 a.0 c.in-Ok.client c.put.new.client a.1.1) number in
    put_stored c.args.key c.args.value c.in-Ok-put.old before _ _ (c.in-Ok-put.ensures.before before.map.pairs m)
    (put_changes g.D.Disk.faults before c.in-Ok.client c.put.new.client c.commit.new.kept l stays number c.in-Ok-commit.ensures.done c.args.key c.args.value c.in-Ok-put.ensures.map c.in-Ok-put.ensures.outside c.in-Ok-put.ensures.gains)
    c.in-Ok-commit.ensures.goes (later_then g.D.Disk.faults before c.put.new.client _ w c.commit.ensures.later)

pub returns-in-Err-commit-clause-puts : goal.returns-in-Err-commit-clause-puts
returns-in-Err-commit-clause-puts g c =
    let before = view_of g.D.Disk.faults c.args.kept.now in
    let l = c.in-Ok.ensures.looked in
    let m = looked_map g.D.Disk.faults before c.in-Ok.client l in
    let a = c.in-Ok-put.ensures.asks before.map.pairs m in
    let stays = asks_stays 528 a.0 c.in-Ok.client c.put.new.client l.working.at_work.running a.1.1 in
    let number = run_number a.1.1.made c.in-Ok.client c.put.new.client a.1.1.run in
    let w = working_on g.D.Disk.faults before c.in-Ok.client c.put.new.client l.working stays (asks_marks 528 a.0 c.in-Ok.client c.put.new.client a.1.1) number in
    put_failed c.args.key c.args.value c.in-Err-commit.failure before _ _
    (commit_stops g.D.Disk.faults g.D.Disk.may_leave c.in-Err-commit.failure before c.put.new.client c.commit.new.kept (Puts c.args.key c.args.value before.map) w (keeps_map (seen c.put.new.client).graph (with_pair c.args.key c.args.value before.map.pairs) (c.in-Ok-put.ensures.map before.map.pairs m))
    (λ sound within. put_asked g.D.Disk.faults before c.in-Ok.client c.put.new.client l stays sound within c.args.key c.args.value c.in-Ok-put.ensures.map c.in-Ok-put.ensures.outside c.in-Ok-put.ensures.gains) c.in-Err-commit.ensures.failed)
    (later_then g.D.Disk.faults before c.put.new.client _ w c.commit.ensures.later)

-- ---- every id was stored

pub abort-requires-clause-at_work : goal.abort-requires-clause-at_work
abort-requires-clause-at_work g c κs within =
    let before = view_of g.D.Disk.faults c.args.kept.now in
    let why = c.in-Err-put.refusal in
    let f = c.in-Err-put.ensures.refused in
    let e = is_no_id why (sym c.is_full.ensures ∙ c.if-is_full.true) in
    (working_on g.D.Disk.faults before c.in-Ok.client c.put.new.client c.in-Ok.ensures.looked.working (full_stays why c.in-Ok.client c.put.new.client f e) (full_marks why c.in-Ok.client c.put.new.client f e) (full_number why c.in-Ok.client c.put.new.client f)).at_work

pub returns-then-is_full-clause-puts : goal.returns-then-is_full-clause-puts
returns-then-is_full-clause-puts g c =
    let before = view_of g.D.Disk.faults c.args.kept.now in
    let why = c.in-Err-put.refusal in
    let f = c.in-Err-put.ensures.refused in
    let l = c.in-Ok.ensures.looked in
    let e = is_no_id why (sym c.is_full.ensures ∙ c.if-is_full.true) in
    let w = working_on g.D.Disk.faults before c.in-Ok.client c.put.new.client l.working (full_stays why c.in-Ok.client c.put.new.client f e) (full_marks why c.in-Ok.client c.put.new.client f e) (full_number why c.in-Ok.client c.put.new.client f) in
    let b = gives_up g.D.Disk.faults before c.put.new.client c.abort.new.kept w c.abort.ensures.kept in
    put_no_room c.args.key c.args.value before _ _ (no_room c.args.key _ before l.room (c.in-Err-put.ensures.full e before.map.pairs (looked_map g.D.Disk.faults before c.in-Ok.client l))) b.map c.abort.ensures.goes b.later

-- ---- it was refused

pub returns-clause-puts : goal.returns-clause-puts
returns-clause-puts g c =
    let before = view_of g.D.Disk.faults c.args.kept.now in
    let s = map_stops g.D.Disk.faults g.D.Disk.may_leave c.in-Err-put.refusal c.failure_in.result before c.in-Ok.client c.put.new.client c.stop.new.kept (Puts c.args.key c.args.value before.map) c.in-Ok.ensures.looked.working c.in-Err-put.ensures.refused (not_no_id c.in-Err-put.refusal (sym c.is_full.ensures ∙ c.if-is_full.false)) c.failure_in.ensures c.stop.ensures.kept c.stop.ensures.left in
    put_failed c.args.key c.args.value c.failure_in.result before _ _ s.fails s.later

pub returns-clause-kept : goal.returns-clause-kept
returns-clause-kept g c =
    let before = view_of g.D.Disk.faults c.args.kept.now in
    (map_stops g.D.Disk.faults g.D.Disk.may_leave c.in-Err-put.refusal c.failure_in.result before c.in-Ok.client c.put.new.client c.stop.new.kept (λ n. n ≡ before.map) c.in-Ok.ensures.looked.working c.in-Err-put.ensures.refused (not_no_id c.in-Err-put.refusal (sym c.is_full.ensures ∙ c.if-is_full.false)) c.failure_in.ensures c.stop.ensures.kept c.stop.ensures.left).is_kept
