use Rattle.std.proofs.Common.{◌≡◌, length, ap, ◌∙◌, arith}
use Rattle.plain_map.specs.Pairs.{Pairs}
use Rattle.stored_map.specs.Stores.{view_of}
use Rattle.stored_map.proofs.LookLaws.{looked_looks}
use Rattle.stored_map.proofs.ViewLaws.{looked_keeps, looked_pairs}
use Rattle.stored_map.proofs.KeptLaws.{counted}
use Rattle.stored_map.proofs.CallLaws.{looks_done, looks_failed, looks_unbegun, stops_with}
use Rattle.stored_map.proofs.looking.count.Goals as goal

pub all_pairs-requires-clause-rooted : goal.all_pairs-requires-clause-rooted
all_pairs-requires-clause-rooted g c κs within = c.in-Ok.ensures.looked.rooted

pub all_pairs-requires-clause-map : goal.all_pairs-requires-clause-map
all_pairs-requires-clause-map g c κs within = looked_keeps g.D.Disk.faults (view_of g.D.Disk.faults c.args.kept.now) c.in-Ok.client c.in-Ok.ensures.looked

pub all_pairs-requires-clause-running : goal.all_pairs-requires-clause-running
all_pairs-requires-clause-running g c κs within = c.in-Ok.ensures.looked.working.at_work.running

pub all_pairs-requires-clause-unmarked : goal.all_pairs-requires-clause-unmarked
all_pairs-requires-clause-unmarked g c κs within = c.in-Ok.ensures.looked.working.at_work.unmarked

pub returns-in-Err-clause-looks : goal.returns-in-Err-clause-looks
returns-in-Err-clause-looks g c = looks_unbegun _ _ _ _ _ c.in-Err.ensures.failed c.in-Err.ensures.later

pub returns-in-Ok-all_pairs-clause-looks : goal.returns-in-Ok-all_pairs-clause-looks
returns-in-Ok-all_pairs-clause-looks g c =
    let before = view_of g.D.Disk.faults c.args.kept.now in
    let l = looked_looks g.D.Disk.faults before c.in-Ok.client c.all_pairs.new.client c.in-Ok.ensures.looked c.in-Ok-all_pairs.ensures.looks in
    let n = counted g.D.Disk.faults g.D.Disk.may_leave before c.all_pairs.new.client c.into_store-store.result l c.into_store-store.ensures.client c.into_store-store.ensures.store c.know_left.ensures.known c.know_left.ensures.left in
    let len : c.len.result ≡ length c.in-Ok-all_pairs.pairs.items = grind (arith, c.len.ensures) in
    looks_done _ _ _ _ _ (len ∙ ap (λ (ps : Pairs). length ps) (c.in-Ok-all_pairs.ensures.pairs ∙ looked_pairs g.D.Disk.faults before c.in-Ok.client c.in-Ok.ensures.looked)) n.map n.goes n.later

pub returns-in-Ok-all_pairs-clause-room : goal.returns-in-Ok-all_pairs-clause-room
returns-in-Ok-all_pairs-clause-room g c =
    let before = view_of g.D.Disk.faults c.args.kept.now in
    let l = looked_looks g.D.Disk.faults before c.in-Ok.client c.all_pairs.new.client c.in-Ok.ensures.looked c.in-Ok-all_pairs.ensures.looks in
    (counted g.D.Disk.faults g.D.Disk.may_leave before c.all_pairs.new.client c.into_store-store.result l c.into_store-store.ensures.client c.into_store-store.ensures.store c.know_left.ensures.known c.know_left.ensures.left).room

pub returns-in-Ok-all_pairs-clause-kept : goal.returns-in-Ok-all_pairs-clause-kept
returns-in-Ok-all_pairs-clause-kept g c =
    let before = view_of g.D.Disk.faults c.args.kept.now in
    let l = looked_looks g.D.Disk.faults before c.in-Ok.client c.all_pairs.new.client c.in-Ok.ensures.looked c.in-Ok-all_pairs.ensures.looks in
    (counted g.D.Disk.faults g.D.Disk.may_leave before c.all_pairs.new.client c.into_store-store.result l c.into_store-store.ensures.client c.into_store-store.ensures.store c.know_left.ensures.known c.know_left.ensures.left).looking

pub returns-in-Err-all_pairs-clause-looks : goal.returns-in-Err-all_pairs-clause-looks
returns-in-Err-all_pairs-clause-looks g c =
    let before = view_of g.D.Disk.faults c.args.kept.now in
    let s = stops_with g.D.Disk.faults g.D.Disk.may_leave c.in-Err-all_pairs.failure before c.in-Ok.client c.all_pairs.new.client c.stop.new.kept (λ n. n ≡ before.map) c.in-Ok.ensures.looked.working c.in-Err-all_pairs.ensures.refused c.stop.ensures.kept c.stop.ensures.left in
    looks_failed _ _ _ _ _ s.fails s.later

pub returns-in-Err-all_pairs-clause-kept : goal.returns-in-Err-all_pairs-clause-kept
returns-in-Err-all_pairs-clause-kept g c =
    let before = view_of g.D.Disk.faults c.args.kept.now in
    (stops_with g.D.Disk.faults g.D.Disk.may_leave c.in-Err-all_pairs.failure before c.in-Ok.client c.all_pairs.new.client c.stop.new.kept (λ n. n ≡ before.map) c.in-Ok.ensures.looked.working c.in-Err-all_pairs.ensures.refused c.stop.ensures.kept c.stop.ensures.left).is_kept
