use Rattle.std.proofs.Common.{◌∙◌, ap, inl, inr}
use Rattle.map_calls.specs.declared.grammar.Line.TheVariants.{Put}
use Rattle.map_calls.specs.Output.{put_line}
use Rattle.stored_map.specs.Stores.{view_of, leaving, Tell}
use Rattle.map_script.proofs.StoreLemmas.{keeps-same}
use Rattle.map_script.proofs.AnswerLemmas.{answers, stops-writing}
use Rattle.map_script.proofs.answering.put.Goals as goal

pub returns-in-Ok-Stored-clause-ok : goal.returns-in-Ok-Stored-clause-ok
returns-in-Ok-Stored-clause-ok g c =
    let placed = rw c.in-Ok-Stored.field-0-is at c.in-Ok-Stored.ensures.placed in
    let text = c.put_line.ensures ∙ ap put_line placed.0 in
    answers (Tell g.D.Disk.content) c.tell.result (Put c.args.key c.args.value) (view_of g.D.Disk.faults c.args.store.now) (view_of g.D.Disk.faults c.place.new.store) (leaving g.D.Disk.may_leave c.place.new.store) _ _ c.put_line.result.bytes (inl (placed.1, text)) c.in-Ok-Stored.ensures.goes c.tell.ensures.ok

pub returns-in-Ok-Stored-clause-stopped : goal.returns-in-Ok-Stored-clause-stopped
returns-in-Ok-Stored-clause-stopped g c =
    let placed = rw c.in-Ok-Stored.field-0-is at c.in-Ok-Stored.ensures.placed in
    let text = c.put_line.ensures ∙ ap put_line placed.0 in
    stops-writing (Tell g.D.Disk.content) c.tell.result (Put c.args.key c.args.value) (view_of g.D.Disk.faults c.args.store.now) (view_of g.D.Disk.faults c.place.new.store) (leaving g.D.Disk.may_leave c.place.new.store) _ _ c.put_line.result.bytes _ _ (inl (placed.1, text)) c.in-Ok-Stored.ensures.goes c.tell.ensures.err

pub returns-in-Ok-NoRoom-clause-ok : goal.returns-in-Ok-NoRoom-clause-ok
returns-in-Ok-NoRoom-clause-ok g c =
    let placed = rw c.in-Ok-NoRoom.field-0-is at c.in-Ok-NoRoom.ensures.placed in
    answers (Tell g.D.Disk.content) c.tell-in-Ok-NoRoom.result (Put c.args.key c.args.value) (view_of g.D.Disk.faults c.args.store.now) (view_of g.D.Disk.faults c.place.new.store) (leaving g.D.Disk.may_leave c.place.new.store) _ _ c.put_full_line.result.bytes (inr (placed.0, placed.1, c.put_full_line.ensures)) c.in-Ok-NoRoom.ensures.goes c.tell-in-Ok-NoRoom.ensures.ok

pub returns-in-Ok-NoRoom-clause-stopped : goal.returns-in-Ok-NoRoom-clause-stopped
returns-in-Ok-NoRoom-clause-stopped g c =
    let placed = rw c.in-Ok-NoRoom.field-0-is at c.in-Ok-NoRoom.ensures.placed in
    stops-writing (Tell g.D.Disk.content) c.tell-in-Ok-NoRoom.result (Put c.args.key c.args.value) (view_of g.D.Disk.faults c.args.store.now) (view_of g.D.Disk.faults c.place.new.store) (leaving g.D.Disk.may_leave c.place.new.store) _ _ c.put_full_line.result.bytes _ _ (inr (placed.0, placed.1, c.put_full_line.ensures)) c.in-Ok-NoRoom.ensures.goes c.tell-in-Ok-NoRoom.ensures.err

pub returns-in-Err-clause-stopped : goal.returns-in-Err-clause-stopped
returns-in-Err-clause-stopped g c = (c.in-Err.ensures.failed, keeps-same (g.W.Sink.written c.args.out.now))
