use Rattle.std.proofs.lemmas.Result.{on_ok_weaker, on_err_weaker}
use Rattle.standby_feeding.proofs.LineLaws.{head_cut, numbers_cut, end_cut, all_written}
use Rattle.standby_feeding.proofs.line.write_promoted.Goals as goal

pub returns-in-Err-clause-front : goal.returns-in-Err-clause-front
returns-in-Err-clause-front g c = head_cut (g.W.Sink.written c.args.out.now) (g.W.Sink.written c.write_head.new.out) c.args.promoted.now c.in-Err.ensures.front

pub returns-in-Err-write_ids-clause-front : goal.returns-in-Err-write_ids-clause-front
returns-in-Err-write_ids-clause-front g c =
    numbers_cut (g.W.Sink.written c.args.out.now) (g.W.Sink.written c.write_head.new.out) (g.W.Sink.written c.write_ids.new.out) c.args.promoted.now c.in-Ok.ensures.ok
    (rw c.items.ensures at c.in-Err-write_ids.ensures.front)

pub returns-clause-ok : goal.returns-clause-ok
returns-clause-ok g c =
    on_ok_weaker c.write_all.result
    (all_written (g.W.Sink.written c.args.out.now) (g.W.Sink.written c.write_head.new.out) (g.W.Sink.written c.write_ids.new.out) (g.W.Sink.written c.write_all.new.out) c.args.promoted.now c.in-Ok.ensures.ok
    (rw c.items.ensures at c.in-Ok-write_ids.ensures.ok)) c.write_all.ensures.ok

pub returns-clause-front : goal.returns-clause-front
returns-clause-front g c =
    on_err_weaker c.write_all.result
    (end_cut (g.W.Sink.written c.args.out.now) (g.W.Sink.written c.write_head.new.out) (g.W.Sink.written c.write_ids.new.out) (g.W.Sink.written c.write_all.new.out) c.args.promoted.now c.in-Ok.ensures.ok
    (rw c.items.ensures at c.in-Ok-write_ids.ensures.ok)) c.write_all.ensures.front
