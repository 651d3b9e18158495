use Rattle.std.proofs.Common.{refl}
use Rattle.stored_map.specs.Stores.{view_of, leaving, Tell}
use Rattle.map_script.proofs.StoreLemmas.{keeps-same}
use Rattle.map_script.proofs.AnswerLemmas.{line-done, line-stopped}
use Rattle.map_script.proofs.answering.do_line.Goals as goal

pub returns-in-Some-clause-ok : goal.returns-in-Some-clause-ok
returns-in-Some-clause-ok g c =
    line-done (Tell g.D.Disk.content) c.answer.result c.args.number c.args.bytes.now c.in-Some.line (view_of g.D.Disk.faults c.args.store.now) (view_of g.D.Disk.faults c.answer.new.store) (leaving g.D.Disk.may_leave c.answer.new.store) _ _ c.in-Some.ensures.0 c.in-Some.ensures.1 c.answer.ensures.ok

pub returns-in-Some-clause-stopped : goal.returns-in-Some-clause-stopped
returns-in-Some-clause-stopped g c =
    line-stopped (Tell g.D.Disk.content) c.answer.result c.args.number c.args.bytes.now c.in-Some.line (view_of g.D.Disk.faults c.args.store.now) (view_of g.D.Disk.faults c.answer.new.store) (leaving g.D.Disk.may_leave c.answer.new.store) _ _ c.in-Some.ensures.0 c.in-Some.ensures.1 c.answer.ensures.stopped

pub returns-in-None-clause-stopped : goal.returns-in-None-clause-stopped
returns-in-None-clause-stopped g c = (refl, c.in-None.ensures, refl, c.requires.goes, keeps-same (g.W.Sink.written c.args.out.now))
