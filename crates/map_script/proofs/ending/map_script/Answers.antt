use Rattle.std.proofs.Common.{inl, inr, refl, []}
use Rattle.map_script.specs.Stopping.{last_line}
use Rattle.map_script.proofs.StoreLemmas.{rose-to}
use Rattle.map_script.proofs.EndLemmas.{ends-from}
use Rattle.map_script.proofs.ending.map_script.Goals as goal

pub returns-in-Ok-clause-mapped : goal.returns-in-Ok-clause-mapped
returns-in-Ok-clause-mapped g c = inl (refl, c.in-Ok.ensures.ok)

pub returns-in-Err-clause-mapped : goal.returns-in-Err-clause-mapped
returns-in-Err-clause-mapped g c =
    let e = c.in-Err.ensures in
    let last = c.end_stopped.ensures in
    let faults = g.W.Sink.faults in
    inr (
      c.in-Err.stop,
      last.status,
      record {
        written = g.W.Sink.written c.do_script.new.out;
        stops = e.stopped;
        last = ends-from (g.W.Sink.written c.do_script.new.out) (g.W.Sink.written c.end_stopped.new.out) (faults c.args.out.now) (faults c.do_script.new.out) (faults c.end_stopped.new.out) [] (last_line c.in-Err.stop) e.out_later last.last;
        read = λ is. e.read (cc (is));
        write = λ is. rose-to (faults c.args.out.now) (faults c.do_script.new.out) (faults c.end_stopped.new.out) (e.write (cc (is))) last.later;
      },
    )
