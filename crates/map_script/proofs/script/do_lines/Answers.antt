use Rattle.std.proofs.Common.{◌≤◌, ◌++◌, ◌∷◌, [], refl, arith}
use Rattle.std.specs.Io.KnownBytes.{prepend_known}
use Rattle.script_lines.specs.LineReader.{pending}
use Rattle.stored_map.specs.Stores.{view_of, leaving, Tell}
use Rattle.map_script.proofs.TakenLemmas.{has-whole, has-last}
use Rattle.map_script.proofs.StopLemmas.{stands-first, place-next, stands-next, last-done, stops, last-stopped, not-read, last-read, came-end, stops-long, stops-read}
use Rattle.map_script.proofs.script.do_lines.Goals as goal

pub lines-init : goal.lines-init
lines-init g c = record {
  within = (omega arith, omega arith);
  stands = ([], refl, stands-first (Tell g.D.Disk.content) (g.R.Source.left c.args.source.now) (pending c.new-lines.result) (view_of g.D.Disk.faults c.args.store.now) (leaving g.D.Disk.may_leave c.args.store.now) (g.W.Sink.written c.args.out.now) c.new-lines.ensures c.requires.goes);
  later = omega arith;
  source_later = omega arith;
  out_later = omega arith;
}

pub lines-preserved : goal.lines-preserved
lines-preserved g c =
    let told = Tell g.D.Disk.content in
    let start = g.R.Source.left c.args.source.now in
    let mid = prepend_known (pending c.lines.lines) (g.R.Source.left c.lines.source) in
    let first = view_of g.D.Disk.faults c.args.store.now in
    let old = view_of g.D.Disk.faults c.lines.store in
    let held = leaving g.D.Disk.may_leave c.lines.store in
    let before = g.W.Sink.written c.args.out.now in
    let reached = g.W.Sink.written c.lines.out in
    let done = c.lines.invariant.stands.0 in
    let place = c.lines.invariant.stands.1 in
    let s = c.lines.invariant.stands.2 in
    let number = c.lines.number in
    let left = g.R.Source.left c.advance.new.source in
    let kept = pending c.advance.new.self in
    let line = c.line.result.now in
    let now = view_of g.D.Disk.faults c.do_line.new.store in
    let leaves = leaving g.D.Disk.may_leave c.do_line.new.store in
    let written = g.W.Sink.written c.do_line.new.out in
    let found = rw c.in-Ok-Line.field-0-is at c.in-Ok-Line.ensures.found in
    let takes = rw (← c.line.ensures) at found in
    let ok = c.in-Ok.ensures.ok in
    let within : number ≤ 65536 = ok.1.1.0.within_script in
    record {
      within = (omega (arith, c.lines.invariant.within.0), omega (arith, within));
      stands = (
        done ++ line ∷ [],
        place-next told start mid first old held before reached done s number line place,
        stands-next told start mid first old held before reached done s number line place (prepend_known kept left) now leaves written takes ok,
      );
      later = omega (arith, c.lines.invariant.later, c.in-Ok.ensures.later);
      source_later = omega (arith, c.lines.invariant.source_later, c.in-Ok-Line.ensures.cause.later);
      out_later = omega (arith, c.lines.invariant.out_later, c.in-Ok.ensures.out_later);
    }

pub returns-in-Err-do_line-clause-stopped : goal.returns-in-Err-do_line-clause-stopped
returns-in-Err-do_line-clause-stopped g c =
    let told = Tell g.D.Disk.content in
    let start = g.R.Source.left c.args.source.now in
    let mid = prepend_known (pending c.lines.lines) (g.R.Source.left c.lines.source) in
    let first = view_of g.D.Disk.faults c.args.store.now in
    let old = view_of g.D.Disk.faults c.lines.store in
    let held = leaving g.D.Disk.may_leave c.lines.store in
    let before = g.W.Sink.written c.args.out.now in
    let reached = g.W.Sink.written c.lines.out in
    let done = c.lines.invariant.stands.0 in
    let place = c.lines.invariant.stands.1 in
    let s = c.lines.invariant.stands.2 in
    let number = c.lines.number in
    let left = g.R.Source.left c.advance.new.source in
    let kept = pending c.advance.new.self in
    let line = c.line.result.now in
    let now = view_of g.D.Disk.faults c.do_line.new.store in
    let leaves = leaving g.D.Disk.may_leave c.do_line.new.store in
    let written = g.W.Sink.written c.do_line.new.out in
    let found = rw c.in-Ok-Line.field-0-is at c.in-Ok-Line.ensures.found in
    let takes = rw (← c.line.ensures) at found in
    stops told start mid first old held before reached done s number line place c.in-Err-do_line.stop left now leaves written (has-whole mid (prepend_known kept left) line takes) c.lines.invariant.later c.in-Err-do_line.ensures.stopped

pub returns-in-Err-do_line-clause-read : goal.returns-in-Err-do_line-clause-read
returns-in-Err-do_line-clause-read g c =
    let told = Tell g.D.Disk.content in
    let start = g.R.Source.left c.args.source.now in
    let mid = prepend_known (pending c.lines.lines) (g.R.Source.left c.lines.source) in
    let first = view_of g.D.Disk.faults c.args.store.now in
    let old = view_of g.D.Disk.faults c.lines.store in
    let held = leaving g.D.Disk.may_leave c.lines.store in
    let before = g.W.Sink.written c.args.out.now in
    let reached = g.W.Sink.written c.lines.out in
    let done = c.lines.invariant.stands.0 in
    let place = c.lines.invariant.stands.1 in
    let s = c.lines.invariant.stands.2 in
    let number = c.lines.number in
    let left = g.R.Source.left c.advance.new.source in
    let kept = pending c.advance.new.self in
    let line = c.line.result.now in
    let now = view_of g.D.Disk.faults c.do_line.new.store in
    let leaves = leaving g.D.Disk.may_leave c.do_line.new.store in
    let written = g.W.Sink.written c.do_line.new.out in
    λ is. not-read told start mid first old held before reached done s number line place c.in-Err-do_line.stop now leaves written _ c.in-Err-do_line.ensures.stopped (cc (is))

pub returns-in-Ok-LastLine-clause-ok : goal.returns-in-Ok-LastLine-clause-ok
returns-in-Ok-LastLine-clause-ok g c =
    let told = Tell g.D.Disk.content in
    let start = g.R.Source.left c.args.source.now in
    let mid = prepend_known (pending c.lines.lines) (g.R.Source.left c.lines.source) in
    let first = view_of g.D.Disk.faults c.args.store.now in
    let old = view_of g.D.Disk.faults c.lines.store in
    let held = leaving g.D.Disk.may_leave c.lines.store in
    let before = g.W.Sink.written c.args.out.now in
    let reached = g.W.Sink.written c.lines.out in
    let done = c.lines.invariant.stands.0 in
    let place = c.lines.invariant.stands.1 in
    let s = c.lines.invariant.stands.2 in
    let number = c.lines.number in
    let left = g.R.Source.left c.advance.new.source in
    let kept = pending c.advance.new.self in
    let line = c.line-in-Ok-LastLine.result.now in
    let now = view_of g.D.Disk.faults c.do_line-in-Ok-LastLine.new.store in
    let leaves = leaving g.D.Disk.may_leave c.do_line-in-Ok-LastLine.new.store in
    let written = g.W.Sink.written c.do_line-in-Ok-LastLine.new.out in
    let found = rw c.in-Ok-LastLine.field-0-is at c.in-Ok-LastLine.ensures.found in
    let takes = rw (← c.line-in-Ok-LastLine.ensures) at found in
    last-done told start mid first old held before reached done s number line place c.do_line-in-Ok-LastLine.result left kept now leaves written takes c.do_line-in-Ok-LastLine.ensures.ok

pub returns-in-Ok-LastLine-clause-stopped : goal.returns-in-Ok-LastLine-clause-stopped
returns-in-Ok-LastLine-clause-stopped g c =
    let told = Tell g.D.Disk.content in
    let start = g.R.Source.left c.args.source.now in
    let mid = prepend_known (pending c.lines.lines) (g.R.Source.left c.lines.source) in
    let first = view_of g.D.Disk.faults c.args.store.now in
    let old = view_of g.D.Disk.faults c.lines.store in
    let held = leaving g.D.Disk.may_leave c.lines.store in
    let before = g.W.Sink.written c.args.out.now in
    let reached = g.W.Sink.written c.lines.out in
    let done = c.lines.invariant.stands.0 in
    let place = c.lines.invariant.stands.1 in
    let s = c.lines.invariant.stands.2 in
    let number = c.lines.number in
    let left = g.R.Source.left c.advance.new.source in
    let kept = pending c.advance.new.self in
    let line = c.line-in-Ok-LastLine.result.now in
    let now = view_of g.D.Disk.faults c.do_line-in-Ok-LastLine.new.store in
    let leaves = leaving g.D.Disk.may_leave c.do_line-in-Ok-LastLine.new.store in
    let written = g.W.Sink.written c.do_line-in-Ok-LastLine.new.out in
    let found = rw c.in-Ok-LastLine.field-0-is at c.in-Ok-LastLine.ensures.found in
    let takes = rw (← c.line-in-Ok-LastLine.ensures) at found in
    last-stopped told start mid first old held before reached done s number line place c.do_line-in-Ok-LastLine.result left now leaves written (has-last mid (prepend_known kept left) line takes) c.lines.invariant.later c.do_line-in-Ok-LastLine.ensures.stopped

pub returns-in-Ok-LastLine-clause-read : goal.returns-in-Ok-LastLine-clause-read
returns-in-Ok-LastLine-clause-read g c =
    let told = Tell g.D.Disk.content in
    let start = g.R.Source.left c.args.source.now in
    let mid = prepend_known (pending c.lines.lines) (g.R.Source.left c.lines.source) in
    let first = view_of g.D.Disk.faults c.args.store.now in
    let old = view_of g.D.Disk.faults c.lines.store in
    let held = leaving g.D.Disk.may_leave c.lines.store in
    let before = g.W.Sink.written c.args.out.now in
    let reached = g.W.Sink.written c.lines.out in
    let done = c.lines.invariant.stands.0 in
    let place = c.lines.invariant.stands.1 in
    let s = c.lines.invariant.stands.2 in
    let number = c.lines.number in
    let left = g.R.Source.left c.advance.new.source in
    let kept = pending c.advance.new.self in
    let line = c.line-in-Ok-LastLine.result.now in
    let now = view_of g.D.Disk.faults c.do_line-in-Ok-LastLine.new.store in
    let leaves = leaving g.D.Disk.may_leave c.do_line-in-Ok-LastLine.new.store in
    let written = g.W.Sink.written c.do_line-in-Ok-LastLine.new.out in
    λ is. last-read told start mid first old held before reached done s number line place c.do_line-in-Ok-LastLine.result now leaves written _ c.do_line-in-Ok-LastLine.ensures.stopped is

pub returns-in-Ok-LongLine-clause-stopped : goal.returns-in-Ok-LongLine-clause-stopped
returns-in-Ok-LongLine-clause-stopped g c =
    let told = Tell g.D.Disk.content in
    let start = g.R.Source.left c.args.source.now in
    let mid = prepend_known (pending c.lines.lines) (g.R.Source.left c.lines.source) in
    let first = view_of g.D.Disk.faults c.args.store.now in
    let old = view_of g.D.Disk.faults c.lines.store in
    let held = leaving g.D.Disk.may_leave c.lines.store in
    let before = g.W.Sink.written c.args.out.now in
    let reached = g.W.Sink.written c.lines.out in
    let done = c.lines.invariant.stands.0 in
    let place = c.lines.invariant.stands.1 in
    let s = c.lines.invariant.stands.2 in
    let number = c.lines.number in
    let left = g.R.Source.left c.advance.new.source in
    let kept = pending c.advance.new.self in
    let found = rw c.in-Ok-LongLine.field-0-is at c.in-Ok-LongLine.ensures.found in
    stops-long told start mid left first old held before reached done s number place found

pub returns-in-Ok-End-clause-ok : goal.returns-in-Ok-End-clause-ok
returns-in-Ok-End-clause-ok g c =
    let told = Tell g.D.Disk.content in
    let start = g.R.Source.left c.args.source.now in
    let mid = prepend_known (pending c.lines.lines) (g.R.Source.left c.lines.source) in
    let first = view_of g.D.Disk.faults c.args.store.now in
    let old = view_of g.D.Disk.faults c.lines.store in
    let held = leaving g.D.Disk.may_leave c.lines.store in
    let before = g.W.Sink.written c.args.out.now in
    let reached = g.W.Sink.written c.lines.out in
    let done = c.lines.invariant.stands.0 in
    let place = c.lines.invariant.stands.1 in
    let s = c.lines.invariant.stands.2 in
    let number = c.lines.number in
    let left = g.R.Source.left c.advance.new.source in
    let kept = pending c.advance.new.self in
    let found = rw c.in-Ok-End.field-0-is at c.in-Ok-End.ensures.found in
    came-end told start mid left first old held before reached done s kept found

pub returns-in-Err-clause-stopped : goal.returns-in-Err-clause-stopped
returns-in-Err-clause-stopped g c =
    let told = Tell g.D.Disk.content in
    let start = g.R.Source.left c.args.source.now in
    let mid = prepend_known (pending c.lines.lines) (g.R.Source.left c.lines.source) in
    let first = view_of g.D.Disk.faults c.args.store.now in
    let old = view_of g.D.Disk.faults c.lines.store in
    let held = leaving g.D.Disk.may_leave c.lines.store in
    let before = g.W.Sink.written c.args.out.now in
    let reached = g.W.Sink.written c.lines.out in
    let done = c.lines.invariant.stands.0 in
    let place = c.lines.invariant.stands.1 in
    let s = c.lines.invariant.stands.2 in
    let number = c.lines.number in
    let left = g.R.Source.left c.advance.new.source in
    let kept = pending c.advance.new.self in
    stops-read told start mid left first old held before reached done s kept c.in-Err.ensures.failed.0 c.in-Err.ensures.failed.1
