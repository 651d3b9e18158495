use Rattle.std.proofs.Common.{◌≡◌, ◌+◌, ◌-◌, ◌∷◌, ◌++◌, [], subst, arith}
use Rattle.std.specs.Io.KnownBytes.{prepend_known}
use Rattle.script_lines.specs.LineReader.{pending}
use Rattle.brahma_shell.specs.ClientLines.{TakesLines}
use Rattle.brahma_shell.specs.Scripts.{left_in}
use Rattle.brahma_shell.proofs.ClientLineLemmas.{takes-more, all-last, all-end, some-fault}
use Rattle.brahma_shell.proofs.client_lines.read_scripts.Goals as goal

pub lines-preserved : goal.lines-preserved
lines-preserved g c =
    let i = c.lines.invariant in
    let number = c.lines.script.number in
    let found = rw c.in-Ok-Line.field-0-is at c.in-Ok-Line.ensures.found in
    let takes = rw (← c.line.ensures) at found in
    let t = c.in-Ok.ensures.taken i.sofar.0 i.sofar.1 in
    let start = g.R.Source.left c.args.source.now in
    let mid = left_in c.lines.script (g.R.Source.left c.lines.source) in
    let rest = prepend_known (pending c.advance.new.self) (g.R.Source.left c.advance.new.source) in
    let place : number ≡ number - 1 + 1 = omega (arith, i.number.0) in
    let next : number - 1 + 1 ≡ number + 1 - 1 = omega (arith, i.number.0) in
    let within = t.1.accepted.within_script in
    record {
      number = (omega arith, omega (arith, within));
      sofar = (i.sofar.0 ++ t.0 ∷ [], t.2, subst (λ n. TakesLines c.args.ids start rest n (i.sofar.0 ++ t.0 ∷ [])) next (takes-more c.args.ids start mid rest c.line.result.now (number - 1) number i.sofar.0 t.0 place i.sofar.2 takes t.1));
      source_later = omega (arith, i.source_later, c.in-Ok-Line.ensures.cause.later);
    }

pub returns-in-Ok-take_line-clause-read : goal.returns-in-Ok-take_line-clause-read
returns-in-Ok-take_line-clause-read g c =
    let i = c.lines.invariant in
    let number = c.lines.script.number in
    let found = rw c.in-Ok-LastLine.field-0-is at c.in-Ok-LastLine.ensures.found in
    let takes = rw (← c.line-in-Ok-LastLine.ensures) at found in
    let t = c.in-Ok-take_line.ensures.taken i.sofar.0 i.sofar.1 in
    let mid = left_in c.lines.script (g.R.Source.left c.lines.source) in
    let place : number ≡ number - 1 + 1 = omega (arith, i.number.0) in
    (i.sofar.0 ++ t.0 ∷ [], t.2, all-last c.args.ids (g.R.Source.left c.args.source.now) mid (g.R.Source.left c.advance.new.source) (pending c.advance.new.self) c.line-in-Ok-LastLine.result.now (number - 1) number i.sofar.0 t.0 place i.sofar.2 takes t.1)

pub returns-in-Ok-End-clause-read : goal.returns-in-Ok-End-clause-read
returns-in-Ok-End-clause-read g c =
    let i = c.lines.invariant in
    let found = rw c.in-Ok-End.field-0-is at c.in-Ok-End.ensures.found in
    let mid = left_in c.lines.script (g.R.Source.left c.lines.source) in
    (i.sofar.0, i.sofar.1, all-end c.args.ids (g.R.Source.left c.args.source.now) mid (g.R.Source.left c.advance.new.source) (pending c.advance.new.self) (c.lines.script.number - 1) i.sofar.0 i.sofar.2 found)

pub returns-in-Err-clause-stopped : goal.returns-in-Err-clause-stopped
returns-in-Err-clause-stopped g c =
    let i = c.lines.invariant in
    let mid = left_in c.lines.script (g.R.Source.left c.lines.source) in
    (i.sofar.0, some-fault c.args.ids (g.R.Source.left c.args.source.now) mid (g.R.Source.left c.advance.new.source) (pending c.advance.new.self) (c.lines.script.number - 1) i.sofar.0 i.sofar.2 c.in-Err.ensures.failed.0 c.in-Err.ensures.failed.1)
