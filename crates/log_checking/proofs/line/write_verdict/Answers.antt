use Rattle.std.proofs.Common.{ℕ, List, subst, ◌∙◌}
use Rattle.std.specs.Prelude.{OnErr}
use Rattle.script_lines.specs.Output.{AppendsFront}
use Rattle.log_checking.proofs.line.write_verdict.Goals as goal

pub returns-clause-front : goal.returns-clause-front
returns-clause-front g c =
    subst (λ (w : List ℕ). OnErr c.write_all.result (AppendsFront (g.W.Sink.written c.args.out.now) (g.W.Sink.written c.write_all.new.out) w))
    (c.as_bytes.ensures.value ∙ c.as_str.ensures.value ∙ c.verdict_line-line.ensures) c.write_all.ensures.front
