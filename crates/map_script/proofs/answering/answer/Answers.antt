use Rattle.std.proofs.Common.{[], refl}
use Rattle.script_lines.proofs.OutputLemmas.{Appends-none}
use Rattle.map_script.proofs.answering.answer.Goals as goal

pub returns-in-Nothing-clause-ok : goal.returns-in-Nothing-clause-ok
returns-in-Nothing-clause-ok g c = rw c.in-Nothing.is ([], (refl, refl), c.requires.goes, Appends-none (g.W.Sink.written c.args.out.now))
