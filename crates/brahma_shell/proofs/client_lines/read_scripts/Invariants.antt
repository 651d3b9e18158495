use Rattle.std.proofs.Common.{◌≤◌, ◌-◌, List}
use Rattle.script_lines.specs.declared.grammar.Line.{Line}
use Rattle.brahma_shell.specs.ClientScripts.{AreOfLines}
use Rattle.brahma_shell.specs.ClientLines.{TakesLines}
use Rattle.brahma_shell.specs.Scripts.{left_in}
use Rattle.brahma_shell.proofs.client_lines.read_scripts.Given as goal

abbrev pub invariant-lines : goal.invariant-lines
invariant-lines g l = record {
  number : (1 ≤ l.script.number) × (l.script.number ≤ 65537);
  sofar : (asked : List Line) × AreOfLines asked l.scripts × TakesLines l.ids (g.R.Source.left l.fn.source) (left_in l.script (g.R.Source.left l.source)) (l.script.number - 1) asked;
  source_later : g.R.Source.faults l.fn.source ≤ g.R.Source.faults l.source;
}

abbrev pub decreases-lines : goal.decreases-lines
decreases-lines g l = 65538 - l.script.number
