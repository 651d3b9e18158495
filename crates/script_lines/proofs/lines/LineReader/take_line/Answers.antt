use Rattle.std.proofs.Common.{arith, ◌+◌, ◌-◌, ◌≤◌, drop, add_assoc}
use Rattle.std.proofs.lemmas.List.{length-take}
use Rattle.script_lines.proofs.ReadLemmas.{range-drop}
use Rattle.script_lines.proofs.lines.LineReader.take_line.Goals as goal

pub returns-clause-pending : goal.returns-clause-pending
returns-clause-pending c =
    let s = c.args.self.now in
    let within : s.start + (c.args.at + 1) ≤ s.end = omega (arith, c.requires.there, length-take (s.end - s.start) (drop s.start s.buffer)) in
    rw (add_assoc s.start c.args.at 1) (range-drop s.buffer s.start s.end (c.args.at + 1) within)
