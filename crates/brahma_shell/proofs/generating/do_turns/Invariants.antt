use Rattle.call_generator.specs.Generator.{turns_left}
use Rattle.brahma_shell.specs.Log.{StaysRunning}
use Rattle.brahma_shell.proofs.TurnLemmas.{DoesSofar}
use Rattle.brahma_shell.proofs.generating.do_turns.Given as goal

abbrev pub invariant-turns : goal.invariant-turns
invariant-turns g l = record {
  sofar : DoesSofar l.fn.generator l.generator l.fn.store.journal l.store.journal;
  goes_on : StaysRunning g.D.Disk.faults l.fn.store l.store;
}

abbrev pub decreases-turns : goal.decreases-turns
decreases-turns g l = turns_left l.generator
