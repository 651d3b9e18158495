use Rattle.share_runs.specs.Passes.{StaysOf}
use Rattle.share_runs.proofs.threads.work.Given as goal

abbrev pub invariant-rounds : goal.invariant-rounds
invariant-rounds g l = StaysOf l.fn.store l.fn.pass l.pass
