use Rattle.share_runs.specs.Passes.{StaysOf}
use Rattle.share_runs.proofs.calls.ask_on.Given as goal

abbrev pub invariant-tries : goal.invariant-tries
invariant-tries g l = StaysOf l.fn.store l.fn.pass l.pass
