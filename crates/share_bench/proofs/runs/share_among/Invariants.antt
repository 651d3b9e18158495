use Rattle.share_bench.specs.Clients.{HasGiven}
use Rattle.share_bench.proofs.runs.share_among.Given as goal

abbrev pub invariant-clients : goal.invariant-clients
invariant-clients g l = HasGiven l.fn.store l.main l.number
