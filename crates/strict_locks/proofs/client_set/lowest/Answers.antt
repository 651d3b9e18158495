use Rattle.std.proofs.Common.{arith}
use Rattle.strict_locks.proofs.ClientSetLaws.{lowest-trailing_zeros}
use Rattle.strict_locks.proofs.client_set.lowest.Goals as goal

pub returns : goal.returns
returns c = lowest-trailing_zeros c.args.word (omega (arith, c.if-word-eq0.false)) c.ranges.word.fits
