use Rattle.std.proofs.Common.{arith}
use Rattle.log_checking.proofs.feeding.feed_bytes.Goals as goal

pub returns-in-Err-clause-bytes : goal.returns-in-Err-clause-bytes
returns-in-Err-clause-bytes g c = λ i. omega (arith, c.type_inv.bytes i)

pub returns-then-ended-clause-bytes : goal.returns-then-ended-clause-bytes
returns-then-ended-clause-bytes g c = λ i. omega (arith, c.type_inv.bytes i)

pub returns-clause-bytes : goal.returns-clause-bytes
returns-clause-bytes g c = λ i. omega (arith, c.type_inv.bytes i)
