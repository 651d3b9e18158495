use Rattle.std.proofs.Common.{sym, ◌∙◌}
use Rattle.strict_locks.proofs.ClientSetLaws.{in_low, in_high}
use Rattle.strict_locks.proofs.client_set.ClientSet.contains.Goals as goal

pub returns-then-client-lt128 : goal.returns-then-client-lt128
returns-then-client-lt128 c = c.has.ensures ∙ sym (in_low c.args.self.now c.args.client c.if-client-lt128.true)

pub returns-else-client-lt128 : goal.returns-else-client-lt128
returns-else-client-lt128 c = c.has-else-client-lt128.ensures ∙ sym (in_high c.args.self.now c.args.client c.if-client-lt128.false c.ranges.client.fits)
