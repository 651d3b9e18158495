use Rattle.std.proofs.Common.{◌*◌}
use Rattle.std.proofs.Math.Nat.{mod-add-mod}
use Rattle.call_generator.specs.Draws.{next_number}
use Rattle.call_generator.proofs.draws.next_number.Goals as goal

pub returns : goal.returns
unfolding next_number
returns c = mod-add-mod (c.args.number * 6364136223846793005) 18446744073709551616 1442695040888963407
