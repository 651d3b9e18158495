use Rattle.std.proofs.Common.{◌≡◌, ◌^◌, ◌<◌, ◌≤◌, ◌-◌, length, arith, rules, refl}
use Rattle.log_printing.proofs.AreaLaws.{sized_found, sized_missing, sized_zero}
use Rattle.log_printing.proofs.areas.sized_body.Goals as goal

pub returns-clause-some : goal.returns-clause-some
returns-clause-some c =
    let typed : c.size_in-size.result < 2 ^ 32 = search rules in
    let some : 1 ≤ c.size_in-size.result = search rules in
    let within : c.size_in-size.result ≤ length c.args.bytes.now - 4 = search rules in
    sized_found c.size_in-size.result _ c.args.bytes.now typed some within c.size_in-size.ensures refl
