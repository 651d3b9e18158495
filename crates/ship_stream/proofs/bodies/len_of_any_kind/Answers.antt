use Rattle.ship_stream.proofs.BodyLaws.{none_stands, first_within}
use Rattle.ship_stream.proofs.bodies.len_of_any_kind.Goals as goal

pub returns-then-not-may_stand-clause-none : goal.returns-then-not-may_stand-clause-none
returns-then-not-may_stand-clause-none g c =
    none_stands c.requires c.args.bytes.now c.args.is_first c.args.pages c.args.offset c.in-Ok.rec c.in-Ok.len c.in-Ok.ensures.ok
    (λ stands. let yes = c.may_stand.ensures.1 stands in cc)

pub returns-in-Err-clause-none : goal.returns-in-Err-clause-none
returns-in-Err-clause-none g c r len b stands = c.in-Err.ensures.bad r len b

pub returns-else-not-may_stand-clause-within : goal.returns-else-not-may_stand-clause-within
returns-else-not-may_stand-clause-within g c = first_within c.args.bytes.now c.in-Ok.rec c.in-Ok.len c.in-Ok.ensures.ok
