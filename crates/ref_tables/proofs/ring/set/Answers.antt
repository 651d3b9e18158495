use Rattle.ref_tables.proofs.LinkLaws.{HasPut-in_place}
use Rattle.ref_tables.proofs.ring.set.Goals as goal

pub returns-then-is_in_place-clause-link : goal.returns-then-is_in_place-clause-link
returns-then-is_in_place-clause-link c = (HasPut-in_place c.args.links.now c.args.id c.args.link c.pair_mut-old.ensures.unique (c.is_in_place.ensures c.if-is_in_place.true) c.requires).links

pub returns-then-is_in_place-clause-linked : goal.returns-then-is_in_place-clause-linked
returns-then-is_in_place-clause-linked c = (HasPut-in_place c.args.links.now c.args.id c.args.link c.pair_mut-old.ensures.unique (c.is_in_place.ensures c.if-is_in_place.true) c.requires).linked
