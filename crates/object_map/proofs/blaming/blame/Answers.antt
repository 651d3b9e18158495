use Rattle.std.proofs.Common.{refl}
use Rattle.object_map.specs.Walking.Blames.{keeps, turns, stops}
use Rattle.object_map.proofs.blaming.blame.Goals as goal

pub has_wrong_key-requires-clause-rooted : goal.has_wrong_key-requires-clause-rooted
has_wrong_key-requires-clause-rooted g c κs within = (c.requires.ready c.in-NotMap.id c.in-NotMap.is).rooted

pub has_wrong_key-requires-clause-start : goal.has_wrong_key-requires-clause-start
has_wrong_key-requires-clause-start g c κs within = (c.requires.ready c.in-NotMap.id c.in-NotMap.is).start

pub has_wrong_key-requires-clause-fork : goal.has_wrong_key-requires-clause-fork
has_wrong_key-requires-clause-fork g c κs within = (c.requires.ready c.in-NotMap.id c.in-NotMap.is).fork

pub returns-in-Ok-true : goal.returns-in-Ok-true
returns-in-Ok-true g c = turns c.in-NotMap.id c.in-NotMap.is refl (c.in-Ok-true.ensures.yes c.in-Ok-true.field-0-test) c.in-Ok-true.ensures.looks

pub returns-in-Ok-false : goal.returns-in-Ok-false
returns-in-Ok-false g c = keeps c.in-NotMap.id c.in-NotMap.is refl (c.in-Ok-false.ensures.no c.in-Ok-false.field-0-test) c.in-Ok-false.ensures.looks

pub returns-in-Err : goal.returns-in-Err
returns-in-Err g c = stops c.in-NotMap.id c.in-NotMap.is c.in-Err.ensures.refused
