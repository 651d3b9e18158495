use Rattle.stored_map.proofs.KeptLaws.{found_kept, found_goes, unfound_kept}
use Rattle.stored_map.proofs.map.StoredMap.open.Goals as goal

pub invariant_of-result : goal.invariant_of-result
invariant_of-result g c = found_kept g.D.Disk.content g.D.Disk.may_leave g.D.Disk.moment g.D.Disk.left_since g.D.Disk.faults c.args.disk c.in-Ok.kept c.in-Ok.ensures.found

pub released-requires-clause-kept : goal.released-requires-clause-kept
released-requires-clause-kept g c κs within = unfound_kept g.D.Disk.content g.D.Disk.may_leave g.D.Disk.moment g.D.Disk.left_since g.D.Disk.faults c.args.disk c.in-Err.unopened c.in-Err.kept c.in-Err.ensures.none

pub returns-in-Err-clause-none : goal.returns-in-Err-clause-none
returns-in-Err-clause-none g c = (c.in-Err.kept, c.in-Err.ensures.none, c.released.ensures.released)

pub returns-in-Ok-clause-goes : goal.returns-in-Ok-clause-goes
returns-in-Ok-clause-goes g c = found_goes g.D.Disk.content g.D.Disk.may_leave g.D.Disk.moment g.D.Disk.left_since g.D.Disk.faults c.args.disk c.in-Ok.kept c.in-Ok.ensures.found
