use Rattle.std.proofs.Common.{refl}
use Rattle.stored_map.proofs.FindLaws.{opened_quiet, finds_map, finds_no_map}
use Rattle.stored_map.proofs.finding.find.Goals as goal

pub look-requires-clause-quiet : goal.look-requires-clause-quiet
look-requires-clause-quiet g c κs within = opened_quiet g.D.Disk.content g.D.Disk.may_leave g.D.Disk.moment g.D.Disk.left_since g.D.Disk.faults c.args.disk c.in-Ok.store c.in-Ok.ensures.opened

pub returns-in-Ok-look-clause-found : goal.returns-in-Ok-look-clause-found
returns-in-Ok-look-clause-found g c =
    finds_map g.D.Disk.content g.D.Disk.may_leave g.D.Disk.moment g.D.Disk.left_since g.D.Disk.faults c.args.disk c.in-Ok.store c.in-Ok.ensures.opened c.in-Ok.ensures.opens_meanwhile c.know_left.ensures.sized c.know_left.ensures.left c.in-Ok-look.store c.in-Ok-look.ensures.looking c.in-Ok-look.ensures.stays

pub returns-in-Err-look-clause-none : goal.returns-in-Err-look-clause-none
returns-in-Err-look-clause-none g c =
    finds_no_map g.D.Disk.content g.D.Disk.may_leave g.D.Disk.moment g.D.Disk.left_since g.D.Disk.faults c.args.disk c.in-Ok.store c.in-Ok.ensures.opened c.in-Ok.ensures.opens_meanwhile c.know_left.ensures.sized c.know_left.ensures.left c.in-Err-look.unread.0 c.in-Err-look.unread.1 c.in-Err-look.ensures.refused

pub returns-in-Err-clause-none : goal.returns-in-Err-clause-none
returns-in-Err-clause-none g c = record { disk = c.in-Err.disk; is = refl; refused = c.in-Err.ensures.refused; meanwhile = c.in-Err.ensures.meanwhile; fault = c.in-Err.ensures.fault }
