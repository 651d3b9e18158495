use Rattle.std.proofs.Common.{true, sym, subst}
use Rattle.object_map.specs.Clients.{ClientView}
use Rattle.stored_map.specs.Stores.{view_at}
use Rattle.stored_map.specs.Steps.{IsLooked}
use Rattle.stored_map.proofs.ViewLaws.{begun_looked}
use Rattle.stored_map.proofs.KeptLaws.{only_of, begin_stops}
use Rattle.stored_map.proofs.transacting.begin_at.Goals as goal

pub begin-requires-clause-quiet : goal.begin-requires-clause-quiet
begin-requires-clause-quiet g c κs within = c.requires.idle.quiet

pub new-requires-clause-running : goal.new-requires-clause-running
new-requires-clause-running g c κs within = c.in-Ok.ensures.begun.client.running

pub new-requires-clause-alone : goal.new-requires-clause-alone
new-requires-clause-alone g c κs within = only_of c.begin.new.store 1 c.in-Ok.ensures.begun.client

pub returns-in-Ok-clause-looked : goal.returns-in-Ok-clause-looked
returns-in-Ok-clause-looked g c =
    let e = c.in-Ok.ensures in
    subst (λ (x : ClientView _). IsLooked g.D.Disk.faults (view_at g.D.Disk.faults true c.args.store) x) (sym c.new.ensures)
    (begun_looked g.D.Disk.faults c.args.store c.begin.new.store c.requires.idle e.stays e.begun.client.alone.sound.committed e.begun.unmarked e.begun.rooted e.begun.same e.free)

pub returns-in-Err-clause-failed : goal.returns-in-Err-clause-failed
returns-in-Err-clause-failed g c = (begin_stops g.D.Disk.faults g.D.Disk.may_leave c.in-Err.failure c.args.store c.begin.new.store c.requires.idle c.in-Err.ensures.refused c.know_left.ensures.known c.know_left.ensures.left).fails

pub returns-in-Err-clause-later : goal.returns-in-Err-clause-later
returns-in-Err-clause-later g c = (begin_stops g.D.Disk.faults g.D.Disk.may_leave c.in-Err.failure c.args.store c.begin.new.store c.requires.idle c.in-Err.ensures.refused c.know_left.ensures.known c.know_left.ensures.left).later

pub returns-in-Err-clause-kept : goal.returns-in-Err-clause-kept
returns-in-Err-clause-kept g c = (begin_stops g.D.Disk.faults g.D.Disk.may_leave c.in-Err.failure c.args.store c.begin.new.store c.requires.idle c.in-Err.ensures.refused c.know_left.ensures.known c.know_left.ensures.left).is_kept
