use Rattle.std.proofs.Common.{◌≤◌, ap, length, ◌∙◌, sym, arith}
use Rattle.map_calls.specs.Maps.{MapState}
use Rattle.stored_map.specs.Stores.{view_of, leaving, Tell}
use Rattle.stored_map.proofs.CrashLaws.{uncounted_shut}
use Rattle.stored_map.proofs.crashing.lose_power.Goals as goal

pub returns-in-Ok-count-clause-loses : goal.returns-in-Ok-count-clause-loses
returns-in-Ok-count-clause-loses g c =
    let e = c.in-Ok-count.ensures.looks in
    let one = c.find_again.ensures.later in
    let two = e.later in
    let later : (view_of g.D.Disk.faults c.args.kept.now).faults ≤ (view_of g.D.Disk.faults c.count.new.kept).faults = omega (arith, one, two) in
    record {
      keys = e.value ∙ ap (λ (m : MapState). length m.pairs) (sym e.same);
      same = λ told. e.same ∙ c.in-Ok.ensures.same told;
      goes = e.goes;
      shut = tt;
      later = later;
    }

pub returns-in-Err-count-clause-loses : goal.returns-in-Err-count-clause-loses
returns-in-Err-count-clause-loses g c =
    let e = c.in-Err-count.ensures.looks in
    let one = c.find_again.ensures.later in
    let two = e.later in
    let later : (view_of g.D.Disk.faults c.args.kept.now).faults ≤ (view_of g.D.Disk.faults c.count.new.kept).faults = omega (arith, one, two) in
    record {
      keys = tt;
      same = tt;
      goes = tt;
      shut = uncounted_shut (Tell g.D.Disk.content) c.in-Err-count.failure (view_of g.D.Disk.faults c.args.kept.now) (view_of g.D.Disk.faults c.find_again.new.kept) (view_of g.D.Disk.faults c.count.new.kept) (leaving g.D.Disk.may_leave c.count.new.kept) one c.in-Ok.ensures.same e.failed;
      later = later;
    }

pub returns-in-Err-clause-loses : goal.returns-in-Err-clause-loses
returns-in-Err-clause-loses g c = record { keys = tt; same = tt; goes = tt; shut = c.in-Err.ensures.shut; later = c.find_again.ensures.later }
