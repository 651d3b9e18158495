use Rattle.object_store.proofs.AskLaws.{set_done, live_same}
use Rattle.object_store.proofs.asking.set_pay.Goals as goal

pub returns-in-Ok : goal.returns-in-Ok
returns-in-Ok g c =
    let R = set_done c.args.object c.args.value c.args.below.now c.ask.new.below c.in-Ok.field-0 c.requires.live c.requires.held c.in-Ok.ensures.does in
    record { live = R.live; writes = R.writes; short = tt }

pub returns-in-Err : goal.returns-in-Err
returns-in-Err g c = record {
  live = live_same c.args.below.now c.ask.new.below c.requires.live c.ask.ensures.running c.in-Err.ensures.short.same;
  writes = tt;
  short = c.in-Err.ensures.short;
}
