use Rattle.std.proofs.Common.{sym, subst}
use Rattle.object_store.specs.Calls.{Looks}
use Rattle.object_store.proofs.AskLaws.{PayDone, pay_done, live_same}
use Rattle.object_store.proofs.asking.get_pay.Goals as goal

pub returns-in-Ok : goal.returns-in-Ok
returns-in-Ok g c =
    let v = c.args.below.now in
    let w = c.ask.new.below in
    let R : PayDone c.args.object v w c.in-Ok.reply = pay_done c.args.object v w c.in-Ok.reply c.requires.live c.requires.held c.in-Ok.ensures.does in
    record {
      live = R.live;
      looks = subst (λ n. Looks c.args.object n v w) (sym (c.payload_in.ensures R.payload R.told)) R.looks_at;
      short = tt;
    }

pub returns-in-Err : goal.returns-in-Err
returns-in-Err g c = record {
  live = live_same c.args.below.now c.ask.new.below c.requires.live c.ask.ensures.running c.in-Err.ensures.short.same;
  looks = tt;
  short = c.in-Err.ensures.short;
}
