use Rattle.std.proofs.Common.{◌≡◌, sym, subst, Ok, IfOk, IfErr}
use Rattle.plain_model.specs.declared.calls.Call.TheVariants as call
use Rattle.object_store.specs.Calls.{IsShort, Reads}
use Rattle.object_store.proofs.AskLaws.{ReadDone, read_done, live_same}
use Rattle.object_store.proofs.asking.read.Goals as goal

pub returns-in-Ok : goal.returns-in-Ok
returns-in-Ok g c =
    let v = c.args.below.now in
    let w = c.ask.new.below in
    let R : ReadDone c.args.object c.args.slot c.args.into v w c.in-Ok.reply = read_done c.args.object c.args.slot c.args.into v w c.in-Ok.reply c.requires.live c.requires.held c.requires.target c.in-Ok.ensures.does in
    let is : c.id_in.result ≡ Ok R.id = c.id_in.ensures.id R.id R.told in
    record {
      live = R.live;
      reads = subst (λ q. IfOk q (λ id. Reads c.args.object c.args.slot c.args.into id v w)) (sym is) R.reads_it;
      short = subst (λ q. IfErr q (λ why. IsShort (call.Read c.args.object.register c.args.slot c.args.into) why v w)) (sym is) tt;
    }

pub returns-in-Err : goal.returns-in-Err
returns-in-Err g c = record {
  live = live_same c.args.below.now c.ask.new.below c.requires.live c.ask.ensures.running c.in-Err.ensures.short.same;
  reads = tt;
  short = c.in-Err.ensures.short;
}
