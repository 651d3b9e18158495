use Rattle.std.proofs.Common.{subst, Option, ℕ}
use Rattle.plain_model.specs.declared.calls.Call.TheVariants as call
use Rattle.object_store.specs.Calls.{Does, IsShort}
use Rattle.object_store.proofs.AskLaws.{store_done, live_same}
use Rattle.object_store.proofs.asking.store.Goals as goal

pub returns-in-Ok : goal.returns-in-Ok
returns-in-Ok g c =
    let v = c.args.below.now in
    let w = c.ask.new.below in
    let does = subst (λ (f : Option ℕ). Does (call.Store c.args.object.register c.args.slot f) c.in-Ok.field-0 v w) c.register.ensures c.in-Ok.ensures.does in
    let R = store_done c.args.object c.args.slot c.args.to v w c.in-Ok.field-0 c.requires.live c.requires.held c.requires.held_to does in
    record { live = R.live; writes = R.writes; short = tt }

pub returns-in-Err : goal.returns-in-Err
returns-in-Err g c = record {
  live = live_same c.args.below.now c.ask.new.below c.requires.live c.ask.ensures.running c.in-Err.ensures.short.same;
  writes = tt;
  short = subst (λ (f : Option ℕ). IsShort (call.Store c.args.object.register c.args.slot f) c.in-Err.why c.args.below.now c.ask.new.below) c.register.ensures c.in-Err.ensures.short;
}
