use Rattle.std.proofs.Common.{◌<◌, ◌≤◌, ◌∙◌, ℕ, List, ap, length, arith}
use Rattle.std.proofs.lemmas.List.{get_or_default, length-append}
use Rattle.par_audit.proofs.FollowLaws.{turn-more}
use Rattle.par_audit.proofs.following.follow_in_turn.Goals as goal

pub loop-i-preserved : goal.loop-i-preserved
loop-i-preserved g c =
    let low : c.args.«from» ≤ c.loop-i.i = (let a = c.loop-i.auto in omega (arith, a)) in
    let high : c.loop-i.i < length c.args.found.now.items = (let t = c.loop-i-test.true in let e = c.len-i-end.ensures in omega (arith, t, e)) in
    let long = ap (λ (l : List ℕ). length l) c.loop-i.invariant.appended in
    let whole = length-append c.args.found.now.items c.loop-i.invariant.found in
    let within : c.loop-i.i < length c.loop-i.found.items = omega (arith, high, long, whole) in
    let value = c.index-id.ensures ∙ get_or_default c.loop-i.found.items c.loop-i.i c.index-id.result.now 0 within in
    turn-more c.args.cells.now c.args.«from» c.loop-i.i c.index-id.result.now c.args.found.now.items c.loop-i.found.items c.follow.new.found.items c.args.unreached.now c.loop-i.unreached c.follow.new.unreached low high value c.loop-i.invariant c.in_ok-follow.ensures
