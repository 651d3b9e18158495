use Rattle.std.proofs.Common.{◌≡◌, length, arith}
use Rattle.call_generator.specs.Generator.{new_client}
use Rattle.call_generator.proofs.WaitingLaws.{waiting-each}
use Rattle.call_generator.proofs.turns.choose.Goals as goal

pub returns-clause-there : goal.returns-clause-there
returns-clause-there c =
    let below = c.draw-place.ensures.within in
    let count = c.count_waiting-waiting.ensures in
    let w = waiting-each 0 c.args.clients.now (new_client 0) c.draw-place.result (omega (arith, below, count)) in
    let same : c.waiting_at.result ≡ w.place = (let is = c.waiting_at.ensures in let e = w.is in omega (arith, is, e)) in
    rw same (w.within, w.left)
