use Rattle.std.proofs.Common.{◌≡◌, ℕ, length, take, sym, ap, ◌∙◌, arith}
use Rattle.std.proofs.lemmas.List.{take_all}
use Rattle.call_generator.specs.Generator.{waiting}
use Rattle.call_generator.proofs.WaitingLaws.{counted-yes, counted-no}
use Rattle.call_generator.proofs.client.count_waiting.Goals as goal
use Rattle.call_generator.proofs.client.count_waiting.Goals.{then-has_left, else-has_left}

pub loop-client-preserved : goal.loop-client-preserved
loop-client-preserved c =
    let cs = c.args.clients.now in
    let i = c.loop-client.client-index in
    let few = c.loop-client.invariant.few in
    elim c.if-has_left.branch [
      | then-has_left w ↦
          let more = counted-yes cs i _ c.loop-client-test.true (sym c.has_left.ensures ∙ w.if-has_left.true) in
          let counted = c.loop-client.invariant.counted in
          record { counted = omega (arith, w.count-is, counted, more); few = omega (arith, w.count-is, few) }
      | else-has_left w ↦
          let more = counted-no cs i _ c.loop-client-test.true (sym c.has_left.ensures ∙ w.if-has_left.false) in
          let counted = c.loop-client.invariant.counted in
          record { counted = omega (arith, w.count-is, counted, more); few = omega (arith, w.count-is, few) }
    ]
