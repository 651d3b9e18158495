use Rattle.std.proofs.Common.{◌≡◌, ℕ, length, take, sym, ap, ◌∙◌, arith}
use Rattle.std.specs.Prelude.{slice_index}
use Rattle.call_generator.specs.Generator.{waiting}
use Rattle.call_generator.proofs.WaitingLaws.{counted-yes, counted-no, waiting-there}
use Rattle.call_generator.proofs.client.waiting_at.Goals as goal
use Rattle.call_generator.proofs.client.waiting_at.Goals.{then-has_left+else-before-place, else-has_left}

pub returns-then-before-place : goal.returns-then-before-place
returns-then-before-place c =
    let cs = c.args.clients.now in
    let i = c.loop-index.index in
    let there = waiting-there cs i _ c.loop-index-test.true (sym c.has_left.ensures ∙ c.if-has_left.true) in
    let place : length (waiting (take i cs)) ≡ c.args.place = (let n = c.loop-index.invariant.counted in let e = c.if-before-place.true in omega (arith, n, e)) in
    sym there ∙ ap (λ (k : ℕ). slice_index (waiting cs) k) place

pub loop-index-preserved : goal.loop-index-preserved
loop-index-preserved c =
    let cs = c.args.clients.now in
    let i = c.loop-index.index in
    let counted = c.loop-index.invariant.counted in
    let few = c.loop-index.invariant.few in
    let within = c.loop-index.invariant.within in
    elim c.if-has_left.branch [
      | then-has_left+else-before-place w ↦
          let more = counted-yes cs i _ c.loop-index-test.true (sym c.has_left.ensures ∙ w.if-has_left.true) in
          record { counted = omega (arith, w.before-is, counted, more); within = (let other = w.if-before-place.false in omega (arith, w.before-is, within, other)); few = omega (arith, w.before-is, few) }
      | else-has_left w ↦
          let more = counted-no cs i _ c.loop-index-test.true (sym c.has_left.ensures ∙ w.if-has_left.false) in
          record { counted = omega (arith, w.before-is, counted, more); within = omega (arith, w.before-is, within); few = omega (arith, w.before-is, few) }
    ]
