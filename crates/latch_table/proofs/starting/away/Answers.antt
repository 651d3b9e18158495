use Rattle.std.proofs.Common.{List, [], ◌∷◌, ◌++◌, length, ap, ◌∙◌, arith}
use Rattle.std.proofs.lemmas.List.{length-replicate, replicate-append-replicate}
use Rattle.latch_table.specs.declared.content.Content.{Content}
use Rattle.latch_table.specs.declared.content.Content.TheVariants.{Away}
use Rattle.latch_table.proofs.starting.away.Goals as goal

pub push_within-requires : goal.push_within-requires
push_within-requires g c =
    let y : Content g.row.J.Denot g.row.F.Denot = Away in
    let count = ap (length {A = Content g.row.J.Denot g.row.F.Denot}) c.slots.invariant.0 ∙ length-replicate c.slots.counter y in
    let len = c.slots.slots.ok.0 in
    let room = c.slots.invariant.1 in
    let low = c.slots-test.true in
    omega (arith, count, len, room, low)

pub slots-preserved : goal.slots-preserved
slots-preserved g c =
    let y : Content g.row.J.Denot g.row.F.Denot = Away in
    let room = c.push_within.ensures.room in
    let before = c.slots.invariant.1 in
    (c.push_within.ensures.items ∙ ap (λ (xs : List (Content g.row.J.Denot g.row.F.Denot)). xs ++ y ∷ []) c.slots.invariant.0 ∙ replicate-append-replicate c.slots.counter 1 y, omega (arith, room, before))
