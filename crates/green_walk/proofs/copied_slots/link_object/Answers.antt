use Rattle.std.proofs.Common.{◌≡◌, ◌+◌, ◌-◌, ◌*◌, ◌∙◌, subst, arith}
use Rattle.green_walk.specs.Linked.{AreLinked, bare}
use Rattle.green_walk.proofs.copied_slots.link_object.Goals as goal

pub loop-done-preserved : goal.loop-done-preserved
loop-done-preserved g c =
    let start = g.row.SLOTS * c.args.object in
    let below = c.loop-done-test.true in
    record {
      linked = λ limit sized behind.
          let before : start + (g.row.SLOTS - c.loop-done.done) ≡ start + (g.row.SLOTS - 1 - c.loop-done.done) + 1 = omega (arith, below) in
          let after : start + (g.row.SLOTS - 1 - c.loop-done.done) ≡ start + (g.row.SLOTS - (c.loop-done.done + 1)) = omega (arith, below) in
          subst (λ at. AreLinked (bare c.args.rows.now) at limit c.link.new.first.items c.link.new.next.items) after
          (c.link.ensures.linked limit (c.loop-done.invariant.firsts ∙ sized)
          (subst (λ at. AreLinked (bare c.args.rows.now) at limit c.loop-done.first.items c.loop-done.next.items) before (c.loop-done.invariant.linked limit sized behind)));
      firsts = c.link.ensures.firsts ∙ c.loop-done.invariant.firsts;
      nexts = c.link.ensures.nexts ∙ c.loop-done.invariant.nexts;
      room = (let one = c.link.ensures.room in let before = c.loop-done.invariant.room in omega (arith, one, before));
    }
