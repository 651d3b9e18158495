use Rattle.ref_tables.proofs.RefsLaws.{AreRefsInside-reserved, AreRefsInside-add, count-small, seen-same, seen-adds, on_err}
use Rattle.ref_tables.proofs.temp_refs.TempRefs.add.Goals as goal

pub returns-in_err-add-clause-err : goal.returns-in_err-add-clause-err
returns-in_err-add-clause-err c = on_err c.from_residual-in_err-add.result (λ p. rw (← c.self.view_is) (seen-same c.self.inside.lists.items c.add.new.lists.items c.self.inside.room_for c.self.inside.room c.self.inside.room_for c.self.inside.room c.in_err-add.ensures.same p))

pub add-requires-2-clause-small : goal.add-requires-2-clause-small
add-requires-2-clause-small c = count-small _ _ _ _ c.args.target (AreRefsInside-reserved c.self.inside.lists.items c.self.inside.counts c.reserve_count.new.counts c.self.inside.room_for c.self.inside.room c.reserve_count.ensures.same c.reserve_count.ensures.keeps c.self.invariant)

pub invariant_of-self-2 : goal.invariant_of-self-2
invariant_of-self-2 c =
    let kept = AreRefsInside-reserved c.self.inside.lists.items c.self.inside.counts c.reserve_count.new.counts c.self.inside.room_for c.self.inside.room c.reserve_count.ensures.same c.reserve_count.ensures.keeps c.self.invariant in
    AreRefsInside-add c.self.inside.lists.items c.add.new.lists.items c.reserve_count.new.counts c.add-2.new.self c.self.inside.room_for c.self.inside.room _ c.args.pass _ c.ranges.pass.fits c.in_ok-add.ensures.adds c.in_ok-add.ensures.room c.add-2.ensures.counts c.add-2.ensures.room c.saturating_sub-self-inside.ensures kept

pub returns-clause-ok : goal.returns-clause-ok
returns-clause-ok c = λ p. rw (← c.self.view_is) (seen-adds c.self.inside.lists.items c.add.new.lists.items c.self.inside.room_for c.self.inside.room c.saturating_sub-self-inside.result c.args.pass _ c.in_ok-add.ensures.adds p)
