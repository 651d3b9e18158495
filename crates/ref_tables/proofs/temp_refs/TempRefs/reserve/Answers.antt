use Rattle.std.proofs.Common.{arith, refl}
use Rattle.ref_tables.proofs.RefsLaws.{AreRefsInside-same, AreRefsInside-room, seen-same}
use Rattle.ref_tables.proofs.temp_refs.TempRefs.reserve.Goals as goal

pub invariant_of-self : goal.invariant_of-self
invariant_of-self c = AreRefsInside-same c.self.inside.lists.items _ c.self.inside.counts _ _ _ (λ p. refl) (λ p n has. has) c.reserve.ensures.same (grind (arith, c.reserve.ensures.keeps, c.self.invariant.room_of_counts)) c.self.invariant

pub invariant_of-self-in_err-reserve-2 : goal.invariant_of-self-in_err-reserve-2
invariant_of-self-in_err-reserve-2 c = AreRefsInside-same c.self.inside.lists.items _ c.self.inside.counts _ _ _ c.reserve-2.ensures.same c.reserve-2.ensures.keeps c.reserve.ensures.same (grind (arith, c.reserve.ensures.keeps, c.self.invariant.room_of_counts)) c.self.invariant

pub returns-in_err-reserve-2-clause-same : goal.returns-in_err-reserve-2-clause-same
returns-in_err-reserve-2-clause-same c = λ p. rw (← c.self.view_is) (seen-same c.self.inside.lists.items c.reserve-2.new.lists.items c.self.inside.room_for c.self.inside.room c.self.inside.room_for c.self.inside.room c.reserve-2.ensures.same p)

pub invariant_of-self-2 : goal.invariant_of-self-2
invariant_of-self-2 c =
    let kept = AreRefsInside-same c.self.inside.lists.items c.reserve-2.new.lists.items c.self.inside.counts c.reserve.new.self c.self.inside.room_for c.self.inside.room c.reserve-2.ensures.same c.reserve-2.ensures.keeps c.reserve.ensures.same (grind (arith, c.reserve.ensures.keeps, c.self.invariant.room_of_counts)) c.self.invariant in
    AreRefsInside-room _ _ _ _ _ _ c.in_ok-reserve-2.ensures.room c.in_ok-reserve.ensures.ok kept

pub returns-clause-same : goal.returns-clause-same
returns-clause-same c = λ p. rw (← c.self.view_is) (seen-same c.self.inside.lists.items c.reserve-2.new.lists.items c.self.inside.room_for c.self.inside.room c.args.pass c.args.more c.reserve-2.ensures.same p)
