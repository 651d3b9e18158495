use Rattle.ref_tables.proofs.RefsLaws.{AreRefsInside-part, AreRefsInside-end, seen-ends}
use Rattle.ref_tables.proofs.temp_refs.TempRefs.end.Goals as goal

pub forget_all-requires : goal.forget_all-requires
forget_all-requires c = λ t. rw c.list.ensures (AreRefsInside-part _ _ _ _ c.args.pass c.ranges.pass.fits c.self.invariant t)

pub invariant_of-self : goal.invariant_of-self
invariant_of-self c =
    AreRefsInside-end c.self.inside.lists.items _ c.self.inside.counts _ _ _ c.args.pass c.ranges.pass.fits c.clear.ensures.ends c.clear.ensures.keeps
    (λ t. rw (← c.list.ensures) (c.forget_all.ensures.counts t)) c.forget_all.ensures.room c.self.invariant

pub returns-clause-ends : goal.returns-clause-ends
returns-clause-ends c = λ p. rw (← c.self.view_is) (seen-ends c.self.inside.lists.items _ c.self.inside.room_for c.self.inside.room c.args.pass c.clear.ensures.ends p)
