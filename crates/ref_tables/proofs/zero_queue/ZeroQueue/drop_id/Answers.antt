use Rattle.std.proofs.Common.{◌≡◌, true, arith, refl, sym, ap, ◌∙◌, subst}
use Rattle.std.proofs.lemmas.Bool.Decides.{nat_tests}
use Rattle.ref_tables.specs.Queue.{Queue, has}
use Rattle.ref_tables.proofs.MemberLaws.{without-none}
use Rattle.ref_tables.proofs.QueueLaws.{IsQueueInside-drop, IsQueueInside-seen, IsQueueInside-along, IsQueueInside-previous, IsQueueInside-next}
use Rattle.ref_tables.proofs.zero_queue.ZeroQueue.drop_id.Goals as goal

pub returns-then-not-holds : goal.returns-then-not-holds
returns-then-not-holds c = rw (without-none c.args.id c.args.self.now.ids (sym c.holds.ensures ∙ c.if-not-holds.true)) refl

pub unlink-requires-clause-before : goal.unlink-requires-clause-before
unlink-requires-clause-before c =
    let there = subst (λ (q : Queue). has q.ids c.args.id ≡ true) (sym c.self.view_is) (sym c.holds.ensures ∙ c.if-not-holds.false) in
    IsQueueInside-previous _ _ _ _ _ c.args.id c.self.invariant (grind (arith, nat_tests, there))

pub unlink-requires-clause-behind : goal.unlink-requires-clause-behind
unlink-requires-clause-behind c =
    let there = subst (λ (q : Queue). has q.ids c.args.id ≡ true) (sym c.self.view_is) (sym c.holds.ensures ∙ c.if-not-holds.false) in
    IsQueueInside-next _ _ _ _ _ c.args.id c.self.invariant (grind (arith, nat_tests, there))

pub invariant_of-self : goal.invariant_of-self
invariant_of-self c =
    let there = subst (λ (q : Queue). has q.ids c.args.id ≡ true) (sym c.self.view_is) (sym c.holds.ensures ∙ c.if-not-holds.false) in
    IsQueueInside-seen _ _ _ _ _ (IsQueueInside-drop _ _ _ _ _ c.args.id c.unlink.new.links c.self.invariant there c.unlink.ensures.linked c.unlink.ensures.next c.unlink.ensures.previous)

pub returns : goal.returns
returns c =
    let there = subst (λ (q : Queue). has q.ids c.args.id ≡ true) (sym c.self.view_is) (sym c.holds.ensures ∙ c.if-not-holds.false) in
    let led = IsQueueInside-along _ _ _ _ _ (IsQueueInside-drop _ _ _ _ _ c.args.id c.unlink.new.links c.self.invariant there c.unlink.ensures.linked c.unlink.ensures.next c.unlink.ensures.previous) in
    rw (← c.self.view_is) (ap (λ ids. record { ids = ids; limit = c.self.inside.limit }) led)
