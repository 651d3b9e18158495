use Rattle.std.proofs.Common.{◌≡◌, ◌≤◌, false, get_or, arith, sym, ap, ◌∙◌}
use Rattle.std.proofs.lemmas.Bool.Decides.{nat_tests}
use Rattle.std.proofs.lemmas.Grind.{common_steps}
use Rattle.ref_tables.proofs.MemberLaws.{joined-new}
use Rattle.ref_tables.proofs.QueueLaws.{IsQueueInside-push, IsQueueInside-seen, IsQueueInside-along, IsQueueInside-room, IsQueueInside-previous}
use Rattle.ref_tables.proofs.zero_queue.ZeroQueue.push.Goals as goal

pub link_last-requires-clause-last : goal.link_last-requires-clause-last
link_last-requires-clause-last c = IsQueueInside-previous _ _ _ _ _ 0 c.self.invariant (grind (arith, nat_tests))

pub overflow_add-self : goal.overflow_add-self
overflow_add-self c =
    let unset : get_or c.self.inside.present.items c.args.id false ≡ false = grind (arith, common_steps) in
    let within : c.args.id ≤ c.self.inside.limit = grind (arith, c.requires, c.self.view_is) in
    let room = IsQueueInside-room _ _ _ _ _ c.args.id c.self.invariant c.requires.0 within unset in
    omega (arith, room, c.self.invariant.small)

pub invariant_of-self : goal.invariant_of-self
invariant_of-self c =
    let unset : get_or c.self.inside.present.items c.args.id false ≡ false = grind (arith, common_steps) in
    let within : c.args.id ≤ c.self.inside.limit = grind (arith, c.requires, c.self.view_is) in
    IsQueueInside-seen _ _ _ _ _ (IsQueueInside-push _ _ _ _ _ c.args.id c.link_last.new.links c.self.invariant c.requires.0 within unset c.link_last.ensures.linked c.link_last.ensures.next c.link_last.ensures.previous)

pub returns : goal.returns
returns c =
    let unset : get_or c.self.inside.present.items c.args.id false ≡ false = grind (arith, common_steps) in
    let within : c.args.id ≤ c.self.inside.limit = grind (arith, c.requires, c.self.view_is) in
    let led = IsQueueInside-along _ _ _ _ _ (IsQueueInside-push _ _ _ _ _ c.args.id c.link_last.new.links c.self.invariant c.requires.0 within unset c.link_last.ensures.linked c.link_last.ensures.next c.link_last.ensures.previous) in
    let joins = joined-new _ c.args.id (c.self.invariant.marked c.args.id ∙ unset) in
    rw (← c.self.view_is) (ap (λ ids. record { ids = ids; limit = c.self.inside.limit }) (led ∙ sym joins))
