use Rattle.std.proofs.Common.{ap, ◌∙◌}
use Rattle.core_store.specs.RoundView.{Rounds}
use Rattle.core_store.proofs.tables.Tables.look_to.Goals as goal

pub invariant_of-self : goal.invariant_of-self
invariant_of-self g c =
    let t = c.args.self.now in
    record { free_sized = t.free_sized; owes = t.owes; queue_sized = t.queue_sized; named_sized = t.named_sized; round_sized = ap (λ (r : Rounds). r.limit) c.look_to.ensures.looked ∙ t.round_sized }

pub invariant_of-self-in-Test : goal.invariant_of-self-in-Test
invariant_of-self-in-Test g c =
    let t = c.args.self.now in
    record { free_sized = t.free_sized; owes = t.owes; queue_sized = t.queue_sized; named_sized = t.named_sized; round_sized = ap (λ (r : Rounds). r.limit) c.test_to.ensures.tested ∙ t.round_sized }

pub invariant_of-self-in-Out : goal.invariant_of-self-in-Out
invariant_of-self-in-Out g c =
    let t = c.args.self.now in
    record { free_sized = t.free_sized; owes = t.owes; queue_sized = t.queue_sized; named_sized = t.named_sized; round_sized = ap (λ (r : Rounds). r.limit) c.walk_to.ensures.walked ∙ t.round_sized }
