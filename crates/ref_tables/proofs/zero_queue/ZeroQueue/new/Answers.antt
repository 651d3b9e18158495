use Rattle.ref_tables.proofs.QueueLaws.{IsQueueInside-new}
use Rattle.ref_tables.proofs.zero_queue.ZeroQueue.new.Goals as goal

pub invariant_of-result : goal.invariant_of-result
invariant_of-result c = rw (c.in_ok-present.ensures.items_if_clones_equal (λ y same. same)) (IsQueueInside-new c.in_ok-links.links _ c.ranges.ids.fits c.in_ok-links.ensures.linked (c.in_ok-links.ensures.next 0) (c.in_ok-links.ensures.previous 0))
