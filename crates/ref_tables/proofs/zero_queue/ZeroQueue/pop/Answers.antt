use Rattle.std.proofs.Common.{◌≡◌, ◌∷◌, [], sym, ap, ◌∙◌, subst}
use Rattle.ref_tables.specs.Queue.{Queue, without}
use Rattle.ref_tables.proofs.QueueLaws.{IsQueueInside-first, IsQueueInside-none}
use Rattle.ref_tables.proofs.zero_queue.ZeroQueue.pop.Goals as goal

pub returns-then-id-eq0-clause-first : goal.returns-then-id-eq0-clause-first
returns-then-id-eq0-clause-first c =
    let none = IsQueueInside-none _ _ _ _ _ c.self.invariant (sym c.neighbours-id.ensures.next ∙ c.if-id-eq0.true) in
    let empty : c.args.self.now.ids ≡ [] = sym (ap (λ (q : Queue). q.ids) c.self.view_is) ∙ none in
    (empty, empty)

pub returns-clause-first : goal.returns-clause-first
returns-clause-first c =
    let first = IsQueueInside-first _ _ _ _ _ c.self.invariant (λ none. c.if-id-eq0.false (c.neighbours-id.ensures.next ∙ none)) in
    subst (λ (q : Queue). q.ids ≡ c.neighbours-id.result.next ∷ without q.ids c.neighbours-id.result.next) c.self.view_is (rw c.neighbours-id.ensures.next first)
    ∙ ap (λ (q : Queue). c.neighbours-id.result.next ∷ q.ids) (sym c.drop_id.ensures)
