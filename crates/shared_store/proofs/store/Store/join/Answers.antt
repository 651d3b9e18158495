use Rattle.std.proofs.Common.{Bool, true, List, max, set, refl, sym, ap, ◌∙◌, rules}
use Rattle.shared_store.specs.Passes.{joined_refusals}
use Rattle.shared_store.proofs.Joins.{joined-pass, pass-by}
use Rattle.shared_store.proofs.store.Store.join.Goals.{then-not-main, else-not-main}
use Rattle.shared_store.proofs.store.Store.join.Goals as goal

pub invariant_of-main : goal.invariant_of-main
invariant_of-main g c =
    let m = c.main.inside in
    let o = c.other.inside in
    let x = c.if-not-main.main-inside in
    let table = c.join.ensures.of ∙ ap (λ z. z.table) c.self.view_is ∙ sym (ap (λ z. z.table) c.main.view_is ∙ c.requires.of.0) in
    let one = rw (← c.main.view_is, ← c.other.view_is) at c.requires.main in
    let whole = λ (kept : List Bool). joined-pass m.hold o.hold c.join.new.hold m.main o.main m.number o.number c.from.result m.has_txn o.has_txn m.seen o.seen m.refused o.refused m.left o.left kept c.main.invariant c.other.invariant table c.join.ensures.view one in
    let by = λ (kept : List Bool). pass-by c.join.new.hold x.hold true x.main m.number x.number m.has_txn x.has_txn (max m.seen o.seen) c.max-main-inside.result (joined_refusals m.refused o.refused) c.joined-main-inside.result (set kept c.from.result o.has_txn) (set x.left c.from.result o.has_txn) in
    elim c.if-not-main.branch [
      | then-not-main w ↦
          let h = w.main-inside-is in
          by o.left (ap (λ z. z.hold) h) (ap (λ z. z.main) h) (ap (λ z. z.number) h) (ap (λ z. z.has_txn) h) (c.max-main-inside.ensures ∙ ap (λ z. max z.seen o.seen) h)
          (c.joined-main-inside.ensures ∙ ap (λ z. joined_refusals z.refused o.refused) h) (ap (λ z. set z.left c.from.result o.has_txn) h)
          (whole o.left (λ e. absurd (let f = w.if-not-main.true in cc)) (λ e. refl) (search rules) c.from.ensures)
      | else-not-main w ↦
          let h = w.main-inside-is in
          by m.left (ap (λ z. z.hold) h) (ap (λ z. z.main) h ∙ w.if-not-main.false) (ap (λ z. z.number) h) (ap (λ z. z.has_txn) h) (c.max-main-inside.ensures ∙ ap (λ z. max z.seen o.seen) h)
          (c.joined-main-inside.ensures ∙ ap (λ z. joined_refusals z.refused o.refused) h) (ap (λ z. set z.left c.from.result o.has_txn) h)
          (whole m.left (λ e. refl) (λ e. absurd (let f = w.if-not-main.false in cc)) c.main.told c.from.ensures)
    ]
