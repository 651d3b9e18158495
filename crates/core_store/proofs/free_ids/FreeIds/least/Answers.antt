use Rattle.std.proofs.Common.{sym, ap, ◌∙◌, subst, arith}
use Rattle.core_store.specs.FreeIds.{FreeView, IsLeastOf}
use Rattle.core_store.proofs.FreeIdLaws.{least-marked, none-free}
use Rattle.core_store.proofs.free_ids.FreeIds.least.Goals as goal

pub returns-then-self : goal.returns-then-self
returns-then-self c =
    let s = c.self.inside in
    let i = c.self.invariant in
    let high = c.if-self.true in
    subst (λ (f : FreeView). IsLeastOf f.ids s.first) c.self.view_is
    (least-marked s.row.items s.limit s.first i.stored record { low = i.above; high = high; mark = i.found high })

pub returns-else-self : goal.returns-else-self
returns-else-self c =
    let s = c.self.inside in
    let low = c.if-self.false in
    sym (ap (λ (f : FreeView). f.ids) c.self.view_is) ∙ none-free s.row.items s.limit (λ k a b. c.self.invariant.stored k a (omega (arith, b, low)))
