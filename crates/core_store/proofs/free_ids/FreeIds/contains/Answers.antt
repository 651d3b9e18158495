use Rattle.std.proofs.Common.{false, ap, ◌∙◌, arith, sym}
use Rattle.std.specs.List.{list_any}
use Rattle.std.specs.Ordering.{nat_cmp}
use Rattle.std.specs.BTreeMap.{is_at}
use Rattle.std.proofs.lemmas.Bool.{leb-true, leb-false}
use Rattle.std.proofs.lemmas.List.{get_or_default}
use Rattle.core_store.specs.FreeIds.{FreeView}
use Rattle.core_store.proofs.FreeIdLaws.{free-is, free-below, free-behind}
use Rattle.core_store.proofs.free_ids.FreeIds.contains.Goals as goal
use Rattle.core_store.proofs.free_ids.FreeIds.contains.Goals.{then-id-ge1, else-id-ge1}

pub returns-then-id-self : goal.returns-then-id-self
returns-then-id-self c =
    let s = c.self.inside in
    let id = c.args.id in
    let long = c.self.invariant.length in
    elim c.if-id-ge1.branch [
      | then-id-ge1 w ↦
          let high = leb-true id s.limit (sym w.value-is ∙ c.if-id-self.true) in
          c.index.ensures
          ∙ (get_or_default s.row.items id c.index.result.now false (omega (arith, high, long))
          ∙ (free-is s.row.items s.limit id w.if-id-ge1.true high
          ∙ ap (λ (f : FreeView). list_any (is_at (nat_cmp id)) f.ids) c.self.view_is))
      | else-id-ge1 w ↦ absurd (let low = leb-true 1 id (sym w.value-is ∙ c.if-id-self.true) in let below = w.if-id-ge1.false in omega (arith, low, below))
    ]

pub returns-else-id-self : goal.returns-else-id-self
returns-else-id-self c =
    let s = c.self.inside in
    let id = c.args.id in
    let seen = ap (λ (f : FreeView). list_any (is_at (nat_cmp id)) f.ids) c.self.view_is in
    elim c.if-id-ge1.branch [
      | then-id-ge1 w ↦ c.if-id-self.false ∙ (sym (free-behind s.row.items s.limit id (leb-false id s.limit (sym w.value-is ∙ c.if-id-self.false))) ∙ seen)
      | else-id-ge1 w ↦ c.if-id-self.false ∙ (sym (free-below s.row.items s.limit id w.if-id-ge1.false) ∙ seen)
    ]
