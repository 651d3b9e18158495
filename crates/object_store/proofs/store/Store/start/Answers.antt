use Rattle.std.proofs.Common.{◌≡◌, rules, sym, subst}
use Rattle.std.specs.Prelude.{List, Option, ℕ, None}
use Rattle.gate_log.specs.State.{used}
use Rattle.object_store.specs.Handles.{StoreView, store_at, IsClosed}
use Rattle.object_store.specs.Steps.{Begins, FailsToBegin}
use Rattle.object_store.proofs.StartLaws.{ends_self, begins_of, fails_of}
use Rattle.object_store.proofs.store.Store.start.Goals as goal

pub returns-in-Ok : goal.returns-in-Ok
returns-in-Ok g c =
    let u = c.self.inside.framed in
    let n = c.self.inside.tending in
    let k = c.at_beginning-self-inside.result in
    let w = c.begin.new.below in
    let closed = subst (λ (s : StoreView g.row.D.Denot). s.below.failed ≡ None → IsClosed s) (sym c.self.view_is) c.requires.closed in
    let begun : k.begun ≡ used u.log = search rules in
    let b = begins_of n k u u w c.self.inside.table (ends_self u closed) c.in-Ok.ensures.begun begun c.at_beginning-self-inside.ensures.log c.at_beginning-self-inside.ensures.steps in
    let b2 = subst (λ (t : List (Option ℕ)). Begins (store_at n u c.self.inside.table) (store_at k w t)) (sym c.new-self-inside.ensures) b in
    record {
      begun = subst (λ (s : StoreView g.row.D.Denot). Begins s (store_at k w c.new-self-inside.result)) c.self.view_is b2;
      refused = tt;
    }

pub returns-in-Err : goal.returns-in-Err
returns-in-Err g c =
    let u = c.self.inside.framed in
    let w = c.begin.new.below in
    let closed = subst (λ (s : StoreView g.row.D.Denot). s.below.failed ≡ None → IsClosed s) (sym c.self.view_is) c.requires.closed in
    let f = fails_of {n = c.self.inside.tending} u u w c.self.inside.table c.in-Err.why (ends_self u closed) c.in-Err.ensures.refused in
    record {
      begun = tt;
      refused = subst (λ (s : StoreView g.row.D.Denot). FailsToBegin c.in-Err.why s (store_at c.self.inside.tending w c.self.inside.table)) c.self.view_is f.fails;
    }
