use Rattle.std.proofs.Common.{◌<◌, false, length, sym, subst, arith, rules, slice_set}
use Rattle.core_store.specs.FreeIds.{FreeView, free_in, IsLeastOf, Takes}
use Rattle.core_store.proofs.FreeIdLaws.{free-marked, up-to-last, inside-taken, inside-emptied, Takes-marked}
use Rattle.core_store.proofs.free_ids.FreeIds.remove.Goals as goal

pub index_mut-requires : goal.index_mut-requires
index_mut-requires c =
    let s = c.self.inside in
    let least = subst (λ (f : FreeView). IsLeastOf f.ids c.args.id) (sym c.self.view_is) c.requires in
    let high = (free-marked s.row.items s.limit c.args.id least.among).high in
    let long = c.self.invariant.length in
    let within : c.args.id < length s.row.items = omega (arith, high, long) in
    search rules

pub overflow_add-id : goal.overflow_add-id
overflow_add-id c =
    let s = c.self.inside in
    let least = subst (λ (f : FreeView). IsLeastOf f.ids c.args.id) (sym c.self.view_is) c.requires in
    let high = (free-marked s.row.items s.limit c.args.id least.among).high in
    let few = c.self.invariant.few in
    record { fits = omega (arith, high, few) }

pub next_free-next-requires-clause-within : goal.next_free-next-requires-clause-within
next_free-next-requires-clause-within c =
    let s = c.self.inside in
    let i = c.self.invariant in
    let least = subst (λ (f : FreeView). IsLeastOf f.ids c.args.id) (sym c.self.view_is) c.requires in
    let m = free-marked s.row.items s.limit c.args.id least.among in
    let low = up-to-last s.row.items s.first s.last s.limit c.args.id i m.mark in
    omega (arith, low)

pub invariant_of-self : goal.invariant_of-self
invariant_of-self c =
    let s = c.self.inside in
    let least = subst (λ (f : FreeView). IsLeastOf f.ids c.args.id) (sym c.self.view_is) c.requires in
    let m = free-marked s.row.items s.limit c.args.id least.among in
    inside-taken s.row.items s.first s.last s.limit c.args.id c.self.invariant m.low m.high least c.next_free-next.result c.next_free-next.ensures c.if-next-self.true

pub invariant_of-self-else-next-self : goal.invariant_of-self-else-next-self
invariant_of-self-else-next-self c =
    let s = c.self.inside in
    let least = subst (λ (f : FreeView). IsLeastOf f.ids c.args.id) (sym c.self.view_is) c.requires in
    let m = free-marked s.row.items s.limit c.args.id least.among in
    inside-emptied s.row.items s.first s.last s.limit c.args.id c.self.invariant m.low m.high least c.next_free-next.result c.next_free-next.ensures c.if-next-self.false

pub returns-then-next-self-clause-takes : goal.returns-then-next-self-clause-takes
returns-then-next-self-clause-takes c =
    let s = c.self.inside in
    let least = subst (λ (f : FreeView). IsLeastOf f.ids c.args.id) (sym c.self.view_is) c.requires in
    let m = free-marked s.row.items s.limit c.args.id least.among in
    subst (λ (f : FreeView). Takes f.ids (free_in (slice_set s.row.items c.args.id false) s.limit) c.args.id) c.self.view_is (Takes-marked s.row.items s.first s.last s.limit c.args.id c.self.invariant m.low m.high)

pub returns-else-next-self-clause-takes : goal.returns-else-next-self-clause-takes
returns-else-next-self-clause-takes c =
    let s = c.self.inside in
    let least = subst (λ (f : FreeView). IsLeastOf f.ids c.args.id) (sym c.self.view_is) c.requires in
    let m = free-marked s.row.items s.limit c.args.id least.among in
    subst (λ (f : FreeView). Takes f.ids (free_in (slice_set s.row.items c.args.id false) s.limit) c.args.id) c.self.view_is (Takes-marked s.row.items s.first s.last s.limit c.args.id c.self.invariant m.low m.high)
