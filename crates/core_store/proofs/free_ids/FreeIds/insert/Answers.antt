use Rattle.std.proofs.Common.{◌≤◌, sym, subst, slice_set, true}
use Rattle.core_store.specs.FreeIds.{FreeView, free_in, Frees}
use Rattle.core_store.proofs.FreeIdLaws.{Frees-marked}
use Rattle.core_store.proofs.free_ids.FreeIds.insert.Goals as goal

pub returns-clause-frees : goal.returns-clause-frees
returns-clause-frees c =
    let s = c.self.inside in
    let id = c.args.id in
    let within = subst (λ (f : FreeView). (1 ≤ id) × (id ≤ f.limit)) (sym c.self.view_is) c.requires.within in
    subst (λ (f : FreeView). Frees f.ids (free_in (slice_set s.row.items id true) s.limit) id) c.self.view_is (Frees-marked s.row.items s.first s.last s.limit id c.self.invariant within.0 within.1)
