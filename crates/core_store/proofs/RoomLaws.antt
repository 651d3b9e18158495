-- The tables after room was taken for references.
use Rattle.std.proofs.Common.{◌≡◌, ℕ, List, ap}
use Rattle.ref_tables.specs.Refs.{Table, IsSame}
use Rattle.core_store.specs.declared.tables.Tables.{Tables}
use Rattle.core_store.specs.Tables.{TablesView}
use Rattle.core_store.specs.Views.{view_of}
use Rattle.core_store.proofs.NameLaws.{names_in, names-same}

-- what is seen of them is as before
pub room-taken : {slots : ℕ} (t : Tables slots) (new : Table) → IsSame t.references new → record (view_of t) { references = names_in new } ≡ view_of t
room-taken t new same = ap (λ (f : ℕ → List ℕ). let w : TablesView = record (view_of t) { references = f } in w) (names-same t.references new same)
