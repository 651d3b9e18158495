-- The first object on which work is done is one of the store.
use Rattle.std.proofs.Common.{◌≡◌, ℕ, ◌<◌, ◌≤◌, List, Option, Some, None, map, refl}
use Rattle.std.specs.Prelude.{slice_get}
use Rattle.cell_page.specs.Format.{page_of_id}
use Rattle.cell_model.specs.Cells.{Cell}
use Rattle.core_store.specs.Work.{objects_of, AreFew}

pub first-within : (ids : ℕ) (cells : List Cell) (id : ℕ) (change : Option (ℕ × ℕ)) → AreFew ids (objects_of cells (record { id = id; change = change })) → (0 < id) × (id ≤ ids)
first-within ids cells id None few = few.within.0
first-within ids cells id (Some c) few = few.within.0

pub first-page : (cells : List Cell) (id : ℕ) (change : Option (ℕ × ℕ)) → slice_get (map page_of_id (objects_of cells (record { id = id; change = change }))) 0 ≡ Some (page_of_id id)
first-page cells id None = refl
first-page cells id (Some c) = refl
