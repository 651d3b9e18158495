-- The laws of records on cells.
use Rattle.std.specs.Prelude.{◌≡◌, ℕ, List, [], ◌∷◌, ◌++◌, Option, Some}
use Rattle.cell_model.specs.Cells.{Cell, IsExact}
use Rattle.cell_model.specs.Strong.{HasNoStrongCycle, HasNoStrongOut}
use Rattle.cell_model.specs.Records.{Record, Strengthen, after_record, cells_after, AllFit, AllWellLaid, Fits, IsWellLaid}
use Rattle.cell_model.specs.Consistent.{AreConsistent}

-- counts stay exact under each record that fits
abbrev pub ExactLaw : Type 0
ExactLaw = (slots : ℕ) (cells : List Cell) (r : Record) → Fits cells r → IsExact cells → IsExact (after_record slots cells r)

-- strong pointers form no cycle under each record that fits and is well laid
abbrev pub AcyclicLaw : Type 0
AcyclicLaw = (slots : ℕ) (cells : List Cell) (r : Record) → Fits cells r → IsWellLaid cells r → IsExact cells → HasNoStrongCycle cells → HasNoStrongCycle (after_record slots cells r)

-- consistent cells stay consistent under each record that fits
abbrev pub ConsistentLaw : Type 0
ConsistentLaw = (slots ids : ℕ) (cells : List Cell) (r : Record) → Fits cells r → IsWellLaid cells r → AreConsistent slots ids cells → AreConsistent slots ids (after_record slots cells r)

-- consistent cells stay consistent under all records of a journal, where each fits the cells before it
abbrev pub ConsistentAfterLaw : Type 0
ConsistentAfterLaw = (slots ids : ℕ) (cells : List Cell) (records : List (Option Record)) → AllFit slots cells records → AllWellLaid slots cells records → AreConsistent slots ids cells → AreConsistent slots ids (cells_after slots cells records)

-- the cells after one record more are those after that record
abbrev pub OneMoreLaw : Type 0
OneMoreLaw = (slots : ℕ) (cells : List Cell) (records : List (Option Record)) (r : Record) → cells_after slots cells (records ++ Some r ∷ []) ≡ after_record slots (cells_after slots cells records) r

-- why a pointer is made strong only where its target is another object: here no strong pointer leads out of the target, but the
-- one to itself would be a cycle
abbrev pub SelfPointerLaw : Type 0
SelfPointerLaw = (cells : List Cell) × AreConsistent 1 2 cells × Fits cells (Strengthen 2 0 2) × HasNoStrongOut cells 2 × (HasNoStrongCycle (after_record 1 cells (Strengthen 2 0 2)) → ⊥)
