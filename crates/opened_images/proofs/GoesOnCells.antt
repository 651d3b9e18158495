-- The cells after the records of a log are those that these records make, one after another.
use Rattle.std.proofs.Common.{◌≡◌, ◌≢◌, ℕ, zero, suc, ◌*◌, ◌<◌, ◌≤◌, true, false, List, length, refl, sym, subst, ◌∙◌, arith}
use Rattle.std.proofs.lemmas.List.{ext_get_or}
use Rattle.std.proofs.lemmas.List.FromFn.{length-map-range_with_len, get_or-map-range_with_len}
use Rattle.cell_model.specs.Cells.{Cell, null, blank_cell, cell_at, pointer_at, other_strength, pays, flipped}
use Rattle.cell_model.specs.Records.{Record as StoredRecord, Begin, Make, Store, Pay, Commit, Undo, UndoPay, AbortEnd, Weaken, Strengthen, Flip, CutDead, Free, after_record, Fits}
use Rattle.cell_model.specs.Consistent.{AreConsistent}
use Rattle.cell_model.proofs.EditLaws.{length-edit}
use Rattle.cell_model.proofs.CountLaws.{relinked-length}
use Rattle.cell_model.proofs.KeptLaws.{exact-kept}
use Rattle.cell_page.specs.Format.{IsSlotCount}
use Rattle.log_record.specs.declared.record.Record.{Record}
use Rattle.restart_laws.specs.Local.{FitsAt}
use Rattle.restart_laws.proofs.LocalLaws.{local-effect}
use Rattle.restart_laws.proofs.LocalFits.{local-fits}
use Rattle.opened_images.specs.Replayed.{cell_after, cells_of_log}
use Rattle.opened_images.proofs.FormedCells.{IsFormed, effect_formed}
use Rattle.opened_images.proofs.GoesOnRooms.{AreReady, rooms}

-- ---- one record

-- a record leaves as many cells as there are
length_after : (slots : ℕ) (cells : List Cell) (r : StoredRecord) → length (after_record slots cells r) ≡ length cells
length_after slots cells (Begin pass) = refl
length_after slots cells (Make pass id) = length-edit cells id (λ _. blank_cell true slots)
length_after slots cells (Store pass id slot old old_strong new bit strong) = relinked-length cells id slot (record { target = new; bit = bit })
length_after slots cells (Pay pass id old new) = length-edit cells id (pays new)
length_after slots cells (Commit pass) = refl
length_after slots cells (Undo pass id slot old old_strong new bit) = relinked-length cells id slot (record { target = new; bit = bit })
length_after slots cells (UndoPay pass id old new) = length-edit cells id (pays new)
length_after slots cells (AbortEnd pass) = refl
length_after slots cells (Weaken id slot target) = relinked-length cells id slot (other_strength (pointer_at cells id slot))
length_after slots cells (Strengthen id slot target) = relinked-length cells id slot (other_strength (pointer_at cells id slot))
length_after slots cells (Flip id) = length-edit cells id (flipped id)
length_after slots cells (CutDead id slot target was_strong) = relinked-length cells id slot null
length_after slots cells (Free id) = length-edit cells id (λ _. blank_cell false slots)

-- an id is not 0
pub not_zero : (id : ℕ) → 1 ≤ id → id ≢ 0
not_zero id low e = absurd (omega (arith, low, e))

-- a record that fits the cells fits each of them
pub fits_each : (slots ids : ℕ) (cells : List Cell) (r : StoredRecord) → IsSlotCount slots → ids ≤ 8192 → AreReady slots ids cells → Fits cells r → (id : ℕ) → 1 ≤ id → FitsAt r id (cell_at cells id)
fits_each slots ids cells r known small k fits id low = local-fits cells (rooms slots ids cells known small k) r k.exact fits id (not_zero id low)

-- cells that are ready for a record are so after it
pub ready_after : (slots ids : ℕ) (cells : List Cell) (r : StoredRecord) → IsSlotCount slots → ids ≤ 8192 → AreReady slots ids cells → Fits cells r → AreReady slots ids (after_record slots cells r)
ready_after slots ids cells r known small k fits = record {
  exact = exact-kept slots cells r fits k.exact;
  sized = length_after slots cells r ∙ k.sized;
  formed = λ id low high. subst (λ (c : Cell). IsFormed slots c) (sym (local-effect slots cells r k.exact.none fits id (not_zero id low)))
      (effect_formed slots r id (cell_at cells id) (k.formed id low high) (fits_each slots ids cells r known small k fits id low));
}

-- ---- all cells

-- these are the cells of the ids of a store of so many pages after these records of a log
abbrev pub AreAfter : {slots : ℕ} → ℕ → List ℕ → List (Record slots) → List Cell → Type 0
AreAfter {slots} pages area done cells = (id : ℕ) → 1 ≤ id → id ≤ 8 * pages → cell_at cells id ≡ cell_after slots area done id

-- the cell of an id of the store after a log
there : {slots : ℕ} (pages : ℕ) (area : List ℕ) (rs : List (Record slots)) (k : ℕ) → k < 8 * pages → cell_at (cells_of_log slots pages area rs) (suc k) ≡ cell_after slots area rs (suc k)
there {slots} pages area rs k low = get_or-map-range_with_len (cell_after slots area rs) 1 (8 * pages) k (suc k) (blank_cell false 0) low (omega arith)

-- the cells after a log are those of its ids
pub are_of_log : {slots : ℕ} (pages : ℕ) (area : List ℕ) (rs : List (Record slots)) → AreAfter pages area rs (cells_of_log slots pages area rs)
are_of_log pages area rs zero low high = absurd (omega (arith, low))
are_of_log pages area rs (suc k) low high = there pages area rs k (omega (arith, high))

-- consistent cells that are those of its ids are the cells after the log
pub of_log : {slots : ℕ} (pages : ℕ) (area : List ℕ) (rs : List (Record slots)) (cells : List Cell) → AreConsistent slots (8 * pages) cells → AreAfter pages area rs cells → cells ≡ cells_of_log slots pages area rs
of_log {slots} pages area rs cells k are = ext_get_or (blank_cell false 0) cells (cells_of_log slots pages area rs) (omega (arith, k.sized, length-map-range_with_len (cell_after slots area rs) 1 (8 * pages))) each
  where
    each : (id : ℕ) → id < length cells → cell_at cells id ≡ cell_at (cells_of_log slots pages area rs) id
    each zero low = k.empty 0 low k.exact.none
    each (suc id) low = are (suc id) (omega arith) (omega (arith, low, k.sized)) ∙ sym (there pages area rs id (omega (arith, low, k.sized)))
