-- What a change of a slot, of a payload or of a whole cell is to the cells of a store.
use Rattle.std.proofs.Common.{◌≡◌, ◌≢◌, ℕ, zero, suc, ◌<◌, List, [], ◌∷◌, Bool, true, false, not, cond, length, map, set, get_or, refl, sym, ap, ◌∙◌, subst, inl, ⊎_elim, ne_eqb, eq-eqb, arith}
use Rattle.std.specs.Prelude.{◌==◌, ◌&&◌}
use Rattle.std.specs.List.{list_all}
use Rattle.std.proofs.Math.Seq.{map-set_same}
use Rattle.std.proofs.lemmas.Bool.{cases_eq, and_parts, not-true, eqb-true, eqb-false, cond-true}
use Rattle.std.proofs.lemmas.List.{map-set}
use Rattle.cell_model.specs.Cells.{Pointer, Cell, null, blank_cell, cell_at, pointer_at, is_live, is_strong, same, edit, relink, gains, loses, relinked, pays}
use Rattle.cell_model.specs.Records.{HasPointer, IsPointer}
use Rattle.cell_model.proofs.EditLaws.{edit-set, edit-none, edit-other, edit-keeps, loses-shape}
use Rattle.cell_model.specs.Consistent.{AreConsistent}
use Rattle.cell_page.specs.declared.cell.Cell.{Cell as HeldCell}
use Rattle.cell_page.specs.Format.{IsSlotCount}
use Rattle.cell_page.specs.Stored.{cell_of}
use Rattle.log_record.specs.Records.{payload_place, after_cell_record, FitsCells, LaysWell}
use Rattle.strength_counts.specs.Changes.{takes_strong}
use Rattle.strength_counts.proofs.StoreEdits.{same-same}
use Rattle.core_store.specs.declared.three.HeldFrame.{HeldFrame}
use Rattle.core_store.specs.Frames.{Agree}
use Rattle.core_store.specs.Changes.{is_counted_strong, is_laid_strong, bit_for, stored_change, restored_change, store_record, undo_record, after_change, has_no_strong}
use Rattle.core_store.specs.Slots.{CanChange}

-- ---- records of a slot

-- where a pointer isn't null, whether it is counted strong is whether it is strong
counted-strong : (cells : List Cell) (p : Pointer) → p.target ≢ 0 → is_strong cells p ≡ is_counted_strong cells p
counted-strong cells p n = ap (λ (b : Bool). not b && is_strong cells p) (sym (ne_eqb p.target 0 n))

-- the bit for a strength gives it
bit-strength : (cells : List Cell) (target : ℕ) (strong : Bool) → target ≢ 0 → is_strong cells (record { target = target; bit = bit_for cells target strong }) ≡ strong
bit-strength cells target strong n =
    let bit = (cell_at cells target).bit in
    ap (λ (b : Bool). same bit (cond b false (same bit strong))) (ne_eqb target 0 n) ∙ same-same bit strong

-- the bit for null is 0
pub bit-null : (cells : List Cell) (target : ℕ) (strong : Bool) → target ≡ 0 → bit_for cells target strong ≡ false
bit-null cells target strong e = cond-true (target == 0) false (same (cell_at cells target).bit strong) (eq-eqb target 0 e)

-- what a slot made null leaves of other cells
pub cut-pointers : (cells : List Cell) (id slot target : ℕ) → id ≢ target → (cell_at (relinked cells id slot null) target).pointers ≡ (cell_at cells target).pointers
cut-pointers cells id slot target apart =
    let old = pointer_at cells id slot in
    let first = edit cells id (relink slot null) in
    let second = edit first old.target (loses old.bit) in
    ap (λ (cs : List Cell). (cell_at cs target).pointers) (edit-none second 0 (gains false) (inl refl))
    ∙ edit-keeps (λ c. c.pointers) first old.target target (loses old.bit) (λ c. ap (λ s. s.3) (loses-shape old.bit c))
    ∙ ap (λ (c : Cell). c.pointers) (edit-other cells id target (relink slot null) (λ e. apart (sym e)))

module _ (slots ids : ℕ) (cells : List Cell) (id slot target : ℕ) (can : CanChange slots ids cells id slot target) where
  -- the slot holds what the change says of the old pointer
  pub holds-old : HasPointer cells id slot (pointer_at cells id slot).target (is_counted_strong cells (pointer_at cells id slot))
  holds-old = record {
    live = can.live;
    within = subst (λ (n : ℕ). slot < n) (sym (can.consistent.slotted id can.live)) can.within;
    target = refl;
    target_live = can.consistent.exact.closed id slot can.live;
    strength = counted-strong cells (pointer_at cells id slot);
  }

  -- and what is laid is a pointer of its strength
  pub lays-new : (strong : Bool) → IsPointer cells target (bit_for cells target strong) strong
  lays-new strong = record { live = can.target_live; strength = bit-strength cells target strong; null = bit-null cells target strong }

  -- the record of a store fits the cells
  pub store-fits : (pass : ℕ) → FitsCells cells (store_record pass id slot target (stored_change cells id slot target))
  store-fits pass = (holds-old, lays-new (is_laid_strong (relinked cells id slot null) id target))

  -- the record of the undo of a slot fits the cells
  pub undo-fits : (pass : ℕ) → slot ≢ payload_place → FitsCells cells (undo_record pass id slot target (restored_change cells id slot target))
  undo-fits pass n = rw (ne_eqb slot payload_place n) (holds-old, lays-new false)

all-null : (ps : List Pointer) → list_all (λ p. p.target == 0) ps ≡ true → (k : ℕ) → (get_or ps k null).target ≡ 0
all-null [] h k = refl
all-null (p ∷ ps) h zero = eqb-true p.target 0 (and_parts (p.target == 0) (list_all (λ p. p.target == 0) ps) h).0
all-null (p ∷ ps) h (suc k) = all-null ps (and_parts (p.target == 0) (list_all (λ p. p.target == 0) ps) h).1 k

-- a strong pointer that a store lays closes no cycle
pub store-lays_well : (cells : List Cell) (pass id slot target : ℕ) → LaysWell cells (store_record pass id slot target (stored_change cells id slot target))
store-lays_well cells pass id slot target h =
    let cut = relinked cells id slot null in
    let other = and_parts (not (target == 0)) (not (id == target) && takes_strong (cell_at cut target)) h in
    let parts = and_parts (not (id == target)) (takes_strong (cell_at cut target)) other.1 in
    let apart = eqb-false id target (not-true (id == target) parts.0) in
    let nulls = (and_parts ((cell_at cut target).strong == 0) (list_all (λ p. p.target == 0) (cell_at cut target).pointers) parts.1).1 in
    (apart, λ k. ap (λ (ps : List Pointer). (get_or ps k null).target) (sym (cut-pointers cells id slot target apart)) ∙ all-null (cell_at cut target).pointers nulls k)

-- an undo lays no strong pointer
pub undo-lays_well : (cells : List Cell) (pass id slot target : ℕ) → slot ≢ payload_place → LaysWell cells (undo_record pass id slot target (restored_change cells id slot target))
undo-lays_well cells pass id slot target n = rw (ne_eqb slot payload_place n) tt

-- the cells after the record of a store are those after the change
pub after-store : (slots : ℕ) (cells : List Cell) (pass id slot target : ℕ) → after_cell_record slots cells (store_record pass id slot target (stored_change cells id slot target)) ≡ after_change cells id slot target (stored_change cells id slot target)
after-store slots cells pass id slot target = refl

-- and those after the record of the undo of a slot
pub after-undo : (slots : ℕ) (cells : List Cell) (pass id slot target : ℕ) → slot ≢ payload_place → after_cell_record slots cells (undo_record pass id slot target (restored_change cells id slot target)) ≡ after_change cells id slot target (restored_change cells id slot target)
after-undo slots cells pass id slot target n = rw (ne_eqb slot payload_place n) refl

-- no slot of an object is the payload's place
pub slot-place : (slots slot : ℕ) → IsSlotCount slots → slot < slots → slot ≢ payload_place
slot-place slots slot count within = ⊎_elim (λ six e. absurd (omega arith)) (λ fourteen e. absurd (omega arith)) count

-- ---- marks

-- an edit that keeps whether no strong pointer leads to the cell keeps all marks
pub edit-marks_same : (cells : List Cell) (id : ℕ) (f : Cell → Cell) → has_no_strong (f (cell_at cells id)) ≡ has_no_strong (cell_at cells id) → map has_no_strong (edit cells id f) ≡ map has_no_strong cells
edit-marks_same cells id f same_mark =
    ⊎_elim
    (λ e. ap (map has_no_strong) (edit-none cells id f (inl e)))
    (λ n. ap (map has_no_strong) (edit-set cells id f n) ∙ map-set_same has_no_strong cells id (f (cell_at cells id)) (blank_cell false 0) same_mark)
    (cases_eq id 0)

-- an edit changes the mark of its cell alone
pub edit-marks : (cells : List Cell) (id : ℕ) (f : Cell → Cell) → id ≢ 0 → map has_no_strong (edit cells id f) ≡ set (map has_no_strong cells) id (has_no_strong (f (cell_at cells id)))
edit-marks cells id f n = ap (map has_no_strong) (edit-set cells id f n) ∙ map-set has_no_strong cells id (f (cell_at cells id))

-- a payload has no mark
pub pays-marks : (cells : List Cell) (id value : ℕ) → map has_no_strong (edit cells id (pays value)) ≡ map has_no_strong cells
pays-marks cells id value = edit-marks_same cells id (pays value) refl

-- a new object has the mark of a cell to which no strong pointer leads
pub make-marks : (slots : ℕ) (cells : List Cell) (id : ℕ) → (cell_at cells id).strong ≡ 0 → map has_no_strong (edit cells id (λ _. blank_cell true slots)) ≡ map has_no_strong cells
make-marks slots cells id none = edit-marks_same cells id (λ _. blank_cell true slots) (sym (eq-eqb (cell_at cells id).strong 0 none))

-- where a cell was free, all marks stay
pub made-marks : (slots ids : ℕ) (cells : List Cell) (id : ℕ) → AreConsistent slots ids cells → id < length cells → is_live cells id ≡ false → map has_no_strong (edit cells id (λ _. blank_cell true slots)) ≡ map has_no_strong cells
made-marks slots ids cells id k within dead = make-marks slots cells id (ap (λ (c : Cell). c.strong) (k.empty id within dead))

-- the held pages to which the cell of a new object was put are those of the store with a blank live cell
pub made-agree : {slots : ℕ} (cells : List Cell) (new : List (HeldFrame slots)) (id : ℕ) (c : HeldCell slots) → c.id ≡ id → cell_of c ≡ blank_cell true slots → Agree (edit cells c.id (λ _. cell_of c)) new → Agree (edit cells id (λ _. blank_cell true slots)) new
made-agree {slots} cells new id c same_id blank agree =
    subst (λ (n : ℕ). Agree (edit cells n (λ _. blank_cell true slots)) new) same_id (subst (λ (x : Cell). Agree (edit cells c.id (λ _. x)) new) blank agree)
