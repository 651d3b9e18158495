-- What a write replaced is laid again.
use Rattle.std.proofs.Common.{◌≡◌, ◌≢◌, ℕ, ◌<◌, List, Bool, true, false, cond, refl, sym, ap, ◌∙◌, subst, ◌⊎◌, ⊎_elim, ne_eqb}
use Rattle.plain_model.specs.declared.write.Place.{Place}
use Rattle.plain_model.specs.declared.write.Place.TheVariants.{Slot, Payload, Whole}
use Rattle.plain_model.specs.declared.write.Write.{Write}
use Rattle.cell_model.specs.Cells.{Cell, cell_at, is_live, edit, pays, relinked}
use Rattle.cell_model.specs.Records.{Undo as UndoRecord, UndoPay as UndoPayRecord, after_record}
use Rattle.cell_page.specs.Format.{IsSlotCount}
use Rattle.log_record.specs.declared.cell_record.CellRecord.TheVariants.{Undo}
use Rattle.log_record.specs.Records.{payload_place, after_cell_record}
use Rattle.core_store.specs.declared.three.HeldFrame.{HeldFrame}
use Rattle.core_store.specs.declared.slots.SlotChange.{SlotChange}
use Rattle.core_store.specs.Frames.{Agree}
use Rattle.core_store.specs.Changes.{restored_change, undo_record, after_change}
use Rattle.core_store.specs.Logged.{logged_by_undo}
use Rattle.core_store.specs.Slots.{CanChange, IsReadyToChange, IsReadyToEdit, IsChanged}
use Rattle.core_store.specs.Ready.{IsReadyToRestore, CanRestore}
use Rattle.core_store.proofs.PageLaws.{elsewhere-edit}
use Rattle.core_store.proofs.SlotLaws.{slot-place, pays-marks}
use Rattle.core_store.proofs.SlotStart.{small-ids}

-- ---- a slot

-- the cells after the record of an undo whose place is a slot
after-slot : (slots : ℕ) (cells : List Cell) (pass id slot old : ℕ) (strong : Bool) (target : ℕ) (bit : Bool) → slot ≢ payload_place
    → after_cell_record slots cells (Undo pass slot strong bit id old target) ≡ relinked cells id slot (record { target = target; bit = bit })
after-slot slots cells pass id slot old strong target bit n =
    ap (λ (b : Bool). after_record slots cells (cond b (UndoPayRecord pass id old target) (UndoRecord pass id slot old strong target bit))) (ne_eqb slot payload_place n)

module _ (slots ids : ℕ) (cells : List Cell) (pass : ℕ) (w : Write) (slot : ℕ) (is : w.place ≡ Slot slot) where
  pub can-change : CanRestore slots ids cells w → CanChange slots ids cells w.id slot w.value
  can-change can = subst (λ (p : Place). CanRestore slots ids cells (record w { place = p })) is can

  logged-slot : logged_by_undo cells pass w ≡ undo_record pass w.id slot w.value (restored_change cells w.id slot w.value)
  logged-slot = ap (λ (p : Place). logged_by_undo cells pass (record w { place = p })) is

  -- the slot changed so, and this is the record of that
  pub restores-slot : {held new : List (HeldFrame slots)} {zeros marks : List Bool} (result : SlotChange) (old : ℕ) → old ≡ result.old_target → IsSlotCount slots → CanRestore slots ids cells w
      → (result ≡ restored_change cells w.id slot w.value) × IsChanged cells (after_change cells w.id slot w.value result) held new zeros marks
      → (let undo = Undo pass slot result.old_strong result.new_bit w.id old w.value in (undo ≡ logged_by_undo cells pass w) × IsChanged cells (after_cell_record slots cells undo) held new zeros marks)
  restores-slot {held} {new} {zeros} {marks} result old same_old count can changed =
      let n = slot-place slots slot count (can-change can).within in (
        ap (λ (t : ℕ). Undo pass slot result.old_strong result.new_bit w.id t w.value) same_old ∙ ap (λ (c : SlotChange). undo_record pass w.id slot w.value c) changed.0 ∙ sym logged-slot,
        subst (λ (cs : List Cell). IsChanged cells cs held new zeros marks) (sym (after-slot slots cells pass w.id slot old result.old_strong w.value result.new_bit n)) changed.1,
      )

-- what is laid again is a small id
pub small-value : {slots : ℕ} (held : List (HeldFrame slots)) (zeros : List Bool) (w : Write) (slot : ℕ) → w.place ≡ Slot slot → IsReadyToRestore held zeros w → w.value < 65536
small-value held zeros w slot is r = (small-ids held zeros w.id slot w.value (subst (λ (p : Place). IsReadyToRestore held zeros (record w { place = p })) is r)).3

-- the place of the slot is none of a payload
pub restored-place : {slots : ℕ} (held : List (HeldFrame slots)) (zeros : List Bool) (w : Write) (slot : ℕ) → w.place ≡ Slot slot → IsSlotCount slots → IsReadyToRestore held zeros w → slot ≢ payload_place
restored-place {slots} held zeros w slot is count r =
    let ready : IsReadyToChange held zeros w.id slot w.value = subst (λ (p : Place). IsReadyToRestore held zeros (record w { place = p })) is r in
    slot-place slots slot count ready.can.within

-- ---- the payload

module _ (w : Write) (is : (w.place ≡ Payload) ⊎ (w.place ≡ Whole)) where
  by-place : (P : Place → Type 0) → P Payload → P Whole → P w.place
  by-place P a b = ⊎_elim (λ e. subst P (sym e) a) (λ e. subst P (sym e) b) is

  pub ready-edit : {slots : ℕ} (held : List (HeldFrame slots)) (zeros : List Bool) → IsReadyToRestore held zeros w → IsReadyToEdit held w.id
  ready-edit held zeros = by-place (λ p. IsReadyToRestore held zeros (record w { place = p }) → IsReadyToEdit held w.id) (λ r. r) (λ r. r)

  can-live : (slots ids : ℕ) (cells : List Cell) → CanRestore slots ids cells w → is_live cells w.id ≡ true
  can-live slots ids cells = by-place (λ p. CanRestore slots ids cells (record w { place = p }) → is_live cells w.id ≡ true) (λ l. l) (λ l. l)

  logged-payload : (cells : List Cell) (pass : ℕ) → logged_by_undo cells pass w ≡ Undo pass payload_place false false w.id (cell_at cells w.id).payload w.value
  logged-payload cells pass = by-place (λ p. logged_by_undo cells pass (record w { place = p }) ≡ Undo pass payload_place false false w.id (cell_at cells w.id).payload w.value) refl refl

  -- the payload was set, and this is the record of that
  pub restores-payload : {slots : ℕ} (held new : List (HeldFrame slots)) (zeros : List Bool) (ids : ℕ) (cells : List Cell) (pass old : ℕ) → IsReadyToRestore held zeros w → CanRestore slots ids cells w → old ≡ (cell_at cells w.id).payload
      → (is_live cells w.id ≡ true → Agree (edit cells w.id (pays w.value)) new)
      → (let undo = Undo pass payload_place false false w.id old w.value in (undo ≡ logged_by_undo cells pass w) × IsChanged cells (after_cell_record slots cells undo) held new zeros zeros)
  restores-payload {slots} held new zeros ids cells pass old r can same_old agree = (
    ap (λ (t : ℕ). Undo pass payload_place false false w.id t w.value) same_old ∙ sym (logged-payload cells pass),
    record {
      agree = agree (can-live slots ids cells can);
      elsewhere = elsewhere-edit cells held w.id (pays w.value) (ready-edit held zeros r).page;
      marks_are = λ e. e ∙ sym (pays-marks cells w.id w.value);
    },
  )
