-- What a slot held and holds, with strengths, and the records of that.
use Rattle.std.specs.Prelude.{ℕ, Bool, false, not, ◌&&◌, ◌==◌, if◌then◌else◌, List}
use Rattle.cell_model.specs.Cells.{Cell, Pointer, null, cell_at, pointer_at, is_strong, same, relinked}
use Rattle.strength_counts.specs.Changes.{takes_strong}
use Rattle.log_record.specs.declared.cell_record.CellRecord.{CellRecord}
use Rattle.log_record.specs.declared.cell_record.CellRecord.TheVariants.{Store, Undo}
use Rattle.core_store.specs.declared.slots.SlotChange.{SlotChange}

-- the pointer isn't null, and it is strong
abbrev pub is_counted_strong : List Cell → Pointer → Bool
is_counted_strong cells p = not (p.target == 0) && is_strong cells p

-- a new pointer from the object is strong where its target is another one that no strong pointer leads to, and whose slots are
-- null
abbrev pub is_laid_strong : List Cell → ℕ → ℕ → Bool
is_laid_strong cells id target = not (target == 0) && (not (id == target) && takes_strong (cell_at cells target))

-- the bit of a pointer that is to have this strength; null has the bit 0
abbrev pub bit_for : List Cell → ℕ → Bool → Bool
bit_for cells target strong = if target == 0 then false else same (cell_at cells target).bit strong

-- how the slot changes where a pointer of this strength to the target takes the place of what it holds
abbrev pub change_to : List Cell → ℕ → ℕ → ℕ → Bool → SlotChange
change_to cells id slot target strong =
    let old = pointer_at cells id slot in
    record { old_target = old.target; old_strong = is_counted_strong cells old; new_bit = bit_for cells target strong; new_strong = strong }

-- how a store changes the slot: the old pointer is removed first, and then the new one laid, strong by the rule of new pointers
abbrev pub stored_change : List Cell → ℕ → ℕ → ℕ → SlotChange
stored_change cells id slot target = change_to cells id slot target (is_laid_strong (relinked cells id slot null) id target)

-- how an undo changes the slot: what is laid again is weak
abbrev pub restored_change : List Cell → ℕ → ℕ → ℕ → SlotChange
restored_change cells id slot target = change_to cells id slot target false

-- the record of a store
abbrev pub store_record : ℕ → ℕ → ℕ → ℕ → SlotChange → CellRecord
store_record pass id slot target c = Store pass id slot c.old_target c.old_strong target c.new_bit c.new_strong

-- the record of the undo of a slot
abbrev pub undo_record : ℕ → ℕ → ℕ → ℕ → SlotChange → CellRecord
undo_record pass id slot target c = Undo pass slot c.old_strong c.new_bit id c.old_target target

-- the cells after the slot changed so
abbrev pub after_change : List Cell → ℕ → ℕ → ℕ → SlotChange → List Cell
after_change cells id slot target c = relinked cells id slot (record { target = target; bit = c.new_bit })

-- whether no strong pointer leads to the cell
abbrev pub has_no_strong : Cell → Bool
has_no_strong c = c.strong == 0
