-- The replay of a log: what it has, which record fits it, and what it has after a record.
use Rattle.std.specs.Prelude.{◌≡◌, ◌≢◌, ℕ, ◌+◌, ◌-◌, ◌*◌, ◌<◌, ◌≤◌, ◌==◌, ◌||◌, ◌&&◌, not, nat_le, Bool, false, if◌then◌else◌, List, length, map, slice_index, slice_set}
use Rattle.std.specs.List.{range_with_len}
use Rattle.cell_model.specs.Cells.{Cell as StoredCell, cell_at}
use Rattle.cell_model.specs.Records.{Record as StoredRecord}
use Rattle.restart_laws.specs.Unended.{Unended, FitsUnended, unended_after}
use Rattle.restart_laws.specs.Local.{effect, FitsAt, is_in_page, cell_in}
use Rattle.cell_page.specs.declared.cell.Cell.{Cell}
use Rattle.cell_page.specs.Format.{IsSlotCount, page_of_id}
use Rattle.cell_page.specs.Stored.{cell_of}
use Rattle.log_record.specs.declared.cell_record.CellRecord.{CellRecord}
use Rattle.log_record.specs.declared.cell_record.CellRecord.TheVariants.{Begin, Make, Store, Pay, Undo, Weaken, Strengthen, Flip, CutDead, Free}
use Rattle.log_record.specs.declared.record.Record.{Record}
use Rattle.log_record.specs.declared.record.Record.TheVariants.{OfCells, Image, Turn}
use Rattle.log_replay.specs.Placed.{AreStoreEntries}
use Rattle.log_record.specs.Records.{payload_place, record_of}

-- what a replay has so far
pub record Replaying : Type 0 where
  -- the cells, each at its id
  pub cells : List StoredCell
  -- the transactions that haven't ended
  pub unended : List (ℕ × Unended)
  -- for each page, how many images of it are still to come
  pub skips : List ℕ

-- what a replay over pages is
pub record IsReplaying (slots : ℕ) (v : Replaying) : Type 0 where
  pub slot_count : IsSlotCount slots
  -- there are eight cells for each page, and one at 0, which is no id
  pub sized : length v.cells ≡ 8 * length v.skips + 1
  pub some : 0 < length v.skips
  pub most : length v.skips ≤ 1024
  -- what is left to undo is of the store's places
  pub placed : AreStoreEntries slots (8 * length v.skips) v.unended

-- ---- which record fits

-- an image of the id's page is still to come
abbrev pub is_skipped : List ℕ → ℕ → Bool
is_skipped skips x = not (slice_index skips (page_of_id x) == 0)

-- the ids and targets of the record are at most this
abbrev pub IsWithin : ℕ → CellRecord → Type 0
IsWithin ids (Make pass id) = id ≤ ids
IsWithin ids (Store pass id slot old_target old_strong new_target new_bit new_strong) = (id ≤ ids) × (old_target ≤ ids) × (new_target ≤ ids)
IsWithin ids (Pay pass id old_value new_value) = id ≤ ids
IsWithin ids (Undo pass place from_strong to_bit id «from» to) = (id ≤ ids) × (place ≢ payload_place → («from» ≤ ids) × (to ≤ ids))
IsWithin ids (Weaken id slot target) = (id ≤ ids) × (target ≤ ids)
IsWithin ids (Strengthen id slot target) = (id ≤ ids) × (target ≤ ids)
IsWithin ids (Flip id) = id ≤ ids
IsWithin ids (CutDead id slot target was_strong) = (id ≤ ids) × (target ≤ ids)
IsWithin ids (Free id) = id ≤ ids
IsWithin ids _ = Unit {0}

-- the record adds nothing to what is remembered of the transactions that haven't ended
abbrev pub NotesNothing : CellRecord → Type 0
NotesNothing (Begin pass) = ⊥
NotesNothing (Store pass id slot old_target old_strong new_target new_bit new_strong) = ⊥
NotesNothing (Pay pass id old_value new_value) = ⊥
NotesNothing _ = Unit {0}

-- the record fits each cell but those of whose pages images are still to come
abbrev pub FitsUnskippedCells : List ℕ → List StoredCell → StoredRecord → Type 0
FitsUnskippedCells skips cells r = (x : ℕ) → 1 ≤ x → x < length cells → is_skipped skips x ≡ false → FitsAt r x (cell_at cells x)

-- the record fits what the replay has
abbrev pub FitsReplay : {slots : ℕ} → Replaying → Record slots → Type 0
FitsReplay v (OfCells r) = IsWithin (8 * length v.skips) r × FitsUnended v.unended (record_of r) × FitsUnskippedCells v.skips v.cells (record_of r)
FitsReplay v (Image page cells) = page < length v.skips
FitsReplay v (Turn version pages) = Unit {0}

-- ---- what it has afterwards

-- the cells, where each became what f makes of it at its id
abbrev pub each_after : (ℕ → StoredCell → StoredCell) → List StoredCell → List StoredCell
each_after f cells = map (λ x. f x (cell_at cells x)) (range_with_len 0 (length cells))

-- the cell of the id after a record of single cells: as it was while an image of its page is still to come
abbrev pub after_cells : ℕ → List ℕ → StoredRecord → ℕ → StoredCell → StoredCell
after_cells slots skips r x c = if (x == 0) || is_skipped skips x then c else effect slots r x c

-- the cell of the id after an image of a page: the last one that is to come is the page
abbrev pub after_image : {slots : ℕ} → List ℕ → ℕ → List (Cell slots) → ℕ → StoredCell → StoredCell
after_image skips page held x c = if is_in_page page x && nat_le (slice_index skips page) 1 then cell_in page (map cell_of held) x else c

-- what the replay has after the record
abbrev pub after_taking : {slots : ℕ} → Record slots → Replaying → Replaying
after_taking {slots} (OfCells r) v =
    record { cells = each_after (after_cells slots v.skips (record_of r)) v.cells; unended = unended_after v.unended (record_of r); skips = v.skips }
after_taking (Image page held) v =
    record { cells = each_after (after_image v.skips page held) v.cells; unended = v.unended; skips = slice_set v.skips page (slice_index v.skips page - 1) }
after_taking (Turn version pages) v = v
