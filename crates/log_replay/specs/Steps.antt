-- The steps inside: which cells a record concerns, and what the parts of one do to a cell.
use Rattle.std.specs.Prelude.{◌≡◌, ◌≢◌, ◌≤◌, ℕ, Bool, true, false, if◌then◌else◌, ◌==◌, ◌||◌, ◌-◌, List, [], ◌∷◌, Option, Some, None, IfSome, IfNone, slice_index, slice_set}
use Rattle.std.specs.List.{last_or}
use Rattle.plain_model.specs.declared.write.Place.{Place}
use Rattle.plain_model.specs.declared.write.Place.TheVariants.{Slot, Payload}
use Rattle.cell_model.specs.Cells.{Cell as StoredCell, cell_at, self_pointers}
use Rattle.cell_model.specs.Records.{Record as StoredRecord, Store, Weaken, Strengthen, HasNoPointer}
use Rattle.restart_laws.specs.Local.{effect, FitsAt, concerning}
use Rattle.restart_laws.specs.Unended.{Change, Unended, unended_after}
use Rattle.cell_page.specs.declared.cell.Cell.{Cell}
use Rattle.cell_page.specs.Format.{IsCell}
use Rattle.cell_page.specs.Stored.{cell_of}
use Rattle.log_record.specs.Records.{payload_place}
use Rattle.log_replay.specs.Replays.{Replaying, is_skipped, each_after, after_cells, after_image}
use Rattle.log_replay.specs.declared.cell_steps.Relink.{Relink}
use Rattle.log_replay.specs.declared.concerned.ThreeIds.{ThreeIds}
use Rattle.log_replay.specs.declared.transaction.Write.{Write}

-- ---- writes

-- the place of a change, by the byte that an undo has for it
abbrev pub place_of_byte : ℕ → Place
place_of_byte place = if place == payload_place then Payload else Slot place

-- the change that a write made
abbrev pub change_by : Write → Change
change_by w = record { id = w.id; place = w.place; old = w.old; new = w.new }

-- ---- one cell

-- a part of a record that concerns the id: where it fits, the cell became what it makes of it
pub record IsPart {slots : ℕ} (id : ℕ) (Fits : StoredCell → Type 0) (f : StoredCell → StoredCell) (c d : Cell slots) : Type 0 where
  pub fits : c.id ≡ id → Fits (cell_of c)
  pub model : cell_of d ≡ concerning c.id id f (cell_of c)
  pub same : d.id ≡ c.id
  pub rules : IsCell c.id d

-- the whole record
pub record IsStep {slots : ℕ} (r : StoredRecord) (c d : Cell slots) : Type 0 where
  pub fits : FitsAt r c.id (cell_of c)
  pub model : cell_of d ≡ effect slots r c.id (cell_of c)
  pub same : d.id ≡ c.id
  pub rules : IsCell c.id d

-- the payload of a live cell is this
abbrev pub CanPay : ℕ → StoredCell → Type 0
CanPay old c = (c.live ≡ true) × (c.payload ≡ old)

-- the target bit of a live cell can be flipped
abbrev pub CanBeFlipped : ℕ → StoredCell → Type 0
CanBeFlipped id c = (c.live ≡ true) × (c.strong ≡ 0) × (self_pointers id c ≤ c.weak)

-- the object of the id can be deleted
abbrev pub CanFree : ℕ → StoredCell → Type 0
CanFree id c = (c.live ≡ true) × (id ≢ 1) × HasNoPointer c × (c.strong ≡ 0) × (c.weak ≡ 0)

-- a change of a slot as a record, whose client does not matter
abbrev pub moving : Relink → Bool → Bool → StoredRecord
moving change from_strong to_strong = Store 0 change.id change.slot change.«from» from_strong change.to change.to_bit to_strong

-- a slot's pointer becomes strong, or weak
abbrev pub shifting : ℕ → ℕ → ℕ → Bool → StoredRecord
shifting id slot target true = Strengthen id slot target
shifting id slot target false = Weaken id slot target

-- ---- the cells that a record concerns

-- the record leaves the cell of the id alone, whatever it is
abbrev pub IsUnconcerned : ℕ → StoredRecord → ℕ → Type 0
IsUnconcerned slots r x = (c : StoredCell) → FitsAt r x c × (effect slots r x c ≡ c)

-- these ids are all that the record concerns, and none but 0, which stands for none, stands twice
pub record AreConcerned (slots : ℕ) (r : StoredRecord) (ids : ThreeIds) : Type 0 where
  pub others : (x : ℕ) → x ≢ 0 → x ≢ ids.own → x ≢ ids.«from» → x ≢ ids.to → IsUnconcerned slots r x
  pub from_apart : ids.«from» ≢ 0 → ids.«from» ≢ ids.own
  pub to_apart : ids.to ≢ 0 → (ids.to ≢ ids.own) × (ids.to ≢ ids.«from»)

-- these are the three ids, but for those that would stand twice
pub record AreApart (own «from» to : ℕ) (ids : ThreeIds) : Type 0 where
  pub own_kept : ids.own ≡ own
  pub from_kept : ids.«from» ≡ (if «from» == own then 0 else «from»)
  pub to_kept : ids.to ≡ (if (to == own) || (to == «from») then 0 else to)

-- ---- the replay

-- the record fits the cell of the id, if it is one, and no image of its page is still to come
abbrev pub FitsCell : List ℕ → List StoredCell → StoredRecord → ℕ → Type 0
FitsCell skips cells r x = 1 ≤ x → is_skipped skips x ≡ false → FitsAt r x (cell_at cells x)

-- the replay after the record was done to the cell of the id
abbrev pub changed_in : ℕ → StoredRecord → ℕ → Replaying → Replaying
changed_in slots r id v = record v { cells = slice_set v.cells id (after_cells slots v.skips r id (cell_at v.cells id)) }

-- the cell of the id became what the record makes of it
abbrev pub effect_at : ℕ → StoredRecord → ℕ → Replaying → Replaying
effect_at slots r id v = record v { cells = slice_set v.cells id (effect slots r id (cell_at v.cells id)) }

-- after it was done to all cells
abbrev pub with_cells_after : ℕ → StoredRecord → Replaying → Replaying
with_cells_after slots r v = record v { cells = each_after (after_cells slots v.skips r) v.cells }

-- after a record of single cells was taken
abbrev pub taken_of_cells : ℕ → StoredRecord → Replaying → Replaying
taken_of_cells slots r v = record { cells = each_after (after_cells slots v.skips r) v.cells; unended = unended_after v.unended r; skips = v.skips }

-- after an image of a page was taken
abbrev pub taken_image : {slots : ℕ} → ℕ → List (Cell slots) → Replaying → Replaying
taken_image page held v =
    record { cells = each_after (after_image v.skips page held) v.cells; unended = v.unended; skips = slice_set v.skips page (slice_index v.skips page - 1) }

-- ---- the first transaction that hasn't ended

-- this is the first client, and the last write of its transaction that isn't undone
pub record IsFirst (us : List (ℕ × Unended)) (pass : ℕ) (last : Option Write) : Type 0 where
  pub entry : ℕ × Unended
  pub rest : List (ℕ × Unended)
  pub split : us ≡ entry ∷ rest
  pub client : entry.0 ≡ pass
  pub some : IfSome last (λ w. last_or None entry.1.changes ≡ Some (change_by w))
  pub none : IfNone last (entry.1.changes ≡ [])
