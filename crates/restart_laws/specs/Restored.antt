-- How a store opens: the transactions that haven't ended are undone, clients ascending, each from its last change on.
use Rattle.std.specs.Prelude.{◌≡◌, ◌≢◌, ℕ, Bool, true, false, not, ◌==◌, ◌&&◌, if◌then◌else◌, List, [], ◌∷◌, ◌++◌, reverse, map, Option, Some, None}
use Rattle.std.specs.List.{last_or}
use Rattle.std.specs.Option.{option_map_or}
use Rattle.plain_model.specs.declared.write.Place.{Place}
use Rattle.plain_model.specs.declared.write.Place.TheVariants.{Slot, Payload, Whole}
use Rattle.cell_model.specs.Cells.{Cell, Pointer, cell_at, pointer_at, is_live, is_strong}
use Rattle.cell_model.specs.Records.{Record, Undo, UndoPay, AbortEnd, after_record, cells_after}
use Rattle.restart_laws.specs.Unended.{Change, Unended, unended_after_all}

-- the pointer isn't null, and it is strong
abbrev pub is_counted_strong : List Cell → Pointer → Bool
is_counted_strong cells p = not (p.target == 0) && is_strong cells p

-- the bit with which a pointer to the target is weak; null has the bit 0
abbrev pub weak_bit : List Cell → ℕ → Bool
weak_bit cells target = if target == 0 then false else not (cell_at cells target).bit

-- the record of the undo of a change: what stood there before stands there again, a pointer as a weak one
abbrev pub undo_of : List Cell → ℕ → Change → Record
undo_of cells pass c = by c.place
  where
    by : Place → Record
    by (Slot slot) = Undo pass c.id slot c.new (is_counted_strong cells (pointer_at cells c.id slot)) c.old (weak_bit cells c.old)
    by _ = UndoPay pass c.id c.new c.old

-- the records that undo these changes, the first one first, and end the transaction
abbrev pub undo_records : ℕ → List Cell → ℕ → List Change → List Record
undo_records slots cells pass [] = AbortEnd pass ∷ []
undo_records slots cells pass (c ∷ cs) = undo_of cells pass c ∷ undo_records slots (after_record slots cells (undo_of cells pass c)) pass cs

-- the cells after these records
abbrev pub after_records : ℕ → List Cell → List Record → List Cell
after_records slots cells rs = cells_after slots cells (map Some rs)

-- the records that undo and end these transactions, in their order, each from its last change on
abbrev pub restart_records : ℕ → List Cell → List (ℕ × Unended) → List Record
restart_records slots cells [] = []
restart_records slots cells (e ∷ es) =
    let rs = undo_records slots cells e.0 (reverse e.1.changes) in
    rs ++ restart_records slots (after_records slots cells rs) es

-- the cells where these transactions are undone
abbrev pub restored : ℕ → List Cell → List (ℕ × Unended) → List Cell
restored slots cells us = after_records slots cells (restart_records slots cells us)

-- the cells that a log opens to: each of its records is done to the cells that it begins with, and what hasn't ended is undone
abbrev pub opened : ℕ → List Cell → List (Option Record) → List Cell
opened slots cells records = restored slots (cells_after slots cells records) (unended_after_all [] records)

-- the next record of that: the undo of the last change of the first transaction, or its end; none where nothing is left
abbrev pub next_undo : List Cell → List (ℕ × Unended) → Option Record
next_undo cells [] = None
next_undo cells (e ∷ es) = Some (option_map_or (undo_of cells e.0) (last_or None e.1.changes) (AbortEnd e.0))

-- ---- what can be undone

-- the place of a live cell holds the value
abbrev pub IsThere : List Cell → ℕ → Place → ℕ → Type 0
IsThere cells id (Slot slot) value = (pointer_at cells id slot).target ≡ value
IsThere cells id Payload value = (cell_at cells id).payload ≡ value
IsThere cells id Whole value = ⊥

-- what stood at the place can stand there again: null, or a live object
abbrev pub CanStand : List Cell → Place → ℕ → Type 0
CanStand cells (Slot slot) value = value ≢ 0 → is_live cells value ≡ true
CanStand cells _ value = Unit {0}

-- a change can be undone: its cell is live and has what the transaction left there, and what stood there before can stand there
-- again
pub record CanBeUndone (cells : List Cell) (c : Change) : Type 0 where
  pub live : is_live cells c.id ≡ true
  pub left : IsThere cells c.id c.place c.new
  pub old : CanStand cells c.place c.old

-- the changes can be undone, the first one first
abbrev pub CanAllBeUndone : ℕ → List Cell → ℕ → List Change → Type 0
CanAllBeUndone slots cells pass [] = Unit {0}
CanAllBeUndone slots cells pass (c ∷ cs) = CanBeUndone cells c × CanAllBeUndone slots (after_record slots cells (undo_of cells pass c)) pass cs

-- the transactions can be undone, in their order, each from its last change on
abbrev pub CanRestart : ℕ → List Cell → List (ℕ × Unended) → Type 0
CanRestart slots cells [] = Unit {0}
CanRestart slots cells (e ∷ es) = CanAllBeUndone slots cells e.0 (reverse e.1.changes) × CanRestart slots (after_records slots cells (undo_records slots cells e.0 (reverse e.1.changes))) es
