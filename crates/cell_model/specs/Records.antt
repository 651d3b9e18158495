-- Log records: what each does to the cells, and when it fits them.
use Rattle.std.specs.Prelude.{◌≡◌, ℕ, ◌<◌, ◌≤◌, Bool, true, false, List, [], ◌∷◌, length, fold, Option, Some, None}
use Rattle.std.specs.Option.{option_map_or}
use Rattle.cell_model.specs.Strong.{HasNoStrongOut}
use Rattle.cell_model.specs.Cells.{Cell, null, blank_cell, cell_at, pointer_at, is_live, is_strong, pointer_in, edit, relinked, other_strength, pays, flipped, self_pointers}

-- a record of the log that concerns cells
pub data Record : Type 0 where
  Begin : (pass : ℕ) → Record
  Make : (pass id : ℕ) → Record
  Store : (pass id slot old_target : ℕ) (old_strong : Bool) (new_target : ℕ) (new_bit new_strong : Bool) → Record
  Pay : (pass id old_value new_value : ℕ) → Record
  Commit : (pass : ℕ) → Record
  -- the undo of a slot
  Undo : (pass id slot «from» : ℕ) (from_strong : Bool) (to : ℕ) (to_bit : Bool) → Record
  -- the undo of the payload
  UndoPay : (pass id «from» to : ℕ) → Record
  AbortEnd : (pass : ℕ) → Record
  Weaken : (id slot target : ℕ) → Record
  Strengthen : (id slot target : ℕ) → Record
  Flip : (id : ℕ) → Record
  CutDead : (id slot target : ℕ) (was_strong : Bool) → Record
  Free : (id : ℕ) → Record

-- the cells after a record, in a store whose cells have so many slots
abbrev pub after_record : ℕ → List Cell → Record → List Cell
after_record slots cells (Make pass id) = edit cells id (λ _. blank_cell true slots)
after_record slots cells (Store pass id slot old_target old_strong new_target new_bit new_strong) = relinked cells id slot (record { target = new_target; bit = new_bit })
after_record slots cells (Pay pass id old_value new_value) = edit cells id (pays new_value)
after_record slots cells (Undo pass id slot «from» from_strong to to_bit) = relinked cells id slot (record { target = to; bit = to_bit })
after_record slots cells (UndoPay pass id «from» to) = edit cells id (pays to)
after_record slots cells (Weaken id slot target) = relinked cells id slot (other_strength (pointer_at cells id slot))
after_record slots cells (Strengthen id slot target) = relinked cells id slot (other_strength (pointer_at cells id slot))
after_record slots cells (Flip id) = edit cells id (flipped id)
after_record slots cells (CutDead id slot target was_strong) = relinked cells id slot null
after_record slots cells (Free id) = edit cells id (λ _. blank_cell false slots)
after_record slots cells _ = cells

-- the slot of a live cell holds a pointer to this target, of this strength
pub record HasPointer (cells : List Cell) (id slot to : ℕ) (strong : Bool) : Type 0 where
  pub live : is_live cells id ≡ true
  pub within : slot < length (cell_at cells id).pointers
  pub target : (pointer_at cells id slot).target ≡ to
  pub target_live : (to ≡ 0 → ⊥) → is_live cells to ≡ true
  pub strength : (to ≡ 0 → ⊥) → is_strong cells (pointer_at cells id slot) ≡ strong

-- a pointer to this target with this bit has this strength, and the target is live; the null pointer has bit 0
pub record IsPointer (cells : List Cell) (target : ℕ) (bit strong : Bool) : Type 0 where
  pub live : (target ≡ 0 → ⊥) → is_live cells target ≡ true
  pub strength : (target ≡ 0 → ⊥) → is_strong cells (record { target = target; bit = bit }) ≡ strong
  pub null : target ≡ 0 → bit ≡ false

-- all slots of the cell are null
abbrev pub HasNoPointer : Cell → Type 0
HasNoPointer c = (slot : ℕ) → (pointer_in c slot).target ≡ 0

-- the record fits the cells; that a count that falls is above 0 follows from exact counts
abbrev pub Fits : List Cell → Record → Type 0
Fits cells (Make pass id) = ((id ≡ 0 → ⊥) × (id < length cells) × (is_live cells id ≡ false))
Fits cells (Store pass id slot old_target old_strong new_target new_bit new_strong) = HasPointer cells id slot old_target old_strong × IsPointer cells new_target new_bit new_strong
Fits cells (Pay pass id old_value new_value) = (is_live cells id ≡ true) × ((cell_at cells id).payload ≡ old_value)
Fits cells (Undo pass id slot «from» from_strong to to_bit) = HasPointer cells id slot «from» from_strong × IsPointer cells to to_bit false
Fits cells (UndoPay pass id «from» to) = (is_live cells id ≡ true) × ((cell_at cells id).payload ≡ «from»)
Fits cells (Weaken id slot target) = HasPointer cells id slot target true × (target ≡ 0 → ⊥)
Fits cells (Strengthen id slot target) = HasPointer cells id slot target false × (target ≡ 0 → ⊥)
Fits cells (Flip id) = (is_live cells id ≡ true) × ((cell_at cells id).strong ≡ 0) × (self_pointers id (cell_at cells id) ≤ (cell_at cells id).weak)
Fits cells (CutDead id slot target was_strong) = HasPointer cells id slot target was_strong × (target ≡ 0 → ⊥)
Fits cells (Free id) = (is_live cells id ≡ true) × (id ≡ 1 → ⊥) × HasNoPointer (cell_at cells id) × ((cell_at cells id).strong ≡ 0) × ((cell_at cells id).weak ≡ 0)
Fits cells _ = Unit {0}

-- the cells after all records of a journal; an event that changes no cell has none
abbrev pub cells_after : ℕ → List Cell → List (Option Record) → List Cell
cells_after slots cells records = fold (λ cs r. option_map_or (after_record slots cs) r cs) cells records

-- each record fits the cells before it
abbrev pub AllFit : ℕ → List Cell → List (Option Record) → Type 0
AllFit slots cells [] = Unit {0}
AllFit slots cells (Some r ∷ rs) = Fits cells r × AllFit slots (after_record slots cells r) rs
AllFit slots cells (None ∷ rs) = AllFit slots cells rs

-- ---- the strengths that records lay

-- the record makes a pointer strong only where no cycle of strong pointers can come of it
abbrev pub IsWellLaid : List Cell → Record → Type 0
-- by the rule of `Store`: the target isn't the object itself, and all its slots are null
IsWellLaid cells (Store pass id slot old_target old_strong new_target new_bit new_strong) = new_strong ≡ true → (id ≡ new_target → ⊥) × HasNoPointer (cell_at cells new_target)
-- no strong pointer leads out of the target, which isn't the object itself
IsWellLaid cells (Strengthen id slot target) = (id ≡ target → ⊥) × HasNoStrongOut cells target
IsWellLaid cells (Flip id) = HasNoStrongOut cells id
IsWellLaid cells _ = Unit {0}

-- each record makes pointers strong only so, at the cells before it
abbrev pub AllWellLaid : ℕ → List Cell → List (Option Record) → Type 0
AllWellLaid slots cells [] = Unit {0}
AllWellLaid slots cells (Some r ∷ rs) = IsWellLaid cells r × AllWellLaid slots (after_record slots cells r) rs
AllWellLaid slots cells (None ∷ rs) = AllWellLaid slots cells rs
