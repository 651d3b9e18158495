-- Objects that stand in cells, and writes to them.
use Rattle.std.specs.Prelude.{ℕ, ◌<◌, ◌^◌, true, false, if◌then◌else◌, List, [], ◌∷◌, ⊤}
use Rattle.plain_model.specs.declared.object.Object.{Object}
use Rattle.plain_model.specs.declared.write.Place.{Place}
use Rattle.plain_model.specs.declared.write.Place.TheVariants.{Slot, Payload, Whole}
use Rattle.plain_model.specs.declared.write.Write.{Write}
use Rattle.cell_model.specs.Cells.{Cell, blank_cell, relink, pays, object_of}

-- objects have the place, and the value fits it
abbrev pub IsObjectPlace : ℕ → Place → ℕ → Type 0
IsObjectPlace slots (Slot slot) value = (slot < slots) × (value < 2 ^ 32)
IsObjectPlace slots _ value = ⊤

-- the write is to a place of an object that has a cell, where there are so many cells
pub record IsInside (slots cells : ℕ) (w : Write) : Type 0 where
  pub within : w.id < cells
  pub place : IsObjectPlace slots w.place w.value

-- The cell of an object after a value was written to the place. A new object is put into it whatever it held; a free cell has no
-- other place.
abbrev pub written : ℕ → Place → ℕ → Cell → Cell
written slots Whole value c = blank_cell true slots
written slots (Slot slot) value c = if c.live then relink slot (record { target = value; bit = false }) c else c
written slots Payload value c = if c.live then pays value c else c

-- the object that the cell of the id holds, where it is live
abbrev pub objects_in : ℕ → Cell → List Object
objects_in id c = if c.live then object_of id c ∷ [] else []
