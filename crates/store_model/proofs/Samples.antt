-- Worked rows, computed by the definitions: a store of three ids with two slots each.
use Rattle.std.proofs.Common.{◌≡◌, ℕ, List, [], ◌∷◌, Bool, true, false, refl, Option, Some, None, replicate}
use Rattle.plain_model.specs.declared.calls.Entry.TheVariants.{Undo as UndoEntry}
use Rattle.plain_model.specs.Graphs.{object_at}
use Rattle.plain_model.specs.ActiveTransaction.{ActiveTransaction}
use Rattle.plain_model.specs.History.{Moment, next}
use Rattle.cell_model.specs.Cells.{Pointer, Cell, null, blank_cell, pointers_to}
use Rattle.cell_model.specs.Records.{Record, Begin, Make, Store, Pay, Undo, Weaken, Strengthen, Flip, CutDead, Free, after_record, cells_after}
use Rattle.store_model.specs.Core.{Cut, Put, slot_in, current}
use Rattle.store_model.specs.Fresh.{fresh_cells, fresh_moment}
use Rattle.store_model.specs.Steps.{store_references, references_left, make_by, store_by, set_by, moment_begun, moment_made, moment_with}

to : ℕ → Bool → Pointer
to target bit = record { target = target; bit = bit }

live_cell : Bool → ℕ → ℕ → ℕ → List Pointer → Cell
live_cell bit strong weak payload pointers = record { live = true; bit = bit; strong = strong; weak = weak; payload = payload; pointers = pointers }

free_cell : Cell
free_cell = blank_cell false 2

-- ---- records

-- object 2 is made, and the root points to it strongly; object 3 is made, and 2 points to it weakly, as 3 does to itself
opening_records : List (Option Record)
opening_records =
    Some (Begin 1) ∷ Some (Make 1 2) ∷ Some (Store 1 1 0 0 false 2 false true) ∷ None ∷ Some (Make 1 3) ∷ Some (Store 1 2 0 0 false 3 true false) ∷ Some (Store 1 3 1 0 false 3 true false) ∷ Some (Pay 1 3 0 7) ∷ []

three_cells : List Cell
three_cells =
    free_cell ∷ live_cell false 1 0 0 (to 2 false ∷ null ∷ []) ∷ live_cell false 1 0 0 (to 3 true ∷ null ∷ []) ∷ live_cell false 0 2 7 (null ∷ to 3 true ∷ []) ∷ []

cells-three : cells_after 2 (fresh_cells 2 2) opening_records ≡ three_cells
unfolding opening_records three_cells to live_cell free_cell
cells-three = refl

-- the flip of 3 makes the pointer of 2 strong, and leaves its own pointer weak
cells-flipped : after_record 2 three_cells (Flip 3) ≡ free_cell ∷ live_cell false 1 0 0 (to 2 false ∷ null ∷ []) ∷ live_cell false 1 0 0 (to 3 true ∷ null ∷ []) ∷ live_cell true 1 1 7 (null ∷ to 3 false ∷ []) ∷ []
unfolding three_cells to live_cell free_cell
cells-flipped = refl

-- the root's pointer is made weak, and strong again
cells-weakened : after_record 2 three_cells (Weaken 1 0 2) ≡ free_cell ∷ live_cell false 1 0 0 (to 2 true ∷ null ∷ []) ∷ live_cell false 0 1 0 (to 3 true ∷ null ∷ []) ∷ live_cell false 0 2 7 (null ∷ to 3 true ∷ []) ∷ []
unfolding three_cells to live_cell free_cell
cells-weakened = refl

cells-strengthened : after_record 2 (after_record 2 three_cells (Weaken 1 0 2)) (Strengthen 1 0 2) ≡ three_cells
unfolding three_cells to live_cell free_cell
cells-strengthened = refl

-- an undo removes the pointer, and lays the old one as weak
cells-undone : after_record 2 three_cells (Undo 1 1 0 2 true 3 true) ≡ free_cell ∷ live_cell false 1 0 0 (to 3 true ∷ null ∷ []) ∷ live_cell false 0 0 0 (to 3 true ∷ null ∷ []) ∷ live_cell false 0 3 7 (null ∷ to 3 true ∷ []) ∷ []
unfolding three_cells to live_cell free_cell
cells-undone = refl

-- the references of 3 and to it are removed, and 3 is freed
cells-freed : cells_after 2 three_cells (Some (CutDead 2 0 3 false) ∷ Some (CutDead 3 1 3 false) ∷ Some (Free 3) ∷ []) ≡ free_cell ∷ live_cell false 1 0 0 (to 2 false ∷ null ∷ []) ∷ live_cell false 1 0 0 (null ∷ null ∷ []) ∷ free_cell ∷ []
unfolding three_cells to live_cell free_cell
cells-freed = refl

-- counts by the bit of the pointers
pointers-three : pointers_to three_cells 3 true ≡ 2
unfolding three_cells to live_cell free_cell
pointers-three = refl

pointers-two : pointers_to three_cells 2 false ≡ 1
unfolding three_cells to live_cell free_cell
pointers-two = refl

-- ---- moments

-- the client makes object 2 into register 1, stores it into the root, and writes its payload
writer : ActiveTransaction
writer = set_by (store_by (make_by (record { writes = []; shared = []; owned = []; registers = Some 1 ∷ replicate 7 None; aborting = false }) 1 2) 1 0 2) 2 9

written : Moment
written = moment_with (moment_made (moment_begun (fresh_moment 2 2) 4) 4 (record { writes = []; shared = []; owned = []; registers = Some 1 ∷ replicate 7 None; aborting = false }) 1 2) 4 writer

-- all is in the current graph
current-written : object_at (current written) 2 ≡ Some (record { id = 2; slots = 0 ∷ 0 ∷ []; payload = 9 })
unfolding written writer
current-written = refl

current-root : slot_in (current written) 1 0 ≡ 2
unfolding written writer
current-root = refl

-- one undo takes back the payload, the next one the slot; the new object stays, since it isn't committed
current-undone_once : object_at (current (next written (UndoEntry 4))) 2 ≡ Some (record { id = 2; slots = 0 ∷ 0 ∷ []; payload = 0 })
unfolding written writer
current-undone_once = refl

current-undone_twice : slot_in (current (next (next written (UndoEntry 4)) (UndoEntry 4))) 1 0 ≡ 0
unfolding written writer
current-undone_twice = refl

current-made : object_at (current (next (next written (UndoEntry 4)) (UndoEntry 4))) 2 ≡ Some (record { id = 2; slots = 0 ∷ 0 ∷ []; payload = 0 })
unfolding written writer
current-made = refl

-- ---- references

references-both : store_references 4 5 6 ≡ record { pass = 4; target = 5; kind = Cut } ∷ record { pass = 4; target = 6; kind = Put } ∷ []
references-both = refl

references-none : store_references 4 0 0 ≡ []
references-none = refl

references-left : references_left (record { pass = 4; target = 5; kind = Cut } ∷ record { pass = 3; target = 5; kind = Put } ∷ []) 4 ≡ record { pass = 3; target = 5; kind = Put } ∷ []
references-left = refl
