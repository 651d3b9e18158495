-- A worked restart: a store of three ids with two slots each.
use Rattle.std.proofs.Common.{◌≡◌, ℕ, List, [], ◌∷◌, Bool, true, false, refl, Option, Some}
use Rattle.plain_model.specs.declared.write.Place.{Place}
use Rattle.plain_model.specs.declared.write.Place.TheVariants.{Slot, Payload}
use Rattle.cell_model.specs.Cells.{Pointer, Cell, null, blank_cell}
use Rattle.cell_model.specs.Records.{Record, Begin, Make, Store, Pay, Commit, Undo, UndoPay, AbortEnd, cells_after}
use Rattle.store_model.specs.Fresh.{fresh_cells}
use Rattle.restart_laws.specs.Graph.{zeros_of}
use Rattle.restart_laws.specs.Unended.{Change, unended_after_all}
use Rattle.restart_laws.specs.Restored.{restart_records, opened}

to : ℕ → Bool → Pointer
to target bit = record { target = target; bit = bit }

live_cell : ℕ → ℕ → ℕ → List Pointer → Cell
live_cell strong weak payload pointers = record { live = true; bit = false; strong = strong; weak = weak; payload = payload; pointers = pointers }

-- client 1 makes object 2, links it strongly to the root, sets its payload to 7 and commits; client 2 makes object 3,
-- links it to 2, sets the payload of 2 to 9 and cuts 2 off the root; then power is lost
log : List (Option Record)
log =
    Some (Begin 1) ∷ Some (Make 1 2) ∷ Some (Store 1 1 0 0 false 2 false true) ∷ Some (Pay 1 2 0 7) ∷ Some (Commit 1)
    ∷ Some (Begin 2) ∷ Some (Make 2 3) ∷ Some (Store 2 2 1 0 false 3 false true) ∷ Some (Pay 2 2 7 9) ∷ Some (Store 2 1 0 2 true 0 false false) ∷ []

change : ℕ → Place → ℕ → ℕ → Change
change id place old new = record { id = id; place = place; old = old; new = new }

-- what the log tells: client 2 hasn't ended
log-unended : unended_after_all [] log ≡ (2, record { changes = change 2 (Slot 1) 0 3 ∷ change 2 Payload 7 9 ∷ change 1 (Slot 0) 2 0 ∷ []; aborting = false }) ∷ []
unfolding log change
log-unended = refl

-- the records of the undo: the last change first, and the pointer to 2 is laid again as a weak one
log-undo : restart_records 2 (cells_after 2 (fresh_cells 2 2) log) (unended_after_all [] log) ≡ Undo 2 1 0 0 false 2 true ∷ UndoPay 2 2 9 7 ∷ Undo 2 2 1 3 true 0 false ∷ AbortEnd 2 ∷ []
unfolding log
log-undo = refl

-- what the store opens to: 2 is linked weakly, and 3, which nothing points to, waits for the collector as 2 does
log-opened : opened 2 (fresh_cells 2 2) log ≡ blank_cell false 2 ∷ live_cell 1 0 0 (to 2 true ∷ null ∷ []) ∷ live_cell 0 1 7 (null ∷ null ∷ []) ∷ live_cell 0 0 0 (null ∷ null ∷ []) ∷ []
unfolding log live_cell to
log-opened = refl

log-zeros : zeros_of (opened 2 (fresh_cells 2 2) log) ≡ 2 ∷ 3 ∷ []
unfolding log
log-zeros = refl
