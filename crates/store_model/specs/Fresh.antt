-- A fresh store: the root alone.
use Rattle.std.specs.Prelude.{ℕ, suc, true, false, List, [], ◌∷◌, replicate, None}
use Rattle.plain_model.specs.Graphs.{blank, root}
use Rattle.plain_model.specs.History.{Moment, opening_moment}
use Rattle.cell_model.specs.Cells.{Cell, null, blank_cell}
use Rattle.store_model.specs.Core.{Core}

-- the root's cell in a fresh store: live, with its own strong pointer
abbrev pub fresh_root : ℕ → Cell
fresh_root slots = record { live = true; bit = false; strong = 1; weak = 0; payload = 0; pointers = replicate slots null }

-- the cells of a fresh store with so many slots a cell, and so many ids besides the root
abbrev pub fresh_cells : ℕ → ℕ → List Cell
fresh_cells slots more = blank_cell false slots ∷ fresh_root slots ∷ replicate more (blank_cell false slots)

-- the moment of a fresh store: the root is committed, and no client is active
abbrev pub fresh_moment : ℕ → ℕ → Moment
fresh_moment slots more = opening_moment (suc more) slots (blank slots root ∷ [])

-- a fresh journal: nothing is in the reference table and the queue, and no round is open
abbrev pub fresh_core : ℕ → ℕ → Core
fresh_core slots more = record { cells = fresh_cells slots more; moment = fresh_moment slots more; refs = []; queue = []; round = None }
