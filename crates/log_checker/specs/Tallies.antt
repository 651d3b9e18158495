-- What a tally of the commits has, and what that says of the records so far.
use Rattle.std.specs.Prelude.{◌≡◌, ℕ, ◌+◌, ◌-◌, ◌≤◌, List, [], ◌∷◌, ◌++◌, length, slice_index_or, slice_set, ⊤}
use Rattle.std.specs.List.{AllByRecursion}
use Rattle.plain_model.specs.declared.write.Write.{Write}
use Rattle.plain_model.specs.Graphs.{applied}
use Rattle.cell_model.specs.Cells.{Cell}
use Rattle.cell_model.specs.Graph.{graph_of}
use Rattle.cell_page.specs.Format.{IsSlotCount}
use Rattle.log_record.specs.declared.cell_record.CellRecord.{CellRecord}
use Rattle.log_record.specs.declared.cell_record.CellRecord.TheVariants.{Begin, Make, Store, Pay, Commit, AbortEnd}
use Rattle.log_record.specs.declared.record.Record.{Record}
use Rattle.log_record.specs.declared.record.Record.TheVariants.{OfCells}
use Rattle.log_record.specs.Spelling.{IsPass}
use Rattle.log_replay.specs.Replays.{IsWithin}
use Rattle.log_checker.specs.Commits.{make_write, slot_write, payload_write, open_writes, folded, commit_count}
use Rattle.log_checker.specs.FoldedObjects.{IsInside}

-- ---- what it has

pub record Tallying : Type 0 where
  -- the objects that the commits left, each in the cell of its id
  pub cells : List Cell
  -- the writes of each client's open transaction, at the client's number
  pub pending : List (List Write)
  pub commits : ℕ

-- the writes of the client's open transaction
abbrev pub pending_of : Tallying → ℕ → List Write
pending_of t pass = slice_index_or t.pending pass []

-- what a tally is
pub record IsTallying (slots : ℕ) (t : Tallying) : Type 0 where
  pub slot_count : IsSlotCount slots
  pub some : 1 ≤ length t.cells
  pub few : length t.cells ≤ 8193
  -- a client has a number from 1 to 64
  pub clients : length t.pending ≡ 65
  pub inside : (pass : ℕ) → AllByRecursion (IsInside slots (length t.cells)) (pending_of t pass)

-- The tally was made over the objects in these cells, and took these records: it has the objects of the fold, the writes of each
-- open transaction, and the number of the commits.
pub record Tells {slots : ℕ} (base : List Cell) (rs : List (Record slots)) (t : Tallying) : Type 0 where
  pub sized : length t.cells ≡ length base
  pub objects : graph_of t.cells ≡ folded (graph_of base) rs
  pub open_at : (pass : ℕ) → IsPass pass → pending_of t pass ≡ open_writes pass rs
  pub counted : t.commits ≡ commit_count rs

-- ---- one record

-- the ids and targets of the record have cells, where there are so many
abbrev pub IsWithinCells : {slots : ℕ} → ℕ → Record slots → Type 0
IsWithinCells cells (OfCells r) = IsWithin (cells - 1) r
IsWithinCells cells _ = ⊤

-- the client wrote once more
abbrev pub noted : ℕ → Write → Tallying → Tallying
noted pass w t = record t { pending = slice_set t.pending pass (pending_of t pass ++ w ∷ []) }

-- the client has no open transaction
abbrev pub left : ℕ → Tallying → Tallying
left pass t = record t { pending = slice_set t.pending pass [] }

-- the client's open transaction is committed
pub record IsCommitted (slots pass : ℕ) (t u : Tallying) : Type 0 where
  pub sized : length u.cells ≡ length t.cells
  pub objects : graph_of u.cells ≡ applied slots (graph_of t.cells) (pending_of t pass)
  pub ended : u.pending ≡ slice_set t.pending pass []
  pub counted : u.commits ≡ t.commits + 1

-- a tally after a record
abbrev pub IsStep : ℕ → CellRecord → Tallying → Tallying → Type 0
IsStep slots (Begin pass) t u = u ≡ left pass t
IsStep slots (Make pass id) t u = u ≡ noted pass (make_write id) t
IsStep slots (Store pass id slot old_target old_strong new_target new_bit new_strong) t u = u ≡ noted pass (slot_write id slot new_target) t
IsStep slots (Pay pass id old_value new_value) t u = u ≡ noted pass (payload_write id new_value) t
IsStep slots (Commit pass) t u = IsCommitted slots pass t u
IsStep slots (AbortEnd pass) t u = u ≡ left pass t
IsStep slots _ t u = u ≡ t
