-- Cells whose counts are of no account, and what records do to them.
use Rattle.std.specs.Prelude.{◌≡◌, ℕ, not, List, map, Option, Some, None}
use Rattle.cell_model.specs.Cells.{Cell, switched}
use Rattle.log_record.specs.declared.cell_record.CellRecord.{CellRecord}
use Rattle.cell_model.specs.Records.{AllFit}
use Rattle.log_record.specs.Records.{after_cell_record, FitsCells}
use Rattle.core_store.specs.declared.note.Note.{Note}
use Rattle.core_store.specs.JournalView.{logged_in, cells_after_notes}

-- a cell without its counts
abbrev pub uncounted : Cell → Cell
uncounted c = record c { strong = 0; weak = 0 }

-- the cells are equal in all but their counts: in whether they are live, target bits, payloads, pointers and pointer bits
abbrev pub SameButCounts : List Cell → List Cell → Type 0
SameButCounts cells others = map uncounted cells ≡ map uncounted others

-- the cell with the other target bit, and the other bits in its pointers to itself
abbrev pub switched_over : ℕ → Cell → Cell
switched_over id c = record c { bit = not c.bit; pointers = map (switched id) c.pointers }

-- whatever cells these are but for their counts, those after the record are the new ones but for their counts
abbrev pub Replays : ℕ → List Cell → CellRecord → List Cell → Type 0
Replays slots before logged after = (stored : List Cell) → SameButCounts before stored → FitsCells stored logged → SameButCounts after (after_cell_record slots stored logged)

-- without a record nothing changes
abbrev pub ReplaysNote : ℕ → List Cell → Option CellRecord → List Cell → Type 0
ReplaysNote slots before None after = after ≡ before
ReplaysNote slots before (Some logged) after = Replays slots before logged after

-- with other counts these are cells from which the notes that are left lead where all notes lead from the first cells
pub record IsReplayed (slots : ℕ) (first : List Cell) (trace rest : List Note) (cells : List Cell) : Type 0 where
  pub stored : List Cell
  pub same : SameButCounts cells stored
  pub fits : AllFit slots stored (logged_in rest)
  pub ends : cells_after_notes slots stored rest ≡ cells_after_notes slots first trace
