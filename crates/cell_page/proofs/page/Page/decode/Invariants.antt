use Rattle.std.proofs.Common.{◌≡◌, ℕ, ◌+◌, ◌<◌, None, length, get_or}
use Rattle.cell_page.specs.declared.cell.Cell.{Cell}
use Rattle.cell_page.specs.Format.{first_id}
use Rattle.cell_page.specs.Fields.{cell_in, bytes_at, broken_in_cell}
use Rattle.cell_page.proofs.page.Page.decode.Given as goal

-- the cells so far are those that stand in the bytes, and obey the rules
abbrev pub invariant-loop-place : goal.invariant-loop-place
invariant-loop-place g l =
    record {
      eight : length l.cells ≡ 8;
      read : (k : ℕ) (d : Cell g.row.SLOTS) → k < l.place → get_or l.cells k d ≡ cell_in g.row.SLOTS (bytes_at g.row.SLOTS l.bytes k);
      obeys : (k : ℕ) → k < l.place → broken_in_cell g.row.SLOTS (first_id l.page + k) (bytes_at g.row.SLOTS l.bytes k) ≡ None;
    }
