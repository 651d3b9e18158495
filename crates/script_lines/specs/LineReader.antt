-- What contracts see of a reader of lines.
use Rattle.std.specs.Prelude.{ℕ, List, slice_range}
use Rattle.script_lines.specs.declared.lines.LineReader.{LineReader}

-- the line that was taken last, without its end
abbrev pub current_line : LineReader → List ℕ
current_line r = slice_range r.buffer r.line_start r.line_end

-- the bytes that were read and not yet taken
abbrev pub pending : LineReader → List ℕ
pending r = slice_range r.buffer r.start r.end
