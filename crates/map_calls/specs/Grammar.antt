-- What the lines of the command `map` ask, and which lines are refused.
use Rattle.std.specs.Prelude.{ℕ, ◌≤◌, if◌then◌else◌, List, [], ◌∷◌, length, Option, Some, None, IsSome, bytes_eq, codes}
use Rattle.script_lines.specs.Fields.{fields_of}
use Rattle.script_lines.specs.Numbers.{payload_of, pick_of}
use Rattle.script_lines.specs.Grammar.{◌>>=◌, is_comment, max_line, max_lines}
use Rattle.map_calls.specs.declared.grammar.Line.{Line}
use Rattle.map_calls.specs.declared.grammar.Line.TheVariants as line

-- `put` asks that a key have a value: two numbers below 2^64
abbrev pub put_of : List (List ℕ) → Option Line
put_of (first ∷ second ∷ []) = do
  key ← payload_of first
  value ← payload_of second
  Some (line.Put key value)
put_of operands = None

-- `get` asks which value a key has: one number below 2^64
abbrev pub get_of : List (List ℕ) → Option Line
get_of (first ∷ []) = do
  key ← payload_of first
  Some (line.Get key)
get_of operands = None

-- `del` asks that a key have no value: one number below 2^64
abbrev pub delete_of : List (List ℕ) → Option Line
delete_of (first ∷ []) = do
  key ← payload_of first
  Some (line.Delete key)
delete_of operands = None

-- `list` asks for all keys with their values, and stands alone
abbrev pub list_of : List (List ℕ) → Option Line
list_of [] = Some line.List
list_of operands = None

-- `crash` asks for a loss of power: its pick is a number below 2^32
abbrev pub crash_of : List (List ℕ) → Option Line
crash_of (first ∷ []) = do
  pick ← pick_of first
  Some (line.Crash pick)
crash_of operands = None

-- what a line asks, by its first field and those after it; no other word has a meaning
abbrev pub request_of : List ℕ → List (List ℕ) → Option Line
request_of verb operands =
    if bytes_eq verb (codes "put") then put_of operands
    else if bytes_eq verb (codes "get") then get_of operands
    else if bytes_eq verb (codes "del") then delete_of operands
    else if bytes_eq verb (codes "list") then list_of operands
    else if bytes_eq verb (codes "crash") then crash_of operands
    else None

-- what the fields of a line ask; a line without fields asks nothing, and neither does a comment
abbrev pub line_of_fields : List (List ℕ) → Option Line
line_of_fields [] = Some line.Nothing
line_of_fields (f ∷ fs) = if is_comment f then Some line.Nothing else request_of f fs

-- what a line asks, where it is in the grammar
abbrev pub meaning_of : List ℕ → Option Line
meaning_of bytes = line_of_fields (fields_of bytes)

-- the line of this number, counted from 1, is within both limits and in the grammar
pub record IsAccepted (number : ℕ) (bytes : List ℕ) : Type 0 where
  pub within_line : length bytes ≤ max_line
  pub within_script : number ≤ max_lines
  pub in_grammar : IsSome (meaning_of bytes)

-- the line of this number isn't accepted
abbrev pub IsRefused : ℕ → List ℕ → Type 0
IsRefused number bytes = IsAccepted number bytes → ⊥
