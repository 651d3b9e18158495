-- Which text follows the lines of a script, and which lines of a source are done.
use Rattle.std.specs.Prelude.{◌≡◌, ℕ, ◌+◌, List, [], ◌∷◌, ◌++◌, length, Option, Some, None, ⊤}
use Rattle.script_lines.specs.Lines.{lines_of, line_feeds, whole_lines_of}
use Rattle.map_calls.specs.declared.grammar.Line.{Line}
use Rattle.map_calls.specs.Grammar.{IsAccepted, IsRefused, meaning_of}
use Rattle.map_calls.specs.Maps.{MapState}
use Rattle.map_script.specs.Machine.{Does}

-- the line of this number is accepted, and asks this
abbrev pub Asks : ℕ → List ℕ → Line → Type 0
Asks number bytes asked = IsAccepted number bytes × (meaning_of bytes ≡ Some asked)

-- the line of this number is accepted, and does this to the map and prints this text
abbrev pub LineDoes : Type 0 → ℕ → List ℕ → MapState → MapState → List ℕ → Type 0
LineDoes told number bytes m n text = (asked : Line) × Asks number bytes asked × Does told asked m n text

-- the lines, one after another, lead from one map to the other, and print this text; the first one has this number
abbrev pub Follows : Type 0 → ℕ → List (List ℕ) → MapState → MapState → List ℕ → Type 0
Follows told number [] m n text = (n ≡ m) × (text ≡ [])
Follows told number (line ∷ lines) m n text =
    (mid : MapState) × («first» rest : List ℕ) × (text ≡ «first» ++ rest) × LineDoes told number line m mid «first» × Follows told (number + 1) lines mid n rest

-- ---- a source that tells what it has left, before the script and after it; of one that doesn't nothing is said

-- of the bytes these lines were taken, which all end with a line feed, and the others are left
pub record HasTaken (bytes left : List ℕ) (done : List (List ℕ)) : Type 0 where
  pub taken : List ℕ
  pub parts : bytes ≡ taken ++ left
  pub lines : (rest : List ℕ) → lines_of (taken ++ rest) ≡ done ++ lines_of rest
  pub feeds : line_feeds taken ≡ length done

-- these lines were taken from the source
abbrev pub AreTaken : Option (List ℕ) → Option (List ℕ) → List (List ℕ) → Type 0
AreTaken None left done = ⊤
AreTaken (Some bytes) None done = ⊥
AreTaken (Some bytes) (Some left) done = HasTaken bytes left done

-- these are all lines of the source, which was read to its end
abbrev pub AreAll : Option (List ℕ) → Option (List ℕ) → List (List ℕ) → Type 0
AreAll None left done = ⊤
AreAll (Some bytes) None done = ⊥
AreAll (Some bytes) (Some left) done = (lines_of bytes ≡ done) × (left ≡ [])

-- these are the whole lines that were read
abbrev pub AreRead : Option (List ℕ) → Option (List ℕ) → List (List ℕ) → Type 0
AreRead None left done = ⊤
AreRead (Some bytes) None done = ⊥
AreRead (Some bytes) (Some left) done = (read : List ℕ) × (bytes ≡ read ++ left) × (whole_lines_of read ≡ done)

-- these are the first lines of the source
abbrev pub AreFirst : Option (List ℕ) → List (List ℕ) → Type 0
AreFirst None done = ⊤
AreFirst (Some bytes) done = (later : List (List ℕ)) × (lines_of bytes ≡ done ++ later)

-- these are the first lines of the source, and the next one is as said
abbrev pub AreBefore : Option (List ℕ) → List (List ℕ) → (List ℕ → Type 0) → Type 0
AreBefore None done IsNext = ⊤
AreBefore (Some bytes) done IsNext = (line : List ℕ) × (later : List (List ℕ)) × (lines_of bytes ≡ done ++ line ∷ later) × IsNext line

-- the next line is the first that is refused, and has this number
abbrev pub StopsAt : Option (List ℕ) → List (List ℕ) → ℕ → Type 0
StopsAt source done number = (number ≡ length done + 1) × AreBefore source done (IsRefused number)

-- the next line asks this
abbrev pub ComesTo : Option (List ℕ) → List (List ℕ) → Line → Type 0
ComesTo source done asked = AreBefore source done (λ line. Asks (length done + 1) line asked)
