-- What a reader of lines does to the bytes that are left.
use Rattle.std.specs.Prelude.{◌≡◌, ℕ, ◌<◌, ◌-◌, ◌==◌, if◌then◌else◌, List, [], ◌∷◌, ◌++◌, length, take, slice_index, Option, Some, None, ⊤}
use Rattle.script_lines.specs.declared.lines.Found.{Found}
use Rattle.script_lines.specs.declared.lines.Found.TheVariants.{Line, LastLine, LongLine, End}
use Rattle.script_lines.specs.Lines.{lines_of, line_feeds, carriage_return}
use Rattle.script_lines.specs.Grammar.{max_line}

-- the bytes are one line with its line feed: whatever follows them, this line comes first
pub record IsWholeLine (bytes line : List ℕ) : Type 0 where
  pub «first» : (rest : List ℕ) → lines_of (bytes ++ rest) ≡ line ∷ lines_of rest
  pub one : line_feeds bytes ≡ 1

-- the known bytes lose this line with its line feed
abbrev pub TakesLine : Option (List ℕ) → Option (List ℕ) → List ℕ → Type 0
TakesLine None new line = ⊤
TakesLine (Some xs) None line = ⊥
TakesLine (Some xs) (Some ys) line = (bytes : List ℕ) × (xs ≡ bytes ++ ys) × IsWholeLine bytes line

-- the known bytes are this one line, and none is left
abbrev pub TakesLastLine : Option (List ℕ) → Option (List ℕ) → List ℕ → Type 0
TakesLastLine None new line = ⊤
TakesLastLine (Some xs) None line = ⊥
TakesLastLine (Some xs) (Some ys) line = (lines_of xs ≡ line ∷ []) × (ys ≡ [])

-- the known bytes begin with a line that is too long
abbrev pub BeginsWithLongLine : Option (List ℕ) → Type 0
BeginsWithLongLine None = ⊤
BeginsWithLongLine (Some xs) = (line : List ℕ) × (rest : List (List ℕ)) × (lines_of xs ≡ line ∷ rest) × (max_line < length line)

-- no byte was left, and none is
abbrev pub IsDone : Option (List ℕ) → Option (List ℕ) → Type 0
IsDone None new = ⊤
IsDone (Some xs) None = ⊥
IsDone (Some xs) (Some ys) = (xs ≡ []) × (ys ≡ [])

-- what was found, by the known bytes before and after
abbrev pub Finds : Found → Option (List ℕ) → Option (List ℕ) → List ℕ → Type 0
Finds Line old new line = TakesLine old new line
Finds LastLine old new line = TakesLastLine old new line
Finds LongLine old new line = BeginsWithLongLine old
Finds End old new line = IsDone old new

-- the bytes without a carriage return at their end
abbrev pub without_return : List ℕ → List ℕ
without_return bytes = take (length bytes - (if slice_index bytes (length bytes - 1) == carriage_return then 1 else 0)) bytes

-- where the first line feed of the first bytes stands, or that they have none
abbrev pub IsFirstLineFeed : List ℕ → ℕ → Option ℕ → Type 0
IsFirstLineFeed bytes end None = line_feeds (take end bytes) ≡ 0
IsFirstLineFeed bytes end (Some i) = (i < end) × (line_feeds (take i bytes) ≡ 0) × (slice_index bytes i ≡ 10)
