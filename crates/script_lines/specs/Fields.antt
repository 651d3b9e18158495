-- The fields of a line.
use Rattle.std.specs.Prelude.{ℕ, Bool, true, false, not, ◌==◌, ◌||◌, List, [], ◌∷◌, filter}
use Rattle.std.specs.List.{slice_split}

-- a space or a tab
abbrev pub is_blank : ℕ → Bool
is_blank b = (b == 32) || (b == 9)

-- whether the list has nothing
abbrev pub is_empty : List ℕ → Bool
is_empty [] = true
is_empty (b ∷ bs) = false

-- the fields of a line: its parts between blanks, without the empty ones
abbrev pub fields_of : List ℕ → List (List ℕ)
fields_of line = filter (λ part. not (is_empty part)) (slice_split is_blank line)
