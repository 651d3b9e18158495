-- The lines of a text.
use Rattle.std.specs.Prelude.{ℕ, Bool, false, ◌==◌, ◌&&◌, if◌then◌else◌, List, [], ◌∷◌, take, count_by}
use Rattle.std.specs.List.{onto_first}

-- the byte that ends a line
abbrev pub line_feed : ℕ
line_feed = 10

-- the byte that may stand before it
abbrev pub carriage_return : ℕ
carriage_return = 13

-- whether the text begins with a line feed
abbrev pub begins_with_line_feed : List ℕ → Bool
begins_with_line_feed [] = false
begins_with_line_feed (b ∷ bs) = b == line_feed

-- the lines of a text: each ends with a line feed, which the last one may lack, and a carriage return directly before a line feed
-- is no part of its line
abbrev pub lines_of : List ℕ → List (List ℕ)
lines_of [] = []
lines_of (b ∷ bs) =
    if b == line_feed then [] ∷ lines_of bs
    else if (b == carriage_return) && begins_with_line_feed bs then lines_of bs
    else onto_first b (lines_of bs)

-- how many line feeds a text has
abbrev pub line_feeds : List ℕ → ℕ
line_feeds bs = count_by (λ b. b == line_feed) bs

-- the lines of a text that end with a line feed: as many as it has line feeds
abbrev pub whole_lines_of : List ℕ → List (List ℕ)
whole_lines_of bs = take (line_feeds bs) (lines_of bs)
