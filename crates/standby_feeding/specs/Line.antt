-- The line of a standby that was promoted.
use Rattle.std.specs.Prelude.{ℕ, List, [], ◌∷◌, ◌++◌, codes, decimal}
use Rattle.plain_model.specs.Text.{numbers, newline}
use Rattle.standby.specs.declared.promoted.Promoted.{Promoted}

-- the line up to the ids
abbrev pub promoted_head : ℕ → List ℕ
promoted_head batches = codes "standby: batches " ++ decimal batches ++ codes " stored"

-- how many whole batches there were, and the ids that are stored
abbrev pub promoted_line : Promoted → List ℕ
promoted_line p = promoted_head p.batches ++ numbers p.stored ++ newline ∷ []

-- the last line where a stream has a fault there, or ends there inside of its pages
abbrev pub stream_line : ℕ → List ℕ
stream_line at = codes "refused: stream at " ++ decimal at ++ newline ∷ []
