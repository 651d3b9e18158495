-- Pieces of lists.
use Rattle.std.specs.Prelude.{ℕ, ◌*◌, List, take, drop}

-- the piece of this number, from 0, where each but the last has so many items
abbrev pub piece_at : {X : Type 0} → ℕ → List X → ℕ → List X
piece_at size items number = take size (drop (number * size) items)
