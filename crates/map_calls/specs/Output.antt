-- The printed lines of the command `map`.
use Rattle.std.specs.Prelude.{ℕ, List, [], ◌∷◌, ◌++◌, flat_map, Option, Some, None, codes, decimal}
use Rattle.plain_model.specs.Text.{newline}

-- the value in decimal digits, or this word where there is none
abbrev pub value_text : List ℕ → Option ℕ → List ℕ
value_text none None = none
value_text none (Some value) = decimal value

-- the line of a `put`: the value that the key had, or that it is new
abbrev pub put_line : Option ℕ → List ℕ
put_line old = codes "put: " ++ value_text (codes "new") old ++ newline ∷ []

-- the line of a `put` for which no room is left
abbrev pub put_full_line : List ℕ
put_full_line = codes "put: full\n"

-- the line of a `get`: the key's value
abbrev pub found_line : Option ℕ → List ℕ
found_line value = codes "get: " ++ value_text (codes "none") value ++ newline ∷ []

-- the line of a `del`: the value that the key had
abbrev pub deleted_line : Option ℕ → List ℕ
deleted_line old = codes "del: " ++ value_text (codes "none") old ++ newline ∷ []

-- a blank, the key, an equals sign and the value
abbrev pub pair_text : ℕ × ℕ → List ℕ
pair_text pair = codes " " ++ decimal pair.0 ++ codes "=" ++ decimal pair.1

-- the line of a `list`: each key with its value
abbrev pub list_line : List (ℕ × ℕ) → List ℕ
list_line pairs = codes "list:" ++ flat_map pair_text pairs ++ newline ∷ []

-- the line of a crash, after which the map has so many keys
abbrev pub reopened_line : ℕ → List ℕ
reopened_line keys = codes "crash: keys " ++ decimal keys ++ newline ∷ []

-- the last line: how many keys the map has
abbrev pub keys_line : ℕ → List ℕ
keys_line keys = codes "keys " ++ decimal keys ++ newline ∷ []

-- the last line where the store keeps no map, since this object breaks it
abbrev pub no_map_line : ℕ → List ℕ
no_map_line id = codes "refused: object " ++ decimal id ++ codes " map" ++ newline ∷ []
