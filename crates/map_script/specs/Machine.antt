-- What each line asks of a map, and prints.
use Rattle.std.specs.Prelude.{◌≡◌, ◌⊎◌, ℕ, ◌<◌, List, [], length}
use Rattle.map_calls.specs.Maps.{MapState, needs, Puts, Deletes}
use Rattle.map_calls.specs.declared.grammar.Line.{Line}
use Rattle.map_calls.specs.declared.grammar.Line.TheVariants as line
use Rattle.map_calls.specs.Output.{put_line, put_full_line, found_line, deleted_line, list_line, reopened_line}
use Rattle.plain_map.specs.Pairs.{value_of}

-- a `put` and its line: the key gets the value; or fewer ids are free than it needs, and the map stays
abbrev pub AnswersPut : ℕ → ℕ → MapState → MapState → List ℕ → Type 0
AnswersPut key value m n text =
    (Puts key value m n × (text ≡ put_line (value_of key m.pairs)))
    ⊎ ((m.free < needs key m.pairs) × (n ≡ m) × (text ≡ put_full_line))

-- What a line does to the map, and prints. A loss of power leaves the map as it is, where it is told what the disk reads; of a disk
-- that doesn't tell it, nothing is known of the map that is found.
abbrev pub Does : Type 0 → Line → MapState → MapState → List ℕ → Type 0
Does told line.Nothing m n text = (n ≡ m) × (text ≡ [])
Does told (line.Put key value) m n text = AnswersPut key value m n text
Does told (line.Get key) m n text = (n ≡ m) × (text ≡ found_line (value_of key m.pairs))
Does told (line.Delete key) m n text = Deletes key m n × (text ≡ deleted_line (value_of key m.pairs))
Does told line.List m n text = (n ≡ m) × (text ≡ list_line m.pairs)
Does told (line.Crash pick) m n text = (told → n ≡ m) × (text ≡ reopened_line (length n.pairs))

-- from the one map a line leads to the other, where it is done
abbrev pub LeadsTo : Line → MapState → MapState → Type 0
LeadsTo (line.Put key value) = Puts key value
LeadsTo (line.Delete key) = Deletes key
LeadsTo _ = λ m n. n ≡ m
