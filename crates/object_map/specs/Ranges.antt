-- What a range has left of the pairs of a map.
use Rattle.std.specs.Prelude.{◌≡◌, ℕ, [], ◌∷◌, Option, Some, None}
use Rattle.std.specs.Option.{option_map_or}
use Rattle.plain_map.specs.Pairs.{Pairs, between}
use Rattle.object_map.specs.declared.range.Range.{Range}

-- the pairs that are still to come, where these are the map's
abbrev pub left : Range → Pairs → Pairs
left r ps = option_map_or (λ low. between low r.high ps) r.low []

-- what a range gave of the pairs that it had left, and which ones it has left then: the first pair and the others, or nothing of none
abbrev pub Gives : Option (ℕ × ℕ) → Pairs → Pairs → Type 0
Gives None old new = (old ≡ []) × (new ≡ [])
Gives (Some p) old new = old ≡ p ∷ new
