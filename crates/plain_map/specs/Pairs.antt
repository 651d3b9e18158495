-- Pairs of keys and values, ascending by key.
use Rattle.std.specs.Prelude.{ℕ, ◌<◌, ◌==◌, nat_lt, not, ◌&&◌, if◌then◌else◌, List, [], ◌∷◌, filter, find, Option, Some, None, option_map}
use Rattle.std.specs.List.{AllByRecursion}

-- pairs of a key and its value
abbrev pub Pairs : Type 0
Pairs = List (ℕ × ℕ)

-- the keys strictly ascend
abbrev pub AscendByKey : Pairs → Type 0
AscendByKey [] = Unit {0}
AscendByKey (p ∷ ps) = AllByRecursion (λ q. p.0 < q.0) ps × AscendByKey ps

-- the value of the key, where a pair has it
abbrev pub value_of : ℕ → Pairs → Option ℕ
value_of key ps = option_map (λ p. p.1) (find (λ p. p.0 == key) ps)

-- the first pair whose key isn't below the given one; where the keys ascend it has the least such key
abbrev pub next_pair : ℕ → Pairs → Option (ℕ × ℕ)
next_pair key ps = find (λ p. not (nat_lt p.0 key)) ps

-- the first pair, where there is one
abbrev pub first_of : Pairs → Option (ℕ × ℕ)
first_of [] = None
first_of (p ∷ ps) = Some p

-- the pairs whose key is neither below the low one nor above the high one
abbrev pub between : ℕ → ℕ → Pairs → Pairs
between low high ps = filter (λ p. not (nat_lt p.0 low) && not (nat_lt high p.0)) ps

-- the pairs with this value at the key, in the place of the one that was there
abbrev pub with_pair : ℕ → ℕ → Pairs → Pairs
with_pair key value [] = (key, value) ∷ []
with_pair key value (p ∷ ps) = if nat_lt p.0 key then p ∷ with_pair key value ps else if p.0 == key then (key, value) ∷ ps else (key, value) ∷ p ∷ ps

-- the pairs without that of the key
abbrev pub without_key : ℕ → Pairs → Pairs
without_key key ps = filter (λ p. not (p.0 == key)) ps
