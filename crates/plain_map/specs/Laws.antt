-- Laws of pairs. Each is the contract of a function of this crate.
use Rattle.std.specs.Prelude.{◌≡◌, ◌≢◌, ◌≤◌, ◌<◌, ℕ, ◌+◌, [], ◌∷◌, Some, None}
use Rattle.plain_map.specs.Pairs.{Pairs, AscendByKey, value_of, next_pair, between, with_pair, without_key}

-- ---- values

-- a key has the value that it was given
abbrev pub value-with : Type 0
value-with = (key value : ℕ) (ps : Pairs) → value_of key (with_pair key value ps) ≡ Some value

-- another key has what it had
abbrev pub value-with_other : Type 0
value-with_other = (other key value : ℕ) (ps : Pairs) → other ≢ key → value_of other (with_pair key value ps) ≡ value_of other ps

-- a key that was taken away has no value
abbrev pub value-without : Type 0
value-without = (key : ℕ) (ps : Pairs) → value_of key (without_key key ps) ≡ None

-- another key has what it had
abbrev pub value-without_other : Type 0
value-without_other = (other key : ℕ) (ps : Pairs) → other ≢ key → value_of other (without_key key ps) ≡ value_of other ps

-- ---- order

-- with a key more the keys ascend
abbrev pub ascend-with : Type 0
ascend-with = (key value : ℕ) (ps : Pairs) → AscendByKey ps → AscendByKey (with_pair key value ps)

-- with a key less the keys ascend
abbrev pub ascend-without : Type 0
ascend-without = (key : ℕ) (ps : Pairs) → AscendByKey ps → AscendByKey (without_key key ps)

-- ---- the pairs between two keys

-- the next pair, if it isn't past the high key, is the first of them, and the others are between its key's successor and the high key
abbrev pub between-next : Type 0
between-next = (low high : ℕ) (q : ℕ × ℕ) (ps : Pairs) → AscendByKey ps → next_pair low ps ≡ Some q → q.0 ≤ high → between low high ps ≡ q ∷ between (q.0 + 1) high ps

-- where the next pair is past the high key there are none
abbrev pub between-past : Type 0
between-past = (low high : ℕ) (q : ℕ × ℕ) (ps : Pairs) → AscendByKey ps → next_pair low ps ≡ Some q → high < q.0 → between low high ps ≡ []

-- nor where there is no next pair
abbrev pub between-none : Type 0
between-none = (low high : ℕ) (ps : Pairs) → next_pair low ps ≡ None → between low high ps ≡ []
