-- What the pairs of a tree are, and what is known of the root's slots.
use Rattle.std.proofs.Common.{◌≡◌, ◌≢◌, ℕ, ◌<◌, List, [], ◌∷◌, ◌++◌, Some, None, refl, sym, ap, ◌∙◌, subst, arith}
use Rattle.std.specs.Prelude.{IsSome}
use Rattle.plain_model.specs.Graphs.{root}
use Rattle.plain_map.specs.Pairs.{value_of}
use Rattle.object_map.specs.Trees.{Tree, pairs_of}
use Rattle.object_map.specs.Trees.Tree.{leaf, inner}
use Rattle.object_map.specs.Maps.{room_of}
use Rattle.object_map.specs.Seen.{Seen, at}
use Rattle.object_map.specs.Clients.{object_slots}
use Rattle.object_map.specs.Changes.{ids_beside, ids_needed}
use Rattle.std.specs.Option.{option_map_or}

front_none : (xs ys : List (ℕ × ℕ)) → xs ++ ys ≡ [] → xs ≡ []
front_none [] ys e = refl
front_none (x ∷ xs) ys e = absurd (cc)

-- a tree has a pair
pub some_pairs : (t : Tree) → pairs_of t ≢ []
some_pairs (leaf i k c v) e = absurd (cc)
some_pairs (inner i b l r) e = some_pairs l (front_none (pairs_of l) (pairs_of r) e)

pub is_there : (value : ℕ) (pairs : List (ℕ × ℕ)) (key : ℕ) → Some value ≡ value_of key pairs → IsSome (value_of key pairs)
is_there value pairs key e = subst (λ o. IsSome o) e refl

pub room_is : (v : Seen) → room_of (at v root) ≡ object_slots → 13 < room_of (at v root)
room_is v e = subst (λ n. 13 < n) (sym e) (omega arith)

pub slots_are : (n : ℕ) → n ≡ object_slots → 13 < n
slots_are n e = subst (λ k. 13 < k) (sym e) (omega arith)

-- a put of a key that is there needs no id
pub needs_none : (key value : ℕ) (pairs : List (ℕ × ℕ)) → Some value ≡ value_of key pairs → 0 ≡ ids_needed key pairs
needs_none key value pairs e = ap (λ o. option_map_or (λ _. 0) o (ids_beside pairs)) e

beside_three : (pairs : List (ℕ × ℕ)) → pairs ≢ [] → ids_beside pairs ≡ 3
beside_three [] n = absurd (n refl)
beside_three (p ∷ ps) n = refl

-- a put of a new key beside others needs three ids
pub needs_three : (key : ℕ) (pairs : List (ℕ × ℕ)) → value_of key pairs ≡ None → pairs ≢ [] → ids_needed key pairs ≡ 3
needs_three key pairs e n = ap (λ o. option_map_or (λ _. 0) o (ids_beside pairs)) e ∙ beside_three pairs n
