-- What a change of the map leaves alone, and which calls make it.
use Rattle.std.specs.Prelude.{◌≡◌, ◌≢◌, ℕ, List, [], ◌∷◌, ◌++◌, Option, Some, None, true, is_some, IsSome, ◌⊎◌, Contains, eqb}
use Rattle.std.specs.List.{IsDistinct}
use Rattle.std.specs.Int.{bit_at}
use Rattle.std.specs.Option.{option_map_or}
use Rattle.plain_model.specs.declared.object.Object.{Object}
use Rattle.plain_model.specs.declared.calls.Call.{Call as TransactionCall}
use Rattle.plain_model.specs.declared.calls.Call.TheVariants as call
use Rattle.plain_model.specs.Graphs.{root}
use Rattle.plain_map.specs.Pairs.{value_of, without_key}
use Rattle.object_map.specs.Trees.{Tree}
use Rattle.object_map.specs.Trees.Tree.{leaf, inner}
use Rattle.object_map.specs.Maps.{IsTree, slot_of, payload_of}
use Rattle.object_map.specs.Trees.{id_of}
use Rattle.object_map.specs.Seen.{Seen, at}
use Rattle.object_map.specs.Clients.{leaf_calls, fork_calls}

-- the id is that of an object of the tree
abbrev pub IsOf : ℕ → Tree → Type 0
IsOf x (leaf id key cell value) = (x ≡ id) ⊎ (x ≡ cell)
IsOf x (inner id bit low high) = (x ≡ id) ⊎ (IsOf x low ⊎ IsOf x high)

-- the id is that of an object of the tree that stands under the root's slot
pub record IsOfMap (slot : ℕ) (at : ℕ → Option Object) (x : ℕ) : Type 0 where
  pub tree : Tree
  pub named : id_of tree ≢ 0
  pub under : slot_of (at root) slot ≡ id_of tree
  pub stands : IsTree at tree
  pub within : IsOf x tree

-- Each object that was there, and is neither the root nor one of the map's, is as it was. The root's payload and its other slots are too.
pub record KeepsOthers (slot : ℕ) (old new : Seen) : Type 0 where
  pub others : (x : ℕ) → is_some (at old x) ≡ true → x ≢ root → (IsOfMap slot (at old) x → ⊥) → at new x ≡ at old x
  pub root_payload : payload_of (at new root) ≡ payload_of (at old root)
  pub root_slots : (k : ℕ) → k ≢ slot → slot_of (at new root) k ≡ slot_of (at old root) k

-- The new map has just the old map's objects and these, which weren't there before. No other object is new.
pub record Gains (slot : ℕ) (ids : List ℕ) (old new : Seen) : Type 0 where
  pub apart : IsDistinct eqb ids
  pub kept : (x : ℕ) → IsOfMap slot (at old) x → IsOfMap slot (at new) x
  pub gained : (x : ℕ) → Contains ids x → IsOfMap slot (at new) x
  pub fresh : (x : ℕ) → Contains ids x → at old x ≡ None
  pub only : (x : ℕ) → IsOfMap slot (at new) x → IsOfMap slot (at old) x ⊎ Contains ids x
  pub made : (x : ℕ) → at old x ≡ None → is_some (at new x) ≡ true → Contains ids x

-- The new map has just the old map's objects without these.
pub record Loses (slot : ℕ) (ids : List ℕ) (old new : Seen) : Type 0 where
  pub apart : IsDistinct eqb ids
  pub kept : (x : ℕ) → IsOfMap slot (at new) x → IsOfMap slot (at old) x
  pub lost : (x : ℕ) → Contains ids x → IsOfMap slot (at old) x × (IsOfMap slot (at new) x → ⊥)
  pub only : (x : ℕ) → IsOfMap slot (at old) x → IsOfMap slot (at new) x ⊎ Contains ids x

-- No object but this one is another than before.
abbrev pub ChangesOne : Seen → Seen → Type 0
ChangesOne old new = (id : ℕ) × ((x : ℕ) → x ≢ id → at new x ≡ at old x)

-- The calls that put the pair into a map of these pairs. They set the value of a key that is there, or hang a new leaf under the root's slot.
-- Or they hang a new inner object over the new leaf, on the side of its key's bit, and the tree at which its key parts from the others.
pub data PutsBy (key value : ℕ) (pairs : List (ℕ × ℕ)) : List TransactionCall → Type 0 where
  sets : IsSome (value_of key pairs) → PutsBy key value pairs (call.SetPay 1 value ∷ [])
  begins : pairs ≡ [] → PutsBy key value pairs (leaf_calls key value ++ call.Store 0 13 (Some 3) ∷ [])
  parts : value_of key pairs ≡ None → pairs ≢ [] → (bit register slot : ℕ) → PutsBy key value pairs (fork_calls key value bit (bit_at key bit) ++ call.Store register slot (Some 5) ∷ [])

-- The calls that take the key out of a map of these pairs: none where it isn't there, else one that sets a slot.
pub data RemovesBy (key : ℕ) (pairs : List (ℕ × ℕ)) : List TransactionCall → Type 0 where
  nothing : value_of key pairs ≡ None → RemovesBy key pairs []
  unhangs : IsSome (value_of key pairs) → (register slot : ℕ) (source : Option ℕ) → RemovesBy key pairs (call.Store register slot source ∷ [])

-- how many ids a put needs for a new key: two in an empty map, and one more beside others
abbrev pub ids_beside : List (ℕ × ℕ) → ℕ
ids_beside [] = 2
ids_beside (p ∷ ps) = 3

-- how many ids a put needs: none for a key that is there
abbrev pub ids_needed : ℕ → List (ℕ × ℕ) → ℕ
ids_needed key pairs = option_map_or (λ _. 0) (value_of key pairs) (ids_beside pairs)

-- how many ids the pair of a key holds: none where it isn't there, else as many as a put of it needs when it is gone
abbrev pub ids_held : ℕ → List (ℕ × ℕ) → ℕ
ids_held key pairs = option_map_or (λ _. ids_needed key (without_key key pairs)) (value_of key pairs) 0
