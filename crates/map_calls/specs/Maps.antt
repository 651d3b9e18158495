-- A plain ordered map in a store of so many ids, with a pair more and with one less, and the objects beside it.
use Rattle.std.specs.Prelude.{◌≡◌, ◌≢◌, ℕ, ◌+◌, ◌≤◌, Bool, true, List, [], ◌∷◌, slice_index}
use Rattle.std.specs.Option.{option_map_or}
use Rattle.plain_model.specs.declared.object.Object.{Object}
use Rattle.plain_model.specs.Graphs.{root, object_at, has_object}
use Rattle.plain_model.specs.Reachable.{Reachable}
use Rattle.plain_map.specs.Pairs.{Pairs, value_of, with_pair, without_key}

-- A map, how many ids its store has, and how many of them are free once a collector has nothing left to do. The graph has the objects that
-- the store's root reaches: the map's, and those beside it.
pub record MapState : Type 0 where
  pub pairs : Pairs
  pub ids : ℕ
  pub free : ℕ
  pub graph : List Object

-- ---- the ids of a pair

-- how many ids a pair of this key takes: none where the key is there, two for the first pair, and else three
abbrev pub needs : ℕ → Pairs → ℕ
needs key [] = 2
needs key (p ∷ ps) = option_map_or (λ value. 0) (value_of key (p ∷ ps)) 3

-- how many ids the pair of this key has taken
abbrev pub holds : ℕ → Pairs → ℕ
holds key pairs = option_map_or (λ value. needs key (without_key key pairs)) (value_of key pairs) 0

-- ---- the objects beside the map

-- what a slot of the id's object holds; 0 where the graph has no such object
abbrev pub slot_at : List Object → ℕ → ℕ → ℕ
slot_at g id k = option_map_or (λ (o : Object). slice_index o.slots k) (object_at g id) 0

-- the payload of the id's object; 0 where the graph has no such object
abbrev pub payload_at : List Object → ℕ → ℕ
payload_at g id = option_map_or (λ (o : Object). o.payload) (object_at g id) 0

-- the object is one of the map's: the root's slot 13 leads to it
abbrev pub IsOfMap : List Object → ℕ → Type 0
IsOfMap g id = Reachable g (slot_at g root 13 ∷ []) id

-- the object is neither the root nor one of the map's
pub record IsBeside (g : List Object) (id : ℕ) : Type 0 where
  pub there : has_object g id ≡ true
  pub no_root : id ≢ root
  pub no_part : IsOfMap g id → ⊥

-- Each object beside the map is as it was, and none is new. The root's payload is the same, and so are its slots but 13.
pub record KeepsBeside (g h : List Object) : Type 0 where
  pub kept : (id : ℕ) → IsBeside g id → object_at h id ≡ object_at g id
  pub no_more : (id : ℕ) → IsBeside h id → object_at h id ≡ object_at g id
  pub payload : payload_at h root ≡ payload_at g root
  pub slots : (k : ℕ) → k ≢ 13 → slot_at h root k ≡ slot_at g root k

-- what names an object of the map is the map's too, or the root, and that by its slot 13 alone
abbrev pub OnlyMapNames : List Object → Type 0
OnlyMapNames g = (id k : ℕ) → IsOfMap g (slot_at g id k) → (IsOfMap g id → ⊥) → (id ≡ root) × (k ≡ 13)

-- ---- changes

-- The key got this value: enough ids were free for it, and it took just these. The objects beside the map stay, and name none of its new
-- ones.
pub record Puts (key value : ℕ) (m n : MapState) : Type 0 where
  pub enough : needs key m.pairs ≤ m.free
  pub pairs : n.pairs ≡ with_pair key value m.pairs
  pub ids : n.ids ≡ m.ids
  pub free : n.free + needs key m.pairs ≡ m.free
  pub beside : KeepsBeside m.graph n.graph
  pub names : OnlyMapNames m.graph → OnlyMapNames n.graph

-- The key lost its value: what the pair had taken is free now, or less where something beside the map names its objects. The objects beside
-- the map stay.
pub record Deletes (key : ℕ) (m n : MapState) : Type 0 where
  pub pairs : n.pairs ≡ without_key key m.pairs
  pub ids : n.ids ≡ m.ids
  pub not_fewer : m.free ≤ n.free
  pub not_more : n.free ≤ m.free + holds key m.pairs
  pub all : OnlyMapNames m.graph → n.free ≡ m.free + holds key m.pairs
  pub beside : KeepsBeside m.graph n.graph
  pub names : OnlyMapNames m.graph → OnlyMapNames n.graph
