-- The map of a graph, read from the root down, and which objects the root reaches.
use Rattle.std.specs.Prelude.{ℕ, zero, suc, ◌+◌, Bool, not, ◌&&◌, ◌||◌, ◌==◌, if◌then◌else◌, List, [], ◌∷◌, ◌++◌, length, filter, Option}
use Rattle.std.specs.List.{list_any}
use Rattle.plain_model.specs.declared.object.Object.{Object}
use Rattle.plain_model.specs.Graphs.{root, object_at, has_object}
use Rattle.object_map.specs.Broken.{IsFirstBroken}
use Rattle.object_map.specs.Maps.{slot_of, payload_of, IsMap}
use Rattle.plain_map.specs.Pairs.{Pairs}
use Rattle.map_calls.specs.Maps.{MapState}

-- ---- the pairs

-- the pairs under an id, where so many objects stand below one another at most: those of two trees under an object whose slot 2 is null,
-- and else the one of a leaf
abbrev pub pairs_under : (ℕ → Option Object) → ℕ → ℕ → Pairs
pairs_under at zero id = []
pairs_under at (suc n) id =
    if slot_of (at id) 2 == 0 then pairs_under at n (slot_of (at id) 0) ++ pairs_under at n (slot_of (at id) 1) else (payload_of (at id), payload_of (at (slot_of (at id) 2))) ∷ []

-- the pairs under a slot that holds this id: none where it is 0
abbrev pub pairs_at : (ℕ → Option Object) → ℕ → ℕ → Pairs
pairs_at at n id = if id == 0 then [] else pairs_under at n id

-- The pairs of the tree under the root's slot 13. A tree has at most 64 inner objects below one another, and then a leaf.
unfoldable pub pairs_in : List Object → Pairs
pairs_in g = pairs_at (object_at g) 65 (slot_of (object_at g root) 13)

-- the graph keeps a map: the pairs that are read there
abbrev pub KeepsMap : List Object → Type 0
KeepsMap g = IsMap 13 g (pairs_in g)

-- the graph keeps no map
abbrev pub KeepsNone : List Object → Type 0
KeepsNone g = (pairs : Pairs) → IsMap 13 g pairs → ⊥

-- the object is the first one that breaks the map of the graph
abbrev pub BreaksFirst : List Object → ℕ → Type 0
BreaksFirst g id = IsFirstBroken 13 (object_at g) id

-- ---- the ids

-- whether the object names the id
abbrev pub names : Object → ℕ → Bool
names o id = not (id == 0) && list_any (λ y. y == id) o.slots

-- whether the root leads to the id in so many steps at most
abbrev pub is_led_to : ℕ → List Object → ℕ → Bool
is_led_to zero g id = (id == root) && has_object g root
is_led_to (suc n) g id = is_led_to n g id || (has_object g id && list_any (λ o. is_led_to n g o.id && names o id) g)

-- whether the root reaches the id; no way is longer than the number of objects
unfoldable pub is_reached : List Object → ℕ → Bool
is_reached g id = is_led_to (length g) g id

-- how many of so many ids, from this one on, don't pass the test
abbrev pub count_beside : (ℕ → Bool) → ℕ → ℕ → ℕ
count_beside test id zero = 0
count_beside test id (suc n) = if test id then count_beside test (id + 1) n else suc (count_beside test (id + 1) n)

-- how many of so many ids the root doesn't reach: so many are free once a collector has nothing left to do
unfoldable pub free_beside : ℕ → List Object → ℕ
free_beside ids g = count_beside (is_reached g) 1 ids

-- the objects that the root reaches
unfoldable pub reached_in : List Object → List Object
reached_in g = filter (λ o. is_reached g o.id) g

-- the map of a graph, in a store of so many ids
abbrev pub map_of : ℕ → List Object → MapState
map_of ids g = record { pairs = pairs_in g; ids = ids; free = free_beside ids g; graph = reached_in g }
