-- The way to what is reachable: ids, in the order in which they were found.
use Rattle.std.specs.Prelude.{◌≡◌, ◌≤◌, ℕ, true, List, [], ◌++◌, Contains, IsTrue, ◌↔◌}
use Rattle.std.specs.Option.{option_map_or}
use Rattle.std.specs.Ordering.{nat_cmp}
use Rattle.std.specs.BTreeSet.{BTreeSet, contains}
use Rattle.plain_model.specs.declared.object.Object.{Object}
use Rattle.plain_model.specs.Graphs.{object_at, has_object}

-- what the slots of an id's object hold; nothing where the graph has no such object
abbrev pub slots_at : List Object → ℕ → List ℕ
slots_at g id = option_map_or (λ o. o.slots) (object_at g id) []

-- an id is one of the list, it isn't below the bound, and the graph has an object under it
pub record IsNamed (g : List Object) (least : ℕ) (ids : List ℕ) (id : ℕ) : Type 0 where
  pub listed : Contains ids id
  pub enough : least ≤ id
  pub stored : has_object g id ≡ true

-- the new ids are the old ones and more, all of them named by the list; each that the list names is there
pub record Adds (g : List Object) (least : ℕ) (ids old new : List ℕ) : Type 0 where
  pub more : List ℕ
  pub grown : new ≡ old ++ more
  pub only : (id : ℕ) → Contains more id → IsNamed g least ids id
  pub all : (id : ℕ) → IsNamed g least ids id → Contains new id

-- the set has the ids of the list, and no others
abbrev pub HasSame : BTreeSet ℕ → List ℕ → Type 0
HasSame set ids = (id : ℕ) → IsTrue (contains nat_cmp set id) ↔ Contains ids id
