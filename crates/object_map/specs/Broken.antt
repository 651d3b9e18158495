-- Which object of a graph breaks the definition of a map.
use Rattle.std.specs.Prelude.{◌≡◌, ◌≢◌, ℕ, ◌<◌, ◌≤◌, List, [], ◌∷◌, ◌++◌, Option, ◌⊎◌, true}
use Rattle.std.specs.Int.{bit_at}
use Rattle.plain_model.specs.declared.object.Object.{Object}
use Rattle.plain_model.specs.Graphs.{root}
use Rattle.plain_model.specs.Machine.{is_stored}
use Rattle.object_map.specs.Trees.{above}
use Rattle.object_map.specs.Maps.{slot_of, payload_of}

-- ---- ways down: an object whose slot 2 isn't null is a leaf, and each other one is an inner object

-- A way down from object x, by slot 0 or 1 of inner objects whose numbers descend from below the bit. It ends at object `id`. The last
-- of these numbers is `last`, or the bit itself where the way is empty.
abbrev pub Goes : (ℕ → Option Object) → ℕ → ℕ → List ℕ → ℕ → ℕ → Type 0
Goes at bit x [] last id = (x ≢ 0) × (x ≡ id) × (bit ≡ last)
Goes at bit x (side ∷ way) last id = (x ≢ 0) × (slot_of (at x) 2 ≡ 0) × (payload_of (at x) < bit) × (side < 2) × Goes at (payload_of (at x)) (slot_of (at x) side) way last id

-- the way ends at a leaf that names the value object
pub record Names (at : ℕ → Option Object) (bit x : ℕ) (way : List ℕ) (cell : ℕ) : Type 0 where
  pub last : ℕ
  pub id : ℕ
  pub goes : Goes at bit x way last id
  pub names : slot_of (at id) 2 ≡ cell
  pub named : cell ≢ 0

-- a way ends at a leaf with this key
pub record CanTell (at : ℕ → Option Object) (bit x key : ℕ) : Type 0 where
  pub way : List ℕ
  pub last : ℕ
  pub id : ℕ
  pub goes : Goes at bit x way last id
  pub is_leaf : slot_of (at id) 2 ≢ 0
  pub has : payload_of (at id) ≡ key

-- ---- the order: an object stands before those under it, and slots ascend

-- the one place is before the other: this one goes on from there, or takes the greater slot where they part
abbrev pub IsBefore : List ℕ → List ℕ → Type 0
IsBefore [] [] = ⊥
IsBefore [] (t ∷ other) = Unit {0}
IsBefore (s ∷ place) [] = ⊥
IsBefore (s ∷ place) (t ∷ other) = (s < t) ⊎ ((s ≡ t) × IsBefore place other)

-- a leaf at a place before this one names the value object
abbrev pub IsNamedBefore : (ℕ → Option Object) → ℕ → ℕ → List ℕ → ℕ → Type 0
IsNamedBefore at bit x place cell = (other : List ℕ) × (IsBefore other place × Names at bit x other cell)

-- ---- what breaks its own sentence

-- An inner object has a key on a wrong side: one that can be told under slot 0 or 1 has another digit than that in the object's bit, or
-- two that can be told below it differ above the bit.
pub data HasWrongKey (at : ℕ → Option Object) (x : ℕ) : Type 0 where
  digit : (side key : ℕ) → side < 2 → CanTell at (payload_of (at x)) (slot_of (at x) side) key → bit_at key (payload_of (at x)) ≢ side → HasWrongKey at x
  prefix : (side key other more : ℕ) → side < 2 → CanTell at (payload_of (at x)) (slot_of (at x) side) key → other < 2 → CanTell at (payload_of (at x)) (slot_of (at x) other) more → above (payload_of (at x)) key ≢ above (payload_of (at x)) more → HasWrongKey at x

-- a leaf has another slot than 2 that isn't null, or its value object was named before
pub data BreaksLeaf (at : ℕ → Option Object) (IsNamed : ℕ → Type 0) (x : ℕ) : Type 0 where
  leaf_points : (k : ℕ) → k ≢ 2 → slot_of (at x) k ≢ 0 → BreaksLeaf at IsNamed x
  leaf_shares : IsNamed (slot_of (at x) 2) → BreaksLeaf at IsNamed x

-- an inner object's number isn't below the bit, its slot 0 or 1 is null, another one isn't, or it has a key on a wrong side
pub data BreaksInner (at : ℕ → Option Object) (bit x : ℕ) : Type 0 where
  climbs : bit ≤ payload_of (at x) → BreaksInner at bit x
  lacks : (side : ℕ) → side < 2 → slot_of (at x) side ≡ 0 → BreaksInner at bit x
  points : (k : ℕ) → k ≢ 0 → k ≢ 1 → slot_of (at x) k ≢ 0 → BreaksInner at bit x
  mixes : HasWrongKey at x → BreaksInner at bit x

-- At this place below object x an object breaks its sentence: a leaf, an inner object, or, under slot 2 of a leaf, a value object with a
-- pointer. Value objects that are so were named before x.
pub data Breaks (at : ℕ → Option Object) (IsNamed : ℕ → Type 0) (bit x : ℕ) (place : List ℕ) (id : ℕ) : Type 0 where
  leaf_breaks : (last : ℕ) → Goes at bit x place last id → slot_of (at id) 2 ≢ 0 → BreaksLeaf at (λ c. IsNamed c ⊎ IsNamedBefore at bit x place c) id → Breaks at IsNamed bit x place id
  inner_breaks : (last : ℕ) → Goes at bit x place last id → slot_of (at id) 2 ≡ 0 → BreaksInner at last id → Breaks at IsNamed bit x place id
  value_breaks : (way : List ℕ) (last holder k : ℕ) → Goes at bit x way last holder → slot_of (at holder) 2 ≡ id → id ≢ 0 → slot_of (at id) k ≢ 0 → place ≡ way ++ 2 ∷ [] → Breaks at IsNamed bit x place id

-- the object breaks its sentence at some place below x, and none does at a place before
pub record IsFirst (at : ℕ → Option Object) (IsNamed : ℕ → Type 0) (bit x id : ℕ) : Type 0 where
  pub place : List ℕ
  pub breaks : Breaks at IsNamed bit x place id
  pub first : (other : List ℕ) (y : ℕ) → IsBefore other place → Breaks at IsNamed bit x other y → ⊥

-- the first object that breaks the definition of a map under the root's slot
abbrev pub IsFirstBroken : ℕ → (ℕ → Option Object) → ℕ → Type 0
IsFirstBroken slot at id = IsFirst at (λ _. ⊥) 64 (slot_of (at root) slot) id

-- the object is among those that were met
abbrev pub IsMet : List ℕ → ℕ → Type 0
IsMet cells cell = is_stored cells cell ≡ true
