-- The place in a tree at which a new key parts from the others.
use Rattle.std.specs.Prelude.{◌≡◌, ◌≢◌, ℕ, ◌<◌, Bool, true, false, List, [], ◌∷◌, ◌++◌, Option, Some, None}
use Rattle.std.specs.Int.{bit_at}
use Rattle.plain_model.specs.Graphs.{root}
use Rattle.plain_model.specs.Machine.{nonzero}
use Rattle.plain_map.specs.Pairs.{first_of}
use Rattle.object_map.specs.Trees.{Tree, id_of, IsBelow, above, pairs_of}
use Rattle.object_map.specs.Maps.{IsTree, IsLeaf, IsCell, slot_of}
use Rattle.object_map.specs.Seen.{Seen, at, held, held_id}
use Rattle.object_map.specs.Ways.{Turn, whole, Leads, AgreesOn}
use Rattle.object_map.specs.Ways.Turn.{to_low, to_high}

-- the highest bit at which the two keys differ
pub record IsCritical (bit m n : ℕ) : Type 0 where
  pub number : bit < 64
  pub same : above bit m ≡ above bit n
  pub differ : bit_at m bit ≢ bit_at n bit

-- the root's slot names a tree, in which the key's bits lead to a leaf with this key
pub record LeadsTo (slot key found : ℕ) (v : Seen) : Type 0 where
  pub tree : Tree
  pub under : slot_of (at v root) slot ≡ id_of tree
  pub named : id_of tree ≢ 0
  pub stands : IsTree (at v) tree
  pub leads : Leads key found tree

-- The tree after the turns hangs under this slot of the object in this register: under the root's, where no turn was made, else
-- under that of the last turn's object, which the holder's register holds.
abbrev pub HangsUnder : ℕ → Seen → List Turn → ℕ → ℕ → Type 0
HangsUnder holder v [] register slot = (register ≡ 0) × (slot ≡ 13)
HangsUnder holder v (to_low id bit high ∷ turns) register slot = (register ≡ holder) × (slot ≡ 0) × (held v holder ≡ Some id)
HangsUnder holder v (to_high id bit low ∷ turns) register slot = (register ≡ holder) × (slot ≡ 1) × (held v holder ≡ Some id)

-- the next tree to the right: the high one beside the last turn to a low one
abbrev pub right_of : List Turn → Option Tree
right_of [] = None
right_of (to_low id bit high ∷ turns) = Some high
right_of (to_high id bit low ∷ turns) = right_of turns

-- register 3 holds the first object of the tree, where there is one
abbrev pub HoldsRight : Seen → Option Tree → Bool → Type 0
HoldsRight v None right = right ≡ false
HoldsRight v (Some t) right = (right ≡ true) × (held v 3 ≡ Some (id_of t))

-- The key's bits led down from the root's slot, at numbers above this bit; register 1 holds the first object of the tree there.
pub record IsOnPart (key found bit last register slot : ℕ) (right : Bool) (old new : Seen) : Type 0 where
  pub turns : List Turn
  pub tree : Tree
  pub stands : IsTree (at old) (whole turns tree)
  pub start : slot_of (at old root) 13 ≡ id_of (whole turns tree)
  pub here : held new 1 ≡ Some (id_of tree)
  pub agrees : AgreesOn (λ b. bit < b) key found turns
  pub leads : Leads key found tree
  pub named : id_of tree ≢ 0
  pub below : IsBelow last tree
  pub hangs : HangsUnder 2 new turns register slot
  pub beside : HoldsRight new (right_of turns) right
  pub rooted : held new 0 ≡ Some root
  pub slots : new.slots ≡ old.slots
  pub graph : new.graph ≡ old.graph

-- The object that the slot of the object in the register names comes into register 2, and what its own slot `side` names into register 1.
-- Where that is slot 0, what slot 1 names comes into register 3.
pub record Turns (register slot side : ℕ) (right result : Bool) (old new : Seen) : Type 0 where
  pub slots : new.slots ≡ old.slots
  pub graph : new.graph ≡ old.graph
  pub holder : held new 2 ≡ Some (slot_of (at old (held_id old register)) slot)
  pub here : held new 1 ≡ nonzero (slot_of (at old (slot_of (at old (held_id old register)) slot)) side)
  pub low : side ≡ 0 → (result ≡ true) × (held new 3 ≡ nonzero (slot_of (at old (slot_of (at old (held_id old register)) slot)) 1))
  pub high : side ≢ 0 → (result ≡ right) × (held new 3 ≡ held old 3)
  pub rooted : held new 0 ≡ held old 0

-- the register holds the first object of a tree
pub record HoldsTreeIn (r : ℕ) (v : Seen) : Type 0 where
  pub tree : Tree
  pub stands : IsTree (at v) tree
  pub here : held v r ≡ Some (id_of tree)

-- the register held the first object of a tree, and holds its first leaf, which has this key
pub record IsFirstLeaf (r found : ℕ) (old new : Seen) : Type 0 where
  pub tree : Tree
  pub id : ℕ
  pub cell : ℕ
  pub value : ℕ
  pub rest : List (ℕ × ℕ)
  pub start : held old r ≡ Some (id_of tree)
  pub stands : IsTree (at old) tree
  pub first : pairs_of tree ≡ (found, value) ∷ rest
  pub here : held new r ≡ Some id
  pub is_leaf : IsLeaf (at old id) found cell
  pub is_cell : IsCell (at old cell) value
  pub rooted : held new 0 ≡ held old 0
  pub slots : new.slots ≡ old.slots
  pub graph : new.graph ≡ old.graph

-- the same on the way: the pairs of the tree in the register are the first of the whole tree's
pub record IsOnFirst (r last : ℕ) (old new : Seen) : Type 0 where
  pub tree : Tree
  pub within : Tree
  pub rest : List (ℕ × ℕ)
  pub start : held old r ≡ Some (id_of tree)
  pub stands : IsTree (at old) tree
  pub inside : IsTree (at old) within
  pub first : pairs_of tree ≡ pairs_of within ++ rest
  pub here : held new r ≡ Some (id_of within)
  pub below : IsBelow last within
  pub rooted : held new 0 ≡ held old 0
  pub slots : new.slots ≡ old.slots
  pub graph : new.graph ≡ old.graph

-- the register holds the first object of a tree with this first pair
pub record IsFirstPair (r : ℕ) (pair : ℕ × ℕ) (v : Seen) : Type 0 where
  pub tree : Tree
  pub stands : IsTree (at v) tree
  pub here : held v r ≡ Some (id_of tree)
  pub first : first_of (pairs_of tree) ≡ Some pair
