-- A walk through all objects under a slot, which may be a tree or not.
use Rattle.std.specs.Prelude.{◌≡◌, ◌≢◌, ℕ, ◌<◌, ◌≤◌, ◌||◌, ◌==◌, Bool, false, List, [], ◌∷◌, Option}
use Rattle.std.specs.Int.{bit_at}
use Rattle.plain_model.specs.declared.object.Object.{Object}
use Rattle.plain_model.specs.Machine.{is_stored}
use Rattle.object_map.specs.declared.refusal.MapRefusal.{MapRefusal}
use Rattle.object_map.specs.declared.refusal.MapRefusal.TheVariants as refusal
use Rattle.object_map.specs.Trees.{Tree, id_of, IsBelow, AllCells}
use Rattle.object_map.specs.Trees.Tree.{leaf, inner}
use Rattle.object_map.specs.Maps.{IsTree, slot_of, payload_of}
use Rattle.object_map.specs.Ways.{HasKey}
use Rattle.object_map.specs.Seen.{held}
use Rattle.object_map.specs.Clients.{ClientView, seen, Asks, Falls}

-- some calls were made that change nothing
pub record Looks {D : Type 0} (old new : ClientView D) : Type 0 where
  pub looks : ℕ
  pub asks : Asks looks [] old new
  pub graph : (seen new).graph ≡ (seen old).graph

-- the same, and no register but the fourth got another object
pub record Scans {D : Type 0} (old new : ClientView D) : Type 0 where
  pub look : Looks old new
  pub others : (r : ℕ) → r ≢ 4 → held (seen new) r ≡ held (seen old) r

-- A walk ended early, after looks alone: what was looked for isn't there, and an object is named that shows it; or there was no memory; or
-- the store refused a call.
pub data Refuses {D : Type 0} (why : MapRefusal) (IsAbsent : Type 0) (old new : ClientView D) : Type 0 where
  denies : (id : ℕ) → why ≡ refusal.NotMap id → IsAbsent → Looks old new → Refuses why IsAbsent old new
  starves : why ≡ refusal.Memory → Looks old new → Refuses why IsAbsent old new
  falls : Falls 0 why old new → Refuses why IsAbsent old new

-- What comes of a refusal below an inner object: it stays, where it names no object, or where the inner object has no wrong key. Else it
-- names the inner object, or another refusal stopped the search.
pub data Blames {D : Type 0} (why : MapRefusal) (IsWrong : Type 0) (id : ℕ) (old new : ClientView D) (result : MapRefusal) : Type 0 where
  passes : ((d : ℕ) → why ≡ refusal.NotMap d → ⊥) → result ≡ why → new ≡ old → Blames why IsWrong id old new result
  keeps : (d : ℕ) → why ≡ refusal.NotMap d → result ≡ why → (IsWrong → ⊥) → Looks old new → Blames why IsWrong id old new result
  turns : (d : ℕ) → why ≡ refusal.NotMap d → result ≡ refusal.NotMap id → IsWrong → Looks old new → Blames why IsWrong id old new result
  stops : (d : ℕ) → why ≡ refusal.NotMap d → Refuses result ⊥ old new → Blames why IsWrong id old new result

-- From the object x the guide's bits lead to y, by objects whose numbers descend from below the last one and aren't below the given one.
abbrev pub Comes : (ℕ → Option Object) → ℕ → ℕ → ℕ → List ℕ → ℕ → ℕ → Type 0
Comes at guide last below [] x y = (below ≤ last) × (x ≡ y)
Comes at guide last below (b ∷ bs) x y = (b < last) × (payload_of (at x) ≡ b) × (slot_of (at x) (bit_at guide b) ≢ 0) × Comes at guide b below bs (slot_of (at x) (bit_at guide b)) y

-- so they lead from one object to the other
pub record IsReached (at : ℕ → Option Object) (guide below x y : ℕ) : Type 0 where
  pub numbers : List ℕ
  pub comes : Comes at guide 64 below numbers x y

-- whether a leaf of the tree names the cell
abbrev pub has_cell : ℕ → Tree → Bool
has_cell c (leaf id key cell value) = c == cell
has_cell c (inner id bit low high) = has_cell c low || has_cell c high

-- A tree stands whose first object has the id, below the bit, and has the key. None of its cells was met before, and all are now.
pub record Grown (at : ℕ → Option Object) (id below key : ℕ) (old new : List ℕ) : Type 0 where
  pub tree : Tree
  pub named : id_of tree ≡ id
  pub stands : IsTree at tree
  pub below_bit : IsBelow below tree
  pub has : HasKey key tree
  pub fresh : AllCells (λ c. is_stored old c ≡ false) tree
  pub met : (c : ℕ) → is_stored new c ≡ (has_cell c tree || is_stored old c)

-- no such tree stands
abbrev pub NoTree : (ℕ → Option Object) → ℕ → ℕ → List ℕ → Type 0
NoTree at id below old = (t : Tree) → id_of t ≡ id → IsTree at t → IsBelow below t → AllCells (λ c. is_stored old c ≡ false) t → ⊥
