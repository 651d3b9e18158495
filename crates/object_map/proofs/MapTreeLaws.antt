-- The tree of a map, and the objects of both.
use Rattle.std.proofs.Common.{◌≡◌, ◌≢◌, ℕ, List, Option, Some, sym, ◌∙◌, subst}
use Rattle.plain_model.specs.declared.object.Object.{Object}
use Rattle.plain_model.specs.Graphs.{root, object_at}
use Rattle.object_map.specs.Trees.{Tree, id_of, pairs_of}
use Rattle.object_map.specs.Maps.{IsTree, IsMapOf, slot_of}
use Rattle.object_map.specs.Seen.{Seen, at}
use Rattle.object_map.specs.Changes.{IsOf, IsOfMap}
use Rattle.object_map.proofs.OneLaws.{tree_one}

-- the tree hangs under the root's slot, and has these pairs
pub record MapTree (slot : ℕ) (f : ℕ → Option Object) (ps : List (ℕ × ℕ)) (t : Tree) : Type 0 where
  pub under : slot_of (f root) slot ≡ id_of t
  pub named : id_of t ≢ 0
  pub stands : IsTree f t
  pub same : ps ≡ pairs_of t

pub map_of : {slot : ℕ} {f : ℕ → Option Object} {ps : List (ℕ × ℕ)} {t : Tree} → MapTree slot f ps t → IsMapOf slot f ps
map_of {slot} {f} {ps} {t} m = record { tree = Some t; stands = ((λ z. m.named (sym m.under ∙ z)), sym m.under, m.stands); same = m.same }

-- at a later moment with the same graph
pub tree_later : {slot : ℕ} {ps : List (ℕ × ℕ)} {t : Tree} (v w : Seen) → w.graph ≡ v.graph → MapTree slot (at v) ps t → MapTree slot (at w) ps t
tree_later {slot} {ps} {t} v w e m = subst (λ g. MapTree slot (object_at g) ps t) (sym e) m

-- an object of the map is one of its tree
pub of_tree : {slot : ℕ} {f : ℕ → Option Object} {ps : List (ℕ × ℕ)} {t : Tree} (x : ℕ) → MapTree slot f ps t → IsOfMap slot f x → IsOf x t
of_tree {slot} {f} {ps} {t} x m h = subst (λ u. IsOf x u) (tree_one f h.tree t h.stands.objects m.stands.objects (sym h.under ∙ m.under)) h.within

pub in_tree : {slot : ℕ} {f : ℕ → Option Object} {ps : List (ℕ × ℕ)} {t : Tree} (x : ℕ) → MapTree slot f ps t → IsOf x t → IsOfMap slot f x
in_tree {slot} {f} {ps} {t} x m h = record { tree = t; named = m.named; under = m.under; stands = m.stands; within = h }

-- an empty map has no object
pub of_none : {slot : ℕ} {f : ℕ → Option Object} (x : ℕ) → slot_of (f root) slot ≡ 0 → IsOfMap slot f x → ⊥
of_none {slot} {f} x e h = h.named (sym h.under ∙ e)
