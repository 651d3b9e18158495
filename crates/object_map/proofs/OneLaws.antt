-- A graph keeps one map at most.
use Rattle.std.proofs.Common.{◌≡◌, ◌≢◌, ℕ, Option, Some, None, refl, sym, ap, ◌∙◌, subst, arith}
use Rattle.plain_model.specs.declared.object.Object.{Object}
use Rattle.plain_model.specs.Graphs.{object_at, root}
use Rattle.object_map.specs.Trees.{Tree, id_of, pairs_of}
use Rattle.object_map.specs.Trees.Tree.{leaf, inner}
use Rattle.object_map.specs.Maps.{IsLeaf, IsInner, IsCell, AreObjects, StandsUnder, pairs_in, slot_of, payload_of}
use Rattle.object_map.specs.Laws.{map-one, map-ascends}
use Rattle.plain_map.specs.Pairs.{AscendByKey}
use Rattle.object_map.proofs.TreeLaws.{pairs_ascend}

-- an object isn't a leaf and an inner object
pub leaf_or_inner : (o : Option Object) (k c b l h : ℕ) → IsLeaf o k c → IsInner o b l h → ⊥
leaf_or_inner o k c b l h x y = y.low_named (sym y.names_low ∙ x.null 0 (λ e. absurd (omega (arith, e))))

-- nor a leaf and a cell, nor an inner object and a cell
pub leaf_or_cell : (o : Option Object) (k c v : ℕ) → IsLeaf o k c → IsCell o v → ⊥
leaf_or_cell o k c v x y = x.named (sym x.names ∙ y.null 2)

pub inner_or_cell : (o : Option Object) (b l h v : ℕ) → IsInner o b l h → IsCell o v → ⊥
inner_or_cell o b l h v x y = y' (sym x.names_low ∙ y.null 0)
  where
    y' : l ≢ 0
    y' = x.low_named

leaves_same : (i j k l c d v w : ℕ) → i ≡ j → k ≡ l → c ≡ d → v ≡ w → leaf i k c v ≡ leaf j l d w
leaves_same i j k l c d v w a b e f = cc

inners_same : (i j n m : ℕ) (l h p q : Tree) → i ≡ j → n ≡ m → l ≡ p → h ≡ q → inner i n l h ≡ inner j m p q
inners_same i j n m l h p q a b e f = cc

-- objects are those of one tree with that first object
pub tree_one : (at : ℕ → Option Object) (t u : Tree) → AreObjects at t → AreObjects at u → id_of t ≡ id_of u → t ≡ u
tree_one at (leaf i k c v) (leaf j l d w) a b e =
    let o : at i ≡ at j = ap at e in
    let cells : c ≡ d = sym a.0.names ∙ ap (λ x. slot_of x 2) o ∙ b.0.names in
    leaves_same i j k l c d v w e (sym a.0.key_is ∙ ap payload_of o ∙ b.0.key_is) cells (sym a.1.value_is ∙ ap (λ x. payload_of (at x)) cells ∙ b.1.value_is)
tree_one at (leaf i k c v) (inner j n l h) a b e = absurd (leaf_or_inner (at j) k c n (id_of l) (id_of h) (subst (λ z. IsLeaf (at z) k c) e a.0) b.0)
tree_one at (inner i n l h) (leaf j k d w) a b e = absurd (leaf_or_inner (at i) k d n (id_of l) (id_of h) (subst (λ z. IsLeaf (at z) k d) (sym e) b.0) a.0)
tree_one at (inner i n l h) (inner j m p q) a b e =
    let o : at i ≡ at j = ap at e in
    inners_same i j n m l h p q e (sym a.0.bit_is ∙ ap payload_of o ∙ b.0.bit_is)
    (tree_one at l p a.1 b.1 (sym a.0.names_low ∙ ap (λ x. slot_of x 0) o ∙ b.0.names_low))
    (tree_one at h q a.2 b.2 (sym a.0.names_high ∙ ap (λ x. slot_of x 1) o ∙ b.0.names_high))

under_one : (at : ℕ → Option Object) (id : ℕ) (t u : Option Tree) → StandsUnder at id t → StandsUnder at id u → pairs_in t ≡ pairs_in u
under_one at id None None a b = refl
under_one at id None (Some u) a b = absurd (b.0 a)
under_one at id (Some t) None a b = absurd (a.0 b)
under_one at id (Some t) (Some u) a b = ap pairs_of (tree_one at t u a.2.objects b.2.objects (a.1 ∙ sym b.1))

pub map-one_proof : map-one
map-one_proof slot g ps qs p q = p.same ∙ under_one (object_at g) (slot_of (object_at g root) slot) p.tree q.tree p.stands q.stands ∙ sym q.same

ascends_under : (at : ℕ → Option Object) (id : ℕ) (t : Option Tree) → StandsUnder at id t → AscendByKey (pairs_in t)
ascends_under at id None h = tt
ascends_under at id (Some t) h = pairs_ascend t h.2.critical

pub map-ascends_proof : map-ascends
map-ascends_proof slot g ps p = subst AscendByKey (sym p.same) (ascends_under (object_at g) (slot_of (object_at g root) slot) p.tree p.stands)
