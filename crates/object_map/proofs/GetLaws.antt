-- What a key has in the map, by the leaf to which its bits lead.
use Rattle.std.proofs.Common.{◌≡◌, ◌≢◌, ℕ, List, [], ◌∷◌, Option, Some, None, refl, sym, ap, ◌∙◌, subst, arith}
use Rattle.std.specs.Prelude.{unwrap_or}
use Rattle.std.specs.List.{AllByRecursion}
use Rattle.std.specs.Int.{bit_at}
use Rattle.plain_model.specs.Graphs.{root, object_at}
use Rattle.plain_model.specs.Machine.{nonzero}
use Rattle.plain_map.specs.Pairs.{value_of}
use Rattle.plain_map.proofs.ValueLaws.{value_here, value_next, value_front, value_back}
use Rattle.object_map.specs.Trees.{Tree, id_of, pairs_of, AllKeys, IsCritBit, above}
use Rattle.object_map.specs.Trees.Tree.{leaf, inner}
use Rattle.object_map.specs.Maps.{IsMap, IsTree, StandsUnder, pairs_in, slot_of, payload_of, IsLeaf, IsCell}
use Rattle.object_map.specs.Seen.{Seen, at, held, held_id, Loads}
use Rattle.object_map.specs.Ways.{Turn, whole, Follows, IsAtLeaf, HoldsTree}
use Rattle.object_map.specs.Ways.Turn.{to_low, to_high}
use Rattle.object_map.proofs.TreeLaws.{keys_map, keys_pairs}
use Rattle.object_map.proofs.OneLaws.{tree_one}
use Rattle.object_map.proofs.WayLaws.{held_here, nonzero_some, objects_within, critical_within}

-- ---- the way that a key follows

others : (P : ℕ → Type 0) (k : ℕ) (t : Tree) → ((x : ℕ) → P x → x ≢ k) → AllKeys P t → AllByRecursion (λ p. p.0 ≢ k) (pairs_of t)
others P k t f h = keys_pairs (λ x. x ≢ k) t (keys_map P (λ x. x ≢ k) f t h)

-- the whole tree has at the key what the tree has to which its bits lead
pub value_on_way : (k : ℕ) (turns : List Turn) (t : Tree) → IsCritBit (whole turns t) → Follows k turns → value_of k (pairs_of (whole turns t)) ≡ value_of k (pairs_of t)
value_on_way k [] t h f = refl
value_on_way k (to_low i b r ∷ turns) t h f =
    let p = (critical_within turns (inner i b t r) h).0 in
    value_on_way k turns (inner i b t r) h f.1 ∙ value_front k (pairs_of t) (pairs_of r)
    (others (λ x. (bit_at x b ≡ 1) × (above b x ≡ p.prefix)) k r (λ x y e. absurd (omega (arith, y.0, ap (λ z. bit_at z b) e, f.0))) p.high_keys)
value_on_way k (to_high i b l ∷ turns) t h f =
    let p = (critical_within turns (inner i b l t) h).0 in
    value_on_way k turns (inner i b l t) h f.1 ∙ value_back k (pairs_of l) (pairs_of t)
    (others (λ x. (bit_at x b ≡ 0) × (above b x ≡ p.prefix)) k l (λ x y e. absurd (omega (arith, y.0, ap (λ z. bit_at z b) e, f.0))) p.low_keys)

-- ---- the tree under the slot

-- register 1 holds the first object of the tree that the map is
pub record HoldsMap (v : Seen) (pairs : List (ℕ × ℕ)) : Type 0 where
  pub tree : Tree
  pub stands : IsTree (at v) tree
  pub here : held v 1 ≡ Some (id_of tree)
  pub same : pairs ≡ pairs_of tree

pub holds_map : (v w : Seen) (slot id : ℕ) (pairs : List (ℕ × ℕ)) → held v 0 ≡ Some root → IsMap slot v.graph pairs → id ≡ slot_of (at v (held_id v 0)) slot → id ≢ 0 → Loads 1 (nonzero id) v w → HoldsMap w pairs
holds_map v w slot id pairs r m e n l =
    let told : id ≡ slot_of (at v root) slot = e ∙ ap (λ x. slot_of (at v x) slot) (held_here v 0 root r) in
    under m.tree (λ z. n (told ∙ z)) m.stands m.same
  where
    under : (o : Option Tree) → (slot_of (at v root) slot ≢ 0) → StandsUnder (at v) (slot_of (at v root) slot) o → pairs ≡ pairs_in o → HoldsMap w pairs
    under None x y z = absurd (x y)
    under (Some t) x y z =
        let told : id ≡ slot_of (at v root) slot = e ∙ ap (λ x. slot_of (at v x) slot) (held_here v 0 root r) in
        record { tree = t; stands = subst (λ g. IsTree (object_at g) t) (sym l.graph) y.2; here = l.here ∙ nonzero_some id n ∙ ap (λ a. Some a) (told ∙ sym y.1); same = z }

pub holds_tree : (v : Seen) (pairs : List (ℕ × ℕ)) → HoldsMap v pairs → HoldsTree v
holds_tree v pairs h = record { tree = h.tree; stands = h.stands; here = h.here }

-- without a tree the map is empty
pub empty_map : (v : Seen) (slot id : ℕ) (pairs : List (ℕ × ℕ)) → held v 0 ≡ Some root → IsMap slot v.graph pairs → id ≡ slot_of (at v (held_id v 0)) slot → id ≡ 0 → pairs ≡ []
empty_map v slot id pairs r m e n = under m.tree m.stands m.same
  where
    under : (o : Option Tree) → StandsUnder (at v) (slot_of (at v root) slot) o → pairs ≡ pairs_in o → pairs ≡ []
    under None x y = y
    under (Some t) x y = absurd (x.0 (ap (λ i. slot_of (at v i) slot) (sym (held_here v 0 root r)) ∙ sym e ∙ n))

pub some_same : (a b : ℕ) → Some a ≡ Some b → a ≡ b
some_same a b e = ap (λ o. unwrap_or o 0) e

-- the map's tree is the one in which the leaf was found
pub same_tree : (key found : ℕ) (v w : Seen) (pairs : List (ℕ × ℕ)) (m : HoldsMap v pairs) (a : IsAtLeaf key found v w) → m.tree ≡ whole a.turns (leaf a.id found a.cell a.value)
same_tree key found v w pairs m a = tree_one (at v) m.tree (whole a.turns (leaf a.id found a.cell a.value)) m.stands.objects a.stands.objects (some_same (id_of m.tree) (id_of (whole a.turns (leaf a.id found a.cell a.value))) (sym m.here ∙ a.start))

-- so the map has at the key what the leaf has
pub value_at_leaf : (key found : ℕ) (v w : Seen) (pairs : List (ℕ × ℕ)) (m : HoldsMap v pairs) (a : IsAtLeaf key found v w) → value_of key pairs ≡ value_of key ((found, a.value) ∷ [])
value_at_leaf key found v w pairs m a =
    ap (value_of key) (m.same ∙ ap pairs_of (same_tree key found v w pairs m a)) ∙ value_on_way key a.turns (leaf a.id found a.cell a.value) a.stands.critical a.follows

pub value_missing : (key found : ℕ) (v w : Seen) (pairs : List (ℕ × ℕ)) (m : HoldsMap v pairs) (a : IsAtLeaf key found v w) → found ≢ key → None ≡ value_of key pairs
value_missing key found v w pairs m a n = sym (value_at_leaf key found v w pairs m a ∙ value_next key (found, a.value) [] n)

-- the leaf's cell, and what it has
pub cell_of : (key found : ℕ) (v w : Seen) (a : IsAtLeaf key found v w) → IsLeaf (at v a.id) found a.cell × IsCell (at v a.cell) a.value
cell_of key found v w a = objects_within (at v) a.turns (leaf a.id found a.cell a.value) a.stands.objects

pub cell_here : (key found id : ℕ) (v w x : Seen) (a : IsAtLeaf key found v w) → id ≡ slot_of (at w (held_id w 1)) 2 → Loads 1 (nonzero id) w x → held x 1 ≡ Some a.cell
cell_here key found id v w x a e l =
    let told : id ≡ a.cell = e ∙ ap (λ i. slot_of (at w i) 2) (held_here w 1 a.id a.here) ∙ ap (λ g. slot_of (object_at g a.id) 2) a.graph ∙ (cell_of key found v w a).0.names in
    l.here ∙ nonzero_some id (λ z. (cell_of key found v w a).0.named (sym told ∙ z)) ∙ ap (λ y. Some y) told

pub value_found : (key found id value : ℕ) (v w x : Seen) (pairs : List (ℕ × ℕ)) (m : HoldsMap v pairs) (a : IsAtLeaf key found v w) → found ≡ key → id ≡ slot_of (at w (held_id w 1)) 2 → Loads 1 (nonzero id) w x → value ≡ payload_of (at x (held_id x 1)) → Some value ≡ value_of key pairs
value_found key found id value v w x pairs m a n e l p =
    let has : value ≡ a.value = p ∙ ap (λ i. payload_of (at x i)) (held_here x 1 a.cell (cell_here key found id v w x a e l)) ∙ ap (λ g. payload_of (object_at g a.cell)) (l.graph ∙ a.graph) ∙ (cell_of key found v w a).1.value_is in
    ap (λ y. Some y) has ∙ sym (value_at_leaf key found v w pairs m a ∙ value_here key (found, a.value) [] n)
