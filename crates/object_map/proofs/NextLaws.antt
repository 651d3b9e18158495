-- The pair with the least key that isn't below a key.
use Rattle.std.proofs.Common.{◌≡◌, ◌≢◌, ℕ, ◌<◌, List, [], ◌∷◌, Option, Some, None, refl, sym, ap, ◌∙◌, subst, arith, ⊎_elim, inl, inr, Bool, true, false}
use Rattle.std.specs.Option.{option_or}
use Rattle.std.specs.List.{AllByRecursion}
use Rattle.std.specs.Int.{bit_at}
use Rattle.plain_model.specs.declared.object.Object.{Object}
use Rattle.plain_model.specs.Graphs.{root, object_at}
use Rattle.plain_model.specs.Machine.{nonzero}
use Rattle.plain_map.specs.Pairs.{next_pair, first_of}
use Rattle.plain_map.proofs.NextLaws.{next_none, next_first, next_append, first_append, or_some}
use Rattle.object_map.specs.Trees.{Tree, id_of, pairs_of, IsCritBit, Parts, above}
use Rattle.object_map.specs.Trees.Tree.{leaf, inner}
use Rattle.object_map.specs.Maps.{IsMap, IsMapOf, IsTree, StandsUnder, pairs_in, slot_of, payload_of, AreObjects}
use Rattle.object_map.specs.Seen.{Seen, at, held, held_id, Loads}
use Rattle.object_map.specs.Ways.{Turn, whole, HasKey, AgreesOn, IsAtLeaf}
use Rattle.object_map.specs.Ways.Turn.{to_low, to_high}
use Rattle.object_map.specs.Parting.{IsCritical, LeadsTo, right_of, HoldsRight, IsOnPart, HoldsTreeIn, IsFirstLeaf, IsFirstPair}
use Rattle.object_map.proofs.BitLaws.{below_by_bit, bit_cases}
use Rattle.object_map.proofs.TreeLaws.{keys_map, keys_pairs}
use Rattle.object_map.proofs.OneLaws.{tree_one}
use Rattle.object_map.proofs.ReplaceLaws.{has_key}
use Rattle.object_map.proofs.CellLaws.{own_within}
use Rattle.object_map.proofs.HungLaws.{keys_below}
use Rattle.object_map.proofs.PartLaws.{leads_has, leads_whole}
use Rattle.object_map.proofs.WayLaws.{objects_within, critical_within, held_here, nonzero_some}
use Rattle.object_map.proofs.GetLaws.{some_same}

-- ---- first pairs

some_first : (t : Tree) → (q : ℕ × ℕ) × (first_of (pairs_of t) ≡ Some q)
some_first (leaf i k c v) = ((k, v), refl)
some_first (inner i b l r) = (let x = some_first l in (x.0, first_append (pairs_of l) (pairs_of r) x.0 x.1))

-- the first pair of a tree, where there is a tree
abbrev pub first_in : Option Tree → Option (ℕ × ℕ)
first_in None = None
first_in (Some t) = first_of (pairs_of t)

-- ---- the way that a key follows

-- the next pair of the whole tree is that of the tree at the end of the way, or else the first one to its right
pub next_on_way : (P : ℕ → Type 0) (key other : ℕ) (turns : List Turn) (t : Tree) → IsCritBit (whole turns t) → AgreesOn P key other turns → HasKey other t → next_pair key (pairs_of (whole turns t)) ≡ option_or (next_pair key (pairs_of t)) (first_in (right_of turns))
next_on_way P key other [] t h a k = or_none (next_pair key (pairs_of t))
  where
    or_none : (x : Option (ℕ × ℕ)) → x ≡ option_or x None
    or_none None = refl
    or_none (Some p) = refl
next_on_way P key other (to_low i n r ∷ turns) t h a k =
    let p : Parts n t r = (critical_within turns (inner i n t r) h).0 in
    let its = has_key (λ x. (bit_at x n ≡ 0) × (above n x ≡ p.prefix)) other t p.low_keys k in
    let agrees : above n key ≡ p.prefix = a.2 ∙ its.1 in
    let greater : AllByRecursion (λ q. key < q.0) (pairs_of r) = keys_pairs (λ x. key < x) r (keys_map (λ x. (bit_at x n ≡ 1) × (above n x ≡ p.prefix)) (λ x. key < x) (λ x y. below_by_bit n key x (agrees ∙ sym y.1) a.1 y.0) r p.high_keys) in
    let f = some_first r in
    next_on_way P key other turns (inner i n t r) h a.3 (inl k)
    ∙ ap (λ x. option_or x (first_in (right_of turns))) (next_append key (pairs_of t) (pairs_of r) ∙ ap (λ x. option_or (next_pair key (pairs_of t)) x) (next_first key (pairs_of r) greater ∙ f.1))
    ∙ or_some (next_pair key (pairs_of t)) (first_in (right_of turns)) f.0
    ∙ ap (λ x. option_or (next_pair key (pairs_of t)) x) (sym f.1)
next_on_way P key other (to_high i n l ∷ turns) t h a k =
    let p : Parts n l t = (critical_within turns (inner i n l t) h).0 in
    let its = has_key (λ x. (bit_at x n ≡ 1) × (above n x ≡ p.prefix)) other t p.high_keys k in
    let agrees : above n key ≡ p.prefix = a.2 ∙ its.1 in
    let smaller : AllByRecursion (λ q. q.0 < key) (pairs_of l) = keys_pairs (λ x. x < key) l (keys_map (λ x. (bit_at x n ≡ 0) × (above n x ≡ p.prefix)) (λ x. x < key) (λ x y. below_by_bit n x key (y.1 ∙ sym agrees) y.0 a.1) l p.low_keys) in
    next_on_way P key other turns (inner i n l t) h a.3 (inr k)
    ∙ ap (λ x. option_or x (first_in (right_of turns))) (next_append key (pairs_of l) (pairs_of t) ∙ ap (λ x. option_or x (next_pair key (pairs_of t))) (next_none key (pairs_of l) smaller))

-- ---- where the key parts

-- which of two keys is the smaller one is told by the bit at which they part
pub smaller_bit : (bit key found : ℕ) → IsCritical bit key found → key < found → (bit_at key bit ≡ 0) × (bit_at found bit ≡ 1)
smaller_bit bit key found c l =
    ⊎_elim
    (λ (x : bit_at key bit ≡ 0). ⊎_elim (λ (y : bit_at found bit ≡ 0). absurd (c.differ (x ∙ sym y))) (λ (y : bit_at found bit ≡ 1). (x, y)) (bit_cases found bit))
    (λ (x : bit_at key bit ≡ 1). ⊎_elim
    (λ (y : bit_at found bit ≡ 0). (let m : found < key = below_by_bit bit found key (sym c.same) y x in absurd (omega (arith, l, m))))
    (λ (y : bit_at found bit ≡ 1). absurd (c.differ (x ∙ sym y))) (bit_cases found bit))
    (bit_cases key bit)

pub critical_turned : (bit key found : ℕ) → IsCritical bit key found → IsCritical bit found key
critical_turned bit key found c = record { number = c.number; same = sym c.same; differ = λ e. c.differ (sym e) }

-- the pairs of the map are those of the tree that the slot names
pub under_tree : (f : ℕ → Option Object) (slot : ℕ) (pairs : List (ℕ × ℕ)) (u : Tree) → IsMapOf slot f pairs → slot_of (f root) slot ≡ id_of u → slot_of (f root) slot ≢ 0 → AreObjects f u → pairs ≡ pairs_of u
under_tree f slot pairs u m e n a = under m.tree m.stands m.same
  where
    under : (o : Option Tree) → StandsUnder f (slot_of (f root) slot) o → pairs ≡ pairs_in o → pairs ≡ pairs_of u
    under None x y = absurd (n x)
    under (Some t) x y = y ∙ ap pairs_of (tree_one f t u x.2.objects a (x.1 ∙ e))

-- the key is below the leaf's: its next pair is the first one of the tree
pub next_of_smaller : (key found bit r s : ℕ) (right : Bool) (old new : Seen) (pairs : List (ℕ × ℕ)) (w : IsOnPart key found bit bit r s right old new) → IsCritical bit key found → key < found → pairs ≡ pairs_of (whole w.turns w.tree) → next_pair key pairs ≡ first_of (pairs_of w.tree)
next_of_smaller key found bit r s right old new pairs w c l e =
    let digits = smaller_bit bit key found c l in
    let crit : IsCritBit w.tree = critical_within w.turns w.tree w.stands.critical in
    let has : HasKey found w.tree = leads_has key found w.tree w.leads in
    let greater : AllByRecursion (λ q. key < q.0) (pairs_of w.tree) =
    keys_pairs (λ x. key < x) w.tree (keys_map (λ x. (bit_at x bit ≡ bit_at found bit) × (above bit x ≡ above bit found)) (λ x. key < x) (λ x y. below_by_bit bit key x (c.same ∙ sym y.1) digits.0 (y.0 ∙ digits.1)) w.tree (keys_below bit found w.tree crit w.below has)) in
    let f = some_first w.tree in
    ap (next_pair key) e ∙ next_on_way (λ b. bit < b) key found w.turns w.tree w.stands.critical w.agrees has
    ∙ ap (λ x. option_or x (first_in (right_of w.turns))) (next_first key (pairs_of w.tree) greater ∙ f.1) ∙ sym f.1

-- the key is above the leaf's: its next pair is the first one to the right of the tree
pub next_of_greater : (key found bit r s : ℕ) (right : Bool) (old new : Seen) (pairs : List (ℕ × ℕ)) (w : IsOnPart key found bit bit r s right old new) → IsCritical bit key found → found < key → pairs ≡ pairs_of (whole w.turns w.tree) → next_pair key pairs ≡ first_in (right_of w.turns)
next_of_greater key found bit r s right old new pairs w c l e =
    let digits = smaller_bit bit found key (critical_turned bit key found c) l in
    let crit : IsCritBit w.tree = critical_within w.turns w.tree w.stands.critical in
    let has : HasKey found w.tree = leads_has key found w.tree w.leads in
    let smaller : AllByRecursion (λ q. q.0 < key) (pairs_of w.tree) =
    keys_pairs (λ x. x < key) w.tree (keys_map (λ x. (bit_at x bit ≡ bit_at found bit) × (above bit x ≡ above bit found)) (λ x. x < key) (λ x y. below_by_bit bit x key (y.1 ∙ sym c.same) (y.0 ∙ digits.0) digits.1) w.tree (keys_below bit found w.tree crit w.below has)) in
    ap (next_pair key) e ∙ next_on_way (λ b. bit < b) key found w.turns w.tree w.stands.critical w.agrees has
    ∙ ap (λ x. option_or x (first_in (right_of w.turns))) (next_none key (pairs_of w.tree) smaller)

-- ---- steps of the call

-- after the way to a leaf the key parts somewhere under the root's slot
pub leads_to : (slot key found id : ℕ) (v w x : Seen) → held v 0 ≡ Some root → id ≡ slot_of (at v (held_id v 0)) slot → id ≢ 0 → Loads 1 (nonzero id) v w → IsAtLeaf key found w x → LeadsTo slot key found x
leads_to slot key found id v w x r e n l a =
    let t : Tree = whole a.turns (leaf a.id found a.cell a.value) in
    let graph : x.graph ≡ v.graph = a.graph ∙ l.graph in
    let told : id ≡ slot_of (at v root) slot = e ∙ ap (λ i. slot_of (at v i) slot) (held_here v 0 root r) in
    let first : id ≡ id_of t = some_same id (id_of t) (sym (l.here ∙ nonzero_some id n) ∙ a.start) in
    record {
      tree = t;
      under = ap (λ g. slot_of (object_at g root) slot) graph ∙ sym told ∙ first;
      named = λ z. n (first ∙ z);
      stands = subst (λ g. IsTree (object_at g) t) (sym a.graph) a.stands;
      leads = leads_whole key found a.turns (leaf a.id found a.cell a.value) a.follows refl;
    }

-- the map's pairs, as the way to the parting has them
pub part_pairs : (slot key found bit r s id : ℕ) (right : Bool) (v w x y : Seen) (pairs : List (ℕ × ℕ)) (p : IsOnPart key found bit bit r s right x y) → held v 0 ≡ Some root → IsMap slot v.graph pairs → id ≡ slot_of (at v (held_id v 0)) slot → id ≢ 0 → x.graph ≡ v.graph → slot ≡ 13 → pairs ≡ pairs_of (whole p.turns p.tree)
part_pairs slot key found bit r s id right v w x y pairs p h m e n g k =
    let map : IsMapOf 13 (at x) pairs = subst (λ z. IsMapOf z (at x) pairs) k (subst (λ z. IsMapOf slot (object_at z) pairs) (sym g) m) in
    let told : id ≡ slot_of (at x root) 13 = e ∙ ap (λ i. slot_of (at v i) slot) (held_here v 0 root h) ∙ ap (λ z. slot_of (object_at z root) slot) (sym g) ∙ ap (λ z. slot_of (at x root) z) k in
    under_tree (at x) 13 pairs (whole p.turns p.tree) map p.start (λ z. n (told ∙ z)) p.stands.objects

-- the first pair, by its leaf and cell
pub first_pair_is : (r found id value : ℕ) (v w x : Seen) (a : IsFirstLeaf r found v w) → id ≡ slot_of (at w (held_id w r)) 2 → Loads r (nonzero id) w x → value ≡ payload_of (at x (held_id x r)) → IsFirstPair r (found, value) v
first_pair_is r found id value v w x a e l p =
    let told : id ≡ a.cell = e ∙ ap (λ i. slot_of (at w i) 2) (held_here w r a.id a.here) ∙ ap (λ g. slot_of (object_at g a.id) 2) a.graph ∙ a.is_leaf.names in
    let here : held x r ≡ Some a.cell = l.here ∙ nonzero_some id (λ z. a.is_leaf.named (sym told ∙ z)) ∙ ap (λ y. Some y) told in
    let has : value ≡ a.value = p ∙ ap (λ i. payload_of (at x i)) (held_here x r a.cell here) ∙ ap (λ g. payload_of (object_at g a.cell)) (l.graph ∙ a.graph) ∙ a.is_cell.value_is in
    record { tree = a.tree; stands = a.stands; here = a.start; first = ap first_of a.first ∙ ap (λ (z : ℕ). Some (found, z)) (sym has) }

pub first_cell : (r found id : ℕ) (v w x : Seen) (a : IsFirstLeaf r found v w) → id ≡ slot_of (at w (held_id w r)) 2 → Loads r (nonzero id) w x → held x r ≡ Some a.cell
first_cell r found id v w x a e l =
    let told : id ≡ a.cell = e ∙ ap (λ i. slot_of (at w i) 2) (held_here w r a.id a.here) ∙ ap (λ g. slot_of (object_at g a.id) 2) a.graph ∙ a.is_leaf.names in
    l.here ∙ nonzero_some id (λ z. a.is_leaf.named (sym told ∙ z)) ∙ ap (λ y. Some y) told

-- the first pair of the tree in the register is that of any tree which it holds
pub first_same : (r : ℕ) (q : ℕ × ℕ) (v : Seen) (t : Tree) (a : IsFirstPair r q v) → AreObjects (at v) t → held v r ≡ Some (id_of t) → first_of (pairs_of t) ≡ Some q
first_same r q v t a o h = ap (λ u. first_of (pairs_of u)) (tree_one (at v) t a.tree o a.stands.objects (some_same (id_of t) (id_of a.tree) (sym h ∙ a.here))) ∙ a.first

-- the tree in register 1, and the one in register 3
pub part_tree : (key found bit r s : ℕ) (right : Bool) (old new : Seen) (w : IsOnPart key found bit bit r s right old new) → AreObjects (at new) w.tree
part_tree key found bit r s right old new w = subst (λ g. AreObjects (object_at g) w.tree) (sym w.graph) (objects_within (at old) w.turns w.tree w.stands.objects)

own_tree : (f : ℕ → Option Object) (turns : List Turn) (t : Tree) → IsTree f (whole turns t) → IsTree f t
own_tree f turns t h = record { objects = objects_within f turns t h.objects; critical = critical_within turns t h.critical; own_cells = own_within turns t h.own_cells }

pub part_holds : (key found bit r s : ℕ) (right : Bool) (old new : Seen) (w : IsOnPart key found bit bit r s right old new) → HoldsTreeIn 1 new
part_holds key found bit r s right old new w = record { tree = w.tree; stands = subst (λ g. IsTree (object_at g) w.tree) (sym w.graph) (own_tree (at old) w.turns w.tree w.stands); here = w.here }

-- the tree to the right stands too
right_stands : (f : ℕ → Option Object) (turns : List Turn) (t u : Tree) → IsTree f (whole turns t) → right_of turns ≡ Some u → IsTree f u
right_stands f [] t u h e = absurd (cc)
right_stands f (to_low i b r ∷ turns) t u h e =
    let x : IsTree f (inner i b t r) = own_tree f turns (inner i b t r) h in
    let y : IsTree f r = record { objects = x.objects.2; critical = x.critical.2; own_cells = x.own_cells.2 } in
    subst (λ z. IsTree f z) (tree_same r u e) y
  where
    or_leaf : Option Tree → Tree
    or_leaf None = leaf 0 0 0 0
    or_leaf (Some a) = a

    tree_same : (a b : Tree) → Some a ≡ Some b → a ≡ b
    tree_same a b e = ap (λ o. or_leaf o) e
right_stands f (to_high i b l ∷ turns) t u h e = right_stands f turns (inner i b l t) u h e

-- register 3 holds a tree where it is said
pub right_holds : (key found bit r s : ℕ) (right : Bool) (old new : Seen) (w : IsOnPart key found bit bit r s right old new) → right ≡ true → (t : Tree) × (right_of w.turns ≡ Some t) × IsTree (at new) t × (held new 3 ≡ Some (id_of t))
right_holds key found bit r s right old new w e = by (right_of w.turns) refl w.beside
  where
    by : (o : Option Tree) → right_of w.turns ≡ o → HoldsRight new o right → (t : Tree) × (right_of w.turns ≡ Some t) × IsTree (at new) t × (held new 3 ≡ Some (id_of t))
    by None x y = absurd (cc)
    by (Some t) x y = (t, x, subst (λ g. IsTree (object_at g) t) (sym w.graph) (right_stands (at old) w.turns w.tree t w.stands x), y.1)

-- without a tree to the right there is none
pub right_none : (key found bit r s : ℕ) (right : Bool) (old new : Seen) (w : IsOnPart key found bit bit r s right old new) → right ≡ false → first_in (right_of w.turns) ≡ None
right_none key found bit r s right old new w e = by (right_of w.turns) w.beside
  where
    by : (o : Option Tree) → HoldsRight new o right → first_in o ≡ None
    by None y = refl
    by (Some t) y = absurd (cc)
