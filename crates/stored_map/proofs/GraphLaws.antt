-- The map that a graph keeps is what is read from the root down, and only the objects that the root reaches tell it.
use Rattle.std.proofs.Common.{◌≡◌, ◌≢◌, ℕ, zero, suc, ◌+◌, ◌<◌, ◌≤◌, true, false, List, [], ◌∷◌, ◌++◌, Option, Some, None, refl, sym, ap, ap₂, ◌∙◌, subst, arith}
use Rattle.std.specs.Prelude.{◌==◌, if◌then◌else◌, is_some, slice_index}
use Rattle.std.proofs.lemmas.Bool.Decides.{nat_tests}
use Rattle.plain_model.specs.declared.object.Object.{Object}
use Rattle.plain_model.specs.Graphs.{root, object_at, has_object}
use Rattle.plain_model.specs.Reachable.{Reachable, start, step}
use Rattle.plain_model.specs.History.{SameReachable}
use Rattle.plain_laws.specs.Sound.{IsSoundGraph}
use Rattle.plain_laws.proofs.Ids.{contains_slot}
use Rattle.store_model.proofs.Lists.{Contains-here}
use Rattle.plain_map.specs.Pairs.{Pairs}
use Rattle.object_map.specs.Trees.{Tree, id_of, pairs_of, IsCritBit, IsBelow}
use Rattle.object_map.specs.Trees.Tree.{leaf, inner}
use Rattle.object_map.specs.Maps.{slot_of, payload_of, IsLeaf, IsCell, IsInner, AreObjects, StandsUnder, pairs_in as pairs_of_tree, IsMap}
use Rattle.stored_map.specs.Graphs.{pairs_under, pairs_at, pairs_in, KeepsMap}

-- ---- reading

zero_test : (n : ℕ) → n ≡ 0 → (n == 0) ≡ true
zero_test n e = grind (arith, nat_tests)

some_test : (n : ℕ) → n ≢ 0 → (n == 0) ≡ false
some_test n e = grind (arith, nat_tests)

-- how many objects may stand below one another in a tree: one more than the number of its bits, and 1 in a leaf
rank : Tree → ℕ
rank (leaf id key cell value) = 1
rank (inner id bit low high) = bit + 2

unfold_leaf : (at : ℕ → Option Object) (n id key cell value : ℕ) → IsLeaf (at id) key cell → IsCell (at cell) value → pairs_under at (suc n) id ≡ (key, value) ∷ []
unfold_leaf at n id key cell value l c =
    let t : (slot_of (at id) 2 == 0) ≡ false = some_test (slot_of (at id) 2) (λ e. l.named (sym l.names ∙ e)) in
    let P : Pairs = pairs_under at n (slot_of (at id) 0) ++ pairs_under at n (slot_of (at id) 1) in
    let Q : Pairs = (payload_of (at id), payload_of (at (slot_of (at id) 2))) ∷ [] in
    ap (λ b. if b then P else Q) t ∙ ap₂ (λ k v. (k, v) ∷ []) l.key_is (ap (λ x. payload_of (at x)) l.names ∙ c.value_is)

unfold_inner : (at : ℕ → Option Object) (n id bit low high : ℕ) (l h : Pairs) → IsInner (at id) bit low high → pairs_under at n low ≡ l → pairs_under at n high ≡ h → pairs_under at (suc n) id ≡ l ++ h
unfold_inner at n id bit low high l h i e f =
    let t : (slot_of (at id) 2 == 0) ≡ true = zero_test (slot_of (at id) 2) (i.null 2 (λ z. absurd (omega (arith, z))) (λ z. absurd (omega (arith, z)))) in
    let P : Pairs = pairs_under at n (slot_of (at id) 0) ++ pairs_under at n (slot_of (at id) 1) in
    let Q : Pairs = (payload_of (at id), payload_of (at (slot_of (at id) 2))) ∷ [] in
    ap (λ b. if b then P else Q) t ∙ ap₂ (λ (x y : Pairs). x ++ y) (ap (pairs_under at n) i.names_low ∙ e) (ap (pairs_under at n) i.names_high ∙ f)

rank_below : (b n : ℕ) (t : Tree) → IsBelow b t → b + 2 ≤ suc n → rank t ≤ n
unfolding rank
rank_below b n (leaf id key cell value) w h = omega (arith, h)
rank_below b n (inner id bit low high) w h = omega (arith, w, h)

read_tree : (at : ℕ → Option Object) (n : ℕ) (t : Tree) → rank t ≤ n → IsCritBit t → AreObjects at t → pairs_under at n (id_of t) ≡ pairs_of t
unfolding rank
read_tree at zero (leaf id key cell value) h c o = absurd (omega (arith, h))
read_tree at zero (inner id bit low high) h c o = absurd (omega (arith, h))
read_tree at (suc n) (leaf id key cell value) h c o = unfold_leaf at n id key cell value o.0 o.1
read_tree at (suc n) (inner id bit low high) h c o =
    unfold_inner at n id bit (id_of low) (id_of high) (pairs_of low) (pairs_of high) o.0
    (read_tree at n low (rank_below bit n low c.0.low_below h) c.1 o.1)
    (read_tree at n high (rank_below bit n high c.0.high_below h) c.2 o.2)

rank_most : (t : Tree) → IsCritBit t → rank t ≤ 65
unfolding rank
rank_most (leaf id key cell value) c = omega arith
rank_most (inner id bit low high) c = let few : bit < 64 = c.0.number in omega (arith, few)

read_under : (at : ℕ → Option Object) (n id : ℕ) (o : Option Tree) → 65 ≤ n → StandsUnder at id o → pairs_at at n id ≡ pairs_of_tree o
read_under at n id None l s = ap (λ b. if b then [] else pairs_under at n id) (zero_test id s)
read_under at n id (Some t) l s =
    let deep : rank t ≤ n = (let r : rank t ≤ 65 = rank_most t s.2.critical in omega (arith, r, l)) in
    ap (λ b. if b then [] else pairs_under at n id) (some_test id s.0) ∙ (ap (pairs_under at n) (sym s.1) ∙ read_tree at n t deep s.2.critical s.2.objects)

-- what a graph keeps is what is read there
pub map_read : (g : List Object) (ps : Pairs) → IsMap 13 g ps → pairs_in g ≡ ps
unfolding pairs_in
map_read g ps m = read_under (object_at g) 65 (slot_of (object_at g root) 13) m.tree (omega arith) m.stands ∙ sym m.same

pub keeps_map : (g : List Object) (ps : Pairs) → IsMap 13 g ps → KeepsMap g
keeps_map g ps m = subst (λ (x : Pairs). IsMap 13 g x) (sym (map_read g ps m)) m

pub map_one : (g : List Object) (ps qs : Pairs) → IsMap 13 g ps → IsMap 13 g qs → ps ≡ qs
map_one g ps qs m n = sym (map_read g ps m) ∙ map_read g qs n

-- ---- what the root reaches

pub named_there : (o : Option Object) (k y : ℕ) → slot_of o k ≡ y → y ≢ 0 → (x : Object) × (o ≡ Some x) × (slice_index x.slots k ≡ y)
named_there None k y e n = absurd (n (sym e))
named_there (Some x) k y e n = (x, refl, e)

pub is_there : (o : Option Object) → is_some o ≡ true → (x : Object) × (o ≡ Some x)
is_there None h = absurd (cc)
is_there (Some x) h = (x, refl)

-- a slot of an object that is reached leads on
pub reach_on : {l : List ℕ} (g : List Object) (x k y : ℕ) → Reachable g l x → slot_of (object_at g x) k ≡ y → y ≢ 0 → is_some (object_at g y) ≡ true → Reachable g l y
reach_on {l} g x k y r e n h =
    let o = named_there (object_at g x) k y e n in
    let p = is_there (object_at g y) h in
    step x y o.0 p.0 r o.1 (contains_slot o.0.slots k y o.2 n) n p.1

some_slot : (o : Option Object) (k y : ℕ) → slot_of o k ≡ y → y ≢ 0 → is_some o ≡ true
some_slot None k y e n = absurd (n (sym e))
some_slot (Some x) k y e n = refl

-- the first object of a tree is there
pub tree_there : (at : ℕ → Option Object) (t : Tree) → AreObjects at t → is_some (at (id_of t)) ≡ true
tree_there at (leaf id key cell value) o = some_slot (at id) 2 cell o.0.names o.0.named
tree_there at (inner id bit low high) o = some_slot (at id) 0 (id_of low) o.0.names_low o.0.low_named

-- the objects of a tree that is reached are the same in a graph with the same reach
pub same_tree : (g h : List Object) (t : Tree) → SameReachable h g → Reachable g (root ∷ []) (id_of t) → AreObjects (object_at g) t → AreObjects (object_at h) t
same_tree g h (leaf id key cell value) s r o =
    let here : object_at g id ≡ object_at h id = sym (s.contents id r) in
    let down : Reachable g (root ∷ []) cell = reach_on g id 2 cell r o.0.names o.0.named o.1.there in
    let there : object_at g cell ≡ object_at h cell = sym (s.contents cell down) in
    (subst (λ (x : Option Object). IsLeaf x key cell) here o.0, subst (λ (x : Option Object). IsCell x value) there o.1)
same_tree g h (inner id bit low high) s r o =
    let here : object_at g id ≡ object_at h id = sym (s.contents id r) in (
      subst (λ (x : Option Object). IsInner x bit (id_of low) (id_of high)) here o.0,
      same_tree g h low s (reach_on g id 0 (id_of low) r o.0.names_low o.0.low_named (tree_there (object_at g) low o.1)) o.1,
      same_tree g h high s (reach_on g id 1 (id_of high) r o.0.names_high o.0.high_named (tree_there (object_at g) high o.2)) o.2,
    )

pub root_reached : (g : List Object) → has_object g root ≡ true → Reachable g (root ∷ []) root
root_reached g h = let o = is_there (object_at g root) h in start root o.0 (Contains-here root []) o.1

same_under : (g h : List Object) (id : ℕ) (o : Option Tree) → SameReachable h g → has_object g root ≡ true → slot_of (object_at g root) 13 ≡ id → StandsUnder (object_at g) id o → StandsUnder (object_at h) id o
same_under g h id None s w e u = u
same_under g h id (Some t) s w e u =
    let n : id_of t ≢ 0 = λ z. u.0 (sym u.1 ∙ z) in
    let r : Reachable g (root ∷ []) (id_of t) = reach_on g root 13 (id_of t) (root_reached g w) (e ∙ sym u.1) n (tree_there (object_at g) t u.2.objects) in
    (u.0, u.1, record { objects = same_tree g h t s r u.2.objects; critical = u.2.critical; own_cells = u.2.own_cells })

-- a graph in which the root reaches the same keeps the same map
pub map_same : (g h : List Object) (ps : Pairs) → IsSoundGraph g → SameReachable h g → IsMap 13 g ps → IsMap 13 h ps
map_same g h ps w s m =
    let here : object_at h root ≡ object_at g root = s.contents root (root_reached g w.rooted) in
    let slot : slot_of (object_at h root) 13 ≡ slot_of (object_at g root) 13 = ap (λ (x : Option Object). slot_of x 13) here in
    record {
      tree = m.tree;
      stands = subst (λ i. StandsUnder (object_at h) i m.tree) (sym slot) (same_under g h (slot_of (object_at g root) 13) m.tree s w.rooted refl m.stands);
      same = m.same;
    }
