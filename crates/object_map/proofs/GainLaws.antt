-- The objects that a put makes are the map's then.
use Rattle.std.proofs.Common.{◌≡◌, ◌≢◌, ℕ, ◌<◌, ◌^◌, List, [], ◌∷◌, Option, Some, None, refl, sym, ap, ◌∙◌, subst, true, Bool, eqb, ⊎_elim, ◌⊎◌, inl, inr}
use Rattle.std.specs.Prelude.{is_some, option_map, Contains}
use Rattle.std.specs.List.{IsDistinct}
use Rattle.std.proofs.lemmas.Bool.{cases_eq}
use Rattle.plain_model.specs.declared.object.Object.{Object}
use Rattle.plain_model.specs.declared.write.Place.{Place}
use Rattle.plain_model.specs.declared.write.Place.TheVariants.{Slot, Payload}
use Rattle.plain_model.specs.Graphs.{root, object_at, set_place}
use Rattle.plain_model.specs.Machine.{nonzero}
use Rattle.plain_map.specs.Pairs.{with_pair}
use Rattle.object_map.specs.Trees.{Tree, id_of, pairs_of}
use Rattle.object_map.specs.Trees.Tree.{leaf, inner}
use Rattle.object_map.specs.Maps.{IsMap, IsCell, slot_of, room_of}
use Rattle.object_map.specs.Seen.{Seen, at, held, held_id, Loads, Writes}
use Rattle.object_map.specs.Ways.{Turn, whole, IsAtLeaf}
use Rattle.object_map.specs.Parting.{IsCritical, IsOnPart}
use Rattle.object_map.specs.Making.{MakesLeaf, MakesInner}
use Rattle.object_map.specs.Changes.{IsOf, IsOfMap, Gains}
use Rattle.object_map.proofs.OneLaws.{leaf_or_cell}
use Rattle.object_map.proofs.WayLaws.{held_here, nonzero_some}
use Rattle.object_map.proofs.GetLaws.{HoldsMap, holds_map, same_tree, some_same}
use Rattle.object_map.proofs.MakeLaws.{writes_other, slot_written, payload_written, apart_new, there_not_none}
use Rattle.object_map.proofs.MapTreeLaws.{MapTree, of_tree, in_tree, of_none}
use Rattle.object_map.proofs.PutLaws.{leaf_there, inner_apart, empty_put, set_put, low_put, high_put}
use Rattle.object_map.proofs.OthersLaws.{of_whole}
use Rattle.object_map.proofs.ApartLaws.{whole_or, whole_of}
use Rattle.object_map.proofs.IdListLaws.{in_none, in_two, in_three, third_in, front_in, distinct_none, distinct_two, distinct_three}

-- ---- a tree with more objects in the place of another one

-- the one tree has the other's objects and these
pub record Grows (ids : List ℕ) (t u : Tree) : Type 0 where
  pub kept : (x : ℕ) → IsOf x t → IsOf x u
  pub gained : (x : ℕ) → Contains ids x → IsOf x u
  pub only : (x : ℕ) → IsOf x u → IsOf x t ⊎ Contains ids x

-- an inner object over a leaf and a tree has the leaf, its cell and itself more than the tree
pub low_grows : (m b j key c v : ℕ) (t : Tree) → Grows (j ∷ c ∷ m ∷ []) t (inner m b (leaf j key c v) t)
low_grows m b j key c v t = record {
  kept = λ x h. inr (inr h);
  gained = λ x h. ⊎_elim
      (λ (e : x ≡ j). inr (inl (inl e)))
      (λ (d : (x ≡ c) ⊎ (x ≡ m)). ⊎_elim (λ (e : x ≡ c). inr (inl (inr e))) (λ (e : x ≡ m). inl e) d)
      (in_three j c m x h);
  only = λ x h. ⊎_elim
      (λ (e : x ≡ m). inr (third_in j c m x [] e))
      (λ (d : ((x ≡ j) ⊎ (x ≡ c)) ⊎ IsOf x t). ⊎_elim (λ (w : (x ≡ j) ⊎ (x ≡ c)). inr (front_in j c x (m ∷ []) w)) (λ (y : IsOf x t). inl y) d)
      h;
}

pub high_grows : (m b j key c v : ℕ) (t : Tree) → Grows (j ∷ c ∷ m ∷ []) t (inner m b t (leaf j key c v))
high_grows m b j key c v t = record {
  kept = λ x h. inr (inl h);
  gained = λ x h. ⊎_elim
      (λ (e : x ≡ j). inr (inr (inl e)))
      (λ (d : (x ≡ c) ⊎ (x ≡ m)). ⊎_elim (λ (e : x ≡ c). inr (inr (inr e))) (λ (e : x ≡ m). inl e) d)
      (in_three j c m x h);
  only = λ x h. ⊎_elim
      (λ (e : x ≡ m). inr (third_in j c m x [] e))
      (λ (d : IsOf x t ⊎ ((x ≡ j) ⊎ (x ≡ c))). ⊎_elim (λ (y : IsOf x t). inl y) (λ (w : (x ≡ j) ⊎ (x ≡ c)). inr (front_in j c x (m ∷ []) w)) d)
      h;
}

-- so the map's tree has more
gains : (old new : Seen) (ids : List ℕ) (ps qs : List (ℕ × ℕ)) (turns : List Turn) (t u : Tree) → MapTree 13 (at old) ps (whole turns t) → MapTree 13 (at new) qs (whole turns u) → Grows ids t u → IsDistinct eqb ids
    → ((x : ℕ) → Contains ids x → at old x ≡ None) → ((x : ℕ) → at old x ≡ None → is_some (at new x) ≡ true → Contains ids x) → Gains 13 ids old new
gains old new ids ps qs turns t u m n g d fresh made = record {
  apart = d;
  kept = λ x h. in_tree x n (whole_of x turns t u (g.kept x) (of_tree x m h));
  gained = λ x h. in_tree x n (of_whole x turns u (g.gained x h));
  fresh = fresh;
  only = λ x h. ⊎_elim (λ (y : IsOf x (whole turns t)). inl (in_tree x m y)) (λ (z : Contains ids x). inr z) (whole_or (Contains ids x) x turns u t (g.only x) (of_tree x n h));
  made = made;
}

-- the graph before is all that counts
pub gains_from : (old now new : Seen) (ids : List ℕ) → now.graph ≡ old.graph → Gains 13 ids now new → Gains 13 ids old new
gains_from old now new ids e h = record {
  apart = h.apart;
  kept = λ x w. h.kept x (subst (λ g. IsOfMap 13 (object_at g) x) (sym e) w);
  gained = h.gained;
  fresh = λ x c. subst (λ g. object_at g x ≡ None) e (h.fresh x c);
  only = λ x w. ⊎_elim (λ (y : IsOfMap 13 (at now) x). inl (subst (λ g. IsOfMap 13 (object_at g) x) e y)) (λ (z : Contains ids x). inr z) (h.only x w);
  made = λ x n s. h.made x (subst (λ g. object_at g x ≡ None) (sym e) n) s;
}

-- ---- which objects are there

some_place : (p : Place) (v : ℕ) (o : Option Object) → is_some (option_map (set_place p v) o) ≡ is_some o
some_place p v None = refl
some_place p v (Some x) = refl

-- a write of a slot or of a payload leaves which objects are there
slot_there : (id k value x : ℕ) (v w : Seen) → Writes id (Slot k) value v w → is_some (at w x) ≡ is_some (at v x)
slot_there id k value x v w h = ⊎_elim
    (λ (e : x ≡ id). ap (λ y. is_some (at w y)) e ∙ ap (λ o. is_some o) (slot_written id k value v w h) ∙ some_place (Slot k) value (at v id) ∙ ap (λ y. is_some (at v y)) (sym e))
    (λ (n : x ≢ id). ap (λ o. is_some o) (writes_other id x value (Slot k) v w h n))
    (cases_eq x id)

payload_there : (id value x : ℕ) (v w : Seen) → Writes id Payload value v w → is_some (at w x) ≡ is_some (at v x)
payload_there id value x v w h = ⊎_elim
    (λ (e : x ≡ id). ap (λ y. is_some (at w y)) e ∙ ap (λ o. is_some o) (payload_written id value v w h) ∙ some_place Payload value (at v id) ∙ ap (λ y. is_some (at v y)) (sym e))
    (λ (n : x ≢ id). ap (λ o. is_some o) (writes_other id x value Payload v w h n))
    (cases_eq x id)

-- what is there after a new leaf, and wasn't before, is the leaf or its cell
leaf_made_it : (key value x : ℕ) (y z : Seen) (k : MakesLeaf key value y z) → at y x ≡ None → is_some (at z x) ≡ true → (x ≡ k.leaf) ⊎ (x ≡ k.cell)
leaf_made_it key value x y z k n s = ⊎_elim
    (λ (e : x ≡ k.leaf). inl e)
    (λ (p : x ≢ k.leaf). ⊎_elim (λ (e : x ≡ k.cell). inr e) (λ (q : x ≢ k.cell). absurd (there_not_none (at z x) s (k.rest x p q ∙ n))) (cases_eq x k.cell))
    (cases_eq x k.leaf)

not_there : (o : Option Object) → (is_some o ≡ true → ⊥) → o ≡ None
not_there None h = refl
not_there (Some x) h = absurd (h refl)

leaf_not_cell : (key value : ℕ) (y z : Seen) (k : MakesLeaf key value y z) → k.leaf ≢ k.cell
leaf_not_cell key value y z k e = leaf_or_cell (at z k.leaf) key k.cell value k.is_leaf (subst (λ x. IsCell (at z x) value) (sym e) k.is_cell)

-- ---- the first key

pub first_gains : (key value id : ℕ) (v x y z : Seen) (pairs : List (ℕ × ℕ)) → key < 2 ^ 64 → held v 0 ≡ Some root → 13 < room_of (at v root) → IsMap 13 v.graph pairs → id ≡ slot_of (at v (held_id v 0)) 13 → id ≡ 0 → Loads 1 (nonzero id) v x → (k : MakesLeaf key value x y) → Writes (held_id y 0) (Slot 13) (held_id y 3) y z
    → Gains 13 (k.leaf ∷ k.cell ∷ []) v z
first_gains key value id v x y z pairs bound r room m e n l k w =
    let new : MapTree 13 (at z) (with_pair key value pairs) (leaf k.leaf key k.cell value) = empty_put key value id v x y z pairs bound r room m e n l k w in
    let none : slot_of (at v root) 13 ≡ 0 = ap (λ i. slot_of (at v i) 13) (sym (held_here v 0 root r)) ∙ sym e ∙ n in
    let back : (i : ℕ) → at x i ≡ at v i = λ i. ap (λ g. object_at g i) l.graph in
    record {
      apart = distinct_two k.leaf k.cell (leaf_not_cell key value x y k);
      kept = λ i h. absurd (of_none i none h);
      gained = λ i h. in_tree i new (in_two k.leaf k.cell i h);
      fresh = λ i h. ⊎_elim (λ (q : i ≡ k.leaf). ap (at v) q ∙ sym (back k.leaf) ∙ k.new_leaf) (λ (q : i ≡ k.cell). ap (at v) q ∙ sym (back k.cell) ∙ k.new_cell) (in_two k.leaf k.cell i h);
      only = λ i h. inr (front_in k.leaf k.cell i [] (of_tree i new h));
      made = λ i o s. front_in k.leaf k.cell i [] (leaf_made_it key value i x y k (back i ∙ o) (sym (slot_there (held_id y 0) 13 (held_id y 3) i y z w) ∙ s));
    }

-- ---- a key that is there

-- the tree in which the leaf was found is the map's
pub leaf_tree : (key found id : ℕ) (v w x : Seen) (pairs : List (ℕ × ℕ)) → held v 0 ≡ Some root → IsMap 13 v.graph pairs → id ≡ slot_of (at v (held_id v 0)) 13 → id ≢ 0 → Loads 1 (nonzero id) v w → (a : IsAtLeaf key found w x) → MapTree 13 (at w) pairs (whole a.turns (leaf a.id found a.cell a.value))
leaf_tree key found id v w x pairs r m e n l a =
    let h : HoldsMap w pairs = holds_map v w 13 id pairs r m e n l in
    let under : slot_of (at w root) 13 ≡ id = ap (λ g. slot_of (object_at g root) 13) l.graph ∙ ap (λ i. slot_of (at v i) 13) (sym (held_here v 0 root r)) ∙ sym e in
    let first : id ≡ id_of (whole a.turns (leaf a.id found a.cell a.value)) = some_same id (id_of (whole a.turns (leaf a.id found a.cell a.value))) (sym (l.here ∙ nonzero_some id n) ∙ a.start) in
    record { under = under ∙ first; named = λ q. n (first ∙ q); stands = a.stands; same = h.same ∙ ap pairs_of (same_tree key found w x pairs h a) }

pub set_gains : (key found id id2 value : ℕ) (v w x y y2 z : Seen) (pairs : List (ℕ × ℕ)) → held v 0 ≡ Some root → IsMap 13 v.graph pairs → id ≡ slot_of (at v (held_id v 0)) 13 → id ≢ 0 → Loads 1 (nonzero id) v w → (a : IsAtLeaf key found w x) → found ≡ key
    → id2 ≡ slot_of (at x (held_id x 1)) 2 → Loads 1 (nonzero id2) x y → y2 ≡ y → Writes (held_id y2 1) Payload value y2 z → Gains 13 [] v z
set_gains key found id id2 value v w x y y2 z pairs r m e n l a f e2 l2 s k =
    let graph : y2.graph ≡ w.graph = ap (λ (q : Seen). q.graph) s ∙ l2.graph ∙ a.graph in
    let there : (i : ℕ) → is_some (at z i) ≡ is_some (at w i) = λ i. payload_there (held_id y2 1) value i y2 z k ∙ ap (λ g. is_some (object_at g i)) graph in
    gains_from v w z [] l.graph
    (gains w z [] pairs (with_pair key value pairs) a.turns (leaf a.id found a.cell a.value) (leaf a.id key a.cell value) (leaf_tree key found id v w x pairs r m e n l a) (set_put key found id id2 value v w x y y2 z pairs r m e n l a f e2 l2 s k)
    (record { kept = λ i h. h; gained = λ i h. absurd (in_none i h); only = λ i h. inl h }) distinct_none (λ i h. absurd (in_none i h)) (λ i o h. absurd (there_not_none (at w i) (sym (there i) ∙ h) o)))

-- ---- a new key beside others

part_gains : (key found value bit r s a b : ℕ) (right : Bool) (x y z q e : Seen) (ps qs : List (ℕ × ℕ)) (u : Tree) (p : IsOnPart key found bit bit r s right x y) → (k : MakesLeaf key value y z) → (n : MakesInner bit a b z q) → Writes (held_id q r) (Slot s) (held_id q 5) q e
    → MapTree 13 (at x) ps (whole p.turns p.tree) → MapTree 13 (at e) qs (whole p.turns u) → Grows (k.leaf ∷ k.cell ∷ n.id ∷ []) p.tree u → Gains 13 (k.leaf ∷ k.cell ∷ n.id ∷ []) x e
part_gains key found value bit r s a b right x y z q e ps qs u p k n w old new g =
    let ids : List ℕ = k.leaf ∷ k.cell ∷ n.id ∷ [] in
    let back : (i : ℕ) → at y i ≡ at x i = λ i. ap (λ h. object_at h i) p.graph in
    let fresh : (i : ℕ) → Contains ids i → at x i ≡ None = λ i h. ⊎_elim
    (λ (t : i ≡ k.leaf). ap (at x) t ∙ sym (back k.leaf) ∙ k.new_leaf)
    (λ (d : (i ≡ k.cell) ⊎ (i ≡ n.id)). ⊎_elim
    (λ (t : i ≡ k.cell). ap (at x) t ∙ sym (back k.cell) ∙ k.new_cell)
    (λ (t : i ≡ n.id). ap (at x) t ∙ not_there (at x n.id) (λ h. (inner_apart key value bit a b n.id x y z q p.graph k n h).0 refl))
    d)
    (in_three k.leaf k.cell n.id i h) in
    let made : (i : ℕ) → at x i ≡ None → is_some (at e i) ≡ true → Contains ids i = λ i o h. ⊎_elim
    (λ (t : i ≡ n.id). third_in k.leaf k.cell n.id i [] t)
    (λ (t : i ≢ n.id). front_in k.leaf k.cell i (n.id ∷ []) (leaf_made_it key value i y z k (back i ∙ o) (ap (λ f. is_some f) (sym (n.rest i t)) ∙ sym (slot_there (held_id q r) s (held_id q 5) i q e w) ∙ h)))
    (cases_eq i n.id) in
    gains x e ids ps qs p.turns p.tree u old new g
    (distinct_three k.leaf k.cell n.id (leaf_not_cell key value y z k) (apart_new (at z) k.leaf n.id (leaf_there (at z k.leaf) key k.cell k.is_leaf) n.new_id) (apart_new (at z) k.cell n.id k.is_cell.there n.new_id))
    fresh made

-- the tree of the map, in which the key parts from the others
part_tree : (key found bit r s : ℕ) (right : Bool) (x y : Seen) (ps : List (ℕ × ℕ)) (p : IsOnPart key found bit bit r s right x y) → slot_of (at x root) 13 ≢ 0 → ps ≡ pairs_of (whole p.turns p.tree) → MapTree 13 (at x) ps (whole p.turns p.tree)
part_tree key found bit r s right x y ps p n e = record { under = p.start; named = λ z. n (p.start ∙ z); stands = p.stands; same = e }

-- the key is below those of the tree beside it
pub low_gains : (key found value bit r s : ℕ) (right : Bool) (v x y z q e : Seen) (pairs : List (ℕ × ℕ)) → x.graph ≡ v.graph → key < 2 ^ 64 → (p : IsOnPart key found bit bit r s right x y) → IsCritical bit key found → key < found → (k : MakesLeaf key value y z) → (n : MakesInner bit 3 1 z q) → Writes (held_id q r) (Slot s) (held_id q 5) q e
    → slot_of (at x root) 13 ≢ 0 → pairs ≡ pairs_of (whole p.turns p.tree) → Gains 13 (k.leaf ∷ k.cell ∷ n.id ∷ []) v e
low_gains key found value bit r s right v x y z q e pairs g bound p c l k n w named same =
    gains_from v x e (k.leaf ∷ k.cell ∷ n.id ∷ []) g
    (part_gains key found value bit r s 3 1 right x y z q e pairs (with_pair key value pairs) (inner n.id bit (leaf k.leaf key k.cell value) p.tree) p k n w (part_tree key found bit r s right x y pairs p named same)
    (low_put key found value bit r s right x y z q e pairs bound p c l k n w named same) (low_grows n.id bit k.leaf key k.cell value p.tree))

-- the key is above them
pub high_gains : (key found value bit r s : ℕ) (right : Bool) (v x y z q e : Seen) (pairs : List (ℕ × ℕ)) → x.graph ≡ v.graph → key < 2 ^ 64 → (p : IsOnPart key found bit bit r s right x y) → IsCritical bit key found → found < key → (k : MakesLeaf key value y z) → (n : MakesInner bit 1 3 z q) → Writes (held_id q r) (Slot s) (held_id q 5) q e
    → slot_of (at x root) 13 ≢ 0 → pairs ≡ pairs_of (whole p.turns p.tree) → Gains 13 (k.leaf ∷ k.cell ∷ n.id ∷ []) v e
high_gains key found value bit r s right v x y z q e pairs g bound p c l k n w named same =
    gains_from v x e (k.leaf ∷ k.cell ∷ n.id ∷ []) g
    (part_gains key found value bit r s 1 3 right x y z q e pairs (with_pair key value pairs) (inner n.id bit p.tree (leaf k.leaf key k.cell value)) p k n w (part_tree key found bit r s right x y pairs p named same)
    (high_put key found value bit r s right x y z q e pairs bound p c l k n w named same) (high_grows n.id bit k.leaf key k.cell value p.tree))
