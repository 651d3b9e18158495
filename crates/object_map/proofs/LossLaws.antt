-- The objects that a removal takes out of the map.
use Rattle.std.proofs.Common.{◌≡◌, ◌≢◌, ℕ, List, [], ◌∷◌, Option, Some, None, sym, ap, ◌∙◌, subst, eqb, ⊎_elim, ◌⊎◌, inl, inr, length}
use Rattle.std.specs.Prelude.{Contains}
use Rattle.std.specs.List.{IsDistinct}
use Rattle.std.specs.Option.{option_map_or}
use Rattle.plain_model.specs.declared.object.Object.{Object}
use Rattle.plain_model.specs.Graphs.{object_at}
use Rattle.plain_map.specs.Pairs.{value_of, without_key}
use Rattle.plain_map.proofs.ChangeLaws.{value-without_proof}
use Rattle.object_map.specs.Trees.{Tree, id_of, IsCritBit, HaveOwnCells}
use Rattle.object_map.specs.Trees.Tree.{leaf, inner}
use Rattle.object_map.specs.Maps.{AreObjects, IsLeaf, IsCell, IsInner}
use Rattle.object_map.specs.Seen.{Seen, at}
use Rattle.object_map.specs.Ways.{Turn, whole}
use Rattle.object_map.specs.Changes.{IsOf, IsOfMap, Loses, ids_needed, ids_held}
use Rattle.object_map.proofs.OneLaws.{leaf_or_cell, leaf_or_inner, inner_or_cell}
use Rattle.object_map.proofs.WayLaws.{objects_within, critical_within}
use Rattle.object_map.proofs.CellLaws.{own_within}
use Rattle.object_map.proofs.CountLaws.{some_pairs, needs_three}
use Rattle.object_map.proofs.MapTreeLaws.{MapTree, of_tree, in_tree, of_none}
use Rattle.object_map.proofs.RemoveLaws.{Emptied, emptied_pairs, Unhung}
use Rattle.object_map.proofs.RemoveLaws.Unhung.{low_gone, high_gone}
use Rattle.object_map.proofs.OthersLaws.{of_whole}
use Rattle.object_map.proofs.ApartLaws.{sides_apart, top_apart, whole_lost, whole_or, whole_of}
use Rattle.object_map.proofs.GainLaws.{Grows, low_grows, high_grows}
use Rattle.object_map.proofs.IdListLaws.{in_none, in_two, in_three, front_in, distinct_none, distinct_two, distinct_three}

-- ---- how many ids

pub holds_none : (key : ℕ) (pairs : List (ℕ × ℕ)) → value_of key pairs ≡ None → 0 ≡ ids_held key pairs
holds_none key pairs e = ap (λ o. option_map_or (λ _. ids_needed key (without_key key pairs)) o 0) (sym e)

-- so many as a put of the key needs when it is gone
holds : (key value : ℕ) (pairs : List (ℕ × ℕ)) → Some value ≡ value_of key pairs → ids_needed key (without_key key pairs) ≡ ids_held key pairs
holds key value pairs e = ap (λ o. option_map_or (λ _. ids_needed key (without_key key pairs)) o 0) e

holds_two : (key value : ℕ) (pairs : List (ℕ × ℕ)) → Some value ≡ value_of key pairs → without_key key pairs ≡ [] → 2 ≡ ids_held key pairs
holds_two key value pairs e n = ap (ids_needed key) (sym n) ∙ holds key value pairs e

holds_three : (key value : ℕ) (pairs : List (ℕ × ℕ)) → Some value ≡ value_of key pairs → without_key key pairs ≢ [] → 3 ≡ ids_held key pairs
holds_three key value pairs e n = sym (needs_three key (without_key key pairs) (value-without_proof key pairs) n) ∙ holds key value pairs e

-- ---- which ids

pub loses_same : (old new : Seen) → new.graph ≡ old.graph → Loses 13 [] old new
loses_same old new e = record {
  apart = distinct_none;
  kept = λ x h. subst (λ g. IsOfMap 13 (object_at g) x) e h;
  lost = λ x h. absurd (in_none x h);
  only = λ x h. inl (subst (λ g. IsOfMap 13 (object_at g) x) (sym e) h);
}

-- the graph before is all that counts
loses_from : (old now new : Seen) (ids : List ℕ) → now.graph ≡ old.graph → Loses 13 ids now new → Loses 13 ids old new
loses_from old now new ids e h = record {
  apart = h.apart;
  kept = λ x w. subst (λ g. IsOfMap 13 (object_at g) x) e (h.kept x w);
  lost = λ x c. (subst (λ g. IsOfMap 13 (object_at g) x) e (h.lost x c).0, (h.lost x c).1);
  only = λ x w. h.only x (subst (λ g. IsOfMap 13 (object_at g) x) (sym e) w);
}

-- the only leaf went
pub emptied_loses : (key value : ℕ) (v w z : Seen) (pairs : List (ℕ × ℕ)) → w.graph ≡ v.graph → Some value ≡ value_of key pairs → Emptied key (at w) (at z) pairs → (ids : List ℕ) × ((length ids ≡ ids_held key pairs) × Loses 13 ids v z)
emptied_loses key value v w z pairs e has h =
    let objects : IsLeaf (at w h.id) key h.cell × IsCell (at w h.cell) h.value = h.before.stands.objects in
    let loses : Loses 13 (h.id ∷ h.cell ∷ []) w z = record {
      apart = distinct_two h.id h.cell (λ q. leaf_or_cell (at w h.id) key h.cell h.value objects.0 (subst (λ i. IsCell (at w i) h.value) (sym q) objects.1));
      kept = λ x y. absurd (of_none x h.after y);
      lost = λ x y. (in_tree x h.before (in_two h.id h.cell x y), (λ u. of_none x h.after u));
      only = λ x y. inr (front_in h.id h.cell x [] (of_tree x h.before y));
    } in
    (h.id ∷ h.cell ∷ [], (holds_two key value pairs has (emptied_pairs h), loses_from v w z (h.id ∷ h.cell ∷ []) e loses))

-- a tree with fewer objects takes the place of another one
loses : (old new : Seen) (ids : List ℕ) (ps qs : List (ℕ × ℕ)) (turns : List Turn) (t u : Tree) → MapTree 13 (at old) ps (whole turns t) → MapTree 13 (at new) qs (whole turns u) → Grows ids u t → ((x : ℕ) → Contains ids x → IsOf x u → ⊥) → IsDistinct eqb ids → Loses 13 ids old new
loses old new ids ps qs turns t u m n g gone d = record {
  apart = d;
  kept = λ x h. in_tree x m (whole_of x turns u t (g.kept x) (of_tree x n h));
  lost = λ x h. (in_tree x m (of_whole x turns t (g.gained x h)), (λ w. whole_lost (at old) x turns t u m.stands.objects m.stands.critical m.stands.own_cells (g.gained x h) (gone x h) (of_tree x n w)));
  only = λ x h. ⊎_elim (λ (y : IsOf x (whole turns u)). inl (in_tree x n y)) (λ (z : Contains ids x). inr z) (whole_or (Contains ids x) x turns t u (g.only x) (of_tree x m h));
}

-- the leaf, its cell and the inner object over it are three objects
three_apart : (f : ℕ → Option Object) (p b i key c v l h : ℕ) → IsInner (f p) b l h → IsLeaf (f i) key c → IsCell (f c) v → IsDistinct eqb (i ∷ c ∷ p ∷ [])
three_apart f p b i key c v l h x y z = distinct_three i c p
    (λ e. leaf_or_cell (f i) key c v y (subst (λ j. IsCell (f j) v) (sym e) z))
    (λ e. leaf_or_inner (f i) key c b l h y (subst (λ j. IsInner (f j) b l h) (sym e) x))
    (λ e. inner_or_cell (f p) b l h v x (subst (λ j. IsCell (f j) v) e z))

low_lost : (f : ℕ → Option Object) (p b i key c v : ℕ) (o : Tree) → AreObjects f (inner p b (leaf i key c v) o) → IsCritBit (inner p b (leaf i key c v) o) → HaveOwnCells (inner p b (leaf i key c v) o) → (x : ℕ) → Contains (i ∷ c ∷ p ∷ []) x → IsOf x o → ⊥
low_lost f p b i key c v o a r w x h y = ⊎_elim
    (λ (e : x ≡ i). sides_apart f x p b (leaf i key c v) o a r w (inl e) y)
    (λ (d : (x ≡ c) ⊎ (x ≡ p)). ⊎_elim (λ (e : x ≡ c). sides_apart f x p b (leaf i key c v) o a r w (inr e) y) (λ (e : x ≡ p). top_apart f x p b (leaf i key c v) o a r (inr y) e) d)
    (in_three i c p x h)

high_lost : (f : ℕ → Option Object) (p b i key c v : ℕ) (o : Tree) → AreObjects f (inner p b o (leaf i key c v)) → IsCritBit (inner p b o (leaf i key c v)) → HaveOwnCells (inner p b o (leaf i key c v)) → (x : ℕ) → Contains (i ∷ c ∷ p ∷ []) x → IsOf x o → ⊥
high_lost f p b i key c v o a r w x h y = ⊎_elim
    (λ (e : x ≡ i). sides_apart f x p b o (leaf i key c v) a r w y (inl e))
    (λ (d : (x ≡ c) ⊎ (x ≡ p)). ⊎_elim (λ (e : x ≡ c). sides_apart f x p b o (leaf i key c v) a r w y (inr e)) (λ (e : x ≡ p). top_apart f x p b o (leaf i key c v) a r (inl y) e) d)
    (in_three i c p x h)

-- a leaf went with the inner object over it
pub unhung_loses : (key value : ℕ) (v q e : Seen) (pairs : List (ℕ × ℕ)) → q.graph ≡ v.graph → Some value ≡ value_of key pairs → Unhung key (at q) (at e) pairs → (ids : List ℕ) × ((length ids ≡ ids_held key pairs) × Loses 13 ids v e)
unhung_loses key value v q e pairs g has (low_gone turns p b i c w o m n) =
    let t : Tree = inner p b (leaf i key c w) o in
    let objects : AreObjects (at q) t = objects_within (at q) turns t m.stands.objects in
    let some : without_key key pairs ≢ [] = λ z. some_pairs (whole turns o) (sym n.same ∙ z) in
    let gone : (x : ℕ) → Contains (i ∷ c ∷ p ∷ []) x → IsOf x o → ⊥ = low_lost (at q) p b i key c w o objects (critical_within turns t m.stands.critical) (own_within turns t m.stands.own_cells) in
    (i ∷ c ∷ p ∷ [], (holds_three key value pairs has some, loses_from v q e (i ∷ c ∷ p ∷ []) g (loses q e (i ∷ c ∷ p ∷ []) pairs (without_key key pairs) turns t o m n (low_grows p b i key c w o) gone (three_apart (at q) p b i key c w i (id_of o) objects.0 objects.1.0 objects.1.1))))
unhung_loses key value v q e pairs g has (high_gone turns p b i c w o m n) =
    let t : Tree = inner p b o (leaf i key c w) in
    let objects : AreObjects (at q) t = objects_within (at q) turns t m.stands.objects in
    let some : without_key key pairs ≢ [] = λ z. some_pairs (whole turns o) (sym n.same ∙ z) in
    let gone : (x : ℕ) → Contains (i ∷ c ∷ p ∷ []) x → IsOf x o → ⊥ = high_lost (at q) p b i key c w o objects (critical_within turns t m.stands.critical) (own_within turns t m.stands.own_cells) in
    (i ∷ c ∷ p ∷ [], (holds_three key value pairs has some, loses_from v q e (i ∷ c ∷ p ∷ []) g (loses q e (i ∷ c ∷ p ∷ []) pairs (without_key key pairs) turns t o m n (high_grows p b i key c w o) gone (three_apart (at q) p b i key c w (id_of o) i objects.0 objects.2.0 objects.2.1))))
