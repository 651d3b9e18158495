-- The root reaches the objects of the map; and what it reaches beside them is the same where nothing else changes.
use Rattle.std.proofs.Common.{◌≡◌, ◌≢◌, ◌⊎◌, ⊎_elim, inl, inr, ℕ, true, List, [], ◌∷◌, Option, Some, None, refl, sym, ap, ◌∙◌, subst}
use Rattle.std.specs.Prelude.{is_some}
use Rattle.std.proofs.lemmas.Bool.{cases_eq}
use Rattle.plain_model.specs.declared.object.Object.{Object}
use Rattle.plain_model.specs.Graphs.{root, object_at, has_object}
use Rattle.plain_model.specs.Reachable.{Reachable}
use Rattle.plain_model.proofs.ReachableLaws.{Reachable-least}
use Rattle.plain_laws.specs.Sound.{IsSoundGraph}
use Rattle.plain_laws.proofs.Ids.{slot_contained}
use Rattle.store_model.proofs.OnceLaws.{only-one}
use Rattle.plain_map.specs.Pairs.{Pairs}
use Rattle.object_map.specs.Trees.{Tree, id_of}
use Rattle.object_map.specs.Trees.Tree.{leaf, inner}
use Rattle.object_map.specs.Maps.{slot_of, AreObjects, StandsUnder, pairs_in as pairs_of_tree, IsMap}
use Rattle.object_map.specs.Changes.{IsOf, IsOfMap}
use Rattle.object_map.proofs.MapTreeLaws.{MapTree, of_tree, in_tree, of_none}
use Rattle.stored_map.proofs.GraphLaws.{named_there, reach_on, tree_there, root_reached}

-- ---- the objects of a tree

is_first : (t : Tree) → IsOf (id_of t) t
is_first (leaf id key cell value) = inl refl
is_first (inner id bit low high) = inl refl

is_of : (x : ℕ) (t : Tree) → IsOf x t ⊎ (IsOf x t → ⊥)
is_of x (leaf id key cell value) = ⊎_elim
    (λ (e : x ≡ id). inl (inl e))
    (λ (n : x ≢ id). ⊎_elim
    (λ (e : x ≡ cell). inl (inr e))
    (λ (m : x ≢ cell). inr (λ h. ⊎_elim n m h))
    (cases_eq x cell))
    (cases_eq x id)
is_of x (inner id bit low high) = ⊎_elim
    (λ (e : x ≡ id). inl (inl e))
    (λ (n : x ≢ id). ⊎_elim
    (λ (a : IsOf x low). inl (inr (inl a)))
    (λ (m : IsOf x low → ⊥). ⊎_elim
    (λ (b : IsOf x high). inl (inr (inr b)))
    (λ (k : IsOf x high → ⊥). inr (λ h. ⊎_elim n (λ (d : IsOf x low ⊎ IsOf x high). ⊎_elim m k d) h))
    (is_of x high))
    (is_of x low))
    (cases_eq x id)

pub tree_reached : {l : List ℕ} (g : List Object) (t : Tree) → AreObjects (object_at g) t → Reachable g l (id_of t) → (x : ℕ) → IsOf x t → Reachable g l x
tree_reached {l} g (leaf id key cell value) o r x h = ⊎_elim
    (λ (e : x ≡ id). subst (λ y. Reachable g l y) (sym e) r)
    (λ (e : x ≡ cell). subst (λ y. Reachable g l y) (sym e) (reach_on g id 2 cell r o.0.names o.0.named o.1.there))
    h
tree_reached {l} g (inner id bit low high) o r x h = ⊎_elim
    (λ (e : x ≡ id). subst (λ y. Reachable g l y) (sym e) r)
    (λ (d : IsOf x low ⊎ IsOf x high). ⊎_elim
    (λ (a : IsOf x low). tree_reached g low o.1 (reach_on g id 0 (id_of low) r o.0.names_low o.0.low_named (tree_there (object_at g) low o.1)) x a)
    (λ (b : IsOf x high). tree_reached g high o.2 (reach_on g id 1 (id_of high) r o.0.names_high o.0.high_named (tree_there (object_at g) high o.2)) x b)
    d)
    h

-- their slots lead to them
leads_within : (at : ℕ → Option Object) (t : Tree) → AreObjects at t → (x k y : ℕ) → IsOf x t → slot_of (at x) k ≡ y → y ≢ 0 → IsOf y t
leads_within at (leaf id key cell value) o x k y h e n = ⊎_elim
    (λ (f : x ≡ id).
    let s : slot_of (at id) k ≡ y = subst (λ z. slot_of (at z) k ≡ y) f e in
    ⊎_elim
    (λ (q : k ≡ 2). inr (sym (subst (λ j. slot_of (at id) j ≡ y) q s) ∙ o.0.names))
    (λ (q : k ≢ 2). absurd (n (sym s ∙ o.0.null k q)))
    (cases_eq k 2))
    (λ (f : x ≡ cell). absurd (n (sym (subst (λ z. slot_of (at z) k ≡ y) f e) ∙ o.1.null k)))
    h
leads_within at (inner id bit low high) o x k y h e n = ⊎_elim
    (λ (f : x ≡ id).
    let s : slot_of (at id) k ≡ y = subst (λ z. slot_of (at z) k ≡ y) f e in
    ⊎_elim
    (λ (a : k ≡ 0). inr (inl (subst (λ z. IsOf z low) (sym o.0.names_low ∙ subst (λ j. slot_of (at id) j ≡ y) a s) (is_first low))))
    (λ (a : k ≢ 0). ⊎_elim
    (λ (b : k ≡ 1). inr (inr (subst (λ z. IsOf z high) (sym o.0.names_high ∙ subst (λ j. slot_of (at id) j ≡ y) b s) (is_first high))))
    (λ (b : k ≢ 1). absurd (n (sym s ∙ o.0.null k a b)))
    (cases_eq k 1))
    (cases_eq k 0))
    (λ (d : IsOf x low ⊎ IsOf x high). ⊎_elim
    (λ (a : IsOf x low). inr (inl (leads_within at low o.1 x k y a e n)))
    (λ (b : IsOf x high). inr (inr (leads_within at high o.2 x k y b e n)))
    d)
    h

-- ---- the objects of a map

pub map_reached : (g : List Object) → has_object g root ≡ true → (x : ℕ) → IsOfMap 13 (object_at g) x → Reachable g (root ∷ []) x
map_reached g w x m = tree_reached g m.tree m.stands.objects (reach_on g root 13 (id_of m.tree) (root_reached g w) m.under m.named (tree_there (object_at g) m.tree m.stands.objects)) x m.within

pub map_leads : (g : List Object) (x k y : ℕ) → IsOfMap 13 (object_at g) x → slot_of (object_at g x) k ≡ y → y ≢ 0 → IsOfMap 13 (object_at g) y
map_leads g x k y m e n = record { tree = m.tree; named = m.named; under = m.under; stands = m.stands; within = leads_within (object_at g) m.tree m.stands.objects x k y m.within e n }

pub tree_of : (f : ℕ → Option Object) (ps : Pairs) (t : Tree) → StandsUnder f (slot_of (f root) 13) (Some t) → ps ≡ pairs_of_tree (Some t) → MapTree 13 f ps t
tree_of f ps t s e = record { under = sym s.1; named = λ z. s.0 (sym s.1 ∙ z); stands = s.2; same = e }

of_under : (f : ℕ → Option Object) (ps : Pairs) (o : Option Tree) → StandsUnder f (slot_of (f root) 13) o → ps ≡ pairs_of_tree o → (x : ℕ) → IsOfMap 13 f x ⊎ (IsOfMap 13 f x → ⊥)
of_under f ps None s e x = inr (λ h. of_none x s h)
of_under f ps (Some t) s e x =
    let m : MapTree 13 f ps t = tree_of f ps t s e in
    ⊎_elim (λ (a : IsOf x t). inl (in_tree x m a)) (λ (n : IsOf x t → ⊥). inr (λ h. n (of_tree x m h))) (is_of x t)

-- whether an object is one of the map's
pub is_of_map : (g : List Object) (ps : Pairs) → IsMap 13 g ps → (x : ℕ) → IsOfMap 13 (object_at g) x ⊎ (IsOfMap 13 (object_at g) x → ⊥)
is_of_map g ps m x = of_under (object_at g) ps m.tree m.stands m.same x

pub first_under : (f : ℕ → Option Object) (ps : Pairs) (o : Option Tree) → StandsUnder f (slot_of (f root) 13) o → ps ≡ pairs_of_tree o → slot_of (f root) 13 ≢ 0 → IsOfMap 13 f (slot_of (f root) 13)
first_under f ps None s e n = absurd (n s)
first_under f ps (Some t) s e n = subst (λ y. IsOfMap 13 f y) s.1 (in_tree (id_of t) (tree_of f ps t s e) (is_first t))

-- ---- beside the map

-- the objects that are none of the first graph's map are the same in both graphs, but for the root's slot of the map
pub record Alike (a b : List Object) : Type 0 where
  pub same : (y : ℕ) → has_object a y ≡ true → has_object b y ≡ true → y ≢ root → (IsOfMap 13 (object_at a) y → ⊥) → object_at a y ≡ object_at b y
  pub slots : (k : ℕ) → k ≢ 13 → slot_of (object_at a root) k ≡ slot_of (object_at b root) k

pub reached_there : (g : List Object) (x : ℕ) → Reachable g (root ∷ []) x → has_object g x ≡ true
reached_there g x r = Reachable-least g (root ∷ []) (λ y. has_object g y ≡ true) (record { starts = λ y o c e. ap is_some e; steps = λ y z o p h e c n f. ap is_some f }) r

pub leads_on : (g : List Object) → IsSoundGraph g → (x k y : ℕ) → Reachable g (root ∷ []) x → slot_of (object_at g x) k ≡ y → y ≢ 0 → Reachable g (root ∷ []) y
leads_on g w x k y r e n =
    let o = named_there (object_at g x) k y e n in
    reach_on g x k y r e n (w.closed x y k o.0 r o.1 o.2 n)

module _ (a b : List Object) (ps : Pairs) (w : IsSoundGraph b) (m : IsMap 13 a ps) (k : Alike a b) where
  -- what the root reaches in the first graph it reaches in the second one, or it is an object of the first one's map
  abbrev Either : ℕ → Type 0
  Either x = Reachable b (root ∷ []) x ⊎ IsOfMap 13 (object_at a) x

  from_root : (j z : ℕ) → slot_of (object_at a root) j ≡ z → z ≢ 0 → Either z
  from_root j z e n = ⊎_elim
      (λ (t : j ≡ 13).
      let here : slot_of (object_at a root) 13 ≡ z = subst (λ i. slot_of (object_at a root) i ≡ z) t e in
      inr (subst (λ i. IsOfMap 13 (object_at a) i) here (first_under (object_at a) ps m.tree m.stands m.same (λ q. n (sym here ∙ q)))))
      (λ (t : j ≢ 13). inl (leads_on b w root j z (root_reached b w.rooted) (sym (k.slots j t) ∙ e) n))
      (cases_eq j 13)

  from_other : (y j z : ℕ) (o : Object) → object_at a y ≡ Some o → Reachable b (root ∷ []) y → (IsOfMap 13 (object_at a) y → ⊥) → slot_of (object_at a y) j ≡ z → z ≢ 0 → Either z
  from_other y j z o at r d e n = ⊎_elim
      (λ (q : y ≡ root). from_root j z (subst (λ i. slot_of (object_at a i) j ≡ z) q e) n)
      (λ (q : y ≢ root).
      let same = k.same y (ap is_some at) (reached_there b y r) q d in
      inl (leads_on b w y j z r (ap (λ (x : Option Object). slot_of x j) (sym same) ∙ e) n))
      (cases_eq y root)

  one_step : (y z : ℕ) (o : Object) → Either y → object_at a y ≡ Some o → (j : ℕ) → slot_of (object_at a y) j ≡ z → z ≢ 0 → Either z
  one_step y z o h at j e n = ⊎_elim
      (λ (i : IsOfMap 13 (object_at a) y). inr (map_leads a y j z i e n))
      (λ (d : IsOfMap 13 (object_at a) y → ⊥). ⊎_elim
      (λ (r : Reachable b (root ∷ []) y). from_other y j z o at r d e n)
      (λ (i : IsOfMap 13 (object_at a) y). absurd (d i))
      h)
      (is_of_map a ps m y)

  pub reaches_or : (x : ℕ) → Reachable a (root ∷ []) x → Either x
  reaches_or x r = Reachable-least a (root ∷ []) Either (record {
    starts = λ y o c e. inl (subst (λ z. Reachable b (root ∷ []) z) (only-one root y c) (root_reached b w.rooted));
    steps = λ y z o p h e c n f. (let s = slot_contained o.slots z c in one_step y z o h e s.0 (ap (λ (q : Option Object). slot_of q s.0) e ∙ s.1) n);
  }) r
