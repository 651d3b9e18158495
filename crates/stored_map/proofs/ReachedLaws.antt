-- The objects that the root reaches are a graph in which it reaches the same, with the same map.
use Rattle.std.proofs.Common.{◌≡◌, ◌≢◌, ◌<◌, ⊎_elim, ℕ, Bool, true, false, List, [], ◌∷◌, Option, Some, None, refl, sym, ap, ◌∙◌, subst}
use Rattle.std.specs.Prelude.{is_some, cond, filter, Contains}
use Rattle.std.specs.List.{AllByRecursion}
use Rattle.std.proofs.lemmas.Bool.{cases_eq}
use Rattle.plain_model.specs.declared.object.Object.{Object}
use Rattle.plain_model.specs.Graphs.{root, object_at, has_object, IsGraph}
use Rattle.plain_model.specs.Reachable.{Reachable, start, step}
use Rattle.plain_model.specs.History.{SameReachable}
use Rattle.plain_model.proofs.LawProofs.{object_at-here, object_at-next}
use Rattle.plain_model.proofs.ReachableLaws.{Reachable-least}
use Rattle.plain_laws.specs.Sound.{IsSoundGraph}
use Rattle.plain_laws.proofs.Ids.{slot_contained}
use Rattle.plain_laws.proofs.Lookups.{graphs_same}
use Rattle.store_model.proofs.Lists.{Contains-here}
use Rattle.store_model.proofs.OnceLaws.{only-one}
use Rattle.plain_map.specs.Pairs.{Pairs}
use Rattle.map_calls.specs.Maps.{IsOfMap as IsPart}
use Rattle.object_map.specs.Trees.{Tree, id_of}
use Rattle.object_map.specs.Maps.{slot_of, IsMap}
use Rattle.object_map.specs.Changes.{IsOfMap}
use Rattle.object_map.proofs.OthersLaws.{none_of}
use Rattle.stored_map.specs.Graphs.{is_reached, reached_in}
use Rattle.stored_map.proofs.GraphLaws.{root_reached, reach_on, is_there, tree_there, same_tree, map_same}
use Rattle.stored_map.proofs.LeftLaws.{same_back}
use Rattle.stored_map.proofs.MapReachLaws.{tree_reached, map_leads, first_under}
use Rattle.stored_map.proofs.ReachLaws.{reached_is}

-- ---- a part of a graph

-- the objects whose ids pass a test
abbrev part_of : (ℕ → Bool) → List Object → List Object
part_of t g = filter (λ (o : Object). t o.id) g

passes : (t : ℕ → Bool) (g : List Object) (x : ℕ) → t x ≡ true → object_at (part_of t g) x ≡ object_at g x
passes t [] x h = refl
passes t (y ∷ ys) x h = ⊎_elim
    (λ (e : y.id ≡ x). ap (λ b. object_at (cond b (y ∷ part_of t ys) (part_of t ys)) x) (ap t e ∙ h) ∙ (object_at-here y (part_of t ys) x e ∙ sym (object_at-here y ys x e)))
    (λ (n : y.id ≢ x).
    (elim (t y.id) as (λ b. object_at (cond b (y ∷ part_of t ys) (part_of t ys)) x ≡ object_at (part_of t ys) x) [ true ↦ object_at-next y (part_of t ys) x n | false ↦ refl ])
    ∙ (passes t ys x h ∙ sym (object_at-next y ys x n)))
    (cases_eq y.id x)

fails : (t : ℕ → Bool) (g : List Object) (x : ℕ) → t x ≡ false → object_at (part_of t g) x ≡ None
fails t [] x h = refl
fails t (y ∷ ys) x h = ⊎_elim
    (λ (e : y.id ≡ x). ap (λ b. object_at (cond b (y ∷ part_of t ys) (part_of t ys)) x) (ap t e ∙ h) ∙ fails t ys x h)
    (λ (n : y.id ≢ x).
    (elim (t y.id) as (λ b. object_at (cond b (y ∷ part_of t ys) (part_of t ys)) x ≡ object_at (part_of t ys) x) [ true ↦ object_at-next y (part_of t ys) x n | false ↦ refl ])
    ∙ fails t ys x h)
    (cases_eq y.id x)

all_of : (P : Object → Type 0) (t : ℕ → Bool) (g : List Object) → AllByRecursion P g → AllByRecursion P (part_of t g)
all_of P t [] a = tt
all_of P t (y ∷ ys) a = elim (t y.id) as (λ b. AllByRecursion P (cond b (y ∷ part_of t ys) (part_of t ys))) [ true ↦ (a.0, all_of P t ys a.1) | false ↦ all_of P t ys a.1 ]

is_graph : (t : ℕ → Bool) (g : List Object) → IsGraph g → IsGraph (part_of t g)
is_graph t [] w = tt
is_graph t (y ∷ ys) w =
    elim (t y.id) as (λ b. IsGraph (cond b (y ∷ part_of t ys) (part_of t ys))) [ true ↦ (all_of (λ o. y.id < o.id) t ys w.0, is_graph t ys w.1) | false ↦ is_graph t ys w.1 ]

-- ---- what the root reaches

some_there : (o : Option Object) (x : Object) → o ≡ Some x → is_some o ≡ true
some_there o x e = ap is_some e

no_some : (x : Object) → None ≡ Some x → ⊥
no_some x e = absurd (cc (e))

-- no id that the root reaches is 0
pub reached_named : (g : List Object) (x : ℕ) → Reachable g (root ∷ []) x → x ≢ 0
reached_named g x r = Reachable-least g (root ∷ []) (λ y. y ≢ 0) (record { starts = λ y o c e z. (let f : root ≡ 0 = only-one root y c ∙ z in absurd (cc (f))); steps = λ y z o p h e c n f. n }) r

module _ (g : List Object) (w : IsSoundGraph g) where
  pub reached_object : (x : ℕ) → Reachable g (root ∷ []) x → object_at (reached_in g) x ≡ object_at g x
  unfolding reached_in
  reached_object x r = passes (is_reached g) g x ((reached_is g w x).1 r)

  unreached : (x : ℕ) → is_reached g x ≡ false → object_at (reached_in g) x ≡ None
  unfolding reached_in
  unreached x h = fails (is_reached g) g x h

  pub reached_some : (x : ℕ) (o : Object) → object_at (reached_in g) x ≡ Some o → Reachable g (root ∷ []) x
  reached_some x o e = by (is_reached g x) refl
    where
      by : (b : Bool) → is_reached g x ≡ b → Reachable g (root ∷ []) x
      by true h = (reached_is g w x).0 h
      by false h = absurd (no_some o (sym (unreached x h) ∙ e))

  pub reached_has : (x : ℕ) → has_object (reached_in g) x ≡ true → Reachable g (root ∷ []) x
  reached_has x h = let o = is_there (object_at (reached_in g) x) h in reached_some x o.0 o.1

  pub none_reached : (x : ℕ) → (Reachable g (root ∷ []) x → ⊥) → object_at (reached_in g) x ≡ None
  none_reached x n = by (is_reached g x) refl
    where
      by : (b : Bool) → is_reached g x ≡ b → object_at (reached_in g) x ≡ None
      by true h = absurd (n ((reached_is g w x).0 h))
      by false h = unreached x h

  pub reached_graph : IsGraph (reached_in g)
  unfolding reached_in
  reached_graph = is_graph (is_reached g) g w.graph

  to_part : (x : ℕ) → Reachable g (root ∷ []) x → Reachable g (root ∷ []) x × Reachable (reached_in g) (root ∷ []) x
  to_part x r = Reachable-least g (root ∷ []) (λ y. Reachable g (root ∷ []) y × Reachable (reached_in g) (root ∷ []) y) (record {
    starts = λ y o c e. (let h : Reachable g (root ∷ []) y = start y o c e in (h, start y o c (reached_object y h ∙ e)));
    steps = λ y z o p h e c n f. (let q : Reachable g (root ∷ []) z = step y z o p h.0 e c n f in (q, step y z o p h.1 (reached_object y h.0 ∙ e) c n (reached_object z q ∙ f)));
  }) r

  of_part : (x : ℕ) → Reachable (reached_in g) (root ∷ []) x → Reachable g (root ∷ []) x
  of_part x r = Reachable-least (reached_in g) (root ∷ []) (λ y. Reachable g (root ∷ []) y) (record { starts = λ y o c e. reached_some y o e; steps = λ y z o p h e c n f. reached_some z p f }) r

  -- the root reaches the same there
  pub reached_same : SameReachable (reached_in g) g
  reached_same = record { same = λ x. (of_part x, λ r. (to_part x r).1); contents = reached_object }

-- two graphs in which the root reaches the same have the same objects that it reaches
pub same_reached : (g h : List Object) → IsSoundGraph g → IsSoundGraph h → SameReachable h g → reached_in h ≡ reached_in g
same_reached g h w v s = graphs_same (reached_in h) (reached_in g) (reached_graph h v) (reached_graph g w) (λ x. by x (is_reached g x) refl)
  where
    by : (x : ℕ) (b : Bool) → is_reached g x ≡ b → object_at (reached_in h) x ≡ object_at (reached_in g) x
    by x true e = let r = (reached_is g w x).0 e in reached_object h v x ((s.same x).1 r) ∙ (s.contents x r ∙ sym (reached_object g w x r))
    by x false e =
        let n : Reachable g (root ∷ []) x → ⊥ = λ r. (let f = (reached_is g w x).1 r in absurd (cc (e, f))) in
        none_reached h v x (λ r. n ((s.same x).0 r)) ∙ sym (none_reached g w x n)

-- ---- the objects of the map

-- the root isn't one of them
pub root_apart : (g : List Object) (ps : Pairs) → IsMap 13 g ps → IsOfMap 13 (object_at g) root → ⊥
root_apart g ps m i = none_of (object_at g) root i.tree i.stands.objects (λ z. i.named (sym i.under ∙ z)) i.within

of_same : (g h : List Object) (x : ℕ) → has_object g root ≡ true → SameReachable h g → IsOfMap 13 (object_at g) x → IsOfMap 13 (object_at h) x
of_same g h x w s m =
    let r : Reachable g (root ∷ []) (id_of m.tree) = reach_on g root 13 (id_of m.tree) (root_reached g w) m.under m.named (tree_there (object_at g) m.tree m.stands.objects) in
    record {
      tree = m.tree;
      named = m.named;
      under = ap (λ (o : Option Object). slot_of o 13) (s.contents root (root_reached g w)) ∙ m.under;
      stands = record { objects = same_tree g h m.tree s r m.stands.objects; critical = m.stands.critical; own_cells = m.stands.own_cells };
      within = m.within;
    }

-- what the root's slot leads to are the objects of the map
part_is : (g : List Object) (ps : Pairs) → IsMap 13 g ps → (object_at g 0 ≡ None) → (x : ℕ) → IsPart g x → IsOfMap 13 (object_at g) x
part_is g ps m none x r =
    let top = slot_of (object_at g root) 13 in
    Reachable-least g (top ∷ []) (λ y. IsOfMap 13 (object_at g) y) (record {
      starts = λ y o c e. (
          let is : top ≡ y = only-one top y c in
          subst (λ i. IsOfMap 13 (object_at g) i) is (first_under (object_at g) ps m.tree m.stands m.same (λ z. no_some o (sym none ∙ subst (λ i. object_at g i ≡ Some o) (sym is ∙ z) e))));
      steps = λ y z o p h e c n f. (let s = slot_contained o.slots z c in map_leads g y s.0 z h (ap (λ (q : Option Object). slot_of q s.0) e ∙ s.1) n);
    }) r

is_part : (g : List Object) (x : ℕ) → IsOfMap 13 (object_at g) x → IsPart g x
is_part g x m =
    let o = is_there (object_at g (id_of m.tree)) (tree_there (object_at g) m.tree m.stands.objects) in
    tree_reached g m.tree m.stands.objects (start (id_of m.tree) o.0 (subst (λ i. Contains (i ∷ []) (id_of m.tree)) (sym m.under) (Contains-here (id_of m.tree) [])) o.1) x m.within

module _ (g : List Object) (ps : Pairs) (w : IsSoundGraph g) (m : IsMap 13 g ps) where
  -- no object that is reached has id 0
  none_zero : object_at (reached_in g) 0 ≡ None
  none_zero = none_reached g w 0 (λ r. reached_named g 0 r refl)

  pub of_part_map : (x : ℕ) → IsPart (reached_in g) x → IsOfMap 13 (object_at g) x
  of_part_map x p =
      let there : has_object (reached_in g) root ≡ true = ap is_some (reached_object g w root (root_reached g w.rooted)) ∙ w.rooted in
      of_same (reached_in g) g x there (same_back (reached_in g) g (reached_same g w)) (part_is (reached_in g) ps (map_same g (reached_in g) ps w (reached_same g w) m) none_zero x p)

  pub to_part_map : (x : ℕ) → IsOfMap 13 (object_at g) x → IsPart (reached_in g) x
  to_part_map x i = is_part (reached_in g) x (of_same g (reached_in g) x w.rooted (reached_same g w) i)
