-- A tree that stands has no object that breaks its sentence, and what follows for the objects above and beside it.
use Rattle.std.proofs.Common.{◌≡◌, ◌≢◌, ℕ, ◌<◌, List, [], ◌∷◌, Option, refl, sym, ap, ◌∙◌, subst, arith, ⊎_elim, ◌⊎◌, inl, inr, Bool, true, false}
use Rattle.std.specs.Prelude.{◌||◌, ◌==◌}
use Rattle.std.specs.Int.{bit_at}
use Rattle.std.proofs.lemmas.Bool.{cases_eq, or_cases}
use Rattle.std.proofs.lemmas.Bool.Decides.{nat_tests}
use Rattle.plain_model.specs.declared.object.Object.{Object}
use Rattle.plain_model.specs.Graphs.{root}
use Rattle.plain_model.specs.Machine.{is_stored}
use Rattle.object_map.specs.Trees.{Tree, id_of, IsBelow, IsCritBit, Parts, AllCells, HaveOwnCells, above}
use Rattle.object_map.specs.Trees.Tree.{leaf, inner}
use Rattle.object_map.specs.Maps.{AreObjects, IsTree, IsLeaf, IsInner, slot_of, payload_of}
use Rattle.object_map.specs.Ways.{HasKey}
use Rattle.object_map.specs.Walking.{has_cell, Grown}
use Rattle.object_map.specs.Broken.{Goes, Names, CanTell, IsNamedBefore, HasWrongKey, BreaksLeaf, Breaks, IsFirst, IsFirstBroken, IsMet}
use Rattle.object_map.specs.Broken.HasWrongKey.{digit, prefix}
use Rattle.object_map.specs.Broken.BreaksLeaf.{leaf_points, leaf_shares}
use Rattle.object_map.specs.Broken.Breaks.{leaf_breaks, inner_breaks, value_breaks}
use Rattle.object_map.proofs.CellLaws.{cells_map, other_cells_sym}
use Rattle.object_map.proofs.ReplaceLaws.{has_key}
use Rattle.object_map.proofs.GrowLaws.{DoPart, apart_cell, both_cells}
use Rattle.object_map.proofs.BrokenLaws.{two_sides, none_before, UnderSmaller, NamedUnder, breaks_map, first_map, down, inner_holds, side_first}

-- ---- leaves of a tree, and the ways to them

-- the tree has a leaf with this key and this cell
abbrev HasLeaf : ℕ → ℕ → Tree → Type 0
HasLeaf k c (leaf i j d v) = (j ≡ k) × (d ≡ c)
HasLeaf k c (inner i b l r) = HasLeaf k c l ⊎ HasLeaf k c r

or_left : (a b : Bool) → a ≡ true → (a || b) ≡ true
or_left true b e = refl
or_left false b e = absurd (cc)

or_right : (a b : Bool) → b ≡ true → (a || b) ≡ true
or_right true b e = refl
or_right false b e = e

contrary : (x : Bool) → x ≡ true → x ≡ false → ⊥
contrary true p q = absurd (cc)
contrary false p q = absurd (cc)

test_true : (a b : ℕ) → a ≡ b → (a == b) ≡ true
test_true a b e = grind (arith, nat_tests)

true_test : (a b : ℕ) → (a == b) ≡ true → a ≡ b
true_test a b e = grind (arith, nat_tests)

leaf_key : (k c : ℕ) (t : Tree) → HasLeaf k c t → HasKey k t
leaf_key k c (leaf i j d v) h = h.0
leaf_key k c (inner i b l r) h = ⊎_elim (λ (p : HasLeaf k c l). inl (leaf_key k c l p)) (λ (q : HasLeaf k c r). inr (leaf_key k c r q)) h

leaf_cell : (k c : ℕ) (t : Tree) → HasLeaf k c t → has_cell c t ≡ true
leaf_cell k c (leaf i j d v) h = test_true c d (sym h.1)
leaf_cell k c (inner i b l r) h = ⊎_elim (λ (p : HasLeaf k c l). or_left (has_cell c l) (has_cell c r) (leaf_cell k c l p)) (λ (q : HasLeaf k c r). or_right (has_cell c l) (has_cell c r) (leaf_cell k c r q)) h

key_leaf : (k : ℕ) (t : Tree) → HasKey k t → (c : ℕ) × HasLeaf k c t
key_leaf k (leaf i j d v) h = (d, (h, refl))
key_leaf k (inner i b l r) h = ⊎_elim (λ (p : HasKey k l). (let x = key_leaf k l p in (x.0, inl x.1))) (λ (q : HasKey k r). (let x = key_leaf k r q in (x.0, inr x.1))) h

cell_leaf : (c : ℕ) (t : Tree) → has_cell c t ≡ true → (k : ℕ) × HasLeaf k c t
cell_leaf c (leaf i j d v) h = (j, (refl, sym (true_test c d h)))
cell_leaf c (inner i b l r) h = ⊎_elim
    (λ (p : has_cell c l ≡ true). (let x = cell_leaf c l p in (x.0, inl x.1)))
    (λ (q : has_cell c r ≡ true). (let x = cell_leaf c r q in (x.0, inr x.1)))
    (or_cases (has_cell c l) (has_cell c r) h)

-- a way ends at a leaf of the tree
goes_leaf : (f : ℕ → Option Object) (t : Tree) (bit : ℕ) (way : List ℕ) (last id : ℕ) → AreObjects f t → Goes f bit (id_of t) way last id → slot_of (f id) 2 ≢ 0 → HasLeaf (payload_of (f id)) (slot_of (f id) 2) t
goes_leaf f (leaf i k c v) bit [] last id o g s = (sym o.0.key_is ∙ ap (λ y. payload_of (f y)) g.1, sym o.0.names ∙ ap (λ y. slot_of (f y) 2) g.1)
goes_leaf f (leaf i k c v) bit (side ∷ way) last id o g s = absurd (o.0.named (sym o.0.names ∙ g.1))
goes_leaf f (inner i b l r) bit [] last id o g s = absurd (s (ap (λ y. slot_of (f y) 2) (sym g.1) ∙ o.0.null 2 (λ z. absurd (omega (arith, z))) (λ z. absurd (omega (arith, z)))))
goes_leaf f (inner i b l r) bit (side ∷ way) last id o g s = ⊎_elim
    (λ (e : side ≡ 0). inl (goes_leaf f l (payload_of (f i)) way last id o.1 (subst (λ y. Goes f (payload_of (f i)) y way last id) (ap (λ n. slot_of (f i) n) e ∙ o.0.names_low) g.4) s))
    (λ (e : side ≡ 1). inr (goes_leaf f r (payload_of (f i)) way last id o.2 (subst (λ y. Goes f (payload_of (f i)) y way last id) (ap (λ n. slot_of (f i) n) e ∙ o.0.names_high) g.4) s))
    (two_sides side g.3)

-- a way to a leaf with this key and this cell
record LeafWay (f : ℕ → Option Object) (bit x k c : ℕ) : Type 0 where
  way : List ℕ
  last : ℕ
  id : ℕ
  goes : Goes f bit x way last id
  has : payload_of (f id) ≡ k
  names : slot_of (f id) 2 ≡ c
  named : c ≢ 0

leaf_under : (f : ℕ → Option Object) (bit x side k c : ℕ) → x ≢ 0 → slot_of (f x) 2 ≡ 0 → payload_of (f x) < bit → side < 2 → LeafWay f (payload_of (f x)) (slot_of (f x) side) k c → LeafWay f bit x k c
leaf_under f bit x side k c n z l w h = record { way = side ∷ h.way; last = h.last; id = h.id; goes = (n, z, l, w, h.goes); has = h.has; names = h.names; named = h.named }

leaf_goes : (f : ℕ → Option Object) (t : Tree) (bit k c : ℕ) → AreObjects f t → IsCritBit t → IsBelow bit t → id_of t ≢ 0 → HasLeaf k c t → LeafWay f bit (id_of t) k c
leaf_goes f (leaf i j d v) bit k c o a b n h = record { way = []; last = bit; id = i; goes = (n, refl, refl); has = o.0.key_is ∙ h.0; names = o.0.names ∙ h.1; named = λ z. o.0.named (h.1 ∙ z) }
leaf_goes f (inner i m l r) bit k c o a b n h =
    let z : slot_of (f i) 2 ≡ 0 = o.0.null 2 (λ z. absurd (omega (arith, z))) (λ z. absurd (omega (arith, z))) in
    let less : payload_of (f i) < bit = subst (λ y. y < bit) (sym o.0.bit_is) b in
    ⊎_elim
    (λ (p : HasLeaf k c l). leaf_under f bit i 0 k c n z less (omega arith)
    (subst (λ y. LeafWay f (payload_of (f i)) y k c) (sym o.0.names_low) (leaf_goes f l (payload_of (f i)) k c o.1 a.1 (subst (λ y. IsBelow y l) (sym o.0.bit_is) a.0.low_below) o.0.low_named p)))
    (λ (q : HasLeaf k c r). leaf_under f bit i 1 k c n z less (omega arith)
    (subst (λ y. LeafWay f (payload_of (f i)) y k c) (sym o.0.names_high) (leaf_goes f r (payload_of (f i)) k c o.2 a.2 (subst (λ y. IsBelow y r) (sym o.0.bit_is) a.0.high_below) o.0.high_named q)))
    h

-- what can be told of a tree are its keys, and what is named are its cells
tells_has : (f : ℕ → Option Object) (t : Tree) (bit key : ℕ) → AreObjects f t → CanTell f bit (id_of t) key → HasKey key t
tells_has f t bit key o n = subst (λ k. HasKey k t) n.has (leaf_key (payload_of (f n.id)) (slot_of (f n.id) 2) t (goes_leaf f t bit n.way n.last n.id o n.goes n.is_leaf))

has_tells : (f : ℕ → Option Object) (t : Tree) (bit key : ℕ) → IsTree f t → IsBelow bit t → id_of t ≢ 0 → HasKey key t → CanTell f bit (id_of t) key
has_tells f t bit key s b n h =
    let x = key_leaf key t h in
    let w : LeafWay f bit (id_of t) key x.0 = leaf_goes f t bit key x.0 s.objects s.critical b n x.1 in
    record { way = w.way; last = w.last; id = w.id; goes = w.goes; is_leaf = λ z. w.named (sym w.names ∙ z); has = w.has }

names_has : (f : ℕ → Option Object) (t : Tree) (bit : ℕ) (way : List ℕ) (c : ℕ) → AreObjects f t → Names f bit (id_of t) way c → has_cell c t ≡ true
names_has f t bit way c o n = subst (λ d. has_cell d t ≡ true) n.names (leaf_cell (payload_of (f n.id)) (slot_of (f n.id) 2) t (goes_leaf f t bit way n.last n.id o n.goes (λ z. n.named (sym n.names ∙ z))))

has_names : (f : ℕ → Option Object) (t : Tree) (bit c : ℕ) → IsTree f t → IsBelow bit t → id_of t ≢ 0 → has_cell c t ≡ true → (way : List ℕ) × Names f bit (id_of t) way c
has_names f t bit c s b n h =
    let x = cell_leaf c t h in
    let w : LeafWay f bit (id_of t) x.0 c = leaf_goes f t bit x.0 c s.objects s.critical b n x.1 in
    (w.way, record { last = w.last; id = w.id; goes = w.goes; names = w.names; named = w.named })

-- ---- keys of an inner object's trees

-- those that can be told under its slots
side_tells : (f : ℕ → Option Object) (x b : ℕ) (l r : Tree) (side key : ℕ) → IsInner (f x) b (id_of l) (id_of r) → AreObjects f l → AreObjects f r → side < 2 → CanTell f (payload_of (f x)) (slot_of (f x) side) key → ((side ≡ 0) × HasKey key l) ⊎ ((side ≡ 1) × HasKey key r)
side_tells f x b l r side key i o p w n = ⊎_elim
    (λ (e : side ≡ 0). inl (e, tells_has f l (payload_of (f x)) key o (subst (λ y. CanTell f (payload_of (f x)) y key) (ap (λ s. slot_of (f x) s) e ∙ i.names_low) n)))
    (λ (e : side ≡ 1). inr (e, tells_has f r (payload_of (f x)) key p (subst (λ y. CanTell f (payload_of (f x)) y key) (ap (λ s. slot_of (f x) s) e ∙ i.names_high) n)))
    (two_sides side w)

-- a key of trees that part at the bit has the side's digit, and the common bits above
side_key : (b : ℕ) (l r : Tree) (side key : ℕ) (p : Parts b l r) → ((side ≡ 0) × HasKey key l) ⊎ ((side ≡ 1) × HasKey key r) → (bit_at key b ≡ side) × (above b key ≡ p.prefix)
side_key b l r side key p h = ⊎_elim
    (λ (q : (side ≡ 0) × HasKey key l). (let x = has_key (λ k. (bit_at k b ≡ 0) × (above b k ≡ p.prefix)) key l p.low_keys q.1 in (x.0 ∙ sym q.0, x.1)))
    (λ (q : (side ≡ 1) × HasKey key r). (let x = has_key (λ k. (bit_at k b ≡ 1) × (above b k ≡ p.prefix)) key r p.high_keys q.1 in (x.0 ∙ sym q.0, x.1)))
    h

-- so no key is on a wrong side
none_wrong : (f : ℕ → Option Object) (x b : ℕ) (l r : Tree) → IsInner (f x) b (id_of l) (id_of r) → AreObjects f l → AreObjects f r → Parts b l r → HasWrongKey f x → ⊥
none_wrong f x b l r i o q p (digit side key w n d) = d (ap (λ m. bit_at key m) i.bit_is ∙ (side_key b l r side key p (side_tells f x b l r side key i o q w n)).0)
none_wrong f x b l r i o q p (prefix side key other more w n v m d) =
    d (ap (λ j. above j key) i.bit_is ∙ (side_key b l r side key p (side_tells f x b l r side key i o q w n)).1 ∙ sym (side_key b l r other more p (side_tells f x b l r other more i o q v m)).1 ∙ ap (λ j. above j more) (sym i.bit_is))

-- ---- a tree that stands

tree_below : (bit : ℕ) (f : ℕ → Option Object) (x b : ℕ) (low high : ℕ) → IsInner (f x) b low high → b < bit → payload_of (f x) < bit
tree_below bit f x b low high i l = subst (λ y. y < bit) (sym i.bit_is) l

-- none of its objects breaks its sentence, where none of its cells was named before
pub tree_holds : (f : ℕ → Option Object) (t : Tree) (N : ℕ → Type 0) (bit : ℕ) → AreObjects f t → IsCritBit t → HaveOwnCells t → IsBelow bit t → AllCells (λ c. N c → ⊥) t → (place : List ℕ) (y : ℕ) → Breaks f N bit (id_of t) place y → ⊥
tree_holds f (leaf i k c v) N bit o a own b n place y (leaf_breaks last g s w) = by place g w
  where
    keeps : BreaksLeaf f (λ d. N d ⊎ IsNamedBefore f bit i [] d) i → ⊥
    keeps (leaf_points j m s) = s (o.0.null j m)
    keeps (leaf_shares h) = ⊎_elim (λ (p : N (slot_of (f i) 2)). n (subst N o.0.names p)) (λ (q : IsNamedBefore f bit i [] (slot_of (f i) 2)). none_before q.0 q.1.0) h

    by : (place : List ℕ) → Goes f bit i place last y → BreaksLeaf f (λ d. N d ⊎ IsNamedBefore f bit i place d) y → ⊥
    by [] g w = keeps (subst (λ z. BreaksLeaf f (λ d. N d ⊎ IsNamedBefore f bit i [] d) z) (sym g.1) w)
    by (side ∷ place) g w = o.0.named (sym o.0.names ∙ g.1)
tree_holds f (leaf i k c v) N bit o a own b n place y (inner_breaks last g z w) = by place g
  where
    by : (place : List ℕ) → Goes f bit i place last y → ⊥
    by [] g = o.0.named (sym o.0.names ∙ ap (λ x. slot_of (f x) 2) g.1 ∙ z)
    by (side ∷ place) g = o.0.named (sym o.0.names ∙ g.1)
tree_holds f (leaf i k c v) N bit o a own b n place y (value_breaks way last holder j g m q s e) = by way g
  where
    by : (way : List ℕ) → Goes f bit i way last holder → ⊥
    by [] g = s (ap (λ x. slot_of (f x) j) (sym m ∙ ap (λ x. slot_of (f x) 2) (sym g.1) ∙ o.0.names) ∙ o.1.null j)
    by (side ∷ way) g = o.0.named (sym o.0.names ∙ g.1)
tree_holds f (inner i b l r) N bit o a own less n [] y w = inner_holds f N bit i b (id_of l) (id_of r) o.0 less (none_wrong f i b l r o.0 o.1 o.2 a.0) y w
tree_holds f (inner i b l r) N bit o a own less n (side ∷ place) y w =
    let z : slot_of (f i) 2 ≡ 0 = o.0.null 2 (λ z. absurd (omega (arith, z))) (λ z. absurd (omega (arith, z))) in
    let v = down f N bit i side place y z w in
    ⊎_elim
    (λ (e : side ≡ 0). tree_holds f l (NamedUnder f N i side) (payload_of (f i)) o.1 a.1 own.1 (subst (λ m. IsBelow m l) (sym o.0.bit_is) a.0.low_below) (low_free side e) place y (subst (λ x. Breaks f (NamedUnder f N i side) (payload_of (f i)) x place y) (ap (λ s. slot_of (f i) s) e ∙ o.0.names_low) v.1))
    (λ (e : side ≡ 1). tree_holds f r (NamedUnder f N i side) (payload_of (f i)) o.2 a.2 own.2 (subst (λ m. IsBelow m r) (sym o.0.bit_is) a.0.high_below) (high_free side e) place y (subst (λ x. Breaks f (NamedUnder f N i side) (payload_of (f i)) x place y) (ap (λ s. slot_of (f i) s) e ∙ o.0.names_high) v.1))
    (two_sides side v.0)
  where
    low_free : (side : ℕ) → side ≡ 0 → AllCells (λ c. NamedUnder f N i side c → ⊥) l
    low_free side e = cells_map (λ c. N c → ⊥) (λ c. NamedUnder f N i side c → ⊥) (λ c h u. ⊎_elim (λ (p : N c). h p) (λ (q : UnderSmaller f i side c). (let m : q.lower < side = q.less in absurd (omega (arith, m, e)))) u) l n.0

    -- a cell of the high tree is named by no leaf of the low one
    high_free : (side : ℕ) → side ≡ 1 → AllCells (λ c. NamedUnder f N i side c → ⊥) r
    high_free side e = cells_map (λ c. AllCells (λ d. c ≢ d) l × (N c → ⊥)) (λ c. NamedUnder f N i side c → ⊥)
        (λ c h u. ⊎_elim
        (λ (p : N c). h.1 p)
        (λ (q : UnderSmaller f i side c).
        let m : q.lower < side = q.less in
        let zero : q.lower ≡ 0 = omega (arith, m, e) in
        let named : has_cell c l ≡ true = names_has f l (payload_of (f i)) q.way c o.1 (subst (λ x. Names f (payload_of (f i)) x q.way c) (ap (λ s. slot_of (f i) s) zero ∙ o.0.names_low) q.names) in
        contrary (has_cell c l) named (apart_cell c l h.0))
        u)
        r (both_cells (λ c. AllCells (λ d. c ≢ d) l) (λ c. N c → ⊥) r (other_cells_sym l r own.0) n.1)

-- a leaf with a new cell doesn't break its sentence
pub leaf_keeps : (f : ℕ → Option Object) (x key cell : ℕ) (old : List ℕ) → IsLeaf (f x) key cell → is_stored old cell ≡ false → BreaksLeaf f (IsMet old) x → ⊥
leaf_keeps f x key cell old l free (leaf_points k n s) = s (l.null k n)
leaf_keeps f x key cell old l free (leaf_shares h) = contrary (is_stored old cell) (subst (IsMet old) l.names h) free

-- ---- an inner object

-- the first one is below the low tree's object
pub low_first : (f : ℕ → Option Object) (id low high bit below d : ℕ) (old : List ℕ) → id ≢ 0 → IsInner (f id) bit low high → bit < below → (HasWrongKey f id → ⊥) → IsFirst f (IsMet old) bit low d → IsFirst f (IsMet old) below id d
low_first f id low high bit below d old nz i less none h =
    let z : slot_of (f id) 2 ≡ 0 = i.null 2 (λ z. absurd (omega (arith, z))) (λ z. absurd (omega (arith, z))) in
    let there : IsFirst f (IsMet old) (payload_of (f id)) (slot_of (f id) 0) d = subst (λ x. IsFirst f (IsMet old) (payload_of (f id)) x d) (sym i.names_low) (subst (λ b. IsFirst f (IsMet old) b low d) (sym i.bit_is) h) in
    side_first f (IsMet old) below id 0 d nz z (tree_below below f id bit low high i less) (omega arith) (inner_holds f (IsMet old) below id bit low high i less none) (λ lower l place y w. absurd (omega (arith, l)))
    (first_map f (IsMet old) (NamedUnder f (IsMet old) id 0) (λ c m. inl m) (λ c u. ⊎_elim (λ (m : IsMet old c). m) (λ (q : UnderSmaller f id 0 c). (let l : q.lower < 0 = q.less in absurd (omega (arith, l)))) u) (payload_of (f id)) (slot_of (f id) 0) d there)

-- a tree that was looked at holds
grown_holds : (f : ℕ → Option Object) (id bit key : ℕ) (old new : List ℕ) → Grown f id bit key old new → (place : List ℕ) (y : ℕ) → Breaks f (IsMet old) bit id place y → ⊥
grown_holds f id bit key old new t place y w =
    tree_holds f t.tree (IsMet old) bit t.stands.objects t.stands.critical t.stands.own_cells t.below_bit (cells_map (λ c. is_stored old c ≡ false) (λ c. IsMet old c → ⊥) (λ c h m. contrary (is_stored old c) m h) t.tree t.fresh) place y
    (subst (λ x. Breaks f (IsMet old) bit x place y) (sym t.named) w)

-- the first one is below the high tree's object
pub high_first : (f : ℕ → Option Object) (id low high bit below key d : ℕ) (old mid : List ℕ) → id ≢ 0 → IsInner (f id) bit low high → bit < below → (HasWrongKey f id → ⊥) → Grown f low bit key old mid → IsFirst f (IsMet mid) bit high d → IsFirst f (IsMet old) below id d
high_first f id low high bit below key d old mid nz i less none t h =
    let z : slot_of (f id) 2 ≡ 0 = i.null 2 (λ z. absurd (omega (arith, z))) (λ z. absurd (omega (arith, z))) in
    let there : IsFirst f (IsMet mid) (payload_of (f id)) (slot_of (f id) 1) d = subst (λ x. IsFirst f (IsMet mid) (payload_of (f id)) x d) (sym i.names_high) (subst (λ b. IsFirst f (IsMet mid) b high d) (sym i.bit_is) h) in
    side_first f (IsMet old) below id 1 d nz z (tree_below below f id bit low high i less) (omega arith) (inner_holds f (IsMet old) below id bit low high i less none) lower
    (first_map f (IsMet mid) (NamedUnder f (IsMet old) id 1) under met (payload_of (f id)) (slot_of (f id) 1) d there)
  where
    lower : (s : ℕ) → s < 1 → (place : List ℕ) (y : ℕ) → Breaks f (NamedUnder f (IsMet old) id s) (payload_of (f id)) (slot_of (f id) s) place y → ⊥
    lower s l place y w =
        let e : s ≡ 0 = omega (arith, l) in
        let v : Breaks f (NamedUnder f (IsMet old) id s) bit low place y = subst (λ b. Breaks f (NamedUnder f (IsMet old) id s) b low place y) i.bit_is (subst (λ x. Breaks f (NamedUnder f (IsMet old) id s) (payload_of (f id)) x place y) (ap (λ n. slot_of (f id) n) e ∙ i.names_low) w) in
        grown_holds f low bit key old mid t place y
        (breaks_map f (NamedUnder f (IsMet old) id s) (IsMet old) (λ c u. ⊎_elim (λ (m : IsMet old c). m) (λ (q : UnderSmaller f id s c). (let n : q.lower < s = q.less in absurd (omega (arith, n, e)))) u) bit low place y v)

    -- a cell that was met is one of the low tree, or was met before
    under : (c : ℕ) → IsMet mid c → NamedUnder f (IsMet old) id 1 c
    under c m = ⊎_elim
        (λ (p : has_cell c t.tree ≡ true).
        let tree_named : id_of t.tree ≢ 0 = λ e. i.low_named (sym t.named ∙ e) in
        let w = has_names f t.tree bit c t.stands t.below_bit tree_named p in
        inr (record { lower = 0; less = omega arith; way = w.0; names = subst (λ x. Names f (payload_of (f id)) x w.0 c) (t.named ∙ sym i.names_low) (subst (λ b. Names f b (id_of t.tree) w.0 c) (sym i.bit_is) w.1) }))
        (λ (p : is_stored old c ≡ true). inl p)
        (or_cases (has_cell c t.tree) (is_stored old c) (sym (t.met c) ∙ m))

    met : (c : ℕ) → NamedUnder f (IsMet old) id 1 c → IsMet mid c
    met c u = t.met c ∙ ⊎_elim
        (λ (p : IsMet old c). or_right (has_cell c t.tree) (is_stored old c) p)
        (λ (q : UnderSmaller f id 1 c).
        let n : q.lower < 1 = q.less in
        let e : q.lower ≡ 0 = omega (arith, n) in
        or_left (has_cell c t.tree) (is_stored old c) (names_has f t.tree (payload_of (f id)) q.way c t.stands.objects (subst (λ x. Names f (payload_of (f id)) x q.way c) (ap (λ s. slot_of (f id) s) e ∙ i.names_low ∙ sym t.named) q.names)))
        u

-- keys of both trees don't part at the bit
pub parts_wrong : (f : ℕ → Option Object) (id low high bit first last : ℕ) (old mid new : List ℕ) → IsInner (f id) bit low high → Grown f low bit first old mid → Grown f high bit last mid new → (DoPart first last bit → ⊥) → HasWrongKey f id
parts_wrong f id low high bit first last old mid new i l r none =
    let left : id_of l.tree ≢ 0 = λ e. i.low_named (sym l.named ∙ e) in
    let right : id_of r.tree ≢ 0 = λ e. i.high_named (sym r.named ∙ e) in
    let zero : CanTell f (payload_of (f id)) (slot_of (f id) 0) first = subst (λ x. CanTell f (payload_of (f id)) x first) (l.named ∙ sym i.names_low) (subst (λ b. CanTell f b (id_of l.tree) first) (sym i.bit_is) (has_tells f l.tree bit first l.stands l.below_bit left l.has)) in
    let one : CanTell f (payload_of (f id)) (slot_of (f id) 1) last = subst (λ x. CanTell f (payload_of (f id)) x last) (r.named ∙ sym i.names_high) (subst (λ b. CanTell f b (id_of r.tree) last) (sym i.bit_is) (has_tells f r.tree bit last r.stands r.below_bit right r.has)) in
    ⊎_elim
    (λ (a : above bit first ≡ above bit last). ⊎_elim
    (λ (b : bit_at first bit ≡ 0). digit 1 last (omega arith) one (λ c. none (record { same = a; zero = b; one = ap (λ n. bit_at last n) (sym i.bit_is) ∙ c })))
    (λ (b : bit_at first bit ≢ 0). digit 0 first (omega arith) zero (λ c. b (ap (λ n. bit_at first n) (sym i.bit_is) ∙ c)))
    (cases_eq (bit_at first bit) 0))
    (λ (a : above bit first ≢ above bit last). prefix 0 first 1 last (omega arith) zero (omega arith) one (λ c. a (ap (λ n. above n first) (sym i.bit_is) ∙ c ∙ ap (λ n. above n last) i.bit_is)))
    (cases_eq (above bit first) (above bit last))

-- ---- the top

pub first_broken : (f : ℕ → Option Object) (id d : ℕ) → id ≡ slot_of (f root) 13 → IsFirst f (IsMet []) 64 id d → IsFirstBroken 13 f d
first_broken f id d e h = subst (λ x. IsFirst f (λ c. ⊥) 64 x d) e (first_map f (IsMet []) (λ c. ⊥) (λ c m. absurd (contrary (is_stored [] c) m refl)) (λ c z. absurd z) 64 id d h)
