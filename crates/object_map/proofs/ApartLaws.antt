-- No object stands twice in a tree.
use Rattle.std.proofs.Common.{◌≡◌, ◌≢◌, ℕ, ◌≤◌, List, [], ◌∷◌, Option, refl, sym, ap, ◌∙◌, subst, arith, ⊎_elim, ◌⊎◌, inl, inr}
use Rattle.std.specs.Int.{bit_at}
use Rattle.plain_model.specs.declared.object.Object.{Object}
use Rattle.object_map.specs.Trees.{Tree, id_of, AllKeys, IsCritBit, Parts, above, HaveOtherCells, HaveOwnCells}
use Rattle.object_map.specs.Trees.Tree.{leaf, inner}
use Rattle.object_map.specs.Maps.{AreObjects, IsLeaf, IsInner, IsCell, payload_of}
use Rattle.object_map.specs.Ways.{Turn, whole, HasKey}
use Rattle.object_map.specs.Ways.Turn.{to_low, to_high}
use Rattle.object_map.specs.Changes.{IsOf}
use Rattle.object_map.proofs.OneLaws.{leaf_or_inner, leaf_or_cell}
use Rattle.object_map.proofs.CellLaws.{own_within}
use Rattle.object_map.proofs.HungLaws.{cell_apart}
use Rattle.object_map.proofs.LinkLaws.{AllNodes, nodes_below, nodes_beside, some_key}
use Rattle.object_map.proofs.ReplaceLaws.{has_key}
use Rattle.object_map.proofs.WayLaws.{objects_within, critical_within}

-- what holds of each object's id holds of that of one of them
nodes_of : (P : ℕ → Type 0) (x : ℕ) (t : Tree) → AllNodes P t → IsOf x t → P x
nodes_of P x (leaf i k c v) a h = ⊎_elim (λ (e : x ≡ i). subst P (sym e) a.0) (λ (e : x ≡ c). subst P (sym e) a.1) h
nodes_of P x (inner i b l r) a h = ⊎_elim
    (λ (e : x ≡ i). subst P (sym e) a.0)
    (λ (d : IsOf x l ⊎ IsOf x r). ⊎_elim (λ (p : IsOf x l). nodes_of P x l a.1 p) (λ (q : IsOf x r). nodes_of P x r a.2 q) d)
    h

-- a leaf is none of the objects of a tree without its key
leaf_apart : (f : ℕ → Option Object) (j k c : ℕ) → IsLeaf (f j) k c → (P : ℕ → Type 0) → (P k → ⊥) → (t : Tree) → AreObjects f t → AllKeys P t → AllNodes (λ x. x ≢ j) t
leaf_apart f j k c o P n (leaf i m d v) a b =
    ((λ e. n (subst P (sym a.0.key_is ∙ ap (λ x. payload_of (f x)) e ∙ o.key_is) b)), (λ e. leaf_or_cell (f j) k c v o (subst (λ z. IsCell (f z) v) e a.1)))
leaf_apart f j k c o P n (inner i b l r) a h = (
  (λ e. leaf_or_inner (f j) k c b (id_of l) (id_of r) o (subst (λ z. IsInner (f z) b (id_of l) (id_of r)) e a.0)),
  leaf_apart f j k c o P n l a.1 h.0,
  leaf_apart f j k c o P n r a.2 h.1,
)

-- An object of a tree is none of another one's with other cells, each key of which is so, where no key of the first is so.
trees_apart : (f : ℕ → Option Object) (P : ℕ → Type 0) (x : ℕ) (r : Tree) → AreObjects f r → AllKeys P r → (l : Tree) → AreObjects f l → ((k : ℕ) → HasKey k l → P k → ⊥) → HaveOtherCells l r → IsOf x l → AllNodes (λ y. y ≢ x) r
trees_apart f P x r b q (leaf i k c v) a n o h = ⊎_elim
    (λ (e : x ≡ i). subst (λ z. AllNodes (λ y. y ≢ z) r) (sym e) (leaf_apart f i k c a.0 P (n k refl) r b q))
    (λ (e : x ≡ c). subst (λ z. AllNodes (λ y. y ≢ z) r) (sym e) (cell_apart f c v a.1 r b o))
    h
trees_apart f P x r b q (inner i m y z) a n o h = ⊎_elim
    (λ (e : x ≡ i). let k = some_key (inner i m y z) in subst (λ w. AllNodes (λ u. u ≢ w) r) (sym e) (nodes_beside f i m y z a P k.0 k.1 (n k.0 k.1) r b q))
    (λ (d : IsOf x y ⊎ IsOf x z). ⊎_elim
    (λ (p : IsOf x y). trees_apart f P x r b q y a.1 (λ k w. n k (inl w)) o.0 p)
    (λ (p : IsOf x z). trees_apart f P x r b q z a.2 (λ k w. n k (inr w)) o.1 p)
    d)
    h

-- an object of an inner object's low tree is none of its high one's
pub sides_apart : (f : ℕ → Option Object) (x i b : ℕ) (l r : Tree) → AreObjects f (inner i b l r) → IsCritBit (inner i b l r) → HaveOwnCells (inner i b l r) → IsOf x l → IsOf x r → ⊥
sides_apart f x i b l r a c o h w =
    let p : Parts b l r = c.0 in
    nodes_of (λ y. y ≢ x) x r
    (trees_apart f (λ k. (bit_at k b ≡ 1) × (above b k ≡ p.prefix)) x r a.2 p.high_keys l a.1
    (λ k y z. (let low = has_key (λ j. (bit_at j b ≡ 0) × (above b j ≡ p.prefix)) k l p.low_keys y in absurd (omega (arith, low.0, z.0)))) o.0 h)
    w refl

-- an inner object is none of those below it
pub top_apart : (f : ℕ → Option Object) (x i b : ℕ) (l r : Tree) → AreObjects f (inner i b l r) → IsCritBit (inner i b l r) → IsOf x l ⊎ IsOf x r → x ≢ i
top_apart f x i b l r a c h =
    let le : b ≤ b = omega arith in
    ⊎_elim
    (λ (p : IsOf x l). nodes_of (λ y. y ≢ i) x l (nodes_below f i b (id_of l) (id_of r) a.0 b le l a.1 c.1 c.0.low_below) p)
    (λ (q : IsOf x r). nodes_of (λ y. y ≢ i) x r (nodes_below f i b (id_of l) (id_of r) a.0 b le r a.2 c.2 c.0.high_below) q)
    h

-- An object of a tree within the whole one, of which a tree in its place has nothing, is none of the whole tree's then.
pub whole_lost : (f : ℕ → Option Object) (x : ℕ) (turns : List Turn) (t u : Tree) → AreObjects f (whole turns t) → IsCritBit (whole turns t) → HaveOwnCells (whole turns t) → IsOf x t → (IsOf x u → ⊥) → IsOf x (whole turns u) → ⊥
whole_lost f x [] t u a c o h n w = n w
whole_lost f x (to_low j b r ∷ turns) t u a c o h n w =
    let objects : AreObjects f (inner j b t r) = objects_within f turns (inner j b t r) a in
    let crit : IsCritBit (inner j b t r) = critical_within turns (inner j b t r) c in
    let own : HaveOwnCells (inner j b t r) = own_within turns (inner j b t r) o in
    whole_lost f x turns (inner j b t r) (inner j b u r) a c o (inr (inl h))
    (λ z. ⊎_elim
    (λ (e : x ≡ j). top_apart f x j b t r objects crit (inl h) e)
    (λ (d : IsOf x u ⊎ IsOf x r). ⊎_elim n (λ (q : IsOf x r). sides_apart f x j b t r objects crit own h q) d)
    z)
    w
whole_lost f x (to_high j b l ∷ turns) t u a c o h n w =
    let objects : AreObjects f (inner j b l t) = objects_within f turns (inner j b l t) a in
    let crit : IsCritBit (inner j b l t) = critical_within turns (inner j b l t) c in
    let own : HaveOwnCells (inner j b l t) = own_within turns (inner j b l t) o in
    whole_lost f x turns (inner j b l t) (inner j b l u) a c o (inr (inr h))
    (λ z. ⊎_elim
    (λ (e : x ≡ j). top_apart f x j b l t objects crit (inr h) e)
    (λ (d : IsOf x l ⊎ IsOf x u). ⊎_elim (λ (q : IsOf x l). sides_apart f x j b l t objects crit own q h) n d)
    z)
    w

-- ---- a tree in the place of another one

low_or : (Q : Type 0) (x j b : ℕ) (t u r : Tree) → (IsOf x t → IsOf x u ⊎ Q) → IsOf x (inner j b t r) → IsOf x (inner j b u r) ⊎ Q
low_or Q x j b t u r f w = ⊎_elim
    (λ (e : x ≡ j). inl (inl e))
    (λ (d : IsOf x t ⊎ IsOf x r). ⊎_elim
    (λ (p : IsOf x t). ⊎_elim (λ (y : IsOf x u). inl (inr (inl y))) (λ (q : Q). inr q) (f p))
    (λ (p : IsOf x r). inl (inr (inr p)))
    d)
    w

high_or : (Q : Type 0) (x j b : ℕ) (t u l : Tree) → (IsOf x t → IsOf x u ⊎ Q) → IsOf x (inner j b l t) → IsOf x (inner j b l u) ⊎ Q
high_or Q x j b t u l f w = ⊎_elim
    (λ (e : x ≡ j). inl (inl e))
    (λ (d : IsOf x l ⊎ IsOf x t). ⊎_elim
    (λ (p : IsOf x l). inl (inr (inl p)))
    (λ (p : IsOf x t). ⊎_elim (λ (y : IsOf x u). inl (inr (inr y))) (λ (q : Q). inr q) (f p))
    d)
    w

-- The whole tree's objects are those of the other whole tree or so, where those of the tree within it are.
pub whole_or : (Q : Type 0) (x : ℕ) (turns : List Turn) (t u : Tree) → (IsOf x t → IsOf x u ⊎ Q) → IsOf x (whole turns t) → IsOf x (whole turns u) ⊎ Q
whole_or Q x [] t u f h = f h
whole_or Q x (to_low j b r ∷ turns) t u f h = whole_or Q x turns (inner j b t r) (inner j b u r) (low_or Q x j b t u r f) h
whole_or Q x (to_high j b l ∷ turns) t u f h = whole_or Q x turns (inner j b l t) (inner j b l u) (high_or Q x j b t u l f) h

-- they are those of the other whole tree, where those of the tree within it are
pub whole_of : (x : ℕ) (turns : List Turn) (t u : Tree) → (IsOf x t → IsOf x u) → IsOf x (whole turns t) → IsOf x (whole turns u)
whole_of x turns t u f h = ⊎_elim (λ (y : IsOf x (whole turns u)). y) (λ (z : ⊥). absurd z) (whole_or ⊥ x turns t u (λ p. inl (f p)) h)
