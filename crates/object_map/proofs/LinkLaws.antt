-- Objects of a tree after a change of one object.
use Rattle.std.proofs.Common.{◌≡◌, ◌≢◌, ℕ, ◌<◌, ◌≤◌, List, [], ◌∷◌, Option, Some, None, refl, sym, ap, ◌∙◌, subst, arith, inl, inr, true}
use Rattle.std.specs.Prelude.{is_some}
use Rattle.std.specs.Int.{bit_at}
use Rattle.plain_model.specs.declared.object.Object.{Object}
use Rattle.object_map.specs.Trees.{Tree, id_of, AllKeys, IsBelow, IsCritBit, Parts, above}
use Rattle.object_map.specs.Trees.Tree.{leaf, inner}
use Rattle.object_map.specs.Maps.{AreObjects, IsLeaf, IsInner, IsCell, slot_of, payload_of}
use Rattle.object_map.specs.Ways.{Turn, whole, HasKey}
use Rattle.object_map.specs.Ways.Turn.{to_low, to_high}
use Rattle.object_map.proofs.OneLaws.{leaf_or_inner, inner_or_cell, tree_one}
use Rattle.object_map.proofs.ReplaceLaws.{has_key}
use Rattle.object_map.proofs.WayLaws.{objects_within, critical_within}

-- each object of the tree, its cells too, has an id that is so
abbrev pub AllNodes : (ℕ → Type 0) → Tree → Type 0
AllNodes P (leaf i k c v) = P i × P c
AllNodes P (inner i b l h) = P i × AllNodes P l × AllNodes P h

pub nodes_map : (P Q : ℕ → Type 0) → ((x : ℕ) → P x → Q x) → (t : Tree) → AllNodes P t → AllNodes Q t
nodes_map P Q f (leaf i k c v) h = (f i h.0, f c h.1)
nodes_map P Q f (inner i b l r) h = (f i h.0, nodes_map P Q f l h.1, nodes_map P Q f r h.2)

-- a tree stands where each of its objects is as it was
pub stays : (f g : ℕ → Option Object) (t : Tree) → AllNodes (λ x. g x ≡ f x) t → AreObjects f t → AreObjects g t
stays f g (leaf i k c v) n a = (subst (λ o. IsLeaf o k c) (sym n.0) a.0, subst (λ o. IsCell o v) (sym n.1) a.1)
stays f g (inner i b l r) n a = (subst (λ o. IsInner o b (id_of l) (id_of r)) (sym n.0) a.0, stays f g l n.1 a.1, stays f g r n.2 a.2)

some_from_slot : (o : Option Object) (k : ℕ) → slot_of o k ≢ 0 → is_some o ≡ true
some_from_slot (Some x) k n = refl
some_from_slot None k n = absurd (n refl)

-- each object of the tree is there
pub nodes_there : (f : ℕ → Option Object) (t : Tree) → AreObjects f t → AllNodes (λ x. is_some (f x) ≡ true) t
nodes_there f (leaf i k c v) a = (some_from_slot (f i) 2 (λ e. a.0.named (sym a.0.names ∙ e)), a.1.there)
nodes_there f (inner i b l r) a = (some_from_slot (f i) 0 (λ e. a.0.low_named (sym a.0.names_low ∙ e)), nodes_there f l a.1, nodes_there f r a.2)

-- so it stands where each object that is there stays
pub stays_there : (f g : ℕ → Option Object) (t : Tree) → ((x : ℕ) → is_some (f x) ≡ true → g x ≡ f x) → AreObjects f t → AreObjects g t
stays_there f g t h a = stays f g t (nodes_map (λ x. is_some (f x) ≡ true) (λ x. g x ≡ f x) h t (nodes_there f t a)) a

-- ---- an inner object isn't among those of other trees

-- below it
pub nodes_below : (f : ℕ → Option Object) (p bit low high : ℕ) → IsInner (f p) bit low high → (n : ℕ) → n ≤ bit → (t : Tree) → AreObjects f t → IsCritBit t → IsBelow n t → AllNodes (λ x. x ≢ p) t
nodes_below f p bit low high o n l (leaf i k c v) a b h =
    ((λ e. leaf_or_inner (f p) k c bit low high (subst (λ z. IsLeaf (f z) k c) e a.0) o), (λ e. inner_or_cell (f p) bit low high v o (subst (λ z. IsCell (f z) v) e a.1)))
nodes_below f p bit low high o n l (inner i m x y) a b h =
    let less : m < bit = omega (arith, l, h) in
    let le : m ≤ bit = omega (arith, less) in (
      (λ e. (let same : m ≡ bit = sym a.0.bit_is ∙ ap (λ z. payload_of (f z)) e ∙ o.bit_is in absurd (omega (arith, same, less)))),
      nodes_below f p bit low high o m le x a.1 b.1 b.0.low_below,
      nodes_below f p bit low high o m le y a.2 b.2 b.0.high_below,
    )

-- beside it: in a tree whose keys are all so, where one of its own isn't
pub nodes_beside : (f : ℕ → Option Object) (p bit : ℕ) (low high : Tree) → AreObjects f (inner p bit low high) → (P : ℕ → Type 0) (k : ℕ) → HasKey k (inner p bit low high) → (P k → ⊥) → (t : Tree) → AreObjects f t → AllKeys P t → AllNodes (λ x. x ≢ p) t
nodes_beside f p bit low high o P k h n (leaf i j c v) a b =
    ((λ e. leaf_or_inner (f p) j c bit (id_of low) (id_of high) (subst (λ z. IsLeaf (f z) j c) e a.0) o.0), (λ e. inner_or_cell (f p) bit (id_of low) (id_of high) v o.0 (subst (λ z. IsCell (f z) v) e a.1)))
nodes_beside f p bit low high o P k h n (inner i m x y) a b = (
  (λ e. (let same : inner p bit low high ≡ inner i m x y = tree_one f (inner p bit low high) (inner i m x y) o a (sym e) in n (has_key P k (inner i m x y) b (subst (HasKey k) same h)))),
  nodes_beside f p bit low high o P k h n x a.1 b.0,
  nodes_beside f p bit low high o P k h n y a.2 b.1,
)

-- ---- one inner object is changed

-- the whole tree stands, where the tree at the changed object does
pub relinked : (f g : ℕ → Option Object) (p bit : ℕ) (low high : Tree) → AreObjects f (inner p bit low high) → ((x : ℕ) → x ≢ p → g x ≡ f x) → (k : ℕ) → HasKey k (inner p bit low high)
    → (turns : List Turn) (i n : ℕ) (l h l' h' : Tree) → AreObjects f (whole turns (inner i n l h)) → IsCritBit (whole turns (inner i n l h)) → bit ≤ n → HasKey k (inner i n l h) → AreObjects g (inner i n l' h') → AreObjects g (whole turns (inner i n l' h'))
relinked f g p bit low high o s k hk [] i n l h l' h' a b m w t = t
relinked f g p bit low high o s k hk (to_low j b r ∷ turns) i n l h l' h' a c m w t =
    let objects : AreObjects f (inner j b (inner i n l h) r) = objects_within f turns (inner j b (inner i n l h) r) a in
    let parts : Parts b (inner i n l h) r = (critical_within turns (inner j b (inner i n l h) r) c).0 in
    let less : bit < b = omega (arith, m, parts.low_below) in
    let le : bit ≤ b = omega (arith, less) in
    let other : j ≢ p = λ e. (let same : b ≡ bit = sym objects.0.bit_is ∙ ap (λ z. payload_of (f z)) e ∙ o.0.bit_is in absurd (omega (arith, same, less))) in
    let here : IsInner (g j) b i (id_of r) = subst (λ x. IsInner x b i (id_of r)) (sym (s j other)) objects.0 in
    let low_bit = has_key (λ x. (bit_at x b ≡ 0) × (above b x ≡ parts.prefix)) k (inner i n l h) parts.low_keys w in
    let apart : AllNodes (λ x. x ≢ p) r = nodes_beside f p bit low high o (λ x. (bit_at x b ≡ 1) × (above b x ≡ parts.prefix)) k hk (λ y. absurd (omega (arith, y.0, low_bit.0))) r objects.2 parts.high_keys in
    relinked f g p bit low high o s k hk turns j b (inner i n l h) r (inner i n l' h') r a c le (inl w) (here, t, stays f g r (nodes_map (λ x. x ≢ p) (λ x. g x ≡ f x) s r apart) objects.2)
relinked f g p bit low high o s k hk (to_high j b r ∷ turns) i n l h l' h' a c m w t =
    let objects : AreObjects f (inner j b r (inner i n l h)) = objects_within f turns (inner j b r (inner i n l h)) a in
    let parts : Parts b r (inner i n l h) = (critical_within turns (inner j b r (inner i n l h)) c).0 in
    let less : bit < b = omega (arith, m, parts.high_below) in
    let le : bit ≤ b = omega (arith, less) in
    let other : j ≢ p = λ e. (let same : b ≡ bit = sym objects.0.bit_is ∙ ap (λ z. payload_of (f z)) e ∙ o.0.bit_is in absurd (omega (arith, same, less))) in
    let here : IsInner (g j) b (id_of r) i = subst (λ x. IsInner x b (id_of r) i) (sym (s j other)) objects.0 in
    let high_bit = has_key (λ x. (bit_at x b ≡ 1) × (above b x ≡ parts.prefix)) k (inner i n l h) parts.high_keys w in
    let apart : AllNodes (λ x. x ≢ p) r = nodes_beside f p bit low high o (λ x. (bit_at x b ≡ 0) × (above b x ≡ parts.prefix)) k hk (λ y. absurd (omega (arith, y.0, high_bit.0))) r objects.1 parts.low_keys in
    relinked f g p bit low high o s k hk turns j b r (inner i n l h) r (inner i n l' h') a c le (inr w) (here, stays f g r (nodes_map (λ x. x ≢ p) (λ x. g x ≡ f x) s r apart) objects.1, t)

-- some key of the tree
pub some_key : (t : Tree) → (k : ℕ) × HasKey k t
some_key (leaf i k c v) = (k, refl)
some_key (inner i b l h) = (let x = some_key l in (x.0, inl x.1))

-- a tree under the last turn gives way to another one, whose first object the turn's object names now
pub low_relinked : (f g : ℕ → Option Object) (turns : List Turn) (p bit : ℕ) (t u high : Tree) → AreObjects f (whole turns (inner p bit t high)) → IsCritBit (whole turns (inner p bit t high)) → ((x : ℕ) → x ≢ p → g x ≡ f x)
    → IsInner (g p) bit (id_of u) (id_of high) → AreObjects g u → AreObjects g (whole turns (inner p bit u high))
low_relinked f g turns p bit t u high a c s i b =
    let objects : AreObjects f (inner p bit t high) = objects_within f turns (inner p bit t high) a in
    let crit : IsCritBit (inner p bit t high) = critical_within turns (inner p bit t high) c in
    let le : bit ≤ bit = omega arith in
    let apart : AllNodes (λ x. x ≢ p) high = nodes_below f p bit (id_of t) (id_of high) objects.0 bit le high objects.2 crit.2 crit.0.high_below in
    let key = some_key (inner p bit t high) in
    relinked f g p bit t high objects s key.0 key.1 turns p bit t high u high a c le key.1 (i, b, stays f g high (nodes_map (λ x. x ≢ p) (λ x. g x ≡ f x) s high apart) objects.2)

pub high_relinked : (f g : ℕ → Option Object) (turns : List Turn) (p bit : ℕ) (t u low : Tree) → AreObjects f (whole turns (inner p bit low t)) → IsCritBit (whole turns (inner p bit low t)) → ((x : ℕ) → x ≢ p → g x ≡ f x)
    → IsInner (g p) bit (id_of low) (id_of u) → AreObjects g u → AreObjects g (whole turns (inner p bit low u))
high_relinked f g turns p bit t u low a c s i b =
    let objects : AreObjects f (inner p bit low t) = objects_within f turns (inner p bit low t) a in
    let crit : IsCritBit (inner p bit low t) = critical_within turns (inner p bit low t) c in
    let le : bit ≤ bit = omega arith in
    let apart : AllNodes (λ x. x ≢ p) low = nodes_below f p bit (id_of low) (id_of t) objects.0 bit le low objects.1 crit.1 crit.0.low_below in
    let key = some_key (inner p bit low t) in
    relinked f g p bit low t objects s key.0 key.1 turns p bit low t low u a c le key.1 (i, stays f g low (nodes_map (λ x. x ≢ p) (λ x. g x ≡ f x) s low apart) objects.1, b)
