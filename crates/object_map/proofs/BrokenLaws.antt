-- Objects that break their sentences, and the objects above them.
use Rattle.std.proofs.Common.{◌≡◌, ◌≢◌, ℕ, ◌<◌, List, [], ◌∷◌, ◌++◌, Option, refl, sym, ap, ◌∙◌, subst, arith, ⊎_elim, ◌⊎◌, inl, inr}
use Rattle.std.proofs.lemmas.Bool.{cases_eq}
use Rattle.plain_model.specs.declared.object.Object.{Object}
use Rattle.object_map.specs.Maps.{IsInner, slot_of, payload_of}
use Rattle.object_map.specs.Broken.{Goes, Names, IsBefore, IsNamedBefore, HasWrongKey, BreaksLeaf, BreaksInner, Breaks, IsFirst}
use Rattle.object_map.specs.Broken.BreaksLeaf.{leaf_points, leaf_shares}
use Rattle.object_map.specs.Broken.BreaksInner.{climbs, lacks, points, mixes}
use Rattle.object_map.specs.Broken.Breaks.{leaf_breaks, inner_breaks, value_breaks}

-- ---- lists and sides

abbrev head : List ℕ → ℕ
head [] = 0
head (x ∷ xs) = x

abbrev tail : List ℕ → List ℕ
tail [] = []
tail (x ∷ xs) = xs

abbrev IsEmpty : List ℕ → Type 0
IsEmpty [] = Unit {0}
IsEmpty (x ∷ xs) = ⊥

-- no place of a value object is empty
never_empty : (way : List ℕ) → [] ≡ way ++ 2 ∷ [] → ⊥
never_empty [] e = subst IsEmpty e tt
never_empty (s ∷ way) e = subst IsEmpty e tt

pub two_sides : (s : ℕ) → s < 2 → (s ≡ 0) ⊎ (s ≡ 1)
two_sides s l = ⊎_elim (λ (e : s ≡ 0). inl e) (λ (n : s ≢ 0). inr (omega (arith, l, n))) (cases_eq s 0)

-- ---- value objects that were named before

-- a leaf below a smaller slot of the inner object names the value object
pub record UnderSmaller (f : ℕ → Option Object) (x side cell : ℕ) : Type 0 where
  pub lower : ℕ
  pub less : lower < side
  pub way : List ℕ
  pub names : Names f (payload_of (f x)) (slot_of (f x) lower) way cell

-- those that were named before what is under a slot of the inner object
abbrev pub NamedUnder : (ℕ → Option Object) → (ℕ → Type 0) → ℕ → ℕ → ℕ → Type 0
NamedUnder f N x side cell = N cell ⊎ UnderSmaller f x side cell

pub leaf_map : (f : ℕ → Option Object) (N M : ℕ → Type 0) (x : ℕ) → ((c : ℕ) → N c → M c) → BreaksLeaf f N x → BreaksLeaf f M x
leaf_map f N M x g (leaf_points k n s) = leaf_points k n s
leaf_map f N M x g (leaf_shares h) = leaf_shares (g (slot_of (f x) 2) h)

pub breaks_map : (f : ℕ → Option Object) (N M : ℕ → Type 0) → ((c : ℕ) → N c → M c) → (bit x : ℕ) (place : List ℕ) (id : ℕ) → Breaks f N bit x place id → Breaks f M bit x place id
breaks_map f N M g bit x place id (leaf_breaks last w s b) =
    leaf_breaks last w s (leaf_map f (λ c. N c ⊎ IsNamedBefore f bit x place c) (λ c. M c ⊎ IsNamedBefore f bit x place c) id (λ c h. ⊎_elim (λ (p : N c). inl (g c p)) (λ (q : IsNamedBefore f bit x place c). inr q) h) b)
breaks_map f N M g bit x place id (inner_breaks last w s b) = inner_breaks last w s b
breaks_map f N M g bit x place id (value_breaks way last holder k w n m s e) = value_breaks way last holder k w n m s e

pub first_map : (f : ℕ → Option Object) (N M : ℕ → Type 0) → ((c : ℕ) → N c → M c) → ((c : ℕ) → M c → N c) → (bit x id : ℕ) → IsFirst f N bit x id → IsFirst f M bit x id
first_map f N M g h bit x id a = record {
  place = a.place;
  breaks = breaks_map f N M g bit x a.place id a.breaks;
  first = λ other y b w. a.first other y b (breaks_map f M N h bit x other y w);
}

-- ---- from what is under a slot of an inner object to the inner object, and back

names_up : (f : ℕ → Option Object) (bit x side : ℕ) (way : List ℕ) (c : ℕ) → x ≢ 0 → slot_of (f x) 2 ≡ 0 → payload_of (f x) < bit → side < 2 → Names f (payload_of (f x)) (slot_of (f x) side) way c → Names f bit x (side ∷ way) c
names_up f bit x side way c t z l w n = record { last = n.last; id = n.id; goes = (t, z, l, w, n.goes); names = n.names; named = n.named }

named_up : (f : ℕ → Option Object) (N : ℕ → Type 0) (bit x side : ℕ) (place : List ℕ) (c : ℕ) → x ≢ 0 → slot_of (f x) 2 ≡ 0 → payload_of (f x) < bit → side < 2
    → NamedUnder f N x side c ⊎ IsNamedBefore f (payload_of (f x)) (slot_of (f x) side) place c → N c ⊎ IsNamedBefore f bit x (side ∷ place) c
named_up f N bit x side place c t z l w h = ⊎_elim
    (λ (u : NamedUnder f N x side c). ⊎_elim
    (λ (n : N c). inl n)
    (λ (v : UnderSmaller f x side c). inr (v.lower ∷ v.way, (inl v.less, names_up f bit x v.lower v.way c t z l (let m : v.lower < side = v.less in omega (arith, m, w)) v.names)))
    u)
    (λ (b : IsNamedBefore f (payload_of (f x)) (slot_of (f x) side) place c). inr (side ∷ b.0, (inr (refl, b.1.0), names_up f bit x side b.0 c t z l w b.1.1)))
    h

named_down : (f : ℕ → Option Object) (N : ℕ → Type 0) (bit x side : ℕ) (place : List ℕ) (c : ℕ) → slot_of (f x) 2 ≡ 0 → N c ⊎ IsNamedBefore f bit x (side ∷ place) c → NamedUnder f N x side c ⊎ IsNamedBefore f (payload_of (f x)) (slot_of (f x) side) place c
named_down f N bit x side place c z h = ⊎_elim
    (λ (n : N c). inl (inl n))
    (λ (b : IsNamedBefore f bit x (side ∷ place) c). by b.0 b.1.0 b.1.1)
    h
  where
    by : (other : List ℕ) → IsBefore other (side ∷ place) → Names f bit x other c → NamedUnder f N x side c ⊎ IsNamedBefore f (payload_of (f x)) (slot_of (f x) side) place c
    by [] b n = absurd (n.named (sym n.names ∙ ap (λ y. slot_of (f y) 2) (sym n.goes.1) ∙ z))
    by (t ∷ o) b n = ⊎_elim
        (λ (l : t < side). inl (inr (record { lower = t; less = l; way = o; names = record { last = n.last; id = n.id; goes = n.goes.4; names = n.names; named = n.named } })))
        (λ (e : (t ≡ side) × IsBefore o place). inr (o, (e.1, subst (λ u. Names f (payload_of (f x)) (slot_of (f x) u) o c) e.0 (record { last = n.last; id = n.id; goes = n.goes.4; names = n.names; named = n.named }))))
        b

up : (f : ℕ → Option Object) (N : ℕ → Type 0) (bit x side : ℕ) (place : List ℕ) (id : ℕ) → x ≢ 0 → slot_of (f x) 2 ≡ 0 → payload_of (f x) < bit → side < 2 → Breaks f (NamedUnder f N x side) (payload_of (f x)) (slot_of (f x) side) place id → Breaks f N bit x (side ∷ place) id
up f N bit x side place id t z l w (leaf_breaks last g s b) =
    leaf_breaks last (t, z, l, w, g) s
    (leaf_map f (λ c. NamedUnder f N x side c ⊎ IsNamedBefore f (payload_of (f x)) (slot_of (f x) side) place c) (λ c. N c ⊎ IsNamedBefore f bit x (side ∷ place) c) id (λ c h. named_up f N bit x side place c t z l w h) b)
up f N bit x side place id t z l w (inner_breaks last g s b) = inner_breaks last (t, z, l, w, g) s b
up f N bit x side place id t z l w (value_breaks way last holder k g n m s e) = value_breaks (side ∷ way) last holder k (t, z, l, w, g) n m s (ap (λ p. side ∷ p) e)

pub down : (f : ℕ → Option Object) (N : ℕ → Type 0) (bit x side : ℕ) (place : List ℕ) (id : ℕ) → slot_of (f x) 2 ≡ 0 → Breaks f N bit x (side ∷ place) id → (side < 2) × Breaks f (NamedUnder f N x side) (payload_of (f x)) (slot_of (f x) side) place id
down f N bit x side place id z (leaf_breaks last g s b) =
    (g.3, leaf_breaks last g.4 s (leaf_map f (λ c. N c ⊎ IsNamedBefore f bit x (side ∷ place) c) (λ c. NamedUnder f N x side c ⊎ IsNamedBefore f (payload_of (f x)) (slot_of (f x) side) place c) id (λ c h. named_down f N bit x side place c z h) b))
down f N bit x side place id z (inner_breaks last g s b) = (g.3, inner_breaks last g.4 s b)
down f N bit x side place id z (value_breaks way last holder k g n m s e) = by way g e
  where
    by : (way : List ℕ) → Goes f bit x way last holder → side ∷ place ≡ way ++ 2 ∷ [] → (side < 2) × Breaks f (NamedUnder f N x side) (payload_of (f x)) (slot_of (f x) side) place id
    by [] g e = absurd (m (sym n ∙ ap (λ y. slot_of (f y) 2) (sym g.1) ∙ z))
    by (t ∷ w) g e =
        let same : t ≡ side = sym (ap head e) in
        (subst (λ u. u < 2) same g.3, value_breaks w last holder k (subst (λ u. Goes f (payload_of (f x)) (slot_of (f x) u) w last holder) same g.4) n m s (ap tail e))

-- ---- the first one

pub none_before : (other : List ℕ) → IsBefore other [] → ⊥
none_before [] b = b
none_before (s ∷ other) b = b

-- the object at the top breaks its sentence
pub leaf_first : (f : ℕ → Option Object) (N : ℕ → Type 0) (bit x : ℕ) → x ≢ 0 → slot_of (f x) 2 ≢ 0 → BreaksLeaf f N x → IsFirst f N bit x x
leaf_first f N bit x named s b = record {
  place = [];
  breaks = leaf_breaks bit (named, refl, refl) s (leaf_map f N (λ c. N c ⊎ IsNamedBefore f bit x [] c) x (λ c n. inl n) b);
  first = λ other y w v. none_before other w;
}

pub inner_first : (f : ℕ → Option Object) (N : ℕ → Type 0) (bit x : ℕ) → x ≢ 0 → slot_of (f x) 2 ≡ 0 → BreaksInner f bit x → IsFirst f N bit x x
inner_first f N bit x named z b = record { place = []; breaks = inner_breaks bit (named, refl, refl) z b; first = λ other y w v. none_before other w }

-- the only one below a leaf that doesn't is its value object
leaf_holds : (f : ℕ → Option Object) (N : ℕ → Type 0) (bit x : ℕ) → slot_of (f x) 2 ≢ 0 → (BreaksLeaf f N x → ⊥) → (y : ℕ) → Breaks f N bit x [] y → ⊥
leaf_holds f N bit x s none y (leaf_breaks last g t b) =
    none (leaf_map f (λ c. N c ⊎ IsNamedBefore f bit x [] c) N x (λ c h. ⊎_elim (λ (n : N c). n) (λ (w : IsNamedBefore f bit x [] c). absurd (none_before w.0 w.1.0)) h)
    (subst (λ z. BreaksLeaf f (λ c. N c ⊎ IsNamedBefore f bit x [] c) z) (sym g.1) b))
leaf_holds f N bit x s none y (inner_breaks last g z b) = s (ap (λ i. slot_of (f i) 2) g.1 ∙ z)
leaf_holds f N bit x s none y (value_breaks way last holder k g n m t e) = never_empty way e

-- nothing is below a leaf by another slot
leaf_ends : (f : ℕ → Option Object) (N : ℕ → Type 0) (bit x side : ℕ) (place : List ℕ) (y : ℕ) → slot_of (f x) 2 ≢ 0 → side < 2 → Breaks f N bit x (side ∷ place) y → ⊥
leaf_ends f N bit x side place y s l (leaf_breaks last g t b) = s g.1
leaf_ends f N bit x side place y s l (inner_breaks last g z b) = s g.1
leaf_ends f N bit x side place y s l (value_breaks way last holder k g n m t e) = by way g e
  where
    by : (way : List ℕ) → Goes f bit x way last holder → side ∷ place ≡ way ++ 2 ∷ [] → ⊥
    by [] g e = (let two : side ≡ 2 = ap head e in absurd (omega (arith, two, l)))
    by (t ∷ w) g e = s g.1

pub value_first : (f : ℕ → Option Object) (N : ℕ → Type 0) (bit x cell k : ℕ) → x ≢ 0 → slot_of (f x) 2 ≡ cell → cell ≢ 0 → (BreaksLeaf f N x → ⊥) → slot_of (f cell) k ≢ 0 → IsFirst f N bit x cell
value_first f N bit x cell k there names named none s = record {
  place = 2 ∷ [];
  breaks = value_breaks [] bit x k (there, refl, refl) names named s refl;
  first = by;
}
  where
    is_leaf : slot_of (f x) 2 ≢ 0
    is_leaf e = named (sym names ∙ e)

    by : (other : List ℕ) (y : ℕ) → IsBefore other (2 ∷ []) → Breaks f N bit x other y → ⊥
    by [] y b w = leaf_holds f N bit x is_leaf none y w
    by (t ∷ o) y b w = ⊎_elim (λ (l : t < 2). leaf_ends f N bit x t o y is_leaf l w) (λ (e : (t ≡ 2) × IsBefore o []). none_before o e.1) b

-- what stands at an inner object and under its smaller slots doesn't break its sentence: the first one is under this slot
pub side_first : (f : ℕ → Option Object) (N : ℕ → Type 0) (bit x side id : ℕ) → x ≢ 0 → slot_of (f x) 2 ≡ 0 → payload_of (f x) < bit → side < 2 → ((y : ℕ) → Breaks f N bit x [] y → ⊥)
    → ((lower : ℕ) → lower < side → (place : List ℕ) (y : ℕ) → Breaks f (NamedUnder f N x lower) (payload_of (f x)) (slot_of (f x) lower) place y → ⊥)
    → IsFirst f (NamedUnder f N x side) (payload_of (f x)) (slot_of (f x) side) id → IsFirst f N bit x id
side_first f N bit x side id n z l w here lower h = record {
  place = side ∷ h.place;
  breaks = up f N bit x side h.place id n z l w h.breaks;
  first = by;
}
  where
    by : (other : List ℕ) (y : ℕ) → IsBefore other (side ∷ h.place) → Breaks f N bit x other y → ⊥
    by [] y b v = here y v
    by (t ∷ o) y b v = ⊎_elim
        (λ (m : t < side). lower t m o y (down f N bit x t o y z v).1)
        (λ (e : (t ≡ side) × IsBefore o h.place). h.first o y e.1 (subst (λ u. Breaks f (NamedUnder f N x u) (payload_of (f x)) (slot_of (f x) u) o y) e.0 (down f N bit x t o y z v).1))
        b

-- an inner object without a wrong key doesn't break its sentence
inner_keeps : (f : ℕ → Option Object) (bit x b low high : ℕ) → IsInner (f x) b low high → b < bit → (HasWrongKey f x → ⊥) → BreaksInner f bit x → ⊥
inner_keeps f bit x b low high i l none (climbs h) = (let e : payload_of (f x) ≡ b = i.bit_is in absurd (omega (arith, e, l, h)))
inner_keeps f bit x b low high i l none (lacks side w z) = ⊎_elim
    (λ (e : side ≡ 0). i.low_named (sym i.names_low ∙ ap (λ s. slot_of (f x) s) (sym e) ∙ z))
    (λ (e : side ≡ 1). i.high_named (sym i.names_high ∙ ap (λ s. slot_of (f x) s) (sym e) ∙ z))
    (two_sides side w)
inner_keeps f bit x b low high i l none (points k n m s) = s (i.null k n m)
inner_keeps f bit x b low high i l none (mixes h) = none h

pub inner_holds : (f : ℕ → Option Object) (N : ℕ → Type 0) (bit x b low high : ℕ) → IsInner (f x) b low high → b < bit → (HasWrongKey f x → ⊥) → (y : ℕ) → Breaks f N bit x [] y → ⊥
inner_holds f N bit x b low high i l none y (leaf_breaks last g s w) = s (ap (λ z. slot_of (f z) 2) (sym g.1) ∙ i.null 2 (λ z. absurd (omega (arith, z))) (λ z. absurd (omega (arith, z))))
inner_holds f N bit x b low high i l none y (inner_breaks last g s w) = inner_keeps f bit x b low high i l none (subst (λ z. BreaksInner f bit z) (sym g.1) (subst (λ n. BreaksInner f n y) (sym g.2) w))
inner_holds f N bit x b low high i l none y (value_breaks way last holder k g n m s e) = never_empty way e
