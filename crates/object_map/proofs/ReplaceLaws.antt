-- A tree within a tree that is replaced by another one.
use Rattle.std.proofs.Common.{◌≡◌, ◌≢◌, ℕ, ◌^◌, ◌<◌, List, [], ◌∷◌, ◌++◌, Option, Some, None, refl, sym, ap, ◌∙◌, subst, arith, ⊎_elim, inl, inr}
use Rattle.std.specs.Prelude.{is_some, true}
use Rattle.std.specs.List.{AllByRecursion}
use Rattle.std.specs.Int.{bit_at}
use Rattle.std.proofs.lemmas.List.{append-nil}
use Rattle.plain_model.specs.declared.object.Object.{Object}
use Rattle.plain_map.specs.Pairs.{with_pair, without_key}
use Rattle.object_map.specs.Trees.{Tree, pairs_of, AllKeys, AllCells, HaveBit, IsBelow, IsCritBit, Parts, above, HaveOtherCells, HaveOwnCells}
use Rattle.object_map.specs.Trees.Tree.{leaf, inner}
use Rattle.object_map.specs.Maps.{AreObjects}
use Rattle.object_map.specs.Ways.{Turn, whole, Follows, HasKey, AgreesOn}
use Rattle.object_map.specs.Ways.Turn.{to_low, to_high}
use Rattle.object_map.proofs.BitLaws.{below_by_bit}
use Rattle.object_map.proofs.TreeLaws.{keys_map, keys_pairs}
use Rattle.object_map.proofs.CellLaws.{other_cells_sym, own_within}
use Rattle.plain_map.proofs.ChangeLaws.{IsLocal, put_local, remove_local, with_same, drop_first}
use Rattle.object_map.proofs.WayLaws.{objects_within, critical_within}

pub has_key : (P : ℕ → Type 0) (k : ℕ) (t : Tree) → AllKeys P t → HasKey k t → P k
has_key P k (leaf i key c v) a h = subst P h a
has_key P k (inner i b l r) a h = ⊎_elim (λ x. has_key P k l a.0 x) (λ x. has_key P k r a.1 x) h

-- the tree may be replaced by the new one under turns whose numbers are so: the new one has no other key than this one
pub record Replaces (f : ℕ → Option Object) (P : ℕ → Type 0) (key other : ℕ) (t u : Tree) : Type 0 where
  pub has : HasKey other t
  pub keys : (b digit prefix : ℕ) → HaveBit b digit prefix t → bit_at key b ≡ digit → above b key ≡ prefix → HaveBit b digit prefix u
  pub below : (b : ℕ) → P b → IsBelow b t → IsBelow b u
  pub apart : (o : Tree) → AreObjects f o → HaveOtherCells t o → HaveOtherCells u o
  pub critical : IsCritBit u
  pub own : HaveOwnCells u

-- what comes of the whole tree
pub record Replaced (turns : List Turn) (t u : Tree) (change : List (ℕ × ℕ) → List (ℕ × ℕ)) : Type 0 where
  pub critical : IsCritBit (whole turns u)
  pub own : HaveOwnCells (whole turns u)
  pub pairs : pairs_of (whole turns u) ≡ change (pairs_of (whole turns t))

pub replaced : (f : ℕ → Option Object) (P : ℕ → Type 0) (key other : ℕ) (change : List (ℕ × ℕ) → List (ℕ × ℕ)) → IsLocal key change
    → (turns : List Turn) (t u : Tree) → AreObjects f (whole turns t) → IsCritBit (whole turns t) → HaveOwnCells (whole turns t) → AgreesOn P key other turns
    → Replaces f P key other t u → pairs_of u ≡ change (pairs_of t) → Replaced turns t u change
replaced f P key other change local [] t u a b c g r e = record { critical = r.critical; own = r.own; pairs = e }
replaced f P key other change local (to_low i n h ∷ turns) t u a b c g r e =
    let objects : AreObjects f (inner i n t h) = objects_within f turns (inner i n t h) a in
    let crit : IsCritBit (inner i n t h) = critical_within turns (inner i n t h) b in
    let own : HaveOwnCells (inner i n t h) = own_within turns (inner i n t h) c in
    let p : Parts n t h = crit.0 in
    let its = has_key (λ k. (bit_at k n ≡ 0) × (above n k ≡ p.prefix)) other t p.low_keys r.has in
    let agrees : above n key ≡ p.prefix = g.2 ∙ its.1 in
    let parts : Parts n u h = record { prefix = p.prefix; number = p.number; low_keys = r.keys n 0 p.prefix p.low_keys g.1 agrees; high_keys = p.high_keys; low_below = r.below n g.0 p.low_below; high_below = p.high_below } in
    let greater : AllByRecursion (λ q. key < q.0) (pairs_of h) = keys_pairs (λ k. key < k) h (keys_map (λ k. (bit_at k n ≡ 1) × (above n k ≡ p.prefix)) (λ k. key < k) (λ k x. below_by_bit n key k (agrees ∙ sym x.1) g.1 x.0) h p.high_keys) in
    let x : Replaced turns (inner i n t h) (inner i n u h) change = replaced f P key other change local turns (inner i n t h) (inner i n u h) a b c g.3
    (record {
      has = inl r.has;
      keys = λ m d q x y z. (r.keys m d q x.0 y z, x.1);
      below = λ m x y. y;
      apart = λ o x y. (r.apart o x y.0, y.1);
      critical = (parts, r.critical, crit.2);
      own = (r.apart h objects.2 own.0, r.own, own.2);
    })
    (ap (λ z. z ++ pairs_of h) e ∙ sym (local.front (pairs_of t) (pairs_of h) greater)) in
    record { critical = x.critical; own = x.own; pairs = x.pairs }
replaced f P key other change local (to_high i n l ∷ turns) t u a b c g r e =
    let objects : AreObjects f (inner i n l t) = objects_within f turns (inner i n l t) a in
    let crit : IsCritBit (inner i n l t) = critical_within turns (inner i n l t) b in
    let own : HaveOwnCells (inner i n l t) = own_within turns (inner i n l t) c in
    let p : Parts n l t = crit.0 in
    let its = has_key (λ k. (bit_at k n ≡ 1) × (above n k ≡ p.prefix)) other t p.high_keys r.has in
    let agrees : above n key ≡ p.prefix = g.2 ∙ its.1 in
    let parts : Parts n l u = record { prefix = p.prefix; number = p.number; low_keys = p.low_keys; high_keys = r.keys n 1 p.prefix p.high_keys g.1 agrees; low_below = p.low_below; high_below = r.below n g.0 p.high_below } in
    let smaller : AllByRecursion (λ q. q.0 < key) (pairs_of l) = keys_pairs (λ k. k < key) l (keys_map (λ k. (bit_at k n ≡ 0) × (above n k ≡ p.prefix)) (λ k. k < key) (λ k x. below_by_bit n k key (x.1 ∙ sym agrees) x.0 g.1) l p.low_keys) in
    let x : Replaced turns (inner i n l t) (inner i n l u) change = replaced f P key other change local turns (inner i n l t) (inner i n l u) a b c g.3
    (record {
      has = inr r.has;
      keys = λ m d q x y z. (x.0, r.keys m d q x.1 y z);
      below = λ m x y. y;
      apart = λ o x y. (y.0, r.apart o x y.1);
      critical = (parts, crit.1, r.critical);
      own = (other_cells_sym u l (r.apart l objects.1 (other_cells_sym l t own.0)), own.1, r.own);
    })
    (ap (λ z. pairs_of l ++ z) e ∙ sym (local.back (pairs_of l) (pairs_of t) smaller)) in
    record { critical = x.critical; own = x.own; pairs = x.pairs }

-- ---- the three replacements

-- a leaf gets another value
pub value_replaces : (f : ℕ → Option Object) (i key c v w : ℕ) → key < 2 ^ 64 → Replaces f (λ _. Unit {0}) key key (leaf i key c v) (leaf i key c w)
value_replaces f i key c v w h = record { has = refl; keys = λ b d p x y z. x; below = λ b x y. tt; apart = λ o x y. y; critical = h; own = tt }

pub value_pairs : (i key c v w : ℕ) → pairs_of (leaf i key c w) ≡ with_pair key w (pairs_of (leaf i key c v))
value_pairs i key c v w = sym (with_same key w (key, v) [] refl)

below_less : (m n : ℕ) (t : Tree) → m < n → IsBelow m t → IsBelow n t
below_less m n (leaf i k c v) l h = tt
below_less m n (inner i b x y) l h = omega (arith, l, h)

keys_other : (k : ℕ) (P : ℕ → Type 0) → ((x : ℕ) → P x → x ≢ k) → (t : Tree) → AllKeys P t → AllByRecursion (λ p. p.0 ≢ k) (pairs_of t)
keys_other k P f t h = keys_pairs (λ x. x ≢ k) t (keys_map P (λ x. x ≢ k) f t h)

-- an inner object with a leaf gives way to its other tree
pub low_removed : (f : ℕ → Option Object) (p n i key c v : ℕ) (s : Tree) → IsCritBit (inner p n (leaf i key c v) s) → HaveOwnCells (inner p n (leaf i key c v) s) → Replaces f (λ _. Unit {0}) key key (inner p n (leaf i key c v) s) s
low_removed f p n i key c v s h o = record { has = inl refl; keys = λ b d q x y z. x.1; below = λ b x y. below_less n b s y h.0.high_below; apart = λ t x y. y.1; critical = h.2; own = o.2 }

pub high_removed : (f : ℕ → Option Object) (p n i key c v : ℕ) (s : Tree) → IsCritBit (inner p n s (leaf i key c v)) → HaveOwnCells (inner p n s (leaf i key c v)) → Replaces f (λ _. Unit {0}) key key (inner p n s (leaf i key c v)) s
high_removed f p n i key c v s h o = record { has = inr refl; keys = λ b d q x y z. x.0; below = λ b x y. below_less n b s y h.0.low_below; apart = λ t x y. y.0; critical = h.1; own = o.1 }

pub low_removed_pairs : (p n i key c v : ℕ) (s : Tree) → IsCritBit (inner p n (leaf i key c v) s) → pairs_of s ≡ without_key key (pairs_of (inner p n (leaf i key c v) s))
low_removed_pairs p n i key c v s h =
    sym (drop_first key v (pairs_of s) (keys_other key (λ k. (bit_at k n ≡ 1) × (above n k ≡ h.0.prefix)) (λ x y e. absurd (omega (arith, y.0, ap (λ z. bit_at z n) e, h.0.low_keys.0))) s h.0.high_keys))

pub high_removed_pairs : (p n i key c v : ℕ) (s : Tree) → IsCritBit (inner p n s (leaf i key c v)) → pairs_of s ≡ without_key key (pairs_of (inner p n s (leaf i key c v)))
high_removed_pairs p n i key c v s h =
    let smaller : AllByRecursion (λ q. q.0 < key) (pairs_of s) = keys_pairs (λ k. k < key) s (keys_map (λ k. (bit_at k n ≡ 0) × (above n k ≡ h.0.prefix)) (λ k. k < key) (λ k x. below_by_bit n k key (x.1 ∙ sym h.0.high_keys.1) x.0 h.0.high_keys.0) s h.0.low_keys) in
    sym ((remove_local key).back (pairs_of s) ((key, v) ∷ []) smaller ∙ ap (λ z. pairs_of s ++ z) (drop_first key v [] tt) ∙ append-nil (pairs_of s))

-- the cells of objects that stand are others than that of an id without an object
pub cells_stand : (f : ℕ → Option Object) (c : ℕ) → f c ≡ None → (t : Tree) → AreObjects f t → AllCells (λ d. c ≢ d) t
cells_stand f c n (leaf i k d v) h = λ e. never (f d) (subst (λ z. f z ≡ None) e n) h.1.there
  where
    never : (o : Option Object) → o ≡ None → is_some o ≡ true → ⊥
    never None e h = absurd (cc)
    never (Some x) e h = absurd (cc)
cells_stand f c n (inner i b l r) h = (cells_stand f c n l h.1, cells_stand f c n r h.2)

-- a new leaf joins a tree below bit c, in which the key's digit isn't
pub low_inserted : (f : ℕ → Option Object) (m c j key cell value other : ℕ) (t : Tree) → c < 64 → key < 2 ^ 64 → bit_at key c ≡ 0 → HaveBit c 1 (above c key) t → IsBelow c t → HasKey other t → AreObjects f t → IsCritBit t → HaveOwnCells t → f cell ≡ None
    → Replaces f (λ b. c < b) key other t (inner m c (leaf j key cell value) t)
low_inserted f m c j key cell value other t l w d h b k a r o n = record {
  has = k;
  keys = λ b' g q x y z. ((y, z), x);
  below = λ b' x y. x;
  apart = λ u x y. (cells_stand f cell n u x, y);
  critical = (record { prefix = above c key; number = l; low_keys = (d, refl); high_keys = h; low_below = tt; high_below = b }, w, r);
  own = (cells_stand f cell n t a, tt, o);
}

pub high_inserted : (f : ℕ → Option Object) (m c j key cell value other : ℕ) (t : Tree) → c < 64 → key < 2 ^ 64 → bit_at key c ≡ 1 → HaveBit c 0 (above c key) t → IsBelow c t → HasKey other t → AreObjects f t → IsCritBit t → HaveOwnCells t → f cell ≡ None
    → Replaces f (λ b. c < b) key other t (inner m c t (leaf j key cell value))
high_inserted f m c j key cell value other t l w d h b k a r o n = record {
  has = k;
  keys = λ b' g q x y z. (x, (y, z));
  below = λ b' x y. x;
  apart = λ u x y. (y, cells_stand f cell n u x);
  critical = (record { prefix = above c key; number = l; low_keys = h; high_keys = (d, refl); low_below = b; high_below = tt }, r, w);
  own = (other_cells_sym (leaf j key cell value) t (cells_stand f cell n t a), o, tt);
}

pub low_inserted_pairs : (m c j key cell value : ℕ) (t : Tree) → bit_at key c ≡ 0 → HaveBit c 1 (above c key) t → pairs_of (inner m c (leaf j key cell value) t) ≡ with_pair key value (pairs_of t)
low_inserted_pairs m c j key cell value t d h =
    let greater : AllByRecursion (λ q. key < q.0) (pairs_of t) = keys_pairs (λ k. key < k) t (keys_map (λ k. (bit_at k c ≡ 1) × (above c k ≡ above c key)) (λ k. key < k) (λ k x. below_by_bit c key k (sym x.1) d x.0) t h) in
    sym ((put_local key value).front [] (pairs_of t) greater)

pub high_inserted_pairs : (m c j key cell value : ℕ) (t : Tree) → bit_at key c ≡ 1 → HaveBit c 0 (above c key) t → pairs_of (inner m c t (leaf j key cell value)) ≡ with_pair key value (pairs_of t)
high_inserted_pairs m c j key cell value t d h =
    let smaller : AllByRecursion (λ q. q.0 < key) (pairs_of t) = keys_pairs (λ k. k < key) t (keys_map (λ k. (bit_at k c ≡ 0) × (above c k ≡ above c key)) (λ k. k < key) (λ k x. below_by_bit c k key x.1 x.0 d) t h) in
    sym (ap (λ z. with_pair key value z) (sym (append-nil (pairs_of t))) ∙ (put_local key value).back (pairs_of t) [] smaller)

-- ---- agreement on the way

-- on the way that a key follows it agrees with itself
pub agrees_itself : (key : ℕ) (turns : List Turn) → Follows key turns → AgreesOn (λ _. Unit {0}) key key turns
agrees_itself key [] h = tt
agrees_itself key (to_low i b t ∷ turns) h = (tt, h.0, refl, agrees_itself key turns h.1)
agrees_itself key (to_high i b t ∷ turns) h = (tt, h.0, refl, agrees_itself key turns h.1)
