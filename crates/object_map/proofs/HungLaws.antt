-- A tree that is hung under an object in the place of another one, and a cell that gets another value.
use Rattle.std.proofs.Common.{◌≡◌, ◌≢◌, ℕ, ◌+◌, ◌-◌, ◌/◌, ◌%◌, ◌^◌, ◌<◌, ◌≤◌, List, [], ◌∷◌, Option, refl, sym, ap, ◌∙◌, subst, arith, ⊎_elim, ◌⊎◌, inl, inr}
use Rattle.std.specs.Int.{bit_at}
use Rattle.std.proofs.lemmas.Nat.{shr-shr}
use Rattle.plain_model.specs.declared.object.Object.{Object}
use Rattle.plain_map.specs.Pairs.{with_pair}
use Rattle.object_map.specs.Trees.{Tree, id_of, pairs_of, AllKeys, AllCells, IsBelow, IsCritBit, above, HaveOwnCells}
use Rattle.object_map.specs.Trees.Tree.{leaf, inner}
use Rattle.object_map.specs.Maps.{AreObjects, IsLeaf, IsInner, IsCell, IsTree, slot_of}
use Rattle.object_map.specs.Ways.{Turn, whole, Follows, HasKey, AgreesOn}
use Rattle.object_map.specs.Ways.Turn.{to_low, to_high}
use Rattle.object_map.proofs.OneLaws.{leaf_or_cell, inner_or_cell}
use Rattle.object_map.proofs.TreeLaws.{keys_map}
use Rattle.object_map.proofs.CellLaws.{other_cells_sym, own_within}
use Rattle.plain_map.proofs.ChangeLaws.{IsLocal, put_local}
use Rattle.object_map.proofs.ReplaceLaws.{Replaces, Replaced, replaced, has_key, value_replaces, value_pairs, agrees_itself}
use Rattle.object_map.proofs.LinkLaws.{AllNodes, nodes_map, stays, nodes_below, low_relinked, high_relinked}
use Rattle.object_map.proofs.WayLaws.{objects_within, critical_within}

-- the whole tree with the new one within it, and its pairs
pub record Hung (g : ℕ → Option Object) (turns : List Turn) (t u : Tree) (change : List (ℕ × ℕ) → List (ℕ × ℕ)) : Type 0 where
  pub stands : IsTree g (whole turns u)
  pub pairs : pairs_of (whole turns u) ≡ change (pairs_of (whole turns t))

-- under the low slot of an inner object
pub hung_low : (f g : ℕ → Option Object) (P : ℕ → Type 0) (key other : ℕ) (change : List (ℕ × ℕ) → List (ℕ × ℕ)) → IsLocal key change → (turns : List Turn) (p bit : ℕ) (high t u : Tree)
    → IsTree f (whole (to_low p bit high ∷ turns) t) → AgreesOn P key other (to_low p bit high ∷ turns) → Replaces f P key other t u → pairs_of u ≡ change (pairs_of t)
    → ((x : ℕ) → x ≢ p → g x ≡ f x) → IsInner (g p) bit (id_of u) (id_of high) → AreObjects g u → Hung g (to_low p bit high ∷ turns) t u change
hung_low f g P key other change local turns p bit high t u a w r e s i b =
    let x : Replaced (to_low p bit high ∷ turns) t u change = replaced f P key other change local (to_low p bit high ∷ turns) t u a.objects a.critical a.own_cells w r e in
    record { stands = record { objects = low_relinked f g turns p bit t u high a.objects a.critical s i b; critical = x.critical; own_cells = x.own }; pairs = x.pairs }

-- under the high slot of an inner object
pub hung_high : (f g : ℕ → Option Object) (P : ℕ → Type 0) (key other : ℕ) (change : List (ℕ × ℕ) → List (ℕ × ℕ)) → IsLocal key change → (turns : List Turn) (p bit : ℕ) (low t u : Tree)
    → IsTree f (whole (to_high p bit low ∷ turns) t) → AgreesOn P key other (to_high p bit low ∷ turns) → Replaces f P key other t u → pairs_of u ≡ change (pairs_of t)
    → ((x : ℕ) → x ≢ p → g x ≡ f x) → IsInner (g p) bit (id_of low) (id_of u) → AreObjects g u → Hung g (to_high p bit low ∷ turns) t u change
hung_high f g P key other change local turns p bit low t u a w r e s i b =
    let x : Replaced (to_high p bit low ∷ turns) t u change = replaced f P key other change local (to_high p bit low ∷ turns) t u a.objects a.critical a.own_cells w r e in
    record { stands = record { objects = high_relinked f g turns p bit t u low a.objects a.critical s i b; critical = x.critical; own_cells = x.own }; pairs = x.pairs }

-- under the root, whose object is none of the tree's
pub hung_root : (f g : ℕ → Option Object) (P : ℕ → Type 0) (key other : ℕ) (change : List (ℕ × ℕ) → List (ℕ × ℕ)) (t u : Tree)
    → Replaces f P key other t u → pairs_of u ≡ change (pairs_of t) → AreObjects g u → Hung g [] t u change
hung_root f g P key other change t u r e b = record { stands = record { objects = b; critical = r.critical; own_cells = r.own }; pairs = e }

-- the root is none of the objects of a tree under its slot
pub root_apart : (f : ℕ → Option Object) (x slot : ℕ) → 2 < slot → slot_of (f x) slot ≢ 0 → (t : Tree) → AreObjects f t → AllNodes (λ y. y ≢ x) t
root_apart f x slot l n (leaf i k c v) a =
    ((λ e. n (sym (ap (λ z. slot_of (f z) slot) e) ∙ a.0.null slot (λ z. absurd (omega (arith, z, l))))), (λ e. n (sym (ap (λ z. slot_of (f z) slot) e) ∙ a.1.null slot)))
root_apart f x slot l n (inner i b y z) a =
    ((λ e. n (sym (ap (λ w. slot_of (f w) slot) e) ∙ a.0.null slot (λ w. absurd (omega (arith, w, l))) (λ w. absurd (omega (arith, w, l))))), root_apart f x slot l n y a.1, root_apart f x slot l n z a.2)

-- what is below an inner object stays where that object alone is changed
pub below_stays : (f g : ℕ → Option Object) (turns : List Turn) (p bit : ℕ) (low high : Tree) → IsTree f (whole turns (inner p bit low high)) → ((x : ℕ) → x ≢ p → g x ≡ f x) → AreObjects g low × AreObjects g high
below_stays f g turns p bit low high a s =
    let o : AreObjects f (inner p bit low high) = objects_within f turns (inner p bit low high) a.objects in
    let c : IsCritBit (inner p bit low high) = critical_within turns (inner p bit low high) a.critical in
    let le : bit ≤ bit = omega arith in (
      stays f g low (nodes_map (λ x. x ≢ p) (λ x. g x ≡ f x) s low (nodes_below f p bit (id_of low) (id_of high) o.0 bit le low o.1 c.1 c.0.low_below)) o.1,
      stays f g high (nodes_map (λ x. x ≢ p) (λ x. g x ≡ f x) s high (nodes_below f p bit (id_of low) (id_of high) o.0 bit le high o.2 c.2 c.0.high_below)) o.2,
    )

-- ---- a cell that gets another value

abbrev HasCell : ℕ → Tree → Type 0
HasCell c (leaf i k d v) = d ≡ c
HasCell c (inner i b l h) = HasCell c l ⊎ HasCell c h

has_cell : (P : ℕ → Type 0) (c : ℕ) (t : Tree) → AllCells P t → HasCell c t → P c
has_cell P c (leaf i k d v) a h = subst P h a
has_cell P c (inner i b l r) a h = ⊎_elim (λ x. has_cell P c l a.0 x) (λ x. has_cell P c r a.1 x) h

-- a cell is none of the objects of a tree with other cells
pub cell_apart : (f : ℕ → Option Object) (c w : ℕ) → IsCell (f c) w → (t : Tree) → AreObjects f t → AllCells (λ d. c ≢ d) t → AllNodes (λ x. x ≢ c) t
cell_apart f c w o (leaf i k d v) a n = ((λ e. leaf_or_cell (f c) k d w (subst (λ z. IsLeaf (f z) k d) e a.0) o), (λ e. n (sym e)))
cell_apart f c w o (inner i b l r) a n = ((λ e. inner_or_cell (f c) b (id_of l) (id_of r) w (subst (λ z. IsInner (f z) b (id_of l) (id_of r)) e a.0) o), cell_apart f c w o l a.1 n.0, cell_apart f c w o r a.2 n.1)

recast : (f g : ℕ → Option Object) (c w : ℕ) → IsCell (f c) w → ((x : ℕ) → x ≢ c → g x ≡ f x) → (turns : List Turn) (t u : Tree) → id_of u ≡ id_of t → AreObjects f (whole turns t) → HaveOwnCells (whole turns t) → HasCell c t → AreObjects g u → AreObjects g (whole turns u)
recast f g c w o s [] t u e a n h b = b
recast f g c w o s (to_low j m r ∷ turns) t u e a n h b =
    let objects : AreObjects f (inner j m t r) = objects_within f turns (inner j m t r) a in
    let own : HaveOwnCells (inner j m t r) = own_within turns (inner j m t r) n in
    let other : j ≢ c = λ z. inner_or_cell (f c) m (id_of t) (id_of r) w (subst (λ y. IsInner (f y) m (id_of t) (id_of r)) z objects.0) o in
    let here : IsInner (g j) m (id_of u) (id_of r) = subst (λ y. IsInner (g j) m y (id_of r)) (sym e) (subst (λ y. IsInner y m (id_of t) (id_of r)) (sym (s j other)) objects.0) in
    let apart : AllNodes (λ x. x ≢ c) r = cell_apart f c w o r objects.2 (has_cell (λ x. AllCells (λ d. x ≢ d) r) c t own.0 h) in
    recast f g c w o s turns (inner j m t r) (inner j m u r) refl a n (inl h) (here, b, stays f g r (nodes_map (λ x. x ≢ c) (λ x. g x ≡ f x) s r apart) objects.2)
recast f g c w o s (to_high j m r ∷ turns) t u e a n h b =
    let objects : AreObjects f (inner j m r t) = objects_within f turns (inner j m r t) a in
    let own : HaveOwnCells (inner j m r t) = own_within turns (inner j m r t) n in
    let other : j ≢ c = λ z. inner_or_cell (f c) m (id_of r) (id_of t) w (subst (λ y. IsInner (f y) m (id_of r) (id_of t)) z objects.0) o in
    let here : IsInner (g j) m (id_of r) (id_of u) = subst (λ y. IsInner (g j) m (id_of r) y) (sym e) (subst (λ y. IsInner y m (id_of r) (id_of t)) (sym (s j other)) objects.0) in
    let apart : AllNodes (λ x. x ≢ c) r = cell_apart f c w o r objects.1 (has_cell (λ x. AllCells (λ d. x ≢ d) r) c t (other_cells_sym r t own.0) h) in
    recast f g c w o s turns (inner j m r t) (inner j m r u) refl a n (inr h) (here, stays f g r (nodes_map (λ x. x ≢ c) (λ x. g x ≡ f x) s r apart) objects.1, b)

-- the value at a key that is there is set
pub value_set : (f g : ℕ → Option Object) (turns : List Turn) (i key c v w : ℕ) → IsTree f (whole turns (leaf i key c v)) → Follows key turns → ((x : ℕ) → x ≢ c → g x ≡ f x) → IsCell (g c) w → Hung g turns (leaf i key c v) (leaf i key c w) (with_pair key w)
value_set f g turns i key c v w a h s b =
    let o : AreObjects f (leaf i key c v) = objects_within f turns (leaf i key c v) a.objects in
    let crit : key < 2 ^ 64 = critical_within turns (leaf i key c v) a.critical in
    let x : Replaced turns (leaf i key c v) (leaf i key c w) (with_pair key w) =
    replaced f (λ _. Unit {0}) key key (with_pair key w) (put_local key w) turns (leaf i key c v) (leaf i key c w) a.objects a.critical a.own_cells (agrees_itself key turns h) (value_replaces f i key c v w crit) (value_pairs i key c v w) in
    let other : i ≢ c = λ e. leaf_or_cell (f c) key c v (subst (λ z. IsLeaf (f z) key c) e o.0) o.1 in
    record {
      stands = record { objects = recast f g c v o.1 s turns (leaf i key c v) (leaf i key c w) refl a.objects a.own_cells refl (subst (λ y. IsLeaf y key c) (sym (s i other)) o.0, b); critical = x.critical; own_cells = x.own };
      pairs = x.pairs;
    }

-- ---- the keys of a tree below the bit at which a key parts from one of them

-- what agrees above one bit agrees above each higher one
pub agrees_higher : (c b m n : ℕ) → c ≤ b → above c m ≡ above c n → above b m ≡ above b n
agrees_higher c b m n l e =
    let split : c + 1 + (b - c) ≡ b + 1 = omega (arith, l) in
    ap (λ z. m / 2 ^ z) (sym split) ∙ sym (shr-shr m (c + 1) (b - c)) ∙ ap (λ z. z / 2 ^ (b - c)) e ∙ shr-shr n (c + 1) (b - c) ∙ ap (λ z. n / 2 ^ z) split

-- what agrees above a lower bit agrees from this bit on
agrees_from : (n c x y : ℕ) → n < c → above n x ≡ above n y → x / 2 ^ c ≡ y / 2 ^ c
agrees_from n c x y l e =
    let split : n + 1 + (c - (n + 1)) ≡ c = omega (arith, l) in
    ap (λ z. x / 2 ^ z) (sym split) ∙ sym (shr-shr x (n + 1) (c - (n + 1))) ∙ ap (λ z. z / 2 ^ (c - (n + 1))) e ∙ shr-shr y (n + 1) (c - (n + 1)) ∙ ap (λ z. y / 2 ^ z) split

-- all keys of a tree below bit c have in bit c and above what one of them has
pub keys_below : (c k : ℕ) (t : Tree) → IsCritBit t → IsBelow c t → HasKey k t → AllKeys (λ x. (bit_at x c ≡ bit_at k c) × (above c x ≡ above c k)) t
keys_below c k (leaf i j d v) a b h = (ap (λ x. bit_at x c) h, ap (λ x. above c x) h)
keys_below c k (inner i n l r) a b h =
    let same : (x : ℕ) → above n x ≡ above n k → (bit_at x c ≡ bit_at k c) × (above c x ≡ above c k) =
    λ x e. (let s : x / 2 ^ c ≡ k / 2 ^ c = agrees_from n c x k b e in (ap (λ z. z % 2) s, sym (shr-shr x c 1) ∙ ap (λ z. z / 2) s ∙ shr-shr k c 1)) in
    let prefix : above n k ≡ a.0.prefix = ⊎_elim (λ x. (has_key (λ y. (bit_at y n ≡ 0) × (above n y ≡ a.0.prefix)) k l a.0.low_keys x).1) (λ x. (has_key (λ y. (bit_at y n ≡ 1) × (above n y ≡ a.0.prefix)) k r a.0.high_keys x).1) h in (
      keys_map (λ y. (bit_at y n ≡ 0) × (above n y ≡ a.0.prefix)) (λ x. (bit_at x c ≡ bit_at k c) × (above c x ≡ above c k)) (λ x y. same x (y.1 ∙ sym prefix)) l a.0.low_keys,
      keys_map (λ y. (bit_at y n ≡ 1) × (above n y ≡ a.0.prefix)) (λ x. (bit_at x c ≡ bit_at k c) × (above c x ≡ above c k)) (λ x y. same x (y.1 ∙ sym prefix)) r a.0.high_keys,
    )
