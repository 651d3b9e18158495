-- The way down a tree.
use Rattle.std.proofs.Common.{◌≡◌, ◌≢◌, ℕ, ◌/◌, ◌^◌, ◌<◌, List, [], ◌∷◌, Option, Some, refl, sym, ap, ◌∙◌, subst, arith, ⊎_elim}
use Rattle.std.specs.Prelude.{unwrap_or, IsSome}
use Rattle.std.specs.Int.{bit_at}
use Rattle.std.specs.Int.Bits.{bit_and}
use Rattle.std.proofs.lemmas.Nat.Bits.{shr_and_one}
use Rattle.std.proofs.lemmas.Bool.Decides.{nat_tests}
use Rattle.plain_model.specs.declared.object.Object.{Object}
use Rattle.plain_model.specs.Machine.{nonzero}
use Rattle.object_map.specs.Trees.{Tree, id_of, IsBelow, IsCritBit}
use Rattle.object_map.specs.Trees.Tree.{leaf, inner}
use Rattle.object_map.specs.Maps.{IsTree, AreObjects, IsLeaf, IsInner, slot_of, payload_of}
use Rattle.object_map.specs.Seen.{Seen, at, held, held_id, Loads}
use Rattle.object_map.specs.Ways.{Turn, whole, Follows, IsOnWay, IsAtLeaf, HoldsTree}
use Rattle.object_map.specs.Ways.Turn.{to_low, to_high}
use Rattle.object_map.proofs.BitLaws.{bit_cases}

pub held_here : (v : Seen) (r id : ℕ) → held v r ≡ Some id → held_id v r ≡ id
held_here v r id e = ap (λ o. unwrap_or o 0) e

pub held_some : (v : Seen) (r id : ℕ) → held v r ≡ Some id → IsSome (held v r)
held_some v r id e = subst (λ o. IsSome o) (sym e) refl

pub nonzero_some : (id : ℕ) → id ≢ 0 → nonzero id ≡ Some id
nonzero_some id n = grind (arith, nat_tests)

-- ---- what a tree within a tree has of it

pub objects_within : (f : ℕ → Option Object) (turns : List Turn) (t : Tree) → AreObjects f (whole turns t) → AreObjects f t
objects_within f [] t h = h
objects_within f (to_low id bit high ∷ turns) t h = (objects_within f turns (inner id bit t high) h).1
objects_within f (to_high id bit low ∷ turns) t h = (objects_within f turns (inner id bit low t) h).2

pub critical_within : (turns : List Turn) (t : Tree) → IsCritBit (whole turns t) → IsCritBit t
critical_within [] t h = h
critical_within (to_low id bit high ∷ turns) t h = (critical_within turns (inner id bit t high) h).1
critical_within (to_high id bit low ∷ turns) t h = (critical_within turns (inner id bit low t) h).2

-- ---- a leaf, or an inner object

-- the tree is an inner object with its trees
pub record InnerTree (t : Tree) : Type 0 where
  pub id : ℕ
  pub bit : ℕ
  pub low : Tree
  pub high : Tree
  pub same : t ≡ inner id bit low high

-- the tree is a leaf
pub record LeafTree (t : Tree) : Type 0 where
  pub id : ℕ
  pub key : ℕ
  pub cell : ℕ
  pub value : ℕ
  pub same : t ≡ leaf id key cell value

pub inner_of : (f : ℕ → Option Object) (t : Tree) → AreObjects f t → slot_of (f (id_of t)) 2 ≡ 0 → InnerTree t
inner_of f (leaf i k c v) h e = absurd (h.0.named (sym h.0.names ∙ e))
inner_of f (inner i b l r) h e = record { id = i; bit = b; low = l; high = r; same = refl }

pub leaf_of : (f : ℕ → Option Object) (t : Tree) → AreObjects f t → slot_of (f (id_of t)) 2 ≢ 0 → LeafTree t
leaf_of f (leaf i k c v) h e = record { id = i; key = k; cell = c; value = v; same = refl }
leaf_of f (inner i b l r) h e = absurd (e (h.0.null 2 (λ z. absurd (omega (arith, z))) (λ z. absurd (omega (arith, z)))))

-- ---- steps of the way

-- the object in register 1, as it is told by reads
abbrev slot_here : Seen → ℕ → ℕ
slot_here v k = slot_of (at v (held_id v 1)) k

-- what a read of the object in register 1 tells is what the tree's first object has
pub told_slot : (key last : ℕ) (old now : Seen) (w : IsOnWay key last old now) (k : ℕ) → slot_of (at now (held_id now 1)) k ≡ slot_of (at old (id_of w.tree)) k
told_slot key last old now w k =
    let h : held_id now 1 ≡ id_of w.tree = held_here now 1 (id_of w.tree) w.here in
    ap (λ i. slot_of (at now i) k) h ∙ ap (λ g. slot_of (at (record now { graph = g }) (id_of w.tree)) k) w.graph

pub told_payload : (key last : ℕ) (old now : Seen) (w : IsOnWay key last old now) → payload_of (at now (held_id now 1)) ≡ payload_of (at old (id_of w.tree))
told_payload key last old now w =
    let h : held_id now 1 ≡ id_of w.tree = held_here now 1 (id_of w.tree) w.here in
    ap (λ i. payload_of (at now i)) h ∙ ap (λ g. payload_of (at (record now { graph = g }) (id_of w.tree))) w.graph

-- the way to an inner object
pub record OnInner (key last : ℕ) (old now : Seen) : Type 0 where
  pub turns : List Turn
  pub id : ℕ
  pub bit : ℕ
  pub low : Tree
  pub high : Tree
  pub stands : IsTree (at old) (whole turns (inner id bit low high))
  pub start : held old 1 ≡ Some (id_of (whole turns (inner id bit low high)))
  pub here : held now 1 ≡ Some id
  pub follows : Follows key turns
  pub below : bit < last
  pub slots : now.slots ≡ old.slots
  pub graph : now.graph ≡ old.graph
  pub others : (r : ℕ) → r ≢ 1 → r ≢ 2 → held now r ≡ held old r

pub on_inner : (key last : ℕ) (old now : Seen) → IsOnWay key last old now → slot_of (at now (held_id now 1)) 2 ≡ 0 → OnInner key last old now
on_inner key last old now w e =
    let o : InnerTree w.tree = inner_of (at old) w.tree (objects_within (at old) w.turns w.tree w.stands.objects) (sym (told_slot key last old now w 2) ∙ e) in
    record {
      turns = w.turns;
      id = o.id;
      bit = o.bit;
      low = o.low;
      high = o.high;
      stands = subst (λ t. IsTree (at old) (whole w.turns t)) o.same w.stands;
      start = subst (λ t. held old 1 ≡ Some (id_of (whole w.turns t))) o.same w.start;
      here = subst (λ t. held now 1 ≡ Some (id_of t)) o.same w.here;
      follows = w.follows;
      below = subst (λ t. IsBelow last t) o.same w.below;
      slots = w.slots;
      graph = w.graph;
      others = w.others;
    }

-- a payload is looked at
pub way_looked : (key last : ℕ) (old now mid : Seen) → mid ≡ now → IsOnWay key last old now → IsOnWay key last old mid
way_looked key last old now mid e w = subst (λ v. IsOnWay key last old v) (sym e) w

-- register 2 is loaded
pub inner_loaded : (key last : ℕ) (old now new : Seen) (id : Option ℕ) → OnInner key last old now → Loads 2 id now new → OnInner key last old new
inner_loaded key last old now new id w l = record {
  turns = w.turns;
  id = w.id;
  bit = w.bit;
  low = w.low;
  high = w.high;
  stands = w.stands;
  start = w.start;
  here = l.others 1 (λ z. absurd (omega (arith, z))) ∙ w.here;
  follows = w.follows;
  below = w.below;
  slots = l.slots ∙ w.slots;
  graph = l.graph ∙ w.graph;
  others = λ r n m. l.others r m ∙ w.others r n m;
}

-- the object in register 1 of the way to an inner object
inner_here : (key last : ℕ) (old now : Seen) (w : OnInner key last old now) (k : ℕ) → slot_of (at now (held_id now 1)) k ≡ slot_of (at old w.id) k
inner_here key last old now w k =
    let h : held_id now 1 ≡ w.id = held_here now 1 w.id w.here in
    ap (λ i. slot_of (at now i) k) h ∙ ap (λ g. slot_of (at (record now { graph = g }) w.id) k) w.graph

pub inner_bit : (key last : ℕ) (old now : Seen) (w : OnInner key last old now) → payload_of (at now (held_id now 1)) ≡ w.bit
inner_bit key last old now w =
    let h : held_id now 1 ≡ w.id = held_here now 1 w.id w.here in
    ap (λ i. payload_of (at now i)) h ∙ ap (λ g. payload_of (at (record now { graph = g }) w.id)) w.graph ∙ (objects_within (at old) w.turns (inner w.id w.bit w.low w.high) w.stands.objects).0.bit_is

pub inner_number : (key last : ℕ) (old now : Seen) (w : OnInner key last old now) → w.bit < 64
inner_number key last old now w = (critical_within w.turns (inner w.id w.bit w.low w.high) w.stands.critical).0.number

-- the tree to which the key's bit leads is loaded into register 1
pub turned : (key last bit slot : ℕ) (old now new : Seen) (id : ℕ) (w : OnInner key last old now) → bit ≡ w.bit → slot ≡ bit_and (key / 2 ^ bit) 1 → id ≡ slot_of (at now (held_id now 1)) slot → Loads 1 (nonzero id) now new → IsOnWay key bit old new
turned key last bit slot old now new id w e s i l =
    let digit : slot ≡ bit_at key w.bit = s ∙ shr_and_one key bit ∙ ap (λ b. bit_at key b) e in
    let told : id ≡ slot_of (at old w.id) slot = i ∙ inner_here key last old now w slot in
    let o : IsInner (at old w.id) w.bit (id_of w.low) (id_of w.high) = (objects_within (at old) w.turns (inner w.id w.bit w.low w.high) w.stands.objects).0 in
    let p = (critical_within w.turns (inner w.id w.bit w.low w.high) w.stands.critical).0 in
    ⊎_elim
    (λ (z : bit_at key w.bit ≡ 0). record {
      turns = to_low w.id w.bit w.high ∷ w.turns;
      tree = w.low;
      stands = w.stands;
      start = w.start;
      here = (let same : id ≡ id_of w.low = told ∙ ap (λ k. slot_of (at old w.id) k) (digit ∙ z) ∙ o.names_low in l.here ∙ nonzero_some id (λ f. o.low_named (sym same ∙ f)) ∙ ap (λ x. Some x) same);
      follows = (z, w.follows);
      below = subst (λ b. IsBelow b w.low) (sym e) p.low_below;
      slots = l.slots ∙ w.slots;
      graph = l.graph ∙ w.graph;
      others = λ r n m. l.others r n ∙ w.others r n m;
    })
    (λ (z : bit_at key w.bit ≡ 1). record {
      turns = to_high w.id w.bit w.low ∷ w.turns;
      tree = w.high;
      stands = w.stands;
      start = w.start;
      here = (let same : id ≡ id_of w.high = told ∙ ap (λ k. slot_of (at old w.id) k) (digit ∙ z) ∙ o.names_high in l.here ∙ nonzero_some id (λ f. o.high_named (sym same ∙ f)) ∙ ap (λ x. Some x) same);
      follows = (z, w.follows);
      below = subst (λ b. IsBelow b w.high) (sym e) p.high_below;
      slots = l.slots ∙ w.slots;
      graph = l.graph ∙ w.graph;
      others = λ r n m. l.others r n ∙ w.others r n m;
    })
    (bit_cases key w.bit)

-- the way ends at a leaf
pub at_leaf : (key last found : ℕ) (old now new : Seen) (id : Option ℕ) (w : IsOnWay key last old now) → slot_of (at now (held_id now 1)) 2 ≢ 0 → found ≡ payload_of (at now (held_id now 1)) → Loads 2 id now new → IsAtLeaf key found old new
at_leaf key last found old now new id w n f l =
    let h : AreObjects (at old) w.tree = objects_within (at old) w.turns w.tree w.stands.objects in
    let o : LeafTree w.tree = leaf_of (at old) w.tree h (λ z. n (told_slot key last old now w 2 ∙ z)) in
    let k : IsLeaf (at old o.id) o.key o.cell = (subst (λ t. AreObjects (at old) t) o.same h).0 in
    let same : w.tree ≡ leaf o.id found o.cell o.value =
    o.same ∙ ap (λ x. leaf o.id x o.cell o.value) (sym k.key_is ∙ ap (λ t. payload_of (at old (id_of t))) (sym o.same) ∙ sym (told_payload key last old now w) ∙ sym f) in
    record {
      turns = w.turns;
      id = o.id;
      cell = o.cell;
      value = o.value;
      stands = subst (λ t. IsTree (at old) (whole w.turns t)) same w.stands;
      start = subst (λ t. held old 1 ≡ Some (id_of (whole w.turns t))) same w.start;
      here = l.others 1 (λ z. absurd (omega (arith, z))) ∙ subst (λ t. held now 1 ≡ Some (id_of t)) same w.here;
      follows = w.follows;
      slots = l.slots ∙ w.slots;
      graph = l.graph ∙ w.graph;
      others = λ r x y. l.others r y ∙ w.others r x y;
    }

-- the way begins
pub begins : (key : ℕ) (v : Seen) → HoldsTree v → IsOnWay key 64 v v
begins key v h = record { turns = []; tree = h.tree; stands = h.stands; start = h.here; here = h.here; follows = tt; below = below_64 h.tree h.stands.critical; slots = refl; graph = refl; others = λ r n m. refl }
  where
    below_64 : (t : Tree) → IsCritBit t → IsBelow 64 t
    below_64 (leaf i k c v) h = tt
    below_64 (inner i b l r) h = h.0.number

-- register 2 is loaded: the object in register 1 stays
pub loaded_payload : (v w : Seen) (id : Option ℕ) → Loads 2 id v w → payload_of (at w (held_id w 1)) ≡ payload_of (at v (held_id v 1))
loaded_payload v w id l =
    let h : held w 1 ≡ held v 1 = l.others 1 (λ z. absurd (omega (arith, z))) in
    ap (λ o. payload_of (at w (unwrap_or o 0))) h ∙ ap (λ g. payload_of (at (record w { graph = g }) (held_id v 1))) l.graph
