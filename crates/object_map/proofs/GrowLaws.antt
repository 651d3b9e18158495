-- Objects that are those of a tree, or not.
use Rattle.std.proofs.Common.{◌≡◌, ◌≢◌, ℕ, ◌<◌, ◌≤◌, ◌*◌, ◌/◌, ◌%◌, ◌^◌, List, Option, refl, sym, ap, ◌∙◌, subst, arith, inr, Bool, true, false}
use Rattle.std.specs.Prelude.{◌||◌, ◌==◌}
use Rattle.std.specs.Int.{w64, bit_at}
use Rattle.std.specs.Int.Bits.{bit_and, bit_or}
use Rattle.std.proofs.lemmas.Nat.{shr-shr}
use Rattle.std.proofs.lemmas.Nat.Bits.{shr_and_one, bit_at_set_same, bit_at_set_other}
use Rattle.std.specs.Ordering.{nat_cmp}
use Rattle.std.specs.BTreeSet.{insert_key}
use Rattle.std.proofs.lemmas.Bool.Decides.{nat_tests}
use Rattle.plain_model.specs.declared.object.Object.{Object}
use Rattle.plain_model.specs.Machine.{is_stored}
use Rattle.plain_model.specs.Graphs.{object_at}
use Rattle.plain_laws.proofs.Locks.{stored-insert}
use Rattle.object_map.specs.Trees.{Tree, id_of, IsBelow, IsCritBit, AllCells, HaveOtherCells, Parts, above}
use Rattle.object_map.specs.Trees.Tree.{leaf, inner}
use Rattle.object_map.specs.Maps.{IsTree, AreObjects, IsLeaf, IsCell, IsInner, slot_of, payload_of}
use Rattle.object_map.specs.Ways.{HasKey}
use Rattle.object_map.specs.Seen.{Seen, at}
use Rattle.object_map.specs.Walking.{has_cell, Grown, NoTree}
use Rattle.object_map.proofs.CellLaws.{cells_map, other_cells_sym}
use Rattle.object_map.proofs.TreeLaws.{keys_map}
use Rattle.object_map.proofs.OneLaws.{tree_one}
use Rattle.object_map.proofs.HungLaws.{keys_below}
use Rattle.object_map.proofs.ReplaceLaws.{has_key}

-- ---- cells that were met

or_false_left : (a b : Bool) → (a || b) ≡ false → a ≡ false
or_false_left true b e = absurd (cc)
or_false_left false b e = refl

or_false_right : (a b : Bool) → (a || b) ≡ false → b ≡ false
or_false_right true b e = absurd (cc)
or_false_right false b e = e

both_false : (a b : Bool) → a ≡ false → b ≡ false → (a || b) ≡ false
both_false true b e f = absurd (cc)
both_false false b e f = f

apart_from_test : (a b : ℕ) → (a == b) ≡ false → a ≢ b
apart_from_test a b e = grind (arith, nat_tests)

test_from_apart : (a b : ℕ) → a ≢ b → (a == b) ≡ false
test_from_apart a b n = grind (arith, nat_tests)

-- a cell that no leaf names is another one than each of them
cell_apart : (c : ℕ) (t : Tree) → has_cell c t ≡ false → AllCells (λ d. c ≢ d) t
cell_apart c (leaf i k d v) e = apart_from_test c d e
cell_apart c (inner i b l r) e = (cell_apart c l (or_false_left (has_cell c l) (has_cell c r) e), cell_apart c r (or_false_right (has_cell c l) (has_cell c r) e))

pub apart_cell : (c : ℕ) (t : Tree) → AllCells (λ d. c ≢ d) t → has_cell c t ≡ false
apart_cell c (leaf i k d v) n = test_from_apart c d n
apart_cell c (inner i b l r) n = both_false (has_cell c l) (has_cell c r) (apart_cell c l n.0) (apart_cell c r n.1)

pub both_cells : (P Q : ℕ → Type 0) (t : Tree) → AllCells P t → AllCells Q t → AllCells (λ c. P c × Q c) t
both_cells P Q (leaf i k d v) p q = (p, q)
both_cells P Q (inner i b l r) p q = (both_cells P Q l p.0 q.0, both_cells P Q r p.1 q.1)

regroup : (a b o : Bool) → (b || (a || o)) ≡ ((a || b) || o)
regroup true true o = refl
regroup true false o = refl
regroup false true o = refl
regroup false false o = refl

-- ---- a leaf

pub leaf_grown : (f : ℕ → Option Object) (id key cell below : ℕ) (old new : List ℕ) → key < 2 ^ 64 → IsLeaf (f id) key cell → IsCell (f cell) (payload_of (f cell)) → is_stored old cell ≡ false → new ≡ insert_key nat_cmp old cell → Grown f id below key old new
leaf_grown f id key cell below old new fits l c fresh e = record {
  tree = leaf id key cell (payload_of (f cell));
  named = refl;
  stands = record { objects = (l, c); critical = fits; own_cells = tt };
  below_bit = tt;
  has = refl;
  fresh = fresh;
  met = λ d. ap (λ xs. is_stored xs d) e ∙ stored-insert old cell d;
}

-- a leaf's first object names a cell, and an inner one doesn't
leaf_or_none : (f : ℕ → Option Object) (t : Tree) (id : ℕ) → id_of t ≡ id → AreObjects f t → slot_of (f id) 2 ≢ 0 → (P : Type 0) → ((key cell value : ℕ) → t ≡ leaf id key cell value → IsLeaf (f id) key cell → IsCell (f cell) value → P) → P
leaf_or_none f (leaf i k c v) id e o n P h = h k c v (ap (λ x. leaf x k c v) e) (subst (λ x. IsLeaf (f x) k c) e o.0) o.1
leaf_or_none f (inner i b l r) id e o n P h = absurd (n (ap (λ x. slot_of (f x) 2) (sym e) ∙ o.0.null 2 (λ z. absurd (omega (arith, z))) (λ z. absurd (omega (arith, z)))))

inner_or_none : (f : ℕ → Option Object) (t : Tree) (id : ℕ) → id_of t ≡ id → AreObjects f t → slot_of (f id) 2 ≡ 0 → (P : Type 0) → ((bit : ℕ) (low high : Tree) → t ≡ inner id bit low high → IsInner (f id) bit (id_of low) (id_of high) → P) → P
inner_or_none f (leaf i k c v) id e o n P h = absurd (o.0.named (sym o.0.names ∙ ap (λ x. slot_of (f x) 2) e ∙ n))
inner_or_none f (inner i b l r) id e o n P h = h b l r (ap (λ x. inner x b l r) e) (subst (λ x. IsInner (f x) b (id_of l) (id_of r)) e o.0)

-- another slot of the leaf isn't null
pub no_leaf : (f : ℕ → Option Object) (id below k : ℕ) (old : List ℕ) → slot_of (f id) 2 ≢ 0 → k ≢ 2 → slot_of (f id) k ≢ 0 → NoTree f id below old
no_leaf f id below k old n other some t e s b fresh = leaf_or_none f t id e s.objects n ⊥ (λ key cell value same l c. some (l.null k other))

-- a slot of its cell isn't null
pub no_cell : (f : ℕ → Option Object) (id cell below k : ℕ) (old : List ℕ) → slot_of (f id) 2 ≡ cell → cell ≢ 0 → slot_of (f cell) k ≢ 0 → NoTree f id below old
no_cell f id cell below k old names named some t e s b fresh = leaf_or_none f t id e s.objects (λ z. named (sym names ∙ z)) ⊥ (λ key d value same l c. some (ap (λ x. slot_of (f x) k) (sym names ∙ l.names) ∙ c.null k))

-- its cell was met before
pub no_fresh : (f : ℕ → Option Object) (id cell below : ℕ) (old : List ℕ) → slot_of (f id) 2 ≡ cell → cell ≢ 0 → is_stored old cell ≡ true → NoTree f id below old
no_fresh f id cell below old names named met t e s b fresh =
    leaf_or_none f t id e s.objects (λ z. named (sym names ∙ z)) ⊥ (λ key d value same l c.
    (let free : is_stored old d ≡ false = subst (λ u. AllCells (λ x. is_stored old x ≡ false) u) same fresh in
    contrary (is_stored old cell) met (ap (λ x. is_stored old x) (sym names ∙ l.names) ∙ free)))
  where
    contrary : (x : Bool) → x ≡ true → x ≡ false → ⊥
    contrary true p q = absurd (cc)
    contrary false p q = absurd (cc)

-- ---- an inner object

-- its number isn't below the one above it
pub no_number : (f : ℕ → Option Object) (id below : ℕ) (old : List ℕ) → slot_of (f id) 2 ≡ 0 → below ≤ payload_of (f id) → NoTree f id below old
no_number f id below old n le t e s b fresh =
    inner_or_none f t id e s.objects n ⊥ (λ bit low high same o.
    (let less : bit < below = subst (λ u. IsBelow below u) same b in
    let its : payload_of (f id) ≡ bit = o.bit_is in
    absurd (omega (arith, less, its, le))))

-- it isn't an inner object
pub no_inner : (f : ℕ → Option Object) (id below : ℕ) (old : List ℕ) → slot_of (f id) 2 ≡ 0 → ((bit low high : ℕ) → IsInner (f id) bit low high → ⊥) → NoTree f id below old
no_inner f id below old n none t e s b fresh = inner_or_none f t id e s.objects n ⊥ (λ bit low high same o. none bit (id_of low) (id_of high) o)

-- what stands of a tree below its first object
record Sides (f : ℕ → Option Object) (id low high bit : ℕ) (old : List ℕ) : Type 0 where
  left : Tree
  right : Tree
  parts : Parts bit left right
  left_id : id_of left ≡ low
  right_id : id_of right ≡ high
  left_stands : IsTree f left
  right_stands : IsTree f right
  apart : HaveOtherCells left right
  left_fresh : AllCells (λ c. is_stored old c ≡ false) left
  right_fresh : AllCells (λ c. is_stored old c ≡ false) right

sides_of : (f : ℕ → Option Object) (id low high bit : ℕ) (old : List ℕ) → IsInner (f id) bit low high → slot_of (f id) 2 ≡ 0 → (t : Tree) → id_of t ≡ id → IsTree f t → AllCells (λ c. is_stored old c ≡ false) t → Sides f id low high bit old
sides_of f id low high bit old i n t e s fresh =
    inner_or_none f t id e s.objects n (Sides f id low high bit old) (λ b l r same o.
    (let same_bit : b ≡ bit = sym o.bit_is ∙ i.bit_is in
    let whole : t ≡ inner id bit l r = same ∙ ap (λ x. inner id x l r) same_bit in
    let u : IsTree f (inner id bit l r) = subst (λ x. IsTree f x) whole s in
    let g : AllCells (λ c. is_stored old c ≡ false) (inner id bit l r) = subst (λ x. AllCells (λ c. is_stored old c ≡ false) x) whole fresh in
    record {
      left = l;
      right = r;
      parts = u.critical.0;
      left_id = sym o.names_low ∙ i.names_low;
      right_id = sym o.names_high ∙ i.names_high;
      left_stands = record { objects = u.objects.1; critical = u.critical.1; own_cells = u.own_cells.1 };
      right_stands = record { objects = u.objects.2; critical = u.critical.2; own_cells = u.own_cells.2 };
      apart = u.own_cells.0;
      left_fresh = g.0;
      right_fresh = g.1;
    }))

-- there is no low tree
pub no_low : (f : ℕ → Option Object) (id low high bit below : ℕ) (old : List ℕ) → IsInner (f id) bit low high → slot_of (f id) 2 ≡ 0 → NoTree f low bit old → NoTree f id below old
no_low f id low high bit below old i n none t e s b fresh =
    let x : Sides f id low high bit old = sides_of f id low high bit old i n t e s fresh in
    none x.left x.left_id x.left_stands x.parts.low_below x.left_fresh

-- the low tree is the one that stands there
low_same : (f : ℕ → Option Object) (id low high bit key : ℕ) (old mid : List ℕ) (l : Grown f low bit key old mid) (x : Sides f id low high bit old) → l.tree ≡ x.left
low_same f id low high bit key old mid l x = tree_one f l.tree x.left l.stands.objects x.left_stands.objects (l.named ∙ sym x.left_id)

-- there is no high tree
pub no_high : (f : ℕ → Option Object) (id low high bit below key : ℕ) (old mid : List ℕ) → IsInner (f id) bit low high → slot_of (f id) 2 ≡ 0 → Grown f low bit key old mid → NoTree f high bit mid → NoTree f id below old
no_high f id low high bit below key old mid i n l none t e s b fresh =
    let x : Sides f id low high bit old = sides_of f id low high bit old i n t e s fresh in
    let apart : HaveOtherCells x.right l.tree = other_cells_sym l.tree x.right (subst (λ u. HaveOtherCells u x.right) (sym (low_same f id low high bit key old mid l x)) x.apart) in
    let free : AllCells (λ c. is_stored mid c ≡ false) x.right = cells_map (λ c. AllCells (λ d. c ≢ d) l.tree × (is_stored old c ≡ false)) (λ c. is_stored mid c ≡ false)
    (λ c h. l.met c ∙ both_false (has_cell c l.tree) (is_stored old c) (apart_cell c l.tree h.0) h.1) x.right
    (both_cells (λ c. AllCells (λ d. c ≢ d) l.tree) (λ c. is_stored old c ≡ false) x.right apart x.right_fresh) in
    none x.right x.right_id x.right_stands x.parts.high_below free

-- two keys part at a bit
pub record DoPart (low high bit : ℕ) : Type 0 where
  pub same : above bit low ≡ above bit high
  pub zero : bit_at low bit ≡ 0
  pub one : bit_at high bit ≡ 1

-- of two trees below a bit, keys part at that bit: so do all others
pub parts_by_keys : (bit first last : ℕ) (l r : Tree) → bit < 64 → IsCritBit l → IsCritBit r → IsBelow bit l → IsBelow bit r → HasKey first l → HasKey last r → DoPart first last bit → Parts bit l r
parts_by_keys bit first last l r fits lc rc lb rb lk rk d = record {
  prefix = above bit last;
  number = fits;
  low_keys = keys_map (λ x. (bit_at x bit ≡ bit_at first bit) × (above bit x ≡ above bit first)) (λ x. (bit_at x bit ≡ 0) × (above bit x ≡ above bit last)) (λ x h. (h.0 ∙ d.zero, h.1 ∙ d.same)) l (keys_below bit first l lc lb lk);
  high_keys = keys_map (λ x. (bit_at x bit ≡ bit_at last bit) × (above bit x ≡ above bit last)) (λ x. (bit_at x bit ≡ 1) × (above bit x ≡ above bit last)) (λ x h. (h.0 ∙ d.one, h.1)) r (keys_below bit last r rc rb rk);
  low_below = lb;
  high_below = rb;
}

-- a key of a tree of which each key is so
pub keys_part : (bit first last : ℕ) (l r : Tree) → Parts bit l r → HasKey first l → HasKey last r → DoPart first last bit
keys_part bit first last l r p lk rk =
    let a = has_key (λ x. (bit_at x bit ≡ 0) × (above bit x ≡ p.prefix)) first l p.low_keys lk in
    let b = has_key (λ x. (bit_at x bit ≡ 1) × (above bit x ≡ p.prefix)) last r p.high_keys rk in
    record { same = a.1 ∙ sym b.1; zero = a.0; one = b.0 }

-- keys of both trees don't part at the bit
pub no_parts : (f : ℕ → Option Object) (id low high bit below first last : ℕ) (old mid new : List ℕ) → IsInner (f id) bit low high → slot_of (f id) 2 ≡ 0 → Grown f low bit first old mid → Grown f high bit last mid new → (DoPart first last bit → ⊥) → NoTree f id below old
no_parts f id low high bit below first last old mid new i n l r none t e s b fresh =
    let x : Sides f id low high bit old = sides_of f id low high bit old i n t e s fresh in
    let right : r.tree ≡ x.right = tree_one f r.tree x.right r.stands.objects x.right_stands.objects (r.named ∙ sym x.right_id) in
    none (keys_part bit first last x.left x.right x.parts (subst (λ u. HasKey first u) (low_same f id low high bit first old mid l x) l.has) (subst (λ u. HasKey last u) right r.has))

-- a tree stands
pub inner_grown : (f : ℕ → Option Object) (id low high bit below first last : ℕ) (old mid new : List ℕ) → IsInner (f id) bit low high → bit < below → below ≤ 64 → Grown f low bit first old mid → Grown f high bit last mid new → DoPart first last bit → Grown f id below last old new
inner_grown f id low high bit below first last old mid new i less few l r d =
    let fits : bit < 64 = omega (arith, less, few) in
    let named : IsInner (f id) bit (id_of l.tree) (id_of r.tree) = subst (λ x. IsInner (f id) bit x (id_of r.tree)) (sym l.named) (subst (λ x. IsInner (f id) bit low x) (sym r.named) i) in
    let free : AllCells (λ c. (has_cell c l.tree || is_stored old c) ≡ false) r.tree = cells_map (λ c. is_stored mid c ≡ false) (λ c. (has_cell c l.tree || is_stored old c) ≡ false) (λ c h. sym (l.met c) ∙ h) r.tree r.fresh in
    let apart : HaveOtherCells r.tree l.tree = cells_map (λ c. (has_cell c l.tree || is_stored old c) ≡ false) (λ c. AllCells (λ d. c ≢ d) l.tree) (λ c h. cell_apart c l.tree (or_false_left (has_cell c l.tree) (is_stored old c) h)) r.tree free in
    record {
      tree = inner id bit l.tree r.tree;
      named = refl;
      stands = record {
        objects = (named, l.stands.objects, r.stands.objects);
        critical = (parts_by_keys bit first last l.tree r.tree fits l.stands.critical r.stands.critical l.below_bit r.below_bit l.has r.has d, l.stands.critical, r.stands.critical);
        own_cells = (other_cells_sym r.tree l.tree apart, l.stands.own_cells, r.stands.own_cells);
      };
      below_bit = less;
      has = inr r.has;
      fresh = (l.fresh, cells_map (λ c. (has_cell c l.tree || is_stored old c) ≡ false) (λ c. is_stored old c ≡ false) (λ c h. or_false_right (has_cell c l.tree) (is_stored old c) h) r.tree free);
      met = λ c. r.met c ∙ ap (λ x. has_cell c r.tree || x) (l.met c) ∙ regroup (has_cell c l.tree) (has_cell c r.tree) (is_stored old c);
    }

-- ---- a test of two keys

pub digits_part : (low high bit : ℕ) → low / 2 ^ bit / 2 ≡ high / 2 ^ bit / 2 → bit_and (low / 2 ^ bit) 1 ≡ 0 → bit_and (high / 2 ^ bit) 1 ≡ 1 → (above bit low ≡ above bit high) × (bit_at low bit ≡ 0) × (bit_at high bit ≡ 1)
digits_part low high bit a z o = (sym (shr-shr low bit 1) ∙ a ∙ shr-shr high bit 1, sym (shr_and_one low bit) ∙ z, sym (shr_and_one high bit) ∙ o)

pub part_digits : (low high bit : ℕ) → (above bit low ≡ above bit high) × (bit_at low bit ≡ 0) × (bit_at high bit ≡ 1) → (low / 2 ^ bit / 2 ≡ high / 2 ^ bit / 2) × (bit_and (low / 2 ^ bit) 1 ≡ 0) × (bit_and (high / 2 ^ bit) 1 ≡ 1)
part_digits low high bit h = (shr-shr low bit 1 ∙ h.0 ∙ sym (shr-shr high bit 1), shr_and_one low bit ∙ h.1, shr_and_one high bit ∙ h.2)

pub do_part : (low high bit : ℕ) → (above bit low ≡ above bit high) × (bit_at low bit ≡ 0) × (bit_at high bit ≡ 1) → DoPart low high bit
do_part low high bit h = record { same = h.0; zero = h.1; one = h.2 }

pub part_does : (low high bit : ℕ) → DoPart low high bit → (above bit low ≡ above bit high) × (bit_at low bit ≡ 0) × (bit_at high bit ≡ 1)
part_does low high bit d = (d.same, d.zero, d.one)

-- ---- at a later moment with the same graph

pub moved : (v w : Seen) (P : (ℕ → Option Object) → Type 0) → w.graph ≡ v.graph → P (at w) → P (at v)
moved v w P e h = subst (λ g. P (object_at g)) e h

pub moved_on : (v w : Seen) (P : (ℕ → Option Object) → Type 0) → w.graph ≡ v.graph → P (at v) → P (at w)
moved_on v w P e h = subst (λ g. P (object_at g)) (sym e) h

-- ---- the bits of a guide

pub bit_here : (guide bit : ℕ) → bit < 64 → bit_at (bit_or guide (1 * 2 ^ bit % 2 ^ 64)) bit ≡ 1
bit_here guide bit l = bit_at_set_same w64 guide bit l

pub bit_other : (guide bit b : ℕ) → bit < 64 → b ≢ bit → bit_at (bit_or guide (1 * 2 ^ bit % 2 ^ 64)) b ≡ bit_at guide b
bit_other guide bit b l n = bit_at_set_other w64 guide bit l b n
