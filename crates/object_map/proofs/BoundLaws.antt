-- How many looks find a tree.
use Rattle.std.proofs.Common.{◌≡◌, ◌≢◌, ℕ, ◌+◌, ◌*◌, ◌≤◌, List, [], ◌++◌, length, Option, Some, None, refl, sym, ap, ◌∙◌, arith}
use Rattle.std.proofs.lemmas.List.{length-append}
use Rattle.plain_model.specs.declared.object.Object.{Object}
use Rattle.plain_model.specs.Graphs.{root}
use Rattle.object_map.specs.Trees.{Tree, id_of, pairs_of, forks_in}
use Rattle.object_map.specs.Trees.Tree.{leaf, inner}
use Rattle.object_map.specs.Maps.{AreObjects, IsInner, IsMapOf, StandsUnder, pairs_in, slot_of}
use Rattle.object_map.specs.Clients.{ClientView, Asks}
use Rattle.object_map.proofs.AskLaws.{asks_then, asks_within}

-- a tree has a pair more than inner objects
pub forks_pairs : (t : Tree) → length (pairs_of t) ≡ forks_in t + 1
forks_pairs (leaf i k c v) = refl
forks_pairs (inner i b l r) =
    let e : length (pairs_of l ++ pairs_of r) ≡ length (pairs_of l) + length (pairs_of r) = length-append (pairs_of l) (pairs_of r) in
    let p : length (pairs_of l) ≡ forks_in l + 1 = forks_pairs l in
    let q : length (pairs_of r) ≡ forks_in r + 1 = forks_pairs r in
    omega (arith, e, p, q)

-- the trees of an inner object
pub record TwoSides (f : ℕ → Option Object) (low high forks : ℕ) : Type 0 where
  pub left : Tree
  pub right : Tree
  pub left_id : id_of left ≡ low
  pub right_id : id_of right ≡ high
  pub left_objects : AreObjects f left
  pub right_objects : AreObjects f right
  pub count : forks ≡ forks_in left + forks_in right + 1

pub two_sides_of : (f : ℕ → Option Object) (id bit low high : ℕ) (t : Tree) → IsInner (f id) bit low high → id_of t ≡ id → AreObjects f t → TwoSides f low high (forks_in t)
two_sides_of f id bit low high (leaf i k c v) x e o = absurd (o.0.named (sym o.0.names ∙ ap (λ y. slot_of (f y) 2) e ∙ x.null 2 (λ z. absurd (omega (arith, z))) (λ z. absurd (omega (arith, z)))))
two_sides_of f id bit low high (inner i b l r) x e o = record {
  left = l;
  right = r;
  left_id = sym o.0.names_low ∙ ap (λ y. slot_of (f y) 0) e ∙ x.names_low;
  right_id = sym o.0.names_high ∙ ap (λ y. slot_of (f y) 1) e ∙ x.names_high;
  left_objects = o.1;
  right_objects = o.2;
  count = refl;
}

-- the looks of an inner object and those of its trees
pub looks_inner : {D : Type 0} (a b n : ℕ) {s t u v w x y z : ClientView D} → Asks 1 [] s t → Asks 1 [] t u → Asks 16 [] u v → Asks 1 [] v w → Asks (30 + 178 * a) [] w x → Asks 129 [] x y → Asks (30 + 178 * b) [] y z → n ≡ a + b + 1 → Asks (30 + 178 * n) [] s z
looks_inner {D} a b n c d e f g h i m =
    let few : 1 + (1 + (16 + (1 + ((30 + 178 * a) + (129 + (30 + 178 * b)))))) ≤ 30 + 178 * n = omega (arith, m) in
    asks_within few (asks_then c (asks_then d (asks_then e (asks_then f (asks_then g (asks_then h i))))))

-- those of a leaf
pub looks_leaf : {D : Type 0} (n : ℕ) {s t u v : ClientView D} → Asks 1 [] s t → Asks 1 [] t u → Asks 28 [] u v → Asks (30 + 178 * n) [] s v
looks_leaf {D} n a b c =
    let few : 1 + (1 + 28) ≤ 30 + 178 * n = omega arith in
    asks_within few (asks_then a (asks_then b c))

-- those of the whole map, whose tree the root's slot names
pub looks_map : {D : Type 0} (f : ℕ → Option Object) (id : ℕ) (pairs : List (ℕ × ℕ)) {s t u : ClientView D} → IsMapOf 13 f pairs → id ≡ slot_of (f root) 13 → id ≢ 0 → Asks 1 [] s t → ((x : Tree) → id_of x ≡ id → AreObjects f x → Asks (30 + 178 * forks_in x) [] t u) → Asks (1 + 178 * length pairs) [] s u
looks_map {D} f id pairs {s} {t} {u} m told n a h = by m.tree m.stands m.same
  where
    by : (o : Option Tree) → StandsUnder f (slot_of (f root) 13) o → pairs ≡ pairs_in o → Asks (1 + 178 * length pairs) [] s u
    by None w e = absurd (n (told ∙ w))
    by (Some x) w e =
        let count : length pairs ≡ forks_in x + 1 = ap (λ ps. length ps) e ∙ forks_pairs x in
        let few : 1 + (30 + 178 * forks_in x) ≤ 1 + 178 * length pairs = omega (arith, count) in
        asks_within few (asks_then a (h x (w.1 ∙ sym told) w.2.objects))
