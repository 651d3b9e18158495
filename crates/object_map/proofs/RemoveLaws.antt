-- A key that is taken away.
use Rattle.std.proofs.Common.{◌≡◌, ◌≢◌, ℕ, List, [], ◌∷◌, Option, Some, None, refl, sym, ap, ◌∙◌, subst, arith, ◌-◌, Bool, true, false}
use Rattle.plain_model.specs.declared.object.Object.{Object}
use Rattle.plain_model.specs.declared.write.Place.TheVariants.{Slot}
use Rattle.plain_model.specs.Graphs.{root, object_at}
use Rattle.std.specs.Prelude.{IsSome}
use Rattle.plain_model.specs.Machine.{nonzero}
use Rattle.plain_map.specs.Pairs.{without_key, value_of}
use Rattle.object_map.specs.Ways.Turn.{to_low, to_high}
use Rattle.object_map.specs.Seeking.{HangsTwice, IsSought, HasTree}
use Rattle.object_map.proofs.GetLaws.{HoldsMap, some_same, value_on_way}
use Rattle.plain_map.proofs.ValueLaws.{value_here, value_next}
use Rattle.object_map.proofs.NextLaws.{under_tree}
use Rattle.object_map.proofs.SeekLaws.{under_same}
use Rattle.object_map.specs.Trees.{Tree, id_of, pairs_of, IsCritBit}
use Rattle.object_map.specs.Trees.Tree.{leaf, inner}
use Rattle.object_map.specs.Maps.{AreObjects, IsTree, IsLeaf, IsCell, IsMapOf, IsMap, slot_of, payload_of}
use Rattle.object_map.specs.Seen.{Seen, at, held, held_id, Loads, Writes}
use Rattle.object_map.specs.Ways.{Turn, whole, Follows}
use Rattle.object_map.specs.Parting.{HangsUnder}
use Rattle.plain_map.proofs.ChangeLaws.{remove_local, drop_first, none_there}
use Rattle.object_map.proofs.CellLaws.{own_within}
use Rattle.object_map.proofs.ReplaceLaws.{agrees_itself, low_removed, high_removed, low_removed_pairs, high_removed_pairs}
use Rattle.object_map.proofs.WayLaws.{objects_within, critical_within, held_here, held_some, nonzero_some}
use Rattle.object_map.proofs.MakeLaws.{slot_written}
use Rattle.object_map.proofs.RelinkLaws.{hang, slot_set, slot_room}
use Rattle.object_map.proofs.MapTreeLaws.{MapTree, map_of}

-- the slot under which an inner object hangs, whose low tree is the key's leaf, is set to name its high tree
pub low_remove : (holder : ℕ) (q e : Seen) (turns : List Turn) (p n i key c v r s value : ℕ) (other : Tree) (pairs : List (ℕ × ℕ)) → IsTree (at q) (whole turns (inner p n (leaf i key c v) other)) → Follows key turns
    → slot_of (at q root) 13 ≡ id_of (whole turns (inner p n (leaf i key c v) other)) → slot_of (at q root) 13 ≢ 0 → HangsUnder holder q turns r s → held q 0 ≡ Some root → value ≡ id_of other → Writes (held_id q r) (Slot s) value q e
    → pairs ≡ pairs_of (whole turns (inner p n (leaf i key c v) other)) → MapTree 13 (at e) (without_key key pairs) (whole turns other)
low_remove holder q e turns p n i key c v r s value other pairs a f under named h k m w same =
    let t : Tree = inner p n (leaf i key c v) other in
    let objects : AreObjects (at q) t = objects_within (at q) turns t a.objects in
    let crit : IsCritBit t = critical_within turns t a.critical in
    hang holder (at q) q e (λ _. Unit {0}) key key (without_key key) (remove_local key) turns t other r s value pairs a (agrees_itself key turns f)
    (low_removed (at q) p n i key c v other crit (own_within turns t a.own_cells)) (low_removed_pairs p n i key c v other crit) (λ j x. refl) under named h k m objects.0.high_named w objects.2 (λ j x o. o.2) same

-- the same, where the leaf is its high tree
pub high_remove : (holder : ℕ) (q e : Seen) (turns : List Turn) (p n i key c v r s value : ℕ) (other : Tree) (pairs : List (ℕ × ℕ)) → IsTree (at q) (whole turns (inner p n other (leaf i key c v))) → Follows key turns
    → slot_of (at q root) 13 ≡ id_of (whole turns (inner p n other (leaf i key c v))) → slot_of (at q root) 13 ≢ 0 → HangsUnder holder q turns r s → held q 0 ≡ Some root → value ≡ id_of other → Writes (held_id q r) (Slot s) value q e
    → pairs ≡ pairs_of (whole turns (inner p n other (leaf i key c v))) → MapTree 13 (at e) (without_key key pairs) (whole turns other)
high_remove holder q e turns p n i key c v r s value other pairs a f under named h k m w same =
    let t : Tree = inner p n other (leaf i key c v) in
    let objects : AreObjects (at q) t = objects_within (at q) turns t a.objects in
    let crit : IsCritBit t = critical_within turns t a.critical in
    hang holder (at q) q e (λ _. Unit {0}) key key (without_key key) (remove_local key) turns t other r s value pairs a (agrees_itself key turns f)
    (high_removed (at q) p n i key c v other crit (own_within turns t a.own_cells)) (high_removed_pairs p n i key c v other crit) (λ j x. refl) under named h k m objects.0.low_named w objects.1 (λ j x o. o.1) same

-- ---- the map before and after a removal

-- its only leaf went
pub record Emptied (key : ℕ) (f g : ℕ → Option Object) (pairs : List (ℕ × ℕ)) : Type 0 where
  pub id : ℕ
  pub cell : ℕ
  pub value : ℕ
  pub before : MapTree 13 f pairs (leaf id key cell value)
  pub after : slot_of (g root) 13 ≡ 0

pub emptied_pairs : {key : ℕ} {f g : ℕ → Option Object} {pairs : List (ℕ × ℕ)} → Emptied key f g pairs → without_key key pairs ≡ []
emptied_pairs {key} {f} {g} {pairs} h = ap (without_key key) h.before.same ∙ drop_first key h.value [] tt

pub emptied_map : {key : ℕ} {f g : ℕ → Option Object} {pairs : List (ℕ × ℕ)} → Emptied key f g pairs → IsMapOf 13 g (without_key key pairs)
emptied_map {key} {f} {g} {pairs} h = record { tree = None; stands = h.after; same = emptied_pairs h }

-- a leaf went with the inner object over it, whose low or high tree it was, and the other tree took their place
pub data Unhung (key : ℕ) (f g : ℕ → Option Object) (pairs : List (ℕ × ℕ)) : Type 0 where
  low_gone : (turns : List Turn) (holder bit id cell value : ℕ) (other : Tree) → MapTree 13 f pairs (whole turns (inner holder bit (leaf id key cell value) other)) → MapTree 13 g (without_key key pairs) (whole turns other) → Unhung key f g pairs
  high_gone : (turns : List Turn) (holder bit id cell value : ℕ) (other : Tree) → MapTree 13 f pairs (whole turns (inner holder bit other (leaf id key cell value))) → MapTree 13 g (without_key key pairs) (whole turns other) → Unhung key f g pairs

pub unhung_map : {key : ℕ} {f g : ℕ → Option Object} {pairs : List (ℕ × ℕ)} → Unhung key f g pairs → IsMapOf 13 g (without_key key pairs)
unhung_map (low_gone turns holder bit id cell value other m n) = map_of n
unhung_map (high_gone turns holder bit id cell value other m n) = map_of n

-- ---- the leaf that was sought

pub has_tree : (v w : Seen) (id : ℕ) (pairs : List (ℕ × ℕ)) → held v 0 ≡ Some root → id ≡ slot_of (at v (held_id v 0)) 13 → id ≢ 0 → Loads 1 (nonzero id) v w → HoldsMap w pairs → HasTree 13 w
has_tree v w id pairs r e n l h =
    let first : id ≡ id_of h.tree = some_same id (id_of h.tree) (sym (l.here ∙ nonzero_some id n) ∙ h.here) in
    record { tree = h.tree; under = ap (λ g. slot_of (object_at g root) 13) l.graph ∙ ap (λ i. slot_of (at v i) 13) (sym (held_here v 0 root r)) ∙ sym e ∙ first; named = λ z. n (first ∙ z); stands = h.stands }

pub sought_pairs : (key found side r s : ℕ) (only : Bool) (v w x : Seen) (pairs : List (ℕ × ℕ)) (a : IsSought key found side r s only w x) → w.graph ≡ v.graph → IsMap 13 v.graph pairs → pairs ≡ pairs_of (whole a.turns (leaf a.id found a.cell a.value))
sought_pairs key found side r s only v w x pairs a g m =
    under_tree (at w) 13 pairs (whole a.turns (leaf a.id found a.cell a.value)) (subst (λ h. IsMapOf 13 (object_at h) pairs) (sym g) m) a.start a.named a.stands.objects

sought_way : (key found side r s : ℕ) (only : Bool) (v w x : Seen) (pairs : List (ℕ × ℕ)) (a : IsSought key found side r s only w x) → w.graph ≡ v.graph → IsMap 13 v.graph pairs → value_of key pairs ≡ value_of key ((found, a.value) ∷ [])
sought_way key found side r s only v w x pairs a g m = ap (value_of key) (sought_pairs key found side r s only v w x pairs a g m) ∙ value_on_way key a.turns (leaf a.id found a.cell a.value) a.stands.critical a.follows

pub sought_missing : (key found side r s : ℕ) (only : Bool) (v w x : Seen) (pairs : List (ℕ × ℕ)) (a : IsSought key found side r s only w x) → w.graph ≡ v.graph → IsMap 13 v.graph pairs → found ≢ key → None ≡ value_of key pairs
sought_missing key found side r s only v w x pairs a g m n = sym (sought_way key found side r s only v w x pairs a g m ∙ value_next key (found, a.value) [] n)

pub missing_removed : (k : ℕ) (v w : Seen) (pairs : List (ℕ × ℕ)) → w.graph ≡ v.graph → IsMap 13 v.graph pairs → None ≡ value_of k pairs → IsMap 13 w.graph (without_key k pairs)
missing_removed k v w pairs g m e = subst (λ ps. IsMap 13 w.graph ps) (sym (none_there k pairs e)) (subst (λ h. IsMap 13 h pairs) (sym g) m)

sought_cell : (key found side r s : ℕ) (only : Bool) (w x : Seen) (a : IsSought key found side r s only w x) → IsLeaf (at w a.id) found a.cell × IsCell (at w a.cell) a.value
sought_cell key found side r s only w x a = objects_within (at w) a.turns (leaf a.id found a.cell a.value) a.stands.objects

pub sought_here : (key found side r s id : ℕ) (only : Bool) (w x y : Seen) (a : IsSought key found side r s only w x) → id ≡ slot_of (at x (held_id x 1)) 2 → Loads 4 (nonzero id) x y → held y 4 ≡ Some a.cell
sought_here key found side r s id only w x y a e l =
    let c = sought_cell key found side r s only w x a in
    let told : id ≡ a.cell = e ∙ ap (λ i. slot_of (at x i) 2) (held_here x 1 a.id a.here) ∙ ap (λ g. slot_of (object_at g a.id) 2) a.graph ∙ c.0.names in
    l.here ∙ nonzero_some id (λ z. c.0.named (sym told ∙ z)) ∙ ap (λ q. Some q) told

pub sought_value : (key found side r s id value : ℕ) (only : Bool) (v w x y : Seen) (pairs : List (ℕ × ℕ)) (a : IsSought key found side r s only w x) → w.graph ≡ v.graph → IsMap 13 v.graph pairs → found ≡ key → id ≡ slot_of (at x (held_id x 1)) 2 → Loads 4 (nonzero id) x y → value ≡ payload_of (at y (held_id y 4)) → Some value ≡ value_of key pairs
sought_value key found side r s id value only v w x y pairs a g m f e l p =
    let has : value ≡ a.value = p ∙ ap (λ i. payload_of (at y i)) (held_here y 4 a.cell (sought_here key found side r s id only w x y a e l)) ∙ ap (λ h. payload_of (object_at h a.cell)) (l.graph ∙ a.graph) ∙ (sought_cell key found side r s only w x a).1.value_is in
    ap (λ q. Some q) has ∙ sym (sought_way key found side r s only v w x pairs a g m ∙ value_here key (found, a.value) [] f)

no_bool : true ≡ false → ⊥
no_bool e = absurd (cc)

-- the only leaf goes
pub only_removed : (key found side r s : ℕ) (only : Bool) (v w x y z : Seen) (pairs : List (ℕ × ℕ)) (a : IsSought key found side r s only w x) → w.graph ≡ v.graph → IsMap 13 v.graph pairs → found ≡ key → only ≡ true → y.graph ≡ x.graph → held y 0 ≡ Some root → Writes (held_id y 0) (Slot 13) 0 y z
    → Emptied key (at w) (at z) pairs
only_removed key found side r s only v w x y z pairs a g m f o h k u = by a.turns a.stands a.start a.hangs (sought_pairs key found side r s only v w x pairs a g m)
  where
    by : (turns : List Turn) → IsTree (at w) (whole turns (leaf a.id found a.cell a.value)) → slot_of (at w root) 13 ≡ id_of (whole turns (leaf a.id found a.cell a.value)) → HangsTwice x turns only side r s → pairs ≡ pairs_of (whole turns (leaf a.id found a.cell a.value)) → Emptied key (at w) (at z) pairs
    by [] b c t e =
        let full : slot_of (at y root) 13 ≢ 0 = λ q. a.named (ap (λ i. slot_of (object_at i root) 13) (sym (h ∙ a.graph)) ∙ q) in
        record {
          id = a.id;
          cell = a.cell;
          value = a.value;
          before = record { under = c; named = λ q. a.named (c ∙ q); stands = subst (λ i. IsTree (at w) (leaf a.id i a.cell a.value)) f b; same = e ∙ ap (λ (i : ℕ). (i, a.value) ∷ []) f };
          after = ap (λ i. slot_of i 13) (slot_written root 13 0 y z (subst (λ i. Writes i (Slot 13) 0 y z) (held_here y 0 root k) u)) ∙ slot_set (at y root) 13 0 (slot_room (at y root) 13 full);
        }
    by (to_low i b q ∷ turns) c d t e = absurd (no_bool (sym o ∙ t.0))
    by (to_high i b q ∷ turns) c d t e = absurd (no_bool (sym o ∙ t.0))

-- the leaf goes with the object under which it hangs
pub twice_removed : (key found side r s id : ℕ) (only : Bool) (v w x y q e : Seen) (pairs : List (ℕ × ℕ)) (a : IsSought key found side r s only w x) → w.graph ≡ v.graph → IsMap 13 v.graph pairs → found ≡ key → only ≡ false → y.graph ≡ x.graph → ((j : ℕ) → j ≢ 4 → held y j ≡ held x j)
    → id ≡ slot_of (at y (held_id y 2)) (1 - side) → Loads 1 (nonzero id) y q → Writes (held_id q r) (Slot s) (held_id q 1) q e → Unhung key (at q) (at e) pairs
twice_removed key found side r s id only v w x y q e pairs a g m f o h k d l u = by a.turns a.stands a.start a.follows a.hangs (sought_pairs key found side r s only v w x pairs a g m)
  where
    graph : q.graph ≡ w.graph
    graph = l.graph ∙ h ∙ a.graph

    rooted : held q 0 ≡ Some root
    rooted = l.others 0 (λ z. absurd (omega (arith, z))) ∙ k 0 (λ z. absurd (omega (arith, z))) ∙ a.rooted

    named : slot_of (at q root) 13 ≢ 0
    named = λ z. a.named (ap (λ i. slot_of (object_at i root) 13) (sym graph) ∙ z)

    by : (turns : List Turn) → IsTree (at w) (whole turns (leaf a.id found a.cell a.value)) → slot_of (at w root) 13 ≡ id_of (whole turns (leaf a.id found a.cell a.value)) → Follows key turns → HangsTwice x turns only side r s → pairs ≡ pairs_of (whole turns (leaf a.id found a.cell a.value)) → Unhung key (at q) (at e) pairs
    by [] b c i t n = absurd (no_bool (sym t.0 ∙ o))
    by (to_low j z other ∷ turns) b c i t n =
        let b' : IsTree (at q) (whole turns (inner j z (leaf a.id key a.cell a.value) other)) = subst (λ y. IsTree (object_at y) (whole turns (inner j z (leaf a.id key a.cell a.value) other))) (sym graph) (subst (λ y. IsTree (at w) (whole turns (inner j z (leaf a.id y a.cell a.value) other))) f b) in
        let c' : slot_of (at q root) 13 ≡ id_of (whole turns (inner j z (leaf a.id key a.cell a.value) other)) = ap (λ i. slot_of (object_at i root) 13) graph ∙ c ∙ ap (λ y. id_of (whole turns (inner j z (leaf a.id y a.cell a.value) other))) f in
        let n' : pairs ≡ pairs_of (whole turns (inner j z (leaf a.id key a.cell a.value) other)) = n ∙ ap (λ y. pairs_of (whole turns (inner j z (leaf a.id y a.cell a.value) other))) f in
        let o' = (objects_within (at q) turns (inner j z (leaf a.id key a.cell a.value) other) b'.objects).0 in
        let here : held y 2 ≡ Some j = k 2 (λ z. absurd (omega (arith, z))) ∙ t.2 in
        let told : id ≡ id_of other = d ∙ ap (λ i. slot_of (at y i) (1 - side)) (held_here y 2 j here) ∙ ap (λ i. slot_of (object_at i j) (1 - side)) (sym l.graph) ∙ ap (λ i. slot_of (at q j) (1 - i)) t.1 ∙ o'.names_high in
        let one : held q 1 ≡ Some (id_of other) = l.here ∙ nonzero_some id (λ z. o'.high_named (sym told ∙ z)) ∙ ap (λ i. Some i) told in
        low_gone turns j z a.id a.cell a.value other (record { under = c'; named = λ y. named (c' ∙ y); stands = b'; same = n' })
        (low_remove 3 q e turns j z a.id key a.cell a.value r s (held_id q 1) other pairs b' i.1 c' named (under_same x q turns r s (l.others 3 (λ z. absurd (omega (arith, z))) ∙ k 3 (λ z. absurd (omega (arith, z)))) t.3) rooted (held_here q 1 (id_of other) one) u n')
    by (to_high j z other ∷ turns) b c i t n =
        let b' : IsTree (at q) (whole turns (inner j z other (leaf a.id key a.cell a.value))) = subst (λ y. IsTree (object_at y) (whole turns (inner j z other (leaf a.id key a.cell a.value)))) (sym graph) (subst (λ y. IsTree (at w) (whole turns (inner j z other (leaf a.id y a.cell a.value)))) f b) in
        let c' : slot_of (at q root) 13 ≡ id_of (whole turns (inner j z other (leaf a.id key a.cell a.value))) = ap (λ i. slot_of (object_at i root) 13) graph ∙ c ∙ ap (λ y. id_of (whole turns (inner j z other (leaf a.id y a.cell a.value)))) f in
        let n' : pairs ≡ pairs_of (whole turns (inner j z other (leaf a.id key a.cell a.value))) = n ∙ ap (λ y. pairs_of (whole turns (inner j z other (leaf a.id y a.cell a.value)))) f in
        let o' = (objects_within (at q) turns (inner j z other (leaf a.id key a.cell a.value)) b'.objects).0 in
        let here : held y 2 ≡ Some j = k 2 (λ z. absurd (omega (arith, z))) ∙ t.2 in
        let told : id ≡ id_of other = d ∙ ap (λ i. slot_of (at y i) (1 - side)) (held_here y 2 j here) ∙ ap (λ i. slot_of (object_at i j) (1 - side)) (sym l.graph) ∙ ap (λ i. slot_of (at q j) (1 - i)) t.1 ∙ o'.names_low in
        let one : held q 1 ≡ Some (id_of other) = l.here ∙ nonzero_some id (λ z. o'.low_named (sym told ∙ z)) ∙ ap (λ i. Some i) told in
        high_gone turns j z a.id a.cell a.value other (record { under = c'; named = λ y. named (c' ∙ y); stands = b'; same = n' })
        (high_remove 3 q e turns j z a.id key a.cell a.value r s (held_id q 1) other pairs b' i.1 c' named (under_same x q turns r s (l.others 3 (λ z. absurd (omega (arith, z))) ∙ k 3 (λ z. absurd (omega (arith, z)))) t.3) rooted (held_here q 1 (id_of other) one) u n')

-- the tree beside the leaf is there
pub twice_full : (key found side r s id : ℕ) (only : Bool) (w x y q : Seen) (a : IsSought key found side r s only w x) → only ≡ false → y.graph ≡ x.graph → ((j : ℕ) → j ≢ 4 → held y j ≡ held x j) → id ≡ slot_of (at y (held_id y 2)) (1 - side) → Loads 1 (nonzero id) y q → IsSome (held q 1)
twice_full key found side r s id only w x y q a o h k d l = by a.turns a.stands.objects a.hangs
  where
    by : (turns : List Turn) → AreObjects (at w) (whole turns (leaf a.id found a.cell a.value)) → HangsTwice x turns only side r s → IsSome (held q 1)
    by [] b t = absurd (no_bool (sym t.0 ∙ o))
    by (to_low j z other ∷ turns) b t =
        let o' = (objects_within (at w) turns (inner j z (leaf a.id found a.cell a.value) other) b).0 in
        let here : held y 2 ≡ Some j = k 2 (λ z. absurd (omega (arith, z))) ∙ t.2 in
        let told : id ≡ id_of other = d ∙ ap (λ i. slot_of (at y i) (1 - side)) (held_here y 2 j here) ∙ ap (λ i. slot_of (object_at i j) (1 - side)) (h ∙ a.graph) ∙ ap (λ i. slot_of (at w j) (1 - i)) t.1 ∙ o'.names_high in
        held_some q 1 id (l.here ∙ nonzero_some id (λ z. o'.high_named (sym told ∙ z)))
    by (to_high j z other ∷ turns) b t =
        let o' = (objects_within (at w) turns (inner j z other (leaf a.id found a.cell a.value)) b).0 in
        let here : held y 2 ≡ Some j = k 2 (λ z. absurd (omega (arith, z))) ∙ t.2 in
        let told : id ≡ id_of other = d ∙ ap (λ i. slot_of (at y i) (1 - side)) (held_here y 2 j here) ∙ ap (λ i. slot_of (object_at i j) (1 - side)) (h ∙ a.graph) ∙ ap (λ i. slot_of (at w j) (1 - i)) t.1 ∙ o'.names_low in
        held_some q 1 id (l.here ∙ nonzero_some id (λ z. o'.low_named (sym told ∙ z)))
