-- A key that gets a value.
use Rattle.std.proofs.Common.{◌≡◌, ◌≢◌, ℕ, ◌<◌, ◌^◌, List, [], ◌∷◌, ◌++◌, Option, Some, None, refl, sym, ap, ◌∙◌, subst, arith, true, Bool}
use Rattle.std.specs.Prelude.{is_some, option_map}
use Rattle.std.specs.Int.{bit_at}
use Rattle.plain_model.specs.declared.object.Object.{Object}
use Rattle.plain_model.specs.declared.write.Place.TheVariants.{Slot, Payload}
use Rattle.plain_model.specs.declared.calls.Call.TheVariants as call
use Rattle.plain_model.specs.Graphs.{root, object_at, set_place}
use Rattle.plain_model.specs.Machine.{nonzero}
use Rattle.plain_map.specs.Pairs.{value_of, with_pair}
use Rattle.object_map.specs.Trees.{Tree, id_of, pairs_of, HaveBit, IsCritBit, above}
use Rattle.object_map.specs.Trees.Tree.{leaf, inner}
use Rattle.object_map.specs.Maps.{AreObjects, IsLeaf, IsInner, IsCell, IsTree, IsMap, slot_of, room_of}
use Rattle.object_map.specs.Seen.{Seen, at, held, held_id, Loads, Writes}
use Rattle.object_map.specs.Ways.{whole, HasKey, IsAtLeaf}
use Rattle.object_map.specs.Parting.{IsCritical, IsOnPart}
use Rattle.object_map.specs.Making.{MakesLeaf, MakesInner, MakesFork}
use Rattle.object_map.specs.Clients.{fork_calls}
use Rattle.object_map.specs.Changes.{PutsBy}
use Rattle.object_map.specs.Changes.PutsBy.{parts}
use Rattle.object_map.proofs.TreeLaws.{keys_map}
use Rattle.plain_map.proofs.ChangeLaws.{put_local}
use Rattle.object_map.proofs.CellLaws.{own_within}
use Rattle.object_map.proofs.ReplaceLaws.{low_inserted, high_inserted, low_inserted_pairs, high_inserted_pairs}
use Rattle.object_map.proofs.LinkLaws.{stays_there}
use Rattle.object_map.proofs.HungLaws.{Hung, value_set, keys_below}
use Rattle.object_map.proofs.GetLaws.{HoldsMap, holds_map, empty_map, cell_here, cell_of, same_tree, some_same}
use Rattle.object_map.proofs.PartLaws.{leads_has, hangs_same}
use Rattle.object_map.proofs.NextLaws.{smaller_bit, critical_turned}
use Rattle.object_map.proofs.MakeLaws.{writes_other, slot_written, payload_written, apart_new}
use Rattle.object_map.proofs.RelinkLaws.{hang, slot_set, slot_room, room_some, id_whole}
use Rattle.object_map.proofs.MapTreeLaws.{MapTree}
use Rattle.object_map.proofs.WayLaws.{objects_within, critical_within, held_here, nonzero_some}

-- ---- the first key

pub empty_put : (key value id : ℕ) (v x y z : Seen) (pairs : List (ℕ × ℕ)) → key < 2 ^ 64 → held v 0 ≡ Some root → 13 < room_of (at v root) → IsMap 13 v.graph pairs → id ≡ slot_of (at v (held_id v 0)) 13 → id ≡ 0 → Loads 1 (nonzero id) v x → (k : MakesLeaf key value x y) → Writes (held_id y 0) (Slot 13) (held_id y 3) y z
    → MapTree 13 (at z) (with_pair key value pairs) (leaf k.leaf key k.cell value)
empty_put key value id v x y z pairs bound r room m e n l k w =
    let empty : pairs ≡ [] = empty_map v 13 id pairs r m e n in
    let root0 : held y 0 ≡ Some root = k.others 0 (λ q. absurd (omega (arith, q))) (λ q. absurd (omega (arith, q))) ∙ l.others 0 (λ q. absurd (omega (arith, q))) ∙ r in
    let w' : Writes root (Slot 13) k.leaf y z = subst (λ i. Writes root (Slot 13) i y z) (held_here y 3 k.leaf k.here) (subst (λ i. Writes i (Slot 13) (held_id y 3) y z) (held_here y 0 root root0) w) in
    let room_x : 13 < room_of (at x root) = subst (λ g. 13 < room_of (object_at g root)) (sym l.graph) room in
    let some : is_some (at x root) ≡ true = room_some (at x root) 13 room_x in
    let room_y : 13 < room_of (at y root) = subst (λ o. 13 < room_of o) (sym (k.stay root some)) room_x in
    let apart_leaf : root ≢ k.leaf = apart_new (at x) root k.leaf some k.new_leaf in
    let apart_cell : root ≢ k.cell = apart_new (at x) root k.cell some k.new_cell in
    let under : slot_of (at z root) 13 ≡ k.leaf = ap (λ o. slot_of o 13) (slot_written root 13 k.leaf y z w') ∙ slot_set (at y root) 13 k.leaf room_y in
    let at_leaf : at z k.leaf ≡ at y k.leaf = writes_other root k.leaf k.leaf (Slot 13) y z w' (λ q. apart_leaf (sym q)) in
    let at_cell : at z k.cell ≡ at y k.cell = writes_other root k.cell k.leaf (Slot 13) y z w' (λ q. apart_cell (sym q)) in
    record {
      under = under;
      named = k.named;
      stands = record { objects = (subst (λ o. IsLeaf o key k.cell) (sym at_leaf) k.is_leaf, subst (λ o. IsCell o value) (sym at_cell) k.is_cell); critical = bound; own_cells = tt };
      same = ap (with_pair key value) empty;
    }

-- ---- a key that is there

cell_set : (o : Option Object) (v w : ℕ) → IsCell o v → IsCell (option_map (set_place Payload w) o) w
cell_set None v w h = absurd (cc)
cell_set (Some x) v w h = record { there = refl; value_is = refl; null = h.null }

pub set_put : (key found id id2 value : ℕ) (v w x y y2 z : Seen) (pairs : List (ℕ × ℕ)) → held v 0 ≡ Some root → IsMap 13 v.graph pairs → id ≡ slot_of (at v (held_id v 0)) 13 → id ≢ 0 → Loads 1 (nonzero id) v w → (a : IsAtLeaf key found w x) → found ≡ key
    → id2 ≡ slot_of (at x (held_id x 1)) 2 → Loads 1 (nonzero id2) x y → y2 ≡ y → Writes (held_id y2 1) Payload value y2 z → MapTree 13 (at z) (with_pair key value pairs) (whole a.turns (leaf a.id key a.cell value))
set_put key found id id2 value v w x y y2 z pairs r m e n l a f e2 l2 s k =
    let h : HoldsMap w pairs = holds_map v w 13 id pairs r m e n l in
    let here : held y2 1 ≡ Some a.cell = ap (λ q. held q 1) s ∙ cell_here key found id2 w x y a e2 l2 in
    let k' : Writes a.cell Payload value y2 z = subst (λ i. Writes i Payload value y2 z) (held_here y2 1 a.cell here) k in
    let graph : y2.graph ≡ w.graph = ap (λ (q : Seen). q.graph) s ∙ l2.graph ∙ a.graph in
    let stay : (i : ℕ) → i ≢ a.cell → at z i ≡ at w i = λ i q. writes_other a.cell i value Payload y2 z k' q ∙ ap (λ g. object_at g i) graph in
    let old : IsTree (at w) (whole a.turns (leaf a.id key a.cell a.value)) = subst (λ q. IsTree (at w) (whole a.turns (leaf a.id q a.cell a.value))) f a.stands in
    let cells = cell_of key found w x a in
    let new : IsCell (at z a.cell) value = subst (λ o. IsCell o value) (sym (payload_written a.cell value y2 z k' ∙ ap (λ g. option_map (set_place Payload value) (object_at g a.cell)) graph)) (cell_set (at w a.cell) a.value value cells.1) in
    let hung : Hung (at z) a.turns (leaf a.id key a.cell a.value) (leaf a.id key a.cell value) (with_pair key value) = value_set (at w) (at z) a.turns a.id key a.cell a.value value old a.follows stay new in
    let under : slot_of (at w root) 13 ≡ id = ap (λ g. slot_of (object_at g root) 13) l.graph ∙ ap (λ i. slot_of (at v i) 13) (sym (held_here v 0 root r)) ∙ sym e in
    let other : root ≢ a.cell = λ q. n (sym under ∙ ap (λ i. slot_of (at w i) 13) q ∙ cells.1.null 13) in
    let first : id ≡ id_of (whole a.turns (leaf a.id found a.cell a.value)) = some_same id (id_of (whole a.turns (leaf a.id found a.cell a.value))) (sym (l.here ∙ nonzero_some id n) ∙ a.start) in
    let top : id ≡ id_of (whole a.turns (leaf a.id key a.cell value)) = first ∙ id_whole a.turns (leaf a.id found a.cell a.value) (leaf a.id key a.cell value) refl in
    record {
      under = ap (λ o. slot_of o 13) (stay root other) ∙ under ∙ top;
      named = λ q. n (top ∙ q);
      stands = hung.stands;
      same = ap (with_pair key value) (h.same ∙ ap pairs_of (same_tree key found w x pairs h a) ∙ ap (λ q. pairs_of (whole a.turns (leaf a.id q a.cell a.value))) f) ∙ sym hung.pairs;
    }

-- ---- a new key beside others

-- the registers that a new leaf and a new inner object over it leave alone
pub fork_others : (r : ℕ) {key value bit low high : ℕ} {v w : Seen} → MakesFork key value bit low high v w → r < 3 → held w r ≡ held v r
fork_others r {key} {value} {bit} {low} {high} {v} {w} n l = n.inner.others r (λ z. absurd (omega (arith, z, l))) ∙ n.leaf.others r (λ z. absurd (omega (arith, z, l))) (λ z. absurd (omega (arith, z, l)))

-- the calls of a put beside others, with the leaf on the side of its key's bit
pub parts_on : (key value bit side register slot : ℕ) (pairs : List (ℕ × ℕ)) → value_of key pairs ≡ None → pairs ≢ [] → bit_at key bit ≡ side → PutsBy key value pairs (fork_calls key value bit side ++ call.Store register slot (Some 5) ∷ [])
parts_on key value bit side register slot pairs none some e = subst (λ s. PutsBy key value pairs (fork_calls key value bit s ++ call.Store register slot (Some 5) ∷ [])) e (parts none some bit register slot)

-- what is there after the way is there as it was, when the new objects are made
pub stay_all : (key value bit a b : ℕ) (x y z q : Seen) → y.graph ≡ x.graph → MakesLeaf key value y z → MakesInner bit a b z q → (i : ℕ) → is_some (at x i) ≡ true → at q i ≡ at x i
stay_all key value bit a b x y z q g k n i h =
    let hy : is_some (at y i) ≡ true = subst (λ g. is_some (object_at g i) ≡ true) (sym g) h in
    let hz : is_some (at z i) ≡ true = ap (λ o. is_some o) (k.stay i hy) ∙ hy in
    n.stay i hz ∙ k.stay i hy ∙ ap (λ g. object_at g i) g

pub leaf_there : (o : Option Object) (k c : ℕ) → IsLeaf o k c → is_some o ≡ true
leaf_there o k c h = room_some o 2 (slot_room o 2 (λ e. h.named (sym h.names ∙ e)))

-- a new inner object is none that was there before the new leaf was made
pub inner_apart : (key value bit a b p : ℕ) (x y z q : Seen) → y.graph ≡ x.graph → (k : MakesLeaf key value y z) → (n : MakesInner bit a b z q) → is_some (at x p) ≡ true → (n.id ≢ p) × (k.leaf ≢ p) × (k.cell ≢ p)
inner_apart key value bit a b p x y z q g k n h =
    let hy : is_some (at y p) ≡ true = subst (λ g. is_some (object_at g p) ≡ true) (sym g) h in
    let hz : is_some (at z p) ≡ true = ap (λ o. is_some o) (k.stay p hy) ∙ hy in
    ((λ e. apart_new (at z) p n.id hz n.new_id (sym e)), (λ e. apart_new (at y) p k.leaf hy k.new_leaf (sym e)), (λ e. apart_new (at y) p k.cell hy k.new_cell (sym e)))

pub low_put : (key found value bit r s : ℕ) (right : Bool) (x y z q e : Seen) (pairs : List (ℕ × ℕ)) → key < 2 ^ 64 → (p : IsOnPart key found bit bit r s right x y) → IsCritical bit key found → key < found → (k : MakesLeaf key value y z) → (n : MakesInner bit 3 1 z q) → Writes (held_id q r) (Slot s) (held_id q 5) q e
    → slot_of (at x root) 13 ≢ 0 → pairs ≡ pairs_of (whole p.turns p.tree) → MapTree 13 (at e) (with_pair key value pairs) (whole p.turns (inner n.id bit (leaf k.leaf key k.cell value) p.tree))
low_put key found value bit r s right x y z q e pairs bound p c l k n w named same =
    let t = p.tree in
    let new : Tree = leaf k.leaf key k.cell value in
    let u : Tree = inner n.id bit new t in
    let digits = smaller_bit bit key found c l in
    let a : AreObjects (at x) t = objects_within (at x) p.turns t p.stands.objects in
    let crit : IsCritBit t = critical_within p.turns t p.stands.critical in
    let has : HasKey found t = leads_has key found t p.leads in
    let bits : HaveBit bit 1 (above bit key) t = keys_map (λ i. (bit_at i bit ≡ bit_at found bit) × (above bit i ≡ above bit found)) (λ i. (bit_at i bit ≡ 1) × (above bit i ≡ above bit key)) (λ i h. (h.0 ∙ digits.1, h.1 ∙ sym c.same)) t (keys_below bit found t crit p.below has) in
    let free : at x k.cell ≡ None = subst (λ g. object_at g k.cell ≡ None) p.graph k.new_cell in
    let stay = stay_all key value bit 3 1 x y z q p.graph k n in
    let low_id : held_id z 3 ≡ k.leaf = held_here z 3 k.leaf k.here in
    let high_id : held_id z 1 ≡ id_of t = held_here z 1 (id_of t) (k.others 1 (λ i. absurd (omega (arith, i))) (λ i. absurd (omega (arith, i))) ∙ p.here) in
    let inner_is : IsInner (at q n.id) bit k.leaf (id_of t) = subst (λ i. IsInner (at q n.id) bit k.leaf i) high_id (subst (λ i. IsInner (at q n.id) bit i (held_id z 1)) low_id n.is_inner) in
    let leaf_is : IsLeaf (at q k.leaf) key k.cell = subst (λ o. IsLeaf o key k.cell) (sym (n.stay k.leaf (leaf_there (at z k.leaf) key k.cell k.is_leaf))) k.is_leaf in
    let cell_is : IsCell (at q k.cell) value = subst (λ o. IsCell o value) (sym (n.stay k.cell k.is_cell.there)) k.is_cell in
    hang 2 (at x) q e (λ b. bit < b) key found (with_pair key value) (put_local key value) p.turns t u r s (held_id q 5) pairs p.stands p.agrees
    (low_inserted (at x) n.id bit k.leaf key k.cell value found t c.number bound digits.0 bits p.below has a crit (own_within p.turns t p.stands.own_cells) free)
    (low_inserted_pairs n.id bit k.leaf key k.cell value t digits.0 bits) stay p.start named
    (hangs_same y q p.turns r s (n.others 2 (λ i. absurd (omega (arith, i))) ∙ k.others 2 (λ i. absurd (omega (arith, i))) (λ i. absurd (omega (arith, i)))) p.hangs)
    (n.others 0 (λ i. absurd (omega (arith, i))) ∙ k.others 0 (λ i. absurd (omega (arith, i))) (λ i. absurd (omega (arith, i))) ∙ p.rooted)
    (held_here q 5 n.id n.here) n.named w (inner_is, (leaf_is, cell_is), stays_there (at x) (at q) t stay a)
    (λ i h o. (let d = inner_apart key value bit 3 1 i x y z q p.graph k n h in (d.0, (d.1, d.2), o))) same

pub high_put : (key found value bit r s : ℕ) (right : Bool) (x y z q e : Seen) (pairs : List (ℕ × ℕ)) → key < 2 ^ 64 → (p : IsOnPart key found bit bit r s right x y) → IsCritical bit key found → found < key → (k : MakesLeaf key value y z) → (n : MakesInner bit 1 3 z q) → Writes (held_id q r) (Slot s) (held_id q 5) q e
    → slot_of (at x root) 13 ≢ 0 → pairs ≡ pairs_of (whole p.turns p.tree) → MapTree 13 (at e) (with_pair key value pairs) (whole p.turns (inner n.id bit p.tree (leaf k.leaf key k.cell value)))
high_put key found value bit r s right x y z q e pairs bound p c l k n w named same =
    let t = p.tree in
    let new : Tree = leaf k.leaf key k.cell value in
    let u : Tree = inner n.id bit t new in
    let digits = smaller_bit bit found key (critical_turned bit key found c) l in
    let a : AreObjects (at x) t = objects_within (at x) p.turns t p.stands.objects in
    let crit : IsCritBit t = critical_within p.turns t p.stands.critical in
    let has : HasKey found t = leads_has key found t p.leads in
    let bits : HaveBit bit 0 (above bit key) t = keys_map (λ i. (bit_at i bit ≡ bit_at found bit) × (above bit i ≡ above bit found)) (λ i. (bit_at i bit ≡ 0) × (above bit i ≡ above bit key)) (λ i h. (h.0 ∙ digits.0, h.1 ∙ sym c.same)) t (keys_below bit found t crit p.below has) in
    let free : at x k.cell ≡ None = subst (λ g. object_at g k.cell ≡ None) p.graph k.new_cell in
    let stay = stay_all key value bit 1 3 x y z q p.graph k n in
    let high_id : held_id z 3 ≡ k.leaf = held_here z 3 k.leaf k.here in
    let low_id : held_id z 1 ≡ id_of t = held_here z 1 (id_of t) (k.others 1 (λ i. absurd (omega (arith, i))) (λ i. absurd (omega (arith, i))) ∙ p.here) in
    let inner_is : IsInner (at q n.id) bit (id_of t) k.leaf = subst (λ i. IsInner (at q n.id) bit (id_of t) i) high_id (subst (λ i. IsInner (at q n.id) bit i (held_id z 3)) low_id n.is_inner) in
    let leaf_is : IsLeaf (at q k.leaf) key k.cell = subst (λ o. IsLeaf o key k.cell) (sym (n.stay k.leaf (leaf_there (at z k.leaf) key k.cell k.is_leaf))) k.is_leaf in
    let cell_is : IsCell (at q k.cell) value = subst (λ o. IsCell o value) (sym (n.stay k.cell k.is_cell.there)) k.is_cell in
    hang 2 (at x) q e (λ b. bit < b) key found (with_pair key value) (put_local key value) p.turns t u r s (held_id q 5) pairs p.stands p.agrees
    (high_inserted (at x) n.id bit k.leaf key k.cell value found t c.number bound digits.1 bits p.below has a crit (own_within p.turns t p.stands.own_cells) free)
    (high_inserted_pairs n.id bit k.leaf key k.cell value t digits.1 bits) stay p.start named
    (hangs_same y q p.turns r s (n.others 2 (λ i. absurd (omega (arith, i))) ∙ k.others 2 (λ i. absurd (omega (arith, i))) (λ i. absurd (omega (arith, i)))) p.hangs)
    (n.others 0 (λ i. absurd (omega (arith, i))) ∙ k.others 0 (λ i. absurd (omega (arith, i))) (λ i. absurd (omega (arith, i))) ∙ p.rooted)
    (held_here q 5 n.id n.here) n.named w (inner_is, stays_there (at x) (at q) t stay a, (leaf_is, cell_is))
    (λ i h o. (let d = inner_apart key value bit 1 3 i x y z q p.graph k n h in (d.0, o, (d.1, d.2)))) same
