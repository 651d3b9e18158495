-- What a change of the map leaves alone.
use Rattle.std.proofs.Common.{◌≡◌, ◌≢◌, ℕ, ◌<◌, List, [], ◌∷◌, Option, Some, refl, sym, ap, ◌∙◌, subst, arith, true, false, Bool, ◌⊎◌, inl, inr, ⊎_elim}
use Rattle.std.specs.Prelude.{is_some, option_map}
use Rattle.plain_model.specs.declared.object.Object.{Object}
use Rattle.plain_model.specs.declared.write.Place.TheVariants.{Slot, Payload}
use Rattle.plain_model.specs.Graphs.{root, object_at, set_place}
use Rattle.plain_model.specs.Machine.{nonzero}
use Rattle.object_map.specs.Trees.{Tree, id_of}
use Rattle.object_map.specs.Trees.Tree.{leaf, inner}
use Rattle.object_map.specs.Maps.{AreObjects, IsTree, slot_of, payload_of, room_of}
use Rattle.object_map.specs.Seen.{Seen, at, held, held_id, Loads, Writes}
use Rattle.object_map.specs.Ways.{Turn, whole, IsAtLeaf}
use Rattle.object_map.specs.Ways.Turn.{to_low, to_high}
use Rattle.object_map.specs.Parting.{HangsUnder, IsOnPart}
use Rattle.object_map.specs.Seeking.{HangsTwice, IsSought}
use Rattle.object_map.specs.Making.{MakesLeaf, MakesInner}
use Rattle.object_map.specs.Changes.{IsOf, IsOfMap, KeepsOthers}
use Rattle.object_map.proofs.WayLaws.{held_here, nonzero_some}
use Rattle.object_map.proofs.MakeLaws.{writes_other, slot_written}
use Rattle.object_map.proofs.RelinkLaws.{slot_room, room_some, slot_kept, payload_kept}
use Rattle.object_map.proofs.PartLaws.{hangs_same}
use Rattle.object_map.proofs.SeekLaws.{under_same}
use Rattle.object_map.proofs.PutLaws.{stay_all}
use Rattle.object_map.proofs.GetLaws.{cell_here, some_same}

-- ---- the objects of a tree

pub of_whole : (x : ℕ) (turns : List Turn) (t : Tree) → IsOf x t → IsOf x (whole turns t)
of_whole x [] t h = h
of_whole x (to_low id bit high ∷ turns) t h = of_whole x turns (inner id bit t high) (inr (inl h))
of_whole x (to_high id bit low ∷ turns) t h = of_whole x turns (inner id bit low t) (inr (inr h))

-- an object whose slot 13 isn't null is none of a tree's
pub none_of : (f : ℕ → Option Object) (x : ℕ) (t : Tree) → AreObjects f t → slot_of (f x) 13 ≢ 0 → IsOf x t → ⊥
none_of f x (leaf i k c v) o n h = ⊎_elim
    (λ (e : x ≡ i). n (ap (λ y. slot_of (f y) 13) e ∙ o.0.null 13 (λ z. absurd (omega (arith, z)))))
    (λ (e : x ≡ c). n (ap (λ y. slot_of (f y) 13) e ∙ o.1.null 13))
    h
none_of f x (inner i b l r) o n h = ⊎_elim
    (λ (e : x ≡ i). n (ap (λ y. slot_of (f y) 13) e ∙ o.0.null 13 (λ z. absurd (omega (arith, z))) (λ z. absurd (omega (arith, z)))))
    (λ (d : IsOf x l ⊎ IsOf x r). ⊎_elim (λ (p : IsOf x l). none_of f x l o.1 n p) (λ (q : IsOf x r). none_of f x r o.2 n q) d)
    h

-- what the tree after the turns hangs under is the root, or an object of the whole tree
pub hanger : (holder : ℕ) (v : Seen) (turns : List Turn) (t : Tree) (r s : ℕ) → HangsUnder holder v turns r s → held v 0 ≡ Some root → ((held_id v r ≡ root) × (s ≡ 13)) ⊎ IsOf (held_id v r) (whole turns t)
hanger holder v [] t r s h k = inl (ap (held_id v) h.0 ∙ held_here v 0 root k, h.1)
hanger holder v (to_low i b y ∷ turns) t r s h k = inr (subst (λ x. IsOf x (whole turns (inner i b t y))) (sym (ap (held_id v) h.0 ∙ held_here v holder i h.2)) (of_whole i turns (inner i b t y) (inl refl)))
hanger holder v (to_high i b y ∷ turns) t r s h k = inr (subst (λ x. IsOf x (whole turns (inner i b y t))) (sym (ap (held_id v) h.0 ∙ held_here v holder i h.2)) (of_whole i turns (inner i b y t) (inl refl)))

-- ---- what one change leaves alone

-- what is there after some first writes is as it was
abbrev StaysThere : Seen → Seen → Type 0
StaysThere old now = (x : ℕ) → is_some (at old x) ≡ true → at now x ≡ at old x

pub keeps_same : (old new : Seen) → new.graph ≡ old.graph → KeepsOthers 13 old new
keeps_same old new g = record {
  others = λ x there n m. ap (λ h. object_at h x) g;
  root_payload = ap (λ h. payload_of (object_at h root)) g;
  root_slots = λ k n. ap (λ h. slot_of (object_at h root) k) g;
}

-- the graph before is all that counts
pub keeps_from : (old now new : Seen) → now.graph ≡ old.graph → KeepsOthers 13 now new → KeepsOthers 13 old new
keeps_from old now new g h = record {
  others = λ x there n m. h.others x (subst (λ q. is_some (object_at q x) ≡ true) (sym g) there) n (λ w. m (subst (λ q. IsOfMap 13 (object_at q) x) g w)) ∙ ap (λ q. object_at q x) g;
  root_payload = h.root_payload ∙ ap (λ q. payload_of (object_at q root)) g;
  root_slots = λ k n. h.root_slots k n ∙ ap (λ q. slot_of (object_at q root) k) g;
}

-- an object of the map changes
pub keeps_part : (old now new : Seen) (id : ℕ) → StaysThere old now → ((x : ℕ) → x ≢ id → at new x ≡ at now x) → IsOfMap 13 (at old) id → slot_of (at old root) 13 ≢ 0 → KeepsOthers 13 old new
keeps_part old now new id stay other m n =
    let there : is_some (at old root) ≡ true = room_some (at old root) 13 (slot_room (at old root) 13 n) in
    let apart : root ≢ id = λ e. none_of (at old) root m.tree m.stands.objects n (subst (λ x. IsOf x m.tree) (sym e) m.within) in
    let same : at new root ≡ at old root = other root apart ∙ stay root there in
    record {
      others = λ x h k q. other x (λ e. q (subst (λ y. IsOfMap 13 (at old) y) (sym e) m)) ∙ stay x h;
      root_payload = ap payload_of same;
      root_slots = λ k q. ap (λ o. slot_of o k) same;
    }

-- the root's slot is set
pub keeps_root : (old now new : Seen) (value : ℕ) → StaysThere old now → Writes root (Slot 13) value now new → is_some (at old root) ≡ true → KeepsOthers 13 old new
keeps_root old now new value stay w there =
    let here : at new root ≡ option_map (set_place (Slot 13) value) (at now root) = slot_written root 13 value now new w in
    record {
      others = λ x h k q. writes_other root x value (Slot 13) now new w k ∙ stay x h;
      root_payload = ap payload_of here ∙ payload_kept (at now root) 13 value ∙ ap payload_of (stay root there);
      root_slots = λ k q. ap (λ o. slot_of o k) here ∙ slot_kept (at now root) 13 value k q ∙ ap (λ o. slot_of o k) (stay root there);
    }

-- the slot under which a tree hangs is set
pub keeps_hung : (holder : ℕ) (old now new : Seen) (turns : List Turn) (t : Tree) (r s value : ℕ) → StaysThere old now → IsTree (at old) (whole turns t) → slot_of (at old root) 13 ≡ id_of (whole turns t) → slot_of (at old root) 13 ≢ 0 → HangsUnder holder now turns r s → held now 0 ≡ Some root
    → Writes (held_id now r) (Slot s) value now new → KeepsOthers 13 old new
keeps_hung holder old now new turns t r s value stay a under n h k w =
    let there : is_some (at old root) ≡ true = room_some (at old root) 13 (slot_room (at old root) 13 n) in
    ⊎_elim
    (λ (e : (held_id now r ≡ root) × (s ≡ 13)). keeps_root old now new value stay (subst (λ x. Writes root (Slot x) value now new) e.1 (subst (λ x. Writes x (Slot s) value now new) e.0 w)) there)
    (λ (d : IsOf (held_id now r) (whole turns t)). keeps_part old now new (held_id now r) stay (λ x q. writes_other (held_id now r) x value (Slot s) now new w q)
    (record { tree = whole turns t; named = λ z. n (under ∙ z); under = under; stands = a; within = d }) n)
    (hanger holder now turns t r s h k)

-- ---- puts

pub first_keeps : (key value id : ℕ) (v x y z : Seen) → held v 0 ≡ Some root → 13 < room_of (at v root) → Loads 1 (nonzero id) v x → MakesLeaf key value x y → Writes (held_id y 0) (Slot 13) (held_id y 3) y z → KeepsOthers 13 v z
first_keeps key value id v x y z r room l k w =
    let root0 : held y 0 ≡ Some root = k.others 0 (λ q. absurd (omega (arith, q))) (λ q. absurd (omega (arith, q))) ∙ l.others 0 (λ q. absurd (omega (arith, q))) ∙ r in
    let w' : Writes root (Slot 13) (held_id y 3) y z = subst (λ i. Writes i (Slot 13) (held_id y 3) y z) (held_here y 0 root root0) w in
    let there : is_some (at x root) ≡ true = room_some (at x root) 13 (subst (λ g. 13 < room_of (object_at g root)) (sym l.graph) room) in
    keeps_from v x z l.graph (keeps_root x y z (held_id y 3) k.stay w' there)

pub set_keeps : (key found id id2 value : ℕ) (v w x y y2 z : Seen) → held v 0 ≡ Some root → id ≡ slot_of (at v (held_id v 0)) 13 → id ≢ 0 → Loads 1 (nonzero id) v w → IsAtLeaf key found w x
    → id2 ≡ slot_of (at x (held_id x 1)) 2 → Loads 1 (nonzero id2) x y → y2 ≡ y → Writes (held_id y2 1) Payload value y2 z → KeepsOthers 13 v z
set_keeps key found id id2 value v w x y y2 z r e n l a e2 l2 s k =
    let here : held y2 1 ≡ Some a.cell = ap (λ q. held q 1) s ∙ cell_here key found id2 w x y a e2 l2 in
    let k' : Writes a.cell Payload value y2 z = subst (λ i. Writes i Payload value y2 z) (held_here y2 1 a.cell here) k in
    let graph : y2.graph ≡ w.graph = ap (λ (q : Seen). q.graph) s ∙ l2.graph ∙ a.graph in
    let under : slot_of (at w root) 13 ≡ id = ap (λ g. slot_of (object_at g root) 13) l.graph ∙ ap (λ i. slot_of (at v i) 13) (sym (held_here v 0 root r)) ∙ sym e in
    let t = leaf a.id found a.cell a.value in
    let first : id ≡ id_of (whole a.turns t) = some_same id (id_of (whole a.turns t)) (sym (l.here ∙ nonzero_some id n) ∙ a.start) in
    keeps_from v w z l.graph (keeps_part w y2 z a.cell (λ i h. ap (λ g. object_at g i) graph) (λ i q. writes_other a.cell i value Payload y2 z k' q)
    (record { tree = whole a.turns t; named = λ q. n (first ∙ q); under = under ∙ first; stands = a.stands; within = of_whole a.cell a.turns t (inr refl) }) (λ q. n (sym under ∙ q)))

pub part_keeps : (key found value bit r s a b : ℕ) (right : Bool) (x y z q e : Seen) (p : IsOnPart key found bit bit r s right x y) → (k : MakesLeaf key value y z) → (n : MakesInner bit a b z q) → Writes (held_id q r) (Slot s) (held_id q 5) q e → slot_of (at x root) 13 ≢ 0 → KeepsOthers 13 x e
part_keeps key found value bit r s a b right x y z q e p k n w named =
    keeps_hung 2 x q e p.turns p.tree r s (held_id q 5) (stay_all key value bit a b x y z q p.graph k n) p.stands p.start named
    (hangs_same y q p.turns r s (n.others 2 (λ i. absurd (omega (arith, i))) ∙ k.others 2 (λ i. absurd (omega (arith, i))) (λ i. absurd (omega (arith, i)))) p.hangs)
    (n.others 0 (λ i. absurd (omega (arith, i))) ∙ k.others 0 (λ i. absurd (omega (arith, i))) (λ i. absurd (omega (arith, i))) ∙ p.rooted) w

-- ---- removals

no_bool : true ≡ false → ⊥
no_bool e = absurd (cc)

pub only_keeps : (key found side r s : ℕ) (only : Bool) (w x y z : Seen) (a : IsSought key found side r s only w x) → y.graph ≡ x.graph → held y 0 ≡ Some root → Writes (held_id y 0) (Slot 13) 0 y z → KeepsOthers 13 w z
only_keeps key found side r s only w x y z a h k u =
    keeps_root w y z 0 (λ i t. ap (λ g. object_at g i) (h ∙ a.graph)) (subst (λ i. Writes i (Slot 13) 0 y z) (held_here y 0 root k) u) (room_some (at w root) 13 (slot_room (at w root) 13 a.named))

pub twice_keeps : (key found side r s id value : ℕ) (only : Bool) (w x y q e : Seen) (a : IsSought key found side r s only w x) → only ≡ false → y.graph ≡ x.graph → ((j : ℕ) → j ≢ 4 → held y j ≡ held x j) → Loads 1 (nonzero id) y q → Writes (held_id q r) (Slot s) value q e → KeepsOthers 13 w e
twice_keeps key found side r s id value only w x y q e a o h k l u = by a.turns a.stands a.start a.hangs
  where
    graph : q.graph ≡ w.graph
    graph = l.graph ∙ h ∙ a.graph

    rooted : held q 0 ≡ Some root
    rooted = l.others 0 (λ z. absurd (omega (arith, z))) ∙ k 0 (λ z. absurd (omega (arith, z))) ∙ a.rooted

    three : held q 3 ≡ held x 3
    three = l.others 3 (λ z. absurd (omega (arith, z))) ∙ k 3 (λ z. absurd (omega (arith, z)))

    by : (turns : List Turn) → IsTree (at w) (whole turns (leaf a.id found a.cell a.value)) → slot_of (at w root) 13 ≡ id_of (whole turns (leaf a.id found a.cell a.value)) → HangsTwice x turns only side r s → KeepsOthers 13 w e
    by [] b c t = absurd (no_bool (sym t.0 ∙ o))
    by (to_low j z other ∷ turns) b c t = keeps_hung 3 w q e turns (inner j z (leaf a.id found a.cell a.value) other) r s value (λ i y. ap (λ g. object_at g i) graph) b c a.named (under_same x q turns r s three t.3) rooted u
    by (to_high j z other ∷ turns) b c t = keeps_hung 3 w q e turns (inner j z other (leaf a.id found a.cell a.value)) r s value (λ i y. ap (λ g. object_at g i) graph) b c a.named (under_same x q turns r s three t.3) rooted u
