-- One slot that is set: the tree under it gives way to another one.
use Rattle.std.proofs.Common.{◌≡◌, ◌≢◌, ℕ, ◌<◌, ◌≤◌, List, [], ◌∷◌, Option, Some, None, refl, sym, ap, ◌∙◌, subst, arith, true, length, zero, suc}
use Rattle.std.specs.Prelude.{is_some, option_map, slice_index}
use Rattle.std.proofs.lemmas.List.{get_or-set_same, get_or-set_other}
use Rattle.plain_model.specs.declared.object.Object.{Object}
use Rattle.plain_model.specs.declared.write.Place.TheVariants.{Slot}
use Rattle.plain_model.specs.Graphs.{root, set_place}
use Rattle.object_map.specs.Trees.{Tree, id_of, IsCritBit}
use Rattle.object_map.specs.Trees.Tree.{inner}
use Rattle.object_map.specs.Maps.{AreObjects, IsInner, IsTree, slot_of, payload_of, room_of}
use Rattle.object_map.specs.Seen.{Seen, at, held, held_id, Writes}
use Rattle.object_map.specs.Ways.{Turn, whole, AgreesOn}
use Rattle.object_map.specs.Ways.Turn.{to_low, to_high}
use Rattle.object_map.specs.Parting.{HangsUnder}
use Rattle.object_map.specs.Trees.{pairs_of}
use Rattle.object_map.proofs.LinkLaws.{AllNodes, nodes_map, stays, stays_there, nodes_there, nodes_below, low_relinked, high_relinked}
use Rattle.plain_map.proofs.ChangeLaws.{IsLocal}
use Rattle.object_map.proofs.ReplaceLaws.{Replaces, Replaced, replaced}
use Rattle.object_map.proofs.HungLaws.{root_apart}
use Rattle.object_map.proofs.MakeLaws.{writes_other, slot_written}
use Rattle.object_map.proofs.MapTreeLaws.{MapTree}
use Rattle.object_map.proofs.WayLaws.{objects_within, critical_within, held_here}

-- a slot that isn't null is there
within_slots : (xs : List ℕ) (k : ℕ) → slice_index xs k ≢ 0 → k < length xs
within_slots [] k n = absurd (n refl)
within_slots (x ∷ xs) zero n = omega arith
within_slots (x ∷ xs) (suc k) n = (let h : k < length xs = within_slots xs k n in omega (arith, h))

pub slot_room : (o : Option Object) (k : ℕ) → slot_of o k ≢ 0 → k < room_of o
slot_room None k n = absurd (n refl)
slot_room (Some x) k n = within_slots x.slots k n

pub room_some : (o : Option Object) (k : ℕ) → k < room_of o → is_some o ≡ true
room_some None k h = absurd (omega (arith, h))
room_some (Some x) k h = refl

pub slot_set : (o : Option Object) (k v : ℕ) → k < room_of o → slot_of (option_map (set_place (Slot k) v) o) k ≡ v
slot_set None k v h = absurd (omega (arith, h))
slot_set (Some x) k v h = get_or-set_same x.slots k v 0 h

pub slot_kept : (o : Option Object) (k v j : ℕ) → j ≢ k → slot_of (option_map (set_place (Slot k) v) o) j ≡ slot_of o j
slot_kept None k v j n = refl
slot_kept (Some x) k v j n = get_or-set_other x.slots k j v 0 n

pub payload_kept : (o : Option Object) (k v : ℕ) → payload_of (option_map (set_place (Slot k) v) o) ≡ payload_of o
payload_kept None k v = refl
payload_kept (Some x) k v = refl

-- an inner object whose low slot is set
low_set : (o : Option Object) (bit low high v : ℕ) → IsInner o bit low high → v ≢ 0 → IsInner (option_map (set_place (Slot 0) v) o) bit v high
low_set o bit low high v h n = record {
  bit_is = payload_kept o 0 v ∙ h.bit_is;
  names_low = slot_set o 0 v (slot_room o 0 (λ e. h.low_named (sym h.names_low ∙ e)));
  names_high = slot_kept o 0 v 1 (λ z. absurd (omega (arith, z))) ∙ h.names_high;
  low_named = n;
  high_named = h.high_named;
  null = λ k x y. slot_kept o 0 v k x ∙ h.null k x y;
}

high_set : (o : Option Object) (bit low high v : ℕ) → IsInner o bit low high → v ≢ 0 → IsInner (option_map (set_place (Slot 1) v) o) bit low v
high_set o bit low high v h n = record {
  bit_is = payload_kept o 1 v ∙ h.bit_is;
  names_low = slot_kept o 1 v 0 (λ z. absurd (omega (arith, z))) ∙ h.names_low;
  names_high = slot_set o 1 v (slot_room o 1 (λ e. h.high_named (sym h.names_high ∙ e)));
  low_named = h.low_named;
  high_named = n;
  null = λ k x y. slot_kept o 1 v k y ∙ h.null k x y;
}

-- the first object of the whole tree depends on that of the tree within it alone
pub id_whole : (turns : List Turn) (t u : Tree) → id_of t ≡ id_of u → id_of (whole turns t) ≡ id_of (whole turns u)
id_whole [] t u e = e
id_whole (to_low i b r ∷ turns) t u e = id_whole turns (inner i b t r) (inner i b u r) refl
id_whole (to_high i b l ∷ turns) t u e = id_whole turns (inner i b l t) (inner i b l u) refl

-- an inner object isn't the root, whose slot names a tree
inner_not_root : (f : ℕ → Option Object) (i b l h : ℕ) → IsInner (f i) b l h → slot_of (f root) 13 ≢ 0 → root ≢ i
inner_not_root f i b l h o n e = n (ap (λ x. slot_of (f x) 13) e ∙ o.null 13 (λ z. absurd (omega (arith, z))) (λ z. absurd (omega (arith, z))))

pub id_named : (turns : List Turn) (t u : Tree) → id_of (whole turns t) ≢ 0 → id_of u ≢ 0 → id_of (whole turns u) ≢ 0
id_named [] t u n m = m
id_named (to_low i b r ∷ turns) t u n m = λ z. n (id_whole turns (inner i b t r) (inner i b u r) refl ∙ z)
id_named (to_high i b l ∷ turns) t u n m = λ z. n (id_whole turns (inner i b l t) (inner i b l u) refl ∙ z)

pub record Relinked (f : ℕ → Option Object) (turns : List Turn) (u : Tree) : Type 0 where
  pub objects : AreObjects f (whole turns u)
  pub under : slot_of (f root) 13 ≡ id_of (whole turns u)

-- what holds of each object of the whole tree holds of those of the tree within it
nodes_within : (P : ℕ → Type 0) (turns : List Turn) (t : Tree) → AllNodes P (whole turns t) → AllNodes P t
nodes_within P [] t h = h
nodes_within P (to_low i b r ∷ turns) t h = (nodes_within P turns (inner i b t r) h).1
nodes_within P (to_high i b l ∷ turns) t h = (nodes_within P turns (inner i b l t) h).2

-- The slot under which a tree hangs is set to name another tree. The root and the objects of the whole tree are so; each such object that
-- is none of the old tree's is none of the new one's.
pub relinked_part : (holder : ℕ) (P : ℕ → Type 0) (q e : Seen) (turns : List Turn) (t u : Tree) (r s value : ℕ) → HangsUnder holder q turns r s → held q 0 ≡ Some root → value ≡ id_of u → Writes (held_id q r) (Slot s) value q e
    → AreObjects (at q) (whole turns t) → IsCritBit (whole turns t) → slot_of (at q root) 13 ≡ id_of (whole turns t) → id_of (whole turns t) ≢ 0 → id_of u ≢ 0
    → AreObjects (at q) u → P root → AllNodes P (whole turns t) → ((p : ℕ) → P p → AllNodes (λ i. i ≢ p) t → AllNodes (λ i. i ≢ p) u) → Relinked (at e) turns u
relinked_part holder P q e [] t u r s value h d k w a c under named some b pr pn apart =
    let here : held_id q r ≡ root = ap (held_id q) h.0 ∙ held_here q 0 root d in
    let v : Writes root (Slot 13) (id_of u) q e = subst (λ x. Writes root (Slot 13) x q e) k (subst (λ x. Writes root (Slot x) value q e) h.1 (subst (λ x. Writes x (Slot s) value q e) here w)) in
    let n : slot_of (at q root) 13 ≢ 0 = λ z. named (sym under ∙ z) in
    let two : 2 < 13 = omega arith in
    let old : AllNodes (λ i. i ≢ root) t = root_apart (at q) root 13 two n t a in
    let new : AllNodes (λ i. i ≢ root) u = apart root pr old in
    record {
      objects = stays (at q) (at e) u (nodes_map (λ i. i ≢ root) (λ i. at e i ≡ at q i) (λ i m. writes_other root i (id_of u) (Slot 13) q e v m) u new) b;
      under = ap (λ o. slot_of o 13) (slot_written root 13 (id_of u) q e v) ∙ slot_set (at q root) 13 (id_of u) (slot_room (at q root) 13 n);
    }
relinked_part holder P q e (to_low i m y ∷ turns) t u r s value h d k w a c under named some b pr pn apart =
    let here : held_id q r ≡ i = ap (held_id q) h.0 ∙ held_here q holder i h.2 in
    let v : Writes i (Slot 0) (id_of u) q e = subst (λ x. Writes i (Slot 0) x q e) k (subst (λ x. Writes i (Slot x) value q e) h.1 (subst (λ x. Writes x (Slot s) value q e) here w)) in
    let o : AreObjects (at q) (inner i m t y) = objects_within (at q) turns (inner i m t y) a in
    let g : IsCritBit (inner i m t y) = critical_within turns (inner i m t y) c in
    let le : m ≤ m = omega arith in
    let stay : (x : ℕ) → x ≢ i → at e x ≡ at q x = λ x z. writes_other i x (id_of u) (Slot 0) q e v z in
    let old : AllNodes (λ x. x ≢ i) t = nodes_below (at q) i m (id_of t) (id_of y) o.0 m le t o.1 g.1 g.0.low_below in
    let new : AllNodes (λ x. x ≢ i) u = apart i (nodes_within P turns (inner i m t y) pn).0 old in
    let objects : AreObjects (at e) u = stays (at q) (at e) u (nodes_map (λ x. x ≢ i) (λ x. at e x ≡ at q x) stay u new) b in
    let inner_is : IsInner (at e i) m (id_of u) (id_of y) = subst (λ x. IsInner x m (id_of u) (id_of y)) (sym (slot_written i 0 (id_of u) q e v)) (low_set (at q i) m (id_of t) (id_of y) (id_of u) o.0 some) in
    let n : slot_of (at q root) 13 ≢ 0 = λ z. named (sym under ∙ z) in
    record {
      objects = low_relinked (at q) (at e) turns i m t u y a c stay inner_is objects;
      under = ap (λ z. slot_of z 13) (stay root (inner_not_root (at q) i m (id_of t) (id_of y) o.0 n)) ∙ under ∙ id_whole turns (inner i m t y) (inner i m u y) refl;
    }
relinked_part holder P q e (to_high i m y ∷ turns) t u r s value h d k w a c under named some b pr pn apart =
    let here : held_id q r ≡ i = ap (held_id q) h.0 ∙ held_here q holder i h.2 in
    let v : Writes i (Slot 1) (id_of u) q e = subst (λ x. Writes i (Slot 1) x q e) k (subst (λ x. Writes i (Slot x) value q e) h.1 (subst (λ x. Writes x (Slot s) value q e) here w)) in
    let o : AreObjects (at q) (inner i m y t) = objects_within (at q) turns (inner i m y t) a in
    let g : IsCritBit (inner i m y t) = critical_within turns (inner i m y t) c in
    let le : m ≤ m = omega arith in
    let stay : (x : ℕ) → x ≢ i → at e x ≡ at q x = λ x z. writes_other i x (id_of u) (Slot 1) q e v z in
    let old : AllNodes (λ x. x ≢ i) t = nodes_below (at q) i m (id_of y) (id_of t) o.0 m le t o.2 g.2 g.0.high_below in
    let new : AllNodes (λ x. x ≢ i) u = apart i (nodes_within P turns (inner i m y t) pn).0 old in
    let objects : AreObjects (at e) u = stays (at q) (at e) u (nodes_map (λ x. x ≢ i) (λ x. at e x ≡ at q x) stay u new) b in
    let inner_is : IsInner (at e i) m (id_of y) (id_of u) = subst (λ x. IsInner x m (id_of y) (id_of u)) (sym (slot_written i 1 (id_of u) q e v)) (high_set (at q i) m (id_of y) (id_of t) (id_of u) o.0 some) in
    let n : slot_of (at q root) 13 ≢ 0 = λ z. named (sym under ∙ z) in
    record {
      objects = high_relinked (at q) (at e) turns i m t u y a c stay inner_is objects;
      under = ap (λ z. slot_of z 13) (stay root (inner_not_root (at q) i m (id_of y) (id_of t) o.0 n)) ∙ under ∙ id_whole turns (inner i m y t) (inner i m y u) refl;
    }

-- The slot under which a tree hangs is set to name another one, which may replace it: the map's pairs are changed so. After the look at
-- the tree (`f`) new objects were made (`q`).
pub hang : (holder : ℕ) (f : ℕ → Option Object) (q e : Seen) (P : ℕ → Type 0) (key other : ℕ) (change : List (ℕ × ℕ) → List (ℕ × ℕ)) → IsLocal key change → (turns : List Turn) (t u : Tree) (r s value : ℕ) (pairs : List (ℕ × ℕ))
    → IsTree f (whole turns t) → AgreesOn P key other turns → Replaces f P key other t u → pairs_of u ≡ change (pairs_of t) → ((i : ℕ) → is_some (f i) ≡ true → at q i ≡ f i) → slot_of (f root) 13 ≡ id_of (whole turns t) → slot_of (f root) 13 ≢ 0
    → HangsUnder holder q turns r s → held q 0 ≡ Some root → value ≡ id_of u → id_of u ≢ 0 → Writes (held_id q r) (Slot s) value q e → AreObjects (at q) u → ((p : ℕ) → is_some (f p) ≡ true → AllNodes (λ i. i ≢ p) t → AllNodes (λ i. i ≢ p) u)
    → pairs ≡ pairs_of (whole turns t) → MapTree 13 (at e) (change pairs) (whole turns u)
hang holder f q e P key other change local turns t u r s value pairs a g x d stay under n h k w m v b apart same =
    let y : Replaced turns t u change = replaced f P key other change local turns t u a.objects a.critical a.own_cells g x d in
    let some : is_some (f root) ≡ true = room_some (f root) 13 (slot_room (f root) 13 n) in
    let now : slot_of (at q root) 13 ≡ id_of (whole turns t) = ap (λ o. slot_of o 13) (stay root some) ∙ under in
    let named : id_of (whole turns t) ≢ 0 = λ z. n (under ∙ z) in
    let z : Relinked (at e) turns u = relinked_part holder (λ i. is_some (f i) ≡ true) q e turns t u r s value h k w v (stays_there f (at q) (whole turns t) stay a.objects) a.critical now named m b some (nodes_there f (whole turns t) a.objects) apart in
    record {
      under = z.under;
      named = id_named turns t u named m;
      stands = record { objects = z.objects; critical = y.critical; own_cells = y.own };
      same = ap change same ∙ sym y.pairs;
    }
