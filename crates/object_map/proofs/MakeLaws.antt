-- What one write and one new object do to the objects.
use Rattle.std.proofs.Common.{◌≡◌, ◌≢◌, ℕ, ◌<◌, ◌-◌, List, [], ◌∷◌, Option, Some, None, refl, sym, ap, ◌∙◌, subst, arith, true, false, length}
use Rattle.std.specs.Prelude.{is_some, ◌==◌, if◌then◌else◌, option_map, slice_set, replicate, unwrap_or}
use Rattle.std.proofs.lemmas.Bool.Decides.{nat_tests}
use Rattle.std.proofs.lemmas.List.{get_or-set_same, get_or-set_other, length-replicate, length-set}
use Rattle.plain_model.specs.declared.object.Object.{Object}
use Rattle.plain_model.specs.declared.write.Write.{Write}
use Rattle.plain_model.specs.declared.write.Place.{Place}
use Rattle.plain_model.specs.declared.write.Place.TheVariants.{Slot, Payload, Whole}
use Rattle.plain_model.specs.Graphs.{object_at, after_place, blank, set_place}
use Rattle.plain_laws.proofs.Lookups.{object_at-after_writes, place_at, slots_zero}
use Rattle.object_map.specs.Maps.{IsLeaf, IsInner, IsCell}
use Rattle.object_map.specs.Seen.{Seen, at, held, held_id, Writes, Makes}
use Rattle.object_map.specs.Making.{MakesLeaf, MakesInner, MakesFork, written, leaf_filled, inner_filled}
use Rattle.object_map.proofs.WayLaws.{held_here}

-- ---- one write

at_written : (slots : ℕ) (g : List Object) (id x : ℕ) (p : Place) (v : ℕ) → object_at (after_place slots g id p v) x ≡ (if id == x then place_at slots x p v (object_at g x) else object_at g x)
at_written slots g id x p v = (let w : Write = record { id = id; place = p; value = v } in object_at-after_writes slots g (w ∷ []) x)

test_other : (a b : ℕ) → a ≢ b → (a == b) ≡ false
test_other a b n = grind (arith, nat_tests)

test_here : (a : ℕ) → (a == a) ≡ true
test_here a = grind (arith, nat_tests)

-- each other object stays
pub written_other : (slots : ℕ) (g : List Object) (id x : ℕ) (p : Place) (v : ℕ) → x ≢ id → object_at (after_place slots g id p v) x ≡ object_at g x
written_other slots g id x p v n = at_written slots g id x p v ∙ ap (λ b. if b then place_at slots x p v (object_at g x) else object_at g x) (test_other id x (λ e. n (sym e)))

pub written_here : (slots : ℕ) (g : List Object) (x : ℕ) (p : Place) (v : ℕ) → object_at (after_place slots g x p v) x ≡ place_at slots x p v (object_at g x)
written_here slots g x p v = at_written slots g x x p v ∙ ap (λ b. if b then place_at slots x p v (object_at g x) else object_at g x) (test_here x)

pub writes_other : (id x value : ℕ) (p : Place) (v w : Seen) → Writes id p value v w → x ≢ id → at w x ≡ at v x
writes_other id x value p v w h n = ap (λ g. object_at g x) h.graph ∙ written_other v.slots v.graph id x p value n

pub payload_written : (id value : ℕ) (v w : Seen) → Writes id Payload value v w → at w id ≡ option_map (set_place Payload value) (at v id)
payload_written id value v w h = ap (λ g. object_at g id) h.graph ∙ written_here v.slots v.graph id Payload value

pub slot_written : (id k value : ℕ) (v w : Seen) → Writes id (Slot k) value v w → at w id ≡ option_map (set_place (Slot k) value) (at v id)
slot_written id k value v w h = ap (λ g. object_at g id) h.graph ∙ written_here v.slots v.graph id (Slot k) value

pub makes_other : (r id x : ℕ) (v w : Seen) → Makes r id v w → x ≢ id → at w x ≡ at v x
makes_other r id x v w h n = ap (λ g. object_at g x) h.graph ∙ written_other v.slots v.graph id x Whole 0 n

pub makes_here : (r id : ℕ) (v w : Seen) → Makes r id v w → at w id ≡ Some (blank v.slots id)
makes_here r id v w h = ap (λ g. object_at g id) h.graph ∙ written_here v.slots v.graph id Whole 0

none_from : (o : Option Object) → is_some o ≡ false → o ≡ None
none_from None h = refl
none_from (Some x) h = absurd (cc)

pub makes_new : (r id : ℕ) (v w : Seen) → Makes r id v w → at v id ≡ None
makes_new r id v w h = none_from (at v id) h.free

pub there_not_none : (o : Option Object) → is_some o ≡ true → o ≡ None → ⊥
there_not_none None h e = absurd (cc)
there_not_none (Some x) h e = absurd (cc)

-- what is there isn't an id that is free
pub apart_new : (f : ℕ → Option Object) (x id : ℕ) → is_some (f x) ≡ true → f id ≡ None → x ≢ id
apart_new f x id h n e = there_not_none (f x) h (ap f e ∙ n)

-- ---- writes, one after another

abbrev of_parts : ℕ → List Object → List (Option ℕ) → Seen
of_parts slots graph registers = record { slots = slots; graph = graph; registers = registers }

written_is : (id value : ℕ) (p : Place) (v w : Seen) → Writes id p value v w → w ≡ written id p value v
written_is id value p v w h = ap (λ s. of_parts s w.graph w.registers) h.slots ∙ ap (λ g. of_parts v.slots g w.registers) h.graph ∙ ap (λ r. of_parts v.slots (after_place v.slots v.graph id p value) r) h.registers

writes_it : (id value : ℕ) (p : Place) (v : Seen) → Writes id p value v (written id p value v)
writes_it id value p v = record { slots = refl; graph = refl; registers = refl }

pub leaf_fills : (key value : ℕ) (a b c d : Seen) → Writes (held_id a 4) Payload value a b → Writes (held_id b 3) Payload key b c → Writes (held_id c 3) (Slot 2) (held_id c 4) c d → d ≡ leaf_filled key value a
leaf_fills key value a b c d w1 w2 w3 =
    let e1 : b ≡ written (held_id a 4) Payload value a = written_is (held_id a 4) value Payload a b w1 in
    let e2 : c ≡ written (held_id b 3) Payload key b = written_is (held_id b 3) key Payload b c w2 in
    let e3 : d ≡ written (held_id c 3) (Slot 2) (held_id c 4) c = written_is (held_id c 3) (held_id c 4) (Slot 2) c d w3 in
    e3 ∙ ap (λ (x : Seen). written (held_id x 3) (Slot 2) (held_id x 4) x) (e2 ∙ ap (λ (x : Seen). written (held_id x 3) Payload key x) e1)

pub inner_fills : (bit side : ℕ) (a b c d : Seen) → Writes (held_id a 5) Payload bit a b → Writes (held_id b 5) (Slot side) (held_id b 3) b c → Writes (held_id c 5) (Slot (1 - side)) (held_id c 1) c d → d ≡ inner_filled bit side a
inner_fills bit side a b c d w1 w2 w3 =
    let e1 : b ≡ written (held_id a 5) Payload bit a = written_is (held_id a 5) bit Payload a b w1 in
    let e2 : c ≡ written (held_id b 5) (Slot side) (held_id b 3) b = written_is (held_id b 5) (held_id b 3) (Slot side) b c w2 in
    let e3 : d ≡ written (held_id c 5) (Slot (1 - side)) (held_id c 1) c = written_is (held_id c 5) (held_id c 1) (Slot (1 - side)) c d w3 in
    e3 ∙ ap (λ (x : Seen). written (held_id x 5) (Slot (1 - side)) (held_id x 1) x) (e2 ∙ ap (λ (x : Seen). written (held_id x 5) (Slot side) (held_id x 3) x) e1)

-- ---- a new leaf with its cell

blank_cell : (slots id value : ℕ) (o : Option Object) → o ≡ option_map (set_place Payload value) (Some (blank slots id)) → IsCell o value
blank_cell slots id value o e = subst (λ x. IsCell x value) (sym e) (record { there = refl; value_is = refl; null = λ k. slots_zero slots k })

blank_leaf : (slots id key cell : ℕ) (o : Option Object) → 2 < slots → cell ≢ 0 → o ≡ option_map (set_place (Slot 2) cell) (option_map (set_place Payload key) (Some (blank slots id))) → IsLeaf o key cell
blank_leaf slots id key cell o l n e =
    let within : 2 < length (replicate slots 0) = subst (λ k. 2 < k) (sym (length-replicate slots 0)) l in
    subst (λ x. IsLeaf x key cell) (sym e) (record { key_is = refl; names = get_or-set_same (replicate slots 0) 2 cell 0 within; named = n; null = λ k m. get_or-set_other (replicate slots 0) 2 k cell 0 m ∙ slots_zero slots k })

-- the leaf is another object than its cell, which was made before it
pair_apart : (cell leaf : ℕ) (a b c : Seen) → Makes 4 cell a b → Makes 3 leaf b c → cell ≢ leaf
pair_apart cell leaf a b c m1 m2 = apart_new (at b) cell leaf (ap (λ o. is_some o) (makes_here 4 cell a b m1)) (makes_new 3 leaf b c m2)

cell_made : (cell leaf : ℕ) (a b c : Seen) → Makes 4 cell a b → Makes 3 leaf b c → at c cell ≡ Some (blank a.slots cell)
cell_made cell leaf a b c m1 m2 = makes_other 3 leaf cell b c m2 (pair_apart cell leaf a b c m1 m2) ∙ makes_here 4 cell a b m1

pub leaf_made : (key value cell leaf : ℕ) (a b c d : Seen) → 13 < a.slots → Makes 4 cell a b → Makes 3 leaf b c → d ≡ leaf_filled key value c → MakesLeaf key value a d
leaf_made key value cell leaf a b c d room m1 m2 q = subst (λ x. MakesLeaf key value a x) (sym q) (by (held_here c 4 cell (m2.others 4 (λ z. absurd (omega (arith, z))) ∙ m1.here)) (held_here c 3 leaf m2.here))
  where
    by : held_id c 4 ≡ cell → held_id c 3 ≡ leaf → MakesLeaf key value a (leaf_filled key value c)
    by cell0 leaf0 =
        let e : Seen = written (held_id c 4) Payload value c in
        let f : Seen = written (held_id c 3) Payload key e in
        let g : Seen = leaf_filled key value c in
        let w1 : Writes cell Payload value c e = subst (λ x. Writes x Payload value c e) cell0 (writes_it (held_id c 4) value Payload c) in
        let w2 : Writes leaf Payload key e f = subst (λ x. Writes x Payload key e f) leaf0 (writes_it (held_id c 3) key Payload e) in
        let w3 : Writes leaf (Slot 2) cell f g = subst (λ x. Writes x (Slot 2) cell f g) leaf0 (subst (λ x. Writes (held_id c 3) (Slot 2) x f g) cell0 (writes_it (held_id c 3) (held_id c 4) (Slot 2) f)) in
        let free_cell : at a cell ≡ None = makes_new 4 cell a b m1 in
        let apart : cell ≢ leaf = pair_apart cell leaf a b c m1 m2 in
        let apart' : leaf ≢ cell = λ z. apart (sym z) in
        let new_leaf : at a leaf ≡ None = sym (makes_other 4 cell leaf a b m1 apart') ∙ makes_new 3 leaf b c m2 in
        let beside : (x : ℕ) → x ≢ leaf → at g x ≡ at e x = λ x n. writes_other leaf x cell (Slot 2) f g w3 n ∙ writes_other leaf x key Payload e f w2 n in
        let rest : (x : ℕ) → x ≢ leaf → x ≢ cell → at g x ≡ at a x = λ x n k. beside x n ∙ writes_other cell x value Payload c e w1 k ∙ makes_other 3 leaf x b c m2 n ∙ makes_other 4 cell x a b m1 k in
        let at_cell : at g cell ≡ option_map (set_place Payload value) (Some (blank a.slots cell)) = beside cell apart ∙ payload_written cell value c e w1 ∙ ap (option_map (set_place Payload value)) (cell_made cell leaf a b c m1 m2) in
        let blank_leaf_is : at e leaf ≡ Some (blank a.slots leaf) = writes_other cell leaf value Payload c e w1 apart' ∙ makes_here 3 leaf b c m2 ∙ ap (λ n. Some (blank n leaf)) m1.slots in
        let at_leaf : at g leaf ≡ option_map (set_place (Slot 2) cell) (option_map (set_place Payload key) (Some (blank a.slots leaf))) =
        slot_written leaf 2 cell f g w3 ∙ ap (option_map (set_place (Slot 2) cell)) (payload_written leaf key e f w2 ∙ ap (option_map (set_place Payload key)) blank_leaf_is) in
        let room2 : 2 < a.slots = omega (arith, room) in
        record {
          leaf = leaf;
          cell = cell;
          here = m2.here;
          is_leaf = blank_leaf a.slots leaf key cell (at g leaf) room2 m1.named at_leaf;
          is_cell = blank_cell a.slots cell value (at g cell) at_cell;
          named = m2.named;
          new_leaf = new_leaf;
          new_cell = free_cell;
          stay = λ x h. rest x (apart_new (at a) x leaf h new_leaf) (apart_new (at a) x cell h free_cell);
          rest = rest;
          others = λ r n k. m2.others r n ∙ m1.others r k;
          slots = m2.slots ∙ m1.slots;
        }

-- ---- a new object, and writes of others

-- a new object is put under a free id, which a register gets: what that does to each object
pub record MakesBlank (into id : ℕ) (old new : Seen) : Type 0 where
  pub named : id ≢ 0
  pub free : at old id ≡ None
  pub made : at new id ≡ Some (blank old.slots id)
  pub rest : (x : ℕ) → x ≢ id → at new x ≡ at old x
  pub here : held new into ≡ Some id
  pub others : (r : ℕ) → r ≢ into → held new r ≡ held old r
  pub slots : new.slots ≡ old.slots

makes_blank : (into id : ℕ) (v w : Seen) → Makes into id v w → MakesBlank into id v w
makes_blank into id v w m = record { named = m.named; free = makes_new into id v w m; made = makes_here into id v w m; rest = λ x n. makes_other into id x v w m n; here = m.here; others = m.others; slots = m.slots }

-- what one write makes of an object depends on that object alone
same_written : (id x value : ℕ) (p : Place) (v w : Seen) → w.slots ≡ v.slots → at w x ≡ at v x → at (written id p value w) x ≡ at (written id p value v) x
same_written id x value p v w s e =
    at_written w.slots w.graph id x p value ∙ ap (λ n. if id == x then place_at n x p value (at w x) else at w x) s ∙ ap (λ o. if id == x then place_at v.slots x p value o else o) e ∙ sym (at_written v.slots v.graph id x p value)

-- the same write of another object before it leaves it as it is
blank_beside : (into id other value : ℕ) (p : Place) (v w : Seen) → id ≢ other → MakesBlank into id v w → MakesBlank into id (written other p value v) (written other p value w)
blank_beside into id other value p v w n m = record {
  named = m.named;
  free = writes_other other id value p v (written other p value v) (writes_it other value p v) n ∙ m.free;
  made = writes_other other id value p w (written other p value w) (writes_it other value p w) n ∙ m.made;
  rest = λ x k. same_written other x value p v w m.slots (m.rest x k);
  here = m.here;
  others = m.others;
  slots = m.slots;
}

-- a new object after a leaf's objects is the same as one after the whole leaf
leaf_before : (key value id : ℕ) (v w : Seen) → id ≢ held_id v 3 → id ≢ held_id v 4 → MakesBlank 5 id v w → MakesBlank 5 id (leaf_filled key value v) (leaf_filled key value w)
leaf_before key value id v w n3 n4 m =
    let e3 : held_id v 3 ≡ held_id w 3 = ap (λ o. unwrap_or o 0) (sym (m.others 3 (λ z. absurd (omega (arith, z))))) in
    let e4 : held_id v 4 ≡ held_id w 4 = ap (λ o. unwrap_or o 0) (sym (m.others 4 (λ z. absurd (omega (arith, z))))) in
    subst (λ i. MakesBlank 5 id (leaf_filled key value v) (written i (Slot 2) (held_id w 4) (written i Payload key (written (held_id w 4) Payload value w)))) e3
    (subst (λ j. MakesBlank 5 id (leaf_filled key value v) (written (held_id v 3) (Slot 2) j (written (held_id v 3) Payload key (written j Payload value w)))) e4
    (blank_beside 5 id (held_id v 3) (held_id v 4) (Slot 2) (written (held_id v 3) Payload key (written (held_id v 4) Payload value v)) (written (held_id v 3) Payload key (written (held_id v 4) Payload value w)) n3
    (blank_beside 5 id (held_id v 3) key Payload (written (held_id v 4) Payload value v) (written (held_id v 4) Payload value w) n3 (blank_beside 5 id (held_id v 4) value Payload v w n4 m))))

-- ---- a new inner object

blank_low : (slots id bit low high : ℕ) (o : Option Object) → 13 < slots → low ≢ 0 → high ≢ 0 → o ≡ option_map (set_place (Slot 1) high) (option_map (set_place (Slot 0) low) (option_map (set_place Payload bit) (Some (blank slots id)))) → IsInner o bit low high
blank_low slots id bit low high o l n m e =
    let zero' : 0 < length (replicate slots 0) = subst (λ k. 0 < k) (sym (length-replicate slots 0)) (omega (arith, l)) in
    let one' : 1 < length (slice_set (replicate slots 0) 0 low) = subst (λ k. 1 < k) (sym (length-set (replicate slots 0) 0 low ∙ length-replicate slots 0)) (omega (arith, l)) in
    subst (λ x. IsInner x bit low high) (sym e) (record {
      bit_is = refl;
      names_low = get_or-set_other (slice_set (replicate slots 0) 0 low) 1 0 high 0 (λ z. absurd (omega (arith, z))) ∙ get_or-set_same (replicate slots 0) 0 low 0 zero';
      names_high = get_or-set_same (slice_set (replicate slots 0) 0 low) 1 high 0 one';
      low_named = n;
      high_named = m;
      null = λ k x y. get_or-set_other (slice_set (replicate slots 0) 0 low) 1 k high 0 y ∙ get_or-set_other (replicate slots 0) 0 k low 0 x ∙ slots_zero slots k;
    })

blank_high : (slots id bit low high : ℕ) (o : Option Object) → 13 < slots → low ≢ 0 → high ≢ 0 → o ≡ option_map (set_place (Slot 0) low) (option_map (set_place (Slot 1) high) (option_map (set_place Payload bit) (Some (blank slots id)))) → IsInner o bit low high
blank_high slots id bit low high o l n m e =
    let one' : 1 < length (replicate slots 0) = subst (λ k. 1 < k) (sym (length-replicate slots 0)) (omega (arith, l)) in
    let zero' : 0 < length (slice_set (replicate slots 0) 1 high) = subst (λ k. 0 < k) (sym (length-set (replicate slots 0) 1 high ∙ length-replicate slots 0)) (omega (arith, l)) in
    subst (λ x. IsInner x bit low high) (sym e) (record {
      bit_is = refl;
      names_low = get_or-set_same (slice_set (replicate slots 0) 1 high) 0 low 0 zero';
      names_high = get_or-set_other (slice_set (replicate slots 0) 1 high) 0 1 low 0 (λ z. absurd (omega (arith, z))) ∙ get_or-set_same (replicate slots 0) 1 high 0 one';
      low_named = n;
      high_named = m;
      null = λ k x y. get_or-set_other (slice_set (replicate slots 0) 1 high) 0 k low 0 x ∙ get_or-set_other (replicate slots 0) 1 k high 0 y ∙ slots_zero slots k;
    })

-- the object of the id after the writes of an inner object, and what else they do
pub record FillsInner (bit side id : ℕ) (old new : Seen) : Type 0 where
  pub filled : at new id ≡ option_map (set_place (Slot (1 - side)) (held_id old 1)) (option_map (set_place (Slot side) (held_id old 3)) (option_map (set_place Payload bit) (Some (blank old.slots id))))
  pub rest : (x : ℕ) → x ≢ id → at new x ≡ at old x

inner_filled_is : (bit side id : ℕ) (v w : Seen) → MakesBlank 5 id v w → FillsInner bit side id v (inner_filled bit side w)
inner_filled_is bit side id v w m =
    let id0 : held_id w 5 ≡ id = held_here w 5 id m.here in
    let one0 : held_id w 1 ≡ held_id v 1 = ap (λ o. unwrap_or o 0) (m.others 1 (λ z. absurd (omega (arith, z)))) in
    let three0 : held_id w 3 ≡ held_id v 3 = ap (λ o. unwrap_or o 0) (m.others 3 (λ z. absurd (omega (arith, z)))) in
    let a : Seen = written (held_id w 5) Payload bit w in
    let b : Seen = written (held_id w 5) (Slot side) (held_id w 3) a in
    let c : Seen = inner_filled bit side w in
    let w1 : Writes id Payload bit w a = subst (λ x. Writes x Payload bit w a) id0 (writes_it (held_id w 5) bit Payload w) in
    let w2 : Writes id (Slot side) (held_id v 3) a b = subst (λ x. Writes x (Slot side) (held_id v 3) a b) id0 (subst (λ x. Writes (held_id w 5) (Slot side) x a b) three0 (writes_it (held_id w 5) (held_id w 3) (Slot side) a)) in
    let w3 : Writes id (Slot (1 - side)) (held_id v 1) b c = subst (λ x. Writes x (Slot (1 - side)) (held_id v 1) b c) id0 (subst (λ x. Writes (held_id w 5) (Slot (1 - side)) x b c) one0 (writes_it (held_id w 5) (held_id w 1) (Slot (1 - side)) b)) in
    record {
      filled = slot_written id (1 - side) (held_id v 1) b c w3 ∙ ap (option_map (set_place (Slot (1 - side)) (held_id v 1))) (slot_written id side (held_id v 3) a b w2 ∙ ap (option_map (set_place (Slot side) (held_id v 3))) (payload_written id bit w a w1 ∙ ap (option_map (set_place Payload bit)) m.made));
      rest = λ x n. writes_other id x (held_id v 1) (Slot (1 - side)) b c w3 n ∙ writes_other id x (held_id v 3) (Slot side) a b w2 n ∙ writes_other id x bit Payload w a w1 n ∙ m.rest x n;
    }

inner_made : (bit side low high id : ℕ) (v w : Seen) → MakesBlank 5 id v w → IsInner (at (inner_filled bit side w) id) bit (held_id v low) (held_id v high) → MakesInner bit low high v (inner_filled bit side w)
inner_made bit side low high id v w m inner_is =
    let f : FillsInner bit side id v (inner_filled bit side w) = inner_filled_is bit side id v w m in
    record {
      id = id;
      here = m.here;
      is_inner = inner_is;
      named = m.named;
      new_id = m.free;
      stay = λ x h. f.rest x (apart_new (at v) x id h m.free);
      rest = f.rest;
      others = m.others;
      slots = m.slots;
    }

-- ---- a new leaf, and a new inner object over it

-- All three objects are made, and the leaf is filled: what is there is what a new inner object after the whole leaf would be.
pub record IsLeafBeside (key value id : ℕ) (a c d : Seen) : Type 0 where
  pub leaf : MakesLeaf key value a (leaf_filled key value c)
  pub blank : MakesBlank 5 id (leaf_filled key value c) (leaf_filled key value d)
  pub room : 13 < c.slots
  pub leaf_named : held_id c 3 ≢ 0
  pub other_named : held_id c 1 ≢ 0

pub leaf_beside : (key value cell leaf id : ℕ) (a b c d : Seen) → 13 < a.slots → Makes 4 cell a b → Makes 3 leaf b c → Makes 5 id c d → held_id a 1 ≢ 0 → IsLeafBeside key value id a c d
leaf_beside key value cell leaf id a b c d room m1 m2 m3 n =
    let cell0 : held_id c 4 ≡ cell = held_here c 4 cell (m2.others 4 (λ z. absurd (omega (arith, z))) ∙ m1.here) in
    let leaf0 : held_id c 3 ≡ leaf = held_here c 3 leaf m2.here in
    let one0 : held_id c 1 ≡ held_id a 1 = ap (λ o. unwrap_or o 0) (m2.others 1 (λ z. absurd (omega (arith, z))) ∙ m1.others 1 (λ z. absurd (omega (arith, z)))) in
    let free : at c id ≡ None = makes_new 5 id c d m3 in
    let not_leaf : leaf ≢ id = apart_new (at c) leaf id (ap (λ o. is_some o) (makes_here 3 leaf b c m2)) free in
    let not_cell : cell ≢ id = apart_new (at c) cell id (ap (λ o. is_some o) (cell_made cell leaf a b c m1 m2)) free in
    record {
      leaf = leaf_made key value cell leaf a b c (leaf_filled key value c) room m1 m2 refl;
      blank = leaf_before key value id c d (λ z. not_leaf (sym leaf0 ∙ sym z)) (λ z. not_cell (sym cell0 ∙ sym z)) (makes_blank 5 id c d m3);
      room = subst (λ k. 13 < k) (sym (m2.slots ∙ m1.slots)) room;
      leaf_named = λ z. m2.named (sym leaf0 ∙ z);
      other_named = λ z. n (sym one0 ∙ z);
    }

filled_by : (key value bit side n : ℕ) (d e f : Seen) → e ≡ leaf_filled key value d → f ≡ inner_filled bit side e → side ≡ n → f ≡ inner_filled bit n (leaf_filled key value d)
filled_by key value bit side n d e f q1 q2 s = q2 ∙ ap (λ (x : Seen). inner_filled bit side x) q1 ∙ ap (λ k. inner_filled bit k (leaf_filled key value d)) s

-- the leaf is on the low side
pub low_fork : (key value bit side id : ℕ) (a c d e f : Seen) → IsLeafBeside key value id a c d → e ≡ leaf_filled key value d → f ≡ inner_filled bit side e → side ≡ 0 → MakesFork key value bit 3 1 a f
low_fork key value bit side id a c d e f h q1 q2 s =
    let v : Seen = leaf_filled key value c in
    let w : Seen = leaf_filled key value d in
    let inner_is : IsInner (at (inner_filled bit 0 w) id) bit (held_id v 3) (held_id v 1) = blank_low c.slots id bit (held_id v 3) (held_id v 1) (at (inner_filled bit 0 w) id) h.room h.leaf_named h.other_named (inner_filled_is bit 0 id v w h.blank).filled in
    subst (λ x. MakesFork key value bit 3 1 a x) (sym (filled_by key value bit side 0 d e f q1 q2 s)) (record { between = v; leaf = h.leaf; inner = inner_made bit 0 3 1 id v w h.blank inner_is })

-- the leaf is on the high side
pub high_fork : (key value bit side id : ℕ) (a c d e f : Seen) → IsLeafBeside key value id a c d → e ≡ leaf_filled key value d → f ≡ inner_filled bit side e → side ≡ 1 → MakesFork key value bit 1 3 a f
high_fork key value bit side id a c d e f h q1 q2 s =
    let v : Seen = leaf_filled key value c in
    let w : Seen = leaf_filled key value d in
    let inner_is : IsInner (at (inner_filled bit 1 w) id) bit (held_id v 1) (held_id v 3) = blank_high c.slots id bit (held_id v 1) (held_id v 3) (at (inner_filled bit 1 w) id) h.room h.other_named h.leaf_named (inner_filled_is bit 1 id v w h.blank).filled in
    subst (λ x. MakesFork key value bit 1 3 a x) (sym (filled_by key value bit side 1 d e f q1 q2 s)) (record { between = v; leaf = h.leaf; inner = inner_made bit 1 1 3 id v w h.blank inner_is })
