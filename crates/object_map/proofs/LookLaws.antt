-- What looks at an object's slots tell of it.
use Rattle.std.proofs.Common.{◌≡◌, ◌≢◌, ℕ, ◌<◌, ◌≤◌, ◌+◌, ◌/◌, ◌^◌, List, Option, Some, refl, sym, ap, ◌∙◌, subst, arith, ⊎_elim, true, false}
use Rattle.std.specs.Prelude.{unwrap_or, IsSome, ◌==◌}
use Rattle.std.specs.Int.{bit_at}
use Rattle.std.specs.Int.Bits.{bit_and}
use Rattle.std.proofs.lemmas.Bool.{cases_eq, cases_lt}
use Rattle.std.proofs.lemmas.Bool.Decides.{nat_tests}
use Rattle.std.proofs.lemmas.Nat.Bits.{shr_and_one}
use Rattle.plain_model.specs.declared.object.Object.{Object}
use Rattle.plain_model.specs.Graphs.{object_at}
use Rattle.plain_model.specs.Machine.{nonzero}
use Rattle.object_map.specs.Clients.{object_slots}
use Rattle.object_map.specs.Maps.{slot_of, payload_of, room_of, IsLeaf, IsCell, IsInner}
use Rattle.object_map.specs.Seen.{Seen, at, held, held_id, Loads}
use Rattle.object_map.specs.Walking.{Comes}
use Rattle.object_map.proofs.WayLaws.{held_here, nonzero_some}
use Rattle.object_map.proofs.RelinkLaws.{slot_room, room_some}
use Rattle.object_map.proofs.WalkLaws.{GoesOn, goes_on}

-- the object in a register, as it was seen before
pub here_payload : (old now : Seen) (r id : ℕ) → now.graph ≡ old.graph → held now r ≡ Some id → payload_of (at now (held_id now r)) ≡ payload_of (at old id)
here_payload old now r id g h = ap (λ i. payload_of (at now i)) (held_here now r id h) ∙ ap (λ x. payload_of (object_at x id)) g

pub here_slot : (old now : Seen) (r id k : ℕ) → now.graph ≡ old.graph → held now r ≡ Some id → slot_of (at now (held_id now r)) k ≡ slot_of (at old id) k
here_slot old now r id k g h = ap (λ i. slot_of (at now i) k) (held_here now r id h) ∙ ap (λ x. slot_of (object_at x id) k) g

-- beyond an object's slots there is nothing
pub past_room : (o : Option Object) (n k : ℕ) → room_of o ≡ n → n ≤ k → slot_of o k ≡ 0
past_room o n k e l = ⊎_elim
    (λ (z : slot_of o k ≡ 0). z)
    (λ (s : slot_of o k ≢ 0). (let h : k < room_of o = slot_room o k s in absurd (omega (arith, e, l, h))))
    (cases_eq (slot_of o k) 0)

-- the slots that were looked at, and those beyond
pub all_null : (o : Option Object) (a b : ℕ) → room_of o ≡ object_slots → ((k : ℕ) → k < object_slots → k ≢ a → k ≢ b → slot_of o k ≡ 0) → (k : ℕ) → k ≢ a → k ≢ b → slot_of o k ≡ 0
all_null o a b e h k m n = ⊎_elim
    (λ (l : k < object_slots). h k l m n)
    (λ (g : object_slots ≤ k). past_room o object_slots k e g)
    (cases_lt k object_slots)

pub leaf_is : (v : Seen) (id cell : ℕ) → held v 1 ≡ Some id → slot_of (at v id) 2 ≡ cell → cell ≢ 0 → ((k : ℕ) → k ≢ 2 → k ≢ 2 → slot_of (at v (held_id v 1)) k ≡ 0) → IsLeaf (at v id) (payload_of (at v id)) cell
leaf_is v id cell here names named null = record {
  key_is = refl;
  names = names;
  named = named;
  null = λ k n. sym (here_slot v v 1 id k refl here) ∙ null k n n;
}

pub cell_is : (v w : Seen) (cell : ℕ) → held v 2 ≡ Some cell → held w 2 ≡ held v 2 → w.graph ≡ v.graph → room_of (at v (held_id v 2)) ≡ object_slots → ((k : ℕ) → k ≢ 14 → k ≢ 14 → slot_of (at w (held_id w 2)) k ≡ 0) → IsCell (at v cell) (payload_of (at v cell))
cell_is v w cell here same graph room null =
    let its : room_of (at v cell) ≡ object_slots = ap (λ i. room_of (at v i)) (sym (held_here v 2 cell here)) ∙ room in
    record {
      there = room_some (at v cell) 0 (subst (λ n. 0 < n) (sym its) (omega arith));
      value_is = refl;
      null = λ k. ⊎_elim
          (λ (e : k ≡ 14). past_room (at v cell) object_slots k its (subst (λ n. 14 ≤ n) (sym e) (let l : 14 ≤ 14 = omega arith in l)))
          (λ (n : k ≢ 14). sym (here_slot v w 2 cell k graph (same ∙ here)) ∙ null k n n)
          (cases_eq k 14);
    }

-- the object in a register, where neither has changed
pub same_slot : (v u : Seen) (r k : ℕ) → u.graph ≡ v.graph → held u r ≡ held v r → slot_of (at u (held_id u r)) k ≡ slot_of (at v (held_id v r)) k
same_slot v u r k g e = ap (λ i. slot_of (at u i) k) (ap (λ o. unwrap_or o 0) e) ∙ ap (λ z. slot_of (object_at z (held_id v r)) k) g

-- an object whose slots 0 and 1 name objects, and whose others are null
pub inner_is : (v w x : Seen) (r low high : ℕ) → w.graph ≡ v.graph → held w r ≡ held v r → x.graph ≡ v.graph → held x r ≡ held v r → low ≡ slot_of (at v (held_id v r)) 0 → low ≢ 0 → high ≡ slot_of (at w (held_id w r)) 1 → high ≢ 0
    → ((k : ℕ) → k ≢ 0 → k ≢ 1 → slot_of (at x (held_id x r)) k ≡ 0) → IsInner (at v (held_id v r)) (payload_of (at v (held_id v r))) low high
inner_is v w x r low high wg wh xg xh l ln h hn null = record {
  bit_is = refl;
  names_low = sym l;
  names_high = sym (h ∙ same_slot v w r 1 wg wh);
  low_named = ln;
  high_named = hn;
  null = λ k m n. sym (same_slot v x r k xg xh) ∙ null k m n;
}

-- ---- a step of the way by a guide's bits

-- the guide's bits lead from the object to the target
pub record LeadsOn (at : ℕ → Option Object) (guide last id target : ℕ) : Type 0 where
  pub below : ℕ
  pub numbers : List ℕ
  pub comes : Comes at guide last below numbers id target

pub record LedOn (old new : Seen) (guide last payload next target : ℕ) : Type 0 where
  pub less : payload < last
  pub way : LeadsOn (at old) guide payload next target
  pub here : held new 1 ≡ Some next

-- the object has a number below the last one
pub led_number : (old v : Seen) (guide last id target payload : ℕ) → LeadsOn (at old) guide last id target → id ≢ target → v.graph ≡ old.graph → held v 1 ≡ Some id → payload ≡ payload_of (at v (held_id v 1)) → payload < last
led_number old v guide last id target payload w n g h p =
    let s : GoesOn (at old) guide last w.below id target = goes_on (at old) guide last w.below w.numbers id target w.comes n in
    let its : payload ≡ s.bit = p ∙ here_payload old v 1 id g h ∙ s.number in
    let less : s.bit < last = s.less in
    omega (arith, its, less)

pub led_on : (old v w x : Seen) (guide last id target payload slot next : ℕ) → LeadsOn (at old) guide last id target → id ≢ target → v.graph ≡ old.graph → held v 1 ≡ Some id → payload ≡ payload_of (at v (held_id v 1)) → w ≡ v → slot ≡ bit_and (guide / 2 ^ payload) 1 → next ≡ slot_of (at w (held_id w 1)) slot → Loads 1 (nonzero next) w x
    → LedOn old x guide last payload next target
led_on old v w x guide last id target payload slot next y n g h p same digit told l =
    let s : GoesOn (at old) guide last y.below id target = goes_on (at old) guide last y.below y.numbers id target y.comes n in
    let its : payload ≡ s.bit = p ∙ here_payload old v 1 id g h ∙ s.number in
    let bit : slot ≡ bit_at guide s.bit = digit ∙ shr_and_one guide payload ∙ ap (λ b. bit_at guide b) its in
    let there : next ≡ slot_of (at old id) (bit_at guide s.bit) = told ∙ ap (λ (u : Seen). slot_of (at u (held_id u 1)) slot) same ∙ here_slot old v 1 id slot g h ∙ ap (λ k. slot_of (at old id) k) bit in
    record {
      less = led_number old v guide last id target payload y n g h p;
      way = record {
        below = y.below;
        numbers = s.rest;
        comes = subst (λ z. Comes (at old) guide payload y.below s.rest z target) (sym there) (subst (λ b. Comes (at old) guide b y.below s.rest (slot_of (at old id) (bit_at guide s.bit)) target) (sym its) s.comes);
      };
      here = l.here ∙ nonzero_some next (λ z. s.some (sym there ∙ z));
    }

-- ---- tests

pub zero_test : (n : ℕ) → (n == 0) ≡ true → n ≡ 0
zero_test n e = grind (arith, nat_tests)

pub some_test : (n : ℕ) → (n == 0) ≡ false → n ≢ 0
some_test n e = grind (arith, nat_tests)

-- a register that was full and stayed is full
pub still_held : (v w : Seen) (r : ℕ) → held w r ≡ held v r → IsSome (held v r) → IsSome (held w r)
still_held v w r e h = subst (λ o. IsSome o) (sym e) h

-- one slot more was looked at
pub null_more : (o : Option Object) (a b i : ℕ) → ((k : ℕ) → k < i → k ≢ a → k ≢ b → slot_of o k ≡ 0) → (i ≢ a → i ≢ b → slot_of o i ≡ 0) → (k : ℕ) → k < i + 1 → k ≢ a → k ≢ b → slot_of o k ≡ 0
null_more o a b i h s k l m n = ⊎_elim
    (λ (e : k ≡ i). subst (λ j. slot_of o j ≡ 0) (sym e) (s (λ z. m (e ∙ z)) (λ z. n (e ∙ z))))
    (λ (d : k ≢ i). h k (omega (arith, l, d)) m n)
    (cases_eq k i)

-- ---- an object that is no inner one

pub no_low_side : (o : Option Object) (id bit low high : ℕ) → id ≡ slot_of o 0 → id ≡ 0 → IsInner o bit low high → ⊥
no_low_side o id bit low high told z i = i.low_named (sym i.names_low ∙ sym told ∙ z)

pub no_high_side : (v w : Seen) (r id bit low high : ℕ) → w.graph ≡ v.graph → held w r ≡ held v r → id ≡ slot_of (at w (held_id w r)) 1 → id ≡ 0 → IsInner (at v (held_id v r)) bit low high → ⊥
no_high_side v w r id bit low high g h told z i = i.high_named (sym i.names_high ∙ sym (same_slot v w r 1 g h) ∙ sym told ∙ z)

pub no_other_side : (v w : Seen) (r k bit low high : ℕ) → w.graph ≡ v.graph → held w r ≡ held v r → k ≢ 0 → k ≢ 1 → slot_of (at w (held_id w r)) k ≢ 0 → IsInner (at v (held_id v r)) bit low high → ⊥
no_other_side v w r k bit low high g h m n some i = some (same_slot v w r k g h ∙ i.null k m n)

pub one_test : (n : ℕ) → (n == 1) ≡ true → n ≡ 1
one_test n e = grind (arith, nat_tests)

pub no_one_test : (n : ℕ) → n ≡ 1 → (n == 1) ≡ true
no_one_test n e = grind (arith, nat_tests)
