-- The way to a leaf that is taken away.
use Rattle.std.proofs.Common.{◌≡◌, ◌≢◌, ℕ, ◌/◌, ◌^◌, ◌<◌, List, [], ◌∷◌, Option, Some, refl, sym, ap, ◌∙◌, subst, arith, ⊎_elim, Bool, true, false}
use Rattle.std.specs.Int.{bit_at}
use Rattle.std.specs.Int.Bits.{bit_and}
use Rattle.std.proofs.lemmas.Nat.Bits.{shr_and_one}
use Rattle.plain_model.specs.declared.object.Object.{Object}
use Rattle.plain_model.specs.Graphs.{root, object_at}
use Rattle.plain_model.specs.Machine.{nonzero}
use Rattle.object_map.specs.Trees.{Tree, id_of, IsBelow, IsCritBit}
use Rattle.object_map.specs.Trees.Tree.{leaf, inner}
use Rattle.object_map.specs.Maps.{IsTree, AreObjects, IsLeaf, IsInner, slot_of, payload_of}
use Rattle.object_map.specs.Seen.{Seen, at, held, held_id, Loads}
use Rattle.object_map.specs.Ways.{Turn, whole, Follows}
use Rattle.object_map.specs.Ways.Turn.{to_low, to_high}
use Rattle.object_map.specs.Parting.{HangsUnder}
use Rattle.object_map.specs.Seeking.{HangsTwice, IsSeeking, IsSought, HasTree}
use Rattle.object_map.proofs.BitLaws.{bit_cases}
use Rattle.object_map.proofs.WayLaws.{InnerTree, inner_of, LeafTree, leaf_of, objects_within, critical_within, held_here, nonzero_some}

pub under_same : (v w : Seen) (turns : List Turn) (r s : ℕ) → held w 3 ≡ held v 3 → HangsUnder 3 v turns r s → HangsUnder 3 w turns r s
under_same v w [] r s e h = h
under_same v w (to_low i b t ∷ turns) r s e h = (h.0, h.1, e ∙ h.2)
under_same v w (to_high i b t ∷ turns) r s e h = (h.0, h.1, e ∙ h.2)

twice_same : (v w : Seen) (turns : List Turn) (only : Bool) (side r s : ℕ) → held w 2 ≡ held v 2 → held w 3 ≡ held v 3 → HangsTwice v turns only side r s → HangsTwice w turns only side r s
twice_same v w [] only side r s e f h = h
twice_same v w (to_low i b t ∷ turns) only side r s e f h = (h.0, h.1, e ∙ h.2, under_same v w turns r s f h.3)
twice_same v w (to_high i b t ∷ turns) only side r s e f h = (h.0, h.1, e ∙ h.2, under_same v w turns r s f h.3)

below_64 : (t : Tree) → IsCritBit t → IsBelow 64 t
below_64 (leaf i k c v) h = tt
below_64 (inner i b l r) h = h.0.number

pub seek_begins : (key id : ℕ) (v w : Seen) → held v 0 ≡ Some root → HasTree 13 v → id ≡ slot_of (at v (held_id v 0)) 13 → Loads 1 (nonzero id) v w → IsSeeking key 64 0 0 13 true v w
seek_begins key id v w r h e l =
    let told : id ≡ id_of h.tree = e ∙ ap (λ x. slot_of (at v x) 13) (held_here v 0 root r) ∙ h.under in
    record {
      turns = [];
      tree = h.tree;
      stands = h.stands;
      named = λ z. h.named (sym h.under ∙ z);
      start = h.under;
      here = l.here ∙ nonzero_some id (λ z. h.named (sym told ∙ z)) ∙ ap (λ x. Some x) told;
      follows = tt;
      below = below_64 h.tree h.stands.critical;
      hangs = (refl, refl, refl);
      rooted = l.others 0 (λ z. absurd (omega (arith, z))) ∙ r;
      slots = l.slots;
      graph = l.graph;
    }

seek_here : (key last side r s : ℕ) (only : Bool) (old now : Seen) (w : IsSeeking key last side r s only old now) → at now (held_id now 1) ≡ at old (id_of w.tree)
seek_here key last side r s only old now w = ap (λ i. at now i) (held_here now 1 (id_of w.tree) w.here) ∙ ap (λ g. object_at g (id_of w.tree)) w.graph

pub seek_ends : (key last side r s found cell : ℕ) (only : Bool) (old now new : Seen) (id : Option ℕ) (w : IsSeeking key last side r s only old now) → found ≡ payload_of (at now (held_id now 1)) → cell ≡ slot_of (at now (held_id now 1)) 2 → cell ≢ 0 → Loads 4 id now new → IsSought key found side r s only old new
seek_ends key last side r s found cell only old now new id w p e n l =
    let here : at now (held_id now 1) ≡ at old (id_of w.tree) = seek_here key last side r s only old now w in
    let a : AreObjects (at old) w.tree = objects_within (at old) w.turns w.tree w.stands.objects in
    let o : LeafTree w.tree = leaf_of (at old) w.tree a (λ z. n (e ∙ ap (λ x. slot_of x 2) here ∙ z)) in
    let k : IsLeaf (at old o.id) o.key o.cell = (subst (λ t. AreObjects (at old) t) o.same a).0 in
    let key' : o.key ≡ found = sym k.key_is ∙ ap (λ t. payload_of (at old (id_of t))) (sym o.same) ∙ ap payload_of (sym here) ∙ sym p in
    let same : w.tree ≡ leaf o.id found o.cell o.value = o.same ∙ ap (λ x. leaf o.id x o.cell o.value) key' in
    record {
      turns = w.turns;
      id = o.id;
      cell = o.cell;
      value = o.value;
      stands = subst (λ t. IsTree (at old) (whole w.turns t)) same w.stands;
      named = w.named;
      start = subst (λ t. slot_of (at old root) 13 ≡ id_of (whole w.turns t)) same w.start;
      here = l.others 1 (λ z. absurd (omega (arith, z))) ∙ subst (λ t. held now 1 ≡ Some (id_of t)) same w.here;
      follows = w.follows;
      hangs = twice_same now new w.turns only side r s (l.others 2 (λ z. absurd (omega (arith, z)))) (l.others 3 (λ z. absurd (omega (arith, z)))) w.hangs;
      rooted = l.others 0 (λ z. absurd (omega (arith, z))) ∙ w.rooted;
      slots = l.slots ∙ w.slots;
      graph = l.graph ∙ w.graph;
    }

-- ---- an inner object on the way

pub record InnerSeek (key last side r s : ℕ) (only : Bool) (old now : Seen) : Type 0 where
  pub turns : List Turn
  pub id : ℕ
  pub number : ℕ
  pub low : Tree
  pub high : Tree
  pub stands : IsTree (at old) (whole turns (inner id number low high))
  pub named : slot_of (at old root) 13 ≢ 0
  pub start : slot_of (at old root) 13 ≡ id_of (whole turns (inner id number low high))
  pub follows : Follows key turns
  pub below : number < last
  pub hangs : HangsTwice now turns only side r s
  pub rooted : held now 0 ≡ Some root
  pub slots : now.slots ≡ old.slots
  pub graph : now.graph ≡ old.graph

pub inner_seek : (key last side r s cell : ℕ) (only : Bool) (old now new : Seen) (id : Option ℕ) (w : IsSeeking key last side r s only old now) → cell ≡ slot_of (at now (held_id now 1)) 2 → cell ≡ 0 → Loads 4 id now new → InnerSeek key last side r s only old new
inner_seek key last side r s cell only old now new id w e z l =
    let a : AreObjects (at old) w.tree = objects_within (at old) w.turns w.tree w.stands.objects in
    let here : at now (held_id now 1) ≡ at old (id_of w.tree) = seek_here key last side r s only old now w in
    let o : InnerTree w.tree = inner_of (at old) w.tree a (sym (e ∙ ap (λ x. slot_of x 2) here) ∙ z) in
    record {
      turns = w.turns;
      id = o.id;
      number = o.bit;
      low = o.low;
      high = o.high;
      stands = subst (λ t. IsTree (at old) (whole w.turns t)) o.same w.stands;
      named = w.named;
      start = subst (λ t. slot_of (at old root) 13 ≡ id_of (whole w.turns t)) o.same w.start;
      follows = w.follows;
      below = subst (λ t. IsBelow last t) o.same w.below;
      hangs = twice_same now new w.turns only side r s (l.others 2 (λ y. absurd (omega (arith, y)))) (l.others 3 (λ y. absurd (omega (arith, y)))) w.hangs;
      rooted = l.others 0 (λ y. absurd (omega (arith, y))) ∙ w.rooted;
      slots = l.slots ∙ w.slots;
      graph = l.graph ∙ w.graph;
    }

-- its number is the payload that was looked at
pub seek_number : (key last side r s payload cell : ℕ) (only : Bool) (old now new : Seen) (id : Option ℕ) (w : IsSeeking key last side r s only old now) (e : cell ≡ slot_of (at now (held_id now 1)) 2) (z : cell ≡ 0) (l : Loads 4 id now new) → payload ≡ payload_of (at now (held_id now 1)) → payload ≡ (inner_seek key last side r s cell only old now new id w e z l).number
unfolding inner_seek
seek_number key last side r s payload cell only old now new id w e z l p =
    let a : AreObjects (at old) w.tree = objects_within (at old) w.turns w.tree w.stands.objects in
    let here : at now (held_id now 1) ≡ at old (id_of w.tree) = seek_here key last side r s only old now w in
    let o : InnerTree w.tree = inner_of (at old) w.tree a (sym (e ∙ ap (λ x. slot_of x 2) here) ∙ z) in
    let k : IsInner (at old o.id) o.bit (id_of o.low) (id_of o.high) = (subst (λ t. AreObjects (at old) t) o.same a).0 in
    p ∙ ap payload_of here ∙ ap (λ t. payload_of (at old (id_of t))) o.same ∙ k.bit_is

pub seek_fits : (key last side r s : ℕ) (only : Bool) (old now : Seen) (i : InnerSeek key last side r s only old now) → i.number < 64
seek_fits key last side r s only old now i = (critical_within i.turns (inner i.id i.number i.low i.high) i.stands.critical).0.number

-- register 2 holds it, and it hangs under the root's slot or under that of the object in register 3
pub record HoldsInner (key number r s : ℕ) (old now : Seen) : Type 0 where
  pub turns : List Turn
  pub id : ℕ
  pub low : Tree
  pub high : Tree
  pub stands : IsTree (at old) (whole turns (inner id number low high))
  pub named : slot_of (at old root) 13 ≢ 0
  pub start : slot_of (at old root) 13 ≡ id_of (whole turns (inner id number low high))
  pub follows : Follows key turns
  pub here : held now 2 ≡ Some id
  pub hangs : HangsUnder 3 now turns r s
  pub rooted : held now 0 ≡ Some root
  pub slots : now.slots ≡ old.slots
  pub graph : now.graph ≡ old.graph

no_bool : true ≡ false → ⊥
no_bool e = absurd (cc)

-- what hangs under a register's object
hung_3 : (f : ℕ → Option Object) (v : Seen) (turns : List Turn) (t : Tree) (r s : ℕ) → HangsUnder 3 v turns r s → AreObjects f (whole turns t) → slot_of (f root) 13 ≡ id_of (whole turns t) → held v 0 ≡ Some root → ((i : ℕ) → at v i ≡ f i) → slot_of (at v (held_id v r)) s ≡ id_of t
hung_3 f v [] t r s h a b c g = ap (λ x. slot_of (at v (held_id v x)) s) h.0 ∙ ap (λ x. slot_of (at v (held_id v 0)) x) h.1 ∙ ap (λ i. slot_of (at v i) 13) (held_here v 0 root c) ∙ ap (λ o. slot_of o 13) (g root) ∙ b
hung_3 f v (to_low i m y ∷ turns) t r s h a b c g =
    ap (λ x. slot_of (at v (held_id v x)) s) h.0 ∙ ap (λ x. slot_of (at v (held_id v 3)) x) h.1 ∙ ap (λ j. slot_of (at v j) 0) (held_here v 3 i h.2) ∙ ap (λ o. slot_of o 0) (g i) ∙ (objects_within f turns (inner i m t y) a).0.names_low
hung_3 f v (to_high i m y ∷ turns) t r s h a b c g =
    ap (λ x. slot_of (at v (held_id v x)) s) h.0 ∙ ap (λ x. slot_of (at v (held_id v 3)) x) h.1 ∙ ap (λ j. slot_of (at v j) 1) (held_here v 3 i h.2) ∙ ap (λ o. slot_of o 1) (g i) ∙ (objects_within f turns (inner i m y t) a).0.names_high

-- where the root's slot isn't null no tree within has the id 0
named_within : (f : ℕ → Option Object) (turns : List Turn) (t : Tree) → AreObjects f (whole turns t) → id_of (whole turns t) ≢ 0 → id_of t ≢ 0
named_within f [] t a n = n
named_within f (to_low i b r ∷ turns) t a n = (objects_within f turns (inner i b t r) a).0.low_named
named_within f (to_high i b l ∷ turns) t a n = (objects_within f turns (inner i b l t) a).0.high_named

-- without a turn it comes from the root's slot
pub step_only : (key last side r s id : ℕ) (only : Bool) (old now new : Seen) (i : InnerSeek key last side r s only old now) → only ≡ true → id ≡ slot_of (at now (held_id now 0)) 13 → Loads 2 (nonzero id) now new → HoldsInner key i.number r s old new
step_only key last side r s id only old now new i t e l = by i.turns i.stands i.start i.follows i.hangs
  where
    by : (turns : List Turn) → IsTree (at old) (whole turns (inner i.id i.number i.low i.high)) → slot_of (at old root) 13 ≡ id_of (whole turns (inner i.id i.number i.low i.high)) → Follows key turns → HangsTwice now turns only side r s → HoldsInner key i.number r s old new
    by [] a b f h =
        let told : id ≡ i.id = e ∙ ap (λ x. slot_of (at now x) 13) (held_here now 0 root i.rooted) ∙ ap (λ g. slot_of (object_at g root) 13) i.graph ∙ b in
        record {
          turns = [];
          id = i.id;
          low = i.low;
          high = i.high;
          stands = a;
          named = i.named;
          start = b;
          follows = f;
          here = l.here ∙ nonzero_some id (λ z. i.named (b ∙ sym told ∙ z)) ∙ ap (λ x. Some x) told;
          hangs = (h.1, h.2);
          rooted = l.others 0 (λ y. absurd (omega (arith, y))) ∙ i.rooted;
          slots = l.slots ∙ i.slots;
          graph = l.graph ∙ i.graph;
        }
    by (to_low j m y ∷ turns) a b f h = absurd (no_bool (sym t ∙ h.0))
    by (to_high j m y ∷ turns) a b f h = absurd (no_bool (sym t ∙ h.0))

-- after a turn the last turn's object goes into register 3
pub step_more : (key last side r s id3 id2 : ℕ) (only : Bool) (old now mid new : Seen) (i : InnerSeek key last side r s only old now) → only ≡ false → id3 ≡ slot_of (at now (held_id now r)) s → Loads 3 (nonzero id3) now mid → id2 ≡ slot_of (at mid (held_id mid 2)) side → Loads 2 (nonzero id2) mid new → HoldsInner key i.number 3 side old new
step_more key last side r s id3 id2 only old now mid new i t e3 l3 e2 l2 = by i.turns i.stands i.start i.follows i.hangs
  where
    graph : (x : ℕ) → at now x ≡ at old x
    graph x = ap (λ g. object_at g x) i.graph

    by : (turns : List Turn) → IsTree (at old) (whole turns (inner i.id i.number i.low i.high)) → slot_of (at old root) 13 ≡ id_of (whole turns (inner i.id i.number i.low i.high)) → Follows key turns → HangsTwice now turns only side r s → HoldsInner key i.number 3 side old new
    by [] a b f h = absurd (no_bool (sym h.0 ∙ t))
    by (to_low j m y ∷ turns) a b f h =
        let top : Tree = inner j m (inner i.id i.number i.low i.high) y in
        let o : IsInner (at old j) m i.id (id_of y) = (objects_within (at old) turns top a.objects).0 in
        let told3 : id3 ≡ j = e3 ∙ hung_3 (at old) now turns top r s h.3 a.objects b i.rooted graph in
        let some : j ≢ 0 = named_within (at old) turns top a.objects (λ z. i.named (b ∙ z)) in
        let here3 : held mid 3 ≡ Some j = l3.here ∙ nonzero_some id3 (λ z. some (sym told3 ∙ z)) ∙ ap (λ x. Some x) told3 in
        let here2 : held mid 2 ≡ Some j = l3.others 2 (λ z. absurd (omega (arith, z))) ∙ h.2 in
        let told2 : id2 ≡ i.id = e2 ∙ ap (λ x. slot_of (at mid x) side) (held_here mid 2 j here2) ∙ ap (λ g. slot_of (object_at g j) side) (l3.graph ∙ i.graph) ∙ ap (slot_of (at old j)) h.1 ∙ o.names_low in
        record {
          turns = to_low j m y ∷ turns;
          id = i.id;
          low = i.low;
          high = i.high;
          stands = a;
          named = i.named;
          start = b;
          follows = f;
          here = l2.here ∙ nonzero_some id2 (λ z. o.low_named (sym told2 ∙ z)) ∙ ap (λ x. Some x) told2;
          hangs = (refl, h.1, l2.others 3 (λ z. absurd (omega (arith, z))) ∙ here3);
          rooted = l2.others 0 (λ z. absurd (omega (arith, z))) ∙ l3.others 0 (λ z. absurd (omega (arith, z))) ∙ i.rooted;
          slots = l2.slots ∙ l3.slots ∙ i.slots;
          graph = l2.graph ∙ l3.graph ∙ i.graph;
        }
    by (to_high j m y ∷ turns) a b f h =
        let top : Tree = inner j m y (inner i.id i.number i.low i.high) in
        let o : IsInner (at old j) m (id_of y) i.id = (objects_within (at old) turns top a.objects).0 in
        let told3 : id3 ≡ j = e3 ∙ hung_3 (at old) now turns top r s h.3 a.objects b i.rooted graph in
        let some : j ≢ 0 = named_within (at old) turns top a.objects (λ z. i.named (b ∙ z)) in
        let here3 : held mid 3 ≡ Some j = l3.here ∙ nonzero_some id3 (λ z. some (sym told3 ∙ z)) ∙ ap (λ x. Some x) told3 in
        let here2 : held mid 2 ≡ Some j = l3.others 2 (λ z. absurd (omega (arith, z))) ∙ h.2 in
        let told2 : id2 ≡ i.id = e2 ∙ ap (λ x. slot_of (at mid x) side) (held_here mid 2 j here2) ∙ ap (λ g. slot_of (object_at g j) side) (l3.graph ∙ i.graph) ∙ ap (slot_of (at old j)) h.1 ∙ o.names_high in
        record {
          turns = to_high j m y ∷ turns;
          id = i.id;
          low = i.low;
          high = i.high;
          stands = a;
          named = i.named;
          start = b;
          follows = f;
          here = l2.here ∙ nonzero_some id2 (λ z. o.high_named (sym told2 ∙ z)) ∙ ap (λ x. Some x) told2;
          hangs = (refl, h.1, l2.others 3 (λ z. absurd (omega (arith, z))) ∙ here3);
          rooted = l2.others 0 (λ z. absurd (omega (arith, z))) ∙ l3.others 0 (λ z. absurd (omega (arith, z))) ∙ i.rooted;
          slots = l2.slots ∙ l3.slots ∙ i.slots;
          graph = l2.graph ∙ l3.graph ∙ i.graph;
        }

-- and the tree to which the key's bit leads into register 1
pub seek_turns : (key number payload next r s id : ℕ) (old now new : Seen) (i : HoldsInner key number r s old now) → payload ≡ number → next ≡ bit_and (key / 2 ^ payload) 1 → id ≡ slot_of (at now (held_id now 2)) next → Loads 1 (nonzero id) now new → IsSeeking key payload next r s false old new
seek_turns key number payload next r s id old now new i e d f l =
    let digit : next ≡ bit_at key number = d ∙ shr_and_one key payload ∙ ap (λ b. bit_at key b) e in
    let o : IsInner (at old i.id) number (id_of i.low) (id_of i.high) = (objects_within (at old) i.turns (inner i.id number i.low i.high) i.stands.objects).0 in
    let crit : IsCritBit (inner i.id number i.low i.high) = critical_within i.turns (inner i.id number i.low i.high) i.stands.critical in
    let told : id ≡ slot_of (at old i.id) next = f ∙ ap (λ x. slot_of (at now x) next) (held_here now 2 i.id i.here) ∙ ap (λ g. slot_of (object_at g i.id) next) i.graph in
    let here2 : held new 2 ≡ Some i.id = l.others 2 (λ z. absurd (omega (arith, z))) ∙ i.here in
    let under = under_same now new i.turns r s (l.others 3 (λ z. absurd (omega (arith, z)))) i.hangs in
    ⊎_elim
    (λ (z : bit_at key number ≡ 0).
    let low : id ≡ id_of i.low = told ∙ ap (slot_of (at old i.id)) (digit ∙ z) ∙ o.names_low in
    record {
      turns = to_low i.id number i.high ∷ i.turns;
      tree = i.low;
      stands = i.stands;
      named = i.named;
      start = i.start;
      here = l.here ∙ nonzero_some id (λ q. o.low_named (sym low ∙ q)) ∙ ap (λ x. Some x) low;
      follows = (z, i.follows);
      below = subst (λ b. IsBelow b i.low) (sym e) crit.0.low_below;
      hangs = (refl, digit ∙ z, here2, under);
      rooted = l.others 0 (λ q. absurd (omega (arith, q))) ∙ i.rooted;
      slots = l.slots ∙ i.slots;
      graph = l.graph ∙ i.graph;
    })
    (λ (z : bit_at key number ≡ 1).
    let high : id ≡ id_of i.high = told ∙ ap (slot_of (at old i.id)) (digit ∙ z) ∙ o.names_high in
    record {
      turns = to_high i.id number i.low ∷ i.turns;
      tree = i.high;
      stands = i.stands;
      named = i.named;
      start = i.start;
      here = l.here ∙ nonzero_some id (λ q. o.high_named (sym high ∙ q)) ∙ ap (λ x. Some x) high;
      follows = (z, i.follows);
      below = subst (λ b. IsBelow b i.high) (sym e) crit.0.high_below;
      hangs = (refl, digit ∙ z, here2, under);
      rooted = l.others 0 (λ q. absurd (omega (arith, q))) ∙ i.rooted;
      slots = l.slots ∙ i.slots;
      graph = l.graph ∙ i.graph;
    })
    (bit_cases key number)
