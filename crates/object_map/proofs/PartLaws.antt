-- The way to the place at which a key parts from the others.
use Rattle.std.proofs.Common.{◌≡◌, ◌≢◌, ℕ, ◌/◌, ◌^◌, ◌<◌, ◌≤◌, List, [], ◌∷◌, ◌++◌, Option, Some, None, refl, sym, ap, ◌∙◌, subst, arith, ⊎_elim, ◌⊎◌, inl, inr, Bool, false, append_assoc}
use Rattle.std.specs.Prelude.{IsSome}
use Rattle.std.specs.Int.{bit_at}
use Rattle.std.specs.Int.Bits.{bit_and}
use Rattle.std.proofs.lemmas.Nat.Bits.{shr_and_one}
use Rattle.plain_model.specs.declared.object.Object.{Object}
use Rattle.plain_model.specs.Graphs.{root, object_at}
use Rattle.plain_model.specs.Machine.{nonzero}
use Rattle.object_map.specs.Trees.{Tree, id_of, pairs_of, IsBelow, IsCritBit, above}
use Rattle.object_map.specs.Trees.Tree.{leaf, inner}
use Rattle.object_map.specs.Maps.{IsTree, AreObjects, IsLeaf, IsInner, IsCell, slot_of, payload_of}
use Rattle.object_map.specs.Seen.{Seen, at, held, held_id, Loads}
use Rattle.object_map.specs.Ways.{Turn, whole, Follows, Leads, HasKey, AgreesOn}
use Rattle.object_map.specs.Ways.Turn.{to_low, to_high}
use Rattle.object_map.specs.Parting.{IsCritical, LeadsTo, HangsUnder, HoldsRight, right_of, IsOnPart, Turns, IsFirstLeaf, IsOnFirst}
use Rattle.object_map.proofs.WayLaws.{held_some, InnerTree, inner_of, LeafTree, leaf_of, objects_within, critical_within, held_here, nonzero_some}
use Rattle.object_map.proofs.HungLaws.{agrees_higher}
use Rattle.object_map.proofs.ReplaceLaws.{has_key}

pub leads_has : (key k : ℕ) (t : Tree) → Leads key k t → HasKey k t
leads_has key k (leaf i j c v) h = h
leads_has key k (inner i b l r) h = ⊎_elim (λ x. inl (leads_has key k l x.1)) (λ x. inr (leads_has key k r x.1)) h

-- the key's bits lead through the whole tree where they lead to it and through it
pub leads_whole : (key k : ℕ) (turns : List Turn) (t : Tree) → Follows key turns → Leads key k t → Leads key k (whole turns t)
leads_whole key k [] t f h = h
leads_whole key k (to_low i b r ∷ turns) t f h = leads_whole key k turns (inner i b t r) f.1 (inl (f.0, h))
leads_whole key k (to_high i b l ∷ turns) t f h = leads_whole key k turns (inner i b l t) f.1 (inr (f.0, h))

below_64 : (t : Tree) → IsCritBit t → IsBelow 64 t
below_64 (leaf i k c v) h = tt
below_64 (inner i b l r) h = h.0.number

pub hangs_same : (v w : Seen) (turns : List Turn) (r s : ℕ) → held w 2 ≡ held v 2 → HangsUnder 2 v turns r s → HangsUnder 2 w turns r s
hangs_same v w [] r s e h = h
hangs_same v w (to_low i b t ∷ turns) r s e h = (h.0, h.1, e ∙ h.2)
hangs_same v w (to_high i b t ∷ turns) r s e h = (h.0, h.1, e ∙ h.2)

right_same : (v w : Seen) (o : Option Tree) (a b : Bool) → held w 3 ≡ held v 3 → b ≡ a → HoldsRight v o a → HoldsRight w o b
right_same v w None a b e f h = f ∙ h
right_same v w (Some t) a b e f h = (f ∙ h.0, e ∙ h.1)

-- it begins
pub part_begins : (key found bit id : ℕ) (v w : Seen) → held v 0 ≡ Some root → LeadsTo 13 key found v → id ≡ slot_of (at v (held_id v 0)) 13 → Loads 1 (nonzero id) v w → IsOnPart key found bit 64 0 13 false v w
part_begins key found bit id v w r h e l =
    let told : id ≡ id_of h.tree = e ∙ ap (λ x. slot_of (at v x) 13) (held_here v 0 root r) ∙ h.under in
    record {
      turns = [];
      tree = h.tree;
      stands = h.stands;
      start = h.under;
      here = l.here ∙ nonzero_some id (λ z. h.named (sym told ∙ z)) ∙ ap (λ x. Some x) told;
      agrees = tt;
      leads = h.leads;
      named = h.named;
      below = below_64 h.tree h.stands.critical;
      hangs = (refl, refl);
      beside = refl;
      rooted = l.others 0 (λ z. absurd (omega (arith, z))) ∙ r;
      slots = l.slots;
      graph = l.graph;
    }

-- register 4 is loaded
pub part_loaded : (key found bit last r s : ℕ) (right : Bool) (old now new : Seen) (id : Option ℕ) → IsOnPart key found bit last r s right old now → Loads 4 id now new → IsOnPart key found bit last r s right old new
part_loaded key found bit last r s right old now new id w l = record {
  turns = w.turns;
  tree = w.tree;
  stands = w.stands;
  start = w.start;
  here = l.others 1 (λ z. absurd (omega (arith, z))) ∙ w.here;
  agrees = w.agrees;
  leads = w.leads;
  named = w.named;
  below = w.below;
  hangs = hangs_same now new w.turns r s (l.others 2 (λ z. absurd (omega (arith, z)))) w.hangs;
  beside = right_same now new (right_of w.turns) right right (l.others 3 (λ z. absurd (omega (arith, z)))) refl w.beside;
  rooted = l.others 0 (λ z. absurd (omega (arith, z))) ∙ w.rooted;
  slots = l.slots ∙ w.slots;
  graph = l.graph ∙ w.graph;
}

-- what is told of the object in register 1 is told of the tree's first object
pub part_here : (key found bit last r s : ℕ) (right : Bool) (old now : Seen) (w : IsOnPart key found bit last r s right old now) → at now (held_id now 1) ≡ at old (id_of w.tree)
part_here key found bit last r s right old now w = ap (λ i. at now i) (held_here now 1 (id_of w.tree) w.here) ∙ ap (λ g. object_at g (id_of w.tree)) w.graph

below_leaf : (f : ℕ → Option Object) (b : ℕ) (t : Tree) → AreObjects f t → slot_of (f (id_of t)) 2 ≢ 0 → IsBelow b t
below_leaf f b (leaf i k c v) a n = tt
below_leaf f b (inner i m l r) a n = absurd (n (a.0.null 2 (λ z. absurd (omega (arith, z))) (λ z. absurd (omega (arith, z)))))

below_payload : (f : ℕ → Option Object) (b : ℕ) (t : Tree) → AreObjects f t → payload_of (f (id_of t)) < b → IsBelow b t
below_payload f b (leaf i k c v) a n = tt
below_payload f b (inner i m l r) a n = subst (λ x. x < b) a.0.bit_is n

-- it ends at a leaf, or at an object with a smaller number
pub part_ends : (key found bit last r s payload cell : ℕ) (right : Bool) (old now new : Seen) (id : Option ℕ) (w : IsOnPart key found bit last r s right old now)
    → payload ≡ payload_of (at now (held_id now 1)) → cell ≡ slot_of (at now (held_id now 1)) 2 → (cell ≢ 0) ⊎ (payload < bit) → Loads 4 id now new → IsOnPart key found bit bit r s right old new
part_ends key found bit last r s payload cell right old now new id w p e d l =
    let a : AreObjects (at old) w.tree = objects_within (at old) w.turns w.tree w.stands.objects in
    let here : at now (held_id now 1) ≡ at old (id_of w.tree) = part_here key found bit last r s right old now w in
    let below : IsBelow bit w.tree = ⊎_elim
    (λ (n : cell ≢ 0). below_leaf (at old) bit w.tree a (λ z. n (e ∙ ap (λ o. slot_of o 2) here ∙ z)))
    (λ (n : payload < bit). below_payload (at old) bit w.tree a (subst (λ x. x < bit) (p ∙ ap payload_of here) n))
    d in
    let x : IsOnPart key found bit last r s right old new = part_loaded key found bit last r s right old now new id w l in
    record {
      turns = w.turns;
      tree = w.tree;
      stands = w.stands;
      start = w.start;
      here = l.others 1 (λ z. absurd (omega (arith, z))) ∙ w.here;
      agrees = w.agrees;
      leads = w.leads;
      named = w.named;
      below = below;
      hangs = hangs_same now new w.turns r s (l.others 2 (λ z. absurd (omega (arith, z)))) w.hangs;
      beside = right_same now new (right_of w.turns) right right (l.others 3 (λ z. absurd (omega (arith, z)))) refl w.beside;
      rooted = x.rooted;
      slots = x.slots;
      graph = x.graph;
    }

-- ---- an inner object on the way

pub record InnerPart (key found bit last r s : ℕ) (right : Bool) (old now : Seen) : Type 0 where
  pub turns : List Turn
  pub id : ℕ
  pub number : ℕ
  pub low : Tree
  pub high : Tree
  pub stands : IsTree (at old) (whole turns (inner id number low high))
  pub start : slot_of (at old root) 13 ≡ id_of (whole turns (inner id number low high))
  pub here : held now 1 ≡ Some id
  pub agrees : AgreesOn (λ b. bit < b) key found turns
  pub leads : Leads key found (inner id number low high)
  pub named : id ≢ 0
  pub below : number < last
  pub hangs : HangsUnder 2 now turns r s
  pub beside : HoldsRight now (right_of turns) right
  pub rooted : held now 0 ≡ Some root
  pub slots : now.slots ≡ old.slots
  pub graph : now.graph ≡ old.graph

pub inner_part : (key found bit last r s cell : ℕ) (right : Bool) (old now new : Seen) (id : Option ℕ) (w : IsOnPart key found bit last r s right old now) → cell ≡ slot_of (at now (held_id now 1)) 2 → cell ≡ 0 → Loads 4 id now new → InnerPart key found bit last r s right old new
inner_part key found bit last r s cell right old now new id w e z l =
    let a : AreObjects (at old) w.tree = objects_within (at old) w.turns w.tree w.stands.objects in
    let here : at now (held_id now 1) ≡ at old (id_of w.tree) = part_here key found bit last r s right old now w in
    let o : InnerTree w.tree = inner_of (at old) w.tree a (sym (e ∙ ap (λ x. slot_of x 2) here) ∙ z) in
    record {
      turns = w.turns;
      id = o.id;
      number = o.bit;
      low = o.low;
      high = o.high;
      stands = subst (λ t. IsTree (at old) (whole w.turns t)) o.same w.stands;
      start = subst (λ t. slot_of (at old root) 13 ≡ id_of (whole w.turns t)) o.same w.start;
      here = subst (λ t. held new 1 ≡ Some (id_of t)) o.same (l.others 1 (λ y. absurd (omega (arith, y))) ∙ w.here);
      agrees = w.agrees;
      leads = subst (λ t. Leads key found t) o.same w.leads;
      named = subst (λ t. id_of t ≢ 0) o.same w.named;
      below = subst (λ t. IsBelow last t) o.same w.below;
      hangs = hangs_same now new w.turns r s (l.others 2 (λ y. absurd (omega (arith, y)))) w.hangs;
      beside = right_same now new (right_of w.turns) right right (l.others 3 (λ y. absurd (omega (arith, y)))) refl w.beside;
      rooted = l.others 0 (λ y. absurd (omega (arith, y))) ∙ w.rooted;
      slots = l.slots ∙ w.slots;
      graph = l.graph ∙ w.graph;
    }

-- its number is the payload that was looked at before
pub inner_payload : (key found bit last r s payload : ℕ) (right : Bool) (old now new : Seen) (id : Option ℕ) (w : InnerPart key found bit last r s right old new) → payload ≡ payload_of (at now (held_id now 1)) → Loads 4 id now new → payload ≡ w.number
inner_payload key found bit last r s payload right old now new id w p l =
    let h : held now 1 ≡ Some w.id = sym (l.others 1 (λ y. absurd (omega (arith, y)))) ∙ w.here in
    p ∙ ap (λ i. payload_of (at now i)) (held_here now 1 w.id h) ∙ ap (λ g. payload_of (object_at g w.id)) (sym l.graph ∙ w.graph) ∙ (objects_within (at old) w.turns (inner w.id w.number w.low w.high) w.stands.objects).0.bit_is

pub part_number : (key found bit last r s : ℕ) (right : Bool) (old new : Seen) (w : InnerPart key found bit last r s right old new) → w.number < 64
part_number key found bit last r s right old new w = (critical_within w.turns (inner w.id w.number w.low w.high) w.stands.critical).0.number

-- it isn't the bit at which the keys part, since the key's bits lead to the other one
not_there : (key found bit id number : ℕ) (low high : Tree) → IsCritBit (inner id number low high) → IsCritical bit key found → Leads key found (inner id number low high) → number ≢ bit
not_there key found bit id number low high h c d e = ⊎_elim
    (λ x. c.differ (subst (λ b. bit_at key b ≡ bit_at found b) e (x.0 ∙ sym (has_key (λ k. (bit_at k number ≡ 0) × (above number k ≡ h.0.prefix)) found low h.0.low_keys (leads_has key found low x.1)).0)))
    (λ x. c.differ (subst (λ b. bit_at key b ≡ bit_at found b) e (x.0 ∙ sym (has_key (λ k. (bit_at k number ≡ 1) × (above number k ≡ h.0.prefix)) found high h.0.high_keys (leads_has key found high x.1)).0)))
    d

-- the tree hangs where it is said
hung_id : (f : ℕ → Option Object) (v : Seen) (turns : List Turn) (t : Tree) (r s : ℕ) → HangsUnder 2 v turns r s → AreObjects f (whole turns t) → slot_of (f root) 13 ≡ id_of (whole turns t) → held v 0 ≡ Some root → ((i : ℕ) → at v i ≡ f i) → slot_of (at v (held_id v r)) s ≡ id_of t
hung_id f v [] t r s h a b c g = ap (λ x. slot_of (at v (held_id v x)) s) h.0 ∙ ap (λ x. slot_of (at v (held_id v 0)) x) h.1 ∙ ap (λ i. slot_of (at v i) 13) (held_here v 0 root c) ∙ ap (λ o. slot_of o 13) (g root) ∙ b
hung_id f v (to_low i m y ∷ turns) t r s h a b c g =
    ap (λ x. slot_of (at v (held_id v x)) s) h.0 ∙ ap (λ x. slot_of (at v (held_id v 2)) x) h.1 ∙ ap (λ j. slot_of (at v j) 0) (held_here v 2 i h.2) ∙ ap (λ o. slot_of o 0) (g i) ∙ (objects_within f turns (inner i m t y) a).0.names_low
hung_id f v (to_high i m y ∷ turns) t r s h a b c g =
    ap (λ x. slot_of (at v (held_id v x)) s) h.0 ∙ ap (λ x. slot_of (at v (held_id v 2)) x) h.1 ∙ ap (λ j. slot_of (at v j) 1) (held_here v 2 i h.2) ∙ ap (λ o. slot_of o 1) (g i) ∙ (objects_within f turns (inner i m y t) a).0.names_high

pub part_hangs : (key found bit last r s : ℕ) (right : Bool) (old new : Seen) (w : InnerPart key found bit last r s right old new) → slot_of (at new (held_id new r)) s ≡ w.id
part_hangs key found bit last r s right old new w =
    hung_id (at old) new w.turns (inner w.id w.number w.low w.high) r s w.hangs w.stands.objects w.start w.rooted (λ i. ap (λ g. object_at g i) w.graph)

-- the turn at it
pub part_turns : (key found bit last r s payload side : ℕ) (right result : Bool) (old now new : Seen) (w : InnerPart key found bit last r s right old now) → IsCritical bit key found → payload ≡ w.number → bit ≤ payload → side ≡ bit_and (key / 2 ^ payload) 1
    → Turns r s side right result now new → IsOnPart key found bit payload 2 side result old new
part_turns key found bit last r s payload side right result old now new w c e m d t =
    let digit : side ≡ bit_at key w.number = d ∙ shr_and_one key payload ∙ ap (λ b. bit_at key b) e in
    let x : slot_of (at now (held_id now r)) s ≡ w.id = part_hangs key found bit last r s right old now w in
    let graph : at now w.id ≡ at old w.id = ap (λ g. object_at g w.id) w.graph in
    let o : IsInner (at old w.id) w.number (id_of w.low) (id_of w.high) = (objects_within (at old) w.turns (inner w.id w.number w.low w.high) w.stands.objects).0 in
    let crit : IsCritBit (inner w.id w.number w.low w.high) = critical_within w.turns (inner w.id w.number w.low w.high) w.stands.critical in
    let other : w.number ≢ bit = not_there key found bit w.id w.number w.low w.high crit c w.leads in
    let less : bit < w.number = omega (arith, other, m, e) in
    let le : bit ≤ w.number = omega (arith, less) in
    let same : above w.number key ≡ above w.number found = agrees_higher bit w.number key found le c.same in
    let told : (k : ℕ) → slot_of (at now (slot_of (at now (held_id now r)) s)) k ≡ slot_of (at old w.id) k = λ k. ap (λ i. slot_of (at now i) k) x ∙ ap (λ y. slot_of y k) graph in
    ⊎_elim
    (λ (z : (bit_at key w.number ≡ 0) × Leads key found w.low).
    let low : side ≡ 0 = digit ∙ z.0 in
    let right_told = told 1 ∙ o.names_high in
    let here_told : slot_of (at now (slot_of (at now (held_id now r)) s)) side ≡ id_of w.low = told side ∙ ap (λ k. slot_of (at old w.id) k) low ∙ o.names_low in
    record {
      turns = to_low w.id w.number w.high ∷ w.turns;
      tree = w.low;
      stands = w.stands;
      start = w.start;
      here = t.here ∙ ap nonzero here_told ∙ nonzero_some (id_of w.low) o.low_named;
      agrees = (less, z.0, same, w.agrees);
      leads = z.1;
      named = o.low_named;
      below = subst (λ b. IsBelow b w.low) (sym e) crit.0.low_below;
      hangs = (refl, low, t.holder ∙ ap (λ i. Some i) x);
      beside = ((t.low low).0, (t.low low).1 ∙ ap nonzero right_told ∙ nonzero_some (id_of w.high) o.high_named);
      rooted = t.rooted ∙ w.rooted;
      slots = t.slots ∙ w.slots;
      graph = t.graph ∙ w.graph;
    })
    (λ (z : (bit_at key w.number ≡ 1) × Leads key found w.high).
    let high : side ≡ 1 = digit ∙ z.0 in
    let some : side ≢ 0 = λ q. absurd (omega (arith, q, high)) in
    let here_told : slot_of (at now (slot_of (at now (held_id now r)) s)) side ≡ id_of w.high = told side ∙ ap (λ k. slot_of (at old w.id) k) high ∙ o.names_high in
    record {
      turns = to_high w.id w.number w.low ∷ w.turns;
      tree = w.high;
      stands = w.stands;
      start = w.start;
      here = t.here ∙ ap nonzero here_told ∙ nonzero_some (id_of w.high) o.high_named;
      agrees = (less, z.0, same, w.agrees);
      leads = z.1;
      named = o.high_named;
      below = subst (λ b. IsBelow b w.high) (sym e) crit.0.high_below;
      hangs = (refl, high, t.holder ∙ ap (λ i. Some i) x);
      beside = right_same now new (right_of w.turns) right result (t.high some).1 (t.high some).0 w.beside;
      rooted = t.rooted ∙ w.rooted;
      slots = t.slots ∙ w.slots;
      graph = t.graph ∙ w.graph;
    })
    w.leads

-- ---- the first leaf

first_here : (r last : ℕ) (old now : Seen) (w : IsOnFirst r last old now) → at now (held_id now r) ≡ at old (id_of w.within)
first_here r last old now w = ap (λ i. at now i) (held_here now r (id_of w.within) w.here) ∙ ap (λ g. object_at g (id_of w.within)) w.graph

pub first_ends : (r last found cell : ℕ) (old now new : Seen) (id : Option ℕ) (w : IsOnFirst r last old now) → r < 4 → found ≡ payload_of (at now (held_id now r)) → cell ≡ slot_of (at now (held_id now r)) 2 → cell ≢ 0 → Loads 4 id now new → IsFirstLeaf r found old new
first_ends r last found cell old now new id w small p e n l =
    let here : at now (held_id now r) ≡ at old (id_of w.within) = first_here r last old now w in
    let o : LeafTree w.within = leaf_of (at old) w.within w.inside.objects (λ z. n (e ∙ ap (λ x. slot_of x 2) here ∙ z)) in
    let k : IsLeaf (at old o.id) o.key o.cell × IsCell (at old o.cell) o.value = subst (λ t. AreObjects (at old) t) o.same w.inside.objects in
    let key : o.key ≡ found = sym k.0.key_is ∙ ap (λ t. payload_of (at old (id_of t))) (sym o.same) ∙ ap payload_of (sym here) ∙ sym p in
    record {
      tree = w.tree;
      id = o.id;
      cell = o.cell;
      value = o.value;
      rest = w.rest;
      start = w.start;
      stands = w.stands;
      first = w.first ∙ ap (λ t. pairs_of t ++ w.rest) o.same ∙ ap (λ (x : ℕ). (x, o.value) ∷ w.rest) key;
      here = l.others r (λ z. absurd (omega (arith, z, small))) ∙ w.here ∙ ap (λ t. Some (id_of t)) o.same;
      is_leaf = subst (λ x. IsLeaf (at old o.id) x o.cell) key k.0;
      is_cell = k.1;
      rooted = l.others 0 (λ z. absurd (omega (arith, z))) ∙ w.rooted;
      slots = l.slots ∙ w.slots;
      graph = l.graph ∙ w.graph;
    }

pub first_steps : (r last payload cell id : ℕ) (old now mid new : Seen) (i : Option ℕ) (w : IsOnFirst r last old now) → 0 < r → r < 4 → payload ≡ payload_of (at now (held_id now r)) → cell ≡ slot_of (at now (held_id now r)) 2 → cell ≡ 0 → Loads 4 i now mid
    → id ≡ slot_of (at mid (held_id mid r)) 0 → Loads r (nonzero id) mid new → IsOnFirst r payload old new × (payload < last)
first_steps r last payload cell id old now mid new i w big small p e z l f m =
    let here : at now (held_id now r) ≡ at old (id_of w.within) = first_here r last old now w in
    let o : InnerTree w.within = inner_of (at old) w.within w.inside.objects (sym (e ∙ ap (λ x. slot_of x 2) here) ∙ z) in
    let t : IsTree (at old) (inner o.id o.bit o.low o.high) = subst (λ t. IsTree (at old) t) o.same w.inside in
    let k : IsInner (at old o.id) o.bit (id_of o.low) (id_of o.high) = t.objects.0 in
    let number : payload ≡ o.bit = p ∙ ap payload_of here ∙ ap (λ t. payload_of (at old (id_of t))) o.same ∙ k.bit_is in
    let less : o.bit < last = subst (λ t. IsBelow last t) o.same w.below in
    let held_mid : held mid r ≡ Some o.id = l.others r (λ y. absurd (omega (arith, y, small))) ∙ w.here ∙ ap (λ t. Some (id_of t)) o.same in
    let told : id ≡ id_of o.low = f ∙ ap (λ j. slot_of (at mid j) 0) (held_here mid r o.id held_mid) ∙ ap (λ g. slot_of (object_at g o.id) 0) (l.graph ∙ w.graph) ∙ k.names_low in (
      record {
        tree = w.tree;
        within = o.low;
        rest = pairs_of o.high ++ w.rest;
        start = w.start;
        stands = w.stands;
        inside = record { objects = t.objects.1; critical = t.critical.1; own_cells = t.own_cells.1 };
        first = w.first ∙ ap (λ t. pairs_of t ++ w.rest) o.same ∙ append_assoc (pairs_of o.low) (pairs_of o.high) w.rest;
        here = m.here ∙ ap nonzero told ∙ nonzero_some (id_of o.low) k.low_named;
        below = subst (λ b. IsBelow b o.low) (sym number) t.critical.0.low_below;
        rooted = m.others 0 (λ y. absurd (omega (arith, y, big))) ∙ l.others 0 (λ y. absurd (omega (arith, y))) ∙ w.rooted;
        slots = m.slots ∙ l.slots ∙ w.slots;
        graph = m.graph ∙ l.graph ∙ w.graph;
      },
      subst (λ b. b < last) (sym number) less,
    )

-- the register under whose object a tree hangs isn't empty
pub hangs_full : (holder : ℕ) (v : Seen) (turns : List Turn) (r s : ℕ) → HangsUnder holder v turns r s → held v 0 ≡ Some root → IsSome (held v r)
hangs_full holder v [] r s h e = held_some v r root (ap (held v) h.0 ∙ e)
hangs_full holder v (to_low i b t ∷ turns) r s h e = held_some v r i (ap (held v) h.0 ∙ h.2)
hangs_full holder v (to_high i b t ∷ turns) r s h e = held_some v r i (ap (held v) h.0 ∙ h.2)
