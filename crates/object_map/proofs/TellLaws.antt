-- Keys that are told below an object.
use Rattle.std.proofs.Common.{◌≡◌, ◌≢◌, ℕ, ◌<◌, ◌≤◌, ◌*◌, ◌%◌, ◌^◌, List, [], ◌∷◌, Option, Some, None, refl, sym, ap, ◌∙◌, subst, arith, ⊎_elim, ◌⊎◌, inl, inr, true}
use Rattle.std.specs.Prelude.{◌==◌}
use Rattle.std.specs.Int.{bit_at}
use Rattle.std.specs.Ordering.{nat_cmp}
use Rattle.std.specs.BTreeSet.{insert_key}
use Rattle.std.proofs.lemmas.Bool.{or_cases}
use Rattle.std.specs.Int.Bits.{bit_or}
use Rattle.plain_model.specs.declared.object.Object.{Object}
use Rattle.plain_model.specs.Graphs.{root}
use Rattle.plain_model.specs.Machine.{is_stored, nonzero}
use Rattle.plain_laws.proofs.Locks.{stored-insert}
use Rattle.object_map.specs.declared.telling.Span.{Span}
use Rattle.object_map.specs.Trees.{above}
use Rattle.object_map.specs.Maps.{slot_of, payload_of}
use Rattle.object_map.specs.Broken.{Goes, CanTell, IsMet, HasWrongKey}
use Rattle.object_map.specs.Broken.HasWrongKey.{digit, prefix}
use Rattle.object_map.specs.Telling.{IsWithin, IsEnd, AreTold, Tells, OfSide, DoSpansPart, AreMixed}
use Rattle.object_map.specs.Telling.AreMixed.{by_digit, by_prefix}
use Rattle.object_map.specs.Forks.{IsFork}
use Rattle.object_map.specs.declared.fork.Fork.{Fork}
use Rattle.object_map.specs.Seen.{Seen, at, held, held_id, Loads}
use Rattle.object_map.specs.Walking.{IsReached}
use Rattle.object_map.proofs.LookLaws.{here_payload, here_slot}
use Rattle.object_map.proofs.GrowLaws.{moved_on, bit_here, bit_other}
use Rattle.object_map.proofs.WalkLaws.{reached_more, reached_guide}
use Rattle.object_map.proofs.BrokenLaws.{two_sides}
use Rattle.object_map.proofs.SpanLaws.{eq_test}

-- ---- what can be told of an object

tell_none : (f : ℕ → Option Object) (bit x key : ℕ) → x ≡ 0 → CanTell f bit x key → ⊥
tell_none f bit x key z n = by n.way n.goes
  where
    by : (way : List ℕ) → Goes f bit x way n.last n.id → ⊥
    by [] g = g.0 z
    by (s ∷ way) g = g.0 z

-- of a leaf its key
tell_leaf : (f : ℕ → Option Object) (bit x key : ℕ) → slot_of (f x) 2 ≢ 0 → CanTell f bit x key → key ≡ payload_of (f x)
tell_leaf f bit x key s n = by n.way n.goes
  where
    by : (way : List ℕ) → Goes f bit x way n.last n.id → key ≡ payload_of (f x)
    by [] g = sym n.has ∙ ap (λ i. payload_of (f i)) (sym g.1)
    by (side ∷ way) g = absurd (s g.1)

leaf_tells : (f : ℕ → Option Object) (bit x : ℕ) → x ≢ 0 → slot_of (f x) 2 ≢ 0 → CanTell f bit x (payload_of (f x))
leaf_tells f bit x n s = record { way = []; last = bit; id = x; goes = (n, refl, refl); is_leaf = s; has = refl }

-- of an inner object what can be told under its slots, where its number is below the bit
pub record TellsUnder (f : ℕ → Option Object) (bit x key : ℕ) : Type 0 where
  pub less : payload_of (f x) < bit
  pub side : ℕ
  pub few : side < 2
  pub tells : CanTell f (payload_of (f x)) (slot_of (f x) side) key

tell_inner : (f : ℕ → Option Object) (bit x key : ℕ) → slot_of (f x) 2 ≡ 0 → CanTell f bit x key → TellsUnder f bit x key
tell_inner f bit x key z n = by n.way n.goes
  where
    by : (way : List ℕ) → Goes f bit x way n.last n.id → TellsUnder f bit x key
    by [] g = absurd (n.is_leaf (ap (λ i. slot_of (f i) 2) (sym g.1) ∙ z))
    by (side ∷ way) g = record { less = g.2; side = side; few = g.3; tells = record { way = way; last = n.last; id = n.id; goes = g.4; is_leaf = n.is_leaf; has = n.has } }

inner_tells : (f : ℕ → Option Object) (bit x side key : ℕ) → x ≢ 0 → slot_of (f x) 2 ≡ 0 → payload_of (f x) < bit → side < 2 → CanTell f (payload_of (f x)) (slot_of (f x) side) key → CanTell f bit x key
inner_tells f bit x side key n z l w h = record { way = side ∷ h.way; last = h.last; id = h.id; goes = (n, z, l, w, h.goes); is_leaf = h.is_leaf; has = h.has }

tell_named : (f : ℕ → Option Object) (bit x key : ℕ) → CanTell f bit x key → x ≢ 0
tell_named f bit x key h z = tell_none f bit x key z h

-- the bit above an inner object may be another one that its number is below
tell_bit : (f : ℕ → Option Object) (bit other x key : ℕ) → slot_of (f x) 2 ≡ 0 → payload_of (f x) < other → CanTell f bit x key → CanTell f other x key
tell_bit f bit other x key z l h = (let u : TellsUnder f bit x key = tell_inner f bit x key z h in inner_tells f other x u.side key (tell_named f bit x key h) z l u.few u.tells)

-- ---- a walk that tells keys

-- nothing joins
same_tells : (f : ℕ → Option Object) (bit x : ℕ) (met : List ℕ) (span : Option Span) → AreTold f bit met span → ((key : ℕ) → CanTell f bit x key → IsWithin span key) → Tells f bit x met met span span
same_tells f bit x met span told all = record { all = all; kept = λ key h. h; ends = λ key h. inl h; told = told; more = λ id h. inl h }

pub null_tells : (f : ℕ → Option Object) (bit x : ℕ) (met : List ℕ) (span : Option Span) → AreTold f bit met span → x ≡ 0 → Tells f bit x met met span span
null_tells f bit x met span told z = same_tells f bit x met span told (λ key h. absurd (tell_none f bit x key z h))

-- a leaf's key joins
pub leaf_joins : (f : ℕ → Option Object) (bit x payload : ℕ) (met : List ℕ) (span : Option Span) (wider : Span) → AreTold f bit met span → x ≢ 0 → slot_of (f x) 2 ≢ 0 → payload ≡ payload_of (f x)
    → IsWithin (Some wider) payload → ((k : ℕ) → IsWithin span k → IsWithin (Some wider) k) → ((k : ℕ) → IsEnd (Some wider) k → IsEnd span k ⊎ (k ≡ payload)) → Tells f bit x met met span (Some wider)
leaf_joins f bit x payload met span wider told n s p here kept ends = record {
  all = λ key h. subst (λ k. IsWithin (Some wider) k) (p ∙ sym (tell_leaf f bit x key s h)) here;
  kept = kept;
  ends = λ key h. ⊎_elim (λ (e : IsEnd span key). inl e) (λ (e : key ≡ payload). inr (subst (λ k. CanTell f bit x k) (sym (e ∙ p)) (leaf_tells f bit x n s))) (ends key h);
  told = λ id m z l key h. kept key (told id m z l key h);
  more = λ id h. inl h;
}

-- an inner object's number isn't below the bit
pub climb_tells : (f : ℕ → Option Object) (bit x payload : ℕ) (met : List ℕ) (span : Option Span) → AreTold f bit met span → slot_of (f x) 2 ≡ 0 → payload ≡ payload_of (f x) → bit ≤ payload → Tells f bit x met met span span
climb_tells f bit x payload met span told z p l = same_tells f bit x met span told (λ key h. (let u : TellsUnder f bit x key = tell_inner f bit x key z h in let less : payload_of (f x) < bit = u.less in absurd (omega (arith, p, l, less))))

-- it was met before
pub met_tells : (f : ℕ → Option Object) (bit x payload : ℕ) (met new : List ℕ) (span : Option Span) → AreTold f bit met span → slot_of (f x) 2 ≡ 0 → payload ≡ payload_of (f x) → payload < bit → is_stored met x ≡ true → new ≡ insert_key nat_cmp met x → Tells f bit x met new span span
met_tells f bit x payload met new span told z p l m e =
    let less : payload_of (f x) < bit = subst (λ n. n < bit) p l in
    let old : (id : ℕ) → IsMet new id → IsMet met id = λ id h. ⊎_elim
    (λ (t : (id == x) ≡ true). subst (λ i. IsMet met i) (sym (eq_test id x t)) m)
    (λ (t : is_stored met id ≡ true). t)
    (or_cases (id == x) (is_stored met id) (sym (stored-insert met x id) ∙ ap (λ ks. is_stored ks id) (sym e) ∙ h)) in
    record {
      all = λ key h. told x m z less key h;
      kept = λ key h. h;
      ends = λ key h. inl h;
      told = λ id h. told id (old id h);
      more = λ id h. inl (old id h);
    }

-- those met before, and an inner object that is met now
with_one : (met new : List ℕ) (x id : ℕ) → new ≡ insert_key nat_cmp met x → IsMet new id → (id ≡ x) ⊎ IsMet met id
with_one met new x id e h = ⊎_elim
    (λ (t : (id == x) ≡ true). inl (eq_test id x t))
    (λ (t : is_stored met id ≡ true). inr t)
    (or_cases (id == x) (is_stored met id) (sym (stored-insert met x id) ∙ ap (λ ks. is_stored ks id) (sym e) ∙ h))

-- its keys needn't be told yet under its own slots
pub told_below : (f : ℕ → Option Object) (bit x payload : ℕ) (met new : List ℕ) (span : Option Span) → AreTold f bit met span → payload ≡ payload_of (f x) → payload < bit → new ≡ insert_key nat_cmp met x → AreTold f payload new span
told_below f bit x payload met new span told p l e id m z less key h = ⊎_elim
    (λ (s : id ≡ x). (let q : payload_of (f id) ≡ payload = ap (λ i. payload_of (f i)) s ∙ sym p in absurd (omega (arith, q, less))))
    (λ (o : IsMet met id). (let more : payload_of (f id) < bit = omega (arith, less, l) in told id o z more key (tell_bit f payload bit id key z more h)))
    (with_one met new x id e m)

-- an inner object's keys join: those under slot 0, and then those under slot 1
pub inner_joins : (f : ℕ → Option Object) (bit x payload low high : ℕ) (old first mid new : List ℕ) (span wider widest : Option Span) → x ≢ 0 → slot_of (f x) 2 ≡ 0 → payload ≡ payload_of (f x) → payload < bit → first ≡ insert_key nat_cmp old x → AreTold f bit old span
    → low ≡ slot_of (f x) 0 → high ≡ slot_of (f x) 1 → Tells f payload low first mid span wider → Tells f payload high mid new wider widest → Tells f bit x old new span widest
inner_joins f bit x payload low high old first mid new span wider widest n z p l e told le he a b = record {
  all = all;
  kept = λ key h. b.kept key (a.kept key h);
  ends = λ key h. ⊎_elim
      (λ (w : IsEnd wider key). ⊎_elim (λ (v : IsEnd span key). inl v) (λ (c : CanTell f payload low key). inr (from 0 key (omega arith) (subst (λ y. CanTell f payload y key) le c))) (a.ends key w))
      (λ (c : CanTell f payload high key). inr (from 1 key (omega arith) (subst (λ y. CanTell f payload y key) he c)))
      (b.ends key h);
  told = λ id m y less key h. ⊎_elim
      (λ (o : (id ≡ x) ⊎ IsMet old id). ⊎_elim
      (λ (s : id ≡ x). all key (subst (λ i. CanTell f bit i key) s h))
      (λ (q : IsMet old id). b.kept key (a.kept key (told id q y less key h)))
      o)
      (λ (w : payload_of (f id) < payload). b.told id m y w key (tell_bit f bit payload id key y w h))
      (where_met id m);
  more = λ id m. ⊎_elim
      (λ (o : (id ≡ x) ⊎ IsMet old id). ⊎_elim (λ (s : id ≡ x). inr (subst (λ i. payload_of (f i) < bit) (sym s) less_x)) (λ (q : IsMet old id). inl q) o)
      (λ (w : payload_of (f id) < payload). inr (omega (arith, w, l)))
      (where_met id m);
}
  where
    less_x : payload_of (f x) < bit
    less_x = subst (λ y. y < bit) p l

    from : (side key : ℕ) → side < 2 → CanTell f payload (slot_of (f x) side) key → CanTell f bit x key
    from side key w c = inner_tells f bit x side key n z less_x w (subst (λ y. CanTell f y (slot_of (f x) side) key) p c)

    all : (key : ℕ) → CanTell f bit x key → IsWithin widest key
    all key h =
        let u : TellsUnder f bit x key = tell_inner f bit x key z h in
        let c : CanTell f payload (slot_of (f x) u.side) key = subst (λ y. CanTell f y (slot_of (f x) u.side) key) (sym p) u.tells in
        ⊎_elim
        (λ (s : u.side ≡ 0). b.kept key (a.all key (subst (λ y. CanTell f payload y key) (ap (λ k. slot_of (f x) k) s ∙ sym le) c)))
        (λ (s : u.side ≡ 1). b.all key (subst (λ y. CanTell f payload y key) (ap (λ k. slot_of (f x) k) s ∙ sym he) c))
        (two_sides u.side u.few)

    -- an object that was met in the end was so before, or is this one, or has a smaller number
    where_met : (id : ℕ) → IsMet new id → ((id ≡ x) ⊎ IsMet old id) ⊎ (payload_of (f id) < payload)
    where_met id m = ⊎_elim
        (λ (q : IsMet mid id). ⊎_elim (λ (r : IsMet first id). inl (with_one old first x id e r)) (λ (w : payload_of (f id) < payload). inr w) (a.more id q))
        (λ (w : payload_of (f id) < payload). inr w)
        (b.more id m)

-- ---- an inner object's keys

-- the keys of its sides don't part at its bit
pub mixed_wrong : (f : ℕ → Option Object) (top : ℕ) (k : Fork) (m n : List ℕ) (low high : Option Span) → IsFork f top k → Tells f k.bit k.low [] m None low → Tells f k.bit k.high [] n None high → AreMixed low high k.bit → HasWrongKey f k.id
mixed_wrong f top k m n low high h a b x = by x
  where
    told : (side key : ℕ) → OfSide IsEnd low high side key → (side < 2) × CanTell f (payload_of (f k.id)) (slot_of (f k.id) side) key
    told side key e = ⊎_elim
        (λ (p : (side ≡ 0) × IsEnd low key). (
          (let s : side ≡ 0 = p.0 in omega (arith, s)),
          ⊎_elim (λ (z : ⊥). absurd z) (λ (c : CanTell f k.bit k.low key). subst (λ d. CanTell f d (slot_of (f k.id) side) key) (sym h.inner.bit_is) (subst (λ y. CanTell f k.bit y key) (sym h.inner.names_low ∙ ap (λ s. slot_of (f k.id) s) (sym p.0)) c)) (a.ends key p.1),
        ))
        (λ (p : (side ≡ 1) × IsEnd high key). (
          (let s : side ≡ 1 = p.0 in omega (arith, s)),
          ⊎_elim (λ (z : ⊥). absurd z) (λ (c : CanTell f k.bit k.high key). subst (λ d. CanTell f d (slot_of (f k.id) side) key) (sym h.inner.bit_is) (subst (λ y. CanTell f k.bit y key) (sym h.inner.names_high ∙ ap (λ s. slot_of (f k.id) s) (sym p.0)) c)) (b.ends key p.1),
        ))
        e

    by : AreMixed low high k.bit → HasWrongKey f k.id
    by (by_digit side key e d) = digit side key (told side key e).0 (told side key e).1 (λ c. d (ap (λ j. bit_at key j) (sym h.inner.bit_is) ∙ c))
    by (by_prefix side key other more e g d) = prefix side key other more (told side key e).0 (told side key e).1 (told other more g).0 (told other more g).1 (λ c. d (ap (λ j. above j key) (sym h.inner.bit_is) ∙ c ∙ ap (λ j. above j more) h.inner.bit_is))

-- they do
pub parted_right : (f : ℕ → Option Object) (top : ℕ) (k : Fork) (m n : List ℕ) (low high : Option Span) → IsFork f top k → Tells f k.bit k.low [] m None low → Tells f k.bit k.high [] n None high → DoSpansPart low high k.bit → HasWrongKey f k.id → ⊥
parted_right f top k m n low high h a b p x = by x
  where
    within : (side key : ℕ) → side < 2 → CanTell f (payload_of (f k.id)) (slot_of (f k.id) side) key → OfSide IsWithin low high side key
    within side key w c =
        let d : CanTell f k.bit (slot_of (f k.id) side) key = subst (λ j. CanTell f j (slot_of (f k.id) side) key) h.inner.bit_is c in
        ⊎_elim
        (λ (s : side ≡ 0). inl (s, a.all key (subst (λ y. CanTell f k.bit y key) (ap (λ j. slot_of (f k.id) j) s ∙ h.inner.names_low) d)))
        (λ (s : side ≡ 1). inr (s, b.all key (subst (λ y. CanTell f k.bit y key) (ap (λ j. slot_of (f k.id) j) s ∙ h.inner.names_high) d)))
        (two_sides side w)

    by : HasWrongKey f k.id → ⊥
    by (digit side key w c d) = d (ap (λ j. bit_at key j) h.inner.bit_is ∙ p.digit side key (within side key w c))
    by (prefix side key other more w c v e d) = d (ap (λ j. above j key) h.inner.bit_is ∙ p.prefix side key other more (within side key w c) (within other more v e) ∙ ap (λ j. above j more) (sym h.inner.bit_is))

-- ---- the object to which a guide's bits lead

-- what is known of it once its payload and its slot 2 were looked at
pub record FoundAt (v w : Seen) (id payload cell : ℕ) : Type 0 where
  pub number : payload ≡ payload_of (at v id)
  pub names : cell ≡ slot_of (at v id) 2
  pub here : held w 1 ≡ Some id
  pub graph : w.graph ≡ v.graph

pub found_at : (v u x w : Seen) (id payload cell : ℕ) → u.graph ≡ v.graph → held u 1 ≡ Some id → x ≡ u → payload ≡ payload_of (at u (held_id u 1)) → cell ≡ slot_of (at x (held_id x 1)) 2 → Loads 4 (nonzero cell) x w → FoundAt v w id payload cell
found_at v u x w id payload cell g h s p c l = record {
  number = p ∙ here_payload v u 1 id g h;
  names = c ∙ ap (λ (y : Seen). slot_of (at y (held_id y 1)) 2) s ∙ here_slot v u 1 id 2 g h;
  here = l.others 1 (λ z. absurd (omega (arith, z))) ∙ ap (λ (y : Seen). held y 1) s ∙ h;
  graph = l.graph ∙ ap (λ (y : Seen). y.graph) s ∙ g;
}

-- what its slots name
pub side_found : (v w : Seen) (id payload cell side told : ℕ) → FoundAt v w id payload cell → told ≡ slot_of (at w (held_id w 1)) side → told ≡ slot_of (at v id) side
side_found v w id payload cell side told f e = e ∙ here_slot v w 1 id side f.graph f.here

pub found_later : (v w x : Seen) (id payload cell told : ℕ) → FoundAt v w id payload cell → Loads 4 (nonzero told) w x → FoundAt v x id payload cell
found_later v w x id payload cell told f l = record { number = f.number; names = f.names; here = l.others 1 (λ z. absurd (omega (arith, z))) ∙ f.here; graph = l.graph ∙ f.graph }

-- the ways to what its slots name
pub low_reached : (v w : Seen) (guide below payload id low : ℕ) → w.graph ≡ v.graph → IsReached (at v) guide below (slot_of (at v root) 13) id → payload < below → payload ≡ payload_of (at v id) → low ≡ slot_of (at v id) 0 → bit_at guide payload ≡ 0 → low ≢ 0 → IsReached (at w) guide payload (slot_of (at w root) 13) low
low_reached v w guide below payload id low g r less p e z n =
    moved_on v w (λ f. IsReached f guide payload (slot_of (f root) 13) low) g
    (reached_more (at v) guide below payload (slot_of (at v root) 13) id low r less (sym p) (ap (λ d. slot_of (at v id) d) z ∙ sym e) n)

pub high_reached : (v w : Seen) (guide below payload id high : ℕ) → w.graph ≡ v.graph → IsReached (at v) guide below (slot_of (at v root) 13) id → payload < below → below ≤ 64 → payload ≡ payload_of (at v id) → high ≡ slot_of (at v id) 1 → high ≢ 0
    → IsReached (at w) (bit_or guide (1 * 2 ^ payload % 2 ^ 64)) payload (slot_of (at w root) 13) high
high_reached v w guide below payload id high g r less few p e n =
    let turned = bit_or guide (1 * 2 ^ payload % 2 ^ 64) in
    let fits : payload < 64 = omega (arith, less, few) in
    let same : (b : ℕ) → below ≤ b → bit_at turned b ≡ bit_at guide b = λ b le. bit_other guide payload b fits (λ q. absurd (omega (arith, q, le, less))) in
    moved_on v w (λ f. IsReached f turned payload (slot_of (f root) 13) high) g
    (reached_more (at v) turned below payload (slot_of (at v root) 13) id high (reached_guide (at v) guide turned below (slot_of (at v root) 13) id same r) less (sym p) (ap (λ d. slot_of (at v id) d) (bit_here guide payload fits) ∙ sym e) n)
