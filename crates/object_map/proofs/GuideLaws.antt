-- A walk goes on at the sides of an object.
use Rattle.std.proofs.Common.{◌≡◌, ◌≢◌, ℕ, ◌<◌, ◌≤◌, ◌*◌, ◌%◌, ◌^◌, List, [], Option, Some, None, refl, sym, ap, ◌∙◌, subst, arith, false}
use Rattle.std.specs.Prelude.{IfSome}
use Rattle.std.specs.Int.{bit_at}
use Rattle.std.specs.Int.Bits.{bit_or}
use Rattle.std.specs.Ordering.{nat_cmp}
use Rattle.std.specs.BTreeSet.{insert_key}
use Rattle.plain_model.specs.declared.object.Object.{Object}
use Rattle.plain_model.specs.Graphs.{root, object_at}
use Rattle.plain_model.specs.Machine.{is_stored, nonzero}
use Rattle.object_map.specs.Maps.{IsMap, StandsUnder, IsLeaf, IsCell, IsInner, slot_of, payload_of}
use Rattle.object_map.specs.Trees.{Tree, pairs_of, IsBelow, IsCritBit, AllCells}
use Rattle.object_map.specs.Trees.Tree.{leaf, inner}
use Rattle.object_map.specs.Seen.{Seen, at, held, held_id, Loads}
use Rattle.object_map.specs.Walking.{IsReached, Grown, NoTree}
use Rattle.object_map.proofs.WayLaws.{held_here, nonzero_some}
use Rattle.object_map.proofs.GrowLaws.{leaf_grown, moved, moved_on, bit_here, bit_other}
use Rattle.object_map.proofs.WalkLaws.{reached_more, reached_guide}

-- the object in a register, as it was seen before
pub here_object : (v w : Seen) (r id : ℕ) → w.graph ≡ v.graph → held w r ≡ Some id → at w (held_id w r) ≡ at v id
here_object v w r id g h = ap (λ i. at w i) (held_here w r id h) ∙ ap (λ x. object_at x id) g

-- what is known of the object in register 1 once its payload and its slot 2 were looked at
pub record AtObject (v w : Seen) (id payload cell : ℕ) : Type 0 where
  pub number : payload ≡ payload_of (at v id)
  pub names : cell ≡ slot_of (at v id) 2
  pub here : held w 1 ≡ Some id
  pub rooted : held w 0 ≡ Some root
  pub graph : w.graph ≡ v.graph

pub at_object : (v u w : Seen) (id payload cell : ℕ) → held v 1 ≡ Some id → held v 0 ≡ Some root → u ≡ v → payload ≡ payload_of (at v (held_id v 1)) → cell ≡ slot_of (at u (held_id u 1)) 2 → Loads 2 (nonzero cell) u w → AtObject v w id payload cell
at_object v u w id payload cell h r same p c l = record {
  number = p ∙ ap payload_of (here_object v v 1 id refl h);
  names = c ∙ ap (λ (x : Seen). slot_of (at x (held_id x 1)) 2) same ∙ ap (λ o. slot_of o 2) (here_object v v 1 id refl h);
  here = l.others 1 (λ z. absurd (omega (arith, z))) ∙ ap (λ (x : Seen). held x 1) same ∙ h;
  rooted = l.others 0 (λ z. absurd (omega (arith, z))) ∙ ap (λ (x : Seen). held x 0) same ∙ r;
  graph = l.graph ∙ ap (λ (x : Seen). x.graph) same;
}

-- a leaf was met
pub leaf_found : (v w : Seen) (id payload cell below : ℕ) (old new : List ℕ) → w.graph ≡ v.graph → payload < 2 ^ 64 → payload ≡ payload_of (at v id) → IsLeaf (at w id) (payload_of (at w id)) cell → IsCell (at w cell) (payload_of (at w cell)) → is_stored old cell ≡ false → new ≡ insert_key nat_cmp old cell
    → Grown (at v) id below payload old new
leaf_found v w id payload cell below old new g fits p l c fresh e =
    let leaf_here : IsLeaf (at v id) (payload_of (at v id)) cell = moved v w (λ f. IsLeaf (f id) (payload_of (f id)) cell) g l in
    let cell_here : IsCell (at v cell) (payload_of (at v cell)) = moved v w (λ f. IsCell (f cell) (payload_of (f cell))) g c in
    leaf_grown (at v) id payload cell below old new fits (subst (λ k. IsLeaf (at v id) k cell) (sym p) leaf_here) cell_here fresh e

-- what was answered of the object in register 1
pub inner_given : (w : Seen) (o : Option (ℕ × ℕ)) (p : ℕ × ℕ) → IfSome o (λ s. IsInner (at w (held_id w 1)) (payload_of (at w (held_id w 1))) s.0 s.1) → o ≡ Some p → IsInner (at w (held_id w 1)) (payload_of (at w (held_id w 1))) p.0 p.1
inner_given w o p h e = subst (λ (q : Option (ℕ × ℕ)). IfSome q (λ s. IsInner (at w (held_id w 1)) (payload_of (at w (held_id w 1))) s.0 s.1)) e h

-- the sides of the object in a register are those of the object that was in hand
pub inner_found : (v w : Seen) (r id payload low high : ℕ) → w.graph ≡ v.graph → held w r ≡ Some id → payload ≡ payload_of (at v id) → IsInner (at w (held_id w r)) (payload_of (at w (held_id w r))) low high → IsInner (at v id) payload low high
inner_found v w r id payload low high g h p i =
    let same : at w (held_id w r) ≡ at v id = here_object v w r id g h in
    subst (λ b. IsInner (at v id) b low high) (sym p) (subst (λ o. IsInner o (payload_of o) low high) same i)

pub inner_missed : (v w : Seen) (r id : ℕ) → w.graph ≡ v.graph → held w r ≡ Some id → ((bit low high : ℕ) → IsInner (at w (held_id w r)) bit low high → ⊥) → (bit low high : ℕ) → IsInner (at v id) bit low high → ⊥
inner_missed v w r id g h none bit low high i = none bit low high (subst (λ o. IsInner o bit low high) (sym (here_object v w r id g h)) i)

pub inner_null : (o : Option Object) (bit low high : ℕ) → IsInner o bit low high → slot_of o 2 ≡ 0
inner_null o bit low high i = i.null 2 (λ z. absurd (omega (arith, z))) (λ z. absurd (omega (arith, z)))

-- what slot 0 names is loaded
pub low_here : (v w x : Seen) (id payload low high told : ℕ) → w.graph ≡ v.graph → held w 1 ≡ Some id → IsInner (at v id) payload low high → told ≡ slot_of (at w (held_id w 1)) 0 → Loads 1 (nonzero told) w x → held x 1 ≡ Some low
low_here v w x id payload low high told g h i e l =
    let its : told ≡ low = e ∙ ap (λ o. slot_of o 0) (here_object v w 1 id g h) ∙ i.names_low in
    l.here ∙ nonzero_some told (λ z. i.low_named (sym its ∙ z)) ∙ ap (λ n. Some n) its

-- ---- the way to the sides

pub low_way : (v w : Seen) (guide below payload id low high : ℕ) → w.graph ≡ v.graph → IsReached (at v) guide below (slot_of (at v root) 13) id → payload < below → IsInner (at v id) payload low high → bit_at guide payload ≡ 0 → IsReached (at w) guide payload (slot_of (at w root) 13) low
low_way v w guide below payload id low high g r less i z =
    moved_on v w (λ f. IsReached f guide payload (slot_of (f root) 13) low) g
    (reached_more (at v) guide below payload (slot_of (at v root) 13) id low r less i.bit_is (ap (λ d. slot_of (at v id) d) z ∙ i.names_low) i.low_named)

pub high_way : (v w : Seen) (guide below payload id low high : ℕ) → w.graph ≡ v.graph → IsReached (at v) guide below (slot_of (at v root) 13) id → payload < below → below ≤ 64 → IsInner (at v id) payload low high → IsReached (at w) (bit_or guide (1 * 2 ^ payload % 2 ^ 64)) payload (slot_of (at w root) 13) high
high_way v w guide below payload id low high g r less few i =
    let turned = bit_or guide (1 * 2 ^ payload % 2 ^ 64) in
    let fits : payload < 64 = omega (arith, less, few) in
    let same : (b : ℕ) → below ≤ b → bit_at turned b ≡ bit_at guide b = λ b le. bit_other guide payload b fits (λ e. absurd (omega (arith, e, le, less))) in
    moved_on v w (λ f. IsReached f turned payload (slot_of (f root) 13) high) g
    (reached_more (at v) turned below payload (slot_of (at v root) 13) id high (reached_guide (at v) guide turned below (slot_of (at v root) 13) id same r) less i.bit_is (ap (λ d. slot_of (at v id) d) (bit_here guide payload fits) ∙ i.names_high) i.high_named)

-- below the bit that was set the guide is as before
pub clear_high : (guide below payload : ℕ) → payload < below → below ≤ 64 → ((b : ℕ) → b < below → bit_at guide b ≡ 0) → (b : ℕ) → b < payload → bit_at (bit_or guide (1 * 2 ^ payload % 2 ^ 64)) b ≡ 0
clear_high guide below payload less few clear b l =
    let fits : payload < 64 = omega (arith, less, few) in
    let low : b < below = omega (arith, l, less) in
    bit_other guide payload b fits (λ e. absurd (omega (arith, e, l))) ∙ clear b low

-- ---- the whole tree

pub map_found : (v : Seen) (key : ℕ) (new : List ℕ) → slot_of (at v root) 13 ≢ 0 → Grown (at v) (slot_of (at v root) 13) 64 key [] new → (pairs : List (ℕ × ℕ)) × IsMap 13 v.graph pairs
map_found v key new n t = (pairs_of t.tree, record { tree = Some t.tree; stands = (n, t.named, t.stands); same = refl })

pub map_empty : (v : Seen) → slot_of (at v root) 13 ≡ 0 → (pairs : List (ℕ × ℕ)) × IsMap 13 v.graph pairs
map_empty v e = ([], record { tree = None; stands = e; same = refl })

below_all : (t : Tree) → IsCritBit t → IsBelow 64 t
below_all (leaf i k c v) h = tt
below_all (inner i b l r) h = h.0.number

none_met : (t : Tree) → AllCells (λ c. is_stored [] c ≡ false) t
none_met (leaf i k c v) = refl
none_met (inner i b l r) = (none_met l, none_met r)

pub map_missed : (v : Seen) → slot_of (at v root) 13 ≢ 0 → NoTree (at v) (slot_of (at v root) 13) 64 [] → (pairs : List (ℕ × ℕ)) → IsMap 13 v.graph pairs → ⊥
map_missed v n none pairs m = by m.tree m.stands
  where
    by : (o : Option Tree) → StandsUnder (at v) (slot_of (at v root) 13) o → ⊥
    by None h = n h
    by (Some t) h = none t h.1 h.2 (below_all t h.2.critical) (none_met t)
