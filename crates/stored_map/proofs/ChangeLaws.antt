-- What a put and a removal make of the objects that the root reaches, and of the ids that are free once a collector has nothing left to do.
use Rattle.std.proofs.Common.{◌≡◌, ◌≢◌, ◌⊎◌, ⊎_elim, inl, inr, ℕ, ◌+◌, ◌≤◌, Bool, true, false, List, [], ◌∷◌, Option, Some, None, length, refl, sym, ap, ◌∙◌, subst, arith}
use Rattle.std.specs.Prelude.{is_some, Contains}
use Rattle.std.specs.Option.{option_map_or}
use Rattle.std.proofs.lemmas.Bool.{cases_eq}
use Rattle.plain_model.specs.declared.object.Object.{Object}
use Rattle.plain_model.specs.Graphs.{root, object_at, has_object}
use Rattle.plain_model.specs.Reachable.{Reachable, start, step}
use Rattle.plain_model.specs.History.{IsId}
use Rattle.plain_model.proofs.ReachableLaws.{Reachable-least}
use Rattle.plain_laws.specs.Sound.{IsSoundGraph}
use Rattle.plain_laws.proofs.Ids.{slot_contained}
use Rattle.store_model.proofs.OnceLaws.{only-one}
use Rattle.plain_map.specs.Pairs.{Pairs, value_of, with_pair, without_key}
use Rattle.object_map.specs.Trees.{Tree}
use Rattle.object_map.specs.Trees.Tree.{leaf, inner}
use Rattle.object_map.specs.Maps.{slot_of, AreObjects, StandsUnder, pairs_in as pairs_of_tree, IsMap}
use Rattle.object_map.specs.Seen.{Seen, at}
use Rattle.object_map.specs.Changes.{IsOf, IsOfMap, KeepsOthers, Gains, Loses, ChangesOne, ids_needed, ids_held}
use Rattle.object_map.proofs.LinkLaws.{AllNodes, stays}
use Rattle.object_map.proofs.MapTreeLaws.{MapTree, in_tree}
use Rattle.object_map.proofs.OneLaws.{tree_one}
use Rattle.object_map.proofs.OthersLaws.{none_of}
use Rattle.map_calls.specs.Maps.{needs, holds, Puts, Deletes}
use Rattle.stored_map.specs.Graphs.{is_reached, count_beside, free_beside, map_of, pairs_in, KeepsMap}
use Rattle.stored_map.proofs.BesideLaws.{LeavesAlone, keeps_beside, OnlyMap, only_of, only_back}
use Rattle.stored_map.proofs.CountLaws.{or_ids, count_all, count_more, most_all, passes_ids, which_passes}
use Rattle.stored_map.proofs.GraphLaws.{map_read, root_reached}
use Rattle.stored_map.proofs.MapReachLaws.{Alike, reaches_or, leads_on, map_reached, map_leads, first_under, reached_there, is_of_map, tree_of}
use Rattle.stored_map.proofs.ReachLaws.{reached_is, same_answer, same_count}
use Rattle.stored_map.proofs.ReachedLaws.{reached_named, root_apart}

-- ---- a put

module _ (v w : Seen) (ps qs : Pairs) (xs : List ℕ) (s : IsSoundGraph v.graph) (t : IsSoundGraph w.graph) (m : IsMap 13 v.graph ps) (n : IsMap 13 w.graph qs) (k : KeepsOthers 13 v w) (g : Gains 13 xs v w) where
  put_alike : Alike w.graph v.graph
  put_alike = record {
    same = λ y here there apart d. k.others y there apart (λ i. d (g.kept y i));
    slots = k.root_slots;
  }

  put_back : Alike v.graph w.graph
  put_back = record {
    same = λ y there here apart d. sym (k.others y there apart d);
    slots = λ j q. sym (k.root_slots j q);
  }

  put_reach : (x : ℕ) → Reachable w.graph (root ∷ []) x → Reachable v.graph (root ∷ []) x ⊎ Contains xs x
  put_reach x r = ⊎_elim
      (λ (a : Reachable v.graph (root ∷ []) x). inl a)
      (λ (i : IsOfMap 13 (at w) x). ⊎_elim (λ (o : IsOfMap 13 (at v) x). inl (map_reached v.graph s.rooted x o)) (λ (c : Contains xs x). inr c) (g.only x i))
      (reaches_or w.graph v.graph qs s n put_alike x r)

  put_kept : (x : ℕ) → Reachable v.graph (root ∷ []) x ⊎ Contains xs x → Reachable w.graph (root ∷ []) x
  put_kept x h = ⊎_elim
      (λ (a : Reachable v.graph (root ∷ []) x). ⊎_elim
      (λ (r : Reachable w.graph (root ∷ []) x). r)
      (λ (i : IsOfMap 13 (at v) x). map_reached w.graph t.rooted x (g.kept x i))
      (reaches_or v.graph w.graph ps t m put_back x a))
      (λ (c : Contains xs x). map_reached w.graph t.rooted x (g.gained x c))
      h

  put_test : (x : ℕ) → is_reached w.graph x ≡ or_ids (is_reached v.graph) xs x
  put_test x = same_answer (is_reached w.graph x) (or_ids (is_reached v.graph) xs x)
      (λ h. passes_ids (is_reached v.graph) xs x (⊎_elim
      (λ (a : Reachable v.graph (root ∷ []) x). inl ((reached_is v.graph s x).1 a))
      (λ (c : Contains xs x). inr c)
      (put_reach x ((reached_is w.graph t x).0 h))))
      (λ h. (reached_is w.graph t x).1 (put_kept x (⊎_elim
      (λ (e : is_reached v.graph x ≡ true). inl ((reached_is v.graph s x).0 e))
      (λ (c : Contains xs x). inr c)
      (which_passes (is_reached v.graph) xs x h))))

  not_before : (x : ℕ) → Contains xs x → is_reached v.graph x ≡ false
  not_before x c = by (is_reached v.graph x) refl
    where
      by : (b : Bool) → is_reached v.graph x ≡ b → b ≡ false
      by false e = refl
      by true e =
          let has : is_some (object_at v.graph x) ≡ true = reached_there v.graph x ((reached_is v.graph s x).0 e) in
          let none : is_some (object_at v.graph x) ≡ false = ap (λ (o : Option Object). is_some o) (g.fresh x c) in
          absurd (cc (has, none))

  -- so many ids fewer are free as it gained
  pub put_free : (ids : ℕ) → ((x : ℕ) → has_object w.graph x ≡ true → IsId ids x) → free_beside ids w.graph + length xs ≡ free_beside ids v.graph
  unfolding free_beside
  put_free ids within =
      let same : count_beside (is_reached w.graph) 1 ids ≡ count_beside (or_ids (is_reached v.graph) xs) 1 ids = same_count (is_reached w.graph) (or_ids (is_reached v.graph) xs) 1 ids put_test in
      let count : count_beside (or_ids (is_reached v.graph) xs) 1 ids + length xs ≡ count_beside (is_reached v.graph) 1 ids =
      count_all (is_reached v.graph) xs 1 ids g.apart (λ x c.
      let there = within x (reached_there w.graph x (map_reached w.graph t.rooted x (g.gained x c))) in
      let low = there.0 in
      let high = there.1 in
      (not_before x c, omega (arith, low), omega (arith, high)))
      in
      ap (λ i. i + length xs) same ∙ count

  -- ---- beside the map

  put_before : (x : ℕ) → Reachable w.graph (root ∷ []) x → (IsOfMap 13 (at w) x → ⊥) → Reachable v.graph (root ∷ []) x
  put_before x r d = ⊎_elim (λ (a : Reachable v.graph (root ∷ []) x). a) (λ (c : Contains xs x). absurd (d (g.gained x c))) (put_reach x r)

  pub put_leaves : LeavesAlone v.graph w.graph
  put_leaves = record {
    stay = λ x r q d. (put_kept x (inl r), k.others x (reached_there v.graph x r) q d);
    back = λ x r q d. (let a = put_before x r d in (a, k.others x (reached_there v.graph x a) q (λ i. d (g.kept x i))));
    payload = k.root_payload;
    slots = k.root_slots;
  }

  -- what an object of before names of the new map was the old one's
  put_named : (x j : ℕ) → Reachable v.graph (root ∷ []) x → slot_of (at w x) j ≡ slot_of (at v x) j → IsOfMap 13 (at w) (slot_of (at w x) j) → IsOfMap 13 (at v) (slot_of (at v x) j)
  put_named x j r e i =
      let y = slot_of (at v x) j in
      let here : IsOfMap 13 (at w) y = subst (λ z. IsOfMap 13 (at w) z) e i in
      ⊎_elim
      (λ (o : IsOfMap 13 (at v) y). o)
      (λ (c : Contains xs y).
      let named : y ≢ 0 = reached_named w.graph y (map_reached w.graph t.rooted y here) in
      let has : is_some (object_at v.graph y) ≡ true = reached_there v.graph y (leads_on v.graph s x j y r refl named) in
      let none : is_some (object_at v.graph y) ≡ false = ap (λ (o : Option Object). is_some o) (g.fresh y c) in
      absurd (cc (has, none)))
      (g.only y here)

  pub put_only : OnlyMap v.graph → OnlyMap w.graph
  put_only f x j r i d = ⊎_elim
      (λ (e : x ≡ root). (e, by_root (subst (λ z. IsOfMap 13 (at w) (slot_of (at w z) j)) e i)))
      (λ (q : x ≢ root).
      let a = put_before x r d in
      let o : IsOfMap 13 (at v) x → ⊥ = λ b. d (g.kept x b) in
      let same : at w x ≡ at v x = k.others x (reached_there v.graph x a) q o in
      f x j a (put_named x j a (ap (λ (b : Option Object). slot_of b j) same) i) o)
      (cases_eq x root)
    where
      by_root : IsOfMap 13 (at w) (slot_of (at w root) j) → j ≡ 13
      by_root h = ⊎_elim
          (λ (e : j ≡ 13). e)
          (λ (q : j ≢ 13). (let r = root_reached v.graph s.rooted in (f root j r (put_named root j r (k.root_slots j q) h) (root_apart v.graph ps m)).1))
          (cases_eq j 13)

-- ---- what a removal leaves of the objects that the map loses

all_nodes : (P : ℕ → Type 0) (t : Tree) → ((x : ℕ) → IsOf x t → P x) → AllNodes P t
all_nodes P (leaf id key cell value) f = (f id (inl refl), f cell (inr refl))
all_nodes P (inner id bit low high) f = (f id (inl refl), all_nodes P low (λ x h. f x (inr (inl h))), all_nodes P high (λ x h. f x (inr (inr h))))

module _ (v w : Seen) (x : ℕ) (before : IsOfMap 13 (at v) x) (after : IsOfMap 13 (at w) x → ⊥) (others : (y : ℕ) → y ≢ x → at w y ≡ at v y) where
  -- the root isn't the map's
  not_root : root ≢ x
  not_root e = none_of (at v) root before.tree before.stands.objects (λ z. before.named (sym before.under ∙ z)) (subst (λ y. IsOf y before.tree) (sym e) before.within)

  same_root : slot_of (at w root) 13 ≡ slot_of (at v root) 13
  same_root = ap (λ (o : Option Object). slot_of o 13) (others root not_root)

  -- it would be the map's still
  still_there : (qs : Pairs) (o : Option Tree) → StandsUnder (at w) (slot_of (at w root) 13) o → qs ≡ pairs_of_tree o → ⊥
  still_there qs None s e = before.named (sym before.under ∙ (sym same_root ∙ s))
  still_there qs (Some u) s e =
      let m : MapTree 13 (at w) qs u = tree_of (at w) qs u s e in
      let kept : AllNodes (λ y. at v y ≡ at w y) u = all_nodes (λ y. at v y ≡ at w y) u (λ y h. sym (others y (λ q. after (subst (λ i. IsOfMap 13 (at w) i) q (in_tree y m h))))) in
      let objects : AreObjects (at v) u = stays (at w) (at v) u kept m.stands.objects in
      let one : before.tree ≡ u = tree_one (at v) before.tree u before.stands.objects objects (sym before.under ∙ (sym same_root ∙ m.under)) in
      after (in_tree x m (subst (λ i. IsOf x i) one before.within))

-- where one object changes at most, each that the map loses is as it was
lost_still : (v w : Seen) (qs : Pairs) → IsMap 13 w.graph qs → ChangesOne v w → (x : ℕ) → IsOfMap 13 (at v) x → (IsOfMap 13 (at w) x → ⊥) → at w x ≡ at v x
lost_still v w qs n c x i d = ⊎_elim
    (λ (e : x ≡ c.0). absurd (still_there v w x i d (λ y q. c.1 y (λ z. q (z ∙ sym e))) qs n.tree n.stands n.same))
    (λ (q : x ≢ c.0). c.1 x q)
    (cases_eq x c.0)

-- ---- a removal

module _ (v w : Seen) (ps qs : Pairs) (xs : List ℕ) (s : IsSoundGraph v.graph) (t : IsSoundGraph w.graph) (m : IsMap 13 v.graph ps) (n : IsMap 13 w.graph qs) (k : KeepsOthers 13 v w) (g : Loses 13 xs v w) (c : ChangesOne v w) where
  removed_alike : Alike w.graph v.graph
  removed_alike = record {
    same = λ y here there apart d. ⊎_elim
        (λ (i : IsOfMap 13 (at v) y). lost_still v w qs n c y i d)
        (λ (j : IsOfMap 13 (at v) y → ⊥). k.others y there apart j)
        (is_of_map v.graph ps m y);
    slots = k.root_slots;
  }

  removed_back : Alike v.graph w.graph
  removed_back = record {
    same = λ y there here apart d. sym (k.others y there apart d);
    slots = λ j q. sym (k.root_slots j q);
  }

  removed_reach : (x : ℕ) → Reachable w.graph (root ∷ []) x → Reachable v.graph (root ∷ []) x
  removed_reach x r = ⊎_elim
      (λ (a : Reachable v.graph (root ∷ []) x). a)
      (λ (i : IsOfMap 13 (at w) x). map_reached v.graph s.rooted x (g.kept x i))
      (reaches_or w.graph v.graph qs s n removed_alike x r)

  removed_or : (x : ℕ) → Reachable v.graph (root ∷ []) x → Reachable w.graph (root ∷ []) x ⊎ Contains xs x
  removed_or x r = ⊎_elim
      (λ (a : Reachable w.graph (root ∷ []) x). inl a)
      (λ (i : IsOfMap 13 (at v) x). ⊎_elim (λ (o : IsOfMap 13 (at w) x). inl (map_reached w.graph t.rooted x o)) (λ (h : Contains xs x). inr h) (g.only x i))
      (reaches_or v.graph w.graph ps t m removed_back x r)

  -- no id fewer is free
  pub removed_fewer : (ids : ℕ) → free_beside ids v.graph ≤ free_beside ids w.graph
  unfolding free_beside
  removed_fewer ids = count_more (is_reached w.graph) (is_reached v.graph) 1 ids (λ x h. (reached_is v.graph s x).1 (removed_reach x ((reached_is w.graph t x).0 h)))

  -- and at most so many more as it lost
  pub removed_more : (ids : ℕ) → free_beside ids w.graph ≤ free_beside ids v.graph + length xs
  unfolding free_beside
  removed_more ids =
      let most : count_beside (is_reached w.graph) 1 ids ≤ count_beside (or_ids (is_reached w.graph) xs) 1 ids + length xs = most_all (is_reached w.graph) xs 1 ids in
      let wider : count_beside (or_ids (is_reached w.graph) xs) 1 ids ≤ count_beside (is_reached v.graph) 1 ids =
      count_more (is_reached v.graph) (or_ids (is_reached w.graph) xs) 1 ids (λ x h. passes_ids (is_reached w.graph) xs x (⊎_elim
      (λ (a : Reachable w.graph (root ∷ []) x). inl ((reached_is w.graph t x).1 a))
      (λ (i : Contains xs x). inr i)
      (removed_or x ((reached_is v.graph s x).0 h))))
      in
      omega (arith, most, wider)

  -- ---- beside the map

  same_beside : (x : ℕ) → Reachable w.graph (root ∷ []) x → x ≢ root → (IsOfMap 13 (at w) x → ⊥) → at w x ≡ at v x
  same_beside x r q d = removed_alike.same x (reached_there w.graph x r) (reached_there v.graph x (removed_reach x r)) q d

  pub removed_leaves : LeavesAlone v.graph w.graph
  removed_leaves = record {
    stay = λ x r q d. (⊎_elim (λ (a : Reachable w.graph (root ∷ []) x). a) (λ (h : Contains xs x). absurd (d (g.lost x h).0)) (removed_or x r), k.others x (reached_there v.graph x r) q d);
    back = λ x r q d. (removed_reach x r, same_beside x r q d);
    payload = k.root_payload;
    slots = k.root_slots;
  }

  -- the root leads to no object of the old map but by slot 13
  root_leads : OnlyMap v.graph → (j y : ℕ) → slot_of (at w root) j ≡ y → y ≢ 0 → IsOfMap 13 (at v) y → IsOfMap 13 (at w) y
  root_leads f j y e q i = ⊎_elim
      (λ (z : j ≡ 13).
      let here : slot_of (at w root) 13 ≡ y = subst (λ a. slot_of (at w root) a ≡ y) z e in
      subst (λ a. IsOfMap 13 (at w) a) here (first_under (at w) qs n.tree n.stands n.same (λ a. q (sym here ∙ a))))
      (λ (z : j ≢ 13). absurd (z (f root j (root_reached v.graph s.rooted) (subst (λ a. IsOfMap 13 (at v) a) (sym e ∙ k.root_slots j z) i) (root_apart v.graph ps m)).1))
      (cases_eq j 13)

  -- and no other object leads there that is none of the new map's
  other_leads : OnlyMap v.graph → (x j y : ℕ) → Reachable w.graph (root ∷ []) x → (IsOfMap 13 (at v) x → IsOfMap 13 (at w) x) → slot_of (at w x) j ≡ y → y ≢ 0 → IsOfMap 13 (at v) y → IsOfMap 13 (at w) y
  other_leads f x j y r h e q i = ⊎_elim
      (λ (a : IsOfMap 13 (at w) x). map_leads w.graph x j y a e q)
      (λ (a : IsOfMap 13 (at w) x → ⊥). ⊎_elim
      (λ (z : x ≡ root). root_leads f j y (subst (λ b. slot_of (at w b) j ≡ y) z e) q i)
      (λ (z : x ≢ root). absurd (z (f x j (removed_reach x r) (subst (λ b. IsOfMap 13 (at v) b) (sym e ∙ ap (λ (b : Option Object). slot_of b j) (same_beside x r z a)) i) (λ b. a (h b))).0))
      (cases_eq x root))
      (is_of_map w.graph qs n x)

  -- so an object that the map lost isn't reached any more
  reached_still : OnlyMap v.graph → (x : ℕ) → Reachable w.graph (root ∷ []) x → IsOfMap 13 (at v) x → IsOfMap 13 (at w) x
  reached_still f x r = (Reachable-least w.graph (root ∷ []) (λ y. Reachable w.graph (root ∷ []) y × (IsOfMap 13 (at v) y → IsOfMap 13 (at w) y)) (record {
    starts = λ y o h e. (start y o h e, λ i. absurd (root_apart v.graph ps m (subst (λ z. IsOfMap 13 (at v) z) (sym (only-one root y h)) i)));
    steps = λ y z o p h e b q d. (step y z o p h.0 e b q d, λ i. (let a = slot_contained o.slots z b in other_leads f y a.0 z h.0 h.1 (ap (λ (x : Option Object). slot_of x a.0) e ∙ a.1) q i));
  }) r).1

  pub removed_only : OnlyMap v.graph → OnlyMap w.graph
  removed_only f x j r i d = ⊎_elim
      (λ (e : x ≡ root). (e, by_root (subst (λ z. IsOfMap 13 (at w) (slot_of (at w z) j)) e i)))
      (λ (q : x ≢ root). f x j (removed_reach x r) (subst (λ (b : Option Object). IsOfMap 13 (at v) (slot_of b j)) (same_beside x r q d) (g.kept (slot_of (at w x) j) i)) (λ b. d (reached_still f x r b)))
      (cases_eq x root)
    where
      by_root : IsOfMap 13 (at w) (slot_of (at w root) j) → j ≡ 13
      by_root h = ⊎_elim
          (λ (e : j ≡ 13). e)
          (λ (q : j ≢ 13). (f root j (root_reached v.graph s.rooted) (subst (λ y. IsOfMap 13 (at v) y) (k.root_slots j q) (g.kept (slot_of (at w root) j) h)) (root_apart v.graph ps m)).1)
          (cases_eq j 13)

  removed_test : (x : ℕ) → is_reached v.graph x ≡ or_ids (is_reached w.graph) xs x
  removed_test x = same_answer (is_reached v.graph x) (or_ids (is_reached w.graph) xs x)
      (λ h. passes_ids (is_reached w.graph) xs x (⊎_elim
      (λ (a : Reachable w.graph (root ∷ []) x). inl ((reached_is w.graph t x).1 a))
      (λ (i : Contains xs x). inr i)
      (removed_or x ((reached_is v.graph s x).0 h))))
      (λ h. (reached_is v.graph s x).1 (⊎_elim
      (λ (e : is_reached w.graph x ≡ true). removed_reach x ((reached_is w.graph t x).0 e))
      (λ (i : Contains xs x). map_reached v.graph s.rooted x (g.lost x i).0)
      (which_passes (is_reached w.graph) xs x h)))

  not_after : OnlyMap v.graph → (x : ℕ) → Contains xs x → is_reached w.graph x ≡ false
  not_after f x i = by (is_reached w.graph x) refl
    where
      by : (b : Bool) → is_reached w.graph x ≡ b → b ≡ false
      by false e = refl
      by true e = absurd ((g.lost x i).1 (reached_still f x ((reached_is w.graph t x).0 e) (g.lost x i).0))

  -- then so many ids more are free as it lost
  pub removed_all : OnlyMap v.graph → (ids : ℕ) → ((x : ℕ) → has_object w.graph x ≡ true → IsId ids x) → free_beside ids w.graph ≡ free_beside ids v.graph + length xs
  unfolding free_beside
  removed_all f ids within =
      let same : count_beside (is_reached v.graph) 1 ids ≡ count_beside (or_ids (is_reached w.graph) xs) 1 ids = same_count (is_reached v.graph) (or_ids (is_reached w.graph) xs) 1 ids removed_test in
      let count : count_beside (or_ids (is_reached w.graph) xs) 1 ids + length xs ≡ count_beside (is_reached w.graph) 1 ids =
      count_all (is_reached w.graph) xs 1 ids g.apart (λ x i.
      let l = g.lost x i in
      let had : has_object v.graph x ≡ true = reached_there v.graph x (map_reached v.graph s.rooted x l.0) in
      let has : has_object w.graph x ≡ true = ap (λ (o : Option Object). is_some o) (lost_still v w qs n c x l.0 l.1) ∙ had in
      let there = within x has in
      let low = there.0 in
      let high = there.1 in
      (not_after f x i, omega (arith, low), omega (arith, high)))
      in
      sym count ∙ ap (λ i. i + length xs) (sym same)

-- ---- as a script counts

pub needs_same : (key : ℕ) (pairs : Pairs) → ids_needed key pairs ≡ needs key pairs
needs_same key [] = refl
needs_same key (p ∷ ps) = refl

holds_same : (key : ℕ) (pairs : Pairs) → ids_held key pairs ≡ holds key pairs
holds_same key pairs = ap (λ n. option_map_or (λ (_ : ℕ). n) (value_of key pairs) 0) (needs_same key (without_key key pairs))

-- the map got the pair
pub puts : (key value ids : ℕ) (v w : Seen) (xs : List ℕ) → IsSoundGraph v.graph → IsSoundGraph w.graph → ((x : ℕ) → has_object w.graph x ≡ true → IsId ids x) → KeepsMap v.graph → IsMap 13 w.graph (with_pair key value (pairs_in v.graph)) → KeepsOthers 13 v w
    → length xs ≡ ids_needed key (pairs_in v.graph) → Gains 13 xs v w → Puts key value (map_of ids v.graph) (map_of ids w.graph)
puts key value ids v w xs s t within m n k long g =
    let free : free_beside ids w.graph + length xs ≡ free_beside ids v.graph = put_free v w (pairs_in v.graph) (with_pair key value (pairs_in v.graph)) xs s t m n k g ids within in
    let many : length xs ≡ needs key (pairs_in v.graph) = long ∙ needs_same key (pairs_in v.graph) in
    let enough : needs key (pairs_in v.graph) ≤ free_beside ids v.graph = omega (arith, free, many) in
    let taken : free_beside ids w.graph + needs key (pairs_in v.graph) ≡ free_beside ids v.graph = omega (arith, free, many) in
    let ps = pairs_in v.graph in
    let qs = with_pair key value ps in
    record {
      enough = enough;
      pairs = map_read w.graph qs n;
      ids = refl;
      free = taken;
      beside = keeps_beside v.graph w.graph ps qs s t m n (put_leaves v w ps qs xs s t m n k g);
      names = λ f. only_back w.graph qs t n (put_only v w ps qs xs s t m n k g (only_of v.graph ps s m f));
    }

-- the map lost the pair of the key
pub deletes : (key ids : ℕ) (v w : Seen) (xs : List ℕ) → IsSoundGraph v.graph → IsSoundGraph w.graph → ((x : ℕ) → has_object w.graph x ≡ true → IsId ids x) → KeepsMap v.graph → IsMap 13 w.graph (without_key key (pairs_in v.graph)) → KeepsOthers 13 v w
    → length xs ≡ ids_held key (pairs_in v.graph) → Loses 13 xs v w → ChangesOne v w → Deletes key (map_of ids v.graph) (map_of ids w.graph)
deletes key ids v w xs s t within m n k long g c =
    let ps = pairs_in v.graph in
    let qs = without_key key ps in
    let fewer : free_beside ids v.graph ≤ free_beside ids w.graph = removed_fewer v w (pairs_in v.graph) qs xs s t m n k g c ids in
    let more : free_beside ids w.graph ≤ free_beside ids v.graph + length xs = removed_more v w (pairs_in v.graph) qs xs s t m n k g c ids in
    let many : length xs ≡ holds key (pairs_in v.graph) = long ∙ holds_same key (pairs_in v.graph) in
    let most : free_beside ids w.graph ≤ free_beside ids v.graph + holds key (pairs_in v.graph) = omega (arith, more, many) in
    record {
      pairs = map_read w.graph qs n;
      ids = refl;
      not_fewer = fewer;
      not_more = most;
      all = λ f. removed_all v w ps qs xs s t m n k g c (only_of v.graph ps s m f) ids within ∙ ap (λ i. free_beside ids v.graph + i) many;
      beside = keeps_beside v.graph w.graph ps qs s t m n (removed_leaves v w ps qs xs s t m n k g c);
      names = λ f. only_back w.graph qs t n (removed_only v w ps qs xs s t m n k g c (only_of v.graph ps s m f));
    }
