-- At rest just the reachable objects are stored.
use Rattle.std.proofs.Common.{◌≡◌, ◌≢◌, ℕ, zero, suc, ◌<◌, List, [], ◌∷◌, Bool, true, false, cond, refl, sym, ap, ◌∙◌, subst, get_or, length, arith, Some, ⊎_elim, ne_eqb}
use Rattle.std.specs.Prelude.{◌==◌, sum_by, count_by, Contains, fold, slice_index}
use Rattle.std.specs.Option.{option_map_or}
use Rattle.std.proofs.lemmas.Bool.{cases_eq, cases_lt, and_parts, eqb-true}
use Rattle.std.proofs.lemmas.List.{get_or_default, get_or_past}
use Rattle.std.proofs.lemmas.List.Sums.{sum_by-cons}
use Rattle.plain_model.specs.declared.object.Object.{Object}
use Rattle.plain_model.specs.Graphs.{root, object_at, applied}
use Rattle.plain_model.specs.Reachable.{Reachable, start as reached_start, step as reached_step}
use Rattle.plain_model.proofs.ReachableLaws.{Reachable-least}
use Rattle.cell_model.specs.Cells.{null, Cell, blank_cell, cell_at, pointer_in, pointer_at, is_live, same, object_of, aims, aims_in, own_strong, IsExact}
use Rattle.cell_model.specs.Strong.{IsStrongAt, StrongPath, one, more}
use Rattle.store_model.specs.Core.{Ref, Core, is_named, slot_in, left_writes, current}
use Rattle.store_model.specs.Sound.{as_root, by_pass, start, step, IsKept, IsSound}
use Rattle.store_model.specs.RestLaws.{IsAtRest, HasStrongIn, IsLed, RestLedLaw, RestLaw}
use Rattle.store_model.proofs.Lists.{Contains-here}
use Rattle.cell_model.proofs.EditLaws.{live-there}
use Rattle.store_model.proofs.DeletionLaws.{current-slot}
use Rattle.store_model.proofs.LedLaws.{led}

-- ---- from a count to a pointer

-- a sum that isn't 0 has a part that isn't 0
sum-part : {X : Type 0} (f : X → ℕ) (xs : List X) (d : X) → sum_by f xs ≢ 0 → (i : ℕ) × (i < length xs) × (f (get_or xs i d) ≢ 0)
sum-part f [] d n = absurd (n refl)
sum-part f (x ∷ xs) d n =
    ⊎_elim
    (λ z. let e = sum_by-cons f x xs in let h = sum-part f xs d (λ r. n (omega (arith, e, z, r))) in (suc h.0, (let l = h.1 in omega (arith, l)), h.2))
    (λ m. (0, omega arith, m))
    (cases_eq (f x) 0)

cond-part : (b : Bool) (n : ℕ) → cond b n 0 ≢ 0 → (b ≡ true) × (n ≢ 0)
cond-part true n h = (refl, h)
cond-part false n h = absurd (h refl)

same-swapped : (a b : Bool) → same a b ≡ same b a
same-swapped true true = refl
same-swapped true false = refl
same-swapped false true = refl
same-swapped false false = refl

-- a cell that adds to the count of an id is live, and one of its slots names the id with the bit
aims_in-slot : (id : ℕ) (bit : Bool) (c : Cell) → aims_in id bit c ≢ 0 → (c.live ≡ true) × (slot : ℕ) × (aims id bit (pointer_in c slot) ≡ true)
aims_in-slot id bit c n =
    let some = cond-part c.live (count_by (aims id bit) c.pointers) n in
    let at = sum-part (λ p. cond (aims id bit p) 1 0) c.pointers null some.1 in
    (some.0, at.0, (cond-part (aims id bit (pointer_in c at.0)) 1 at.2).0)

-- where the count of strong pointers isn't 0, there is one
pub strong-in : (cells : List Cell) → IsExact cells → (id : ℕ) → is_live cells id ≡ true → id ≢ root → (cell_at cells id).strong ≢ 0 → HasStrongIn cells id
strong-in cells e id l r n =
    let bit = (cell_at cells id).bit in
    let counts = (e.counts id l).strong in
    let own : own_strong id ≡ 0 = ap (λ t. cond t 1 0) (ne_eqb id 1 r) in
    let source = sum-part (aims_in id bit) cells (blank_cell false 0) (λ z. n (omega (arith, counts, own, z))) in
    let at = aims_in-slot id bit (cell_at cells source.0) source.2 in
    let p = pointer_at cells source.0 at.1 in
    let parts = and_parts (p.target == id) (same p.bit bit) at.2 in
    let names : p.target ≡ id = eqb-true p.target id parts.0 in (
      source.0,
      at.1,
      record {
        live = at.0;
        target = names;
        not_null = live-there cells id e.none l;
        strong = ap (λ v. same (cell_at cells v).bit p.bit) names ∙ (same-swapped bit p.bit ∙ parts.1);
      },
    )

-- ---- lists

none-in : {X : Type 0} (x : X) → Contains [] x → ⊥
none-in x h = let l = h.1 in omega (arith, l)

only-in : (x y : ℕ) → Contains (x ∷ []) y → x ≡ y
only-in x y (zero, l, e) = e
only-in x y (suc k, l, e) = absurd (omega (arith, l))

named-by : (refs : List Ref) (id : ℕ) → is_named refs id ≡ true → (r : Ref) × Contains refs r
named-by [] id h = absurd (cc)
named-by (r ∷ rs) id h = (r, Contains-here r rs)

-- a value that isn't 0 and stands at an index is in the list
index-in : (xs : List ℕ) (k y : ℕ) → slice_index xs k ≡ y → y ≢ 0 → Contains xs y
index-in xs k y e n =
    ⊎_elim
    (λ l. (k, l, get_or_default xs k y 0 l ∙ e))
    (λ l. absurd (n (sym e ∙ get_or_past xs k 0 l)))
    (cases_lt k (length xs))

-- ---- at rest

module _ (c : Core) (s : IsSound c) (q : IsAtRest c) where
  -- no client names an id, since none is active
  unnamed-id : (id : ℕ) → is_named c.refs id ≡ true → ⊥
  unnamed-id id h =
      let by = named-by c.refs id h in
      let active = s.refs_active by.0 by.1 in
      none-in (by.0.pass, active.0) (subst (λ l. Contains l (by.0.pass, active.0)) q.none_active active.1)

  -- so each object but the root has a strong pointer to it
  strong-counted : (id : ℕ) → is_live c.cells id ≡ true → id ≢ root → (cell_at c.cells id).strong ≢ 0
  strong-counted id l r z =
      ⊎_elim
      (λ m. none-in id (subst (λ l. Contains l id) q.none_queued m))
      (λ o. ⊎_elim (λ m. none-in id (subst (λ l. Contains l id) q.none_open m)) (λ m. unnamed-id id m) o)
      (s.zero id l r z)

  led-at_rest : (id : ℕ) → is_live c.cells id ≡ true → IsLed c.cells id
  led-at_rest = led c.cells s.consistent.acyclic (λ id l r. strong-in c.cells s.consistent.exact id l r (strong-counted id l r))

  -- the cells have the committed graph
  current-committed : current c.moment ≡ c.moment.state.committed
  current-committed = ap (λ active. fold (λ g e. applied c.moment.state.slots g (left_writes c.moment e)) c.moment.state.committed active) q.none_active

  kept-contents : {id : ℕ} → IsKept c id → object_at c.moment.state.committed id ≡ Some (object_of id (cell_at c.cells id))
  kept-contents {id} k = ap (λ g. object_at g id) (sym current-committed) ∙ (s.kept id k).contents

  -- where a strong pointer leads from what is kept is kept
  strong-kept : (u slot to : ℕ) → IsKept c u → IsStrongAt c.cells u slot to → IsKept c to
  strong-kept u slot to k t =
      let is : slot_in c.moment.state.committed u slot ≡ to = ap (λ g. slot_in g u slot) (sym current-committed) ∙ (current-slot c u slot (s.kept u k) ∙ t.target) in
      subst (λ y. IsKept c y) is (step u slot k (λ z. t.not_null (sym is ∙ z)))

  path-kept : {id : ℕ} → StrongPath c.cells root id → IsKept c id
  path-kept (one slot to t) = strong-kept root slot to (start root (as_root refl)) t
  path-kept (more via slot to p t) = strong-kept via slot to (path-kept p) t

  live-kept : (id : ℕ) → is_live c.cells id ≡ true → IsKept c id
  live-kept id l = ⊎_elim (λ e. start id (as_root e)) (λ p. path-kept p) (led-at_rest id l)

  -- what is kept is reached from the root
  kept-reached : {id : ℕ} → IsKept c id → Reachable c.moment.state.committed (root ∷ []) id
  kept-reached (start id (as_root e)) =
      reached_start id (object_of id (cell_at c.cells id)) (subst (λ y. Contains (root ∷ []) y) (sym e) (Contains-here root [])) (kept-contents (start id (as_root e)))
  kept-reached (start id (by_pass e a h)) = absurd (none-in e (subst (λ l. Contains l e) q.none_active a))
  kept-reached (step id slot k n) =
      let y = slot_in c.moment.state.committed id slot in
      let o = object_of id (cell_at c.cells id) in
      let is : y ≡ slice_index o.slots slot = ap (λ x. option_map_or (λ (x : Object). slice_index x.slots slot) x 0) (kept-contents k) in
      reached_step id y o (object_of y (cell_at c.cells y)) (kept-reached k) (kept-contents k) (index-in o.slots slot y (sym is) n) n (kept-contents (step id slot k n))

  -- what is reached from the root is kept
  reached-kept : (id : ℕ) → Reachable c.moment.state.committed (root ∷ []) id → IsKept c id
  reached-kept id r = Reachable-least c.moment.state.committed (root ∷ []) (λ x. IsKept c x) (record {
    starts = λ x o m e. start x (as_root (sym (only-in root x m)));
    steps = λ x y o p k e m n f.
        let is : slot_in c.moment.state.committed x m.0 ≡ y = ap (λ o. option_map_or (λ (o : Object). slice_index o.slots m.0) o 0) e ∙ (get_or_default o.slots m.0 0 y m.1 ∙ m.2) in
        subst (λ z. IsKept c z) is (step x m.0 k (λ z. n (sym is ∙ z)));
  }) r

pub rest_led : RestLedLaw
rest_led = led-at_rest

pub at_rest : RestLaw
at_rest c s q id = (λ h. kept-reached c s q (live-kept c s q id (sym (s.stored id) ∙ h)), λ r. s.stored id ∙ (s.kept id (reached-kept c s q id r)).live)
