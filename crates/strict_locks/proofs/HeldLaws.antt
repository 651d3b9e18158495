-- What keeps a client's list and its places in step, and what the list names.
use Rattle.std.proofs.Common.{◌≡◌, ◌≢◌, ℕ, zero, suc, ◌-◌, ◌<◌, ◌≤◌, ◌^◌, true, false, Bool, List, [], ◌∷◌, ◌++◌, length, get_or, slice_set, refl, sym, ap, ◌∙◌, subst, arith, ◌⊎◌, ⊎_elim, eq-eqb, ne_eqb}
use Rattle.std.specs.Prelude.{◌==◌, ◌&&◌, ◌||◌, not}
use Rattle.std.specs.List.{list_any, IsDistinct, swap_remove}
use Rattle.std.specs.Ordering.{nat_cmp, eq_by_cmp}
use Rattle.std.proofs.lemmas.Map.Keys.{IsDistinct-from_apart}
use Rattle.std.specs.BTreeMap.{is_at}
use Rattle.std.proofs.lemmas.Bool.{cases_eq, cases_lt, or_right}
use Rattle.std.proofs.lemmas.Bool.Decides.{nat_tests}
use Rattle.std.proofs.lemmas.List.{get_or_default, length_push, length-set}
use Rattle.strict_locks.specs.Rows.{ArePlaced, AreNoted, Grows}
use Rattle.strict_locks.proofs.RowLaws.{IsMissing, once, stands, placed-most, placed_push, placed_moved, placed_last, removed_missing, at_removed, removed_other, removed_same, removed_length}

-- ---- what the list names

at_here : (x i : ℕ) → i ≡ x → is_at (nat_cmp x) i ≡ true
at_here x i e = grind (arith, nat_tests)

at_apart : (x i : ℕ) → i ≢ x → is_at (nat_cmp x) i ≡ false
at_apart x i n = grind (arith, nat_tests)

pub named-missing : (ids : List ℕ) (x : ℕ) → IsMissing ids x → list_any (is_at (nat_cmp x)) ids ≡ false
named-missing [] x m = refl
named-missing (i ∷ ids) x m = ap (λ b. b || list_any (is_at (nat_cmp x)) ids) (at_apart x i (m 0 (omega arith))) ∙ named-missing ids x (λ q l. m (suc q) (omega (arith, l)))

pub named-stands : (ids : List ℕ) (x p : ℕ) → p < length ids → get_or ids p 0 ≡ x → list_any (is_at (nat_cmp x)) ids ≡ true
named-stands [] x p l e = absurd (omega (arith, l))
named-stands (i ∷ ids) x zero l e = ap (λ b. b || list_any (is_at (nat_cmp x)) ids) (at_here x i e)
named-stands (i ∷ ids) x (suc p) l e = or_right (is_at (nat_cmp x) i) (list_any (is_at (nat_cmp x)) ids) (named-stands ids x p (omega (arith, l)) e)

pub unnamed-missing : (ids : List ℕ) (x : ℕ) → list_any (is_at (nat_cmp x)) ids ≡ false → IsMissing ids x
unnamed-missing ids x f q l e = let t = named-stands ids x q l e in let no : true ≡ false = sym t ∙ f in absurd (cc)

-- ---- an id more

pub AreNoted-none : AreNoted [] []
AreNoted-none = record { placed = record { within = λ q l. absurd (omega (arith, l)); placed = λ q l. absurd (omega (arith, l)) }; few = omega arith }

pub AreNoted-grow : (ids old new : List ℕ) → AreNoted ids old → Grows old new → AreNoted ids new
AreNoted-grow ids old new r g = record {
  placed = record {
    within = λ q l. let w = r.placed.within q l in omega (arith, w, g.more);
    placed = λ q l. g.kept (get_or ids q 0) (r.placed.within q l) ∙ r.placed.placed q l;
  };
  few = g.few;
}

pub AreNoted-push : (ids places : List ℕ) (id n : ℕ) → n ≡ length ids → AreNoted ids places → id < length places → list_any (is_at (nat_cmp id)) ids ≡ false → AreNoted (ids ++ id ∷ []) (slice_set places id n)
AreNoted-push ids places id n last r inside missing = subst (λ m. AreNoted (ids ++ id ∷ []) (slice_set places id m)) (sym last) (record {
  placed = placed_push ids places id r.placed inside (unnamed-missing ids id missing);
  few = let m = length-set places id (length ids) in omega (arith, m, r.few);
})

-- there is a place's number for one id more
pub noted-room : (ids places : List ℕ) (id : ℕ) → AreNoted ids places → id < length places → list_any (is_at (nat_cmp id)) ids ≡ false → length ids < 2 ^ 32
noted-room ids places id r inside missing =
    let most = placed-most (ids ++ id ∷ []) (slice_set places id (length ids)) (placed_push ids places id r.placed inside (unnamed-missing ids id missing)) in
    let m = length-set places id (length ids) in
    let n = length_push ids id in
    omega (arith, most, m, n, r.few)

pub distinct-none : IsDistinct (eq_by_cmp nat_cmp) []
unfolding IsDistinct
distinct-none = tt

-- no id is named twice
pub noted-distinct : (ids places : List ℕ) → AreNoted ids places → IsDistinct (eq_by_cmp nat_cmp) ids
noted-distinct ids places r = IsDistinct-from_apart (eq_by_cmp nat_cmp) ids (λ i j d less l. apart (get_or ids i d) (get_or ids j d) (λ e.
    let same = once ids places i j r.placed (omega (arith, less, l)) l (get_or_default ids i 0 d (omega (arith, less, l)) ∙ e ∙ get_or_default ids j d 0 l) in
    omega (arith, same, less)))
  where
    apart : (a b : ℕ) → a ≢ b → eq_by_cmp nat_cmp a b ≡ false
    apart a b n = grind (arith, nat_tests)

-- ---- an id less

pub AreNoted-moved : (ids places : List ℕ) (place d : ℕ) → AreNoted ids places → place < length ids → place < length (swap_remove ids place d) → AreNoted (swap_remove ids place d) (slice_set places (get_or (swap_remove ids place d) place 0) place)
AreNoted-moved ids places place d r inside stays =
    let n = removed_length ids place d inside in
    let l : place < length ids - 1 = omega (arith, stays, n) in
    subst (λ x. AreNoted (swap_remove ids place d) (slice_set places x place)) (sym (removed_same ids place d 0 l)) (record {
      placed = placed_moved ids places place d r.placed l;
      few = let m = length-set places (get_or ids (length ids - 1) 0) place in omega (arith, m, r.few);
    })

pub AreNoted-last : (ids places : List ℕ) (place d : ℕ) → AreNoted ids places → place < length ids → length (swap_remove ids place d) ≤ place → AreNoted (swap_remove ids place d) places
AreNoted-last ids places place d r inside beyond = record {
  placed = placed_last ids places place d r.placed inside (let n = removed_length ids place d inside in omega (arith, beyond, n));
  few = r.few;
}

pub named-removed : (ids places : List ℕ) (place id d : ℕ) → ArePlaced ids places → place < length ids → get_or ids place 0 ≡ id → (x : ℕ) → list_any (is_at (nat_cmp x)) (swap_remove ids place d) ≡ (not (x == id) && list_any (is_at (nat_cmp x)) ids)
named-removed ids places place id d p inside e x =
    ⊎_elim
    (λ (here : x ≡ id).
    named-missing (swap_remove ids place d) x (subst (IsMissing (swap_remove ids place d)) (sym here) (removed_missing ids places place id d p inside e))
    ∙ sym (ap (λ b. not b && list_any (is_at (nat_cmp x)) ids) (eq-eqb x id here)))
    (λ (away : x ≢ id).
    ⊎_elim
    (λ (found : (q : ℕ) × (q < length ids) × (get_or ids q 0 ≡ x)). still found.0 found.1 found.2 (λ same. away (sym found.2 ∙ (ap (λ k. get_or ids k 0) same ∙ e))) ∙ sym (ap (λ b. not b && list_any (is_at (nat_cmp x)) ids) (ne_eqb x id away) ∙ named-stands ids x found.0 found.1 found.2))
    (λ (missing : IsMissing ids x).
    named-missing (swap_remove ids place d) x (at_removed (λ q y. y ≢ x) ids place d inside (λ q lq other. missing q (omega (arith, lq))) (λ lp. missing (length ids - 1) (omega (arith, inside))))
    ∙ sym (ap (λ b. not b && list_any (is_at (nat_cmp x)) ids) (ne_eqb x id away) ∙ named-missing ids x missing))
    (stands ids x))
    (cases_eq x id)
  where
    still : (q : ℕ) → q < length ids → get_or ids q 0 ≡ x → q ≢ place → list_any (is_at (nat_cmp x)) (swap_remove ids place d) ≡ true
    still q l f other =
        let n = removed_length ids place d inside in
        ⊎_elim
        (λ (stays : q < length ids - 1). named-stands (swap_remove ids place d) x q (omega (arith, stays, n)) (removed_other ids place q d 0 stays other ∙ f))
        (λ (last : length ids - 1 ≤ q).
        let is : q ≡ length ids - 1 = omega (arith, last, l) in
        let s : place < length ids - 1 = omega (arith, is, other, inside) in
        named-stands (swap_remove ids place d) x place (omega (arith, s, n)) (removed_same ids place d 0 s ∙ (ap (λ k. get_or ids k 0) (sym is) ∙ f)))
        (cases_lt q (length ids - 1))

-- an id that stands nowhere stays unnamed
pub named-absent : (ids : List ℕ) (id : ℕ) → IsMissing ids id → (x : ℕ) → list_any (is_at (nat_cmp x)) ids ≡ (not (x == id) && list_any (is_at (nat_cmp x)) ids)
named-absent ids id missing x =
    ⊎_elim
    (λ (here : x ≡ id). named-missing ids x (subst (IsMissing ids) (sym here) missing) ∙ sym (ap (λ b. not b && list_any (is_at (nat_cmp x)) ids) (eq-eqb x id here)))
    (λ (away : x ≢ id). sym (ap (λ b. not b && list_any (is_at (nat_cmp x)) ids) (ne_eqb x id away)))
    (cases_eq x id)
