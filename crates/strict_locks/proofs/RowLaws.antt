-- What keeps the rows of locks in step, and what is found in them.
use Rattle.std.proofs.Common.{◌≡◌, ◌≢◌, ℕ, zero, suc, ◌+◌, ◌-◌, ◌<◌, ◌≤◌, ◌^◌, true, false, List, [], ◌∷◌, ◌++◌, length, get_or, slice_set, eqb, cond, nat_eq, Some, None, refl, sym, ap, ◌∙◌, subst, arith, ◌⊎◌, inl, inr, ⊎_elim, below_more, ne_eqb}
use Rattle.std.specs.Prelude.{slice_get}
use Rattle.std.specs.List.{list_any, IsDistinct, zip, swap_remove}
use Rattle.std.specs.Map.{lookup, set_value}
use Rattle.std.proofs.lemmas.Bool.{cases_eq, cases_lt, eqb-true}
use Rattle.std.proofs.lemmas.Bool.Decides.{nat_tests}
use Rattle.std.proofs.lemmas.List.{get_or_default, get_or_append_left, get_or_push, length_push, length-set, length-take-le, get_or-set_same, get_or-set_other, get_or-take}
use Rattle.std.proofs.lemmas.Map.Keys.{IsDistinct-from_apart}
use Rattle.std.proofs.lemmas.Map.Steps.{length-le_from_distinct_below}
use Rattle.std.proofs.lemmas.Map.Views.{Contains-from_any}
use Rattle.std.proofs.lemmas.Option.{slice_get-get_or, slice_get_read}
use Rattle.strict_locks.specs.Locks.{Holders, Table, no_holders}
use Rattle.strict_locks.specs.Rows.{ArePlaced, AreRows, Grows, Puts}

-- the id stands at no place
abbrev pub IsMissing : List ℕ → ℕ → Type 0
IsMissing ids id = (q : ℕ) → q < length ids → get_or ids q 0 ≢ id

-- ---- one entry

equal : (k n : ℕ) → n ≡ k → nat_eq k n ≡ true
equal k n e = grind (arith, nat_tests, e)

apart : (k n : ℕ) → n ≢ k → nat_eq k n ≡ false
apart k n e = grind (arith, nat_tests, e)

lookup_here : (id : ℕ) (e : ℕ × Holders) (es : Table) → e.0 ≡ id → lookup (nat_eq id) (e ∷ es) ≡ Some e.1
lookup_here id e es h = ap (λ b. cond b (Some e.1) (lookup (nat_eq id) es)) (equal id e.0 h)

lookup_next : (id : ℕ) (e : ℕ × Holders) (es : Table) → e.0 ≢ id → lookup (nat_eq id) (e ∷ es) ≡ lookup (nat_eq id) es
lookup_next id e es h = ap (λ b. cond b (Some e.1) (lookup (nat_eq id) es)) (apart id e.0 h)

set_here : (id : ℕ) (e : ℕ × Holders) (es : Table) (h : Holders) → e.0 ≡ id → set_value (nat_eq id) (e ∷ es) h ≡ (e.0, h) ∷ es
set_here id e es h here = ap (λ b. cond b ((e.0, h) ∷ es) (e ∷ set_value (nat_eq id) es h)) (equal id e.0 here)

set_next : (id : ℕ) (e : ℕ × Holders) (es : Table) (h : Holders) → e.0 ≢ id → set_value (nat_eq id) (e ∷ es) h ≡ e ∷ set_value (nat_eq id) es h
set_next id e es h other = ap (λ b. cond b ((e.0, h) ∷ es) (e ∷ set_value (nat_eq id) es h)) (apart id e.0 other)

-- ---- what is found

-- the lock beside the first place of the id is found
lookup_first : (ids : List ℕ) (locks : List Holders) (place id : ℕ) → place < length ids → get_or ids place 0 ≡ id → ((q : ℕ) → q < place → get_or ids q 0 ≢ id) → lookup (nat_eq id) (zip ids locks) ≡ slice_get locks place
lookup_first [] locks place id l e first = absurd (omega (arith, l))
lookup_first (i ∷ ids) [] place id l e first = refl
lookup_first (i ∷ ids) (h ∷ locks) zero id l e first = lookup_here id (i, h) (zip ids locks) e
lookup_first (i ∷ ids) (h ∷ locks) (suc place) id l e first =
    lookup_next id (i, h) (zip ids locks) (first 0 (omega arith)) ∙ lookup_first ids locks place id (omega (arith, l)) e (λ q lq. first (suc q) (omega (arith, lq)))

-- an id that stands nowhere is not found
pub lookup-missing : (ids : List ℕ) (locks : List Holders) (id : ℕ) → IsMissing ids id → lookup (nat_eq id) (zip ids locks) ≡ None
lookup-missing [] locks id missing = refl
lookup-missing (i ∷ ids) [] id missing = refl
lookup-missing (i ∷ ids) (h ∷ locks) id missing =
    lookup_next id (i, h) (zip ids locks) (missing 0 (omega arith)) ∙ lookup-missing ids locks id (λ q l. missing (suc q) (omega (arith, l)))

-- the lock beside the first place of the id is changed
set_first : (ids : List ℕ) (locks : List Holders) (place id : ℕ) (h : Holders) → place < length ids → get_or ids place 0 ≡ id → ((q : ℕ) → q < place → get_or ids q 0 ≢ id) → zip ids (slice_set locks place h) ≡ set_value (nat_eq id) (zip ids locks) h
set_first [] locks place id h l e first = absurd (omega (arith, l))
set_first (i ∷ ids) [] place id h l e first = refl
set_first (i ∷ ids) (g ∷ locks) zero id h l e first = sym (set_here id (i, g) (zip ids locks) h e)
set_first (i ∷ ids) (g ∷ locks) (suc place) id h l e first =
    ap (λ (es : Table). (i, g) ∷ es) (set_first ids locks place id h (omega (arith, l)) e (λ q lq. first (suc q) (omega (arith, lq))))
    ∙ sym (set_next id (i, g) (zip ids locks) h (first 0 (omega arith)))

push_none : (id x : ℕ) (h : Holders) → lookup (nat_eq x) ((id, h) ∷ []) ≡ cond (nat_eq id x) (Some h) None
push_none id x h = grind (arith, nat_tests)

push_next : (id x i : ℕ) (g h : Holders) (es fs : Table) → i ≢ id → lookup (nat_eq x) es ≡ cond (nat_eq id x) (Some h) (lookup (nat_eq x) fs) → lookup (nat_eq x) ((i, g) ∷ es) ≡ cond (nat_eq id x) (Some h) (lookup (nat_eq x) ((i, g) ∷ fs))
push_next id x i g h es fs other rest =
    ⊎_elim
    (λ (here : i ≡ x). lookup_here x (i, g) es here ∙ sym (ap (λ b. cond b (Some h) (lookup (nat_eq x) ((i, g) ∷ fs))) (apart id x (λ e. other (here ∙ e))) ∙ lookup_here x (i, g) fs here))
    (λ (away : i ≢ x). lookup_next x (i, g) es away ∙ rest ∙ ap (λ o. cond (nat_eq id x) (Some h) o) (sym (lookup_next x (i, g) fs away)))
    (cases_eq i x)

-- one lock more at the end, for an id that stood nowhere
lookup_push : (ids : List ℕ) (locks : List Holders) (id x : ℕ) (h : Holders) → length locks ≡ length ids → IsMissing ids id → lookup (nat_eq x) (zip (ids ++ id ∷ []) (locks ++ h ∷ [])) ≡ cond (nat_eq id x) (Some h) (lookup (nat_eq x) (zip ids locks))
lookup_push [] [] id x h even missing = push_none id x h
lookup_push [] (g ∷ locks) id x h even missing = absurd (omega (arith, even))
lookup_push (i ∷ ids) [] id x h even missing = absurd (omega (arith, even))
lookup_push (i ∷ ids) (g ∷ locks) id x h even missing =
    push_next id x i g h (zip (ids ++ id ∷ []) (locks ++ h ∷ [])) (zip ids locks) (missing 0 (omega arith))
    (lookup_push ids locks id x h (omega (arith, even)) (λ q l. missing (suc q) (omega (arith, l))))

-- ---- ids and their places

-- no id stands at two places
pub once : (ids places : List ℕ) (i j : ℕ) → ArePlaced ids places → i < length ids → j < length ids → get_or ids i 0 ≡ get_or ids j 0 → i ≡ j
once ids places i j p li lj e = sym (p.placed i li) ∙ ap (λ x. get_or places x 0) e ∙ p.placed j lj

first_at : (ids places : List ℕ) (place id : ℕ) → ArePlaced ids places → place < length ids → get_or ids place 0 ≡ id → (q : ℕ) → q < place → get_or ids q 0 ≢ id
first_at ids places place id p l e q less same = let o = once ids places q place p (omega (arith, less, l)) l (same ∙ sym e) in omega (arith, o, less)

-- the lock beside the id is found
lookup-at : (ids : List ℕ) (locks : List Holders) (places : List ℕ) (place id : ℕ) → ArePlaced ids places → place < length ids → get_or ids place 0 ≡ id → lookup (nat_eq id) (zip ids locks) ≡ slice_get locks place
lookup-at ids locks places place id p l e = lookup_first ids locks place id l e (first_at ids places place id p l e)

-- the lock beside the id is changed
pub zip-set : (ids : List ℕ) (locks : List Holders) (places : List ℕ) (place id : ℕ) (h : Holders) → ArePlaced ids places → place < length ids → get_or ids place 0 ≡ id → zip ids (slice_set locks place h) ≡ set_value (nat_eq id) (zip ids locks) h
zip-set ids locks places place id h p l e = set_first ids locks place id h l e (first_at ids places place id p l e)

-- the lock that was read beside the id is found
pub found-in : (ids : List ℕ) (locks : List Holders) (places : List ℕ) (place id : ℕ) (h : Holders) → AreRows ids locks places → place < length ids → get_or ids place 0 ≡ id → h ≡ get_or locks place h → lookup (nat_eq id) (zip ids locks) ≡ Some h
found-in ids locks places place id h r l e read = lookup-at ids locks places place id r.placed l e ∙ slice_get_read locks (length locks) place h refl (omega (arith, l, r.even)) read

-- an id that is not found stands nowhere
pub missing-from_lookup : (ids : List ℕ) (locks : List Holders) (places : List ℕ) (id : ℕ) → AreRows ids locks places → lookup (nat_eq id) (zip ids locks) ≡ None → IsMissing ids id
missing-from_lookup ids locks places id r none q l e =
    let s = sym none ∙ lookup-at ids locks places q id r.placed l e ∙ slice_get-get_or locks q no_holders (omega (arith, l, r.even)) in
    cc

missing_more : (ids : List ℕ) (i id : ℕ) → i ≢ id → IsMissing ids id → IsMissing (i ∷ ids) id
missing_more ids i id other missing zero l = other
missing_more ids i id other missing (suc q) l = missing q (omega (arith, l))

-- an id stands at some place, or nowhere
pub stands : (ids : List ℕ) (id : ℕ) → ((p : ℕ) × (p < length ids) × (get_or ids p 0 ≡ id)) ⊎ IsMissing ids id
stands [] id = inr (λ q l. absurd (omega (arith, l)))
stands (i ∷ ids) id =
    ⊎_elim
    (λ (here : i ≡ id). inl (0, omega arith, here))
    (λ (other : i ≢ id).
    ⊎_elim
    (λ (found : (p : ℕ) × (p < length ids) × (get_or ids p 0 ≡ id)). inl (suc found.0, let l = found.1 in omega (arith, l), found.2))
    (λ (missing : IsMissing ids id). inr (missing_more ids i id other missing))
    (stands ids id))
    (cases_eq i id)

-- ---- there are no more ids than places

pub distinct : (ids places : List ℕ) → ArePlaced ids places → IsDistinct eqb ids
distinct ids places p = IsDistinct-from_apart eqb ids (λ i j d less l. ne_eqb (get_or ids i d) (get_or ids j d) (λ e.
    let same = once ids places i j p (omega (arith, less, l)) l (get_or_default ids i 0 d (omega (arith, less, l)) ∙ e ∙ get_or_default ids j d 0 l) in
    omega (arith, same, less)))

each_below : (ids places : List ℕ) → ArePlaced ids places → (x : ℕ) → list_any (eqb x) ids ≡ true → x < length places
each_below ids places p x h =
    let m = Contains-from_any eqb-true x ids h in
    let b = p.within m.0 m.1 in
    let e : get_or ids m.0 0 ≡ x = get_or_default ids m.0 0 x m.1 ∙ m.2 in
    omega (arith, b, e)

pub placed-most : (ids places : List ℕ) → ArePlaced ids places → length ids ≤ length places
placed-most ids places p = length-le_from_distinct_below ids (length places) (distinct ids places p) (each_below ids places p)

-- ---- rows that change

-- there are more places
pub AreRows-grow : (ids : List ℕ) (locks : List Holders) (old new : List ℕ) → AreRows ids locks old → Grows old new → AreRows ids locks new
AreRows-grow ids locks old new r g = record {
  even = r.even;
  placed = record {
    within = λ q l. let w = r.placed.within q l in omega (arith, w, g.more);
    placed = λ q l. g.kept (get_or ids q 0) (r.placed.within q l) ∙ r.placed.placed q l;
  };
  few = g.few;
}

-- what holds at each place holds after a push where it holds at the end
at_push : (P : ℕ → ℕ → Type 0) (xs : List ℕ) (x : ℕ) → ((place : ℕ) → place < length xs → P place (get_or xs place 0)) → P (length xs) x → (place : ℕ) → place < length (xs ++ x ∷ []) → P place (get_or (xs ++ x ∷ []) place 0)
at_push P xs x all here place l =
    below_more (λ k. P k (get_or (xs ++ x ∷ []) k 0)) (length xs)
    (λ k lk. subst (P k) (sym (get_or_append_left xs (x ∷ []) 0 k lk)) (all k lk))
    (subst (P (length xs)) (sym (get_or_push xs x 0 (length xs) refl)) here)
    place (let n = length_push xs x in omega (arith, l, n))

pub placed_push : (ids places : List ℕ) (id : ℕ) → ArePlaced ids places → id < length places → IsMissing ids id → ArePlaced (ids ++ id ∷ []) (slice_set places id (length ids))
placed_push ids places id p inside missing = record {
  within = at_push (λ place x. x < length (slice_set places id (length ids))) ids id
      (λ q l. let w = p.within q l in let n = length-set places id (length ids) in omega (arith, w, n))
      (let n = length-set places id (length ids) in omega (arith, inside, n));
  placed = at_push (λ place x. get_or (slice_set places id (length ids)) x 0 ≡ place) ids id
      (λ q l. get_or-set_other places id (get_or ids q 0) (length ids) 0 (missing q l) ∙ p.placed q l)
      (get_or-set_same places id (length ids) 0 inside);
}

-- one lock more at the end, for an id that has a place and stood nowhere
pub AreRows-push : (ids : List ℕ) (locks : List Holders) (places : List ℕ) (id n : ℕ) (h : Holders) → n ≡ length ids → AreRows ids locks places → id < length places → IsMissing ids id → AreRows (ids ++ id ∷ []) (locks ++ h ∷ []) (slice_set places id n)
AreRows-push ids locks places id n h last r inside missing = subst (λ m. AreRows (ids ++ id ∷ []) (locks ++ h ∷ []) (slice_set places id m)) (sym last) (record {
  even = length_push locks h ∙ ap (λ m. m + 1) r.even ∙ sym (length_push ids id);
  placed = placed_push ids places id r.placed inside missing;
  few = let m = length-set places id (length ids) in omega (arith, m, r.few);
})

-- there is a place's number for one lock more
pub room-push : (ids : List ℕ) (locks : List Holders) (places : List ℕ) (id : ℕ) → AreRows ids locks places → id < length places → IsMissing ids id → length ids < 2 ^ 32
room-push ids locks places id r inside missing =
    let most = placed-most (ids ++ id ∷ []) (slice_set places id (length ids)) (placed_push ids places id r.placed inside missing) in
    let m = length-set places id (length ids) in
    let n = length_push ids id in
    omega (arith, most, m, n, r.few)

pub Puts-push : (ids : List ℕ) (locks : List Holders) (places : List ℕ) (id : ℕ) (h : Holders) → AreRows ids locks places → IsMissing ids id → Puts (zip ids locks) (zip (ids ++ id ∷ []) (locks ++ h ∷ [])) id h
Puts-push ids locks places id h r missing x = lookup_push ids locks id x h r.even missing

-- ---- a lock that is taken away

pub removed_length : {X : Type 0} (xs : List X) (place : ℕ) (d : X) → place < length xs → length (swap_remove xs place d) ≡ length xs - 1
removed_length xs place d l =
    let last = get_or xs (length xs - 1) d in
    let s = length-set xs place last in
    length-take-le (length xs - 1) (slice_set xs place last) (omega (arith, s))

pub removed_other : {X : Type 0} (xs : List X) (place q : ℕ) (d e : X) → q < length xs - 1 → q ≢ place → get_or (swap_remove xs place d) q e ≡ get_or xs q e
removed_other xs place q d e l other =
    let last = get_or xs (length xs - 1) d in
    get_or-take (length xs - 1) (slice_set xs place last) q e l ∙ get_or-set_other xs place q last e other

pub removed_same : {X : Type 0} (xs : List X) (place : ℕ) (d e : X) → place < length xs - 1 → get_or (swap_remove xs place d) place e ≡ get_or xs (length xs - 1) e
removed_same xs place d e l =
    let last = get_or xs (length xs - 1) d in
    get_or-take (length xs - 1) (slice_set xs place last) place e l ∙ get_or-set_same xs place last e (omega (arith, l)) ∙ get_or_default xs (length xs - 1) d e (omega (arith, l))

-- what holds at each place that stays and where the last one moves to
pub at_removed : (P : ℕ → ℕ → Type 0) (xs : List ℕ) (place d : ℕ) → place < length xs → ((q : ℕ) → q < length xs - 1 → q ≢ place → P q (get_or xs q 0)) → (place < length xs - 1 → P place (get_or xs (length xs - 1) 0)) → (q : ℕ) → q < length (swap_remove xs place d) → P q (get_or (swap_remove xs place d) q 0)
at_removed P xs place d inside others moved q l =
    let n = removed_length xs place d inside in
    let below : q < length xs - 1 = omega (arith, l, n) in
    ⊎_elim
    (λ (here : q ≡ place). subst (λ k. P k (get_or (swap_remove xs place d) k 0)) (sym here)
    (let lp : place < length xs - 1 = omega (arith, here, below) in subst (P place) (sym (removed_same xs place d 0 lp)) (moved lp)))
    (λ (other : q ≢ place). subst (P q) (sym (removed_other xs place q d 0 below other)) (others q below other))
    (cases_eq q place)

-- the places of the ids where the last one moved into the place of the one that is taken away
pub placed_moved : (ids places : List ℕ) (place d : ℕ) → ArePlaced ids places → place < length ids - 1 → ArePlaced (swap_remove ids place d) (slice_set places (get_or ids (length ids - 1) 0) place)
placed_moved ids places place d p l =
    let last = get_or ids (length ids - 1) 0 in
    let inside : place < length ids = omega (arith, l) in
    let end : length ids - 1 < length ids = omega (arith, l) in
    let n = length-set places last place in
    record {
      within = at_removed (λ q x. x < length (slice_set places last place)) ids place d inside
          (λ q lq other. let w = p.within q (omega (arith, lq)) in omega (arith, w, n))
          (λ lp. let w = p.within (length ids - 1) end in omega (arith, w, n));
      placed = at_removed (λ q x. get_or (slice_set places last place) x 0 ≡ q) ids place d inside
          (λ q lq other. get_or-set_other places last (get_or ids q 0) place 0 (λ e. let o = once ids places q (length ids - 1) p (omega (arith, lq)) end e in omega (arith, o, lq)) ∙ p.placed q (omega (arith, lq)))
          (λ lp. get_or-set_same places last place 0 (p.within (length ids - 1) end));
    }

-- the places of the ids where the one that is taken away stood last
pub placed_last : (ids places : List ℕ) (place d : ℕ) → ArePlaced ids places → place < length ids → length ids - 1 ≤ place → ArePlaced (swap_remove ids place d) places
placed_last ids places place d p inside beyond = record {
  within = at_removed (λ q x. x < length places) ids place d inside
      (λ q lq other. p.within q (omega (arith, lq)))
      (λ lp. absurd (omega (arith, lp, beyond)));
  placed = at_removed (λ q x. get_or places x 0 ≡ q) ids place d inside
      (λ q lq other. p.placed q (omega (arith, lq)))
      (λ lp. absurd (omega (arith, lp, beyond)));
}

removed_even : (ids : List ℕ) (locks : List Holders) (place d : ℕ) (h : Holders) → length locks ≡ length ids → place < length ids → length (swap_remove locks place h) ≡ length (swap_remove ids place d)
removed_even ids locks place d h even inside =
    removed_length locks place h (omega (arith, even, inside)) ∙ ap (λ m. m - 1) even ∙ sym (removed_length ids place d inside)

pub AreRows-moved : (ids : List ℕ) (locks : List Holders) (places : List ℕ) (place d : ℕ) (h : Holders) → AreRows ids locks places → place < length ids → place < length (swap_remove ids place d) → AreRows (swap_remove ids place d) (swap_remove locks place h) (slice_set places (get_or (swap_remove ids place d) place 0) place)
AreRows-moved ids locks places place d h r inside stays =
    let n = removed_length ids place d inside in
    let l : place < length ids - 1 = omega (arith, stays, n) in
    subst (λ x. AreRows (swap_remove ids place d) (swap_remove locks place h) (slice_set places x place)) (sym (removed_same ids place d 0 l)) (record {
      even = removed_even ids locks place d h r.even inside;
      placed = placed_moved ids places place d r.placed l;
      few = let m = length-set places (get_or ids (length ids - 1) 0) place in omega (arith, m, r.few);
    })

pub AreRows-last : (ids : List ℕ) (locks : List Holders) (places : List ℕ) (place d : ℕ) (h : Holders) → AreRows ids locks places → place < length ids → length (swap_remove ids place d) ≤ place → AreRows (swap_remove ids place d) (swap_remove locks place h) places
AreRows-last ids locks places place d h r inside beyond = record {
  even = removed_even ids locks place d h r.even inside;
  placed = placed_last ids places place d r.placed inside (let n = removed_length ids place d inside in omega (arith, beyond, n));
  few = r.few;
}

-- the id that is taken away stands nowhere
pub removed_missing : (ids places : List ℕ) (place id d : ℕ) → ArePlaced ids places → place < length ids → get_or ids place 0 ≡ id → IsMissing (swap_remove ids place d) id
removed_missing ids places place id d p inside e = at_removed (λ q x. x ≢ id) ids place d inside
    (λ q lq other same. other (once ids places q place p (omega (arith, lq)) inside (same ∙ sym e)))
    (λ lp same. let o = once ids places (length ids - 1) place p (omega (arith, inside)) inside (same ∙ sym e) in omega (arith, o, lp))

pub removed-gone : (ids : List ℕ) (locks : List Holders) (places : List ℕ) (place id d : ℕ) → ArePlaced ids places → place < length ids → get_or ids place 0 ≡ id → lookup (nat_eq id) (zip (swap_remove ids place d) locks) ≡ None
removed-gone ids locks places place id d p inside e = lookup-missing (swap_remove ids place d) locks id (removed_missing ids places place id d p inside e)

get_same : (xs ys : List Holders) (i j : ℕ) → i < length xs → j < length ys → get_or xs i no_holders ≡ get_or ys j no_holders → slice_get xs i ≡ slice_get ys j
get_same xs ys i j li lj e = slice_get-get_or xs i no_holders li ∙ ap (λ h. Some h) e ∙ sym (slice_get-get_or ys j no_holders lj)

-- where an id stood, and where it stands now, there is the same lock
found_kept : (ids : List ℕ) (locks : List Holders) (places more : List ℕ) (place d : ℕ) (h : Holders) (x p : ℕ) → AreRows ids locks places → AreRows (swap_remove ids place d) (swap_remove locks place h) more → place < length ids → p < length ids → get_or ids p 0 ≡ x → p ≢ place → lookup (nat_eq x) (zip (swap_remove ids place d) (swap_remove locks place h)) ≡ lookup (nat_eq x) (zip ids locks)
found_kept ids locks places more place d h x p r new inside lp e other =
    let n = removed_length ids place d inside in
    let m = removed_length locks place h (omega (arith, r.even, inside)) in
    let was = lookup-at ids locks places p x r.placed lp e in
    ⊎_elim
    (λ (stays : p < length ids - 1).
    lookup-at (swap_remove ids place d) (swap_remove locks place h) more p x new.placed (omega (arith, stays, n)) (removed_other ids place p d 0 stays other ∙ e)
    ∙ get_same (swap_remove locks place h) locks p p (omega (arith, stays, m, r.even)) (omega (arith, lp, r.even)) (removed_other locks place p h no_holders (omega (arith, stays, r.even)) other)
    ∙ sym was)
    (λ (last : length ids - 1 ≤ p).
    let is : p ≡ length ids - 1 = omega (arith, last, lp) in
    let l : place < length ids - 1 = omega (arith, is, other, inside) in
    lookup-at (swap_remove ids place d) (swap_remove locks place h) more place x new.placed (omega (arith, l, n)) (removed_same ids place d 0 l ∙ ap (λ k. get_or ids k 0) (sym is) ∙ e)
    ∙ get_same (swap_remove locks place h) locks place p (omega (arith, l, m, r.even)) (omega (arith, lp, r.even))
    (removed_same locks place h no_holders (omega (arith, l, r.even)) ∙ ap (λ k. get_or locks k no_holders) (omega (arith, is, r.even)))
    ∙ sym was)
    (cases_lt p (length ids - 1))

removed_rows : (ids : List ℕ) (locks : List Holders) (places : List ℕ) (place d : ℕ) (h : Holders) → AreRows ids locks places → place < length ids → (more : List ℕ) × AreRows (swap_remove ids place d) (swap_remove locks place h) more
removed_rows ids locks places place d h r inside =
    ⊎_elim
    (λ (stays : place < length (swap_remove ids place d)). (slice_set places (get_or (swap_remove ids place d) place 0) place, AreRows-moved ids locks places place d h r inside stays))
    (λ (beyond : length (swap_remove ids place d) ≤ place). (places, AreRows-last ids locks places place d h r inside beyond))
    (cases_lt place (length (swap_remove ids place d)))

pub removed-others : (ids : List ℕ) (locks : List Holders) (places : List ℕ) (place id d : ℕ) (h : Holders) → AreRows ids locks places → place < length ids → get_or ids place 0 ≡ id → (x : ℕ) → x ≢ id → lookup (nat_eq x) (zip (swap_remove ids place d) (swap_remove locks place h)) ≡ lookup (nat_eq x) (zip ids locks)
removed-others ids locks places place id d h r inside e x other =
    let new = removed_rows ids locks places place d h r inside in
    ⊎_elim
    (λ (found : (p : ℕ) × (p < length ids) × (get_or ids p 0 ≡ x)).
    found_kept ids locks places new.0 place d h x found.0 r new.1 inside found.1 found.2 (λ same. other (sym found.2 ∙ ap (λ k. get_or ids k 0) same ∙ e)))
    (λ (missing : IsMissing ids x).
    lookup-missing (swap_remove ids place d) (swap_remove locks place h) x
    (at_removed (λ q y. y ≢ x) ids place d inside (λ q lq away. missing q (omega (arith, lq))) (λ lp. missing (length ids - 1) (omega (arith, inside))))
    ∙ sym (lookup-missing ids locks x missing))
    (stands ids x)

-- ---- places that are made

-- the places are kept, and there are so many
pub record HaveGrown (old new : List ℕ) (count : ℕ) : Type 0 where
  pub grown : Grows old new
  pub made : length new ≡ count

pub HaveGrown-push : (old new more : List ℕ) (count id : ℕ) → more ≡ new ++ 0 ∷ [] → count < id + 1 → id < 2 ^ 32 → HaveGrown old new count → HaveGrown old more (count + 1)
HaveGrown-push old new more count id pushed next small made = subst (λ xs. HaveGrown old xs (count + 1)) (sym pushed) (
    let n = length_push new 0 in record {
      grown = record {
        kept = λ i l. get_or_append_left new (0 ∷ []) 0 i (omega (arith, l, made.grown.more)) ∙ made.grown.kept i l;
        more = omega (arith, n, made.grown.more);
        few = omega (arith, n, made.made, next, small);
      };
      made = omega (arith, n, made.made);
    })

-- ---- what is lent

-- what becomes of the lender is the same where it is for each value that may be left
pub same-lent : {N R : Type 0} (n : N) (f g : Holders → Table) → ((h : Holders) → f h ≡ g h) → ◌≡◌ {A = (N × (Holders → Table)) ⊎ R} (inl (n, f)) (inl (n, g))
same-lent n f g same = λ i. inl (n, λ h. same h i)
