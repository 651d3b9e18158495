-- What keeps a list of ids and its places in step.
use Rattle.std.proofs.Common.{◌≡◌, ℕ, zero, suc, ◌+◌, ◌<◌, ◌≤◌, true, false, List, [], ◌∷◌, ◌++◌, length, get_or, slice_set, eqb, Option, Some, None, is_some, refl, sym, ap, ◌∙◌, subst, arith, below_more, true≢false, ne_eqb}
use Rattle.std.specs.Prelude.{IfSome}
use Rattle.std.specs.List.{list_any, IsDistinct}
use Rattle.std.proofs.lemmas.Bool.{eqb-true, false_from_ne_true}
use Rattle.std.proofs.lemmas.List.{get_or_default, get_or_append_left, get_or_push, length_push, length-set, get_or-set_same, get_or-set_other}
use Rattle.std.proofs.lemmas.Map.Keys.{IsDistinct-from_apart}
use Rattle.std.proofs.lemmas.Map.Steps.{length-le_from_distinct_below}
use Rattle.std.proofs.lemmas.Map.Views.{Contains-from_any}
use Rattle.store_model.specs.Sound.{IsOnce}
use Rattle.red_walk.specs.Ids.{IsIdList, IsIdListInside}
use Rattle.ref_tables.specs.Queue.{has}
use Rattle.red_walk.proofs.Members.{has-at, Contains-has, apart}

-- ---- there are no more ids than the limit

once-distinct : (xs : List ℕ) → IsOnce xs → IsDistinct eqb xs
once-distinct xs once = IsDistinct-from_apart eqb xs (λ i j d less l. ne_eqb (get_or xs i d) (get_or xs j d) (λ e.
    let same : i ≡ j = once i j (omega (arith, less, l)) l (get_or_default xs i 0 d (omega (arith, less, l)) ∙ e ∙ get_or_default xs j d 0 l) in
    omega (arith, same, less)))

-- with 0 before ids from 1 on
once-zero : (xs : List ℕ) → IsOnce xs → ((place : ℕ) → place < length xs → 1 ≤ get_or xs place 0) → IsOnce (0 ∷ xs)
once-zero xs once above zero zero li lj e = refl
once-zero xs once above zero (suc j) li lj e = let a = above j (omega (arith, lj)) in absurd (omega (arith, a, e))
once-zero xs once above (suc i) zero li lj e = let a = above i (omega (arith, li)) in absurd (omega (arith, a, e))
once-zero xs once above (suc i) (suc j) li lj e = ap suc (once i j (omega (arith, li)) (omega (arith, lj)) e)

each-below : (xs : List ℕ) (n : ℕ) → ((place : ℕ) → place < length xs → get_or xs place 0 < n) → (x : ℕ) → list_any (eqb x) xs ≡ true → x < n
each-below xs n below x h =
    let m = Contains-from_any eqb-true x xs h in
    let b = below m.0 m.1 in
    let e : get_or xs m.0 0 ≡ x = get_or_default xs m.0 0 x m.1 ∙ m.2 in
    omega (arith, b, e)

zero-below : (xs : List ℕ) (limit : ℕ) → ((place : ℕ) → place < length xs → get_or xs place 0 ≤ limit) → (place : ℕ) → place < length (0 ∷ xs) → get_or (0 ∷ xs) place 0 < limit + 1
zero-below xs limit below zero l = omega arith
zero-below xs limit below (suc place) l = let b = below place (omega (arith, l)) in omega (arith, b)

pub most-of : (xs : List ℕ) (limit : ℕ) → IsOnce xs → ((place : ℕ) → place < length xs → (1 ≤ get_or xs place 0) × (get_or xs place 0 ≤ limit)) → length xs ≤ limit
most-of xs limit once within =
    let d = once-distinct (0 ∷ xs) (once-zero xs once (λ place l. (within place l).0)) in
    let m = length-le_from_distinct_below (0 ∷ xs) (limit + 1) d (each-below (0 ∷ xs) (limit + 1) (zero-below xs limit (λ place l. (within place l).1))) in
    omega (arith, m)

-- ---- the ids and their places

kept-once : (ids : List ℕ) (capacity : ℕ) (places : List ℕ) (limit : ℕ) → IsIdListInside ids capacity places limit → IsOnce ids
kept-once ids capacity places limit k i j li lj e = sym (k.placed i li) ∙ ap (λ x. get_or places x 0) e ∙ k.placed j lj

pub kept-list : (ids : List ℕ) (capacity : ℕ) (places : List ℕ) (limit : ℕ) → IsIdListInside ids capacity places limit → IsIdList ids limit
kept-list ids capacity places limit k =
    let once = kept-once ids capacity places limit k in
    record { within = k.within; once = once; most = most-of ids limit once k.within }

-- what holds at each place holds after a push where it holds at the end
pub at_push : (P : ℕ → ℕ → Type 0) (xs : List ℕ) (x : ℕ) → ((place : ℕ) → place < length xs → P place (get_or xs place 0)) → P (length xs) x → (place : ℕ) → place < length (xs ++ x ∷ []) → P place (get_or (xs ++ x ∷ []) place 0)
at_push P xs x all here place l =
    below_more (λ k. P k (get_or (xs ++ x ∷ []) k 0)) (length xs)
    (λ k lk. subst (P k) (sym (get_or_append_left xs (x ∷ []) 0 k lk)) (all k lk))
    (subst (P (length xs)) (sym (get_or_push xs x 0 (length xs) refl)) here)
    place (let n = length_push xs x in omega (arith, l, n))

-- an id joins at the end
pub kept-push : (ids : List ℕ) (capacity more : ℕ) (places : List ℕ) (limit id n : ℕ) → n ≡ length ids → IsIdListInside ids capacity places limit → 1 ≤ id → id ≤ limit → has ids id ≡ false → capacity ≤ more → IsIdListInside (ids ++ id ∷ []) more (slice_set places id n) limit
kept-push ids capacity more places limit id n last k above below new grows = record {
  within = at_push (λ place x. (1 ≤ x) × (x ≤ limit)) ids id k.within (above, below);
  placed = at_push (λ place x. get_or (slice_set places id n) x 0 ≡ place) ids id
      (λ place l. get_or-set_other places id (get_or ids place 0) n 0 (apart ids id place new l) ∙ k.placed place l)
      (get_or-set_same places id n 0 (omega (arith, k.all, below)) ∙ last);
  all = length-set places id n ∙ k.all;
  room = omega (arith, k.room, grows);
  small = k.small;
}

-- there is room for an id that may join
pub kept-room : (ids : List ℕ) (capacity : ℕ) (places : List ℕ) (limit id : ℕ) → IsIdListInside ids capacity places limit → 1 ≤ id → id ≤ limit → has ids id ≡ false → length ids < limit
kept-room ids capacity places limit id k above below new =
    let l = kept-list _ _ _ _ (kept-push ids capacity capacity places limit id (length ids) refl k above below new (omega arith)) in
    let n = length_push ids id in
    omega (arith, l.most, n)

-- a place that is found, and none else, says whether the id is there
pub has-from_place : (ids : List ℕ) (id : ℕ) (found : Option ℕ) → IfSome found (λ place. (place < length ids) × (get_or ids place 0 ≡ id)) → ((place : ℕ) → place < length ids → get_or ids place 0 ≡ id → found ≡ Some place) → is_some found ≡ has ids id
has-from_place ids id None f only = sym (false_from_ne_true (has ids id) (λ h.
    let m = Contains-has ids id h in
    let e = only m.0 m.1 (get_or_default ids m.0 0 id m.1 ∙ m.2) in cc))
has-from_place ids id (Some place) f only = sym (has-at ids id place f.0 f.1)

-- what a found place says
pub found-says : {P : Type 0} (found : Option ℕ) → IfSome found (λ place. P) → is_some found ≡ true → P
found-says None h e = absurd (true≢false (sym e))
found-says (Some place) h e = h
