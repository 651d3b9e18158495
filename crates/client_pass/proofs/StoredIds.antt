-- Ascending ids: two lists with the same members are one, and a walk over all numbers finds them in order.
use Rattle.std.proofs.Common.{◌≡◌, ◌≢◌, ℕ, zero, suc, ◌+◌, ◌<◌, ◌≤◌, Bool, true, false, List, [], ◌∷◌, ◌++◌, refl, sym, ap, subst, ◌∙◌, arith, ⊎_elim}
use Rattle.std.specs.Prelude.{if◌then◌else◌, filter}
use Rattle.std.specs.List.{range_with_len}
use Rattle.std.specs.Ordering.{nat_cmp}
use Rattle.std.specs.BTreeMap.{is_at}
use Rattle.std.proofs.lemmas.Bool.{cases_eq, cases_lt, cases_Bool, cond-true, cond-false, both_ways}
use Rattle.std.proofs.lemmas.List.{map-id}
use Rattle.std.proofs.lemmas.List.FromFn.{filter_of_map_range_with_len_more}
use Rattle.plain_model.specs.Machine.{is_stored}
use Rattle.plain_laws.specs.Sound.{Ascend}
use Rattle.plain_laws.proofs.Ids.{or_right}
use Rattle.core_store.proofs.StoredLaws.{above-more, stored-here, stored-apart, unstored}

stored-later : (x k : ℕ) (xs : List ℕ) → is_stored xs k ≡ true → is_stored (x ∷ xs) k ≡ true
stored-later x k xs e = or_right (is_at (nat_cmp k) x) (is_stored xs k) e

-- ---- the same members

-- the first one isn't below that of a list with the same members
no-lower : (x y : ℕ) (xs ys : List ℕ) → Ascend (y ∷ ys) → is_stored (x ∷ xs) x ≡ is_stored (y ∷ ys) x → y ≤ x
no-lower x y xs ys a same =
    ⊎_elim
    (λ (l : x < y). absurd (both_ways (is_stored (y ∷ ys) x) (unstored x (y ∷ ys) (l, above-more x y ys (omega (arith, l)) a.0)) (sym same ∙ stored-here x x xs refl)))
    (λ (h : y ≤ x). h)
    (cases_lt x y)

same-behind : (x : ℕ) (xs ys : List ℕ) → Ascend (x ∷ xs) → Ascend (x ∷ ys) → ((k : ℕ) → is_stored (x ∷ xs) k ≡ is_stored (x ∷ ys) k) → (k : ℕ) → is_stored xs k ≡ is_stored ys k
same-behind x xs ys a b same k =
    ⊎_elim
    (λ (e : k ≡ x). subst (λ j. is_stored xs j ≡ is_stored ys j) (sym e) (unstored x xs a.0 ∙ sym (unstored x ys b.0)))
    (λ (n : k ≢ x). sym (stored-apart x k xs n) ∙ (same k ∙ stored-apart x k ys n))
    (cases_eq k x)

-- strictly ascending ids with the same members are the same list
pub same-ids : (xs ys : List ℕ) → Ascend xs → Ascend ys → ((k : ℕ) → is_stored xs k ≡ is_stored ys k) → xs ≡ ys
same-ids [] [] a b same = refl
same-ids [] (y ∷ ys) a b same = absurd (both_ways (is_stored (y ∷ ys) y) (sym (same y)) (stored-here y y ys refl))
same-ids (x ∷ xs) [] a b same = absurd (both_ways (is_stored (x ∷ xs) x) (same x) (stored-here x x xs refl))
same-ids (x ∷ xs) (y ∷ ys) a b same =
    let down = no-lower x y xs ys b (same x) in
    let up = no-lower y x ys xs a (sym (same y)) in
    let e : x ≡ y = omega (arith, down, up) in
    let c : Ascend (x ∷ ys) = subst (λ z. Ascend (z ∷ ys)) (sym e) b in
    let behind = same-behind x xs ys a c (λ k. same k ∙ ap (λ z. is_stored (z ∷ ys) k) (sym e)) in
    ap (λ z. z ∷ xs) e ∙ ap (λ zs. y ∷ zs) (same-ids xs ys a.1 b.1 behind)

-- ---- a walk over all numbers

-- all of them are at least this number, and below that one
abbrev pub AreBetween : ℕ → ℕ → List ℕ → Type 0
AreBetween least behind xs = (k : ℕ) → is_stored xs k ≡ true → (least ≤ k) × (k < behind)

-- between these numbers the test passes exactly the ids that are stored
abbrev pub TellsStored : (ℕ → Bool) → ℕ → ℕ → List ℕ → Type 0
TellsStored test least behind xs = (k : ℕ) → least ≤ k → k < behind → test k ≡ is_stored xs k

between-behind : (a b x : ℕ) (xs : List ℕ) → Ascend (x ∷ xs) → x ≡ a → AreBetween a b (x ∷ xs) → AreBetween (a + 1) b xs
between-behind a b x xs s e h k t =
    let within = h k (stored-later x k xs t) in
    let low = within.0 in
    ⊎_elim
    (λ (l : a < k). (omega (arith, l), within.1))
    (λ (g : k ≤ a).
    let same : k ≡ x = omega (arith, low, g, e) in
    absurd (both_ways (is_stored xs k) (subst (λ j. is_stored xs j ≡ false) (sym same) (unstored x xs s.0)) t))
    (cases_lt a k)

tells-behind : (test : ℕ → Bool) (a b x : ℕ) (xs : List ℕ) → x ≡ a → TellsStored test a b (x ∷ xs) → TellsStored test (a + 1) b xs
tells-behind test a b x xs e h k l m = h k (omega (arith, l)) m ∙ stored-apart x k xs (λ q. absurd (omega (arith, l, q, e)))

-- the test passes the first number: it is the first id
stored-first : (test : ℕ → Bool) (a b : ℕ) (more xs : List ℕ) → Ascend xs → AreBetween a b xs → TellsStored test a b xs → a < b → test a ≡ true
    → ((ys : List ℕ) → Ascend ys → AreBetween (a + 1) b ys → TellsStored test (a + 1) b ys → more ≡ ys) → a ∷ more ≡ xs
stored-first test a b more [] s h tells l pass next = absurd (both_ways (test a) (tells a (omega arith) l) pass)
stored-first test a b more (x ∷ xs) s h tells l pass next =
    let least = (h x (stored-here x x xs refl)).0 in
    ⊎_elim
    (λ (above : a < x).
    let none : is_stored (x ∷ xs) a ≡ false = unstored a (x ∷ xs) (above, above-more a x xs (omega (arith, above)) s.0) in
    absurd (both_ways (test a) (tells a (omega arith) l ∙ none) pass))
    (λ (g : x ≤ a).
    let e : x ≡ a = omega (arith, least, g) in
    ap (λ z. z ∷ more) (sym e) ∙ ap (λ zs. x ∷ zs) (next xs s.1 (between-behind a b x xs s e h) (tells-behind test a b x xs e tells)))
    (cases_lt a x)

-- it doesn't: no id is the first number
stored-above : (test : ℕ → Bool) (a b : ℕ) (xs : List ℕ) → AreBetween a b xs → TellsStored test a b xs → a < b → test a ≡ false → AreBetween (a + 1) b xs
stored-above test a b xs h tells l fail k t =
    let within = h k t in
    let low = within.0 in
    ⊎_elim
    (λ (m : a < k). (omega (arith, m), within.1))
    (λ (g : k ≤ a).
    let e : a ≡ k = omega (arith, low, g) in
    absurd (both_ways (test a) fail (tells a (omega arith) l ∙ (ap (is_stored xs) e ∙ t))))
    (cases_lt a k)

-- the numbers that pass a test which tells what is stored are the stored ids
pub stored-between : (test : ℕ → Bool) (n a : ℕ) (xs : List ℕ) → Ascend xs → AreBetween a (a + n) xs → TellsStored test a (a + n) xs → filter test (range_with_len a n) ≡ xs
stored-between test zero a [] s h tells = refl
stored-between test zero a (x ∷ xs) s h tells =
    let within = h x (stored-here x x xs refl) in
    let low = within.0 in
    let high = within.1 in
    absurd (omega (arith, low, high))
stored-between test (suc n) a xs s h tells =
    let shift : (a + 1) + n ≡ a + suc n = omega arith in
    let l : a < a + suc n = omega arith in
    let more = filter test (range_with_len (a + 1) n) in
    let next : (ys : List ℕ) → Ascend ys → AreBetween (a + 1) (a + suc n) ys → TellsStored test (a + 1) (a + suc n) ys → more ≡ ys = λ ys b i t. stored-between test n (a + 1) ys b (subst (λ m. AreBetween (a + 1) m ys) (sym shift) i) (subst (λ m. TellsStored test (a + 1) m ys) (sym shift) t) in
    ⊎_elim
    (λ (pass : test a ≡ true). cond-true (test a) (a ∷ more) more pass ∙ stored-first test a (a + suc n) more xs s h tells l pass next)
    (λ (fail : test a ≡ false). cond-false (test a) (a ∷ more) more fail ∙ next xs s (stored-above test a (a + suc n) xs h tells l fail) (λ k m. tells k (omega (arith, m))))
    (cases_Bool (test a))

-- the same of a store with the ids from 1 to n
pub stored-up_to : (test : ℕ → Bool) (n : ℕ) (xs : List ℕ) → Ascend xs → ((k : ℕ) → is_stored xs k ≡ true → (1 ≤ k) × (k ≤ n)) → ((k : ℕ) → 1 ≤ k → k ≤ n → test k ≡ is_stored xs k) → filter test (range_with_len 1 n) ≡ xs
stored-up_to test n xs s h tells =
    stored-between test n 1 xs s
    (λ k t. let within = h k t in let low = within.0 in let high = within.1 in (low, omega (arith, high)))
    (λ k l m. tells k l (omega (arith, m)))

-- one number more
pub walk-more : (test : ℕ → Bool) (n : ℕ) → filter test (range_with_len 1 (n + 1)) ≡ filter test (range_with_len 1 n) ++ (if test (n + 1) then (n + 1) ∷ [] else [])
walk-more test n =
    ap (filter test) (sym (map-id (range_with_len 1 (n + 1))))
    ∙ (filter_of_map_range_with_len_more test (λ x. x) 1 n (n + 1) (omega arith)
    ∙ ap (λ xs. filter test xs ++ (if test (n + 1) then (n + 1) ∷ [] else [])) (map-id (range_with_len 1 n)))
