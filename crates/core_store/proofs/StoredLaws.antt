-- The stored ids of a journal, one after another.
use Rattle.std.proofs.Common.{◌≡◌, ℕ, zero, suc, ◌<◌, ◌≤◌, List, [], ◌∷◌, ◌++◌, Bool, true, false, refl, sym, ap, ◌∙◌, arith, ⊎_elim}
use Rattle.std.specs.Prelude.{not, nat_le, filter, if◌then◌else◌}
use Rattle.std.specs.List.{list_any, AllByRecursion}
use Rattle.std.specs.Ordering.{nat_cmp}
use Rattle.std.specs.BTreeMap.{is_at}
use Rattle.std.proofs.lemmas.Bool.{cases_lt}
use Rattle.std.proofs.lemmas.Bool.Decides.{nat_tests}
use Rattle.plain_model.specs.Machine.{State, is_stored}
use Rattle.plain_model.specs.History.{end_of}
use Rattle.plain_laws.specs.Sound.{Ascend}
use Rattle.plain_laws.proofs.Ids.{or_right}
use Rattle.core_store.specs.FreeIds.{taken}
use Rattle.core_store.specs.Tables.{TablesView}
use Rattle.core_store.specs.Stands.{is_free}
use Rattle.core_store.specs.Journal.{Keeps}
use Rattle.core_store.specs.JournalView.{JournalView}
use Rattle.cell_model.proofs.EditLaws.{live-within, live-there}

-- of ascending ids, those up to n
abbrev pub up_to : ℕ → List ℕ → List ℕ
up_to n ids = filter (λ x. nat_le x n) ids

up_to-in : (n x : ℕ) (xs : List ℕ) → x ≤ n → up_to n (x ∷ xs) ≡ x ∷ up_to n xs
up_to-in n x xs h = grind (arith, nat_tests)

up_to-out : (n x : ℕ) (xs : List ℕ) → n < x → up_to n (x ∷ xs) ≡ up_to n xs
up_to-out n x xs h = grind (arith, nat_tests)

up_to-none : (n : ℕ) (xs : List ℕ) → AllByRecursion (λ y. n < y) xs → up_to n xs ≡ []
up_to-none n [] h = refl
up_to-none n (x ∷ xs) h = up_to-out n x xs h.0 ∙ up_to-none n xs h.1

pub above-more : (n m : ℕ) (xs : List ℕ) → n ≤ m → AllByRecursion (λ y. m < y) xs → AllByRecursion (λ y. n < y) xs
above-more n m [] l h = tt
above-more n m (x ∷ xs) l h = let k = h.0 in (omega (arith, k, l), above-more n m xs l h.1)

pub stored-here : (x k : ℕ) (xs : List ℕ) → k ≡ x → is_stored (x ∷ xs) k ≡ true
stored-here x k xs e = grind (arith, nat_tests)

stored-later : (x k : ℕ) (xs : List ℕ) → is_stored xs k ≡ true → is_stored (x ∷ xs) k ≡ true
stored-later x k xs e = or_right (is_at (nat_cmp k) x) (is_stored xs k) e

pub stored-apart : (x k : ℕ) (xs : List ℕ) → (k ≡ x → ⊥) → is_stored (x ∷ xs) k ≡ is_stored xs k
stored-apart x k xs n = grind (arith, nat_tests)

pub unstored : (n : ℕ) (xs : List ℕ) → AllByRecursion (λ y. n < y) xs → is_stored xs n ≡ false
unstored n [] h = refl
unstored n (x ∷ xs) h = let l = h.0 in stored-apart x n xs (λ e. absurd (omega (arith, l, e))) ∙ unstored n xs h.1

up_to-all : (n : ℕ) (xs : List ℕ) → ((k : ℕ) → is_stored xs k ≡ true → k ≤ n) → up_to n xs ≡ xs
up_to-all n [] h = refl
up_to-all n (x ∷ xs) h = up_to-in n x xs (h x (stored-here x x xs refl)) ∙ ap (λ r. x ∷ r) (up_to-all n xs (λ k e. h k (stored-later x k xs e)))

-- the id itself, where it is stored
abbrev one_if : Bool → ℕ → List ℕ
one_if b n = if b then n ∷ [] else []

-- one id more
up_to-more : (n : ℕ) (xs : List ℕ) → Ascend xs → up_to (suc n) xs ≡ up_to n xs ++ one_if (is_stored xs (suc n)) (suc n)
up_to-more n [] a = refl
up_to-more n (x ∷ xs) a =
    ⊎_elim
    (λ (l : x < suc n).
    let m : x ≤ n = omega arith in
    let k : x ≤ suc n = omega arith in
    let apart : suc n ≡ x → ⊥ = λ e. absurd (omega (arith, e, l)) in
    up_to-in (suc n) x xs k ∙ (ap (λ r. x ∷ r) (up_to-more n xs a.1)
    ∙ (ap (λ b. (x ∷ up_to n xs) ++ one_if b (suc n)) (sym (stored-apart x (suc n) xs apart)) ∙ ap (λ r. r ++ one_if (is_stored (x ∷ xs) (suc n)) (suc n)) (sym (up_to-in n x xs m)))))
    (λ (l : suc n ≤ x).
    let above : AllByRecursion (λ y. suc n < y) xs = above-more (suc n) x xs l a.0 in
    let m : n < x = omega arith in
    let none : up_to n (x ∷ xs) ≡ [] = up_to-out n x xs m ∙ up_to-none n xs (above-more n x xs (omega arith) a.0) in
    ⊎_elim
    (λ (g : suc n < x).
    up_to-out (suc n) x xs g ∙ (up_to-none (suc n) xs above
    ∙ (sym (ap (λ b. one_if b (suc n)) (unstored (suc n) (x ∷ xs) (g, above))) ∙ ap (λ r. r ++ one_if (is_stored (x ∷ xs) (suc n)) (suc n)) (sym none))))
    (λ (g : x ≤ suc n).
    let e : suc n ≡ x = omega arith in
    up_to-in (suc n) x xs g ∙ (ap (λ r. x ∷ r) (up_to-none (suc n) xs above)
    ∙ (ap (λ y. y ∷ []) (sym e) ∙ (sym (ap (λ b. one_if b (suc n)) (stored-here x (suc n) xs e)) ∙ ap (λ r. r ++ one_if (is_stored (x ∷ xs) (suc n)) (suc n)) (sym none)))))
    (cases_lt (suc n) x))
    (cases_lt x (suc n))

opposite : (b c : Bool) (x : ℕ) → b ≡ not c → (if b then [] else x ∷ []) ≡ one_if c x
opposite b true x e = ap (λ d. if d then [] else x ∷ []) e
opposite b false x e = ap (λ d. if d then [] else x ∷ []) e

above_zero : (xs : List ℕ) → ((k : ℕ) → is_stored xs k ≡ true → 0 < k) → AllByRecursion (λ y. zero < y) xs
above_zero [] z = tt
above_zero (x ∷ xs) z = (z x (stored-here x x xs refl), above_zero xs (λ k e. z k (stored-later x k xs e)))

taken-up_to : (free xs : List ℕ) (ids n : ℕ) → Ascend xs → ((k : ℕ) → 0 < k → k ≤ ids → list_any (is_at (nat_cmp k)) free ≡ not (is_stored xs k)) → ((k : ℕ) → is_stored xs k ≡ true → 0 < k) → n ≤ ids → taken free n ≡ up_to n xs
taken-up_to free xs ids zero a h z l = sym (up_to-none zero xs (above_zero xs z))
taken-up_to free xs ids (suc n) a h z l =
    ap (λ r. r ++ (if list_any (is_at (nat_cmp (suc n))) free then [] else suc n ∷ [])) (taken-up_to free xs ids n a h z (omega arith))
    ∙ (ap (λ r. up_to n xs ++ r) (opposite (list_any (is_at (nat_cmp (suc n))) free) (is_stored xs (suc n)) (suc n) (h (suc n) (omega arith) l)) ∙ sym (up_to-more n xs a))

within_free : (s : State) (k : ℕ) → 0 < k → k ≤ s.ids → is_free s k ≡ not (is_stored s.stored k)
within_free s k a b = grind (arith, nat_tests)

-- the ids that aren't free are the stored ones
pub taken-stored : (j : JournalView) (v : TablesView) → Keeps j v → taken v.free v.ids ≡ (end_of j.history).state.stored
taken-stored j v k =
    let h = k.stands in
    let s = (end_of j.history).state in
    let ids = h.ids in
    let size = h.sound.consistent.sized in
    let within : (i : ℕ) → is_stored s.stored i ≡ true → (0 < i) × (i ≤ v.ids) =
    λ i e. (let live = sym (h.sound.stored i) ∙ e in let low = live-there _ i h.sound.consistent.exact.none live in let high = live-within _ i live in (omega (arith, low), omega (arith, high, size, ids))) in
    taken-up_to v.free s.stored v.ids v.ids h.sound.state.ascend
    (λ i a b. h.free i ∙ within_free s i a (omega (arith, b, ids)))
    (λ i e. (within i e).0)
    (omega arith)
    ∙ up_to-all v.ids s.stored (λ i e. (within i e).1)
