-- The members of a list that have a property.
use Rattle.std.proofs.Common.{◌≡◌, ℕ, ◌+◌, ◌<◌, ◌≤◌, false, List, [], ◌∷◌, ◌++◌, length, take, get_or, sym, ap, ◌∙◌, subst, arith, ⊎_elim}
use Rattle.std.specs.Prelude.{Contains}
use Rattle.std.proofs.lemmas.List.{get_or_default, length-take-le, get_or-take, take_more, take_all}
use Rattle.store_model.specs.Sound.{IsOnce}
use Rattle.store_model.proofs.Lists.{Contains-here, Contains-later}
use Rattle.store_model.proofs.StepLaws.{Contains-cons}
use Rattle.store_model.proofs.OnceLaws.{nothing-in}
use Rattle.red_walk.specs.Ids.{Ids}
use Rattle.ref_tables.specs.Queue.{has}
use Rattle.red_walk.proofs.Members.{absent}
use Rattle.green_walk.specs.Judged.{Picks, none, takes, passes}

-- one member more, with the property or without it
pub picks-push : (P : ℕ → Type 0) {xs ys : List ℕ} (x : ℕ) → Picks P xs ys → P x → Picks P (xs ++ x ∷ []) (ys ++ x ∷ [])
picks-push P x none p = takes x [] [] p none
picks-push P x (takes id ids chosen q k) p = takes id (ids ++ x ∷ []) (chosen ++ x ∷ []) q (picks-push P x k p)
picks-push P x (passes id ids chosen n k) p = passes id (ids ++ x ∷ []) (chosen ++ x ∷ []) n (picks-push P x k p)

pub picks-pass : (P : ℕ → Type 0) {xs ys : List ℕ} (x : ℕ) → Picks P xs ys → (P x → ⊥) → Picks P (xs ++ x ∷ []) ys
picks-pass P x none p = passes x [] [] p none
picks-pass P x (takes id ids chosen q k) p = takes id (ids ++ x ∷ []) chosen q (picks-pass P x k p)
picks-pass P x (passes id ids chosen n k) p = passes id (ids ++ x ∷ []) chosen n (picks-pass P x k p)

-- what is chosen is of the list and has the property
pub picks-from : (P : ℕ → Type 0) {xs ys : List ℕ} → Picks P xs ys → (x : ℕ) → Contains ys x → Contains xs x × P x
picks-from P none x m = nothing-in x m
picks-from P (takes id ids chosen p k) x m =
    ⊎_elim
    (λ (e : id ≡ x). subst (λ y. Contains (id ∷ ids) y × P y) e (Contains-here id ids, p))
    (λ (l : Contains chosen x). let r = picks-from P k x l in (Contains-later id ids x r.0, r.1))
    (Contains-cons id chosen x m)
picks-from P (passes id ids chosen n k) x m = let r = picks-from P k x m in (Contains-later id ids x r.0, r.1)

-- what is of the list and has the property is chosen
pub picks-all : (P : ℕ → Type 0) {xs ys : List ℕ} → Picks P xs ys → (x : ℕ) → Contains xs x → P x → Contains ys x
picks-all P none x m p = nothing-in x m
picks-all P (takes id ids chosen q k) x m p =
    ⊎_elim
    (λ (e : id ≡ x). subst (λ y. Contains (id ∷ chosen) y) e (Contains-here id chosen))
    (λ (l : Contains ids x). Contains-later id chosen x (picks-all P k x l p))
    (Contains-cons id ids x m)
picks-all P (passes id ids chosen n k) x m p =
    ⊎_elim
    (λ (e : id ≡ x). absurd (n (subst P (sym e) p)))
    (λ (l : Contains ids x). picks-all P k x l p)
    (Contains-cons id ids x m)

-- another property that the same members have
pub picks-same : (P Q : ℕ → Type 0) {xs ys : List ℕ} → ((x : ℕ) → Contains xs x → P x → Q x) → ((x : ℕ) → Contains xs x → Q x → P x) → Picks P xs ys → Picks Q xs ys
picks-same P Q f g none = none
picks-same P Q f g (takes id ids chosen p k) = takes id ids chosen (f id (Contains-here id ids) p) (picks-same P Q (λ x m. f x (Contains-later id ids x m)) (λ x m. g x (Contains-later id ids x m)) k)
picks-same P Q f g (passes id ids chosen n k) = passes id ids chosen (λ q. n (g id (Contains-here id ids) q)) (picks-same P Q (λ x m. f x (Contains-later id ids x m)) (λ x m. g x (Contains-later id ids x m)) k)

-- what is among the members before one that stands there once is another
pub next-new : (xs ys : List ℕ) (n : ℕ) → IsOnce xs → n < length xs → ((x : ℕ) → Contains ys x → Contains (take n xs) x) → has ys (get_or xs n 0) ≡ false
next-new xs ys n once l before = absent ys (get_or xs n 0) (λ m.
    let h = before (get_or xs n 0) m in
    let t = length-take-le n xs (omega (arith, l)) in
    let early : h.0 < n = (let i = h.1 in omega (arith, i, t)) in
    let within : h.0 < length xs = omega (arith, early, l) in
    let there : get_or xs h.0 0 ≡ get_or xs n 0 = get_or_default xs h.0 0 (get_or xs n 0) within ∙ sym (get_or-take n xs h.0 (get_or xs n 0) early) ∙ h.2 in
    let same = once h.0 n within l there in
    omega (arith, same, early))

-- ---- over a list as it is shown

-- the next member isn't chosen yet
pub picks-next : (P : ℕ → Type 0) (xs shown ys : List ℕ) (n : ℕ) → shown ≡ xs → IsOnce xs → n < length shown → Picks P (take n xs) ys → has ys (get_or shown n 0) ≡ false
picks-next P xs shown ys n e once l k = subst (λ zs. has ys (get_or zs n 0) ≡ false) (sym e) (next-new xs ys n once (subst (λ zs. n < length zs) e l) (λ x m. (picks-from P k x m).0))

-- it is chosen
pub picks-taken : (P : ℕ → Type 0) (xs shown : List ℕ) (n : ℕ) (before after : Ids) → shown ≡ xs → n < length shown → Picks P (take n xs) before.ids → P (get_or shown n 0) → after ≡ record before { ids = before.ids ++ get_or shown n 0 ∷ [] } → Picks P (take (n + 1) xs) after.ids
picks-taken P xs shown n before after e l k p j =
    subst (λ (v : Ids). Picks P (take (n + 1) xs) v.ids) (sym j)
    (subst (λ zs. Picks P zs (before.ids ++ get_or shown n 0 ∷ [])) (ap (λ zs. take n xs ++ get_or zs n 0 ∷ []) e ∙ sym (take_more xs n 0 (subst (λ zs. n < length zs) e l))) (picks-push P (get_or shown n 0) k p))

-- it is passed over
pub picks-passed : (P : ℕ → Type 0) (xs shown ys : List ℕ) (n : ℕ) → shown ≡ xs → n < length shown → Picks P (take n xs) ys → (P (get_or shown n 0) → ⊥) → Picks P (take (n + 1) xs) ys
picks-passed P xs shown ys n e l k p =
    subst (λ zs. Picks P zs ys) (ap (λ zs. take n xs ++ get_or zs n 0 ∷ []) e ∙ sym (take_more xs n 0 (subst (λ zs. n < length zs) e l))) (picks-pass P (get_or shown n 0) k p)

-- all members were seen
pub picks-end : (P : ℕ → Type 0) (xs shown ys : List ℕ) (n : ℕ) → shown ≡ xs → length shown ≤ n → Picks P (take n xs) ys → Picks P xs ys
picks-end P xs shown ys n e l k = subst (λ zs. Picks P zs ys) (take_all n xs (subst (λ zs. length zs ≤ n) e l)) k
