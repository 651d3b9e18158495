-- A change of pairs at one key, in a list whose keys ascend.
use Rattle.std.proofs.Common.{◌≡◌, ◌≢◌, ℕ, ◌<◌, ◌≤◌, [], ◌∷◌, ◌++◌, Some, None, refl, sym, ap, ◌∙◌, subst, arith, ⊎_elim}
use Rattle.std.specs.Prelude.{not, ◌==◌}
use Rattle.std.specs.List.{AllByRecursion}
use Rattle.std.proofs.lemmas.Bool.{cases_lt, cases_eq}
use Rattle.std.proofs.lemmas.Bool.Decides.{nat_tests}
use Rattle.std.proofs.lemmas.List.Elements.{filter-append}
use Rattle.plain_map.specs.Pairs.{Pairs, AscendByKey, value_of, with_pair, without_key}
use Rattle.plain_map.specs.Laws.{value-with, value-with_other, value-without, value-without_other, ascend-with, ascend-without}
use Rattle.plain_map.proofs.PairLaws.{above_more}
use Rattle.plain_map.proofs.ValueLaws.{value_here, value_next}

-- the change leaves the pairs with smaller keys and those with greater ones
pub record IsLocal (key : ℕ) (change : Pairs → Pairs) : Type 0 where
  pub front : (ps qs : Pairs) → AllByRecursion (λ q. key < q.0) qs → change (ps ++ qs) ≡ change ps ++ qs
  pub back : (ps qs : Pairs) → AllByRecursion (λ p. p.0 < key) ps → change (ps ++ qs) ≡ ps ++ change qs

-- ---- a pair that is put

pub with_below : (k v : ℕ) (p : ℕ × ℕ) (ps : Pairs) → p.0 < k → with_pair k v (p ∷ ps) ≡ p ∷ with_pair k v ps
with_below k v p ps h = grind (arith, nat_tests)

pub with_same : (k v : ℕ) (p : ℕ × ℕ) (ps : Pairs) → p.0 ≡ k → with_pair k v (p ∷ ps) ≡ (k, v) ∷ ps
with_same k v p ps h = grind (arith, nat_tests)

pub with_above : (k v : ℕ) (p : ℕ × ℕ) (ps : Pairs) → k < p.0 → with_pair k v (p ∷ ps) ≡ (k, v) ∷ p ∷ ps
with_above k v p ps h = grind (arith, nat_tests)

with_all_above : (k v : ℕ) (qs : Pairs) → AllByRecursion (λ q. k < q.0) qs → with_pair k v qs ≡ (k, v) ∷ qs
with_all_above k v [] h = refl
with_all_above k v (q ∷ qs) h = with_above k v q qs h.0

with_front : (k v : ℕ) (ps qs : Pairs) → AllByRecursion (λ q. k < q.0) qs → with_pair k v (ps ++ qs) ≡ with_pair k v ps ++ qs
with_front k v [] qs h = with_all_above k v qs h
with_front k v (p ∷ ps) qs h =
    ⊎_elim
    (λ (l : p.0 < k). with_below k v p (ps ++ qs) l ∙ ap (λ r. p ∷ r) (with_front k v ps qs h) ∙ ap (λ r. r ++ qs) (sym (with_below k v p ps l)))
    (λ (g : k ≤ p.0). ⊎_elim
    (λ (l : k < p.0). with_above k v p (ps ++ qs) l ∙ ap (λ r. r ++ qs) (sym (with_above k v p ps l)))
    (λ (m : p.0 ≤ k). let e : p.0 ≡ k = omega arith in with_same k v p (ps ++ qs) e ∙ ap (λ r. r ++ qs) (sym (with_same k v p ps e)))
    (cases_lt k p.0))
    (cases_lt p.0 k)

with_back : (k v : ℕ) (ps qs : Pairs) → AllByRecursion (λ p. p.0 < k) ps → with_pair k v (ps ++ qs) ≡ ps ++ with_pair k v qs
with_back k v [] qs h = refl
with_back k v (p ∷ ps) qs h = with_below k v p (ps ++ qs) h.0 ∙ ap (λ r. p ∷ r) (with_back k v ps qs h.1)

pub put_local : (key value : ℕ) → IsLocal key (with_pair key value)
put_local key value = record { front = with_front key value; back = with_back key value }

-- ---- a key that is taken away

pub drop_here : (k : ℕ) (p : ℕ × ℕ) (ps : Pairs) → p.0 ≡ k → without_key k (p ∷ ps) ≡ without_key k ps
drop_here k p ps h = grind (arith, nat_tests)

pub keep_here : (k : ℕ) (p : ℕ × ℕ) (ps : Pairs) → p.0 ≢ k → without_key k (p ∷ ps) ≡ p ∷ without_key k ps
keep_here k p ps h = grind (arith, nat_tests)

pub keep_all : (k : ℕ) (ps : Pairs) → AllByRecursion (λ p. p.0 ≢ k) ps → without_key k ps ≡ ps
keep_all k [] h = refl
keep_all k (p ∷ ps) h = keep_here k p ps h.0 ∙ ap (λ r. p ∷ r) (keep_all k ps h.1)

pub drop_first : (k v : ℕ) (ps : Pairs) → AllByRecursion (λ p. p.0 ≢ k) ps → without_key k ((k, v) ∷ ps) ≡ ps
drop_first k v ps h = drop_here k (k, v) ps refl ∙ keep_all k ps h

all_other : (P : ℕ → Type 0) (k : ℕ) → ((x : ℕ) → P x → x ≢ k) → (ps : Pairs) → AllByRecursion (λ p. P p.0) ps → AllByRecursion (λ p. p.0 ≢ k) ps
all_other P k f [] h = tt
all_other P k f (p ∷ ps) h = (f p.0 h.0, all_other P k f ps h.1)

pub remove_local : (key : ℕ) → IsLocal key (without_key key)
remove_local key = record {
  front = λ ps qs h. filter-append (λ (p : ℕ × ℕ). not (p.0 == key)) ps qs ∙ ap (λ r. without_key key ps ++ r) (keep_all key qs (all_other (λ x. key < x) key (λ x l e. absurd (omega (arith, l, e))) qs h));
  back = λ ps qs h. filter-append (λ (p : ℕ × ℕ). not (p.0 == key)) ps qs ∙ ap (λ r. r ++ without_key key qs) (keep_all key ps (all_other (λ x. x < key) key (λ x l e. absurd (omega (arith, l, e))) ps h));
}

-- ---- values after a change

same_first : (j : ℕ) (q : ℕ × ℕ) (qs rs : Pairs) → value_of j qs ≡ value_of j rs → value_of j (q ∷ qs) ≡ value_of j (q ∷ rs)
same_first j q qs rs h =
    ⊎_elim
    (λ (e : q.0 ≡ j). value_here j q qs e ∙ sym (value_here j q rs e))
    (λ (o : q.0 ≢ j). value_next j q qs o ∙ h ∙ sym (value_next j q rs o))
    (cases_eq q.0 j)

pub value-with_proof : value-with
value-with_proof k v [] = value_here k (k, v) [] refl
value-with_proof k v (p ∷ ps) =
    ⊎_elim
    (λ (l : p.0 < k). ap (value_of k) (with_below k v p ps l) ∙ value_next k p (with_pair k v ps) (λ e. absurd (omega (arith, e, l))) ∙ value-with_proof k v ps)
    (λ (g : k ≤ p.0). ⊎_elim
    (λ (l : k < p.0). ap (value_of k) (with_above k v p ps l) ∙ value_here k (k, v) (p ∷ ps) refl)
    (λ (m : p.0 ≤ k). let e : p.0 ≡ k = omega (arith, g, m) in ap (value_of k) (with_same k v p ps e) ∙ value_here k (k, v) ps refl)
    (cases_lt k p.0))
    (cases_lt p.0 k)

pub value-with_other_proof : value-with_other
value-with_other_proof j k v [] n = value_next j (k, v) [] (λ e. n (sym e))
value-with_other_proof j k v (p ∷ ps) n =
    ⊎_elim
    (λ (l : p.0 < k). ap (value_of j) (with_below k v p ps l) ∙ same_first j p (with_pair k v ps) ps (value-with_other_proof j k v ps n))
    (λ (g : k ≤ p.0). ⊎_elim
    (λ (l : k < p.0). ap (value_of j) (with_above k v p ps l) ∙ value_next j (k, v) (p ∷ ps) (λ e. n (sym e)))
    (λ (m : p.0 ≤ k).
    let e : p.0 ≡ k = omega (arith, g, m) in
    ap (value_of j) (with_same k v p ps e) ∙ value_next j (k, v) ps (λ e. n (sym e)) ∙ sym (value_next j p ps (λ a. n (sym a ∙ e))))
    (cases_lt k p.0))
    (cases_lt p.0 k)

pub value-without_proof : value-without
value-without_proof k [] = refl
value-without_proof k (p ∷ ps) =
    ⊎_elim
    (λ (e : p.0 ≡ k). ap (value_of k) (drop_here k p ps e) ∙ value-without_proof k ps)
    (λ (n : p.0 ≢ k). ap (value_of k) (keep_here k p ps n) ∙ value_next k p (without_key k ps) n ∙ value-without_proof k ps)
    (cases_eq p.0 k)

pub value-without_other_proof : value-without_other
value-without_other_proof j k [] n = refl
value-without_other_proof j k (p ∷ ps) n =
    ⊎_elim
    (λ (e : p.0 ≡ k). ap (value_of j) (drop_here k p ps e) ∙ value-without_other_proof j k ps n ∙ sym (value_next j p ps (λ a. n (sym a ∙ e))))
    (λ (o : p.0 ≢ k). ap (value_of j) (keep_here k p ps o) ∙ same_first j p (without_key k ps) ps (value-without_other_proof j k ps n))
    (cases_eq p.0 k)

-- ---- order after a change

all_with : (P : ℕ → Type 0) (k v : ℕ) (ps : Pairs) → P k → AllByRecursion (λ p. P p.0) ps → AllByRecursion (λ p. P p.0) (with_pair k v ps)
all_with P k v [] a h = (a, tt)
all_with P k v (p ∷ ps) a h =
    ⊎_elim
    (λ (l : p.0 < k). subst (λ qs. AllByRecursion (λ q. P q.0) qs) (sym (with_below k v p ps l)) (h.0, all_with P k v ps a h.1))
    (λ (g : k ≤ p.0). ⊎_elim
    (λ (l : k < p.0). subst (λ qs. AllByRecursion (λ q. P q.0) qs) (sym (with_above k v p ps l)) (a, h))
    (λ (m : p.0 ≤ k). let e : p.0 ≡ k = omega (arith, g, m) in subst (λ qs. AllByRecursion (λ q. P q.0) qs) (sym (with_same k v p ps e)) (a, h.1))
    (cases_lt k p.0))
    (cases_lt p.0 k)

pub ascend-with_proof : ascend-with
ascend-with_proof k v [] a = (tt, tt)
ascend-with_proof k v (p ∷ ps) a =
    ⊎_elim
    (λ (l : p.0 < k). subst AscendByKey (sym (with_below k v p ps l)) (all_with (λ n. p.0 < n) k v ps l a.0, ascend-with_proof k v ps a.1))
    (λ (g : k ≤ p.0). ⊎_elim
    (λ (l : k < p.0). subst AscendByKey (sym (with_above k v p ps l)) ((l, above_more k p.0 ps g a.0), a))
    (λ (m : p.0 ≤ k). let e : p.0 ≡ k = omega (arith, g, m) in subst AscendByKey (sym (with_same k v p ps e)) (above_more k p.0 ps g a.0, a.1))
    (cases_lt k p.0))
    (cases_lt p.0 k)

all_without : (P : ℕ → Type 0) (k : ℕ) (ps : Pairs) → AllByRecursion (λ p. P p.0) ps → AllByRecursion (λ p. P p.0) (without_key k ps)
all_without P k [] h = tt
all_without P k (p ∷ ps) h =
    ⊎_elim
    (λ (e : p.0 ≡ k). subst (λ qs. AllByRecursion (λ q. P q.0) qs) (sym (drop_here k p ps e)) (all_without P k ps h.1))
    (λ (n : p.0 ≢ k). subst (λ qs. AllByRecursion (λ q. P q.0) qs) (sym (keep_here k p ps n)) (h.0, all_without P k ps h.1))
    (cases_eq p.0 k)

pub ascend-without_proof : ascend-without
ascend-without_proof k [] a = tt
ascend-without_proof k (p ∷ ps) a =
    ⊎_elim
    (λ (e : p.0 ≡ k). subst AscendByKey (sym (drop_here k p ps e)) (ascend-without_proof k ps a.1))
    (λ (n : p.0 ≢ k). subst AscendByKey (sym (keep_here k p ps n)) (all_without (λ m. p.0 < m) k ps a.0, ascend-without_proof k ps a.1))
    (cases_eq p.0 k)

-- a key that isn't there leaves the pairs
pub none_there : (k : ℕ) (ps : Pairs) → None ≡ value_of k ps → without_key k ps ≡ ps
none_there k ps e = keep_all k ps (absent k ps e)
  where
    never : (v : ℕ) → None ≡ Some v → ⊥
    never v e = absurd (cc)

    absent : (k : ℕ) (ps : Pairs) → None ≡ value_of k ps → AllByRecursion (λ p. p.0 ≢ k) ps
    absent k [] e = tt
    absent k (p ∷ ps) e = (let n : p.0 ≢ k = λ z. never p.1 (e ∙ value_here k p ps z) in (n, absent k ps (e ∙ value_next k p ps n)))
