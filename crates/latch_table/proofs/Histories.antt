-- All that happened to words is one history, after each step.
use Rattle.std.proofs.Common.{◌≡◌, ◌≢◌, ◌⊎◌, ℕ, zero, suc, ◌+◌, ◌<◌, ◌≤◌, List, [], ◌∷◌, ◌++◌, append-nil, length, set, Option, Some, None, ⊎_elim, refl, sym, ap, ◌∙◌, subst, arith}
use Rattle.std.specs.Prelude.{slice_get}
use Rattle.std.proofs.lemmas.Option.{slice_get_within}
use mathlib.Core.Logic.{dite}
use mathlib.Core.Option.{some, some-injective, some-ne-none}
use native.Mathlib.Decide.{ℕ_discrete}
use lib.ListN.{get_elem?}
use Rattle.atomic_table.proofs.Lists.{at_set, set_else}
use Rattle.latch_table.specs.declared.view.Happening.{Happening}
use Rattle.latch_table.specs.declared.view.Happening.TheVariants.{Claimed, GivenBack, Met}
use Rattle.latch_table.specs.declared.view.View.{View}
use Rattle.latch_table.specs.Views.{claims_of, joined, nobody, pages_onto}
use Rattle.latch_table.specs.Rule.{LieBelow, page_at, after, numbers_after, IsHistory, all_free, claims_in, times_of, times_claimed, AreMet, HaveHistory}
use Rattle.latch_table.proofs.Frames.{if_same, if_other}

pub page_at_page : (pages word : ℕ) → word < pages → page_at pages word ≡ Some word
page_at_page pages word low = if_other word pages None (Some word) (λ e. absurd (omega arith))

pub page_at_log : (pages : ℕ) → page_at pages pages ≡ None
page_at_log pages = if_same pages pages None (Some pages) refl

pub slice_get_front : {A : Type 0} (xs ys : List A) (k : ℕ) (p : A) → slice_get xs k ≡ Some p → slice_get (xs ++ ys) k ≡ Some p
slice_get_front [] ys k p e = absurd (cc)
slice_get_front (x ∷ xs) ys zero p e = e
slice_get_front (x ∷ xs) ys (suc k) p e = slice_get_front xs ys k p e

pub slice_get_next : {A : Type 0} (xs : List A) (x : A) → slice_get (xs ++ x ∷ []) (length xs) ≡ Some x
slice_get_next [] x = refl
slice_get_next (y ∷ ys) x = slice_get_next ys x

-- ---- of one list of what happened

numbers_all : (bears : ℕ → ℕ) (hs gs : List Happening) → numbers_after bears (hs ++ gs) ≡ numbers_after (numbers_after bears hs) gs
numbers_all bears [] gs = refl
numbers_all bears (h ∷ hs) gs = numbers_all (after bears h) hs gs

history_all : (bears : ℕ → ℕ) (hs gs : List Happening) → IsHistory bears hs → IsHistory (numbers_after bears hs) gs → IsHistory bears (hs ++ gs)
history_all bears [] gs h g = g
history_all bears (x ∷ hs) gs h g = (h.0, history_all (after bears x) hs gs h.1 g)

claims_all : (c : Option ℕ × ℕ) (pages : ℕ) (hs gs : List Happening) → times_of c (claims_in pages (hs ++ gs)) ≡ times_of c (claims_in pages hs) + times_of c (claims_in pages gs)
claims_all c pages [] gs = omega arith
claims_all c pages (Claimed word number ∷ hs) gs = let h = claims_all c pages hs gs in omega arith
claims_all c pages (GivenBack word ∷ hs) gs = claims_all c pages hs gs
claims_all c pages (Met word number ∷ hs) gs = claims_all c pages hs gs

met_front : (hs gs : List Happening) (ms : List (ℕ × (ℕ × ℕ))) → AreMet hs ms → AreMet (hs ++ gs) ms
met_front hs gs [] h = tt
met_front hs gs (m ∷ ms) h = (slice_get_front hs gs m.0 (Met m.1.0 m.1.1) h.0, met_front hs gs ms h.1)

met_both : (hs : List Happening) (ms ns : List (ℕ × (ℕ × ℕ))) → AreMet hs ms → AreMet hs ns → AreMet hs (ms ++ ns)
met_both hs [] ns h k = k
met_both hs (m ∷ ms) ns h k = (h.0, met_both hs ms ns h.1 k)

-- what was met stands below the next place
pub met_below : (hs : List Happening) (ms : List (ℕ × (ℕ × ℕ))) → AreMet hs ms → LieBelow (length hs) ms
met_below hs [] h = tt
met_below hs (m ∷ ms) h = (slice_get_within hs m.0 (Met m.1.0 m.1.1) h.0, met_below hs ms h.1)

-- ---- how often a claim was made

times_more : (c : Option ℕ × ℕ) (xs ys : List (Option ℕ × ℕ)) → times_of c (xs ++ ys) ≡ times_of c xs + times_of c ys
times_more c [] ys = omega arith
times_more c (x ∷ xs) ys = let h = times_more c xs ys in omega arith

module _ {E X F : Type 0} where
  claimed_set : (c : Option ℕ × ℕ) (vs : List (View E X F)) (i : ℕ) (v w : View E X F) → get_elem? vs i ≡ some v → times_claimed c (set vs i w) + times_of c v.knowledge.claims ≡ times_claimed c vs + times_of c w.knowledge.claims
  claimed_set c [] i v w e = absurd (some-ne-none v (sym e))
  claimed_set c (x ∷ xs) zero v w e = let h : times_of c x.knowledge.claims ≡ times_of c v.knowledge.claims = ap (λ (z : View E X F). times_of c z.knowledge.claims) (some-injective x v e) in omega arith
  claimed_set c (x ∷ xs) (suc i) v w e = let h = claimed_set c xs i v w e in omega arith

  pub claimed_longer : (c : Option ℕ × ℕ) (vs : List (View E X F)) (t : View E X F) → times_claimed c (vs ++ t ∷ []) ≡ times_claimed c vs + times_of c t.knowledge.claims
  claimed_longer c [] t = omega arith
  claimed_longer c (v ∷ vs) t = let h = claimed_longer c vs t in omega arith

  -- where no other made one, all are this one's
  none_claimed : (c : Option ℕ × ℕ) (vs : List (View E X F)) → ((j : ℕ) (u : View E X F) → get_elem? vs j ≡ some u → times_of c u.knowledge.claims ≡ 0) → times_claimed c vs ≡ 0
  none_claimed c [] none = refl
  none_claimed c (v ∷ vs) none = let h = none 0 v refl in let r = none_claimed c vs (λ j u e. none (suc j) u e) in omega arith

  pub only_claimed : (c : Option ℕ × ℕ) (vs : List (View E X F)) (i : ℕ) (v : View E X F) → get_elem? vs i ≡ some v → ((j : ℕ) (u : View E X F) → get_elem? vs j ≡ some u → j ≢ i → times_of c u.knowledge.claims ≡ 0) → times_claimed c vs ≡ times_of c v.knowledge.claims
  only_claimed c [] i v e others = absurd (some-ne-none v (sym e))
  only_claimed c (x ∷ xs) zero v e others =
      let h : times_of c x.knowledge.claims ≡ times_of c v.knowledge.claims = ap (λ (z : View E X F). times_of c z.knowledge.claims) (some-injective x v e) in
      let r = none_claimed c xs (λ j u q. others (suc j) u q (λ z. absurd (omega arith))) in omega arith
  only_claimed c (x ∷ xs) (suc i) v e others =
      let h = others 0 x refl (λ z. absurd (omega arith)) in
      let r = only_claimed c xs i v e (λ j u q ne. others (suc j) u q (λ z. ne (pred j i z))) in omega arith
    where
      pred : (j i : ℕ) → suc j ≡ suc i → j ≡ i
      pred j i z = omega arith

  -- ---- over all holds

  module _ (pages : ℕ) (bear bear' : ℕ → ℕ) (views : List (View E X F)) (id : ℕ) (v w : View E X F) (at : get_elem? views id ≡ some v) (r : HaveHistory pages bear views) where
    -- more happened, and the view of one hold became another by it
    history_more : (more : List Happening) → IsHistory (numbers_after all_free r.happened) more → ((k : ℕ) → k ≤ pages → numbers_after (numbers_after all_free r.happened) more k ≡ bear' k)
        → ((c : Option ℕ × ℕ) → times_of c w.knowledge.claims ≡ times_of c (claims_in pages more) + times_of c v.knowledge.claims) → AreMet (r.happened ++ more) w.knowledge.meets → HaveHistory pages bear' (set views id w)
    history_more more may now claims meets = record {
      happened = r.happened ++ more;
      history = history_all all_free r.happened more r.history may;
      now = λ k low. ap (λ (f : ℕ → ℕ). f k) (numbers_all all_free r.happened more) ∙ now k low;
      counted = λ c. let p = claims_all c pages r.happened more in let q = r.counted c in let s = claimed_set c views id v w at in let t = claims c in omega arith;
      met = λ i u e. ⊎_elim
          (λ (t : (i ≡ id) × (w ≡ u)). subst (λ (z : View E X F). AreMet (r.happened ++ more) z.knowledge.meets) t.1 meets)
          (λ (t : (i ≢ id) × (get_elem? views i ≡ some u)). met_front r.happened more u.knowledge.meets (r.met i u t.1))
          (at_set views id i w u e);
    }

    had_met : (more : List Happening) → w.knowledge.meets ≡ v.knowledge.meets → AreMet (r.happened ++ more) w.knowledge.meets
    had_met more meets = subst (AreMet (r.happened ++ more)) (sym meets) (met_front r.happened more v.knowledge.meets (r.met id v at))

    -- nothing happened
    pub history_on : ((k : ℕ) → k ≤ pages → bear' k ≡ bear k) → w.knowledge.claims ≡ v.knowledge.claims → w.knowledge.meets ≡ v.knowledge.meets → HaveHistory pages bear' (set views id w)
    history_on same claims meets = history_more [] tt (λ k low. r.now k low ∙ sym (same k low)) (λ c. let h = ap (times_of c) claims in omega arith) (had_met [] meets)

    -- the hold claimed the word
    pub history_claim : (word number : ℕ) → word ≤ pages → 0 < number → bear word ≡ 0 → bear' word ≡ number → ((k : ℕ) → k ≢ word → bear' k ≡ bear k) → w.knowledge.claims ≡ (page_at pages word, number) ∷ v.knowledge.claims → w.knowledge.meets ≡ v.knowledge.meets → HaveHistory pages bear' (set views id w)
    history_claim word number low above free is else claims meets = history_more (Claimed word number ∷ []) ((above, r.now word low ∙ free), tt)
        (λ k within. dite (ℕ_discrete word k)
        (λ (e : word ≡ k). if_same word k number (numbers_after all_free r.happened k) e ∙ sym is ∙ ap bear' e)
        (λ ne. if_other word k number (numbers_after all_free r.happened k) ne ∙ r.now k within ∙ sym (else k (λ q. ne (sym q)))))
        (λ c. let h = ap (times_of c) claims in omega arith)
        (had_met (Claimed word number ∷ []) meets)

    -- it gave the word back
    pub history_drop : (word : ℕ) → word ≤ pages → bear word ≢ 0 → bear' word ≡ 0 → ((k : ℕ) → k ≢ word → bear' k ≡ bear k) → w.knowledge.claims ≡ v.knowledge.claims → w.knowledge.meets ≡ v.knowledge.meets → HaveHistory pages bear' (set views id w)
    history_drop word low taken is else claims meets = history_more (GivenBack word ∷ []) ((λ e. taken (sym (r.now word low) ∙ e)), tt)
        (λ k within. dite (ℕ_discrete word k)
        (λ (e : word ≡ k). if_same word k 0 (numbers_after all_free r.happened k) e ∙ sym is ∙ ap bear' e)
        (λ ne. if_other word k 0 (numbers_after all_free r.happened k) ne ∙ r.now k within ∙ sym (else k (λ q. ne (sym q)))))
        (λ c. let h = ap (times_of c) claims in omega arith)
        (had_met (GivenBack word ∷ []) meets)

    -- it met this number in the word
    pub history_meet : (word number : ℕ) → word ≤ pages → 0 < number → bear word ≡ number → ((k : ℕ) → k ≤ pages → bear' k ≡ bear k) → w.knowledge.claims ≡ v.knowledge.claims → w.knowledge.meets ≡ v.knowledge.meets ++ (length r.happened, (word, number)) ∷ [] → HaveHistory pages bear' (set views id w)
    history_meet word number low above is same claims meets = history_more (Met word number ∷ []) ((above, r.now word low ∙ is), tt)
        (λ k within. r.now k within ∙ sym (same k within))
        (λ c. let h = ap (times_of c) claims in omega arith)
        (subst (AreMet (r.happened ++ Met word number ∷ [])) (sym meets) (met_both (r.happened ++ Met word number ∷ []) v.knowledge.meets ((length r.happened, (word, number)) ∷ []) (met_front r.happened (Met word number ∷ []) v.knowledge.meets (r.met id v at)) (slice_get_next r.happened (Met word number), tt)))

  -- the hold at i takes in the one at k
  pub history_join : (pages : ℕ) (bear : ℕ → ℕ) (views : List (View E X F)) (i k : ℕ) (v w : View E X F) → get_elem? views i ≡ some v → get_elem? views k ≡ some w → k ≢ i → HaveHistory pages bear views → HaveHistory pages bear (set (set views i (joined v w)) k nobody)
  history_join pages bear views i k v w at at' apart r =
      let l : View E X F = joined v w in
      let rows : List (View E X F) = set views i l in record {
        happened = r.happened;
        history = r.history;
        now = r.now;
        counted = λ c.
            let p = r.counted c in
            let q = claimed_set c views i v l at in
            let s = claimed_set c rows k w nobody (set_else views i k l apart ∙ at') in
            let t = times_more c v.knowledge.claims w.knowledge.claims in omega arith;
        met = λ j u e. ⊎_elim
            (λ (q : (j ≡ k) × (nobody ≡ u)). subst (λ (z : View E X F). AreMet r.happened z.knowledge.meets) q.1 tt)
            (λ (q : (j ≢ k) × (get_elem? rows j ≡ some u)). ⊎_elim
            (λ (p : (j ≡ i) × (l ≡ u)). subst (λ (z : View E X F). AreMet r.happened z.knowledge.meets) p.1 (met_both r.happened v.knowledge.meets w.knowledge.meets (r.met i v at) (r.met k w at')))
            (λ (p : (j ≢ i) × (get_elem? views j ≡ some u)). r.met j u p.1)
            (at_set views i j l u q.1))
            (at_set rows k j nobody u e);
      }

-- ---- at the start

-- the words below m were claimed by the first hold, one after another
abbrev pub in_hand : ℕ → List Happening
in_hand zero = []
in_hand (suc m) = Claimed m 1 ∷ in_hand m

may_hand : (m : ℕ) (bears : ℕ → ℕ) → ((k : ℕ) → k < m → bears k ≡ 0) → IsHistory bears (in_hand m)
may_hand zero bears free = tt
may_hand (suc m) bears free = ((omega arith, free m (omega arith)), may_hand m (after bears (Claimed m 1)) (λ k low. if_other m k 1 (bears k) (λ e. omega (arith, low, e)) ∙ free k (omega (arith, low))))

pub free_hand : (m : ℕ) → IsHistory all_free (in_hand m)
free_hand m = may_hand m all_free (λ k low. refl)

kept_hand : (m : ℕ) (bears : ℕ → ℕ) (k : ℕ) → m ≤ k → numbers_after bears (in_hand m) k ≡ bears k
kept_hand zero bears k high = refl
kept_hand (suc m) bears k high = kept_hand m (after bears (Claimed m 1)) k (omega (arith, high)) ∙ if_other m k 1 (bears k) (λ e. omega (arith, high, e))

pub number_hand : (m : ℕ) (bears : ℕ → ℕ) (k : ℕ) → k < m → numbers_after bears (in_hand m) k ≡ 1
number_hand zero bears k low = absurd (omega (arith, low))
number_hand (suc m) bears k low = dite (ℕ_discrete m k)
    (λ (e : m ≡ k). kept_hand m (after bears (Claimed m 1)) k (omega (arith, e)) ∙ if_same m k 1 (bears k) e)
    (λ ne. number_hand m (after bears (Claimed m 1)) k (omega (arith, low, ne)))

claims_onto : {F : Type 0} (n : ℕ) (ps : List (ℕ × F)) (p : ℕ) (fs : List F) → p + length fs ≤ n → claims_of 1 ps ≡ claims_in n (in_hand p) → claims_of 1 (pages_onto ps p fs) ≡ claims_in n (in_hand (p + length fs))
claims_onto n ps p [] low is = let e : p ≡ p + 0 = omega arith in is ∙ ap (λ (m : ℕ). claims_in n (in_hand m)) e
claims_onto {F} n ps p (f ∷ fs) low is =
    let e : p + 1 + length fs ≡ p + length (f ∷ fs) = omega arith in
    let next : suc p ≡ p + 1 = omega arith in
    let here : Some p ≡ page_at n p = sym (page_at_page n p (omega (arith, low))) in
    let more : claims_of 1 ((p, f) ∷ ps) ≡ claims_in n (in_hand (suc p)) = λ i. (here i, 1) ∷ is i in
    claims_onto n ((p, f) ∷ ps) (p + 1) fs (omega (arith, low)) (more ∙ ap (λ (m : ℕ). claims_in n (in_hand m)) next) ∙ ap (λ (m : ℕ). claims_in n (in_hand m)) e

-- they are those that the first hold knows
pub claims_hand : {F : Type 0} (fs : List F) → claims_in (length fs) (in_hand (suc (length fs))) ≡ (None, 1) ∷ claims_of 1 (pages_onto [] 0 fs) ++ []
claims_hand fs =
    let n : ℕ = length fs in
    let cs : List (Option ℕ × ℕ) = claims_of 1 (pages_onto [] 0 fs) in
    let e : 0 + n ≡ n = omega arith in
    let all : claims_in n (in_hand n) ≡ cs ++ [] = ap (λ (m : ℕ). claims_in n (in_hand m)) (sym e) ∙ sym (claims_onto n [] 0 fs (omega arith) refl) ∙ sym (append-nil cs) in
    λ i. (page_at_log n i, 1) ∷ all i
