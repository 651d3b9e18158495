-- What a history has of a meeting: the word was claimed under the number that was found.
use Rattle.std.proofs.Common.{◌≡◌, ◌⊎◌, ◌&&◌, eq-eqb, ℕ, zero, suc, ◌<◌, List, [], ◌∷◌, Option, Some, None, Bool, true, false, inl, inr, ⊎_elim, refl, sym, ap, ◌∙◌, subst, arith}
use Rattle.std.specs.Prelude.{slice_get, ◌==◌}
use Rattle.std.specs.List.{Contains}
use Rattle.std.proofs.lemmas.Bool.{cases_eq, eqb-true}
use Rattle.latch_table.specs.declared.view.Happening.{Happening}
use Rattle.latch_table.specs.declared.view.Happening.TheVariants.{Claimed, GivenBack, Met}
use Rattle.latch_table.specs.declared.view.View.{View}
use Rattle.latch_table.specs.Rule.{page_at, one_if, after, MayHappen, IsHistory, all_free, claims_in, is_page, times_of, AreMet, HaveHistory, MetClaimed}
use Rattle.latch_table.proofs.Frames.{if_same, if_other, some_is}
use Rattle.latch_table.proofs.Stations.{bool_cases, no_true}

-- ---- a claim that is counted is there

page_self : (p : Option ℕ) → is_page p p ≡ true
page_self None = refl
page_self (Some p) = eq-eqb p p refl

page_same : (p q : Option ℕ) → is_page p q ≡ true → p ≡ q
page_same None None e = refl
page_same None (Some q) e = no_true false refl e
page_same (Some p) None e = no_true false refl e
page_same (Some p) (Some q) e = ap Some (eqb-true p q e)

both : (b c : Bool) → (b && c) ≡ true → (b ≡ true) × (c ≡ true)
both true c e = (refl, e)
both false c e = no_true false refl e

counts_self : (c : Option ℕ × ℕ) → one_if (is_page c.0 c.0 && (c.1 == c.1)) ≡ 1
counts_self c = ap (λ (b : Bool). one_if (b && (c.1 == c.1))) (page_self c.0) ∙ ap one_if (eq-eqb c.1 c.1 refl)

there : (c : Option ℕ × ℕ) (xs : List (Option ℕ × ℕ)) → 0 < times_of c xs → Contains xs c
there c [] low = absurd (omega (arith, low))
there c (x ∷ xs) low = ⊎_elim
    (λ (e : (is_page x.0 c.0 && (x.1 == c.1)) ≡ true). let h = both (is_page x.0 c.0) (x.1 == c.1) e in (0, omega arith, λ i. (page_same x.0 c.0 h.0 i, eqb-true x.1 c.1 h.1 i)))
    (λ (e : (is_page x.0 c.0 && (x.1 == c.1)) ≡ false). let none : one_if (is_page x.0 c.0 && (x.1 == c.1)) ≡ 0 = ap one_if e in let h = there c xs (omega (arith, low, none)) in (suc h.0, omega (arith, h.1), h.2))
    (bool_cases (is_page x.0 c.0 && (x.1 == c.1)))

-- ---- what was met was claimed

met_low : (bears : ℕ → ℕ) (hs : List Happening) (place k n : ℕ) → IsHistory bears hs → slice_get hs place ≡ Some (Met k n) → 0 < n
met_low bears [] place k n h e = absurd (cc)
met_low bears (x ∷ hs) zero k n h e = (subst (MayHappen bears) (some_is x (Met k n) e) h.0).0
met_low bears (x ∷ hs) (suc i) k n h e = met_low (after bears x) hs i k n h.1 e

-- the word bore the number before these, or was claimed under it
found_claimed : (pages : ℕ) (bears : ℕ → ℕ) (hs : List Happening) (place k n : ℕ) → 0 < n → IsHistory bears hs → slice_get hs place ≡ Some (Met k n) → (bears k ≡ n) ⊎ (0 < times_of (page_at pages k, n) (claims_in pages hs))
found_claimed pages bears [] place k n low h e = absurd (cc)
found_claimed pages bears (x ∷ hs) zero k n low h e = inl (subst (MayHappen bears) (some_is x (Met k n) e) h.0).1
found_claimed pages bears (Claimed w m ∷ hs) (suc i) k n low h e = elim (found_claimed pages (after bears (Claimed w m)) hs i k n low h.1 e) [
  | inl is ↦ elim (cases_eq w k) [
    | inl q ↦ (let same : m ≡ n = sym (if_same w k m (bears k) q) ∙ is in
        let one : one_if (is_page (page_at pages w) (page_at pages k) && (m == n)) ≡ 1 = ap (λ (x : Option ℕ × ℕ). one_if (is_page x.0 (page_at pages k) && (x.1 == n))) (λ i. (page_at pages (q i), same i)) ∙ counts_self (page_at pages k, n) in
        inr (omega (arith, one)))
    | inr ne ↦ inl (sym (if_other w k m (bears k) ne) ∙ is)
  ]
  | inr more ↦ inr (omega (arith, more))
]
found_claimed pages bears (GivenBack w ∷ hs) (suc i) k n low h e = elim (found_claimed pages (after bears (GivenBack w)) hs i k n low h.1 e) [
  | inl is ↦ elim (cases_eq w k) [
    | inl q ↦ absurd (let none : 0 ≡ n = sym (if_same w k 0 (bears k) q) ∙ is in omega (arith, low, none))
    | inr ne ↦ inl (sym (if_other w k 0 (bears k) ne) ∙ is)
  ]
  | inr more ↦ inr more
]
found_claimed pages bears (Met w m ∷ hs) (suc i) k n low h e = found_claimed pages (after bears (Met w m)) hs i k n low h.1 e

met_in : (hs : List Happening) (ms : List (ℕ × (ℕ × ℕ))) (m : ℕ × (ℕ × ℕ)) → AreMet hs ms → Contains ms m → slice_get hs m.0 ≡ Some (Met m.1.0 m.1.1)
met_in hs [] m h (i, low, e) = absurd (omega (arith, low))
met_in hs (x ∷ ms) m h (zero, low, e) = subst (λ (z : ℕ × (ℕ × ℕ)). slice_get hs z.0 ≡ Some (Met z.1.0 z.1.1)) e h.0
met_in hs (x ∷ ms) m h (suc i, low, e) = met_in hs ms m h.1 (i, omega (arith, low), e)

-- so one hold that knows of all claims knows of each word that it met
pub met_claimed : {E X F : Type 0} (pages : ℕ) (v : View E X F) → HaveHistory pages all_free (v ∷ []) → MetClaimed pages v
met_claimed pages v r m c =
    let stands = met_in r.happened v.knowledge.meets m (r.met 0 v refl) c in
    let low = met_low all_free r.happened m.0 m.1.0 m.1.1 r.history stands in
    let count = r.counted (page_at pages m.1.0, m.1.1) in
    there (page_at pages m.1.0, m.1.1) v.knowledge.claims (⊎_elim
    (λ (none : 0 ≡ m.1.1). absurd (omega (arith, low, none)))
    (λ (some : 0 < times_of (page_at pages m.1.0, m.1.1) (claims_in pages r.happened)). omega (arith, some, count))
    (found_claimed pages all_free r.happened m.0 m.1.0 m.1.1 low r.history stands))
