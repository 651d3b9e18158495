-- The frames of all pages, in order of their pages.
use Rattle.std.proofs.Common.{◌≡◌, ◌≢◌, ℕ, zero, suc, ◌+◌, ◌<◌, ◌≤◌, true, false, List, [], ◌∷◌, ◌++◌, length, get_or, set, drop, refl, sym, ap, ◌∙◌, inl, inr, arith}
use Rattle.std.specs.Prelude.{◌==◌, ◌&&◌}
use Rattle.std.proofs.lemmas.Bool.{ne_eqb, eq-eqb, cases_Bool}
use Rattle.std.proofs.lemmas.List.{drop_more, drop_all}
use Rattle.core_store.specs.declared.frame.Frame.{Frame}
use Rattle.core_store.specs.declared.three.HeldFrame.{HeldFrame}
use Rattle.core_store.specs.Frames.{pages_held, is_page_among, are_all_among, is_held, AreOnce, numbered}

pub length-numbered : {slots : ℕ} (n : ℕ) (fs : List (Frame slots)) → length (numbered n fs) ≡ length fs
length-numbered n [] = refl
length-numbered n (f ∷ fs) = ap suc (length-numbered (n + 1) fs)

-- a frame more at the end has the number after the last
pub numbered-append : {slots : ℕ} (n : ℕ) (fs gs : List (Frame slots)) → numbered n (fs ++ gs) ≡ numbered n fs ++ numbered (n + length fs) gs
numbered-append n [] gs = let e : n ≡ n + 0 = omega arith in ap (λ (m : ℕ). numbered m gs) e
numbered-append {slots} n (f ∷ fs) gs =
    let e : n + 1 + length fs ≡ n + suc (length fs) = omega arith in
    let h : HeldFrame slots = record { page = n; frame = f } in
    ap (λ (hs : List (HeldFrame slots)). h ∷ hs) (numbered-append (n + 1) fs gs ∙ ap (λ (m : ℕ). numbered (n + 1) fs ++ numbered m gs) e)

-- the frame at a place has the number of the place
pub numbered-at : {slots : ℕ} (n : ℕ) (fs : List (Frame slots)) (k : ℕ) (d : HeldFrame slots) (e : Frame slots) → k < length fs → get_or (numbered n fs) k d ≡ record { page = n + k; frame = get_or fs k e }
numbered-at n [] k d e within = absurd (omega (arith, within))
numbered-at {slots} n (f ∷ fs) zero d e within =
    let same : n ≡ n + 0 = omega arith in
    ap (λ (m : ℕ). let h : HeldFrame slots = record { page = m; frame = f } in h) same
numbered-at {slots} n (f ∷ fs) (suc k) d e within =
    let same : n + 1 + k ≡ n + suc k = omega arith in
    numbered-at (n + 1) fs k d e (omega (arith, within)) ∙ ap (λ (m : ℕ). let h : HeldFrame slots = record { page = m; frame = get_or fs k e } in h) same

pub numbered-set : {slots : ℕ} (n : ℕ) (fs : List (Frame slots)) (k : ℕ) (g : Frame slots) → k < length fs → numbered n (set fs k g) ≡ set (numbered n fs) k (record { page = n + k; frame = g })
numbered-set n [] k g within = absurd (omega (arith, within))
numbered-set {slots} n (f ∷ fs) zero g within =
    let same : n ≡ n + 0 = omega arith in
    ap (λ (m : ℕ). let h : HeldFrame slots = record { page = m; frame = g } in h ∷ numbered (n + 1) fs) same
numbered-set {slots} n (f ∷ fs) (suc k) g within =
    let same : n + 1 + k ≡ n + suc k = omega arith in
    let h : HeldFrame slots = record { page = n; frame = f } in
    ap (λ (hs : List (HeldFrame slots)). h ∷ hs) (numbered-set (n + 1) fs k g (omega (arith, within)) ∙ ap (λ (m : ℕ). set (numbered (n + 1) fs) k (record { page = m; frame = g })) same)

-- ---- which pages are held

pub numbered-below : {slots : ℕ} (n : ℕ) (fs : List (Frame slots)) (p : ℕ) → p < n → is_held (numbered n fs) p ≡ false
numbered-below n [] p below = refl
numbered-below n (f ∷ fs) p below = rw (ne_eqb n p (λ e. omega (arith, below, e)), numbered-below (n + 1) fs p (omega (arith, below))) refl

pub numbered-above : {slots : ℕ} (n : ℕ) (fs : List (Frame slots)) (p : ℕ) → n + length fs ≤ p → is_held (numbered n fs) p ≡ false
numbered-above n [] p above = refl
numbered-above n (f ∷ fs) p above = rw (ne_eqb n p (λ e. omega (arith, above, e)), numbered-above (n + 1) fs p (omega (arith, above))) refl

pub numbered-there : {slots : ℕ} (n : ℕ) (fs : List (Frame slots)) (p : ℕ) → n ≤ p → p < n + length fs → is_held (numbered n fs) p ≡ true
numbered-there n [] p from to = absurd (omega (arith, from, to))
numbered-there n (f ∷ fs) p from to =
    elim (cases_Bool (n == p)) [
      | inl e ↦ rw e refl
      | inr e ↦
          let other : n ≢ p = λ s. let same = eq-eqb n p s in absurd cc in
          rw e (numbered-there (n + 1) fs p (lower n p from other) (omega (arith, to)))
    ]
  where
    lower : (n p : ℕ) → n ≤ p → n ≢ p → n + 1 ≤ p
    lower n p from other = grind arith

pub numbered-once : {slots : ℕ} (n : ℕ) (fs : List (Frame slots)) → AreOnce (numbered n fs)
numbered-once n [] = tt
numbered-once n (f ∷ fs) = (numbered-below (n + 1) fs n (omega arith), numbered-once (n + 1) fs)

-- where none are held but those of all pages, which are as many
pub held-all : {slots : ℕ} (fs : List (Frame slots)) (hs : List (HeldFrame slots)) (p : ℕ) → p < length fs → is_held (numbered 0 fs ++ hs) p ≡ true
held-all fs hs p within = left (numbered 0 fs) hs p (numbered-there 0 fs p (omega arith) (omega (arith, within)))
  where
    left : {slots : ℕ} (gs hs : List (HeldFrame slots)) (p : ℕ) → is_held gs p ≡ true → is_held (gs ++ hs) p ≡ true
    left [] hs p e = absurd cc
    left (g ∷ gs) hs p e = elim (cases_Bool (g.page == p)) [
      | inl same ↦ rw same refl
      | inr other ↦ rw other (left gs hs p (rw other at e))
    ]

-- a page after them is held exactly where it is among the others
pub held-behind : {slots : ℕ} (fs : List (Frame slots)) (hs : List (HeldFrame slots)) (p : ℕ) → length fs ≤ p → is_held (numbered 0 fs ++ hs) p ≡ is_held hs p
held-behind fs hs p above = right (numbered 0 fs) hs p (numbered-above 0 fs p (omega (arith, above)))
  where
    right : {slots : ℕ} (gs hs : List (HeldFrame slots)) (p : ℕ) → is_held gs p ≡ false → is_held (gs ++ hs) p ≡ is_held hs p
    right [] hs p e = refl
    right (g ∷ gs) hs p e = elim (cases_Bool (g.page == p)) [
      | inl same ↦ absurd (let there : is_held (g ∷ gs) p ≡ true = rw same refl in cc)
      | inr other ↦ rw other (right gs hs p (rw other at e))
    ]

-- ---- whether they are among others

pub among-step : {slots : ℕ} (fs : List (Frame slots)) (k : ℕ) (ps : List ℕ) → k < length fs
    → are_all_among (pages_held (numbered k (drop k fs))) ps ≡ (is_page_among k ps && are_all_among (pages_held (numbered (k + 1) (drop (k + 1) fs))) ps)
among-step {slots} fs k ps within = first fs refl
  where
    first : (gs : List (Frame slots)) → gs ≡ fs → are_all_among (pages_held (numbered k (drop k fs))) ps ≡ (is_page_among k ps && are_all_among (pages_held (numbered (k + 1) (drop (k + 1) fs))) ps)
    first [] e = absurd (let none : length fs ≡ 0 = ap (length {A = Frame slots}) (sym e) in omega (arith, none, within))
    first (g ∷ gs) e =
        ap (λ (xs : List (Frame slots)). are_all_among (pages_held (numbered k xs)) ps) (drop_more fs k g within)

pub among-none : {slots : ℕ} (fs : List (Frame slots)) (k : ℕ) (ps : List ℕ) → length fs ≤ k → are_all_among (pages_held (numbered k (drop k fs))) ps ≡ true
among-none {slots} fs k ps beyond = rw (drop_all k fs beyond) refl

pub among-append : {slots : ℕ} (gs hs : List (HeldFrame slots)) (ps : List ℕ) → are_all_among (pages_held (gs ++ hs)) ps ≡ (are_all_among (pages_held gs) ps && are_all_among (pages_held hs) ps)
among-append [] hs ps = refl
among-append (g ∷ gs) hs ps = elim (cases_Bool (is_page_among g.page ps)) [
  | inl e ↦ rw (e, among-append gs hs ps) refl
  | inr e ↦ rw e refl
]
