-- What keeps a sweep in step.
use Rattle.std.proofs.Common.{◌≡◌, ℕ, zero, suc, ◌+◌, ◌<◌, ◌≤◌, List, [], ◌∷◌, length, drop, get_or, refl, sym, ap, ◌∙◌, subst, arith, ⊎_elim}
use Rattle.std.specs.Prelude.{Contains}
use Rattle.std.proofs.lemmas.List.{drop_more, drop_all, length-drop, get_or_default}
use Rattle.store_model.specs.Sound.{IsOnce}
use Rattle.store_model.proofs.Lists.{Contains-here, Contains-later}
use Rattle.store_model.proofs.StepLaws.{Contains-cons}
use Rattle.store_model.proofs.OnceLaws.{once-rest, once-first, once-none}
use Rattle.green_walk.specs.declared.sweep.SweepAt.TheVariants.{Slots, Free, End}
use Rattle.green_walk.specs.declared.sweep.Found.TheVariants.{Made}
use Rattle.green_walk.specs.Sweeping.{IsSweep, AreInStep, first_of, next, found, found_at, unfreed, sweeping_of}
use Rattle.green_walk.specs.Laws.{EmptyLaw, FreeLaw}

once-drop : (n : ℕ) (xs : List ℕ) → IsOnce xs → IsOnce (drop n xs)
once-drop zero xs once = once
once-drop (suc n) [] once = once-none
once-drop (suc n) (x ∷ xs) once = once-drop n xs (once-rest x xs once)

slots-first : (xs ys : List ℕ) (id : ℕ) → first_of xs ys ≡ Slots id → (rest : List ℕ) × (xs ≡ id ∷ rest)
slots-first [] [] id e = absurd (cc)
slots-first [] (y ∷ ys) id e = absurd (cc)
slots-first (x ∷ xs) ys id e = (xs, cc)

pub free-first : (xs ys : List ℕ) (id : ℕ) → first_of xs ys ≡ Free id → (xs ≡ []) × (rest : List ℕ) × (ys ≡ id ∷ rest)
free-first [] [] id e = absurd (cc)
free-first [] (y ∷ ys) id e = (refl, ys, cc)
free-first (x ∷ xs) ys id e = absurd (cc)

pub drop-some : (n : ℕ) (xs : List ℕ) (x : ℕ) (rest : List ℕ) → drop n xs ≡ x ∷ rest → (n < length xs) × (get_or xs n 0 ≡ x) × (drop (n + 1) xs ≡ rest)
drop-some n xs x rest e =
    let l = length-drop n xs in
    let s : length (drop n xs) ≡ suc (length rest) = ap length e in
    let within : n < length xs = omega (arith, l, s) in
    let m = drop_more xs n 0 within in
    (within, cc, cc)

pub empty-law : EmptyLaw
empty-law s id k e =
    let f = slots-first (drop s.emptied s.list) (unfreed s) id e in
    let d = drop-some s.emptied s.list id f.0 f.1 in
    (ap (λ n. drop n s.list) (k.late d.0), (s.emptied, d.0, get_or_default s.list s.emptied id 0 d.0 ∙ d.1))

pub free-law : FreeLaw
free-law s id k e =
    let f = free-first (drop s.emptied s.list) (unfreed s) id e in
    let d = drop-some s.freed s.list id f.1 f.2 in
    let once = once-drop s.freed s.list k.ids.once in
    let after : unfreed (found s (Made id)) ≡ f.1 = ap (λ at. unfreed (found_at s at (Made id))) e ∙ d.2 in
    let first = once-first id f.1 (subst IsOnce f.2 once) in (
      subst (λ xs. Contains xs id) (sym f.2) (Contains-here id f.1),
      once,
      record {
        others = λ x m. let n = subst (λ xs. Contains xs x) after m in (subst (λ xs. Contains xs x) (sym f.2) (Contains-later id f.1 x n), λ same. first (subst (λ y. Contains f.1 y) same n));
        rest = λ x m other. subst (λ xs. Contains xs x) (sym after) (⊎_elim (λ (same : id ≡ x). absurd (other (sym same))) (λ n. n) (Contains-cons id f.1 x (subst (λ xs. Contains xs x) f.2 m)));
      },
    )

-- ---- the parts

module _ (list : List ℕ) (emptied freed limit capacity : ℕ) (k : AreInStep list emptied freed limit capacity) where
  pub sweep-holds : IsSweep (sweeping_of list emptied freed limit)
  sweep-holds = record { ids = k.ids; late = k.late }

  pub slots-next : emptied < length list → Slots (get_or list emptied 0) ≡ next (sweeping_of list emptied freed limit)
  slots-next l = sym (ap (λ xs. first_of xs (drop freed list)) (drop_more list emptied 0 l))

  pub free-next : length list ≤ emptied → freed < length list → Free (get_or list freed 0) ≡ next (sweeping_of list emptied freed limit)
  free-next m l = sym (ap (λ xs. first_of xs (drop freed list)) (drop_all emptied list m) ∙ ap (λ ys. first_of [] ys) (drop_more list freed 0 l))

  pub end-next : length list ≤ emptied → length list ≤ freed → End ≡ next (sweeping_of list emptied freed limit)
  end-next m l = sym (ap (λ xs. first_of xs (drop freed list)) (drop_all emptied list m) ∙ ap (λ ys. first_of [] ys) (drop_all freed list l))

  -- a removed reference leaves the sweep where it is
  pub made-slots : (id : ℕ) → emptied < length list → sweeping_of list emptied freed limit ≡ found (sweeping_of list emptied freed limit) (Made id)
  made-slots id l = ap (λ at. found_at (sweeping_of list emptied freed limit) at (Made id)) (slots-next l)
