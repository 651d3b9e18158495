-- Two logs of which one pass keeps all are one.
use Rattle.std.proofs.Common.{◌≡◌, ◌≢◌, ℕ, ◌+◌, ◌<◌, ◌≤◌, List, [], ◌∷◌, length, Some, refl, sym, ap, ◌∙◌, arith, ⊎_elim}
use Rattle.std.specs.Prelude.{slice_get}
use Rattle.std.proofs.lemmas.Bool.{cases_eq, cases_lt, ne_eqb}
use Rattle.std.proofs.lemmas.List.{same_lists}
use Rattle.std.proofs.lemmas.Option.{slice_get_within, get_or_from_slice_get}
use Rattle.latch_table.specs.Rule.{AreAt, KeepsEachOnce, LieBelow, times_in, one_if}

module _ {E : Type 0} where
  -- each place of the log is kept, once or more often
  abbrev pub Covers : List E → List (ℕ × E) → Type 0
  Covers log kept = (p : ℕ) → p < length log → 1 ≤ times_in p kept

  -- the note at a place that is kept, in each log that it agrees with
  kept-there : (l m : List E) (kept : List (ℕ × E)) → AreAt l kept → AreAt m kept → (p : ℕ) → 1 ≤ times_in p kept → (x : E) × (slice_get l p ≡ Some x) × (slice_get m p ≡ Some x)
  kept-there l m [] a b p more = absurd (omega (arith, more))
  kept-there l m (k ∷ kept) a b p more =
      ⊎_elim
      (λ (e : k.0 ≡ p). (k.1, ap (slice_get l) (sym e) ∙ a.0, ap (slice_get m) (sym e) ∙ b.0))
      (λ (n : k.0 ≢ p).
      let rest : times_in p (k ∷ kept) ≡ 0 + times_in p kept = ap (λ c. one_if c + times_in p kept) (ne_eqb k.0 p n) in
      kept-there l m kept a.1 b.1 p (omega (arith, rest, more)))
      (cases_eq k.0 p)

  no_longer : (l m : List E) (kept : List (ℕ × E)) → AreAt l kept → AreAt m kept → Covers l kept → length l ≤ length m
  no_longer l m kept a b covers =
      ⊎_elim
      (λ (longer : length m < length l).
      let there = kept-there l m kept a b (length m) (covers (length m) longer) in
      let within = slice_get_within m (length m) there.0 there.2 in
      absurd (omega (arith, within)))
      (λ (h : length l ≤ length m). h)
      (cases_lt (length m) (length l))

  -- one pass keeps each place of both, and what it keeps stands in both
  pub same-log : (l m : List E) (kept : List (ℕ × E)) → AreAt l kept → AreAt m kept → Covers l kept → Covers m kept → l ≡ m
  same-log l m kept a b more others =
      let up = no_longer l m kept a b more in
      let down = no_longer m l kept b a others in
      same_lists l m (omega (arith, up, down)) (λ k d within.
      let there = kept-there l m kept a b k (more k within) in
      get_or_from_slice_get l k there.0 d there.1 ∙ sym (get_or_from_slice_get m k there.0 d there.2))

  -- the same, where each place is kept once
  pub same-log_once : (l m : List E) (kept : List (ℕ × E)) → AreAt l kept → AreAt m kept → KeepsEachOnce l kept → KeepsEachOnce m kept → l ≡ m
  same-log_once l m kept a b once others =
      same-log l m kept a b (λ p h. let one = once p h in omega (arith, one)) (λ p h. let one = others p h in omega (arith, one))

  -- ---- how far a pass has seen

  none-above : (n : ℕ) (kept : List (ℕ × E)) → LieBelow n kept → times_in n kept ≡ 0
  none-above n [] l = refl
  none-above n (k ∷ kept) l =
      let low = l.0 in
      let rest : times_in n (k ∷ kept) ≡ 0 + times_in n kept = ap (λ c. one_if c + times_in n kept) (ne_eqb k.0 n (λ e. absurd (omega (arith, low, e)))) in
      let none = none-above n kept l.1 in
      omega (arith, rest, none)

  -- a pass that keeps each place of the log, and none from this one on, has seen it to its end
  pub seen-all : (n : ℕ) (log : List E) (kept : List (ℕ × E)) → LieBelow n kept → KeepsEachOnce log kept → n ≤ length log → n ≡ length log
  seen-all n log kept below once h =
      ⊎_elim
      (λ (l : n < length log).
      let none = none-above n kept below in
      let one = once n l in
      absurd (omega (arith, none, one)))
      (λ (g : length log ≤ n). omega (arith, g, h))
      (cases_lt n (length log))
