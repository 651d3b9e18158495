-- What keeps a walk quiet: the cells after a pointer became weak, a slot that was looked at, and an object that joins.
use Rattle.std.proofs.Common.{◌≡◌, ◌≢◌, ℕ, ◌+◌, ◌<◌, ◌≤◌, Bool, true, false, not, cond, if◌then◌else◌, ◌==◌, List, [], ◌∷◌, length, slice_index_or, refl, sym, ap, ◌∙◌, subst, arith, ⊎_elim, ne_eqb}
use Rattle.std.specs.Prelude.{Contains, ◌&&◌}
use Rattle.std.proofs.Math.Bool.{and-false}
use Rattle.std.proofs.lemmas.Bool.{cases_eq, cases_lt, eqb-true}
use Rattle.std.proofs.lemmas.List.{get_or_append_left}
use Rattle.std.proofs.lemmas.List.Elements.{Contains-append_cases}
use Rattle.cell_model.specs.Cells.{Pointer, Cell, cell_at, pointer_at, is_live, is_strong, same, relinked, other_strength, hits, counted, IsExact}
use Rattle.cell_model.specs.Records.{HasPointer}
use Rattle.cell_model.proofs.EditLaws.{live-within, live-there}
use Rattle.cell_model.proofs.CountLaws.{relinked-bit, relinked-which, relinked-slot, relinked-counted}
use Rattle.store_model.proofs.OnceLaws.{nothing-in, only-one}
use Rattle.red_walk.specs.declared.red_at.RedAt.TheVariants as red
use Rattle.red_walk.specs.Walk.{Walk, first_of, moved, joined}
use Rattle.core_store.specs.Changes.{is_counted_strong}
use Rattle.quiet_rounds.specs.Quiet.{HasNoStrongIn, IsQuietWalk}

-- ---- bits

same-other : (a b : Bool) → same a b ≡ true → same a (not b) ≡ false
same-other true true e = refl
same-other true false e = absurd (cc)
same-other false true e = absurd (cc)
same-other false false e = refl

same-swapped : (a b : Bool) → same a b ≡ same b a
same-swapped true true = refl
same-swapped true false = refl
same-swapped false true = refl
same-swapped false false = refl

counted-own : (c : Cell) (bit : Bool) → c.bit ≡ bit → counted bit c ≡ c.strong
counted-own c bit e = subst (λ b. cond (same c.bit b) c.strong c.weak ≡ c.strong) e (by c.bit)
  where
    by : (b : Bool) → cond (same b b) c.strong c.weak ≡ c.strong
    by true = refl
    by false = refl

-- ---- the cells after a strong pointer became weak

abbrev pub weakened : List Cell → ℕ → ℕ → List Cell
weakened cells id slot = relinked cells id slot (other_strength (pointer_at cells id slot))

module _ (cells : List Cell) (id slot target : ℕ) (e : IsExact cells) (f : HasPointer cells id slot target true) (some : target ≢ 0) where
  weak-laid : is_strong cells (other_strength (pointer_at cells id slot)) ≡ false
  weak-laid = let p = pointer_at cells id slot in same-other (cell_at cells p.target).bit p.bit (f.strength some)

  -- the laid pointer is counted as weak
  not-hit : (b : ℕ) → hits b (cell_at cells b).bit (other_strength (pointer_at cells id slot)) ≡ 0
  not-hit b =
      let p = other_strength (pointer_at cells id slot) in
      ⊎_elim
      (λ (q : p.target ≡ b).
      let weak : same p.bit (cell_at cells b).bit ≡ false = same-swapped p.bit (cell_at cells b).bit ∙ subst (λ x. same (cell_at cells x).bit p.bit ≡ false) q weak-laid in
      ap (λ t. cond ((p.target == b) && t) 1 0) weak ∙ ap (λ t. cond t 1 0) (and-false (p.target == b)))
      (λ n. ap (λ t. cond (t && same p.bit (cell_at cells b).bit) 1 0) (ne_eqb p.target b n))
      (cases_eq p.target b)

  -- no object has more strong pointers to it
  pub weakened-less : (b : ℕ) → is_live cells b ≡ true → (cell_at (weakened cells id slot) b).strong ≤ (cell_at cells b).strong
  weakened-less b l =
      let bit = (cell_at cells b).bit in
      let counts = relinked-counted cells id slot (other_strength (pointer_at cells id slot)) b bit (live-there cells b e.none l) (live-within cells b l) in
      let now = counted-own (cell_at (weakened cells id slot) b) bit (relinked-bit cells id slot (other_strength (pointer_at cells id slot)) b) in
      let was = counted-own (cell_at cells b) bit refl in
      let z = not-hit b in
      omega (arith, counts, now, was, z)

  weakened-strong : (q : Pointer) → is_counted_strong (weakened cells id slot) q ≡ is_counted_strong cells q
  weakened-strong q = ap (λ b. not (q.target == 0) && same b q.bit) (relinked-bit cells id slot (other_strength (pointer_at cells id slot)) q.target)

  laid-weak : is_counted_strong (weakened cells id slot) (other_strength (pointer_at cells id slot)) ≡ false
  laid-weak =
      let p = other_strength (pointer_at cells id slot) in
      weakened-strong p ∙ (ap (λ b. not (p.target == 0) && b) weak-laid ∙ and-false (not (p.target == 0)))

  -- a slot without a strong pointer has none then
  weakened-none : (x k : ℕ) → is_counted_strong cells (pointer_at cells x k) ≡ false → is_counted_strong (weakened cells id slot) (pointer_at (weakened cells id slot) x k) ≡ false
  weakened-none x k h =
      ⊎_elim
      (λ w. ap (λ q. is_counted_strong (weakened cells id slot) q) w.2 ∙ laid-weak)
      (λ w. ap (λ q. is_counted_strong (weakened cells id slot) q) w ∙ (weakened-strong (pointer_at cells x k) ∙ h))
      (relinked-which cells id slot (other_strength (pointer_at cells id slot)) x k (live-there cells id e.none f.live) (live-within cells id f.live) f.within)

  -- nor has the slot itself
  pub weakened-here : is_counted_strong (weakened cells id slot) (pointer_at (weakened cells id slot) id slot) ≡ false
  weakened-here =
      ap (λ q. is_counted_strong (weakened cells id slot) q) (relinked-slot cells id slot (other_strength (pointer_at cells id slot)) (live-there cells id e.none f.live) (live-within cells id f.live) f.within)
      ∙ laid-weak

  -- a walk without copies stays quiet
  pub weakened-quiet : (slots : ℕ) (w : Walk) → ((x : ℕ) → Contains w.list x → is_live cells x ≡ true) → w.copies ≡ [] → IsQuietWalk slots cells w → IsQuietWalk slots (weakened cells id slot) w
  weakened-quiet slots w live uncopied q = record {
    untouched = q.untouched;
    zero = λ x m. let less = weakened-less x (live x m) in let z = q.zero x m in omega (arith, less, z);
    walked = λ place a b k l. weakened-none (slice_index_or w.list place 0) k (q.walked place a b k l);
    here = λ a k l. weakened-none (slice_index_or w.list w.place 0) k (q.here a k l);
    copies = λ x copy m. nothing-in (x, copy) (subst (λ l. Contains l (x, copy)) uncopied m);
  }

-- ---- a slot was looked at

-- the look is at the walk's slot
pub look-slot : (xs : List ℕ) (s : ℕ) (ys : List ℕ) (id slot : ℕ) → first_of xs s ys ≡ red.Look id slot → s ≡ slot
look-slot [] s [] id slot e = absurd (cc)
look-slot [] s (y ∷ ys) id slot e = absurd (cc)
look-slot (x ∷ xs) s ys id slot e = cc

-- where it holds no strong pointer, the walk at the next slot is quiet
pub moved-quiet : (slots : ℕ) (cells : List Cell) (w : Walk) → w.place < length w.list → is_counted_strong cells (pointer_at cells (slice_index_or w.list w.place 0) w.slot) ≡ false → IsQuietWalk slots cells w → IsQuietWalk slots cells (moved slots w)
moved-quiet slots cells w within weak q = by (w.slot + 1 == slots) refl
  where
    more : HasNoStrongIn cells (slice_index_or w.list w.place 0) (w.slot + 1)
    more k l =
        ⊎_elim
        (λ (e : k ≡ w.slot). subst (λ x. is_counted_strong cells (pointer_at cells (slice_index_or w.list w.place 0) x) ≡ false) (sym e) weak)
        (λ n. q.here within k (omega (arith, l, n)))
        (cases_eq k w.slot)

    by : (b : Bool) → (w.slot + 1 == slots) ≡ b → IsQuietWalk slots cells (if b then record w { place = w.place + 1; slot = 0 } else record w { slot = w.slot + 1 })
    by true e = record {
      untouched = q.untouched;
      zero = q.zero;
      walked = λ place a b. ⊎_elim
          (λ (f : place ≡ w.place).
          let all = eqb-true (w.slot + 1) slots e in
          subst (λ n. HasNoStrongIn cells (slice_index_or w.list place 0) n) all (subst (λ x. HasNoStrongIn cells (slice_index_or w.list x 0) (w.slot + 1)) (sym f) more))
          (λ n. q.walked place (omega (arith, a, n)) b)
          (cases_eq place w.place);
      here = λ a k l. absurd (omega (arith, l));
      copies = q.copies;
    }
    by false e = record { untouched = q.untouched; zero = q.zero; walked = q.walked; here = λ a. more; copies = q.copies }

-- it is in its list, or at the first slot after it
abbrev pub IsAtSlot : Walk → Type 0
IsAtSlot w = (w.place ≤ length w.list) × (w.place ≡ length w.list → w.slot ≡ 0)

pub moved-at : (slots : ℕ) (w : Walk) → w.place < length w.list → IsAtSlot (moved slots w)
moved-at slots w within = by (w.slot + 1 == slots)
  where
    by : (b : Bool) → IsAtSlot (if b then record w { place = w.place + 1; slot = 0 } else record w { slot = w.slot + 1 })
    by true = (omega (arith, within), λ e. refl)
    by false = (omega (arith, within), λ e. absurd (omega (arith, within, e)))

-- ---- an object joins

-- an object joins to which no strong pointer leads
pub joined-quiet : (slots : ℕ) (cells : List Cell) (w : Walk) (id : ℕ) → IsAtSlot w → (cell_at cells id).strong ≡ 0 → IsQuietWalk slots cells w → IsQuietWalk slots cells (joined w id)
joined-quiet slots cells w id at zero q = record {
  untouched = q.untouched;
  zero = λ x m. ⊎_elim (λ k. q.zero x k) (λ k. subst (λ y. (cell_at cells y).strong ≡ 0) (only-one id x k) zero) (Contains-append_cases w.list (id ∷ []) x m);
  walked = λ place a b k l.
      let most = at.0 in
      let early : place < length w.list = omega (arith, a, most) in
      subst (λ x. is_counted_strong cells (pointer_at cells x k) ≡ false) (sym (get_or_append_left w.list (id ∷ []) 0 place early)) (q.walked place a early k l);
  here = λ b k l. ⊎_elim
      (λ (early : w.place < length w.list). subst (λ x. is_counted_strong cells (pointer_at cells x k) ≡ false) (sym (get_or_append_left w.list (id ∷ []) 0 w.place early)) (q.here early k l))
      (λ late. let most = at.0 in let none = at.1 (omega (arith, late, most)) in absurd (omega (arith, none, l)))
      (cases_lt w.place (length w.list));
  copies = q.copies;
}
