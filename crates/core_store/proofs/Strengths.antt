-- What a flip and the change of one pointer's strength leave as it was.
use Rattle.std.proofs.Common.{◌≡◌, ◌≢◌, ℕ, ◌<◌, Bool, true, false, not, cond, List, length, refl, sym, ap, ◌∙◌, subst, arith, ◌⊎◌, inl, inr, ⊎_elim, ne_eqb}
use Rattle.std.specs.Prelude.{◌==◌, ◌&&◌}
use Rattle.std.proofs.lemmas.Bool.{and_parts, and_from, not-true, eqb-false, not_from_false, false_from_ne_true}
use Rattle.cell_model.specs.Cells.{Pointer, Cell, cell_at, pointer_at, is_live, is_strong, same, edit, relinked, other_strength, flipped, hits, counted, IsExact}
use Rattle.cell_model.specs.Strong.{IsStrongAt}
use Rattle.cell_model.proofs.EditLaws.{live-within, live-there, edit-here, edit-other}
use Rattle.cell_model.proofs.CountLaws.{relinked-live, relinked-bit, relinked-slot, relinked-which, relinked-counted}
use Rattle.cell_model.proofs.RecordLaws.{target-counts}
use Rattle.cell_model.proofs.FlipLaws.{flip-live, flip-pointer_other, flip-target}
use Rattle.core_store.specs.Changes.{is_counted_strong}

-- the same objects are there, and their slots name the same
pub record AreSameGraph (cells new : List Cell) : Type 0 where
  pub live : (u : ℕ) → is_live new u ≡ is_live cells u
  pub target : (u k : ℕ) → (pointer_at new u k).target ≡ (pointer_at cells u k).target

-- ---- strengths

pub counted-parts : (cells : List Cell) (p : Pointer) → is_counted_strong cells p ≡ true → (p.target ≢ 0) × (is_strong cells p ≡ true)
counted-parts cells p e = let both = and_parts (not (p.target == 0)) (is_strong cells p) e in (eqb-false p.target 0 (not-true (p.target == 0) both.0), both.1)

pub counted-from : (cells : List Cell) (p : Pointer) → p.target ≢ 0 → is_strong cells p ≡ true → is_counted_strong cells p ≡ true
counted-from cells p n s = and_from (not (p.target == 0)) (is_strong cells p) (not_from_false (p.target == 0) (ne_eqb p.target 0 n)) s

same-other : (a b : Bool) → same a (not b) ≡ not (same a b)
same-other true b = refl
same-other false true = refl
same-other false false = refl

other-same : (a b : Bool) → same (not a) b ≡ not (same a b)
other-same true true = refl
other-same true false = refl
other-same false true = refl
other-same false false = refl

same-itself : (b : Bool) → same b b ≡ true
same-itself true = refl
same-itself false = refl

-- no pointer is strong that leads to an object whose strong count is 0
pub weak-to : (cells : List Cell) → IsExact cells → (u k id : ℕ) → is_live cells u ≡ true → (pointer_at cells u k).target ≡ id → id ≢ 0 → (cell_at cells id).strong ≡ 0 → is_strong cells (pointer_at cells u k) ≡ false
weak-to cells e u k id l t n z =
    let p = pointer_at cells u k in
    let c = cell_at cells p.target in
    let none : c.strong ≡ 0 = ap (λ x. (cell_at cells x).strong) t ∙ z in
    let one = target-counts cells e u k l (λ q. n (sym t ∙ q)) in
    false_from_ne_true (same c.bit p.bit) (λ s. let is : counted p.bit c ≡ c.strong = ap (λ b. cond b c.strong c.weak) s in absurd (omega (arith, one, is, none)))

-- ---- a flip

module _ (cells : List Cell) (id : ℕ) (e : IsExact cells) (l : is_live cells id ≡ true) where
  pub flip-graph : AreSameGraph cells (edit cells id (flipped id))
  flip-graph = record { live = flip-live cells id e l; target = flip-target cells id e l }

  pub flip-zero : (u : ℕ) → u ≢ id → (cell_at cells u).strong ≡ 0 → (cell_at (edit cells id (flipped id)) u).strong ≡ 0
  flip-zero u n z = ap (λ (c : Cell). c.strong) (edit-other cells id u (flipped id) n) ∙ z

  -- pointers out of other objects stay as they are, and where they lead to others, so do their strengths
  pub flip-apart : (u k : ℕ) → u ≢ id → (pointer_at cells u k).target ≢ id → is_strong (edit cells id (flipped id)) (pointer_at (edit cells id (flipped id)) u k) ≡ is_strong cells (pointer_at cells u k)
  flip-apart u k n m =
      let new = edit cells id (flipped id) in
      let p = pointer_at cells u k in
      ap (λ q. is_strong new q) (flip-pointer_other cells id e l u k n) ∙ ap (λ (c : Cell). same c.bit p.bit) (edit-other cells id p.target (flipped id) m)

  -- a weak pointer to the object from another one is strong then
  pub flip-into : (u k : ℕ) → u ≢ id → (pointer_at cells u k).target ≡ id → is_strong cells (pointer_at cells u k) ≡ false → is_strong (edit cells id (flipped id)) (pointer_at (edit cells id (flipped id)) u k) ≡ true
  flip-into u k n t w =
      let new = edit cells id (flipped id) in
      let p = pointer_at cells u k in
      let here = edit-here cells id (flipped id) (live-there cells id e.none l) (live-within cells id l) in
      ap (λ q. is_strong new q) (flip-pointer_other cells id e l u k n)
      ∙ ap (λ x. same (cell_at new x).bit p.bit) t
      ∙ ap (λ (c : Cell). same c.bit p.bit) here
      ∙ other-same (cell_at cells id).bit p.bit
      ∙ ap not (sym (ap (λ x. same (cell_at cells x).bit p.bit) t) ∙ w)

  pub flip-held : (u k to : ℕ) → u ≢ id → to ≢ id → IsStrongAt cells u k to → IsStrongAt (edit cells id (flipped id)) u k to
  flip-held u k to n m s = record {
    live = flip-live cells id e l u ∙ s.live;
    target = flip-target cells id e l u k ∙ s.target;
    not_null = s.not_null;
    strong = flip-apart u k n (λ z. m (sym s.target ∙ z)) ∙ s.strong;
  }

-- ---- one pointer gets the other strength

-- the cells after it
abbrev pub switched_at : List Cell → ℕ → ℕ → List Cell
switched_at cells id slot = relinked cells id slot (other_strength (pointer_at cells id slot))

module _ (cells : List Cell) (id slot : ℕ) (e : IsExact cells) (l : is_live cells id ≡ true) (h : slot < length (cell_at cells id).pointers) where
  nonzero : id ≢ 0
  nonzero = live-there cells id e.none l

  -- the pointer is the one that was switched, or another one, which is as it was
  pub turn-which : (u k : ℕ) → ((u ≡ id) × (k ≡ slot)) ⊎ (pointer_at (switched_at cells id slot) u k ≡ pointer_at cells u k)
  turn-which u k = ⊎_elim (λ w. inl (w.0, w.1)) (λ w. inr w) (relinked-which cells id slot (other_strength (pointer_at cells id slot)) u k nonzero (live-within cells id l) h)

  pub turn-here : pointer_at (switched_at cells id slot) id slot ≡ other_strength (pointer_at cells id slot)
  turn-here = relinked-slot cells id slot (other_strength (pointer_at cells id slot)) nonzero (live-within cells id l) h

  pub turn-graph : AreSameGraph cells (switched_at cells id slot)
  turn-graph = record {
    live = relinked-live cells id slot (other_strength (pointer_at cells id slot));
    target = λ u k. ⊎_elim
        (λ w. subst (λ x. (pointer_at (switched_at cells id slot) x k).target ≡ (pointer_at cells x k).target) (sym w.0)
        (subst (λ y. (pointer_at (switched_at cells id slot) id y).target ≡ (pointer_at cells id y).target) (sym w.1) (ap (λ (p : Pointer). p.target) turn-here)))
        (λ w. ap (λ (p : Pointer). p.target) w)
        (turn-which u k);
  }

  -- what a pointer's strength is by its bit stays
  pub turn-strength : (p : Pointer) → is_strong (switched_at cells id slot) p ≡ is_strong cells p
  turn-strength p = ap (λ b. same b p.bit) (relinked-bit cells id slot (other_strength (pointer_at cells id slot)) p.target)

  -- that of the switched one is the other
  pub turn-switched : is_strong (switched_at cells id slot) (pointer_at (switched_at cells id slot) id slot) ≡ not (is_strong cells (pointer_at cells id slot))
  turn-switched =
      let p = pointer_at cells id slot in
      ap (λ q. is_strong (switched_at cells id slot) q) turn-here ∙ turn-strength (other_strength p) ∙ same-other (cell_at cells p.target).bit p.bit

  pub turn-apart : (u k : ℕ) → pointer_at (switched_at cells id slot) u k ≡ pointer_at cells u k → is_counted_strong (switched_at cells id slot) (pointer_at (switched_at cells id slot) u k) ≡ is_counted_strong cells (pointer_at cells u k)
  turn-apart u k w =
      let p = pointer_at cells u k in
      ap (λ q. is_counted_strong (switched_at cells id slot) q) w ∙ ap (λ b. not (p.target == 0) && b) (turn-strength p)

  pub turn-held : (u k to : ℕ) → pointer_at (switched_at cells id slot) u k ≡ pointer_at cells u k → IsStrongAt cells u k to → IsStrongAt (switched_at cells id slot) u k to
  turn-held u k to w s = record {
    live = relinked-live cells id slot (other_strength (pointer_at cells id slot)) u ∙ s.live;
    target = ap (λ (p : Pointer). p.target) w ∙ s.target;
    not_null = s.not_null;
    strong = ap (λ q. is_strong (switched_at cells id slot) q) w ∙ turn-strength (pointer_at cells u k) ∙ s.strong;
  }

  -- only the target counts otherwise
  pub turn-count : (u : ℕ) → is_live cells u ≡ true → (pointer_at cells id slot).target ≢ u → (cell_at (switched_at cells id slot) u).strong ≡ (cell_at cells u).strong
  turn-count u lu n =
      let p = pointer_at cells id slot in
      let old = cell_at cells u in
      let new = cell_at (switched_at cells id slot) u in
      let bit : new.bit ≡ old.bit = relinked-bit cells id slot (other_strength p) u in
      let moved = relinked-counted cells id slot (other_strength p) u old.bit (live-there cells u e.none lu) (live-within cells u lu) in
      let less = no-hit old.bit p u n in
      let more = no-hit old.bit (other_strength p) u n in
      let was = counted-own old old.bit refl in
      let is = counted-own new old.bit bit in
      omega (arith, moved, less, more, was, is)
    where
      no-hit : (b : Bool) (p : Pointer) (x : ℕ) → p.target ≢ x → hits x b p ≡ 0
      no-hit b p x n = ap (λ t. cond (t && same p.bit b) 1 0) (ne_eqb p.target x n)

      counted-own : (c : Cell) (b : Bool) → c.bit ≡ b → counted b c ≡ c.strong
      counted-own c b q = ap (λ x. cond (same x b) c.strong c.weak) q ∙ ap (λ t. cond t c.strong c.weak) (same-itself b)

  pub turn-zero : (u : ℕ) → is_live cells u ≡ true → (pointer_at cells id slot).target ≢ u → (cell_at cells u).strong ≡ 0 → (cell_at (switched_at cells id slot) u).strong ≡ 0
  turn-zero u lu n z = turn-count u lu n ∙ z
