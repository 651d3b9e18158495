-- Pointers that are counted strong or weak, and an object that can be flipped.
use Rattle.std.proofs.Common.{◌≡◌, ◌≢◌, ℕ, ◌<◌, ◌≤◌, List, Bool, true, false, not, length, sym, ap, ◌∙◌, subst, arith, ne_eqb}
use Rattle.std.specs.Prelude.{◌==◌, ◌&&◌}
use Rattle.std.proofs.lemmas.Bool.{and_parts, not-true, eqb-false}
use Rattle.std.proofs.lemmas.List.{length-map}
use Rattle.cell_model.specs.Cells.{Pointer, Cell, cell_at, is_strong, self_pointers}
use Rattle.cell_model.proofs.EditLaws.{live-there, live-within}
use Rattle.core_store.specs.declared.three.HeldFrame.{HeldFrame}
use Rattle.core_store.specs.Changes.{is_counted_strong, has_no_strong}
use Rattle.core_store.specs.Slots.{is_counted_weak, IsReadyToFlip, HasPlace}
use Rattle.core_store.proofs.SlotBounds.{self-few}

-- a pointer that is counted strong isn't null
pub counted-some : (cells : List Cell) (p : Pointer) → is_counted_strong cells p ≡ true → p.target ≢ 0
counted-some cells p strong = eqb-false p.target 0 (not-true (p.target == 0) (and_parts (not (p.target == 0)) (is_strong cells p) strong).0)

-- a pointer that is counted weak isn't null
pub weak-some : (cells : List Cell) (p : Pointer) → is_counted_weak cells p ≡ true → p.target ≢ 0
weak-some cells p weak = eqb-false p.target 0 (not-true (p.target == 0) (and_parts (not (p.target == 0)) (not (is_strong cells p)) weak).0)

-- nor is it strong
pub weak-strength : (cells : List Cell) (p : Pointer) → is_counted_weak cells p ≡ true → is_strong cells p ≡ false
weak-strength cells p weak = not-true (is_strong cells p) (and_parts (not (p.target == 0)) (not (is_strong cells p)) weak).1

pub weak-counted : (cells : List Cell) (p : Pointer) → is_counted_weak cells p ≡ true → is_counted_strong cells p ≡ false
weak-counted cells p weak = ap (λ (b : Bool). not b && is_strong cells p) (ne_eqb p.target 0 (weak-some cells p weak)) ∙ weak-strength cells p weak

module _ {slots : ℕ} (held : List (HeldFrame slots)) (zeros : List Bool) (id : ℕ) (r : IsReadyToFlip held zeros id) where
  pub flip-place : HasPlace held zeros id
  flip-place =
      let some = live-there r.cells id r.can.consistent.exact.none r.can.live in
      let within = live-within r.cells id r.can.live in
      let long = r.can.consistent.sized in
      let few = r.can.few in
      record {
        above = omega (arith, some);
        small = omega (arith, within, long, few);
        page = r.page;
        mark = subst (λ (n : ℕ). id < n) (sym (ap length r.marks ∙ length-map r.cells has_no_strong)) within;
      }

  pub flip-own : self_pointers id (cell_at r.cells id) ≤ (cell_at r.cells id).weak
  flip-own = self-few r.cells id r.can.consistent.exact r.can.live r.can.zero
