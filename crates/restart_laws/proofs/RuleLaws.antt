-- Cells of pages are consistent exactly where no object breaks a rule.
use Rattle.std.proofs.Common.{◌≡◌, ℕ, ◌+◌, List, Bool, true, false, refl, sym, ◌∙◌, ⊎_elim}
use Rattle.std.specs.Prelude.{not}
use Rattle.std.proofs.lemmas.Bool.{cases_eq}
use Rattle.cell_model.specs.Cells.{Cell, cell_at, pointer_at, is_live, pointers_to, own_strong}
use Rattle.cell_model.specs.Consistent.{AreConsistent}
use Rattle.restart_laws.specs.Rules.{BreaksRule, no_root, names_none, miscounts, in_cycle, AreOfPages}

live-or : (b : Bool) → (b ≡ false → ⊥) → b ≡ true
live-or true h = refl
live-or false h = absurd (h refl)

-- equal, or it can be told that they aren't
equal-or : (m n : ℕ) → ((m ≡ n → ⊥) → ⊥) → m ≡ n
equal-or m n h = ⊎_elim (λ e. e) (λ d. absurd (h d)) (cases_eq m n)

pub rules-consistent : (slots ids : ℕ) (cells : List Cell) → AreOfPages slots ids cells → ((rule id : ℕ) → BreaksRule cells rule id → ⊥) → AreConsistent slots ids cells
rules-consistent slots ids cells p h = record {
  exact = record {
    none = p.none;
    root_live = live-or (is_live cells 1) (λ d. h 1 1 (no_root d));
    counts = λ id l. record {
      strong = equal-or (cell_at cells id).strong (pointers_to cells id (cell_at cells id).bit + own_strong id) (λ n. h 3 id (miscounts id l (λ k. n k.strong)));
      weak = equal-or (cell_at cells id).weak (pointers_to cells id (not (cell_at cells id).bit)) (λ n. h 3 id (miscounts id l (λ k. n k.weak)));
    };
    closed = λ id slot l n. live-or (is_live cells (pointer_at cells id slot).target) (λ d. h 2 id (names_none id slot l n d));
  };
  empty = p.empty;
  sized = p.sized;
  slotted = p.slotted;
  acyclic = λ id w. h 4 id (in_cycle id w);
}

pub consistent-rules : (slots ids : ℕ) (cells : List Cell) → AreConsistent slots ids cells → (rule id : ℕ) → BreaksRule cells rule id → ⊥
consistent-rules slots ids cells k rule id (no_root d) = let no : true ≡ false = sym k.exact.root_live ∙ d in cc
consistent-rules slots ids cells k rule id (names_none x slot l n d) = let no : true ≡ false = sym (k.exact.closed x slot l n) ∙ d in cc
consistent-rules slots ids cells k rule id (miscounts x l n) = n (k.exact.counts x l)
consistent-rules slots ids cells k rule id (in_cycle x w) = k.acyclic x w
