-- Counts of pointers, one slot, one cell and one id after another.
use Rattle.std.proofs.Common.{◌≡◌, ◌≢◌, ℕ, ◌+◌, ◌<◌, ◌≤◌, Bool, true, false, cond, List, length, take, set, get_or, refl, sym, ap, ◌∙◌, inl, inr, ⊎_elim, get_or-set_same, get_or-set_other, eq-eqb, ne_eqb, arith, subst}
use Rattle.std.specs.Prelude.{◌==◌, ◌&&◌, count_by}
use Rattle.std.proofs.lemmas.List.{take_more}
use Rattle.std.proofs.lemmas.Bool.{cases_eq}
use Rattle.std.proofs.lemmas.List.Sums.{sum_by_push, count_by-le-length}
use Rattle.cell_model.specs.Cells.{Pointer, Cell, null, blank_cell, cell_at, pointer_in, same, aims, hits, aims_in, pointers_to}
use Rattle.cell_page.specs.declared.cell.Cell.{Cell as PageCell}
use Rattle.cell_page.specs.Format.{IsSlotCount}
use Rattle.cell_page.specs.Stored.{cell_of}
use Rattle.cell_page.proofs.PointerLemmas.{length-pointers_from}

-- one slot more of a cell
pub slot-more : (id : ℕ) (bit : Bool) (c : Cell) (k : ℕ) → k < length c.pointers → count_by (aims id bit) (take (k + 1) c.pointers) ≡ count_by (aims id bit) (take k c.pointers) + hits id bit (pointer_in c k)
slot-more id bit c k within =
    ap (λ (ps : List Pointer). count_by (aims id bit) ps) (take_more c.pointers k null within) ∙ sum_by_push (λ (p : Pointer). cond (aims id bit p) 1 0) (take k c.pointers) (pointer_in c k)

-- one cell more of a store
pub cell-more : (id : ℕ) (bit : Bool) (cells : List Cell) (k : ℕ) → k < length cells → pointers_to (take (k + 1) cells) id bit ≡ pointers_to (take k cells) id bit + aims_in id bit (cell_at cells k)
cell-more id bit cells k within =
    ap (λ (cs : List Cell). pointers_to cs id bit) (take_more cells k (blank_cell false 0) within) ∙ sum_by_push (aims_in id bit) (take k cells) (cell_at cells k)

-- the cell at 0 has no pointer
pub none-first : (id slots : ℕ) (bit : Bool) (cells : List Cell) → 0 < length cells → cell_at cells 0 ≡ blank_cell false slots → pointers_to (take 1 cells) id bit ≡ 0
none-first id slots bit cells some z = cell-more id bit cells 0 some ∙ ap (λ (c : Cell). 0 + aims_in id bit c) z

-- a cell has no more pointers than slots
pub aims_in-few : {slots : ℕ} (id : ℕ) (bit : Bool) (c : PageCell slots) (n : ℕ) → length c.slots ≤ n → aims_in id bit (cell_of c) ≤ n
aims_in-few id bit c n few =
    let count = count_by-le-length (aims id bit) (cell_of c).pointers in
    let size = length-pointers_from c.bits 0 c.slots in
    let most : count_by (aims id bit) (cell_of c).pointers ≤ n = omega (arith, count, size, few) in
    elim c.live as (λ live. cond live (count_by (aims id bit) (cell_of c).pointers) 0 ≤ n) [ true ↦ most | false ↦ omega arith ]

-- ---- one pointer

hits-other : (id : ℕ) (bit : Bool) (p : Pointer) → p.target ≢ id → hits id bit p ≡ 0
hits-other id bit p n = ap (λ (b : Bool). cond (b && same p.bit bit) 1 0) (ne_eqb p.target id n)

abbrev one : Bool → ℕ
one b = cond b 1 0

none-of : (a b : Bool) → b ≡ false → one (a && b) ≡ one false
none-of true b e = ap one e
none-of false b e = refl

hits-bit : (id : ℕ) (bit : Bool) (p : Pointer) → same p.bit bit ≡ false → hits id bit p ≡ 0
hits-bit id bit p e = none-of (p.target == id) (same p.bit bit) e

-- a pointer with the bit is counted at its target
pub hit-counted : (counts : List ℕ) (id target : ℕ) (bit : Bool) (p : Pointer) → p.target ≡ target → same p.bit bit ≡ true → target < length counts
    → get_or (set counts target (get_or counts target 0 + 1)) id 0 ≡ get_or counts id 0 + hits id bit p
hit-counted counts id target bit p aim same_bit within =
    ⊎_elim
    (λ (e : target ≡ id).
    let one : hits id bit p ≡ 1 = ap (λ (b : Bool). cond (b && same p.bit bit) 1 0) (eq-eqb p.target id (aim ∙ e)) ∙ ap (λ (b : Bool). cond b 1 0) same_bit in
    let here : get_or (set counts target (get_or counts target 0 + 1)) id 0 ≡ get_or counts id 0 + 1 =
    subst (λ (i : ℕ). get_or (set counts target (get_or counts target 0 + 1)) i 0 ≡ get_or counts i 0 + 1) e (get_or-set_same counts target (get_or counts target 0 + 1) 0 within) in
    omega (arith, one, here))
    (λ (n : target ≢ id).
    let none = hits-other id bit p (λ e. n (sym aim ∙ e)) in
    let there = get_or-set_other counts target id (get_or counts target 0 + 1) 0 (λ e. n (sym e)) in
    omega (arith, none, there))
    (cases_eq target id)

-- a pointer with the other bit, or out of the table, is not
pub bit-missed : (counts : List ℕ) (id : ℕ) (bit : Bool) (p : Pointer) → same p.bit bit ≡ false → get_or counts id 0 ≡ get_or counts id 0 + hits id bit p
bit-missed counts id bit p n = let none = hits-bit id bit p n in omega (arith, none)

pub target-missed : (counts : List ℕ) (id target : ℕ) (bit : Bool) (p : Pointer) → p.target ≡ target → length counts ≤ target → id < length counts → get_or counts id 0 ≡ get_or counts id 0 + hits id bit p
target-missed counts id target bit p aim past within = let none = hits-other id bit p (λ e. absurd (omega (arith, aim, e, past, within))) in omega (arith, none)

pub slots-few : (slots : ℕ) → IsSlotCount slots → slots ≤ 14
slots-few slots (inl six) = omega (arith, six)
slots-few slots (inr fourteen) = omega (arith, fourteen)
