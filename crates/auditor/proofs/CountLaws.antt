-- Counts of pointers, one slot, one cell and one id after another.
use Rattle.std.proofs.Common.{◌≡◌, ◌≢◌, ℕ, zero, suc, ◌+◌, ◌<◌, ◌≤◌, Bool, true, false, cond, List, [], ◌∷◌, ◌++◌, length, map, take, set, get_or, refl, sym, ap, ◌∙◌, inl, inr, ⊎_elim, get_or-set_same, get_or-set_other, eq-eqb, ne_eqb, arith, add-one, subst}
use Rattle.std.specs.Prelude.{◌==◌, ◌&&◌, count_by}
use Rattle.std.specs.List.{range_with_len, flat_map}
use Rattle.std.proofs.lemmas.List.{append-nil, length-take, take_more, map_push}
use Rattle.std.proofs.lemmas.Bool.{cases_eq}
use Rattle.std.proofs.lemmas.List.Sums.{sum_by_push, count_by-le-length}
use Rattle.std.proofs.lemmas.Grind.{flat_map-append}
use Rattle.cell_model.specs.Cells.{Pointer, Cell, null, pointer_in, relink, same, aims, hits, aims_in, pointers_to}
use Rattle.cell_page.specs.declared.cell.Cell.{Cell as PageCell}
use Rattle.cell_page.specs.Format.{IsSlotCount}
use Rattle.cell_page.specs.Stored.{cell_of}
use Rattle.core_store.specs.declared.frame.Frame.{Frame}
use Rattle.auditor.specs.declared.difference.Difference.{Difference}
use Rattle.auditor.specs.Recount.{live_in, joined, strong_found, weak_found, kept_at, difference_between, difference_at}
use Rattle.cell_page.proofs.PointerLemmas.{length-pointers_from}

-- one slot more of a cell
pub slot-more : (id : ℕ) (bit : Bool) (c : Cell) (k : ℕ) → k < length c.pointers → count_by (aims id bit) (take (k + 1) c.pointers) ≡ count_by (aims id bit) (take k c.pointers) + hits id bit (pointer_in c k)
slot-more id bit c k within =
    ap (λ (ps : List Pointer). count_by (aims id bit) ps) (take_more c.pointers k null within) ∙ sum_by_push (λ (p : Pointer). cond (aims id bit p) 1 0) (take k c.pointers) (pointer_in c k)

-- one cell more of a store
pub cell-more : {slots : ℕ} (id : ℕ) (bit : Bool) (cells : List (PageCell slots)) (k : ℕ) (c : PageCell slots) → k < length cells
    → pointers_to (map cell_of (take (k + 1) cells)) id bit ≡ pointers_to (map cell_of (take k cells)) id bit + aims_in id bit (cell_of (get_or cells k c))
cell-more id bit cells k c within =
    ap (λ (cs : List (PageCell _)). pointers_to (map cell_of cs) id bit) (take_more cells k c within)
    ∙ (ap (λ (cs : List Cell). pointers_to cs id bit) (map_push cell_of (take k cells) (get_or cells k c)) ∙ sum_by_push (aims_in id bit) (map cell_of (take k cells)) (cell_of (get_or cells k c)))

-- a cell has no more pointers than slots
pub aims_in-few : {slots : ℕ} (id : ℕ) (bit : Bool) (c : PageCell slots) (n : ℕ) → length c.slots ≤ n → aims_in id bit (cell_of c) ≤ n
aims_in-few id bit c n few =
    let count = count_by-le-length (aims id bit) (cell_of c).pointers in
    let size = length-pointers_from c.bits 0 c.slots in
    let most : count_by (aims id bit) (cell_of c).pointers ≤ n = omega (arith, count, size, few) in
    elim c.live as (λ live. cond live (count_by (aims id bit) (cell_of c).pointers) 0 ≤ n) [ true ↦ most | false ↦ omega arith ]

range-suc : (a n : ℕ) → range_with_len a (suc n) ≡ range_with_len a n ++ (a + n) ∷ []
range-suc a zero = let e : a ≡ a + 0 = omega arith in ap (λ (k : ℕ). k ∷ []) e
range-suc a (suc n) =
    let e : a + 1 + n ≡ a + suc n = omega arith in
    ap (λ (ids : List ℕ). a ∷ ids) (range-suc (a + 1) n ∙ ap (λ (k : ℕ). range_with_len (a + 1) n ++ k ∷ []) e)

range-more : (a n : ℕ) → range_with_len a (n + 1) ≡ range_with_len a n ++ (a + n) ∷ []
range-more a n = ap (λ (k : ℕ). range_with_len a k) (add-one n) ∙ range-suc a n

pub counted-more : (p : ℕ → Bool) (n : ℕ) → count_by p (range_with_len 1 (n + 1)) ≡ count_by p (range_with_len 1 n) + cond (p (n + 1)) 1 0
counted-more p n =
    let e : 1 + n ≡ n + 1 = omega arith in
    ap (λ (ids : List ℕ). count_by p ids) (range-more 1 n) ∙ (sum_by_push (λ (id : ℕ). cond (p id) 1 0) (range_with_len 1 n) (1 + n) ∙ ap (λ (id : ℕ). count_by p (range_with_len 1 n) + cond (p id) 1 0) e)

pub listed-more : {X : Type 0} (f : ℕ → List X) (n : ℕ) → flat_map f (range_with_len 1 (n + 1)) ≡ flat_map f (range_with_len 1 n) ++ f (n + 1)
listed-more f n =
    let e : 1 + n ≡ n + 1 = omega arith in
    ap (λ (ids : List ℕ). flat_map f ids) (range-more 1 n) ∙ (flat_map-append f (range_with_len 1 n) ((1 + n) ∷ []) ∙ (ap (λ (ys : List _). flat_map f (range_with_len 1 n) ++ ys) (append-nil (f (1 + n))) ∙ ap (λ (id : ℕ). flat_map f (range_with_len 1 n) ++ f id) e))

-- one live cell more, or not
pub live-more : {slots : ℕ} (cells : List (PageCell slots)) (k : ℕ) (c : PageCell slots) → k < length cells
    → live_in (map cell_of (take (k + 1) cells)) ≡ live_in (map cell_of (take k cells)) + cond (get_or cells k c).live 1 0
live-more cells k c within =
    ap (λ (cs : List (PageCell _)). live_in (map cell_of cs)) (take_more cells k c within)
    ∙ (ap (λ (cs : List Cell). live_in cs) (map_push cell_of (take k cells) (get_or cells k c)) ∙ sum_by_push (λ (d : Cell). cond d.live 1 0) (map cell_of (take k cells)) (cell_of (get_or cells k c)))

-- ---- one pointer

hits-other : (id : ℕ) (bit : Bool) (p : Pointer) → p.target ≢ id → hits id bit p ≡ 0
hits-other id bit p n = ap (λ (b : Bool). cond (b && same p.bit bit) 1 0) (ne_eqb p.target id n)

abbrev one : Bool → ℕ
one b = cond b 1 0

none-of : (a b : Bool) → b ≡ false → one (a && b) ≡ one false
none-of true b e = ap one e
none-of false b e = refl

hits-bit : (id : ℕ) (bit : Bool) (p : Pointer) → same p.bit bit ≡ false → hits id bit p ≡ 0
hits-bit id bit p e = none-of (p.target == id) (same p.bit bit) e

-- a pointer with the bit is counted at its target
pub hit-counted : (counts : List ℕ) (id target : ℕ) (bit : Bool) (p : Pointer) → p.target ≡ target → same p.bit bit ≡ true → target < length counts
    → get_or (set counts target (get_or counts target 0 + 1)) id 0 ≡ get_or counts id 0 + hits id bit p
hit-counted counts id target bit p aim same_bit within =
    ⊎_elim
    (λ (e : target ≡ id).
    let one : hits id bit p ≡ 1 = ap (λ (b : Bool). cond (b && same p.bit bit) 1 0) (eq-eqb p.target id (aim ∙ e)) ∙ ap (λ (b : Bool). cond b 1 0) same_bit in
    let here : get_or (set counts target (get_or counts target 0 + 1)) id 0 ≡ get_or counts id 0 + 1 =
    subst (λ (i : ℕ). get_or (set counts target (get_or counts target 0 + 1)) i 0 ≡ get_or counts i 0 + 1) e (get_or-set_same counts target (get_or counts target 0 + 1) 0 within) in
    omega (arith, one, here))
    (λ (n : target ≢ id).
    let none = hits-other id bit p (λ e. n (sym aim ∙ e)) in
    let there = get_or-set_other counts target id (get_or counts target 0 + 1) 0 (λ e. n (sym e)) in
    omega (arith, none, there))
    (cases_eq target id)

-- a pointer with the other bit, or out of the table, is not
pub bit-missed : (counts : List ℕ) (id : ℕ) (bit : Bool) (p : Pointer) → same p.bit bit ≡ false → get_or counts id 0 ≡ get_or counts id 0 + hits id bit p
bit-missed counts id bit p n = let none = hits-bit id bit p n in omega (arith, none)

pub target-missed : (counts : List ℕ) (id target : ℕ) (bit : Bool) (p : Pointer) → p.target ≡ target → length counts ≤ target → id < length counts → get_or counts id 0 ≡ get_or counts id 0 + hits id bit p
target-missed counts id target bit p aim past within = let none = hits-other id bit p (λ e. absurd (omega (arith, aim, e, past, within))) in omega (arith, none)

-- a slot that isn't there
pub relink-past : {slots : ℕ} (c : PageCell slots) (slot : ℕ) (p : Pointer) → length c.slots ≤ slot → cell_of c ≡ relink slot p (cell_of c)
relink-past c slot p past =
    let size = length-pointers_from c.bits 0 c.slots in
    ap (λ (ps : List Pointer). let d : Cell = record (cell_of c) { pointers = ps } in d) (sym (set_past (cell_of c).pointers slot p (omega (arith, size, past))))
  where
    set_past : (xs : List Pointer) (i : ℕ) (y : Pointer) → length xs ≤ i → set xs i y ≡ xs
    set_past [] i y h = refl
    set_past (x ∷ xs) zero y h = absurd (omega arith)
    set_past (x ∷ xs) (suc i) y h = ap (λ (r : List Pointer). x ∷ r) (set_past xs i y (omega arith))

pub taken-few : {X : Type 0} (p : X → Bool) (k : ℕ) (xs : List X) → count_by p (take k xs) ≤ k
taken-few p k xs = let few = count_by-le-length p (take k xs) in let size = length-take k xs in omega (arith, few, size)

-- one id more in the list
pub listed-step : {slots : ℕ} (cells : List Cell) (frames : List (Frame slots)) (i k f s w : ℕ) (old new : List Difference) → new ≡ old ++ difference_between (i + 1) k f
    → k ≡ kept_at frames (i + 1) → f ≡ joined s w → s ≡ strong_found cells (i + 1) → w ≡ weak_found cells (i + 1)
    → old ≡ flat_map (difference_at cells frames) (range_with_len 1 i) → new ≡ flat_map (difference_at cells frames) (range_with_len 1 (i + 1))
listed-step cells frames i k f s w old new step kept found strong weak was =
    let before = flat_map (difference_at cells frames) (range_with_len 1 i) in
    let all = found ∙ (ap (λ (n : ℕ). joined n w) strong ∙ ap (λ (n : ℕ). joined (strong_found cells (i + 1)) n) weak) in
    step ∙ (ap (λ (xs : List Difference). xs ++ difference_between (i + 1) k f) was
    ∙ (ap (λ (n : ℕ). before ++ difference_between (i + 1) n f) kept
    ∙ (ap (λ (n : ℕ). before ++ difference_between (i + 1) (kept_at frames (i + 1)) n) all ∙ sym (listed-more (difference_at cells frames) i))))

pub slots-few : (slots : ℕ) → IsSlotCount slots → slots ≤ 14
slots-few slots (inl six) = omega (arith, six)
slots-few slots (inr fourteen) = omega (arith, fourteen)
