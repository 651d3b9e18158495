-- A page that a frame holds is the one that the store's cells make.
use Rattle.std.proofs.Common.{◌≡◌, ℕ, zero, suc, ◌+◌, ◌*◌, ◌^◌, ◌/◌, ◌<◌, ◌≤◌, Bool, true, false, List, [], ◌∷◌, length, map, get_or, drop, refl, sym, ap, subst, ◌∙◌, arith, ⊎_elim, zero-add}
use Rattle.std.specs.Prelude.{◌==◌}
use Rattle.std.specs.Int.{bit_at}
use Rattle.std.proofs.lemmas.Bool.{cases_lt}
use Rattle.std.proofs.lemmas.List.{same_lists, get_or-map, get_or-take, get_or-drop}
use Rattle.std.proofs.lemmas.Nat.Bits.{bit_at_lowest, bit_at-suc, bit_at-lt, bit_at_above, same_from_bits}
use native.Mathlib.Nat.{pow-suc}
use Rattle.cell_model.specs.Cells.{Pointer, Cell as StoredCell, null, blank_cell, cell_at}
use Rattle.cell_page.specs.declared.cell.Cell.{Cell}
use Rattle.cell_page.specs.Format.{flag, IsCell, HasId, first_id, page_of_id, place_of}
use Rattle.cell_page.specs.Stored.{pointers_from, cell_of, page_of, HoldsPage}
use Rattle.cell_page.proofs.PointerLemmas.{length-pointers_from, get_or-pointers_from}
use Rattle.cell_page.proofs.Rules.{same_cell}
use Rattle.shared_store.specs.Chronicles.Pages.{bits_of, page_cell, places, page_in}

-- ---- bits

flag-small : (b : Bool) → flag b < 2
flag-small true = omega arith
flag-small false = omega arith

flag-back : (n : ℕ) → n < 2 → flag (n == 1) ≡ n
flag-back zero small = refl
flag-back (suc zero) small = refl
flag-back (suc (suc n)) small = absurd (omega arith)

bits-below : (ps : List Pointer) → bits_of ps < 2 ^ length ps
bits-below [] = omega arith
bits-below (p ∷ ps) = let rest = bits-below ps in let small = flag-small p.bit in omega (arith, rest, small, pow-suc 2 (length ps))

bit-first : (b n : ℕ) → b < 2 → bit_at (b + 2 * n) 0 ≡ b
bit-first b n small = bit_at_lowest (b + 2 * n) ∙ omega (arith, small)

bit-next : (b n k : ℕ) → b < 2 → bit_at (b + 2 * n) (suc k) ≡ bit_at n k
bit-next b n k small =
    let half : (b + 2 * n) / 2 ≡ n = omega (arith, small) in
    bit_at-suc (b + 2 * n) k ∙ ap (λ (m : ℕ). bit_at m k) half

-- the bit of a slot
bits-at : (ps : List Pointer) (k : ℕ) → k < length ps → bit_at (bits_of ps) k ≡ flag (get_or ps k null).bit
bits-at [] k within = absurd (omega arith)
bits-at (p ∷ ps) zero within = bit-first (flag p.bit) (bits_of ps) (flag-small p.bit)
bits-at (p ∷ ps) (suc k) within = bit-next (flag p.bit) (bits_of ps) k (flag-small p.bit) ∙ bits-at ps k (omega (arith, within))

targets_of : (bits i : ℕ) (targets : List ℕ) → map (λ p. p.target) (pointers_from bits i targets) ≡ targets
targets_of bits i [] = refl
targets_of bits i (t ∷ ts) = rw (targets_of bits (i + 1) ts) refl

-- ---- a cell

module _ {slots : ℕ} (id : ℕ) (c : Cell slots) (rules : IsCell id c) where
  bit-same-at : (k : ℕ) → (k < length c.slots) → bit_at (bits_of (pointers_from c.bits 0 c.slots)) k ≡ bit_at c.bits k
  bit-same-at k within =
      let long = length-pointers_from c.bits 0 c.slots in
      bits-at (pointers_from c.bits 0 c.slots) k (omega (arith, within, long))
      ∙ (ap (λ (p : Pointer). flag p.bit) (get_or-pointers_from c.bits 0 c.slots k null within)
      ∙ (flag-back (bit_at c.bits (0 + k)) (bit_at-lt c.bits (0 + k)) ∙ ap (bit_at c.bits) (zero-add k)))

  bit-past : (k : ℕ) → length c.slots ≤ k → bit_at c.bits k ≡ 0
  bit-past k past = ⊎_elim
      (λ (below : k < slots). rules.null_bit k below (past-none c.slots k past))
      (λ (above : slots ≤ k). bit_at_above c.bits slots k rules.bounded above)
      (cases_lt k slots)
    where
      past-none : (ts : List ℕ) (k : ℕ) → length ts ≤ k → get_or ts k 0 ≡ 0
      past-none [] k past = refl
      past-none (t ∷ ts) zero past = absurd (omega arith)
      past-none (t ∷ ts) (suc k) past = past-none ts k (omega (arith, past))

  bit-same : (k : ℕ) → bit_at (bits_of (pointers_from c.bits 0 c.slots)) k ≡ bit_at c.bits k
  bit-same k = ⊎_elim
      (λ (below : k < length c.slots). bit-same-at k below)
      (λ (past : length c.slots ≤ k).
      let long = length-pointers_from c.bits 0 c.slots in
      bit_at_above (bits_of (pointers_from c.bits 0 c.slots)) (length (pointers_from c.bits 0 c.slots)) k (bits-below (pointers_from c.bits 0 c.slots)) (omega (arith, long, past))
      ∙ sym (bit-past k past))
      (cases_lt k (length c.slots))

  bits-same : bits_of (pointers_from c.bits 0 c.slots) ≡ c.bits
  bits-same = same_from_bits (bits_of (pointers_from c.bits 0 c.slots)) c.bits bit-same

  -- a cell that obeys the rules is the one that its stored cell makes
  pub cell-again : page_cell slots id (cell_of c) ≡ c
  cell-again = same_cell c c.live c.bit (bits_of (pointers_from c.bits 0 c.slots)) id c.strong c.weak c.payload (map (λ p. p.target) (pointers_from c.bits 0 c.slots)) refl refl bits-same (sym rules.placed) refl refl refl (targets_of c.bits 0 c.slots)

-- ---- a page

place-at : (k d : ℕ) → k < 8 → get_or places k d ≡ k
place-at zero d below = refl
place-at (suc zero) d below = refl
place-at (suc (suc zero)) d below = refl
place-at (suc (suc (suc zero))) d below = refl
place-at (suc (suc (suc (suc zero)))) d below = refl
place-at (suc (suc (suc (suc (suc zero))))) d below = refl
place-at (suc (suc (suc (suc (suc (suc zero)))))) d below = refl
place-at (suc (suc (suc (suc (suc (suc (suc zero))))))) d below = refl
place-at (suc (suc (suc (suc (suc (suc (suc (suc k)))))))) d below = absurd (omega arith)

-- the cell at a place of the page that the store's cells make
pub page_in-at : (slots : ℕ) (cells : List StoredCell) (page k : ℕ) (d : Cell slots) → k < 8 → get_or (page_in slots cells page) k d ≡ page_cell slots (first_id page + k) (cell_at cells (first_id page + k))
page_in-at slots cells page k d below =
    let f : ℕ → Cell slots = λ place. page_cell slots (first_id page + place) (cell_at cells (first_id page + place)) in
    get_or-map f places k 0 d below ∙ ap f (place-at k 0 below)

-- of a page of the store
page_of-at : (cells : List StoredCell) (page k : ℕ) → k < 8 → get_or (page_of cells page) k (blank_cell false 0) ≡ cell_at cells (first_id page + k)
page_of-at cells page k below = get_or-take 8 (drop (first_id page) cells) k (blank_cell false 0) below ∙ get_or-drop (first_id page) cells k (blank_cell false 0)

held-at : {slots : ℕ} (cells : List StoredCell) (page : ℕ) (held : List (Cell slots)) (k : ℕ) (d : Cell slots) → HoldsPage cells page held → k < 8 → cell_of (get_or held k d) ≡ cell_at cells (first_id page + k)
held-at cells page held k d holds below =
    let e : StoredCell = blank_cell false 0 in
    sym (get_or-map cell_of held k d e (omega (arith, below, holds.rules.eight)))
    ∙ (ap (λ (xs : List StoredCell). get_or xs k e) holds.same ∙ page_of-at cells page k below)

-- what is held for a page of the store is the page that its cells make
pub page-exact : {slots : ℕ} (cells : List StoredCell) (page : ℕ) (held : List (Cell slots)) → HoldsPage cells page held → held ≡ page_in slots cells page
page-exact {slots} cells page held holds =
    same_lists held (page_in slots cells page) holds.rules.eight
    (λ k d within.
    let below : k < 8 = omega (arith, within, holds.rules.eight) in
    sym (cell-again (first_id page + k) (get_or held k d) (holds.rules.each k d below))
    ∙ (ap (page_cell slots (first_id page + k)) (held-at cells page held k d holds below) ∙ sym (page_in-at slots cells page k d below)))

-- where a page of the store has the same cells in two stores, they make the same page
pub page-same : (slots : ℕ) (before after : List StoredCell) (page : ℕ) → page_of after page ≡ page_of before page → page_in slots after page ≡ page_in slots before page
page-same slots before after page same =
    same_lists (page_in slots after page) (page_in slots before page) refl
    (λ k d below.
    let cell : cell_at after (first_id page + k) ≡ cell_at before (first_id page + k) =
    sym (page_of-at after page k below) ∙ (ap (λ (xs : List StoredCell). get_or xs k (blank_cell false 0)) same ∙ page_of-at before page k below) in
    page_in-at slots after page k d below ∙ (ap (page_cell slots (first_id page + k)) cell ∙ sym (page_in-at slots before page k d below)))

-- and where it can stand in a frame in the one, so it can in the other
pub holds-same : (slots : ℕ) (before after : List StoredCell) (page : ℕ) → page_of after page ≡ page_of before page → HoldsPage before page (page_in slots before page) → HoldsPage after page (page_in slots after page)
holds-same slots before after page same holds =
    subst (HoldsPage after page) (sym (page-same slots before after page same)) (record { rules = holds.rules; same = holds.same ∙ sym same })

-- what is held can stand in a frame as the page that the cells make
pub holds-exact : {slots : ℕ} (cells : List StoredCell) (page : ℕ) (held : List (Cell slots)) → HoldsPage cells page held → HoldsPage cells page (page_in slots cells page)
holds-exact cells page held holds = subst (HoldsPage cells page) (page-exact cells page held holds) holds

-- ---- what a frame shows of an id

flag-tells : (b : Bool) → (flag b == 1) ≡ b
flag-tells true = refl
flag-tells false = refl

pointers-again : (ps : List Pointer) (bits i : ℕ) → ((k : ℕ) → k < length ps → bit_at bits (i + k) ≡ flag (get_or ps k null).bit) → pointers_from bits i (map (λ p. p.target) ps) ≡ ps
pointers-again [] bits i bit = refl
pointers-again (p ∷ ps) bits i bit =
    let here : i + 0 ≡ i = omega arith in
    let one : bit_at bits i ≡ flag p.bit = rw here at (bit 0 (omega arith)) in
    let first : (bit_at bits i == 1) ≡ p.bit = ap (λ (n : ℕ). n == 1) one ∙ flag-tells p.bit in
    let rest = pointers-again ps bits (i + 1) (λ k within. let there : i + 1 + k ≡ i + suc k = omega arith in rw there (bit (suc k) (omega (arith, within)))) in
    rw (first, rest) refl

-- the cell that a stored cell makes has what that has
stored-again : (slots id : ℕ) (c : StoredCell) → cell_of (page_cell slots id c) ≡ c
stored-again slots id c =
    let pointers = pointers-again c.pointers (bits_of c.pointers) 0 (λ k within. rw (zero-add k) (bits-at c.pointers k within)) in
    rw pointers refl

module _ (slots : ℕ) (cells : List StoredCell) (id : ℕ) (above : 0 < id) where
  cell-there : (d : Cell slots) → get_or (page_in slots cells (page_of_id id)) (place_of id) d ≡ page_cell slots id (cell_at cells id)
  cell-there d =
      let at : first_id (page_of_id id) + place_of id ≡ id = omega (arith, above) in
      page_in-at slots cells (page_of_id id) (place_of id) d (omega arith) ∙ ap (λ (n : ℕ). page_cell slots n (cell_at cells n)) at

  -- the page that the cells make has the cell of each of its ids at its place
  pub has-id : HasId (page_in slots cells (page_of_id id)) id
  has-id = record { above = above; there = λ d. ap (λ (c : Cell slots). c.id) (cell-there d) }

  -- and that cell is the store's
  pub cell-told : (d : Cell slots) → cell_of (get_or (page_in slots cells (page_of_id id)) (place_of id) d) ≡ cell_at cells id
  cell-told d = ap cell_of (cell-there d) ∙ stored-again slots id (cell_at cells id)
