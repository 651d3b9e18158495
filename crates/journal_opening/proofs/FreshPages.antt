-- The pages of a fresh store, and the cells in them.
use Rattle.std.proofs.Common.{◌≡◌, ℕ, zero, suc, ◌+◌, ◌*◌, ◌<◌, ◌≤◌, ◌^◌, Bool, true, false, cond, List, [], ◌∷◌, ◌++◌, length, map, take, drop, get_or, inl, inr, refl, sym, ◌∙◌, ap, subst, arith, ne_eqb}
use Rattle.std.specs.Prelude.{◌==◌, if◌then◌else◌}
use Rattle.std.specs.List.{flat_map, range_with_len, AllByRecursion}
use Rattle.std.proofs.lemmas.Bool.{eqb-true}
use Rattle.std.proofs.lemmas.List.{take_at, drop_at, drop-drop, length-replicate, ext_get_or, get_or-map, get_or-replicate}
use Rattle.std.proofs.lemmas.List.FromFn.{get_or-map-range_with_len, length-map-range_with_len}
use Rattle.std.proofs.lemmas.Nat.{pow_pos}
use Rattle.std.proofs.lemmas.Nat.Bits.{bit_at-zero}
use Rattle.cell_model.specs.Cells.{Pointer, Cell as StoredCell, blank_cell, cell_at}
use Rattle.cell_page.specs.declared.cell.Cell.{Cell}
use Rattle.cell_page.specs.Format.{IsSlotCount, IsTyped, AreTyped, IsCell, IsPage, Spells, page_size, free_cell, fresh_cell, fresh_page, first_id, page_of_id, place_of}
use Rattle.cell_page.specs.Fields.{cell_in, bytes_at, FailsAt}
use Rattle.cell_page.specs.Stored.{cell_of}
use Rattle.cell_page.proofs.Pages.{length-page_bytes, page_refused, cell_spelled}
use Rattle.cell_page.proofs.PointerLemmas.{pointers_from-replicate}
use Rattle.store_model.specs.Fresh.{fresh_root, fresh_cells}
use Rattle.store_model.proofs.Lists.{get_or-zeros}
use Rattle.page_area.specs.Place.{bytes_of_page}
use Rattle.restart_store.specs.Fresh.{fresh_page_bytes_of, fresh_pages_of}
use Rattle.opened_images.specs.Replayed.{cell_after, cell_in_place, cells_of_log}

-- ---- the rules of a fresh page

cell-rules : (slots id : ℕ) → IsCell id (fresh_cell slots id)
cell-rules slots id = by (id == 1) refl
  where
    free-rules : (i : ℕ) → IsCell i (free_cell slots i)
    free-rules i = record { placed = refl; free = λ _. refl; bounded = pow_pos slots; null_bit = λ slot _ _. bit_at-zero slot }

    root-rules : id ≡ 1 → IsCell id (let c : Cell slots = record (free_cell slots 1) { live = true; strong = 1 } in c)
    root-rules e = record { placed = sym e; free = λ no. absurd cc; bounded = pow_pos slots; null_bit = λ slot _ _. bit_at-zero slot }

    by : (b : Bool) → (id == 1) ≡ b → IsCell id (fresh_cell slots id)
    by true e = rw e (root-rules (eqb-true id 1 e))
    by false e = rw e (free-rules id)

eight : List ℕ
eight = 0 ∷ 1 ∷ 2 ∷ 3 ∷ 4 ∷ 5 ∷ 6 ∷ 7 ∷ []

-- the cell at a place is that of its id
at-place : (slots page place : ℕ) (d : Cell slots) → place < 8 → get_or (fresh_page slots page) place d ≡ fresh_cell slots (first_id page + place)
unfolding eight
at-place slots page place d l = get_or-map (λ p. fresh_cell slots (first_id page + p)) eight place 0 d l ∙ ap (λ (p : ℕ). fresh_cell slots (first_id page + p)) (number place l)
  where
    number : (place : ℕ) → place < 8 → get_or eight place 0 ≡ place
    number zero l = refl
    number (suc zero) l = refl
    number (suc (suc zero)) l = refl
    number (suc (suc (suc zero))) l = refl
    number (suc (suc (suc (suc zero)))) l = refl
    number (suc (suc (suc (suc (suc zero))))) l = refl
    number (suc (suc (suc (suc (suc (suc zero)))))) l = refl
    number (suc (suc (suc (suc (suc (suc (suc zero))))))) l = refl
    number (suc (suc (suc (suc (suc (suc (suc (suc n)))))))) l = absurd (omega arith)

page-rules : (slots page : ℕ) → IsPage page (fresh_page slots page)
page-rules slots page = record { eight = refl; each = λ place d l. subst (λ (c : Cell slots). IsCell (first_id page + place) c) (sym (at-place slots page place d l)) (cell-rules slots (first_id page + place)) }

-- ---- the ranges of its numbers

typed-free : (slots id : ℕ) (live : Bool) (strong : ℕ) → id < 2 ^ 32 → strong < 2 ^ 32 → IsTyped (record (free_cell slots id) { live = live; strong = strong })
typed-free slots id live strong low few = record {
  bits = omega arith;
  id = low;
  strong = few;
  weak = omega arith;
  payload = omega arith;
  slot_count = length-replicate slots 0;
  targets = λ slot. subst (λ (n : ℕ). n < 2 ^ 32) (sym (get_or-zeros slots slot)) (omega arith);
}

typed-cell : (slots id : ℕ) → id < 2 ^ 32 → IsTyped (fresh_cell slots id)
typed-cell slots id low = by (id == 1) where
  by : (b : Bool) → IsTyped (if b then record (free_cell slots 1) { live = true; strong = 1 } else free_cell slots id)
  by true = typed-free slots 1 true 1 (omega arith) (omega arith)
  by false = typed-free slots id false 0 low (omega arith)

typed-places : (slots first : ℕ) (places : List ℕ) → AllByRecursion (λ k. first + k < 2 ^ 32) places → (place : ℕ) (d : Cell slots) → place < length (map (λ k. fresh_cell slots (first + k)) places)
    → IsTyped (get_or (map (λ k. fresh_cell slots (first + k)) places) place d)
typed-places slots first [] all place d below = absurd (omega (arith, below))
typed-places slots first (k ∷ ks) all zero d below = typed-cell slots (first + k) all.0
typed-places slots first (k ∷ ks) all (suc n) d below = typed-places slots first ks all.1 n d (omega (arith, below))

typed-page : (slots page : ℕ) → page < 1024 → AreTyped (fresh_page slots page)
typed-page slots page few =
    typed-places slots (first_id page) (0 ∷ 1 ∷ 2 ∷ 3 ∷ 4 ∷ 5 ∷ 6 ∷ 7 ∷ [])
    (omega (arith, few), (omega (arith, few), (omega (arith, few), (omega (arith, few), (omega (arith, few), (omega (arith, few), (omega (arith, few), (omega (arith, few), tt))))))))

-- ---- its bytes

slots-cell : (slots id : ℕ) → length (fresh_cell slots id).slots ≡ slots
slots-cell slots id = by (id == 1) where
  by : (b : Bool) → length (if b then record (free_cell slots 1) { live = true; strong = 1 } else free_cell slots id).slots ≡ slots
  by true = length-replicate slots 0
  by false = length-replicate slots 0

slots-places : (slots first : ℕ) (places : List ℕ) (place : ℕ) (d : Cell slots) → place < length (map (λ k. fresh_cell slots (first + k)) places)
    → length (get_or (map (λ k. fresh_cell slots (first + k)) places) place d).slots ≡ slots
slots-places slots first [] place d below = absurd (omega (arith, below))
slots-places slots first (k ∷ ks) zero d below = slots-cell slots (first + k)
slots-places slots first (k ∷ ks) (suc n) d below = slots-places slots first ks n d (omega (arith, below))

-- they are as many as each page has
page-length : (slots page : ℕ) → IsSlotCount slots → length (fresh_page_bytes_of slots page) ≡ page_size slots
page-length slots page known = length-page_bytes (fresh_page slots page) known (slots-places slots (first_id page) (0 ∷ 1 ∷ 2 ∷ 3 ∷ 4 ∷ 5 ∷ 6 ∷ 7 ∷ []))

-- pieces of one length stand at their places
piece : (f : ℕ → List ℕ) (size first count page : ℕ) → ((k : ℕ) → length (f k) ≡ size) → page < count → take size (drop (size * page) (flat_map f (range_with_len first count))) ≡ f (first + page)
piece f size first zero page long below = absurd (omega (arith, below))
piece f size first (suc count) zero long below =
    let none : size * 0 ≡ 0 = omega arith in
    let here : first ≡ first + 0 = omega arith in
    let all = f first ++ flat_map f (range_with_len (first + 1) count) in
    ap (λ (n : ℕ). take size (drop n all)) none ∙ take_at (f first) (flat_map f (range_with_len (first + 1) count)) size (long first) ∙ ap f here
piece f size first (suc count) (suc page) long below =
    let rest = flat_map f (range_with_len (first + 1) count) in
    let far : size * suc page ≡ size + size * page = omega arith in
    let here : first + 1 + page ≡ first + suc page = omega arith in
    ap (λ (n : ℕ). take size (drop n (f first ++ rest))) far
    ∙ ap (λ (l : List ℕ). take size l) (skip (f first) rest size (size * page) (long first))
    ∙ piece f size (first + 1) count page long (omega (arith, below)) ∙ ap f here
  where
    skip : (p q : List ℕ) (n more : ℕ) → length p ≡ n → drop (n + more) (p ++ q) ≡ drop more q
    skip p q n more is = sym (drop-drop more n (p ++ q)) ∙ ap (λ (l : List ℕ). drop more l) (drop_at p q n is)

-- so the bytes of a page in the pages of a fresh store are those of the fresh page
page-bytes : (slots pages page : ℕ) → IsSlotCount slots → page < pages → bytes_of_page slots page (fresh_pages_of slots pages) ≡ fresh_page_bytes_of slots page
page-bytes slots pages page known below = piece (fresh_page_bytes_of slots) (page_size slots) 0 pages page (λ k. page-length slots k known) below ∙ ap (fresh_page_bytes_of slots) (omega arith)

-- they spell it
spells : (slots page : ℕ) → Spells page (fresh_page slots page) (fresh_page_bytes_of slots page)
spells slots page = record { rules = page-rules slots page; spelled = refl }

-- ---- its cells

free-stored : (slots id : ℕ) → cell_of (free_cell slots id) ≡ blank_cell false slots
free-stored slots id = ap (λ (ps : List Pointer). let c : StoredCell = record { live = false; bit = false; strong = 0; weak = 0; payload = 0; pointers = ps } in c) (pointers_from-replicate 0 slots)

root-stored : (slots : ℕ) → cell_of (fresh_cell slots 1) ≡ fresh_root slots
root-stored slots = ap (λ (ps : List Pointer). let c : StoredCell = record { live = true; bit = false; strong = 1; weak = 0; payload = 0; pointers = ps } in c) (pointers_from-replicate 0 slots)

-- the cell of an id is the fresh store's
cell-stored : (slots more id : ℕ) → 1 ≤ id → id ≤ suc more → cell_of (fresh_cell slots id) ≡ cell_at (fresh_cells slots more) id
cell-stored slots more zero low high = absurd (omega (arith, low))
cell-stored slots more (suc zero) low high = root-stored slots
cell-stored slots more (suc (suc k)) low high =
    ap (λ (b : Bool). let root : Cell slots = record (free_cell slots 1) { live = true; strong = 1 } in cell_of (cond b root (free_cell slots (suc (suc k))))) (ne_eqb (suc (suc k)) 1 (λ e. absurd (omega (arith, e))))
    ∙ free-stored slots (suc (suc k))
    ∙ sym (get_or-replicate more k (blank_cell false slots) (blank_cell false 0) (omega (arith, high)))

module _ (slots pages : ℕ) (known : IsSlotCount slots) (few : pages ≤ 1024) where
  -- no page is damaged
  pub pages-whole : (page at : ℕ) → page < pages → FailsAt slots page (bytes_of_page slots page (fresh_pages_of slots pages)) at → ⊥
  pages-whole page at below fails = by (subst (λ (bytes : List ℕ). FailsAt slots page bytes at) (page-bytes slots pages page known below) fails)
    where
      by : FailsAt slots page (fresh_page_bytes_of slots page) at → ⊥
      by (inl short) = let long = page-length slots page known in let less = short.0 in omega (arith, long, less)
      by (inr broken) =
          page_refused page broken.1.place broken.1.offset (fresh_page_bytes_of slots page) known broken.1.within broken.1.here (fresh_page slots page) (typed-page slots page (omega (arith, below, few))) (spells slots page)

  -- the cell of an id in place is the fresh store's
  in-place : (more id : ℕ) → suc more ≡ 8 * pages → 1 ≤ id → id ≤ 8 * pages → cell_at (fresh_cells slots more) id ≡ cell_in_place slots (fresh_pages_of slots pages) id
  in-place more id size low high =
      let page = page_of_id id in
      let place = place_of id in
      let below : page < pages = omega (arith, low, high) in
      let within : place < 8 = omega arith in
      let here : id ≡ first_id page + place = omega (arith, low) in
      let d : Cell slots = free_cell slots 0 in
      let bytes = page-bytes slots pages page known below in
      sym (cell-stored slots more id low (omega (arith, size, high)))
      ∙ ap (λ (n : ℕ). cell_of (fresh_cell slots n)) here
      ∙ ap cell_of (sym (at-place slots page place d within))
      ∙ ap cell_of (cell_spelled page (fresh_page slots page) (fresh_page_bytes_of slots page) place d known (typed-page slots page (omega (arith, below, few))) (spells slots page) within)
      ∙ ap (λ (l : List ℕ). cell_of (cell_in slots (bytes_at slots l place))) (sym bytes)

  -- so the cells of the pages are those of a fresh store
  pub cells-are : (more : ℕ) → suc more ≡ 8 * pages → fresh_cells slots more ≡ cells_of_log slots pages (fresh_pages_of slots pages) []
  cells-are more size =
      let f = cell_after slots (fresh_pages_of slots pages) [] in
      let sized = length-replicate more (blank_cell false slots) in
      let many = length-map-range_with_len f 1 (8 * pages) in
      ext_get_or (blank_cell false 0) (fresh_cells slots more) (cells_of_log slots pages (fresh_pages_of slots pages) []) (omega (arith, sized, many, size)) at
    where
      at : (i : ℕ) → i < length (fresh_cells slots more) → get_or (fresh_cells slots more) i (blank_cell false 0) ≡ get_or (cells_of_log slots pages (fresh_pages_of slots pages) []) i (blank_cell false 0)
      at zero below = refl
      at (suc i) below =
          let f = cell_after slots (fresh_pages_of slots pages) [] in
          let sized = length-replicate more (blank_cell false slots) in
          let low : i < 8 * pages = omega (arith, below, sized, size) in
          in-place more (suc i) size (omega arith) (omega (arith, low)) ∙ sym (get_or-map-range_with_len f 1 (8 * pages) i (suc i) (blank_cell false 0) low (omega arith))
