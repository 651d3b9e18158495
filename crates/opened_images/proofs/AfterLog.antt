-- The cells after a log are those of pages: free ones are empty, and live ones have so many slots.
use Rattle.std.proofs.Common.{◌≡◌, ℕ, zero, suc, ◌+◌, ◌*◌, ◌<◌, ◌≤◌, ◌⊎◌, inl, inr, Bool, true, false, cond, List, [], ◌∷◌, ◌++◌, length, map, take, drop, fold, Option, Some, None, refl, sym, ap, subst, ◌∙◌, append_assoc, lit<, arith}
use Rattle.std.specs.Prelude.{◌-◌, ◌==◌, ◌||◌, nat_lt, nat_le, slice_index}
use Rattle.std.specs.List.{range_with_len}
use Rattle.std.proofs.lemmas.Bool.{cases_lt, ltb-false, eqb-false, ne_eqb}
use Rattle.std.proofs.lemmas.Bool.Decides.{leb_tells}
use Rattle.std.proofs.lemmas.Nat.{mod_below, div_below}
use Rattle.std.proofs.Math.Nat.{div-add-mod}
use Rattle.std.proofs.lemmas.List.{append-nil, length-take-le, get_or_past}
use Rattle.std.proofs.lemmas.List.FromFn.{length-map-range_with_len, get_or-map-range_with_len}
use Rattle.std.proofs.lemmas.List.Sums.{fold-append}
use Rattle.cell_model.specs.Cells.{Cell, blank_cell, cell_at, is_live}
use Rattle.cell_page.specs.Format.{first_id, cell_size, page_size, page_of_id, place_of}
use Rattle.cell_page.specs.Fields.{numbers_in, cell_in as fields_in_cell, bytes_at, broken_in_cell, later_fields, rest_field, FailsAt}
use Rattle.cell_page.specs.Stored.{cell_of}
use Rattle.cell_page.proofs.Broken.{none_first, none_of-append}
use Rattle.cell_page.proofs.Rules.{rules_obeyed}
use Rattle.cell_page.proofs.Numbers.{length-numbers_in}
use Rattle.log_record.specs.declared.record.Record.{Record}
use Rattle.log_record.specs.declared.record.Record.TheVariants.{OfCells, Image, Turn}
use Rattle.log_record.specs.Records.{record_of}
use Rattle.restart_laws.specs.Local.{Item, OfCells as CellsItem, Image as ImageItem, is_in_page, cell_in, after_item, has_image, replayed}
use Rattle.restart_laws.specs.Rules.{AreOfPages}
use Rattle.opened_images.specs.LogRecords.{HaveSpellings}
use Rattle.page_area.specs.Place.{bytes_of_page}
use Rattle.opened_images.specs.Replayed.{items_of, cell_in_place, cell_after, cells_of_log, IsDamagedPage, AllFitCells}
use Rattle.opened_images.proofs.SomeOutcome.{no_least}
use Rattle.opened_images.proofs.FormedCells.{IsFormed, true_false, cell_formed, image_formed, effect_formed}

-- ---- a page in place

no_value : (o : Option ℕ) → ((n : ℕ) → o ≡ Some n → ⊥) → o ≡ None
no_value None none = refl
no_value (Some n) none = absurd (none n refl)

-- a field of the cell at this place breaks the rules
abbrev Breaks : (slots page : ℕ) → List ℕ → ℕ → Type 0
Breaks slots page bytes k = (k < 8) × ((offset : ℕ) × (broken_in_cell slots (first_id page + k) (bytes_at slots bytes k) ≡ Some offset))

-- in a whole page no field of a cell breaks the rules
unbroken : (slots page : ℕ) (bytes : List ℕ) → length bytes ≡ page_size slots → ((at : ℕ) → FailsAt slots page bytes at → ⊥) → (place : ℕ) → place < 8
    → broken_in_cell slots (first_id page + place) (bytes_at slots bytes place) ≡ None
unbroken slots page bytes size whole place low = no_value (broken_in_cell slots (first_id page + place) (bytes_at slots bytes place)) (λ offset e. no_least (Breaks slots page bytes) least place (low, (offset, e)))
  where
    least : (k : ℕ) → Breaks slots page bytes k → ((j : ℕ) → j < k → Breaks slots page bytes j → ⊥) → ⊥
    least k has lower =
        whole (k * cell_size slots + has.1.0) (
        inr (
          size,
          record {
            place = k;
            within = has.0;
            earlier = λ j before. no_value (broken_in_cell slots (first_id page + j) (bytes_at slots bytes j)) (λ offset e. lower j before (omega (arith, before, has.0), (offset, e)));
            offset = has.1.0;
            here = has.1.1;
            sum = refl;
          },
        )
        )

target_bit : (state bit : ℕ) → state ≤ 1 → bit ≤ state → (state == 1) ≡ false → (bit == 1) ≡ false
target_bit state bit small within free =
    let not_one : state ≡ 1 → ⊥ = eqb-false _ _ free in
    ne_eqb bit 1 (λ one. not_one (omega (arith, small, within, one)))

read_formed : (slots id : ℕ) (bytes : List ℕ) → broken_in_cell slots id bytes ≡ None → IsFormed slots (cell_of (fields_in_cell slots bytes))
unfolding broken_in_cell fields_in_cell
read_formed slots id bytes h =
    let first = none_first (nat_lt 1 (slice_index bytes 0)) 0 _ h in
    let second = none_first (nat_lt (slice_index bytes 0) (slice_index bytes 1)) 1 _ first.1 in
    let state : slice_index bytes 0 ≤ 1 = ltb-false 1 (slice_index bytes 0) first.0 in
    let bit : slice_index bytes 1 ≤ slice_index bytes 0 = ltb-false (slice_index bytes 0) (slice_index bytes 1) second.0 in
    let parts = none_of-append (later_fields id (fields_in_cell slots bytes)) (rest_field slots bytes ∷ []) second.1 in
    let count : length (numbers_in slots (drop 24 bytes)) ≡ slots = length-numbers_in slots (drop 24 bytes) in
    cell_formed id (fields_in_cell slots bytes) (rules_obeyed id (fields_in_cell slots bytes) (target_bit (slice_index bytes 0) (slice_index bytes 1) state bit) count parts.0) count

take_short : (n : ℕ) (l : List ℕ) → length l < n → length (take n l) < n
take_short zero l low = absurd (omega (arith, low))
take_short (suc n) [] low = omega arith
take_short (suc n) (x ∷ xs) low = omega (arith, take_short n xs (omega (arith, low)))

whole_size : (slots page : ℕ) (area : List ℕ) → ((at : ℕ) → FailsAt slots page (bytes_of_page slots page area) at → ⊥) → length (bytes_of_page slots page area) ≡ page_size slots
whole_size slots page area whole = by (cases_lt (length (drop (page_size slots * page) area)) (page_size slots))
  where
    by : (length (drop (page_size slots * page) area) < page_size slots) ⊎ (page_size slots ≤ length (drop (page_size slots * page) area)) → length (bytes_of_page slots page area) ≡ page_size slots
    by (inl low) = absurd (whole (length (bytes_of_page slots page area)) (inl (take_short (page_size slots) (drop (page_size slots * page) area) low, refl)))
    by (inr long) = length-take-le (page_size slots) (drop (page_size slots * page) area) long

-- an id and the first one of its page
leb_same : (a b c d : ℕ) → (a ≤ b → c ≤ d) → (c ≤ d → a ≤ b) → nat_le a b ≡ nat_le c d
leb_same a b c d there back = by (leb_tells a b) (leb_tells c d)
  where
    by : ((nat_le a b ≡ true) × (a ≤ b)) ⊎ ((nat_le a b ≡ false) × (b < a)) → ((nat_le c d ≡ true) × (c ≤ d)) ⊎ ((nat_le c d ≡ false) × (d < c)) → nat_le a b ≡ nat_le c d
    by (inl p) (inl q) = p.0 ∙ sym q.0
    by (inl p) (inr q) = absurd (omega (arith, there p.1, q.1))
    by (inr p) (inl q) = absurd (omega (arith, back q.1, p.1))
    by (inr p) (inr q) = p.0 ∙ sym q.0

same_page_test : (p x q r : ℕ) → r < 8 → x ≡ 8 * q + r + 1 → is_in_page p x ≡ is_in_page p (8 * q + 1)
same_page_test p x q r low e = both (leb_same (8 * p + 1) x (8 * p + 1) (8 * q + 1) (λ f. omega (arith, low, e, f)) (λ f. omega (arith, low, e, f))) (leb_same x (8 * p + 8) (8 * q + 1) (8 * p + 8) (λ f. omega (arith, low, e, f)) (λ f. omega (arith, low, e, f)))
  where
    both : nat_le (8 * p + 1) x ≡ nat_le (8 * p + 1) (8 * q + 1) → nat_le x (8 * p + 8) ≡ nat_le (8 * q + 1) (8 * p + 8) → is_in_page p x ≡ is_in_page p (8 * q + 1)
    both e f = cc

pub same_images : (x q r : ℕ) (items : List Item) → r < 8 → x ≡ 8 * q + r + 1 → has_image x items ≡ has_image (8 * q + 1) items
same_images x q r [] low e = refl
same_images x q r (CellsItem s ∷ items) low e = same_images x q r items low e
same_images x q r (ImageItem page cells ∷ items) low e = both (same_page_test page x q r low e) (same_images x q r items low e)
  where
    both : is_in_page page x ≡ is_in_page page (8 * q + 1) → has_image x items ≡ has_image (8 * q + 1) items → is_in_page page x || has_image x items ≡ is_in_page page (8 * q + 1) || has_image (8 * q + 1) items
    both e f = cc

-- the cell of an id in place
place_formed : {slots : ℕ} (pages : ℕ) (area : List ℕ) (rs : List (Record slots)) (id : ℕ) → ((page at : ℕ) → page < pages → IsDamagedPage area rs page at → ⊥) → 1 ≤ id → id ≤ 8 * pages
    → has_image id (items_of rs) ≡ false → IsFormed slots (cell_in_place slots area id)
place_formed {slots} pages area rs id whole low high none =
    read_formed slots (first_id page + place_of id) (bytes_at slots (bytes_of_page slots page area) (place_of id)) (unbroken slots page (bytes_of_page slots page area) (whole_size slots page area sound) sound (place_of id) within)
  where
    page : ℕ
    page = page_of_id id

    within : place_of id < 8
    within = mod_below (id - 1) 8 (lit< tt)

    below : page < pages
    below = div_below (id - 1) 8 pages (lit< tt) (omega (arith, low, high))

    split : id ≡ 8 * page + place_of id + 1
    split = omega (arith, low, div-add-mod (id - 1) 8)

    sound : (at : ℕ) → FailsAt slots page (bytes_of_page slots page area) at → ⊥
    sound at fails = whole page at below (record { no_image = sym (same_images id page (place_of id) (items_of rs) within split) ∙ none; fails = fails })

-- ---- one record after another

pub items-append : {slots : ℕ} (rs ss : List (Record slots)) → items_of (rs ++ ss) ≡ items_of rs ++ items_of ss
items-append [] ss = refl
items-append (OfCells r ∷ rs) ss = ap (λ (is : List Item). CellsItem (record_of r) ∷ is) (items-append rs ss)
items-append (Image page cells ∷ rs) ss = ap (λ (is : List Item). ImageItem page (map cell_of cells) ∷ is) (items-append rs ss)
items-append (Turn version pages ∷ rs) ss = items-append rs ss

pub after_more : {slots : ℕ} (area : List ℕ) (done : List (Record slots)) (r : Record slots) (id : ℕ) → cell_after slots area (done ++ r ∷ []) id ≡ fold (after_item slots id) (cell_after slots area done id) (items_of (r ∷ []))
after_more {slots} area done r id =
    ap (λ (is : List Item). replayed slots id (cell_in_place slots area id) is) (items-append done (r ∷ [])) ∙ fold-append (after_item slots id) (cell_in_place slots area id) (items_of done) (items_of (r ∷ []))

cells_formed : {slots : ℕ} (pages : ℕ) (area : List ℕ) (done rs : List (Record slots)) (id : ℕ) → 1 ≤ id → id ≤ 8 * pages → HaveSpellings rs → AllFitCells pages area done rs []
    → (has_image id (items_of rs) ≡ false → IsFormed slots (cell_after slots area done id)) → IsFormed slots (cell_after slots area (done ++ rs) id)
cells_formed {slots} pages area done [] id low high spelled fit formed = subst (λ (l : List (Record slots)). IsFormed slots (cell_after slots area l id)) (sym (append-nil done)) (formed refl)
cells_formed {slots} pages area done (OfCells r ∷ rs) id low high spelled fit formed =
    subst (λ (l : List (Record slots)). IsFormed slots (cell_after slots area l id)) (append_assoc done (OfCells r ∷ []) rs) (
    cells_formed pages area (done ++ OfCells r ∷ []) rs id low high spelled.2 fit.1 (
    λ none. subst (λ (c : Cell). IsFormed slots c) (sym (after_more area done (OfCells r) id))
    (effect_formed slots (record_of r) id (cell_after slots area done id) (formed none) (fit.0 id low high (ap (λ (l : List (Record slots)). has_image id (items_of l)) (append-nil rs) ∙ none)))
    )
    )
cells_formed {slots} pages area done (Image page cells ∷ rs) id low high spelled fit formed =
    subst (λ (l : List (Record slots)). IsFormed slots (cell_after slots area l id)) (append_assoc done (Image page cells ∷ []) rs) (
    cells_formed pages area (done ++ Image page cells ∷ []) rs id low high spelled.2 fit.1 (
    λ none. subst (λ (c : Cell). IsFormed slots c) (sym (after_more area done (Image page cells) id)) (by none (is_in_page page id) refl)
    )
    )
  where
    by : has_image id (items_of rs) ≡ false → (b : Bool) → is_in_page page id ≡ b → IsFormed slots (cond b (cell_in page (map cell_of cells) id) (cell_after slots area done id))
    by none true e = image_formed page id cells spelled.0 spelled.1.1 e
    by none false e = formed (ap (λ (b : Bool). b || has_image id (items_of rs)) e ∙ none)
cells_formed {slots} pages area done (Turn version count ∷ rs) id low high spelled fit formed =
    subst (λ (l : List (Record slots)). IsFormed slots (cell_after slots area l id)) (append_assoc done (Turn version count ∷ []) rs) (
    cells_formed pages area (done ++ Turn version count ∷ []) rs id low high spelled.2 fit.1 (
    λ none. subst (λ (c : Cell). IsFormed slots c) (sym (after_more area done (Turn version count) id)) (formed none)
    )
    )

-- ---- all cells

pub of_pages : {slots : ℕ} (pages : ℕ) (area : List ℕ) (rs : List (Record slots)) → ((page at : ℕ) → page < pages → IsDamagedPage area rs page at → ⊥) → HaveSpellings rs → AllFitCells pages area [] rs []
    → AreOfPages slots (8 * pages) (cells_of_log slots pages area rs)
of_pages {slots} pages area rs whole spelled fit = record { none = refl; sized = omega (arith, length-map-range_with_len (cell_after slots area rs) 1 (8 * pages)); empty = empty; slotted = slotted }
  where
    formed : (k : ℕ) → k < 8 * pages → IsFormed slots (cell_after slots area rs (suc k))
    formed k low = cells_formed pages area [] rs (suc k) (omega arith) (omega (arith, low)) spelled fit (λ none. place_formed pages area rs (suc k) whole (omega arith) (omega (arith, low)) none)

    there : (k : ℕ) → k < 8 * pages → cell_at (cells_of_log slots pages area rs) (suc k) ≡ cell_after slots area rs (suc k)
    there k low = get_or-map-range_with_len (cell_after slots area rs) 1 (8 * pages) k (suc k) (blank_cell false 0) low (omega arith)

    within : (k : ℕ) → suc k < length (cells_of_log slots pages area rs) → k < 8 * pages
    within k low = omega (arith, low, length-map-range_with_len (cell_after slots area rs) 1 (8 * pages))

    empty : (id : ℕ) → id < length (cells_of_log slots pages area rs) → is_live (cells_of_log slots pages area rs) id ≡ false → cell_at (cells_of_log slots pages area rs) id ≡ blank_cell false slots
    empty zero low free = refl
    empty (suc k) low free = there k (within k low) ∙ (formed k (within k low)).empty (ap (λ (c : Cell). c.live) (sym (there k (within k low))) ∙ free)

    slotted : (id : ℕ) → is_live (cells_of_log slots pages area rs) id ≡ true → length (cell_at (cells_of_log slots pages area rs) id).pointers ≡ slots
    slotted zero live = absurd (true_false (sym live))
    slotted (suc k) live = by (cases_lt k (8 * pages))
      where
        by : (k < 8 * pages) ⊎ (8 * pages ≤ k) → length (cell_at (cells_of_log slots pages area rs) (suc k)).pointers ≡ slots
        by (inl low) = ap (λ (c : Cell). length c.pointers) (there k low) ∙ (formed k low).slotted (ap (λ (c : Cell). c.live) (sym (there k low)) ∙ live)
        by (inr high) =
            let past = get_or_past (map (cell_after slots area rs) (range_with_len 1 (8 * pages))) k (blank_cell false 0) (omega (arith, high, length-map-range_with_len (cell_after slots area rs) 1 (8 * pages))) in
            absurd (true_false (sym live ∙ ap (λ (c : Cell). c.live) past))
