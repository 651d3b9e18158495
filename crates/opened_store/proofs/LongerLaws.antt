-- Bytes after the end of the pages area change nothing that a store opens to.
use Rattle.std.proofs.Common.{◌≡◌, ℕ, zero, suc, ◌+◌, ◌-◌, ◌*◌, ◌<◌, ◌≤◌, ◌⊎◌, inl, inr, Bool, true, false, cond, List, [], ◌∷◌, ◌++◌, length, map, take, drop, Some, refl, sym, ap, subst, ◌∙◌, append_assoc, lit<, arith}
use Rattle.std.specs.Prelude.{◌||◌, ◌==◌, if◌then◌else◌, nat_le, ◌%◌}
use Rattle.std.specs.List.{range_with_len}
use Rattle.std.proofs.lemmas.Bool.{cases_lt}
use Rattle.std.proofs.lemmas.Bool.Decides.{leb_tells}
use Rattle.std.proofs.lemmas.Nat.{mod_below, div_below}
use Rattle.std.proofs.Math.Nat.{div-add-mod}
use Rattle.std.proofs.lemmas.List.{append-nil}
use Rattle.cell_model.specs.Cells.{Cell, blank_cell}
use Rattle.cell_page.specs.Format.{page_size, page_of_id, place_of}
use Rattle.cell_page.specs.Fields.{FailsAt, cell_in as cell_fields, bytes_at as place_bytes}
use Rattle.cell_page.specs.Stored.{cell_of}
use Rattle.disk_model.specs.declared.area.Area.{Area}
use Rattle.disk_model.specs.declared.area.Area.TheVariants.{LogA, LogB}
use Rattle.disk_model.specs.Areas.{Bytes, in_area}
use Rattle.gate_log.specs.OnDisk.{named_by}
use Rattle.log_record.specs.declared.record.Record.{Record}
use Rattle.log_record.specs.declared.record.Record.TheVariants.{OfCells, Image, Turn}
use Rattle.log_record.specs.Records.{record_of}
use Rattle.page_area.specs.Place.{bytes_of_page}
use Rattle.opened_images.specs.LogRecords.{all_of, IsRecordLog}
use Rattle.opened_images.specs.Replayed.{items_of, cell_in_place, cell_after, cells_of_log, IsDamagedPage, FitsCellsOf, AllFitCells}
use Rattle.opened_images.specs.GoesOn.{IsEndedLog}
use Rattle.page_marks.specs.declared.marks.PageMark.{PageMark}
use Rattle.page_marks.specs.Marks.{IsMarkedBegun}
use Rattle.opened_images.specs.Opened.{no_store, damaged_log, unknown_version, damaged_page, unfit, unsound, stuck, opens, AreCellsRead}
use Rattle.restart_laws.specs.Local.{Item, OfCells as CellsItem, Image as ImageItem, is_in_page, cell_in, effect, FitsAt, has_image, replayed}
use Rattle.opened_store.specs.Longer.{LongerPagesLaw}

-- ---- the bytes of a whole page

take_short : (n : ℕ) (l : List ℕ) → length l < n → length (take n l) < n
take_short zero l low = absurd (omega (arith, low))
take_short (suc n) [] low = omega arith
take_short (suc n) (x ∷ xs) low = omega (arith, take_short n xs (omega (arith, low)))

-- where nothing fails, the page is there
whole_size : (slots page : ℕ) (area : List ℕ) → ((at : ℕ) → FailsAt slots page (bytes_of_page slots page area) at → ⊥) → page_size slots ≤ length (drop (page_size slots * page) area)
whole_size slots page area whole = by (cases_lt (length (drop (page_size slots * page) area)) (page_size slots))
  where
    by : (length (drop (page_size slots * page) area) < page_size slots) ⊎ (page_size slots ≤ length (drop (page_size slots * page) area)) → page_size slots ≤ length (drop (page_size slots * page) area)
    by (inl low) = absurd (whole (length (bytes_of_page slots page area)) (inl (take_short (page_size slots) (drop (page_size slots * page) area) low, refl)))
    by (inr long) = long

-- what stands after a list that is long enough
take-front : (n : ℕ) (xs ys : List ℕ) → n ≤ length xs → take n (xs ++ ys) ≡ take n xs
take-front zero xs ys l = refl
take-front (suc n) [] ys l = absurd (omega (arith, l))
take-front (suc n) (x ∷ xs) ys l = ap (λ (r : List ℕ). x ∷ r) (take-front n xs ys (omega (arith, l)))

drop-front : (n : ℕ) (xs ys : List ℕ) → n ≤ length xs → drop n (xs ++ ys) ≡ drop n xs ++ ys
drop-front zero xs ys l = refl
drop-front (suc n) [] ys l = absurd (omega (arith, l))
drop-front (suc n) (x ∷ xs) ys l = drop-front n xs ys (omega (arith, l))

drop-some : (n : ℕ) (xs : List ℕ) → 0 < length (drop n xs) → n ≤ length xs
drop-some zero xs h = omega arith
drop-some (suc n) [] h = absurd (omega (arith, h))
drop-some (suc n) (x ∷ xs) h = let r = drop-some n xs h in omega (arith, r)

page-some : (slots : ℕ) → 0 < page_size slots
page-some slots = by (slots == 6)
  where
    by : (b : Bool) → 0 < 8 * (if b then 64 else 128)
    by true = omega arith
    by false = omega arith

same-bytes : (slots page : ℕ) (area rest : List ℕ) → page_size slots ≤ length (drop (page_size slots * page) area) → bytes_of_page slots page (area ++ rest) ≡ bytes_of_page slots page area
same-bytes slots page area rest long =
    let some = page-some slots in
    let low = drop-some (page_size slots * page) area (omega (arith, some, long)) in
    ap (λ (l : List ℕ). take (page_size slots) l) (drop-front (page_size slots * page) area rest low) ∙ take-front (page_size slots) (drop (page_size slots * page) area) rest long

-- ---- the page of an id

leb_same : (a b c d : ℕ) → (a ≤ b → c ≤ d) → (c ≤ d → a ≤ b) → nat_le a b ≡ nat_le c d
leb_same a b c d there back = by (leb_tells a b) (leb_tells c d)
  where
    by : ((nat_le a b ≡ true) × (a ≤ b)) ⊎ ((nat_le a b ≡ false) × (b < a)) → ((nat_le c d ≡ true) × (c ≤ d)) ⊎ ((nat_le c d ≡ false) × (d < c)) → nat_le a b ≡ nat_le c d
    by (inl p) (inl q) = p.0 ∙ sym q.0
    by (inl p) (inr q) = absurd (omega (arith, there p.1, q.1))
    by (inr p) (inl q) = absurd (omega (arith, back q.1, p.1))
    by (inr p) (inr q) = p.0 ∙ sym q.0

same_page_test : (p x q r : ℕ) → r < 8 → x ≡ 8 * q + r + 1 → is_in_page p x ≡ is_in_page p (8 * q + 1)
same_page_test p x q r low e = both (leb_same (8 * p + 1) x (8 * p + 1) (8 * q + 1) (λ f. omega (arith, low, e, f)) (λ f. omega (arith, low, e, f))) (leb_same x (8 * p + 8) (8 * q + 1) (8 * p + 8) (λ f. omega (arith, low, e, f)) (λ f. omega (arith, low, e, f)))
  where
    both : nat_le (8 * p + 1) x ≡ nat_le (8 * p + 1) (8 * q + 1) → nat_le x (8 * p + 8) ≡ nat_le (8 * q + 1) (8 * p + 8) → is_in_page p x ≡ is_in_page p (8 * q + 1)
    both e f = cc

same_images : (x q r : ℕ) (items : List Item) → r < 8 → x ≡ 8 * q + r + 1 → has_image x items ≡ has_image (8 * q + 1) items
same_images x q r [] low e = refl
same_images x q r (CellsItem s ∷ items) low e = same_images x q r items low e
same_images x q r (ImageItem page cells ∷ items) low e = both (same_page_test page x q r low e) (same_images x q r items low e)
  where
    both : is_in_page page x ≡ is_in_page page (8 * q + 1) → has_image x items ≡ has_image (8 * q + 1) items → is_in_page page x || has_image x items ≡ is_in_page page (8 * q + 1) || has_image (8 * q + 1) items
    both e f = cc

-- ---- a cell

-- where the id's page has an image, it does not matter what it starts from
image-starts : (slots x : ℕ) (c d : Cell) (items : List Item) → has_image x items ≡ true → replayed slots x c items ≡ replayed slots x d items
image-starts slots x c d [] h = absurd cc
image-starts slots x c d (CellsItem r ∷ items) h = image-starts slots x (effect slots r x c) (effect slots r x d) items h
image-starts slots x c d (ImageItem page cells ∷ items) h = by (is_in_page page x) (λ k. image-starts slots x c d items k) h
  where
    by : (b : Bool) → (has_image x items ≡ true → replayed slots x c items ≡ replayed slots x d items) → b || has_image x items ≡ true → replayed slots x (cond b (cell_in page cells x) c) items ≡ replayed slots x (cond b (cell_in page cells x) d) items
    by true later k = refl
    by false later k = later k

-- a cell whose page has no image is the same in place
same-in-place : (slots pages : ℕ) (area rest : List ℕ) (rs : List (Record slots)) (id : ℕ) → ((page at : ℕ) → page < pages → IsDamagedPage area rs page at → ⊥) → 1 ≤ id → id ≤ 8 * pages → has_image id (items_of rs) ≡ false
    → cell_in_place slots (area ++ rest) id ≡ cell_in_place slots area id
same-in-place slots pages area rest rs id whole low high none =
    ap (λ (bytes : List ℕ). cell_of (cell_fields slots (place_bytes slots bytes (place_of id)))) (same-bytes slots page area rest (whole_size slots page area sound))
  where
    page : ℕ
    page = page_of_id id

    within : place_of id < 8
    within = mod_below (id - 1) 8 (lit< tt)

    below : page < pages
    below = div_below (id - 1) 8 pages (lit< tt) (omega (arith, low, high))

    split : id ≡ 8 * page + place_of id + 1
    split = omega (arith, low, div-add-mod (id - 1) 8)

    sound : (at : ℕ) → FailsAt slots page (bytes_of_page slots page area) at → ⊥
    sound at fails = whole page at below (record { no_image = sym (same_images id page (place_of id) (items_of rs) within split) ∙ none; fails = fails })

or-cases : (b : Bool) → (b ≡ true) ⊎ (b ≡ false)
or-cases true = inl refl
or-cases false = inr refl

-- an id that has no image among all records, where it has none among the first and none among the last
none-both : {slots : ℕ} (x : ℕ) (before : List (Record slots)) (later : List (Record slots)) → has_image x (items_of before) ≡ false → has_image x (items_of later) ≡ false → has_image x (items_of (before ++ later)) ≡ false
none-both x [] later e f = f
none-both x (OfCells r ∷ before) later e f = none-both x before later e f
none-both x (Image page cells ∷ before) later e f = by (is_in_page page x) (λ k. none-both x before later k f) e
  where
    by : (b : Bool) → (has_image x (items_of before) ≡ false → has_image x (items_of (before ++ later)) ≡ false) → b || has_image x (items_of before) ≡ false → b || has_image x (items_of (before ++ later)) ≡ false
    by true more k = absurd cc
    by false more k = more k
none-both x (Turn version pages ∷ before) later e f = none-both x before later e f

-- the cell after the first records, where no image of its page comes later
same-after : (slots pages : ℕ) (area rest : List ℕ) (before later : List (Record slots)) (id : ℕ) → ((page at : ℕ) → page < pages → IsDamagedPage area (before ++ later) page at → ⊥) → 1 ≤ id → id ≤ 8 * pages → has_image id (items_of later) ≡ false
    → cell_after slots (area ++ rest) before id ≡ cell_after slots area before id
same-after slots pages area rest before later id whole low high none = by (or-cases (has_image id (items_of before)))
  where
    by : (has_image id (items_of before) ≡ true) ⊎ (has_image id (items_of before) ≡ false) → cell_after slots (area ++ rest) before id ≡ cell_after slots area before id
    by (inl some) = image-starts slots id (cell_in_place slots (area ++ rest) id) (cell_in_place slots area id) (items_of before) some
    by (inr free) = ap (λ (c : Cell). replayed slots id c (items_of before)) (same-in-place slots pages area rest (before ++ later) id whole low high (none-both id before later free none))

-- ---- all records, and all cells

fit-longer : (slots pages : ℕ) (area rest : List ℕ) (before xs : List (Record slots)) → ((page at : ℕ) → page < pages → IsDamagedPage area (before ++ xs) page at → ⊥) → AllFitCells pages area before xs [] → AllFitCells pages (area ++ rest) before xs []
fit-longer slots pages area rest before [] whole f = tt
fit-longer slots pages area rest before (r ∷ xs) whole f = (one r whole f.0, fit-longer slots pages area rest (before ++ r ∷ []) xs (subst (λ l. (page at : ℕ) → page < pages → IsDamagedPage area l page at → ⊥) (sym (append_assoc before (r ∷ []) xs)) whole) f.1)
  where
    one : (r : Record slots) → ((page at : ℕ) → page < pages → IsDamagedPage area (before ++ r ∷ xs) page at → ⊥) → FitsCellsOf pages area before r (xs ++ []) → FitsCellsOf pages (area ++ rest) before r (xs ++ [])
    one (OfCells q) w f =
        λ id low high none.
        subst (λ (c : Cell). FitsAt (record_of q) id c) (sym (same-after slots pages area rest before (OfCells q ∷ xs) id w low high (ap (λ l. has_image id (items_of l)) (sym (append-nil xs)) ∙ none))) (f id low high none)
    one (Image page cells) w f = tt
    one (Turn version count) w f = tt

map-range : (f g : ℕ → Cell) (a n : ℕ) → ((k : ℕ) → a ≤ k → k < a + n → f k ≡ g k) → map f (range_with_len a n) ≡ map g (range_with_len a n)
map-range f g a zero h = refl
map-range f g a (suc n) h = cons-same (f a) (g a) (map f (range_with_len (a + 1) n)) (map g (range_with_len (a + 1) n)) (h a (omega arith) (omega arith)) (map-range f g (a + 1) n (λ k low high. h k (omega (arith, low)) (omega (arith, high))))
  where
    cons-same : (x y : Cell) (xs ys : List Cell) → x ≡ y → xs ≡ ys → x ∷ xs ≡ y ∷ ys
    cons-same x y xs ys e f = cc

cells-longer : (slots pages : ℕ) (area rest : List ℕ) (rs : List (Record slots)) → ((page at : ℕ) → page < pages → IsDamagedPage area rs page at → ⊥) → cells_of_log slots pages area rs ≡ cells_of_log slots pages (area ++ rest) rs
cells-longer slots pages area rest rs whole =
    ap (λ (cs : List Cell). blank_cell false slots ∷ cs)
    (map-range (cell_after slots area rs) (cell_after slots (area ++ rest) rs) 1 (8 * pages)
    (λ k low high. sym (same-after slots pages area rest rs [] k (subst (λ l. (page at : ℕ) → page < pages → IsDamagedPage area l page at → ⊥) (sym (append-nil rs)) whole) low (omega (arith, high)) refl)))

whole-longer : (slots pages : ℕ) (area rest : List ℕ) (rs : List (Record slots)) → ((page at : ℕ) → page < pages → IsDamagedPage area rs page at → ⊥) → (page at : ℕ) → page < pages → IsDamagedPage (area ++ rest) rs page at → ⊥
whole-longer slots pages area rest rs whole page at low d =
    let long = whole_size slots page area (λ place fails. whole page place low (record { no_image = d.no_image; fails = fails })) in
    whole page at low (record { no_image = d.no_image; fails = subst (λ (b : List ℕ). FailsAt slots page b at) (same-bytes slots page area rest long) d.fails })

-- ---- the image

log-apart : (bytes : List ℕ) (area : Area) → named_by bytes ≡ Some area → (area ≡ LogA) ⊎ (area ≡ LogB)
log-apart [] area e = absurd cc
log-apart (byte ∷ more) area e = by (byte % 2 == 0) e
  where
    by : (b : Bool) → Some (if b then LogA else LogB) ≡ Some area → (area ≡ LogA) ⊎ (area ≡ LogB)
    by true k = inl (cc k)
    by false k = inr (cc k)

same-log : (image : Bytes) (area : Area) (pages : List ℕ) → (area ≡ LogA) ⊎ (area ≡ LogB) → in_area (record image { pages = pages }) area ≡ in_area image area
same-log image area pages (inl e) = ap (λ (a : Area). in_area (record image { pages = pages }) a) e ∙ ap (λ (a : Area). in_area image a) (sym e)
same-log image area pages (inr e) = ap (λ (a : Area). in_area (record image { pages = pages }) a) e ∙ ap (λ (a : Area). in_area image a) (sym e)

read-longer : (slots : ℕ) (image : Bytes) (rest : List ℕ) (area : Area) (count : ℕ) (batches : List (List (Record slots))) (cells : List Cell) → AreCellsRead image area count batches cells
    → AreCellsRead (record image { pages = image.pages ++ rest }) area count batches cells
read-longer slots image rest area count batches cells r = record {
  pages_read = record {
    read = record {
      named = r.pages_read.read.named;
      log = subst (λ (l : List ℕ). IsRecordLog count batches l) (sym (same-log image area (image.pages ++ rest) (log-apart image.super_area area r.pages_read.read.named))) r.pages_read.read.log;
    };
    whole = whole-longer slots count image.pages rest (all_of batches) r.pages_read.whole;
  };
  fit = fit-longer slots count image.pages rest [] (all_of batches) r.pages_read.whole r.fit;
  are = r.are ∙ cells-longer slots count image.pages rest (all_of batches) r.pages_read.whole;
}

pub longer : LongerPagesLaw
longer slots image rest o open-is (no_store e) = absurd open-is
longer slots image rest o open-is (damaged_log area at n d) = absurd open-is
longer slots image rest o open-is (unknown_version area byte n v) = absurd open-is
longer slots image rest o open-is (damaged_page area pages batches page at r l d f) = absurd open-is
longer slots image rest o open-is (unfit area pages front before r after back p a n) = absurd open-is
longer slots image rest o open-is (unsound area pages batches cells rule id r b) = absurd open-is
longer slots image rest o open-is (stuck area pages batches cells id r k s) = absurd open-is
longer slots image rest o open-is (opens area pages batches cells r k c) = opens area pages batches cells (read-longer slots image rest area pages batches cells r) k c

-- ---- the log that a journal goes on from

ended-longer : {slots : ℕ} (count : ℕ) (area rest : List ℕ) (batches : List (List (Record slots))) (cells : List Cell) → IsEndedLog count area batches cells → IsEndedLog count (area ++ rest) batches cells
ended-longer {slots} count area rest batches cells e = record {
  read = e.read;
  whole = whole-longer slots count area rest (all_of batches) e.whole;
  fit = fit-longer slots count area rest [] (all_of batches) e.whole e.fit;
  are = e.are ∙ cells-longer slots count area rest (all_of batches) e.whole;
  ended = e.ended;
}

-- what has begun on a pages area has begun on a longer one
pub begun-longer : (slots count : ℕ) (area rest : List ℕ) (batches : List (List ℕ)) (cells : List Cell) (marks : List PageMark) → IsMarkedBegun slots count area batches cells marks → IsMarkedBegun slots count (area ++ rest) batches cells marks
begun-longer slots count area rest batches cells marks b = record { begun = (b.begun.0, b.begun.1, ended-longer count area rest b.begun.0 cells b.begun.2); marked = b.marked }
