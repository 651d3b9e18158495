-- What the replay of a log makes of the cells of a store.
use Rattle.std.proofs.Common.{◌≡◌, ◌≢◌, ℕ, ◌+◌, ◌-◌, ◌*◌, ◌<◌, ◌≤◌, Bool, true, false, cond, List, [], ◌∷◌, ◌++◌, length, map, inl, inr, ⊎_elim, refl, sym, ap, subst, ◌∙◌, arith, append_assoc}
use Rattle.std.specs.Prelude.{slice_index, slice_index_or, slice_set, nat_le, not, ◌&&◌, ◌||◌, ◌==◌}
use Rattle.std.specs.List.{range_with_len}
use Rattle.std.proofs.lemmas.Bool.{cases_eq, cases_lt, eq-eqb, ne_eqb, le-leb, lt-leb}
use Rattle.std.proofs.lemmas.List.{append-nil, append_cancel_left, length-map, length-set, get_or-set_same, get_or-set_other}
use Rattle.std.proofs.lemmas.List.FromFn.{length-range_with_len, get_or-map-range_with_len}
use Rattle.cell_model.specs.Cells.{Cell, blank_cell, cell_at}
use Rattle.cell_page.specs.declared.cell.Cell.{Cell as PageCell}
use Rattle.cell_page.specs.Format.{IsSlotCount, page_of_id, place_of, free_cell}
use Rattle.cell_page.specs.Stored.{cell_of}
use Rattle.cell_page.proofs.Pages.{cell_spelled}
use Rattle.page_area.specs.Place.{bytes_of_page}
use Rattle.log_replay.specs.Inside.{cells_of_pages, stored_at, held_at}
use Rattle.log_record.specs.declared.record.Record.{Record}
use Rattle.log_record.specs.declared.record.Record.TheVariants.{OfCells, Image, Turn}
use Rattle.log_record.specs.Records.{record_of}
use Rattle.log_record.specs.Spelling.{record_bytes, known_version, HasSpelling, IsTypedRecord}
use Rattle.log_record.proofs.Apart.{one_record}
use Rattle.gate_log.specs.Batches.{batch_bytes, batches_bytes, IsBody, AreBodies, Begins, IsLog, most_bytes}
use Rattle.gate_log.proofs.Logs.{bytes-push}
use Rattle.disk_model.specs.declared.area.Area.{Area}
use Rattle.disk_model.specs.Areas.{Bytes, in_area}
use Rattle.std.proofs.lemmas.Grind.{flat_map-append}
use Rattle.restart_laws.specs.Local.{FitsAt, effect, is_in_page, has_image, replayed, cell_in}
use Rattle.restart_laws.specs.Unended.{Unended}
use Rattle.log_replay.specs.Replays.{Replaying, IsWithin, is_skipped, each_after, after_cells, after_image, after_taking}
use Rattle.opened_images.specs.LogRecords.{body_of, bodies_of, all_of, first_records, HaveSpellings, FitsLog, AllFitLog, unended_by, unended_by_all, next_record_at, AreBatches, IsRecordLog, no_batch as no_batch_there}
use Rattle.opened_images.specs.Opened.{Opened, DamagedLog, ArePagesRead, unfit}
use Rattle.opened_images.proofs.LogWays.{one_log, undamaged}
use Rattle.opened_images.specs.Replayed.{items_of, cell_in_place, cell_after, FitsCellsOf, AllFitCells}
use Rattle.opened_images.proofs.Bodies.{begins, none_begins, cons_same, same_records, spelled_front, spelled_back, turn_spelled, turn_pages}
use Rattle.opened_images.proofs.Ways.{first_same, first_byte}
use Rattle.store_opening.specs.Loaded.{AreLoaded}
use Rattle.store_opening.specs.Replayed.{replay_start, StopsReplay, in_first, behind, IsReady, IsReplayed}
use Rattle.store_opening.specs.Walked.{StopsWalk, no_batch, no_record}
use Rattle.store_opening.proofs.TakeLaws.{takes_both}
use Rattle.store_opening.proofs.FoundLaws.{IsOf, fits_all as fits_log, unended_all, bodies_front, bodies_last}
use Rattle.store_opening.specs.Walks.{CanTake, CanTakeAll, Takes, TakesNone, taken_all, one_if, count_images}

-- ---- images of a page

in_page : (q x : ℕ) → 1 ≤ x → is_in_page q x ≡ (q == page_of_id x)
in_page q x above = elim (cases_eq q (page_of_id x)) [
  | inl same ↦ both_true (nat_le (8 * q + 1) x) (nat_le x (8 * q + 8)) (le-leb (8 * q + 1) x (omega (arith, same, above))) (le-leb x (8 * q + 8) (omega (arith, same, above))) ∙ sym (eq-eqb q (page_of_id x) same)
  | inr apart ↦
      ⊎_elim
      (λ low. other_false (nat_le (8 * q + 1) x) (nat_le x (8 * q + 8)) (lt-leb x (8 * q + 8) (omega (arith, low, above))) ∙ sym (ne_eqb q (page_of_id x) apart))
      (λ over.
      one_false (nat_le (8 * q + 1) x) (nat_le x (8 * q + 8)) (lt-leb (8 * q + 1) x (let below : page_of_id x < q = ne_lt q (page_of_id x) apart over in omega (arith, below, above)))
      ∙ sym (ne_eqb q (page_of_id x) apart))
      (cases_lt q (page_of_id x))
]
  where
    both_true : (a b : Bool) → a ≡ true → b ≡ true → (a && b) ≡ true
    both_true a b e f = cc

    one_false : (a b : Bool) → a ≡ false → (a && b) ≡ false
    one_false a b e = cc

    other_false : (a b : Bool) → b ≡ false → (a && b) ≡ false
    other_false true b e = e
    other_false false b e = refl

    ne_lt : (q p : ℕ) → (q ≡ p → ⊥) → p ≤ q → p < q
    ne_lt q p apart over = ⊎_elim (λ below. below) (λ under. absurd (apart (omega (arith, over, under)))) (cases_lt p q)

-- where the id's page has no image, none is counted
none_of : {slots : ℕ} (x : ℕ) (rs : List (Record slots)) → 1 ≤ x → has_image x (items_of rs) ≡ false → count_images (page_of_id x) rs ≡ 0
none_of x [] above none = refl
none_of x (OfCells r ∷ rs) above none = none_of x rs above none
none_of x (Turn version count ∷ rs) above none = none_of x rs above none
none_of x (Image q cells ∷ rs) above none = counted (is_in_page q x) (has_image x (items_of rs)) (q == page_of_id x) (in_page q x above) none (none_of x rs above)
  where
    counted : (a b t : Bool) → a ≡ t → (a || b) ≡ false → (b ≡ false → count_images (page_of_id x) rs ≡ 0) → one_if t + count_images (page_of_id x) rs ≡ 0
    counted true b t same none later = absurd (cc none)
    counted false b true same none later = absurd (cc same)
    counted false b false same none later = omega (arith, later none)

-- ---- one record more

after_push : {slots : ℕ} (x : ℕ) (c : Cell) (before : List (Record slots)) (r : Record slots)
    → replayed slots x c (items_of (before ++ r ∷ [])) ≡ replayed slots x (replayed slots x c (items_of before)) (items_of (r ∷ []))
after_push x c [] r = refl
after_push {slots} x c (OfCells q ∷ before) r = after_push x (effect slots (record_of q) x c) before r
after_push x c (Image page cells ∷ before) r = after_push x (cond (is_in_page page x) (cell_in page (map cell_of cells) x) c) before r
after_push x c (Turn version count ∷ before) r = after_push x c before r

-- ---- the replay stands for the cells after these records, where those come later

pub record Matches {slots : ℕ} (count : ℕ) (area : List ℕ) (before later : List (Record slots)) (w : Replaying) : Type 0 where
  pub sized : length w.cells ≡ 8 * count + 1
  pub long : length w.skips ≡ count
  pub awaits : (page : ℕ) → page < count → slice_index w.skips page ≡ count_images page later
  pub cells : (x : ℕ) → 1 ≤ x → x ≤ 8 * count → has_image x (items_of later) ≡ false → cell_at w.cells x ≡ cell_after slots area before x

page_low : (n x : ℕ) → 1 ≤ x → x ≤ 8 * n → page_of_id x < n
page_low n x above low = omega arith

each_at : (f : ℕ → Cell → Cell) (cells : List Cell) (x : ℕ) → x < length cells → cell_at (each_after f cells) x ≡ f x (cell_at cells x)
each_at f cells x low = get_or-map-range_with_len (λ y. f y (cell_at cells y)) 0 (length cells) x x (blank_cell false 0) low (omega arith)

each_length : (f : ℕ → Cell → Cell) (cells : List Cell) (n : ℕ) → length cells ≡ n → length (each_after f cells) ≡ n
each_length f cells n is = length-map (range_with_len 0 (length cells)) (λ y. f y (cell_at cells y)) ∙ length-range_with_len 0 (length cells) ∙ is

unskipped : {slots : ℕ} (count : ℕ) (area : List ℕ) (before later : List (Record slots)) (w : Replaying) (x : ℕ) → Matches count area before later w → 1 ≤ x → x ≤ 8 * count
    → has_image x (items_of later) ≡ false → is_skipped w.skips x ≡ false
unskipped count area before later w x is above low none =
    let zero : slice_index w.skips (page_of_id x) ≡ 0 = is.awaits (page_of_id x) (page_low count x above low) ∙ none_of x later above none in
    ap not (eq-eqb (slice_index w.skips (page_of_id x)) 0 zero)

step_of_cells : {slots : ℕ} (count : ℕ) (area : List ℕ) (before later : List (Record slots)) (w : Replaying) (r : _) → Matches count area before (OfCells r ∷ later) w
    → Matches count area (before ++ OfCells r ∷ []) later (after_taking {slots = slots} (OfCells r) w)
step_of_cells {slots} count area before later w r is =
    record {
      sized = each_length (after_cells slots w.skips (record_of r)) w.cells (8 * count + 1) is.sized;
      long = is.long;
      awaits = is.awaits;
      cells = λ x above low none.
          let free = unskipped count area before (OfCells r ∷ later) w x is above low none in
          let some : (x == 0) ≡ false = ne_eqb x 0 (λ zero. omega (arith, zero, above)) in
          each_at (after_cells slots w.skips (record_of r)) w.cells x (omega (arith, low, is.sized))
          ∙ changed (x == 0) (is_skipped w.skips x) (cell_at w.cells x) (effect slots (record_of r) x (cell_at w.cells x)) some free
          ∙ ap (effect slots (record_of r) x) (is.cells x above low none) ∙ sym (after_push x (cell_in_place slots area x) before (OfCells r));
    }
  where
    changed : (a b : Bool) (c d : Cell) → a ≡ false → b ≡ false → cond (a || b) c d ≡ d
    changed a b c d e f = cc

step_image : {slots : ℕ} (count : ℕ) (area : List ℕ) (before later : List (Record slots)) (w : Replaying) (q : ℕ) (held : _) → Matches count area before (Image q held ∷ later) w → q < count
    → Matches count area (before ++ Image q held ∷ []) later (after_taking {slots = slots} (Image q held) w)
step_image {slots} count area before later w q held is inside =
    record {
      sized = each_length (after_image w.skips q held) w.cells (8 * count + 1) is.sized;
      long = length-set w.skips q (slice_index w.skips q - 1) ∙ is.long;
      awaits = λ page low. elim (cases_eq q page) [
        | inl same ↦
            let one : one_if (q == page) ≡ 1 = rw (eq-eqb q page same) refl in
            let left : slice_index (slice_set w.skips q (slice_index w.skips q - 1)) page ≡ slice_index w.skips page - 1 =
            subst (λ (p : ℕ). slice_index (slice_set w.skips q (slice_index w.skips q - 1)) p ≡ slice_index w.skips p - 1) same
            (get_or-set_same w.skips q (slice_index w.skips q - 1) 0 (omega (arith, inside, is.long))) in
            omega (arith, left, is.awaits page low, one)
        | inr apart ↦
            let none : one_if (q == page) ≡ 0 = rw (ne_eqb q page apart) refl in
            let left : slice_index (slice_set w.skips q (slice_index w.skips q - 1)) page ≡ slice_index w.skips page =
            get_or-set_other w.skips q page (slice_index w.skips q - 1) 0 (λ e. apart (sym e)) in
            omega (arith, left, is.awaits page low, none)
      ];
      cells = λ x above low none.
          each_at (after_image w.skips q held) w.cells x (omega (arith, low, is.sized))
          ∙ elim (cases_eq q (page_of_id x)) [
            | inl same ↦
                let here : is_in_page q x ≡ true = in_page q x above ∙ eq-eqb q (page_of_id x) same in
                let one : one_if (q == q) ≡ 1 = rw (eq-eqb q q refl) refl in
                let zero : count_images q later ≡ 0 = ap (λ (p : ℕ). count_images p later) same ∙ none_of x later above none in
                let last : nat_le (slice_index w.skips q) 1 ≡ true = le-leb (slice_index w.skips q) 1 (omega (arith, is.awaits q inside, one, zero)) in
                becomes (is_in_page q x) (nat_le (slice_index w.skips q) 1) (cell_in q (map cell_of held) x) (cell_at w.cells x) (cell_after slots area before x) here last
            | inr apart ↦
                let there : is_in_page q x ≡ false = in_page q x above ∙ ne_eqb q (page_of_id x) apart in
                stays (is_in_page q x) (nat_le (slice_index w.skips q) 1) (cell_in q (map cell_of held) x) (cell_at w.cells x) (cell_after slots area before x) there
                (is.cells x above low (neither (is_in_page q x) (has_image x (items_of later)) there none))
          ]
          ∙ sym (after_push x (cell_in_place slots area x) before (Image q held));
    }
  where
    becomes : (a b : Bool) (c d e : Cell) → a ≡ true → b ≡ true → cond (a && b) c d ≡ cond a c e
    becomes a b c d e f g = cc

    stays : (a b : Bool) (c d e : Cell) → a ≡ false → d ≡ e → cond (a && b) c d ≡ cond a c e
    stays a b c d e f g = cc

    neither : (a b : Bool) → a ≡ false → b ≡ false → (a || b) ≡ false
    neither a b f g = cc

step : {slots : ℕ} (count : ℕ) (area : List ℕ) (before later : List (Record slots)) (w : Replaying) (r : Record slots) → Matches count area before (r ∷ later) w → CanTake w r
    → Matches count area (before ++ r ∷ []) later (after_taking r w)
step count area before later w (OfCells r) is can = step_of_cells count area before later w r is
step count area before later w (Image q held) is can = step_image count area before later w q held is (subst (λ (n : ℕ). q < n) is.long can.0)
step count area before later w (Turn version pages) is can = absurd can

-- ---- what it takes fits the cells

fits_one : {slots : ℕ} (count : ℕ) (area : List ℕ) (before later : List (Record slots)) (w : Replaying) (r : Record slots) → Matches count area before (r ∷ later) w → CanTake w r → FitsCellsOf count area before r later
fits_one count area before later w (OfCells r) is can =
    λ x above low none.
    subst (λ (c : Cell). FitsAt (record_of r) x c) (is.cells x above low none) (can.2 x above (omega (arith, low, is.sized)) (unskipped count area before (OfCells r ∷ later) w x is above low none))
fits_one count area before later w (Image q held) is can = tt
fits_one count area before later w (Turn version pages) is can = tt

pub fits_all : {slots : ℕ} (count : ℕ) (area : List ℕ) (before rs later : List (Record slots)) (v : Replaying) → Matches count area before (rs ++ later) v → CanTakeAll v rs
    → AllFitCells count area before rs later × Matches count area (before ++ rs) later (taken_all v rs)
fits_all count area before [] later v is can = (tt, subst (λ l. Matches count area l later v) (sym (append-nil before)) is)
fits_all count area before (r ∷ rs) later v is can =
    let next = fits_all count area (before ++ r ∷ []) rs later (after_taking r v) (step count area before (rs ++ later) v r is can.0) can.1 in (
      (fits_one count area before (rs ++ later) v r is can.0, next.0),
      subst (λ l. Matches count area l later (taken_all (after_taking r v) rs)) (append_assoc before (r ∷ []) rs) next.1,
    )

-- ---- the replay begins

start_at : {slots : ℕ} (pages : List (List (PageCell slots))) (x : ℕ) → 1 ≤ x → x < 8 * length pages + 1 → cell_at (cells_of_pages pages) x ≡ cell_of (held_at pages x)
unfolding cells_of_pages
start_at pages x above low =
    get_or-map-range_with_len (stored_at pages) 0 (8 * length pages + 1) x x (blank_cell false 0) low (omega arith) ∙ rw (ne_eqb x 0 (λ e. omega (arith, e, above))) refl

start_length : {slots : ℕ} (pages : List (List (PageCell slots))) → length (cells_of_pages pages) ≡ 8 * length pages + 1
unfolding cells_of_pages
start_length pages = length-map (range_with_len 0 (8 * length pages + 1)) (stored_at pages) ∙ length-range_with_len 0 (8 * length pages + 1)

pub start_matches : {slots : ℕ} → IsSlotCount slots → (count : ℕ) (area images : List ℕ) (pages : List (List (PageCell slots))) (rs : List (Record slots)) → length pages ≡ count → length images ≡ count
    → ((page : ℕ) → page < count → slice_index images page ≡ count_images page rs) → AreLoaded slots images count area pages → Matches count area [] rs (replay_start pages images)
start_matches {slots} known count area images pages rs number same counts loaded =
    record {
      sized = start_length pages ∙ ap (λ (n : ℕ). 8 * n + 1) number;
      long = same;
      awaits = counts;
      cells = λ x above low none.
          let page : page_of_id x < count = page_low count x above low in
          let here = loaded (page_of_id x) page (counts (page_of_id x) page ∙ none_of x rs above none) in
          start_at pages x above (omega (arith, low, number))
          ∙ ap (λ (c : PageCell slots). cell_of c)
          (cell_spelled (page_of_id x) (slice_index_or pages (page_of_id x) []) (bytes_of_page slots (page_of_id x) area) (place_of x) (free_cell slots 0) known here.typed here.spells (place_low x));
    }
  where
    place_low : (x : ℕ) → place_of x < 8
    place_low x = omega arith

-- ---- the batches that were walked are the first of the log's

one_is : (byte : ℕ) (more l : List ℕ) → byte ≢ 1 → byte ∷ more ≡ 1 ∷ l → ⊥
one_is byte more l shut e = shut (ap first_byte e)

-- The batch after the first ones, as far as they are known.
record IsNext {slots : ℕ} (all front : List (List (Record slots))) (body : List ℕ) : Type 0 where
  mid : List (Record slots)
  back : List (List (Record slots))
  split : all ≡ front ++ mid ∷ back
  same : body_of mid ≡ body

next_batch : {slots : ℕ} → IsSlotCount slots → (all front : List (List (Record slots))) (body s : List ℕ) (byte : ℕ) (more : List ℕ) → byte ≢ 1 → AreBodies (bodies_of all) → AreBodies (bodies_of front) → IsBody body
    → HaveSpellings (all_of all) → HaveSpellings (all_of front) → batches_bytes (bodies_of all) ++ byte ∷ more ≡ batches_bytes (bodies_of front) ++ (batch_bytes body ++ s) → IsNext all front body
next_batch known [] [] body s byte more shut a b is sa sb e = absurd (one_is byte more _ shut e)
next_batch known [] (y ∷ ys) body s byte more shut a b is sa sb e =
    absurd (one_is byte more _ shut (e ∙ append_assoc (batch_bytes (body_of y)) (batches_bytes (bodies_of ys)) (batch_bytes body ++ s)))
next_batch known (x ∷ xs) [] body s byte more shut a b is sa sb e =
    record {
      mid = x;
      back = xs;
      split = refl;
      same = (first_same (body_of x) body (batches_bytes (bodies_of xs) ++ byte ∷ more) s a.0 is (sym (append_assoc (batch_bytes (body_of x)) (batches_bytes (bodies_of xs)) (byte ∷ more)) ∙ e)).0;
    }
next_batch known (x ∷ xs) (y ∷ ys) body s byte more shut a b is sa sb e =
    let both = first_same (body_of x) (body_of y) (batches_bytes (bodies_of xs) ++ byte ∷ more) (batches_bytes (bodies_of ys) ++ (batch_bytes body ++ s)) a.0 b.0
    (sym (append_assoc (batch_bytes (body_of x)) (batches_bytes (bodies_of xs)) (byte ∷ more)) ∙ e ∙ append_assoc (batch_bytes (body_of y)) (batches_bytes (bodies_of ys)) (batch_bytes body ++ s)) in
    let same = same_records known x y (spelled_front x (all_of xs) sa) (spelled_front y (all_of ys) sb) both.0 in
    let rest = next_batch known xs ys body s byte more shut a.1 b.1 is (spelled_back x (all_of xs) sa) (spelled_back y (all_of ys) sb) both.1 in
    record { mid = rest.mid; back = rest.back; split = cons_same x y xs (ys ++ rest.mid ∷ rest.back) same rest.split; same = rest.same }

-- the record after the first ones of a body
record IsNextRecord {slots : ℕ} (all front : List (Record slots)) : Type 0 where
  r : Record slots
  after : List (Record slots)
  split : all ≡ front ++ r ∷ after

next_record : {slots : ℕ} → IsSlotCount slots → (all front : List (Record slots)) (left : List ℕ) → HaveSpellings all → HaveSpellings front → 1 ≤ length left → body_of all ≡ body_of front ++ left → IsNextRecord all front
next_record known [] [] left sa sb some e = absurd (omega (arith, some, ap length e))
next_record known [] (q ∷ qs) left sa sb some e = absurd (none_begins q _ (begins q (body_of qs ++ left) [] sb.0 sb.1 (e ∙ append_assoc (record_bytes q) (body_of qs) left)))
next_record known (m ∷ ms) [] left sa sb some e = record { r = m; after = ms; split = refl }
next_record {slots} known (m ∷ ms) (q ∷ qs) left sa sb some e =
    let second = begins q (body_of qs ++ left) (body_of (m ∷ ms)) sb.0 sb.1 (e ∙ append_assoc (record_bytes q) (body_of qs) left) in
    let same = (one_record (body_of (m ∷ ms)) m q _ _ known (begins m (body_of ms) (body_of (m ∷ ms)) sa.0 sa.1 refl) second).0 in
    let rest : record_bytes m ++ body_of ms ≡ record_bytes m ++ (body_of qs ++ left) =
    e ∙ append_assoc (record_bytes q) (body_of qs) left ∙ ap (λ (t : Record slots). record_bytes t ++ (body_of qs ++ left)) (sym same) in
    let later = next_record known ms qs left sa.2 sb.2 some (append_cancel_left (record_bytes m) (body_of ms) (body_of qs ++ left) rest) in
    record { r = later.r; after = later.after; split = cons_same m q ms (qs ++ later.r ∷ later.after) same later.split }

-- ---- a record that can't be taken

none_back : {slots : ℕ} (x : ℕ) (rs : List (Record slots)) → 1 ≤ x → count_images (page_of_id x) rs ≡ 0 → has_image x (items_of rs) ≡ false
none_back x [] above none = refl
none_back x (OfCells r ∷ rs) above none = none_back x rs above none
none_back x (Turn version count ∷ rs) above none = none_back x rs above none
none_back x (Image q cells ∷ rs) above none = counted (is_in_page q x) (has_image x (items_of rs)) (q == page_of_id x) (in_page q x above) none (none_back x rs above)
  where
    counted : (a b t : Bool) → a ≡ t → one_if t + count_images (page_of_id x) rs ≡ 0 → (count_images (page_of_id x) rs ≡ 0 → b ≡ false) → (a || b) ≡ false
    counted a b true same none later = absurd (omega (arith, none))
    counted true b false same none later = absurd (cc same)
    counted false b false same none later = later (omega (arith, none))

zero_of : (n : ℕ) → not (n == 0) ≡ false → n ≡ 0
zero_of n e = ⊎_elim (λ zero. zero) (λ (some : n ≡ 0 → ⊥). absurd (cc (e, ne_eqb n 0 some))) (cases_eq n 0)

unfits : {slots : ℕ} (count : ℕ) (area : List ℕ) (before after : List (Record slots)) (u : Replaying) (r : Record slots) → Matches count area before (r ∷ after) u → FitsLog count u.unended r
    → (CanTake u r → ⊥) → FitsCellsOf count area before r after → ⊥
unfits count area before after u (OfCells r) is fits denied cells =
    denied (
      subst (λ (n : ℕ). IsWithin (8 * n) r) (sym is.long) fits.0,
      fits.1,
      λ x above low unskipped.
          let inside : x ≤ 8 * count = omega (arith, low, is.sized) in
          let zero : count_images (page_of_id x) after ≡ 0 = sym (is.awaits (page_of_id x) (page_low count x above inside)) ∙ zero_of (slice_index u.skips (page_of_id x)) unskipped in
          let none = none_back x after above zero in
          subst (λ (c : Cell). FitsAt (record_of r) x c) (sym (is.cells x above inside none)) (cells x above inside none),
    )
unfits count area before after u (Image q held) is fits denied cells =
    let one : one_if (q == q) ≡ 1 = rw (eq-eqb q q refl) refl in
    denied (subst (λ (n : ℕ). q < n) (sym is.long) fits, omega (arith, is.awaits q fits, one))
unfits count area before after u (Turn version pages) is fits denied cells = fits

fit_at : {slots : ℕ} (pages : ℕ) (us : List (ℕ × Unended)) (before : List (Record slots)) (r : Record slots) (after : List (Record slots)) → AllFitLog pages us (before ++ r ∷ after) → FitsLog pages (unended_by_all us before) r
fit_at pages us [] r after f = f.0
fit_at pages us (q ∷ before) r after f = fit_at pages (unended_by us q) before r after f.1

-- ---- the walk over a log that is known

-- the first batch tells one number of pages
count_same : {slots : ℕ} → IsSlotCount slots → (count other : ℕ) (area : List ℕ) (batches : List (List (Record slots))) (more : List (List ℕ)) → IsRecordLog count batches area
    → HasSpelling {slots = slots} (Turn (known_version slots) other) → Begins (body_of (first_records slots other) ∷ more) area → other ≡ count
count_same {slots} known count other area batches more log rules starts =
    let one : List ℕ = body_of (first_records slots count) in
    let two : List ℕ = body_of (first_records slots other) in
    let same = first_same two one (batches_bytes more ++ starts.rest) (batches_bytes (bodies_of batches) ++ log.log.commit_byte ∷ log.log.rest) starts.bodies.0 log.log.bodies.0
    (sym (append_assoc (batch_bytes two) (batches_bytes more) starts.rest) ∙ sym starts.are ∙ log.log.are ∙ append_assoc (batch_bytes one) (batches_bytes (bodies_of batches)) (log.log.commit_byte ∷ log.log.rest)) in
    turn_pages (known_version slots) other count
    (same_records known (first_records slots other) (first_records slots count) (turn_spelled slots other rules.1 rules.2) (turn_spelled slots count log.batches_are.some log.batches_are.few) same.0)

-- the batches that a replay over so many pages took are those of a log
pub are_those : {slots : ℕ} (count : ℕ) (v w : Replaying) (batches : List (List (Record slots))) → 1 ≤ count → count ≤ 1024 → IsOf count v → v.unended ≡ [] → Takes (all_of batches) v w → AreBodies (bodies_of batches)
    → AreBatches count batches
are_those count v w batches some few is none takes bodies =
    record {
      some = some;
      few = few;
      bodies = bodies;
      spelled = takes.spelled;
      fit = subst (λ (us : List (ℕ × Unended)). AllFitLog count us (all_of batches)) none (fits_log count v (all_of batches) is takes.fit);
    }

pub of_match : {slots : ℕ} (count : ℕ) (area : List ℕ) (before later : List (Record slots)) (v : Replaying) → Matches count area before later v → IsOf count v
of_match count area before later v is = record { sized = is.sized; long = is.long }

-- the record after these can't be taken, so it doesn't fit the cells
unfit_at : {slots : ℕ} (image : Bytes) (area : Area) (count : ℕ) (v w u : Replaying) (front : List (List (Record slots))) (rs : List (Record slots)) (r : Record slots) (after : List (Record slots)) (back : List (List (Record slots)))
    (left : List ℕ) → ArePagesRead image area count (front ++ (rs ++ r ∷ after) ∷ back) → Matches count image.pages [] (all_of (front ++ (rs ++ r ∷ after) ∷ back)) v → v.unended ≡ []
    → Takes (all_of front) v w → Takes rs w u → TakesNone slots left u → HasSpelling r → IsTypedRecord r → left ≡ record_bytes r ++ body_of after
    → Opened slots image (DamagedLog area (next_record_at count front rs))
unfit_at {slots} image area count v w u front rs r after back left read is none took takes denied rules typed left_is =
    let later : List (Record slots) = after ++ all_of back in
    let before : List (Record slots) = all_of front ++ rs in
    let all : all_of (front ++ (rs ++ r ∷ after) ∷ back) ≡ before ++ r ∷ later =
    flat_map-append (λ (b : List (Record slots)). b) front ((rs ++ r ∷ after) ∷ back)
    ∙ ap (λ (l : List (Record slots)). all_of front ++ l) (append_assoc rs (r ∷ after) (all_of back)) ∙ sym (append_assoc (all_of front) rs (r ∷ later)) in
    let both = takes_both (all_of front) rs v w u took takes in
    let here = fits_all count image.pages [] before (r ∷ later) v (subst (λ (l : List (Record slots)). Matches count image.pages [] l v) all is) both.fit in
    let there : Matches count image.pages before (r ∷ later) u = subst (λ (x : Replaying). Matches count image.pages before (r ∷ later) x) (sym both.are) here.1 in
    let us : u.unended ≡ unended_by_all [] before =
    ap (λ (x : Replaying). x.unended) both.are ∙ unended_all v before ∙ ap (λ (l : List (ℕ × Unended)). unended_by_all l before) none in
    let fits : FitsLog count u.unended r =
    subst (λ (l : List (ℕ × Unended)). FitsLog count l r) (sym us) (fit_at count [] before r later (subst (λ (l : List (Record slots)). AllFitLog count [] l) all read.read.log.batches_are.fit)) in
    unfit area count front rs r after back read here.0
    (unfits count image.pages before later u r there fits (λ can. denied r (length (record_bytes r)) (begins r (body_of after) left rules typed left_is) can))

-- where the walk stops in a log, a record doesn't fit the cells
stop_unfit : {slots : ℕ} → IsSlotCount slots → (image : Bytes) (area : Area) (count place : ℕ) (batches : List (List (Record slots))) (v : Replaying) → ArePagesRead image area count batches
    → Matches count image.pages [] (all_of batches) v → v.unended ≡ [] → StopsWalk slots (body_of (first_records slots count) ∷ []) v place (in_area image area) → Opened slots image (DamagedLog area place)
stop_unfit known image area count place batches v read is none (no_batch front w takes starts damaged) =
    let those = are_those count v w front read.read.log.batches_are.some read.read.log.batches_are.few (of_match count image.pages [] (all_of batches) v is) none takes starts.bodies.1 in
    absurd (undamaged known (in_area image area) count place batches read.read.log (no_batch_there count front starts.rest those starts.are damaged))
stop_unfit {slots} known image area count place batches v read is none (no_record front w takes body offset stops starts short place_is) =
    let first : List ℕ = body_of (first_records slots count) in
    let log = read.read.log in
    let all : List (List ℕ) = first ∷ bodies_of front in
    let area_is : in_area image area ≡ batches_bytes all ++ (batch_bytes body ++ starts.rest) =
    starts.are ∙ ap (λ (l : List ℕ). l ++ starts.rest) (bytes-push all body) ∙ append_assoc (batches_bytes all) (batch_bytes body) starts.rest in
    let behind_first : batches_bytes (bodies_of batches) ++ log.log.commit_byte ∷ log.log.rest ≡ batches_bytes (bodies_of front) ++ (batch_bytes body ++ starts.rest) =
    append_cancel_left (batch_bytes first) (batches_bytes (bodies_of batches) ++ log.log.commit_byte ∷ log.log.rest) (batches_bytes (bodies_of front) ++ (batch_bytes body ++ starts.rest))
    (sym (append_assoc (batch_bytes first) (batches_bytes (bodies_of batches)) (log.log.commit_byte ∷ log.log.rest)) ∙ sym log.log.are ∙ area_is
    ∙ append_assoc (batch_bytes first) (batches_bytes (bodies_of front)) (batch_bytes body ++ starts.rest)) in
    let next = next_batch known batches front body starts.rest log.log.commit_byte log.log.rest log.log.closed log.log.bodies.1 (bodies_front all (body ∷ []) starts.bodies).1
    (bodies_last all body starts.bodies) log.batches_are.spelled takes.spelled behind_first in
    let spelled : HaveSpellings next.mid =
    spelled_front next.mid (all_of next.back) (spelled_back (all_of front) (all_of (next.mid ∷ next.back))
    (subst (λ (l : List (Record slots)). HaveSpellings l) (ap (λ (l : List (List (Record slots))). all_of l) next.split ∙ flat_map-append (λ (b : List (Record slots)). b) front (next.mid ∷ next.back)) log.batches_are.spelled)) in
    let found = next_record known next.mid stops.rs stops.left spelled stops.takes.spelled stops.some (next.same ∙ stops.split) in
    let mids : batches ≡ front ++ (stops.rs ++ found.r ∷ found.after) ∷ next.back = next.split ∙ ap (λ (m : List (Record slots)). front ++ m ∷ next.back) found.split in
    let behind : body_of stops.rs ++ stops.left ≡ body_of stops.rs ++ body_of (found.r ∷ found.after) =
    sym stops.split ∙ sym next.same ∙ ap (λ (m : List (Record slots)). body_of m) found.split ∙ flat_map-append record_bytes stops.rs (found.r ∷ found.after) in
    let last = spelled_back stops.rs (found.r ∷ found.after) (subst (λ (l : List (Record slots)). HaveSpellings l) found.split spelled) in
    let opened = unfit_at image area count v w stops.w front stops.rs found.r found.after next.back stops.left (subst (λ (b : List (List (Record slots))). ArePagesRead image area count b) mids read)
    (subst (λ (b : List (List (Record slots))). Matches count image.pages [] (all_of b) v) mids is) none takes stops.takes stops.none last.0 last.1
    (append_cancel_left (body_of stops.rs) stops.left (body_of (found.r ∷ found.after)) behind) in
    let at_place : place ≡ next_record_at count front stops.rs = omega (arith, place_is, stops.so_far) in
    subst (λ (n : ℕ). Opened slots image (DamagedLog area n)) (sym at_place) opened

-- ---- what a replay of the log of an image is

-- where it stops, the image opens to that
pub replay_stops : {slots : ℕ} → IsSlotCount slots → (image : Bytes) (area : Area) (place : ℕ) (pages : List (List (PageCell slots))) (images : List ℕ) → length images ≡ length pages
    → IsReady slots image area pages images → StopsReplay slots (replay_start pages images) place (in_area image area) → Opened slots image (DamagedLog area place)
replay_stops known image area place pages images same ready (in_first damaged) = absurd (undamaged known (in_area image area) ready.count place ready.batches ready.read.read.log damaged)
replay_stops {slots} known image area place pages images same ready (behind other rules stops) =
    let is_same : other ≡ ready.count = of_stop known ready.count other place (in_area image area) ready.batches (replay_start pages images) ready.read.read.log rules stops in
    let matches = start_matches known ready.count image.pages images pages (all_of ready.batches) (omega (arith, same, ready.number)) ready.number ready.counts ready.loaded in
    stop_unfit known image area ready.count place ready.batches (replay_start pages images) ready.read matches refl
    (subst (λ (n : ℕ). StopsWalk slots (body_of (first_records slots n) ∷ []) (replay_start pages images) place (in_area image area)) is_same stops)
  where
    of_stop : {slots : ℕ} → IsSlotCount slots → (count other place : ℕ) (area : List ℕ) (batches : List (List (Record slots))) (v : Replaying) → IsRecordLog count batches area
        → HasSpelling {slots = slots} (Turn (known_version slots) other) → StopsWalk slots (body_of (first_records slots other) ∷ []) v place area → other ≡ count
    of_stop known count other place area batches v log rules (no_batch front w takes starts damaged) = count_same known count other area batches (bodies_of front) log rules starts
    of_stop known count other place area batches v log rules (no_record front w takes body offset stops starts short is) = count_same known count other area batches (bodies_of front ++ body ∷ []) log rules starts

-- where it ends, its batches are those of the log
pub replay_batches : {slots : ℕ} → IsSlotCount slots → (image : Bytes) (area : Area) (pages : List (List (PageCell slots))) (images : List ℕ) (other : ℕ) (front : List (List (Record slots))) (w : Replaying)
    → length images ≡ length pages → (ready : IsReady slots image area pages images) → HasSpelling {slots = slots} (Turn (known_version slots) other) → Takes (all_of front) (replay_start pages images) w
    → IsLog most_bytes (body_of (first_records slots other) ∷ bodies_of front) (in_area image area) → (other ≡ ready.count) × (front ≡ ready.batches)
replay_batches {slots} known image area pages images other front w same ready rules takes log =
    let starts : Begins (body_of (first_records slots other) ∷ bodies_of front) (in_area image area) = record { bodies = log.bodies; rest = log.commit_byte ∷ log.rest; are = log.are } in
    let is_same : other ≡ ready.count = count_same known ready.count other (in_area image area) ready.batches (bodies_of front) ready.read.read.log rules starts in
    let v = replay_start pages images in
    let matches = start_matches known ready.count image.pages images pages (all_of ready.batches) (omega (arith, same, ready.number)) ready.number ready.counts ready.loaded in
    let those = are_those ready.count v w front ready.read.read.log.batches_are.some ready.read.read.log.batches_are.few (of_match ready.count image.pages [] (all_of ready.batches) v matches) refl takes log.bodies.1 in
    let those_log : IsRecordLog ready.count front (in_area image area) =
    record { batches_are = those; log = subst (λ (n : ℕ). IsLog most_bytes (body_of (first_records slots n) ∷ bodies_of front) (in_area image area)) is_same log } in
    (is_same, (one_log known (in_area image area) ready.count ready.count front ready.batches those_log ready.read.read.log).1)

-- where it ends, the records fit the cells, and it stands for them
pub replay_ends : {slots : ℕ} → IsSlotCount slots → (image : Bytes) (area : Area) (pages : List (List (PageCell slots))) (images : List ℕ) (other : ℕ) (front : List (List (Record slots))) (w : Replaying)
    → length images ≡ length pages → (ready : IsReady slots image area pages images) → HasSpelling {slots = slots} (Turn (known_version slots) other) → Takes (all_of front) (replay_start pages images) w
    → IsLog most_bytes (body_of (first_records slots other) ∷ bodies_of front) (in_area image area) → IsReplayed slots image area ready.count ready.batches w
replay_ends {slots} known image area pages images other front w same ready rules takes log =
    let v = replay_start pages images in
    let they = (replay_batches known image area pages images other front w same ready rules takes log).1 in
    let matches = start_matches known ready.count image.pages images pages (all_of ready.batches) (omega (arith, same, ready.number)) ready.number ready.counts ready.loaded in
    let took : Takes (all_of ready.batches) v w = subst (λ (b : List (List (Record slots))). Takes (all_of b) v w) they takes in
    let rs : List (Record slots) = all_of ready.batches in
    let here = fits_all ready.count image.pages [] rs [] v (subst (λ (l : List (Record slots)). Matches ready.count image.pages [] l v) (sym (append-nil rs)) matches) took.fit in
    let there : Matches ready.count image.pages rs [] w = subst (λ (x : Replaying). Matches ready.count image.pages rs [] x) (sym took.are) here.1 in
    record {
      read = record { pages_read = ready.read; fit = here.0; are = refl };
      sized = there.sized;
      cells = λ x above low. there.cells x above low refl;
      unended = ap (λ (x : Replaying). x.unended) took.are ∙ unended_all v rs;
      long = there.long;
      none = there.awaits;
    }
