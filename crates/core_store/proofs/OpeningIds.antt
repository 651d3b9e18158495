-- The cells of frames stand by their ids, and the frames are the pages of the store with these cells.
use Rattle.std.proofs.Common.{◌≡◌, ℕ, zero, suc, ◌+◌, ◌*◌, ◌-◌, ◌<◌, ◌≤◌, List, [], ◌∷◌, ◌++◌, length, map, take, drop, get_or, Some, refl, sym, ap, ◌∙◌, subst, arith, add-one, ⊎_elim}
use Rattle.std.specs.Prelude.{slice_get}
use Rattle.std.proofs.Math.Seq.{take-append_seam, drop-append-add}
use Rattle.std.proofs.lemmas.Bool.{cases_lt}
use Rattle.std.proofs.lemmas.List.{get_or_append_left, get_or-append-add, length-append, length-map, map-append}
use Rattle.std.proofs.lemmas.List.Concat.{flat_map-cons}
use Rattle.std.proofs.lemmas.Option.{slice_get_cases, get_or_from_slice_get}
use Rattle.cell_model.specs.Cells.{Cell as StoredCell}
use Rattle.cell_page.specs.declared.cell.Cell.{Cell}
use Rattle.cell_page.specs.Format.{IsPage, first_id}
use Rattle.cell_page.specs.Stored.{cell_of, HoldsPage}
use Rattle.core_store.specs.declared.frame.Frame.{Frame}
use Rattle.core_store.specs.Opening.{AreByIds, ArePages, cells_in, stored_in}
use Rattle.core_store.specs.Frames.{AllAgree}

-- ---- the cells stand by their ids

-- the frames have the pages from this number on
abbrev ArePagesFrom : {slots : ℕ} → ℕ → List (Frame slots) → Type 0
ArePagesFrom {slots} start frames = (i : ℕ) (d : Frame slots) → i < length frames → IsPage (start + i) (get_or frames i d).page

later-pages : {slots : ℕ} (f : Frame slots) (fs : List (Frame slots)) (start : ℕ) → ArePagesFrom start (f ∷ fs) → ArePagesFrom (start + 1) fs
later-pages f fs start each i d l =
    let e : start + suc i ≡ start + 1 + i = omega arith in
    subst (λ n. IsPage n (get_or fs i d).page) e (each (suc i) d (omega (arith, l)))

pages-count : {slots : ℕ} (frames : List (Frame slots)) (start : ℕ) → ArePagesFrom start frames → length (cells_in frames) ≡ 8 * length frames
pages-count [] start each = refl
pages-count (f ∷ fs) start each =
    let rest = pages-count fs (start + 1) (later-pages f fs start each) in
    let split = ap length (flat_map-cons (λ f. f.page) f fs) ∙ length-append f.page (cells_in fs) in
    let eight = (each 0 f (omega arith)).eight in
    omega (arith, split, rest, eight)

pages-by_ids : {slots : ℕ} (frames : List (Frame slots)) (start : ℕ) → ArePagesFrom start frames → (place : ℕ) (d : Cell slots) → place < 8 * length frames → (get_or (cells_in frames) place d).id ≡ 8 * start + place + 1
pages-by_ids [] start each place d l = absurd (omega (arith, l))
pages-by_ids {slots} (f ∷ fs) start each place d l =
    let rules : IsPage (start + 0) f.page = each 0 f (omega arith) in
    let eight = rules.eight in
    let rest = cells_in fs in
    let split = ap (λ (cs : List (Cell slots)). (get_or cs place d).id) (flat_map-cons (λ f. f.page) f fs) in
    ⊎_elim
    (λ (here : place < 8).
    let first : first_id (start + 0) + place ≡ 8 * start + place + 1 = omega arith in
    split ∙ ap (λ (c : Cell slots). c.id) (get_or_append_left f.page rest d place (omega (arith, here, eight))) ∙ ((rules.each place d here).placed ∙ first))
    (λ (later : 8 ≤ place).
    let k = place - 8 in
    let long : length f.page + k ≡ place = omega (arith, later, eight) in
    let after = pages-by_ids fs (start + 1) (later-pages f fs start each) k d (omega (arith, l, later)) in
    let sums : 8 * (start + 1) + k + 1 ≡ 8 * start + place + 1 = omega (arith, later) in
    split ∙ (ap (λ (c : Cell slots). c.id) (sym (ap (λ n. get_or (f.page ++ rest) n d) long) ∙ get_or-append-add f.page rest k d) ∙ (after ∙ sums)))
    (cases_lt place 8)

-- ---- the cells stand by their pages

pub pages-cons : {slots : ℕ} (f : Frame slots) (fs : List (Frame slots)) → map cell_of (cells_in (f ∷ fs)) ≡ map cell_of f.page ++ map cell_of (cells_in fs)
pages-cons f fs = ap (map cell_of) (flat_map-cons (λ f. f.page) f fs) ∙ map-append cell_of f.page (cells_in fs)

-- eight cells, and those after them
take-eight : (xs ys : List StoredCell) → length xs ≡ 8 → take 8 (xs ++ ys) ≡ xs
take-eight xs ys eight = subst (λ (n : ℕ). take n (xs ++ ys) ≡ xs) eight (take-append_seam xs ys)

drop-eight : (n : ℕ) (xs ys : List StoredCell) → length xs ≡ 8 → drop (8 + n) (xs ++ ys) ≡ drop n ys
drop-eight n xs ys eight = subst (λ (k : ℕ). drop (k + n) (xs ++ ys) ≡ drop n ys) eight (drop-append-add xs ys n)

-- each frame's cells stand at the place of its number
at-number : {slots : ℕ} (frames : List (Frame slots)) (number : ℕ) (d : Frame slots) → ((i : ℕ) (e : Frame slots) → i < length frames → length (map cell_of (get_or frames i e).page) ≡ 8) → number < length frames
    → take 8 (drop (8 * number) (map cell_of (cells_in frames))) ≡ map cell_of (get_or frames number d).page
at-number [] number d eights within = absurd (omega arith)
at-number (f ∷ fs) zero d eights within = ap (take 8) (pages-cons f fs) ∙ take-eight (map cell_of f.page) (map cell_of (cells_in fs)) (eights 0 f (omega arith))
at-number (f ∷ fs) (suc number) d eights within =
    let next : 8 * suc number ≡ 8 + 8 * number = omega arith in
    ap (λ (n : ℕ). take 8 (drop n (map cell_of (cells_in (f ∷ fs))))) next
    ∙ ap (λ (cs : List StoredCell). take 8 (drop (8 + 8 * number) cs)) (pages-cons f fs)
    ∙ ap (take 8) (drop-eight (8 * number) (map cell_of f.page) (map cell_of (cells_in fs)) (eights 0 f (omega arith)))
    ∙ at-number fs number d (λ i e l. eights (suc i) e (omega arith)) (omega arith)

-- ---- of frames that a store opens with

module _ {slots : ℕ} (frames : List (Frame slots)) (pages : ArePages frames) where
  -- a frame has the page of its number
  pub frame-rules : (number : ℕ) (frame : Frame slots) → frame ≡ get_or frames number frame → number < length frames → IsPage number frame.page
  frame-rules number frame is within = subst (λ (f : Frame slots). IsPage number f.page) (sym is) (pages.each number frame within)

  from-0 : ArePagesFrom 0 frames
  from-0 i d l = let same : i ≡ 0 + i = omega arith in subst (λ n. IsPage n (get_or frames i d).page) same (pages.each i d l)

  pub opening-count : length (cells_in frames) ≡ 8 * length frames
  opening-count = pages-count frames 0 from-0

  -- there is a cell for each id
  pub opening-by_ids : AreByIds (8 * length frames) (cells_in frames)
  opening-by_ids = record {
    count = opening-count;
    each = λ place d l. let sums : 8 * 0 + place + 1 ≡ place + 1 = omega arith in pages-by_ids frames 0 from-0 place d l ∙ sums;
  }

  page-long : (i : ℕ) (d : Frame slots) → i < length frames → length (map cell_of (get_or frames i d).page) ≡ 8
  page-long i d l = length-map (get_or frames i d).page cell_of ∙ (pages.each i d l).eight

  -- the frames are the pages of the store
  pub opening-agree : AllAgree (stored_in frames) frames
  opening-agree page frame is = ⊎_elim there (λ past. absurd (let no = past.1 in cc)) (slice_get_cases frames page).1
    where
      there : ((x : Frame slots) × (page < length frames) × (slice_get frames page ≡ Some x) × (get_or frames page x ≡ x)) → HoldsPage (stored_in frames) page frame.page
      there h =
          let same : frame ≡ get_or frames page frame = sym (get_or_from_slice_get frames page frame frame is) in
          record {
            rules = frame-rules page frame same h.1;
            same = ap (λ (f : Frame slots). map cell_of f.page) same ∙ sym (ap (λ (n : ℕ). take 8 (drop n (stored_in frames))) (add-one (8 * page)) ∙ at-number frames page frame page-long h.1);
          }
