-- What an image opens to, by the replay that stands for it.
use Rattle.std.proofs.Common.{◌≡◌, ◌≢◌, ℕ, zero, suc, ◌+◌, ◌*◌, ◌<◌, ◌≤◌, List, [], ◌∷◌, ◌++◌, Bool, true, false, length, get_or, refl, sym, ap, ◌∙◌, subst, arith, append_assoc, Some}
use Rattle.std.specs.Prelude.{◌||◌, Option, unwrap_or}
use Rattle.disk_model.specs.declared.area.Area.TheVariants.{Pages}
use Rattle.gate_log.specs.State.{LogState, IsLogArea, reach}
use Rattle.gate_log.specs.OnDisk.{named_by, with_batch}
use Rattle.std.proofs.lemmas.List.{append-nil, ext_get_or, map-append}
use Rattle.std.proofs.lemmas.List.FromFn.{get_or-map-range_with_len, length-map-range_with_len}
use Rattle.std.proofs.lemmas.Grind.{flat_map-append}
use Rattle.cell_model.specs.Cells.{Cell, blank_cell, cell_at}
use Rattle.cell_model.specs.Consistent.{AreConsistent}
use Rattle.disk_model.specs.declared.area.Area.{Area}
use Rattle.disk_model.specs.Areas.{Bytes, in_area}
use Rattle.gate_log.specs.Batches.{IsLog, AreBodies, most_bytes}
use Rattle.log_record.specs.declared.record.Record.{Record}
use Rattle.log_record.specs.declared.record.Record.TheVariants.{OfCells, Image, Turn}
use Rattle.log_replay.specs.Replays.{Replaying, after_taking}
use Rattle.opened_images.specs.LogRecords.{body_of, bodies_of, all_of, unended_behind, unended_by, unended_by_all, first_records, HaveSpellings, AllFitLog}
use Rattle.opened_images.specs.Replayed.{items_of, cell_after, cells_of_log, IsDamagedPage, FitsCellsOf, AllFitCells}
use Rattle.opened_images.specs.GoesOn.{IsEndedLog}
use Rattle.opened_images.specs.Opened.{Opened, Unsound, OpensTo, unsound, stuck, opens, RestartsStuckAt, AreCellsRead}
use Rattle.restart_laws.specs.Local.{has_image, is_in_page}
use Rattle.restart_laws.specs.Restored.{restored, CanRestart}
use Rattle.restart_laws.specs.Rules.{IsFirstBroken}
use Rattle.restart_laws.proofs.RuleLaws.{consistent-rules}
use Rattle.store_opening.specs.Replayed.{IsReplayed}
use Rattle.store_opening.specs.Walks.{CanTakeAll, taken_all, count_images}
use Rattle.store_opening.proofs.ReplayLaws.{Matches, fits_all}
use Rattle.store_opening.proofs.FoundLaws.{unended_all}
use Rattle.store_opening.specs.Undone.{Finishes, IsUndone}
use Rattle.opened_store.specs.Steps.{IsStoreOf, HasBatches}

-- ---- the cells of the replay are those of the log

pub same-cells : (slots count : ℕ) (area : List ℕ) (rs : List (Record slots)) (cells : List Cell) → length cells ≡ 8 * count + 1 → cell_at cells 0 ≡ blank_cell false slots
    → ((id : ℕ) → 1 ≤ id → id ≤ 8 * count → cell_at cells id ≡ cell_after slots area rs id) → cells ≡ cells_of_log slots count area rs
same-cells slots count area rs cells sized none each =
    ext_get_or (blank_cell false 0) cells (cells_of_log slots count area rs) (let l = length-map-range_with_len (cell_after slots area rs) 1 (8 * count) in omega (arith, sized, l)) at
  where
    at : (k : ℕ) → k < length cells → get_or cells k (blank_cell false 0) ≡ get_or (cells_of_log slots count area rs) k (blank_cell false 0)
    at zero low = none
    at (suc k) low =
        let below : k < 8 * count = omega (arith, low, sized) in
        each (suc k) (omega arith) (omega (arith, below)) ∙ sym (get_or-map-range_with_len (cell_after slots area rs) 1 (8 * count) k (suc k) (blank_cell false 0) below (omega arith))

pub cells-are : (slots : ℕ) (image : Bytes) (area : Area) (count : ℕ) (batches : List (List (Record slots))) (v : Replaying) → IsReplayed slots image area count batches v → cell_at v.cells 0 ≡ blank_cell false slots
    → AreCellsRead image area count batches v.cells
cells-are slots image area count batches v r none = record {
  pages_read = r.read.pages_read;
  fit = r.read.fit;
  are = same-cells slots count image.pages (all_of batches) v.cells r.sized none r.cells;
}

-- ---- refusals

pub opens-unsound : (slots : ℕ) (image : Bytes) (v : Replaying) (rule id : ℕ) → IsStoreOf slots image v → cell_at v.cells 0 ≡ blank_cell false slots → IsFirstBroken v.cells rule id → Opened slots image (Unsound id rule)
opens-unsound slots image v rule id s none b = unsound s.area s.count s.batches v.cells rule id (cells-are slots image s.area s.count s.batches v s.replayed none) b

pub opens-stuck : (slots : ℕ) (image : Bytes) (v : Replaying) (ids id : ℕ) → IsStoreOf slots image v → AreConsistent slots ids v.cells → RestartsStuckAt slots v.cells v.unended id → Opened slots image (Unsound id 5)
opens-stuck slots image v ids id s k h =
    let none = k.empty 0 (let z = k.sized in omega (arith, z)) k.exact.none in
    stuck s.area s.count s.batches v.cells id (cells-are slots image s.area s.count s.batches v s.replayed none) (consistent-rules slots ids v.cells k)
    (subst (λ us. RestartsStuckAt slots v.cells us id) s.replayed.unended h)

-- ---- an image with the same pages and the same batches

pub cells-moved : (slots : ℕ) (image other : Bytes) (area : Area) (count : ℕ) (batches : List (List (Record slots))) (cells : List Cell) → AreCellsRead image area count batches cells → HasBatches slots image area count (bodies_of batches) other
    → AreCellsRead other area count batches cells
cells-moved slots image other area count batches cells r h = record {
  pages_read = record {
    read = record { named = h.named; log = record { batches_are = r.pages_read.read.log.batches_are; log = h.log } };
    whole = subst (λ (p : List ℕ). (page at : ℕ) → page < count → IsDamagedPage p (all_of batches) page at → ⊥) (sym h.pages) r.pages_read.whole;
  };
  fit = subst (λ (p : List ℕ). AllFitCells count p [] (all_of batches) []) (sym h.pages) r.fit;
  are = r.are ∙ ap (λ (p : List ℕ). cells_of_log slots count p (all_of batches)) (sym h.pages);
}

pub opens-before : (slots : ℕ) (image other : Bytes) (area : Area) (count : ℕ) (batches : List (List (Record slots))) (v : Replaying) (ids : ℕ) → IsReplayed slots image area count batches v → AreConsistent slots ids v.cells
    → CanRestart slots v.cells v.unended → HasBatches slots image area count (bodies_of batches) other → Opened slots other (OpensTo (restored slots v.cells v.unended))
opens-before slots image other area count batches v ids r k can h =
    let none = k.empty 0 (let z = k.sized in omega (arith, z)) k.exact.none in
    subst (λ us. Opened slots other (OpensTo (restored slots v.cells us))) (sym r.unended)
    (opens area count batches v.cells (cells-moved slots image other area count batches v.cells (cells-are slots image area count batches v r none) h) (consistent-rules slots ids v.cells k)
    (subst (λ us. CanRestart slots v.cells us) r.unended can))

-- ---- with the batch of the undo after them

-- where a page has no image in more records, it has none in fewer
or-left : (a b : Bool) → (a || b) ≡ false → a ≡ false
or-left true b e = e
or-left false b e = refl

or-right : (a b : Bool) → (a || b) ≡ false → b ≡ false
or-right true b e = absurd cc
or-right false b e = e

or-both : (a b : Bool) → a ≡ false → b ≡ false → (a || b) ≡ false
or-both a b e f = cc

pub fewer-images : {slots : ℕ} (x : ℕ) (xs ys : List (Record slots)) → has_image x (items_of (xs ++ ys)) ≡ false → has_image x (items_of xs) ≡ false
fewer-images x [] ys e = refl
fewer-images x (OfCells r ∷ xs) ys e = fewer-images x xs ys e
fewer-images x (Image p cells ∷ xs) ys e =
    or-both (is_in_page p x) (has_image x (items_of xs)) (or-left (is_in_page p x) (has_image x (items_of (xs ++ ys))) e) (fewer-images x xs ys (or-right (is_in_page p x) (has_image x (items_of (xs ++ ys))) e))
fewer-images x (Turn version pages ∷ xs) ys e = fewer-images x xs ys e

fits-later : {slots : ℕ} (count : ℕ) (area : List ℕ) (before xs ys : List (Record slots)) (r : Record slots) → FitsCellsOf count area before r (xs ++ []) → FitsCellsOf count area before r (xs ++ ys)
fits-later count area before xs ys (OfCells r) f = λ id low high e. f id low high (ap (λ l. has_image id (items_of l)) (append-nil xs) ∙ fewer-images id xs ys e)
fits-later count area before xs ys (Image p cells) f = tt
fits-later count area before xs ys (Turn version pages) f = tt

all-fits-later : {slots : ℕ} (count : ℕ) (area : List ℕ) (before xs ys : List (Record slots)) → AllFitCells count area before xs [] → AllFitCells count area before xs ys
all-fits-later count area before [] ys f = tt
all-fits-later count area before (r ∷ xs) ys f = (fits-later count area before xs ys r f.0, all-fits-later count area (before ++ r ∷ []) xs ys f.1)

fits-joined : {slots : ℕ} (count : ℕ) (area : List ℕ) (before xs ys later : List (Record slots)) → AllFitCells count area before xs (ys ++ later) → AllFitCells count area (before ++ xs) ys later → AllFitCells count area before (xs ++ ys) later
fits-joined count area before [] ys later f h = subst (λ l. AllFitCells count area l ys later) (append-nil before) h
fits-joined count area before (r ∷ xs) ys later f h = (
  subst (λ l. FitsCellsOf count area before r l) (sym (append_assoc xs ys later)) f.0,
  fits-joined count area (before ++ r ∷ []) xs ys later f.1 (subst (λ l. AllFitCells count area l ys later) (sym (append_assoc before (r ∷ []) xs)) h),
)

-- the undo as records that are taken
can-take-all : {slots : ℕ} (v w : Replaying) (rs : List (Record slots)) → Finishes v rs w → CanTakeAll v rs × (w ≡ taken_all v rs)
can-take-all v w [] e = (tt, e)
can-take-all {slots} v w (OfCells r ∷ rs) f =
    let is : f.0 ≡ after_taking {slots = slots} (OfCells r) v = f.2.4 in
    let rest = can-take-all f.0 w rs f.4 in (
      (f.2.3, subst (λ (u : Replaying). CanTakeAll u rs) is rest.0),
      rest.1 ∙ ap (λ (u : Replaying). taken_all u rs) is,
    )
can-take-all v w (Image p cells ∷ rs) f = absurd f.2
can-take-all v w (Turn version pages ∷ rs) f = absurd f.2

no-images : {slots : ℕ} (v w : Replaying) (rs : List (Record slots)) → Finishes v rs w → (page : ℕ) → count_images page rs ≡ 0
no-images v w [] f page = refl
no-images v w (OfCells r ∷ rs) f page = no-images f.0 w rs f.4 page
no-images v w (Image p cells ∷ rs) f page = absurd f.2
no-images v w (Turn version pages ∷ rs) f page = absurd f.2

none-in : {slots : ℕ} (v w : Replaying) (rs : List (Record slots)) → Finishes v rs w → (x : ℕ) → has_image x (items_of rs) ≡ false
none-in v w [] f x = refl
none-in v w (OfCells r ∷ rs) f x = none-in f.0 w rs f.4 x
none-in v w (Image p cells ∷ rs) f x = absurd f.2
none-in v w (Turn version pages ∷ rs) f x = absurd f.2

-- lists of records, one after another
spelled-both : {slots : ℕ} (rs ss : List (Record slots)) → HaveSpellings rs → HaveSpellings ss → HaveSpellings (rs ++ ss)
spelled-both [] ss h k = k
spelled-both (r ∷ rs) ss h k = (h.0, h.1, spelled-both rs ss h.2 k)

fit-both : {slots : ℕ} (pages : ℕ) (us : List _) (rs ss : List (Record slots)) → AllFitLog pages us rs → AllFitLog pages (unended_by_all us rs) ss → AllFitLog pages us (rs ++ ss)
fit-both pages us [] ss h k = k
fit-both pages us (r ∷ rs) ss h k = (h.0, fit-both pages (unended_by us r) rs ss h.1 k)

behind-both : {slots : ℕ} (us : List _) (rs ss : List (Record slots)) → unended_by_all us (rs ++ ss) ≡ unended_by_all (unended_by_all us rs) ss
behind-both us [] ss = refl
behind-both us (r ∷ rs) ss = behind-both (unended_by us r) rs ss

all-pushed : {slots : ℕ} (batches : List (List (Record slots))) (rs : List (Record slots)) → all_of (batches ++ rs ∷ []) ≡ all_of batches ++ rs
all-pushed batches rs = flat_map-append (λ (l : List _). l) batches (rs ∷ []) ∙ ap (λ (l : List _). all_of batches ++ l) (append-nil rs)

-- the bodies of the batches with the undo's after them
pub bodies-behind : {slots : ℕ} (batches : List (List (Record slots))) (rs : List (Record slots)) (bytes : List ℕ) → bytes ≡ body_of rs → bodies_of (batches ++ rs ∷ []) ≡ bodies_of batches ++ bytes ∷ []
bodies-behind batches rs bytes are = map-append body_of batches (rs ∷ []) ∙ ap (λ (b : List ℕ). bodies_of batches ++ b ∷ []) (sym are)

-- with the undo's batch after it the log has ended, and makes the cells that are undone
pub ended-behind : (slots : ℕ) (image : Bytes) (area : Area) (count : ℕ) (batches : List (List (Record slots))) (v w : Replaying) (bytes : List ℕ) → IsReplayed slots image area count batches v → (u : IsUndone slots v bytes w)
    → AreBodies (bodies_of batches ++ bytes ∷ []) → IsEndedLog count image.pages (batches ++ u.records ∷ []) w.cells
ended-behind slots image area count batches v w bytes r u formed = record {
  read = record {
    some = r.read.pages_read.read.log.batches_are.some;
    few = r.read.pages_read.read.log.batches_are.few;
    bodies = subst (λ b. AreBodies b) (sym (bodies-behind batches rs bytes u.are)) formed;
    spelled = subst (λ l. HaveSpellings l) (sym all) (spelled-both before rs r.read.pages_read.read.log.batches_are.spelled u.spelled);
    fit = subst (λ l. AllFitLog count [] l) (sym all)
        (fit-both count [] before rs r.read.pages_read.read.log.batches_are.fit (subst (λ us. AllFitLog count us rs) r.unended (subst (λ n. AllFitLog n v.unended rs) r.long u.fit)));
  };
  whole = subst (λ l. (page at : ℕ) → page < count → IsDamagedPage image.pages l page at → ⊥) (sym all) whole;
  fit = subst (λ l. AllFitCells count image.pages [] l []) (sym all) fit;
  are = are ∙ ap (λ l. cells_of_log slots count image.pages l) (sym all);
  ended = none_left;
}
  where
    rs : List (Record slots)
    rs = u.records

    now : List (List (Record slots))
    now = batches ++ rs ∷ []

    before : List (Record slots)
    before = all_of batches

    all : all_of now ≡ before ++ rs
    all = all-pushed batches rs

    take : CanTakeAll v rs × (w ≡ taken_all v rs)
    take = can-take-all v w rs u.finishes

    matches : Matches count image.pages before (rs ++ []) v
    matches = record {
      sized = r.sized;
      long = r.long;
      awaits = λ page low. r.none page low ∙ sym (ap (λ l. count_images page l) (append-nil rs) ∙ no-images v w rs u.finishes page);
      cells = λ x low high e. r.cells x low high;
    }

    fitted : AllFitCells count image.pages before rs [] × Matches count image.pages (before ++ rs) [] (taken_all v rs)
    fitted = fits_all count image.pages before rs [] v matches take.0

    matched : Matches count image.pages (before ++ rs) [] w
    matched = subst (λ (x : Replaying). Matches count image.pages (before ++ rs) [] x) (sym take.1) fitted.1

    none_left : unended_behind now ≡ []
    none_left =
        ap (λ l. unended_by_all [] l) all ∙ (behind-both [] before rs ∙ (ap (λ us. unended_by_all us rs) (sym r.unended) ∙ (sym (unended_all v rs) ∙ (ap (λ (x : Replaying). x.unended) (sym take.1) ∙ u.none))))

    fit : AllFitCells count image.pages [] (before ++ rs) []
    fit = fits-joined count image.pages [] before rs [] (subst (λ l. AllFitCells count image.pages [] before l) (sym (append-nil rs)) (all-fits-later count image.pages [] before rs r.read.fit)) fitted.0

    whole : (page at : ℕ) → page < count → IsDamagedPage image.pages (before ++ rs) page at → ⊥
    whole page at low d = r.read.pages_read.whole page at low (record { no_image = fewer-images (8 * page + 1) before rs d.no_image; fails = d.fails })

    none : cell_at w.cells 0 ≡ blank_cell false slots
    none = u.consistent.empty 0 (let z = u.consistent.sized in omega (arith, z)) u.consistent.exact.none

    are : w.cells ≡ cells_of_log slots count image.pages (before ++ rs)
    are = same-cells slots count image.pages (before ++ rs) w.cells matched.sized none (λ id low high. matched.cells id low high refl)

-- where there was nothing to undo, it had ended before
pub ended-before : (slots : ℕ) (image : Bytes) (area : Area) (count : ℕ) (batches : List (List (Record slots))) (v : Replaying) (ids : ℕ) → IsReplayed slots image area count batches v → AreConsistent slots ids v.cells
    → v.unended ≡ [] → IsEndedLog count image.pages batches v.cells
ended-before slots image area count batches v ids r k none =
    let blank = k.empty 0 (let z = k.sized in omega (arith, z)) k.exact.none in
    let cells = cells-are slots image area count batches v r blank in
    record { read = r.read.pages_read.read.log.batches_are; whole = r.read.pages_read.whole; fit = r.read.fit; are = cells.are; ended = sym r.unended ∙ none }

-- an image with the pages and the batches of a log that has ended opens to its cells
pub opens-ended : (slots : ℕ) (image other : Bytes) (area : Area) (count ids : ℕ) (batches : List (List (Record slots))) (cells : List Cell) → IsEndedLog count image.pages batches cells → AreConsistent slots ids cells
    → HasBatches slots image area count (bodies_of batches) other → Opened slots other (OpensTo cells)
opens-ended slots image other area count ids batches cells e k h =
    subst (λ (cs : List Cell). Opened slots other (OpensTo cs)) (ap (λ us. restored slots cells us) e.ended)
    (opens area count batches cells read (consistent-rules slots ids cells k) (subst (λ us. CanRestart slots cells us) (sym e.ended) tt))
  where
    read : AreCellsRead other area count batches cells
    read = record {
      pages_read = record {
        read = record { named = h.named; log = record { batches_are = e.read; log = h.log } };
        whole = subst (λ (p : List ℕ). (page at : ℕ) → page < count → IsDamagedPage p (all_of batches) page at → ⊥) (sym h.pages) e.whole;
      };
      fit = subst (λ (p : List ℕ). AllFitCells count p [] (all_of batches) []) (sym h.pages) e.fit;
      are = e.are ∙ ap (λ (p : List ℕ). cells_of_log slots count p (all_of batches)) (sym h.pages);
    }

-- the batches, where all is undone
pub opens-behind : (slots : ℕ) (image other : Bytes) (area : Area) (count : ℕ) (batches : List (List (Record slots))) (v w : Replaying) (bytes : List ℕ) → IsReplayed slots image area count batches v → IsUndone slots v bytes w
    → HasBatches slots image area count (bodies_of batches ++ bytes ∷ []) other → Opened slots other (OpensTo w.cells)
opens-behind slots image other area count batches v w bytes r u h =
    opens-ended slots image other area count (8 * length w.skips) (batches ++ u.records ∷ []) w.cells (ended-behind slots image area count batches v w bytes r u h.log.bodies.1) u.consistent
    (subst (λ b. HasBatches slots image area count b other) (sym (bodies-behind batches u.records bytes u.are)) h)

-- ---- the log as it stands when the undo was written

pub opens-after : (slots : ℕ) (image other : Bytes) (area : Area) (count : ℕ) (batches : List (List (Record slots))) (v w : Replaying) (bytes : List ℕ) (ids : ℕ) → IsReplayed slots image area count batches v → AreConsistent slots ids v.cells
    → IsUndone slots v bytes w → other.pages ≡ image.pages → named_by other.super_area ≡ Some area → IsLog most_bytes (with_batch (body_of (first_records slots count) ∷ bodies_of batches) bytes) (in_area other area)
    → Opened slots other (OpensTo w.cells)
opens-after slots image other area count batches v w [] ids r k u pages named log =
    subst (λ (cells : List Cell). Opened slots other (OpensTo cells)) (sym u.cells) (opens-before slots image other area count batches v ids r k u.can (record { pages = pages; named = named; log = log }))
opens-after slots image other area count batches v w (byte ∷ more) ids r k u pages named log =
    opens-behind slots image other area count batches v w (byte ∷ more) r u (record { pages = pages; named = named; log = log })

pub opens-itself : (slots : ℕ) (image : Bytes) (area : Area) (count : ℕ) (batches : List (List (Record slots))) (v w : Replaying) (bytes : List ℕ) (ids : ℕ) → IsReplayed slots image area count batches v → AreConsistent slots ids v.cells
    → IsUndone slots v bytes w → Opened slots image (OpensTo w.cells)
opens-itself slots image area count batches v w bytes ids r k u =
    subst (λ (cells : List Cell). Opened slots image (OpensTo cells)) (sym u.cells)
    (opens-before slots image image area count batches v ids r k u.can (record { pages = refl; named = r.read.pages_read.read.named; log = r.read.pages_read.read.log.log }))

-- a log area of a log that has room
pub within-most : (log : LogState) (bodies : List (List ℕ)) (area : List ℕ) → log.durable < most_bytes → IsLog (reach log) bodies area → IsLog most_bytes bodies area
within-most log bodies area fits l = record { bodies = l.bodies; commit_byte = l.commit_byte; closed = l.closed; rest = l.rest; are = l.are; short = (let s = l.short in omega (arith, s, fits)) }

pub pages-apart : (area : Area) → IsLogArea area → Pages ≢ area
pages-apart area is e = subst IsLogArea (sym e) is

pub same-pages : (o p : Option (List ℕ)) (a b : List ℕ) → o ≡ Some a → p ≡ Some b → o ≡ p → a ≡ b
same-pages o p a b x y e = ap (λ (q : Option (List ℕ)). unwrap_or q []) (sym x ∙ (e ∙ y))
