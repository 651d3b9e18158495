-- Records that are tested one after another by a replay that looks at no cell.
use Rattle.std.proofs.Common.{◌≡◌, ℕ, ◌+◌, ◌*◌, ◌<◌, ◌≤◌, false, List, [], ◌∷◌, ◌++◌, length, drop, map, refl, sym, ap, subst, ◌∙◌, arith, append_assoc, length-append}
use Rattle.std.specs.Prelude.{slice_index, not, ◌==◌, replicate}
use Rattle.std.specs.List.{range_with_len}
use Rattle.std.proofs.lemmas.Bool.{ne_eqb}
use Rattle.std.proofs.lemmas.List.{append-nil, length-map, drop_at, drop_all, length-drop, length-replicate, get_or-replicate}
use Rattle.std.proofs.lemmas.List.FromFn.{length-range_with_len}
use Rattle.std.proofs.lemmas.Grind.{flat_map-append}
use Rattle.cell_model.specs.Cells.{Cell as StoredCell}
use Rattle.cell_page.specs.declared.cell.Cell.{Cell}
use Rattle.cell_page.specs.Format.{IsSlotCount, page_of_id}
use Rattle.log_record.specs.declared.cell_record.CellRecord.{CellRecord}
use Rattle.log_record.specs.declared.record.Record.{Record}
use Rattle.log_record.specs.declared.record.Record.TheVariants.{OfCells, Image, Turn}
use Rattle.log_record.specs.Records.{record_of}
use Rattle.log_record.specs.Spelling.{record_bytes, BeginsWith}
use Rattle.log_record.proofs.Apart.{one_record}
use Rattle.log_record.proofs.ReadLaws.{some_bytes}
use Rattle.opened_images.proofs.Bodies.{begins}
use Rattle.restart_laws.specs.Unended.{Unended, FitsUnended, unended_after}
use Rattle.log_replay.specs.Inside.{cells_of_pages}
use Rattle.log_replay.specs.Replays.{Replaying, IsWithin, FitsReplay, after_taking}
use Rattle.opened_images.specs.LogRecords.{body_of, HaveSpellings, FitsLog, unended_by, unended_by_all, HasNoNext}
use Rattle.opened_images.proofs.LogWays.{unended_append}
use Rattle.opened_images.proofs.GoesOnLog.{fit_both}
use Rattle.current_log.specs.Tested.{IsTesting, FitsFirst, FitsFront, FitsBody, StopsBody}

-- ---- one record

-- what fits the replay fits the log
pub fits_log : (slots pages : ℕ) (us : List (ℕ × Unended)) (v : Replaying) (r : CellRecord) → IsTesting pages us v → FitsReplay {slots = slots} v (OfCells r) → FitsLog {slots = slots} pages us (OfCells r)
fits_log slots pages us v r is fits = (
  subst (λ (n : ℕ). IsWithin (8 * n) r) is.long fits.0,
  subst (λ (l : List (ℕ × Unended)). FitsUnended l (record_of r)) is.unended fits.1,
)

-- what fits the log fits the replay, which awaits an image of each page
pub fits_replay : (slots pages : ℕ) (us : List (ℕ × Unended)) (v : Replaying) (r : CellRecord) → IsTesting pages us v → FitsLog {slots = slots} pages us (OfCells r) → FitsReplay {slots = slots} v (OfCells r)
fits_replay slots pages us v r is fits = (
  subst (λ (n : ℕ). IsWithin (8 * n) r) (sym is.long) fits.0,
  subst (λ (l : List (ℕ × Unended)). FitsUnended l (record_of r)) (sym is.unended) fits.1,
  λ x above below unskipped.
      let low : page_of_id x < pages = within pages x above (omega (arith, below, is.sized)) in
      absurd (awaited (slice_index v.skips (page_of_id x)) (is.awaits (page_of_id x) low) unskipped),
)
  where
    within : (n id : ℕ) → 0 < id → id < 8 * n + 1 → page_of_id id < n
    within n id above below = omega arith

    awaited : (n : ℕ) → 1 ≤ n → not (n == 0) ≡ false → ⊥
    awaited n some none = absurd (cc (none, ne_eqb n 0 (λ zero. omega (arith, zero, some))))

same_count : (f : ℕ → StoredCell) (n : ℕ) (cells : List StoredCell) → length cells ≡ n → length (map f (range_with_len 0 (length cells))) ≡ n
same_count f n cells is = length-map (range_with_len 0 (length cells)) f ∙ length-range_with_len 0 (length cells) ∙ is

-- it tests on after a record of single cells
pub tests_on : (slots pages : ℕ) (us : List (ℕ × Unended)) (v w : Replaying) (r : CellRecord) → IsTesting pages us v → w ≡ after_taking {slots = slots} (OfCells r) v
    → IsTesting pages (unended_by {slots = slots} us (OfCells r)) w
tests_on slots pages us v w r is are =
    subst (λ (x : Replaying). IsTesting pages (unended_by {slots = slots} us (OfCells r)) x) (sym are)
    (record {
      sized = same_count _ (8 * pages + 1) v.cells is.sized;
      long = is.long;
      awaits = is.awaits;
      unended = ap (λ (l : List (ℕ × Unended)). unended_after l (record_of r)) is.unended;
    })

-- the one record that the bytes begin with doesn't fit
pub none_fits : {slots : ℕ} → IsSlotCount slots → (pages : ℕ) (us : List (ℕ × Unended)) (bytes : List ℕ) (r : Record slots) (len : ℕ) → BeginsWith bytes r len → (FitsLog pages us r → ⊥)
    → HasNoNext slots pages us bytes
none_fits {slots} known pages us bytes r len b denied s n c fits = denied (subst (λ (t : Record slots). FitsLog pages us t) (sym (one_record bytes r s len n known b c).0) fits)

-- an image of a page that the store doesn't have doesn't fit
pub image_unfit : {slots : ℕ} (pages page : ℕ) (us : List (ℕ × Unended)) (r : Record slots) (cells : List (Cell slots)) → r ≡ Image page cells → pages ≤ page → FitsLog pages us r → ⊥
image_unfit {slots} pages page us r cells is past fits =
    let low : page < pages = subst (λ (t : Record slots). FitsLog pages us t) is fits in
    absurd (omega (arith, low, past))

pub turn_unfit : {slots : ℕ} (pages version count : ℕ) (us : List (ℕ × Unended)) (r : Record slots) → r ≡ Turn version count → FitsLog pages us r → ⊥
turn_unfit {slots} pages version count us r is fits = subst (λ (t : Record slots). FitsLog pages us t) is fits

-- ---- the body of a batch

pub spelled_both : {slots : ℕ} (rs ss : List (Record slots)) → HaveSpellings rs → HaveSpellings ss → HaveSpellings (rs ++ ss)
spelled_both [] ss a b = b
spelled_both (r ∷ rs) ss a b = (a.0, a.1, spelled_both rs ss a.2 b)

pub front_start : (slots pages : ℕ) (us : List (ℕ × Unended)) (body : List ℕ) (v : Replaying) → IsTesting pages us v → FitsFront slots pages us body 0 v
front_start slots pages us body v is = record { rs = []; spelled = tt; fit = tt; so_far = refl; split = refl; testing = is }

pub front_more : (slots pages : ℕ) (us : List (ℕ × Unended)) (body : List ℕ) (at len : ℕ) (v w : Replaying) → (front : FitsFront slots pages us body at v)
    → FitsFirst slots pages (unended_by_all us front.rs) (drop at body) len w → FitsFront slots pages us body (at + len) w
front_more slots pages us body at len v w front first =
    let rs : List (Record slots) = front.rs ++ first.r ∷ [] in
    let bytes : body_of rs ≡ body_of front.rs ++ record_bytes first.r =
    flat_map-append record_bytes front.rs (first.r ∷ []) ∙ ap (λ (l : List ℕ). body_of front.rs ++ l) (append-nil (record_bytes first.r)) in
    let split : body ≡ body_of rs ++ first.begins.rest =
    front.split ∙ ap (λ (l : List ℕ). body_of front.rs ++ l) first.begins.are ∙ sym (append_assoc (body_of front.rs) (record_bytes first.r) first.begins.rest)
    ∙ ap (λ (l : List ℕ). l ++ first.begins.rest) (sym bytes) in
    let count : at + len ≡ length (body_of rs) = omega (arith, front.so_far, first.begins.takes, ap length bytes, length-append (body_of front.rs) (record_bytes first.r)) in
    let behind : drop (at + len) body ≡ first.begins.rest =
    ap (λ (l : List ℕ). drop (at + len) l) split ∙ drop_at (body_of rs) first.begins.rest (at + len) (sym count) in
    record {
      rs = rs;
      spelled = spelled_both front.rs (first.r ∷ []) front.spelled (first.begins.rules, first.begins.typed, tt);
      fit = fit_both pages us front.rs (first.r ∷ []) front.fit (first.fits, tt);
      so_far = count;
      split = split ∙ ap (λ (l : List ℕ). body_of rs ++ l) (sym behind);
      testing = subst (λ (l : List (ℕ × Unended)). IsTesting pages l w) (sym (unended_append us front.rs (first.r ∷ []))) first.testing;
    }

pub front_all : (slots pages : ℕ) (us : List (ℕ × Unended)) (body : List ℕ) (at : ℕ) (w : Replaying) → length body ≤ at → FitsFront slots pages us body at w → FitsBody slots pages us body w
front_all slots pages us body at w over front =
    record {
      rs = front.rs;
      spelled = front.spelled;
      fit = front.fit;
      split = front.split ∙ ap (λ (l : List ℕ). body_of front.rs ++ l) (drop_all at body over) ∙ append-nil (body_of front.rs);
      testing = front.testing;
    }

pub front_stops : (slots pages : ℕ) (us : List (ℕ × Unended)) (body : List ℕ) (at : ℕ) (w : Replaying) → at < length body → (front : FitsFront slots pages us body at w)
    → HasNoNext slots pages (unended_by_all us front.rs) (drop at body) → StopsBody slots pages us body at
front_stops slots pages us body at w within front none =
    record {
      rs = front.rs;
      spelled = front.spelled;
      fit = front.fit;
      so_far = front.so_far;
      left = drop at body;
      some = omega (arith, within, length-drop at body);
      none = none;
      split = front.split;
    }

-- ---- before the first record

-- it awaits one image of each page
pub starts_testing : {slots : ℕ} (pages : ℕ) (held : List (List (Cell slots))) (v : Replaying) → length held ≡ pages
    → v ≡ record { cells = cells_of_pages held; unended = []; skips = replicate pages 1 } → length (cells_of_pages held) ≡ 8 * pages + 1 → IsTesting pages [] v
starts_testing {slots} pages held v long are count =
    subst (λ (x : Replaying). IsTesting pages [] x) (sym are)
    (record {
      sized = count;
      long = length-replicate pages 1;
      awaits = λ page low. let one : slice_index (replicate pages 1) page ≡ 1 = get_or-replicate pages page 1 0 low in omega (arith, one);
      unended = refl;
    })

-- a record has bytes, and they stand in the bytes that begin with it
pub first_within : {slots : ℕ} (bytes : List ℕ) (r : Record slots) (len : ℕ) → BeginsWith bytes r len → (1 ≤ len) × (len ≤ length bytes)
first_within bytes r len b =
    let some = some_bytes (record_bytes r) r (length (record_bytes r)) (begins r [] (record_bytes r) b.rules b.typed (sym (append-nil (record_bytes r)))) in (
      omega (arith, some, b.takes),
      omega (arith, b.takes, ap length b.are, length-append (record_bytes r) b.rest),
    )
