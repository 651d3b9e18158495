-- What a replay tells of a log that awaits so many images that it leaves all cells alone.
use Rattle.std.proofs.Common.{◌≡◌, ℕ, ◌+◌, ◌-◌, ◌*◌, ◌<◌, ◌≤◌, Bool, true, false, List, [], ◌∷◌, ◌++◌, length, map, inl, inr, refl, sym, ap, subst, ◌∙◌, arith, append_assoc, length-append}
use Rattle.std.specs.Prelude.{slice_index, slice_set, not, ◌==◌}
use Rattle.std.specs.List.{range_with_len}
use Rattle.cell_model.specs.Cells.{Cell}
use Rattle.std.proofs.lemmas.Bool.{cases_eq, eq-eqb, ne_eqb}
use Rattle.std.proofs.lemmas.List.{append-nil, length-map, length-set, get_or-set_same, get_or-set_other, get_or-map, get_or-replicate, length-replicate}
use Rattle.std.proofs.lemmas.List.FromFn.{length-range_with_len}
use Rattle.std.proofs.lemmas.Grind.{flat_map-append}
use Rattle.cell_page.specs.Format.{page_of_id}
use Rattle.log_record.specs.declared.record.Record.{Record}
use Rattle.log_record.specs.declared.record.Record.TheVariants.{OfCells, Image, Turn}
use Rattle.log_record.specs.Spelling.{record_bytes, known_version, HasSpelling}
use Rattle.gate_log.specs.Batches.{batch_bytes, batches_bytes, IsBody, AreBodies, IsLog, most_bytes}
use Rattle.gate_log.proofs.Logs.{bytes-push, length-sized}
use Rattle.restart_laws.specs.Unended.{Unended}
use Rattle.log_replay.specs.Replays.{Replaying, IsWithin, after_taking}
use Rattle.opened_images.specs.LogRecords.{body_of, bodies_of, all_of, first_records, HaveSpellings, FitsLog, AllFitLog, unended_by, unended_by_all, unended_behind, HasNoNext, AreBatches, IsRecordLog, IsDamagedLog, no_batch as no_batch_there, no_record as no_record_there}
use Rattle.opened_images.proofs.Bodies.{begins}
use Rattle.store_opening.specs.Walks.{CanTake, CanTakeAll, taken_all, Takes, TakesNone, one_if, count_images, most_images, IsWaiting}
use Rattle.store_opening.specs.Walked.{StopsWalk, no_batch, no_record}
use Rattle.store_opening.proofs.TakeLaws.{first_within}

-- ---- the replay keeps its lengths

-- so many pages, and eight cells for each
pub record IsOf (pages : ℕ) (v : Replaying) : Type 0 where
  pub sized : length v.cells ≡ 8 * pages + 1
  pub long : length v.skips ≡ pages

same_count : (f : ℕ → Cell) (n : ℕ) (cells : List Cell) → length cells ≡ n → length (map f (range_with_len 0 (length cells))) ≡ n
same_count f n cells is = length-map (range_with_len 0 (length cells)) f ∙ length-range_with_len 0 (length cells) ∙ is

of_after : {slots : ℕ} (pages : ℕ) (v : Replaying) (r : Record slots) → IsOf pages v → IsOf pages (after_taking r v)
of_after pages v (OfCells r) is = record { sized = same_count _ (8 * pages + 1) v.cells is.sized; long = is.long }
of_after pages v (Image page cells) is = record { sized = same_count _ (8 * pages + 1) v.cells is.sized; long = length-set v.skips page (slice_index v.skips page - 1) ∙ is.long }
of_after pages v (Turn version count) is = is

of_all : {slots : ℕ} (pages : ℕ) (v : Replaying) (rs : List (Record slots)) → IsOf pages v → IsOf pages (taken_all v rs)
of_all pages v [] is = is
of_all pages v (r ∷ rs) is = of_all pages (after_taking r v) rs (of_after pages v r is)

-- ---- what it takes fits the log

fits_one : {slots : ℕ} (pages : ℕ) (v : Replaying) (r : Record slots) → IsOf pages v → CanTake v r → FitsLog pages v.unended r
fits_one pages v (OfCells r) is can = (subst (λ (n : ℕ). IsWithin (8 * n) r) is.long can.0, can.1)
fits_one pages v (Image page cells) is can = subst (λ (n : ℕ). page < n) is.long can.0
fits_one pages v (Turn version count) is can = can

same_unended : {slots : ℕ} (v : Replaying) (r : Record slots) → (after_taking r v).unended ≡ unended_by v.unended r
same_unended v (OfCells r) = refl
same_unended v (Image page cells) = refl
same_unended v (Turn version count) = refl

pub fits_all : {slots : ℕ} (pages : ℕ) (v : Replaying) (rs : List (Record slots)) → IsOf pages v → CanTakeAll v rs → AllFitLog pages v.unended rs
fits_all pages v [] is can = tt
fits_all pages v (r ∷ rs) is can = (
  fits_one pages v r is can.0,
  subst (λ (us : List (ℕ × Unended)). AllFitLog pages us rs) (same_unended v r) (fits_all pages (after_taking r v) rs (of_after pages v r is) can.1),
)

pub unended_all : {slots : ℕ} (v : Replaying) (rs : List (Record slots)) → (taken_all v rs).unended ≡ unended_by_all v.unended rs
unended_all v [] = refl
unended_all v (r ∷ rs) = unended_all (after_taking r v) rs ∙ ap (λ (us : List (ℕ × Unended)). unended_by_all us rs) (same_unended v r)

-- ---- the images that it still awaits

awaits_all : {slots : ℕ} (v : Replaying) (rs : List (Record slots)) (page : ℕ) → CanTakeAll v rs → slice_index (taken_all v rs).skips page ≡ slice_index v.skips page - count_images page rs
awaits_all v [] page can = omega arith
awaits_all v (OfCells r ∷ rs) page can = awaits_all (after_taking (OfCells r) v) rs page can.1
awaits_all v (Turn version count ∷ rs) page can = absurd can.0
awaits_all {slots} v (Image other cells ∷ rs) page can =
    let later = awaits_all (after_taking {slots = slots} (Image other cells) v) rs page can.1 in
    elim (cases_eq other page) [
      | inl same ↦
          let one : one_if (other == page) ≡ 1 = rw (eq-eqb other page same) refl in
          let left : slice_index (slice_set v.skips other (slice_index v.skips other - 1)) page ≡ slice_index v.skips page - 1 =
          subst (λ (p : ℕ). slice_index (slice_set v.skips other (slice_index v.skips other - 1)) p ≡ slice_index v.skips p - 1) same (get_or-set_same v.skips other (slice_index v.skips other - 1) 0 can.0.0) in
          omega (arith, later, left, one)
      | inr apart ↦
          let none : one_if (other == page) ≡ 0 = rw (ne_eqb other page apart) refl in
          let left : slice_index (slice_set v.skips other (slice_index v.skips other - 1)) page ≡ slice_index v.skips page =
          get_or-set_other v.skips other page (slice_index v.skips other - 1) 0 (λ e. apart (sym e)) in
          omega (arith, later, left, none)
    ]

few_ones : (b : Bool) → one_if b ≤ 1
few_ones true = omega arith
few_ones false = omega arith

pub few_images : {slots : ℕ} (page : ℕ) (rs : List (Record slots)) → count_images page rs ≤ length rs
few_images page [] = omega arith
few_images page (OfCells r ∷ rs) = omega (arith, few_images page rs)
few_images page (Image other cells ∷ rs) = omega (arith, few_images page rs, few_ones (other == page))
few_images page (Turn version count ∷ rs) = omega (arith, few_images page rs)

-- each record has bytes
pub few_records : {slots : ℕ} (rs : List (Record slots)) → HaveSpellings rs → length rs ≤ length (body_of rs)
few_records [] spelled = omega arith
few_records (r ∷ rs) spelled =
    let some = (first_within (record_bytes r) r (length (record_bytes r)) (begins r [] (record_bytes r) spelled.0 spelled.1 (sym (append-nil (record_bytes r))))).0 in
    omega (arith, some, few_records rs spelled.2, length-append (record_bytes r) (body_of rs))

few_bytes : {slots : ℕ} (batches : List (List (Record slots))) → length (body_of (all_of batches)) ≤ length (batches_bytes (bodies_of batches))
few_bytes [] = omega arith
few_bytes (b ∷ bs) =
    omega (
      arith,
      few_bytes bs,
      ap length (flat_map-append record_bytes b (all_of bs)),
      length-append (body_of b) (body_of (all_of bs)),
      length-append (batch_bytes (body_of b)) (batches_bytes (bodies_of bs)),
      length-sized (body_of b),
    )

-- where it awaits images of each page, it takes what fits the log
takes_fitting : {slots : ℕ} (pages : ℕ) (w : Replaying) → IsOf pages w → ((page : ℕ) → page < pages → 1 ≤ slice_index w.skips page) → (r : Record slots) → FitsLog pages w.unended r → CanTake w r
takes_fitting pages w is awaits (OfCells r) fits = (
  subst (λ (n : ℕ). IsWithin (8 * n) r) (sym is.long) fits.0,
  fits.1,
  λ x above below unskipped.
      let low : page_of_id x < pages = within pages x above (omega (arith, below, is.sized)) in
      absurd (awaited (slice_index w.skips (page_of_id x)) (awaits (page_of_id x) low) unskipped),
)
  where
    within : (n id : ℕ) → 0 < id → id < 8 * n + 1 → page_of_id id < n
    within n id above below = omega arith

    awaited : (n : ℕ) → 1 ≤ n → not (n == 0) ≡ false → ⊥
    awaited n some none = absurd (cc (none, ne_eqb n 0 (λ zero. omega (arith, zero, some))))
takes_fitting pages w is awaits (Image page cells) fits = (subst (λ (n : ℕ). page < n) (sym is.long) fits, awaits page fits)
takes_fitting pages w is awaits (Turn version count) fits = fits

-- ---- from its beginning

start_of : (pages : ℕ) (v : Replaying) → IsWaiting pages v → IsOf pages v
start_of pages v is = record { sized = is.sized; long = ap length is.awaits ∙ length-replicate pages most_images }

start_awaits : (pages page : ℕ) (v : Replaying) → IsWaiting pages v → page < pages → slice_index v.skips page ≡ most_images
start_awaits pages page v is low = ap (λ (l : List ℕ). slice_index l page) is.awaits ∙ get_or-replicate pages page most_images 0 low

-- these are the batches of a log whose records it took
are_batches : {slots : ℕ} (pages : ℕ) (v w : Replaying) (batches : List (List (Record slots))) → HasSpelling {slots = slots} (Turn (known_version slots) pages) → IsWaiting pages v
    → Takes (all_of batches) v w → AreBodies (bodies_of batches) → AreBatches pages batches
are_batches pages v w batches rules waits takes bodies =
    record {
      some = rules.1;
      few = rules.2;
      bodies = bodies;
      spelled = takes.spelled;
      fit = subst (λ (us : List (ℕ × Unended)). AllFitLog pages us (all_of batches)) waits.none (fits_all pages v (all_of batches) (start_of pages v waits) takes.fit);
    }

pub found_log : {slots : ℕ} (pages : ℕ) (v w : Replaying) (batches : List (List (Record slots))) (area : List ℕ) → HasSpelling {slots = slots} (Turn (known_version slots) pages) → IsWaiting pages v
    → Takes (all_of batches) v w → IsLog most_bytes (body_of (first_records slots pages) ∷ bodies_of batches) area → IsRecordLog pages batches area
found_log pages v w batches area rules waits takes log = record { batches_are = are_batches pages v w batches rules waits takes log.bodies.1; log = log }

-- how many images it took
pub found_images : {slots : ℕ} (pages : ℕ) (v w : Replaying) (batches : List (List (Record slots))) (area : List ℕ) (first : List ℕ) → IsWaiting pages v → Takes (all_of batches) v w
    → IsLog most_bytes (first ∷ bodies_of batches) area → (page : ℕ) → page < pages → most_images - slice_index w.skips page ≡ count_images page (all_of batches)
found_images pages v w batches area first waits takes log page low =
    let left : slice_index w.skips page ≡ slice_index v.skips page - count_images page (all_of batches) =
    ap (λ (u : Replaying). slice_index u.skips page) takes.are ∙ awaits_all v (all_of batches) page takes.fit in
    omega (
      arith,
      left,
      start_awaits pages page v waits low,
      few_images page (all_of batches),
      few_records (all_of batches) takes.spelled,
      few_bytes batches,
      ap length log.are,
      length-append (batches_bytes (first ∷ bodies_of batches)) (log.commit_byte ∷ log.rest),
      length-append (batch_bytes first) (batches_bytes (bodies_of batches)),
      log.short,
    )

-- ---- where its walk stops

pub bodies_front : (xs ys : List (List ℕ)) → AreBodies (xs ++ ys) → AreBodies xs
bodies_front [] ys are = tt
bodies_front (x ∷ xs) ys are = (are.0, bodies_front xs ys are.1)

pub bodies_last : (xs : List (List ℕ)) (y : List ℕ) → AreBodies (xs ++ y ∷ []) → IsBody y
bodies_last [] y are = are.0
bodies_last (x ∷ xs) y are = bodies_last xs y are.1

-- no record that fits the log begins what is left of a body
none_fits : {slots : ℕ} (pages : ℕ) (v w u : Replaying) (before rs : List (Record slots)) (left : List ℕ) → IsWaiting pages v → Takes before v w → Takes rs w u
    → length (body_of before) + length (body_of rs) ≤ most_bytes → TakesNone slots left u → HasNoNext slots pages (unended_by_all (unended_by_all [] before) rs) left
none_fits {slots} pages v w u before rs left waits took takes short none r len b fits =
    let last : u ≡ taken_all (taken_all v before) rs = takes.are ∙ ap (λ (x : Replaying). taken_all x rs) took.are in
    let us : u.unended ≡ unended_by_all (unended_by_all [] before) rs =
    ap (λ (x : Replaying). x.unended) last ∙ unended_all (taken_all v before) rs
    ∙ ap (λ (l : List (ℕ × Unended)). unended_by_all l rs) (unended_all v before ∙ ap (λ (l : List (ℕ × Unended)). unended_by_all l before) waits.none) in
    let is : IsOf pages u = subst (λ (x : Replaying). IsOf pages x) (sym last) (of_all pages (taken_all v before) rs (of_all pages v before (start_of pages v waits))) in
    let awaits : (page : ℕ) → page < pages → 1 ≤ slice_index u.skips page =
    λ page low.
    omega (
      arith,
      ap (λ (x : Replaying). slice_index x.skips page) takes.are,
      awaits_all w rs page takes.fit,
      ap (λ (x : Replaying). slice_index x.skips page) took.are,
      awaits_all v before page took.fit,
      start_awaits pages page v waits low,
      few_images page before,
      few_images page rs,
      few_records before took.spelled,
      few_records rs takes.spelled,
      short,
    ) in
    none r len b (takes_fitting pages u is awaits r (subst (λ (l : List (ℕ × Unended)). FitsLog pages l r) (sym us) fits))

pub found_damage : (slots pages place : ℕ) (v : Replaying) (area : List ℕ) → HasSpelling {slots = slots} (Turn (known_version slots) pages) → IsWaiting pages v
    → StopsWalk slots (body_of (first_records slots pages) ∷ []) v place area → IsDamagedLog slots area place
found_damage slots pages place v area rules waits (no_batch batches w takes starts damaged) =
    no_batch_there pages batches starts.rest (are_batches pages v w batches rules waits takes starts.bodies.1) starts.are damaged
found_damage slots pages place v area rules waits (no_record batches w takes body offset stops starts short is) =
    let first : List ℕ = body_of (first_records slots pages) in
    let all : List (List ℕ) = first ∷ bodies_of batches in
    let bodies : AreBodies all = bodies_front all (body ∷ []) starts.bodies in
    let split : area ≡ batches_bytes all ++ (batch_bytes body ++ starts.rest) =
    starts.are ∙ ap (λ (l : List ℕ). l ++ starts.rest) (bytes-push all body) ∙ append_assoc (batches_bytes all) (batch_bytes body) starts.rest in
    let few : length (body_of (all_of batches)) + length (body_of stops.rs) ≤ most_bytes =
    omega (
      arith,
      short,
      few_bytes batches,
      ap length split,
      length-append (batches_bytes all) (batch_bytes body ++ starts.rest),
      length-append (batch_bytes first) (batches_bytes (bodies_of batches)),
      length-append (batch_bytes body) starts.rest,
      length-sized body,
      ap length stops.split,
      length-append (body_of stops.rs) stops.left,
    ) in
    let us : w.unended ≡ unended_behind batches =
    ap (λ (x : Replaying). x.unended) takes.are ∙ unended_all v (all_of batches) ∙ ap (λ (l : List (ℕ × Unended)). unended_by_all l (all_of batches)) waits.none in
    let is_of : IsOf pages w = subst (λ (x : Replaying). IsOf pages x) (sym takes.are) (of_all pages v (all_of batches) (start_of pages v waits)) in
    no_record_there pages batches stops.rs (record {
      read = are_batches pages v w batches rules waits takes bodies.1;
      spelled = stops.takes.spelled;
      fit = subst (λ (l : List (ℕ × Unended)). AllFitLog pages l stops.rs) us (fits_all pages w stops.rs is_of stops.takes.fit);
      left = stops.left;
      some = stops.some;
      none = none_fits pages v w stops.w (all_of batches) stops.rs stops.left waits takes stops.takes few stops.none;
      whole = subst (λ (l : List ℕ). IsBody l) stops.split (bodies_last all body starts.bodies);
      rest = starts.rest;
      are = split ∙ ap (λ (l : List ℕ). batches_bytes all ++ (batch_bytes l ++ starts.rest)) stops.split;
      short = short;
    }) (omega (arith, is, stops.so_far))

-- ---- the number of images of each page, by what is still awaited

number_of : (xs ys skips : List ℕ) (f : ℕ → ℕ) (pages : ℕ) → ys ≡ map f xs → xs ≡ skips → length skips ≡ pages → length ys ≡ pages
number_of xs ys skips f pages is same long = ap length is ∙ length-map xs f ∙ ap length same ∙ long

pub found_number : {slots : ℕ} (pages : ℕ) (v w : Replaying) (rs : List (Record slots)) (awaited images : List ℕ) → IsWaiting pages v → Takes rs v w → awaited ≡ w.skips
    → images ≡ map (λ left. most_images - left) awaited → length images ≡ pages
found_number pages v w rs awaited images waits takes same is =
    number_of awaited images w.skips (λ left. most_images - left) pages is same
    (subst (λ (x : Replaying). IsOf pages x) (sym takes.are) (of_all pages v rs (start_of pages v waits))).long

pub found_count : {slots : ℕ} (pages : ℕ) (v w : Replaying) (batches : List (List (Record slots))) (area first awaited images : List ℕ) → IsWaiting pages v → Takes (all_of batches) v w
    → awaited ≡ w.skips → images ≡ map (λ left. most_images - left) awaited → IsLog most_bytes (first ∷ bodies_of batches) area
    → (page : ℕ) → page < pages → slice_index images page ≡ count_images page (all_of batches)
found_count pages v w batches area first awaited images waits takes same is log page low =
    let long : length w.skips ≡ pages = (subst (λ (x : Replaying). IsOf pages x) (sym takes.are) (of_all pages v (all_of batches) (start_of pages v waits))).long in
    let inside : page < length awaited = omega (arith, low, long, ap length same) in
    ap (λ (l : List ℕ). slice_index l page) is ∙ get_or-map (λ left. most_images - left) awaited page 0 0 inside
    ∙ ap (λ (l : List ℕ). most_images - slice_index l page) same ∙ found_images pages v w batches area first waits takes log page low
