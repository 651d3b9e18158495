-- No log area is both a log and damaged, or damaged at two places.
use Rattle.std.proofs.Common.{◌≡◌, ℕ, ◌+◌, ◌≤◌, List, [], ◌∷◌, ◌++◌, length, take, drop, Option, Some, None, refl, sym, ap, subst, ◌∙◌, append_assoc, length-append, arith}
use Rattle.std.specs.Prelude.{slice_index}
use Rattle.std.proofs.lemmas.List.{take_at, drop_at, get_or-drop}
use Rattle.cell_page.specs.Format.{IsSlotCount}
use Rattle.log_record.specs.declared.record.Record.{Record}
use Rattle.gate_log.specs.Batches.{batch_bytes, batches_bytes, IsBody, AreBodies, most_bytes}
use Rattle.gate_log.specs.CommitBytes.{IsBatchAt, IsDamaged, too_long as long_area, no_commit_byte, no_batches, no_batch as no_batch_behind}
use Rattle.gate_log.proofs.Logs.{length-sized}
use Rattle.restart_laws.specs.Unended.{Unended}
use Rattle.opened_images.specs.LogRecords.{body_of, bodies_of, HaveSpellings, AllFitLog, unended_by, unended_by_all, unended_behind, all_of, first_records, AreBatches, log_bytes, BeginsWithBody, IsOfVersion, IsRecordLog, IsDamagedLog, no_first as no_first_batch, no_turn, not_alone, no_batch, no_record}
use Rattle.opened_images.proofs.Bodies.{spelled_front, spelled_back}
use Rattle.opened_images.proofs.Ways.{first_byte, Stops, shut_byte, no_byte, cut_batch, bad_record, CanBeRead, unended_through, Told, IsLogOf, IsDamagedAt, HasVersion, told_of, IsUnknown, by_version, by_no_turn, by_more, by_batches, Way, too_long, no_first, by_first, one_way}

-- ---- a batch that stands after some bytes

pub front_byte : (front rest area : List ℕ) → area ≡ front ++ rest → slice_index area (length front) ≡ slice_index rest 0
front_byte front rest area is =
    let none : length front + 0 ≡ length front = omega arith in
    ap (λ (n : ℕ). slice_index area n) (sym none)
    ∙ sym (get_or-drop (length front) area 0 0)
    ∙ ap (λ (l : List ℕ). slice_index l 0) (ap (λ (l : List ℕ). drop (length front) l) is ∙ drop_at front rest (length front) refl)

batch_there : (front body more area : List ℕ) → area ≡ front ++ (batch_bytes body ++ more) → IsBody body → IsBatchAt (length front) body area
batch_there front body more area is whole =
    let size : length (batch_bytes body) ≡ 5 + length body = omega (arith, length-sized body) in
    record {
      whole = whole;
      there = ap (λ (l : List ℕ). take (5 + length body) l) (ap (λ (l : List ℕ). drop (length front) l) is ∙ drop_at front (batch_bytes body ++ more) (length front) refl)
          ∙ take_at (batch_bytes body) more (5 + length body) size;
    }

-- ---- batches one by one

pub unended_append : {slots : ℕ} (us : List (ℕ × Unended)) (rs ss : List (Record slots)) → unended_by_all us (rs ++ ss) ≡ unended_by_all (unended_by_all us rs) ss
unended_append us [] ss = refl
unended_append us (r ∷ rs) ss = unended_append (unended_by us r) rs ss

fit_front : {slots : ℕ} (pages : ℕ) (us : List (ℕ × Unended)) (rs ss : List (Record slots)) → AllFitLog pages us (rs ++ ss) → AllFitLog pages us rs
fit_front pages us [] ss f = tt
fit_front pages us (r ∷ rs) ss f = (f.0, fit_front pages (unended_by us r) rs ss f.1)

fit_back : {slots : ℕ} (pages : ℕ) (us : List (ℕ × Unended)) (rs ss : List (Record slots)) → AllFitLog pages us (rs ++ ss) → AllFitLog pages (unended_by_all us rs) ss
fit_back pages us [] ss f = f
fit_back pages us (r ∷ rs) ss f = fit_back pages (unended_by us r) rs ss f.1

through_same : {slots : ℕ} (us : List (ℕ × Unended)) (batches : List (List (Record slots))) → unended_through us batches ≡ unended_by_all us (all_of batches)
through_same us [] = refl
through_same us (b ∷ bs) = through_same (unended_by_all us b) bs ∙ sym (unended_append us b (all_of bs))

can_be_read : {slots : ℕ} (pages : ℕ) (us : List (ℕ × Unended)) (batches : List (List (Record slots))) → AreBodies (bodies_of batches) → HaveSpellings (all_of batches) → AllFitLog pages us (all_of batches)
    → CanBeRead pages us batches
can_be_read pages us [] bodies spelled fit = tt
can_be_read pages us (b ∷ bs) bodies spelled fit = (
  bodies.0,
  spelled_front b (all_of bs) spelled,
  fit_front pages us b (all_of bs) fit,
  can_be_read pages (unended_by_all us b) bs bodies.1 (spelled_back b (all_of bs) spelled) (fit_back pages us b (all_of bs) fit),
)

-- the way on, where the area begins with these batches
goes_on : {slots : ℕ} (pages : ℕ) (batches : List (List (Record slots))) (rest area : List ℕ) (stop : Option ℕ) → AreBatches pages batches → area ≡ log_bytes pages batches ++ rest → length area ≤ most_bytes
    → Stops slots pages (unended_behind batches) rest stop → Way slots area (told_of pages batches stop)
goes_on {slots} pages batches rest area stop are e short stops =
    by_first short (body_of (first_records slots pages)) (batches_bytes (bodies_of batches) ++ rest) (first_whole slots pages)
    (e ∙ append_assoc (batch_bytes (body_of (first_records slots pages))) (batches_bytes (bodies_of batches)) rest) (told_of pages batches stop)
    (by_batches pages (refl, are.some, are.few) refl batches rest stop (can_be_read pages [] batches are.bodies are.spelled are.fit) refl
    (subst (λ (us : List (ℕ × Unended)). Stops slots pages us rest stop) (sym (through_same [] batches)) stops))
  where
    first_whole : (slots pages : ℕ) → IsBody (body_of (first_records slots pages))
    first_whole slots pages = record { some = omega arith; fits = omega arith }

-- ---- a log

pub log_way : {slots : ℕ} (pages : ℕ) (batches : List (List (Record slots))) (area : List ℕ) → IsRecordLog pages batches area → Way slots area (IsLogOf pages batches)
log_way pages batches area l =
    goes_on pages batches (l.log.commit_byte ∷ l.log.rest) area None l.batches_are l.log.are l.log.short (shut_byte l.log.commit_byte l.log.rest l.log.closed refl)

-- ---- a damaged area

no_bytes : (l : List ℕ) → length l ≤ 0 → l ≡ []
no_bytes [] e = refl
no_bytes (x ∷ xs) e = absurd (omega (arith, e))

with_first : (l : List ℕ) → slice_index l 0 ≡ 1 → l ≡ 1 ∷ drop 1 l
with_first [] e = absurd (zero_is e)
  where
    zero_is : ◌≡◌ {A = ℕ} 0 1 → ⊥
    zero_is e = omega arith
with_first (x ∷ xs) e = ap (λ (n : ℕ). n ∷ xs) e

at_place : {slots : ℕ} (area : List ℕ) (there place : ℕ) → place ≡ there → Way slots area (IsDamagedAt there) → Way slots area (IsDamagedAt place)
at_place {slots} area there place is way = subst (λ (n : ℕ). Way slots area (IsDamagedAt n)) (sym is) way

start_way : {slots : ℕ} (area : List ℕ) (place : ℕ) → IsDamaged 0 place area → Way slots area (IsDamagedAt place)
start_way area place (long_area long is) = at_place area most_bytes place is (too_long long)
start_way area place (no_commit_byte short ends is) =
    at_place area 0 place is (no_first short (λ body rest whole are. absurd (omega (arith, ends, ap length are))))
start_way area place (no_batches short closed zero_is is) =
    at_place area 0 place is (no_first short (λ body rest whole are. closed.closed (ap first_byte are)))
start_way area place (no_batch_behind short cut is) =
    at_place area 0 place is (no_first short (λ body rest whole are. cut.none body (batch_there [] body rest area are whole)))

-- the commit byte of the batch after some bytes
behind_way : {slots : ℕ} (pages : ℕ) (batches : List (List (Record slots))) (rest area : List ℕ) (place : ℕ) → AreBatches pages batches → area ≡ log_bytes pages batches ++ rest
    → IsDamaged (length (log_bytes pages batches)) place area → Way slots area (IsDamagedAt place)
behind_way pages batches rest area place are e (long_area long is) = at_place area most_bytes place is (too_long long)
behind_way pages batches rest area place are e (no_commit_byte short ends is) =
    at_place area (length (log_bytes pages batches) + 0) place (omega (arith, is))
    (goes_on pages batches rest area (Some 0) are e short (no_byte (no_bytes rest (omega (arith, ends, ap length e, length-append (log_bytes pages batches) rest)))))
behind_way {slots} pages batches rest area place are e (no_batches short closed zero_is is) =
    absurd (omega (arith, zero_is, length-append (batch_bytes (body_of (first_records slots pages))) (batches_bytes (bodies_of batches))))
behind_way pages batches rest area place are e (no_batch_behind short cut is) =
    at_place area (length (log_bytes pages batches) + 0) place (omega (arith, is))
    (goes_on pages batches rest area (Some 0) are e short (cut_batch (drop 1 rest) (with_first rest (sym (front_byte (log_bytes pages batches) rest area e) ∙ cut.is_open))
    (λ body later whole split. cut.none body (batch_there (log_bytes pages batches) body later area (e ∙ ap (λ (l : List ℕ). log_bytes pages batches ++ l) split) whole))))

version_of : (slots number : ℕ) (body area : List ℕ) → BeginsWithBody body area → IsUnknown slots number body → IsOfVersion slots number area
version_of slots number body area first u =
    record { pages = u.pages; two = u.two; first = subst (λ (b : List ℕ). BeginsWithBody b area) u.are first; unknown = u.unknown }

pub damage_way : {slots : ℕ} (area : List ℕ) (place : ℕ) → IsDamagedLog slots area place → Way slots area (IsDamagedAt place)
damage_way area place (no_first_batch d) = start_way area place d
damage_way {slots} area place (no_turn body first no_version none is) =
    at_place area 5 place is (by_first first.short body first.rest first.whole first.are (IsDamagedAt 5) (by_no_turn (λ number u. no_version number (version_of slots number body area first u)) none))
damage_way {slots} area place (not_alone pages left rules some first is) =
    at_place area 9 place is (by_first first.short (body_of (first_records slots pages) ++ left) first.rest first.whole first.are (IsDamagedAt 9) (by_more pages left rules some refl))
damage_way area place (no_batch pages batches rest are e d) = behind_way pages batches rest area place are e d
damage_way area place (no_record pages batches rs s is) =
    at_place area (length (log_bytes pages batches) + (5 + length (body_of rs))) place (omega (arith, is))
    (goes_on pages batches (batch_bytes (body_of rs ++ s.left) ++ s.rest) area (Some (5 + length (body_of rs))) s.read s.are s.short (bad_record rs s.left s.rest s.spelled s.fit s.some s.none s.whole refl))

-- ---- an unknown version

pub version_way : (slots number : ℕ) (area : List ℕ) → IsOfVersion slots number area → Way slots area (HasVersion number)
version_way slots number area v =
    by_first v.first.short (14 ∷ number ∷ v.pages) v.first.rest v.first.whole v.first.are (HasVersion number) (by_version number (record { pages = v.pages; two = v.two; unknown = v.unknown; are = refl }))

-- ---- the laws

logs_same : {slots : ℕ} (pages count : ℕ) (these those : List (List (Record slots))) → IsLogOf pages these ≡ IsLogOf count those → (pages ≡ count) × (these ≡ those)
logs_same pages count these those e = (cc, cc)

places_same : {slots : ℕ} (place other : ℕ) → ◌≡◌ {A = Told slots} (IsDamagedAt place) (IsDamagedAt other) → place ≡ other
places_same place other e = cc

log_is_no_damage : {slots : ℕ} (pages place : ℕ) (batches : List (List (Record slots))) → IsLogOf pages batches ≡ IsDamagedAt place → ⊥
log_is_no_damage pages place batches e = cc

pub one_log : {slots : ℕ} → IsSlotCount slots → (area : List ℕ) (pages count : ℕ) (these those : List (List (Record slots))) → IsRecordLog pages these area → IsRecordLog count those area → (pages ≡ count) × (these ≡ those)
one_log known area pages count these those a b = logs_same pages count these those (one_way known area _ _ (log_way pages these area a) (log_way count those area b))

pub undamaged : {slots : ℕ} → IsSlotCount slots → (area : List ℕ) (pages place : ℕ) (batches : List (List (Record slots))) → IsRecordLog pages batches area → IsDamagedLog slots area place → ⊥
undamaged known area pages place batches a b = log_is_no_damage pages place batches (one_way known area _ _ (log_way pages batches area a) (damage_way area place b))

pub one_place : {slots : ℕ} → IsSlotCount slots → (area : List ℕ) (place other : ℕ) → IsDamagedLog slots area place → IsDamagedLog slots area other → place ≡ other
one_place known area place other a b = places_same place other (one_way known area _ _ (damage_way area place a) (damage_way area other b))
