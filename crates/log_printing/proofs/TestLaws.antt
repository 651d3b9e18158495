-- The test of a log, step by step.
use Rattle.std.proofs.Common.{◌≡◌, ◌≢◌, ◌⊎◌, inl, inr, ℕ, ◌+◌, ◌<◌, ◌≤◌, List, [], ◌∷◌, ◌++◌, length, take, drop, refl, sym, ap, subst, ◌∙◌, arith, append_assoc, length-append, length-drop, take-append-drop}
use Rattle.std.specs.Prelude.{slice_index}
use Rattle.std.proofs.lemmas.List.{append-nil, drop_at, drop_all, drop_more, drop-drop, map-append}
use Rattle.std.proofs.lemmas.Grind.{flat_map-append}
use Rattle.cell_page.specs.Format.{IsSlotCount}
use Rattle.log_record.specs.declared.record.Record.{Record}
use Rattle.log_record.specs.declared.record.Record.TheVariants.{Turn}
use Rattle.log_record.specs.Spelling.{record_bytes, known_version, HasSpelling, BeginsWith}
use Rattle.log_record.proofs.ReadLaws.{some_bytes}
use Rattle.log_record.proofs.Apart.{one_record}
use Rattle.restart_laws.specs.Unended.{Unended}
use Rattle.gate_log.specs.Batches.{batch_bytes, batches_bytes, IsBody, AreBodies, IsLog, most_bytes}
use Rattle.gate_log.specs.CommitBytes.{IsBatchAt, IsClosedAt, IsDamaged, too_long, no_commit_byte, no_batches, no_batch as no_batch_at}
use Rattle.gate_log.proofs.Logs.{bodies-push, bytes-push, length-sized}
use Rattle.opened_images.specs.LogRecords.{body_of, bodies_of, all_of, HaveSpellings, FitsLog, AllFitLog, unended_by, unended_by_all, unended_behind, first_records, AreBatches, log_bytes, next_record_at, IsRecordLog, HasNoNext, StopsBehind, BeginsWithBody, IsDamagedLog, no_first, not_alone, no_batch as no_batch_in_log, no_record as no_record_in_log}
use Rattle.opened_images.proofs.Bodies.{begins}
use Rattle.opened_images.proofs.Ways.{first_same, first_byte}
use Rattle.opened_images.proofs.LogWays.{unended_append}
use Rattle.log_printing.specs.Damage.{HasOtherFirst, IsDamagedFor}
use Rattle.log_printing.specs.Fitting.{Fitting, fitting_from}
use Rattle.log_printing.specs.Testing.{IsFirstBody, IsDamagedFirst, other, more, TakesFirst, TakesFront, TakesBody, StopsInBody, HasRead, StopsLog, no_batch, no_record}
use Rattle.log_printing.proofs.AreaLaws.{batch_there, behind_batch}

-- ---- the first batch

-- another record begins the bytes than the `Turn`
pub other_first : {slots : ℕ} → IsSlotCount slots → (body : List ℕ) (r : Record slots) (len pages : ℕ) → BeginsWith body r len → (r ≡ Turn (known_version slots) pages → ⊥)
    → (n : ℕ) → BeginsWith {slots = slots} body (Turn (known_version slots) pages) n → ⊥
other_first {slots} known body r len pages b apart n turn = apart (one_record body r (Turn (known_version slots) pages) len n known b turn).0

turns_apart : (slots v w pages count : ℕ) → ◌≡◌ {A = Record slots} (Turn v count) (Turn w pages) → count ≡ pages
turns_apart slots v w pages count e = cc

pub other_count : (slots version count pages len : ℕ) (body : List ℕ) → IsSlotCount slots → BeginsWith {slots = slots} body (Turn version count) len → count ≢ pages
    → (n : ℕ) → BeginsWith {slots = slots} body (Turn (known_version slots) pages) n → ⊥
other_count slots version count pages len body known b apart =
    other_first known body (Turn version count) len pages b (λ e. apart (turns_apart slots version (known_version slots) pages count e))

-- the one `Turn`, and what stands after it
pub turn_split : (slots version pages len : ℕ) (body : List ℕ) (b : BeginsWith {slots = slots} body (Turn version pages) len) → body ≡ body_of (first_records slots pages) ++ b.rest
turn_split slots version pages len body b =
    b.are ∙ ap (λ (v : ℕ). record_bytes {slots = slots} (Turn v pages) ++ b.rest) b.rules.0
    ∙ ap (λ (l : List ℕ). l ++ b.rest) (sym (append-nil (record_bytes {slots = slots} (Turn (known_version slots) pages))))

pub turn_rules : (slots version pages len : ℕ) (body : List ℕ) → BeginsWith {slots = slots} body (Turn version pages) len → HasSpelling {slots = slots} (Turn (known_version slots) pages)
turn_rules slots version pages len body b = (refl, b.rules.1, b.rules.2)

no_bytes : (l : List ℕ) → length l ≤ 0 → l ≡ []
no_bytes [] e = refl
no_bytes (x ∷ xs) e = absurd (omega (arith, e))

pub turn_alone : (slots version pages len : ℕ) (body : List ℕ) → BeginsWith {slots = slots} body (Turn version pages) len → length body ≤ len → IsFirstBody slots pages body
turn_alone slots version pages len body b over =
    let none : b.rest ≡ [] = no_bytes b.rest (omega (arith, over, b.takes, ap length b.are, length-append (record_bytes {slots = slots} (Turn version pages)) b.rest)) in
    record {
      rules = turn_rules slots version pages len body b;
      are = turn_split slots version pages len body b ∙ ap (λ (l : List ℕ). body_of (first_records slots pages) ++ l) none ∙ append-nil (body_of (first_records slots pages));
    }

pub turn_more : (slots version pages len place : ℕ) (body : List ℕ) → BeginsWith {slots = slots} body (Turn version pages) len → len < length body → place ≡ 9
    → IsDamagedFirst slots pages body place
turn_more slots version pages len place body b low is =
    more b.rest (turn_rules slots version pages len body b)
    (omega (arith, low, b.takes, ap length b.are, length-append (record_bytes {slots = slots} (Turn version pages)) b.rest))
    (turn_split slots version pages len body b) is

-- ---- a record

pub first_within : {slots : ℕ} (bytes : List ℕ) (r : Record slots) (len : ℕ) → BeginsWith bytes r len → (1 ≤ len) × (len ≤ length bytes)
first_within bytes r len b =
    let some = some_bytes (record_bytes r) r (length (record_bytes r)) (begins r [] (record_bytes r) b.rules b.typed (sym (append-nil (record_bytes r)))) in (
      omega (arith, some, b.takes),
      omega (arith, b.takes, ap length b.are, length-append (record_bytes r) b.rest),
    )

-- the one record that the bytes begin with doesn't fit
pub none_fits : {slots : ℕ} → IsSlotCount slots → (pages : ℕ) (us : List (ℕ × Unended)) (bytes : List ℕ) (r : Record slots) (len : ℕ) → BeginsWith bytes r len → (FitsLog pages us r → ⊥)
    → HasNoNext slots pages us bytes
none_fits known pages us bytes r len b denied s n c fits = denied (subst (λ t. FitsLog pages us t) (sym (one_record bytes r s len n known b c).0) fits)

-- ---- the body of a batch

spelled_both : {slots : ℕ} (rs ss : List (Record slots)) → HaveSpellings rs → HaveSpellings ss → HaveSpellings (rs ++ ss)
spelled_both [] ss a b = b
spelled_both (r ∷ rs) ss a b = (a.0, a.1, spelled_both rs ss a.2 b)

fit_both : {slots : ℕ} (pages : ℕ) (us : List (ℕ × Unended)) (rs ss : List (Record slots)) → AllFitLog pages us rs → AllFitLog pages (unended_by_all us rs) ss → AllFitLog pages us (rs ++ ss)
fit_both pages us [] ss a b = b
fit_both pages us (r ∷ rs) ss a b = (a.0, fit_both pages (unended_by us r) rs ss a.1 b)

pub front_start : (slots : ℕ) (body : List ℕ) (f : Fitting) → TakesFront slots body 0 f f
front_start slots body f = record { rs = []; spelled = tt; fit = tt; are = refl; so_far = refl; split = refl }

pub front_more : (slots : ℕ) (body : List ℕ) (at len : ℕ) (f g h : Fitting) → TakesFront slots body at f g → TakesFirst slots (drop at body) len g h → TakesFront slots body (at + len) f h
front_more slots body at len f g h front first =
    let bytes : body_of (front.rs ++ first.r ∷ []) ≡ body_of front.rs ++ record_bytes first.r =
    flat_map-append record_bytes front.rs (first.r ∷ []) ∙ ap (λ (l : List ℕ). body_of front.rs ++ l) (append-nil (record_bytes first.r)) in
    let split : body ≡ body_of (front.rs ++ first.r ∷ []) ++ first.begins.rest =
    front.split ∙ ap (λ (l : List ℕ). body_of front.rs ++ l) first.begins.are ∙ sym (append_assoc (body_of front.rs) (record_bytes first.r) first.begins.rest)
    ∙ ap (λ (l : List ℕ). l ++ first.begins.rest) (sym bytes) in
    let count : at + len ≡ length (body_of (front.rs ++ first.r ∷ [])) =
    omega (arith, front.so_far, first.begins.takes, ap length bytes, length-append (body_of front.rs) (record_bytes first.r)) in
    let behind : drop (at + len) body ≡ first.begins.rest =
    ap (λ (l : List ℕ). drop (at + len) l) split ∙ drop_at (body_of (front.rs ++ first.r ∷ [])) first.begins.rest (at + len) (sym count) in
    let fits : FitsLog f.pages (unended_by_all f.unended front.rs) first.r = subst (λ (x : Fitting). FitsLog x.pages x.unended first.r) front.are first.fits in
    record {
      rs = front.rs ++ first.r ∷ [];
      spelled = spelled_both front.rs (first.r ∷ []) front.spelled (first.begins.rules, first.begins.typed, tt);
      fit = fit_both f.pages f.unended front.rs (first.r ∷ []) front.fit (fits, tt);
      are = first.are ∙ ap (λ (x : Fitting). record { pages = x.pages; unended = unended_by x.unended first.r }) front.are
          ∙ ap (λ (us : List (ℕ × Unended)). record { pages = f.pages; unended = us }) (sym (unended_append f.unended front.rs (first.r ∷ [])));
      so_far = count;
      split = split ∙ ap (λ (l : List ℕ). body_of (front.rs ++ first.r ∷ []) ++ l) (sym behind);
    }

pub front_all : (slots : ℕ) (body : List ℕ) (at : ℕ) (f g : Fitting) → length body ≤ at → TakesFront slots body at f g → TakesBody slots body f g
front_all slots body at f g over front =
    record {
      rs = front.rs;
      spelled = front.spelled;
      fit = front.fit;
      are = front.are;
      split = front.split ∙ ap (λ (l : List ℕ). body_of front.rs ++ l) (drop_all at body over) ∙ append-nil (body_of front.rs);
    }

pub front_stops : (slots : ℕ) (body : List ℕ) (at : ℕ) (f g : Fitting) → at < length body → TakesFront slots body at f g → HasNoNext slots g.pages g.unended (drop at body) → StopsInBody slots body at f
front_stops slots body at f g within front none =
    record {
      rs = front.rs;
      spelled = front.spelled;
      fit = front.fit;
      so_far = front.so_far;
      left = drop at body;
      some = omega (arith, within, length-drop at body);
      none = subst (λ (x : Fitting). HasNoNext slots x.pages x.unended (drop at body)) front.are none;
      split = front.split;
    }

-- ---- batches

all_push : {slots : ℕ} (batches : List (List (Record slots))) (rs : List (Record slots)) → all_of (batches ++ rs ∷ []) ≡ all_of batches ++ rs
all_push {slots} batches rs =
    flat_map-append (λ (b : List (Record slots)). b) batches (rs ∷ []) ∙ ap (λ (l : List (Record slots)). all_of batches ++ l) (append-nil rs)

bodies_more : {slots : ℕ} (batches : List (List (Record slots))) (rs : List (Record slots)) → bodies_of (batches ++ rs ∷ []) ≡ bodies_of batches ++ body_of rs ∷ []
bodies_more batches rs = map-append body_of batches (rs ∷ [])

bytes_more : {slots : ℕ} (pages : ℕ) (batches : List (List (Record slots))) (rs : List (Record slots)) → log_bytes pages (batches ++ rs ∷ []) ≡ log_bytes pages batches ++ batch_bytes (body_of rs)
bytes_more {slots} pages batches rs =
    ap (λ (l : List (List ℕ)). batches_bytes (body_of (first_records slots pages) ∷ l)) (bodies_more batches rs)
    ∙ bytes-push (body_of (first_records slots pages) ∷ bodies_of batches) (body_of rs)

-- after the first batch
pub read_first : (slots pages : ℕ) (body area : List ℕ) → IsFirstBody slots pages body → IsBatchAt 0 body area → HasRead slots pages area (5 + length body) (fitting_from pages)
read_first slots pages body area first batch =
    let bytes : batch_bytes body ≡ log_bytes {slots = slots} pages [] = ap batch_bytes first.are ∙ sym (append-nil (batch_bytes (body_of (first_records slots pages)))) in
    record {
      batches = [];
      read = record { some = first.rules.1; few = first.rules.2; bodies = tt; spelled = tt; fit = tt };
      place = omega (arith, ap length (sym bytes), length-sized body);
      are = behind_batch 0 body area batch ∙ ap (λ (l : List ℕ). l ++ drop (5 + length body) area) bytes;
      fitting_is = refl;
    }

-- one batch more
pub read_more : (slots pages : ℕ) (area body : List ℕ) (at : ℕ) (f g : Fitting) → HasRead slots pages area at f → IsBatchAt at body area → TakesBody slots body f g
    → HasRead slots pages area (at + 5 + length body) g
read_more slots pages area body at f g has batch took =
    let rs = took.rs in
    let us = unended_behind has.batches in
    let records = all_push has.batches rs in
    let bodies = bodies_more has.batches rs in
    let fit : AllFitLog pages us rs = subst (λ (x : Fitting). AllFitLog x.pages x.unended rs) has.fitting_is took.fit in
    let bytes : log_bytes pages (has.batches ++ rs ∷ []) ≡ log_bytes pages has.batches ++ batch_bytes body = bytes_more pages has.batches rs ∙ ap (λ (l : List ℕ). log_bytes pages has.batches ++ batch_bytes l) (sym took.split) in
    let place : at + 5 + length body ≡ length (log_bytes pages (has.batches ++ rs ∷ [])) =
    omega (arith, has.place, ap length bytes, length-append (log_bytes pages has.batches) (batch_bytes body), length-sized body) in
    let split : area ≡ log_bytes pages (has.batches ++ rs ∷ []) ++ drop (5 + length body) (drop at area) =
    has.are ∙ ap (λ (l : List ℕ). log_bytes pages has.batches ++ l) (behind_batch at body area batch)
    ∙ sym (append_assoc (log_bytes pages has.batches) (batch_bytes body) (drop (5 + length body) (drop at area)))
    ∙ ap (λ (l : List ℕ). l ++ drop (5 + length body) (drop at area)) (sym bytes) in
    let behind : drop (at + 5 + length body) area ≡ drop (5 + length body) (drop at area) =
    ap (λ (l : List ℕ). drop (at + 5 + length body) l) split ∙ drop_at (log_bytes pages (has.batches ++ rs ∷ [])) (drop (5 + length body) (drop at area)) (at + 5 + length body) (sym place) in
    record {
      batches = has.batches ++ rs ∷ [];
      read = record {
        some = has.read.some;
        few = has.read.few;
        bodies = subst AreBodies (sym bodies) (bodies-push (bodies_of has.batches) (body_of rs) has.read.bodies (subst IsBody took.split batch.whole));
        spelled = subst HaveSpellings (sym records) (spelled_both (all_of has.batches) rs has.read.spelled took.spelled);
        fit = subst (λ (l : List (Record slots)). AllFitLog pages [] l) (sym records) (fit_both pages [] (all_of has.batches) rs has.read.fit fit);
      };
      place = place;
      are = split ∙ ap (λ (l : List ℕ). log_bytes pages (has.batches ++ rs ∷ []) ++ l) (sym behind);
      fitting_is = took.are ∙ ap (λ (x : Fitting). record { pages = x.pages; unended = unended_by_all x.unended rs }) has.fitting_is
          ∙ ap (λ (l : List (ℕ × Unended)). record { pages = pages; unended = l }) (sym (unended_append [] (all_of has.batches) rs) ∙ ap (λ (l : List (Record slots)). unended_by_all [] l) (sym records));
    }

-- the log's end
pub read_end : (slots pages : ℕ) (area : List ℕ) (at : ℕ) (f : Fitting) → HasRead slots pages area at f → IsClosedAt at area → length area ≤ most_bytes
    → (batches : List (List (Record slots))) × IsRecordLog pages batches area
read_end slots pages area at f has closed short = (
  has.batches,
  record {
    batches_are = has.read;
    log = record {
      bodies = (record { some = omega arith; fits = omega arith }, has.read.bodies);
      commit_byte = slice_index area at;
      closed = closed.closed;
      rest = drop (at + 1) area;
      are = has.are ∙ ap (λ (l : List ℕ). log_bytes pages has.batches ++ l) (drop_more area at 0 closed.inside);
      short = short;
    };
  },
)

-- no batch stands there
pub read_cut : (slots pages : ℕ) (area : List ℕ) (at place : ℕ) (f : Fitting) → HasRead slots pages area at f → IsDamaged at place area → StopsLog slots pages area place
read_cut slots pages area at place f has damaged =
    no_batch has.batches (drop at area) has.read has.are (subst (λ n. IsDamaged n place area) has.place damaged)

-- in the batch there stands a record that doesn't fit
pub read_stop : (slots pages : ℕ) (area body : List ℕ) (at place offset : ℕ) (f : Fitting) → HasRead slots pages area at f → IsBatchAt at body area → length area ≤ most_bytes
    → StopsInBody slots body offset f → place ≡ at + 5 + offset → StopsLog slots pages area place
read_stop slots pages area body at place offset f has batch short stops is =
    let us = unended_behind has.batches in
    no_record has.batches stops.rs
    (record {
      read = has.read;
      spelled = stops.spelled;
      fit = subst (λ (x : Fitting). AllFitLog x.pages x.unended stops.rs) has.fitting_is stops.fit;
      left = stops.left;
      some = stops.some;
      none = subst (λ (x : Fitting). HasNoNext slots x.pages (unended_by_all x.unended stops.rs) stops.left) has.fitting_is stops.none;
      whole = subst IsBody stops.split batch.whole;
      rest = drop (5 + length body) (drop at area);
      are = has.are ∙ ap (λ (l : List ℕ). log_bytes pages has.batches ++ l) (behind_batch at body area batch)
          ∙ ap (λ (l : List ℕ). log_bytes pages has.batches ++ (batch_bytes l ++ drop (5 + length body) (drop at area))) stops.split;
      short = short;
    })
    (omega (arith, is, has.place, stops.so_far))

-- ---- the whole

pub begins_body : (body area : List ℕ) → IsBatchAt 0 body area → length area ≤ most_bytes → BeginsWithBody body area
begins_body body area batch short = record { whole = batch.whole; rest = drop (5 + length body) area; are = behind_batch 0 body area batch; short = short }

one_body : (a b area : List ℕ) → BeginsWithBody a area → BeginsWithBody b area → a ≡ b
one_body a b area begins also = (first_same a b begins.rest also.rest begins.whole also.whole (sym begins.are ∙ also.are)).0

turn_first : (slots pages : ℕ) (left : List ℕ) → HasSpelling {slots = slots} (Turn (known_version slots) pages)
    → BeginsWith {slots = slots} (body_of (first_records slots pages) ++ left) (Turn (known_version slots) pages) 4
turn_first slots pages left rules =
    record { rules = rules; typed = omega (arith, rules.2); rest = left; are = refl; takes = refl }

-- where the first body begins with the `Turn`, the first record is no other one
pub is_first : (slots pages : ℕ) (body left area : List ℕ) → HasSpelling {slots = slots} (Turn (known_version slots) pages) → body ≡ body_of (first_records slots pages) ++ left → BeginsWithBody body area
    → HasOtherFirst slots pages area → ⊥
is_first slots pages body left area rules are begins has =
    has.other 4 (subst (λ (l : List ℕ). BeginsWith {slots = slots} l (Turn (known_version slots) pages) 4) (sym are ∙ one_body body has.body area begins has.begins) (turn_first slots pages left rules))

-- no batch stands in front, so no record does
pub none_first : (slots pages : ℕ) (area : List ℕ) (place : ℕ) → IsDamaged 0 place area → HasOtherFirst slots pages area → ⊥
none_first slots pages area place (too_long long is) has = absurd (omega (arith, long, has.begins.short))
none_first slots pages area place (no_commit_byte short ends is) has = absurd (omega (arith, ends, ap length has.begins.are))
none_first slots pages area place (no_batches short closed zero_is is) has = closed.closed (ap first_byte has.begins.are)
none_first slots pages area place (no_batch_at short cut is) has = cut.none has.body (batch_there [] has.body has.begins.rest area has.begins.are has.begins.whole)

pub damaged_at_first : (slots pages : ℕ) (area : List ℕ) (place : ℕ) → IsDamaged 0 place area → IsDamagedFor slots pages area place
damaged_at_first slots pages area place damaged = inr (none_first slots pages area place damaged, no_first damaged)

pub damaged_in_first : (slots pages : ℕ) (body area : List ℕ) (place : ℕ) → BeginsWithBody body area → IsDamagedFirst slots pages body place → IsDamagedFor slots pages area place
damaged_in_first slots pages body area place begins (other none is) = inl (record { body = body; begins = begins; other = none }, is)
damaged_in_first slots pages body area place begins (more left rules some are is) =
    inr (is_first slots pages body left area rules are begins, not_alone pages left rules some (subst (λ (l : List ℕ). BeginsWithBody l area) are begins) is)

pub damaged_behind : (slots pages : ℕ) (body area : List ℕ) (place : ℕ) → IsFirstBody slots pages body → BeginsWithBody body area → StopsLog slots pages area place → IsDamagedFor slots pages area place
damaged_behind slots pages body area place first begins (no_batch batches rest read are damaged) =
    inr (is_first slots pages body [] area first.rules (first.are ∙ sym (append-nil (body_of (first_records slots pages)))) begins, no_batch_in_log pages batches rest read are damaged)
damaged_behind slots pages body area place first begins (no_record batches rs stops is) =
    inr (is_first slots pages body [] area first.rules (first.are ∙ sym (append-nil (body_of (first_records slots pages)))) begins, no_record_in_log pages batches rs stops is)
