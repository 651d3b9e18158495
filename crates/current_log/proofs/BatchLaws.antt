-- Batches that are tested one after another.
use Rattle.std.proofs.Common.{◌≡◌, ℕ, ◌+◌, ◌≤◌, List, [], ◌∷◌, ◌++◌, length, take, drop, Option, Some, None, refl, sym, ap, subst, ◌∙◌, arith, append_assoc, length-append, take-append-drop}
use Rattle.std.specs.Prelude.{IfSome, slice_index}
use Rattle.std.proofs.lemmas.List.{append-nil, drop_at, drop_more, map-append}
use Rattle.std.proofs.lemmas.Grind.{flat_map-append}
use Rattle.log_record.specs.declared.record.Record.{Record}
use Rattle.gate_log.specs.Batches.{batch_bytes, batches_bytes, Begins, IsBody, most_bytes}
use Rattle.gate_log.specs.CommitBytes.{IsBatchAt, IsClosedAt, IsDamaged}
use Rattle.gate_log.proofs.Logs.{bodies-push, bytes-push, length-sized, commit_byte-inside}
use Rattle.restart_laws.specs.Unended.{Unended}
use Rattle.log_replay.specs.Replays.{Replaying}
use Rattle.opened_images.specs.LogRecords.{body_of, bodies_of, all_of, first_records, unended_behind, unended_by_all, HaveSpellings, AllFitLog, IsDamagedLog, BeginsWithBody, no_batch, no_record}
use Rattle.opened_images.proofs.LogWays.{unended_append}
use Rattle.opened_images.proofs.GoesOnLog.{fit_both}
use Rattle.current_log.specs.Tested.{IsTesting, FitsBody, StopsBody, HasTested, IsTestedLog}
use Rattle.current_log.proofs.TestLaws.{spelled_both}

-- what stands after batches
behind : (batches : List (List ℕ)) (area : List ℕ) (begins : Begins batches area) → drop (length (batches_bytes batches)) area ≡ begins.rest
behind batches area begins =
    let n = length (batches_bytes batches) in
    ap (λ (l : List ℕ). drop n l) begins.are ∙ drop_at (batches_bytes batches) begins.rest n refl

-- one batch more
begins_more : (batches : List (List ℕ)) (body area : List ℕ) → Begins batches area → IsBatchAt (length (batches_bytes batches)) body area → Begins (batches ++ body ∷ []) area
begins_more batches body area begins batch =
    let n = 5 + length body in
    let next : take n begins.rest ≡ batch_bytes body = ap (λ (l : List ℕ). take n l) (sym (behind batches area begins)) ∙ batch.there in
    record {
      bodies = bodies-push batches body begins.bodies batch.whole;
      rest = drop n begins.rest;
      are = begins.are
          ∙ ap (λ (l : List ℕ). batches_bytes batches ++ l) (sym (take-append-drop n begins.rest) ∙ ap (λ (l : List ℕ). l ++ drop n begins.rest) next)
          ∙ sym (append_assoc (batches_bytes batches) (batch_bytes body) (drop n begins.rest))
          ∙ ap (λ (l : List ℕ). l ++ drop n begins.rest) (sym (bytes-push batches body));
    }

-- a batch that stands in front
pub first_body : (body area : List ℕ) → IsBatchAt 0 body area → length area ≤ most_bytes → BeginsWithBody body area
first_body body area batch short =
    record {
      whole = batch.whole;
      rest = drop (5 + length body) area;
      are = sym (take-append-drop (5 + length body) area) ∙ ap (λ (l : List ℕ). l ++ drop (5 + length body) area) batch.there;
      short = short;
    }

-- the first batch is tested
pub tested_first : (slots pages : ℕ) (v : Replaying) (area : List ℕ) → 1 ≤ pages → pages ≤ 1024 → IsTesting pages [] v → BeginsWithBody (body_of (first_records slots pages)) area → HasTested slots pages 9 v area
tested_first slots pages v area some few is begins =
    record {
      batches = [];
      are = record { some = some; few = few; bodies = tt; spelled = tt; fit = tt };
      begins = record {
        bodies = (begins.whole, tt);
        rest = begins.rest;
        are = begins.are ∙ ap (λ (l : List ℕ). l ++ begins.rest) (sym (append-nil (batch_bytes (body_of (first_records slots pages)))));
      };
      so_far = refl;
      testing = is;
    }

-- one batch more
pub tested_more : (slots pages at : ℕ) (v w : Replaying) (body area : List ℕ) → (tested : HasTested slots pages at v area) → IsBatchAt at body area
    → FitsBody slots pages (unended_behind tested.batches) body w → HasTested slots pages (at + 5 + length body) w area
tested_more slots pages at v w body area tested batch fits =
    let rs = fits.rs in
    let batches = tested.batches in
    let all : List (List ℕ) = body_of (first_records slots pages) ∷ bodies_of batches in
    let records : all_of (batches ++ rs ∷ []) ≡ all_of batches ++ rs =
    flat_map-append (λ (b : List (Record slots)). b) batches (rs ∷ []) ∙ ap (λ (l : List (Record slots)). all_of batches ++ l) (append-nil rs) in
    let bodies : all ++ body ∷ [] ≡ body_of (first_records slots pages) ∷ bodies_of (batches ++ rs ∷ []) =
    ap (λ (l : List (List ℕ)). body_of (first_records slots pages) ∷ l) (ap (λ (b : List ℕ). bodies_of batches ++ b ∷ []) fits.split ∙ sym (map-append body_of batches (rs ∷ []))) in
    let begins : Begins (body_of (first_records slots pages) ∷ bodies_of (batches ++ rs ∷ [])) area =
    subst (λ (l : List (List ℕ)). Begins l area) bodies (begins_more all body area tested.begins (subst (λ (n : ℕ). IsBatchAt n body area) tested.so_far batch)) in
    record {
      batches = batches ++ rs ∷ [];
      are = record {
        some = tested.are.some;
        few = tested.are.few;
        bodies = begins.bodies.1;
        spelled = subst (λ (l : List (Record slots)). HaveSpellings l) (sym records) (spelled_both (all_of batches) rs tested.are.spelled fits.spelled);
        fit = subst (λ (l : List (Record slots)). AllFitLog pages [] l) (sym records) (fit_both pages [] (all_of batches) rs tested.are.fit fits.fit);
      };
      begins = begins;
      so_far = omega (
        arith,
        tested.so_far,
        ap (λ (l : List (List ℕ)). length (batches_bytes l)) bodies,
        ap length (bytes-push all body),
        length-append (batches_bytes all) (batch_bytes body),
        length-sized body,
      );
      testing = subst (λ (l : List (ℕ × Unended)). IsTesting pages l w)
          (sym (ap (λ (l : List (Record slots)). unended_by_all [] l) records ∙ unended_append [] (all_of batches) rs)) fits.testing;
    }

-- a closed commit byte ends the log
pub tested_end : (slots pages at : ℕ) (v : Replaying) (area : List ℕ) → HasTested slots pages at v area → IsClosedAt at area → length area ≤ most_bytes → IsTestedLog slots pages (at + 1) area
tested_end slots pages at v area tested closed short =
    let all : List (List ℕ) = body_of (first_records slots pages) ∷ bodies_of tested.batches in
    let here : IsClosedAt (length (batches_bytes all)) area = subst (λ (n : ℕ). IsClosedAt n area) tested.so_far closed in
    record {
      batches = tested.batches;
      log = record {
        batches_are = tested.are;
        log = record {
          bodies = tested.begins.bodies;
          commit_byte = slice_index area (length (batches_bytes all));
          closed = here.closed;
          rest = drop (length (batches_bytes all) + 1) area;
          are = tested.begins.are
              ∙ ap (λ (l : List ℕ). batches_bytes all ++ l) (sym (behind all area tested.begins) ∙ drop_more area (length (batches_bytes all)) 0 here.inside);
          short = short;
        };
      };
      all = omega (arith, tested.so_far);
    }

-- no batch stands after them
pub tested_cut : (slots pages at place : ℕ) (v : Replaying) (area : List ℕ) → HasTested slots pages at v area → IsDamaged at place area → IsDamagedLog slots area place
tested_cut slots pages at place v area tested damaged =
    no_batch pages tested.batches tested.begins.rest tested.are tested.begins.are (subst (λ (n : ℕ). IsDamaged n place area) tested.so_far damaged)

-- in the batch after them a record doesn't fit
pub tested_stop : (slots pages at offset place : ℕ) (v : Replaying) (body area : List ℕ) → (tested : HasTested slots pages at v area) → IsBatchAt at body area → length area ≤ most_bytes
    → StopsBody slots pages (unended_behind tested.batches) body offset → place ≡ at + 5 + offset → IsDamagedLog slots area place
tested_stop slots pages at offset place v body area tested batch short stops is =
    let all : List (List ℕ) = body_of (first_records slots pages) ∷ bodies_of tested.batches in
    let begins : Begins (all ++ body ∷ []) area = begins_more all body area tested.begins (subst (λ (n : ℕ). IsBatchAt n body area) tested.so_far batch) in
    no_record pages tested.batches stops.rs
    (record {
      read = tested.are;
      spelled = stops.spelled;
      fit = stops.fit;
      left = stops.left;
      some = stops.some;
      none = stops.none;
      whole = subst (λ (l : List ℕ). IsBody l) stops.split batch.whole;
      rest = begins.rest;
      are = begins.are ∙ ap (λ (l : List ℕ). l ++ begins.rest) (bytes-push all body) ∙ append_assoc (batches_bytes all) (batch_bytes body) begins.rest
          ∙ ap (λ (l : List ℕ). batches_bytes all ++ (batch_bytes l ++ begins.rest)) stops.split;
      short = short;
    })
    (omega (arith, is, tested.so_far, stops.so_far))

-- the log's bytes stand in the area
pub tested_within : (slots pages len : ℕ) (area : List ℕ) → IsTestedLog slots pages len area → len ≤ length area
tested_within slots pages len area tested =
    omega (arith, tested.all, commit_byte-inside most_bytes (body_of (first_records slots pages) ∷ bodies_of tested.batches) area tested.log.log)

-- a batch stands there, and the area is short enough
pub record IsShortBatch (at : ℕ) (body area : List ℕ) : Type 0 where
  pub batch : IsBatchAt at body area
  pub short : length area ≤ most_bytes

pub short_batch : (o : Option (List ℕ)) (at : ℕ) (body : List ℕ) → IfSome o (IsBatchAt at body) → IfSome o (λ area. length area ≤ most_bytes) → IfSome o (IsShortBatch at body)
short_batch None at body batch short = tt
short_batch (Some area) at body batch short = record { batch = batch; short = short }

pub told_first : (o : Option (List ℕ)) (body : List ℕ) → IfSome o (IsBatchAt 0 body) → IfSome o (λ area. length area ≤ most_bytes) → IfSome o (BeginsWithBody body)
told_first None body batch short = tt
told_first (Some area) body batch short = first_body body area batch short
