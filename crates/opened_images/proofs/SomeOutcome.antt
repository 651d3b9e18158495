-- No image is without an outcome.
use Rattle.std.proofs.Common.{◌≡◌, ℕ, zero, suc, ◌+◌, ◌<◌, ◌≤◌, ◌⊎◌, inl, inr, List, [], ◌∷◌, ◌++◌, length, take, drop, reverse, Option, Some, None, refl, sym, ap, subst, ◌∙◌, append_assoc, length-append, arith}
use Rattle.std.proofs.lemmas.Bool.{cases_lt}
use Rattle.std.proofs.lemmas.List.{append-nil, take-append-drop, drop_at}
use Rattle.cell_model.specs.Cells.{Cell}
use Rattle.cell_model.specs.Records.{after_record}
use Rattle.disk_model.specs.declared.area.Area.{Area}
use Rattle.disk_model.specs.Areas.{Bytes, in_area}
use Rattle.gate_log.specs.Batches.{batch_bytes, batches_bytes, IsBody, AreBodies, most_bytes}
use Rattle.gate_log.specs.CommitBytes.{too_long, no_commit_byte, no_batches, no_batch as no_batch_behind}
use Rattle.gate_log.specs.OnDisk.{named_by}
use Rattle.gate_log.proofs.Logs.{bodies-push, bytes-push}
use Rattle.log_record.specs.declared.record.Record.{Record}
use Rattle.log_record.specs.declared.record.Record.TheVariants.{Turn}
use Rattle.log_record.specs.Spelling.{record_bytes, known_version, HasSpelling, IsTypedRecord, BeginsWith}
use Rattle.log_record.proofs.ReadLaws.{some_bytes}
use Rattle.restart_laws.specs.Unended.{Change, Unended}
use Rattle.restart_laws.specs.Restored.{undo_of, undo_records, after_records, restored, CanAllBeUndone, CanRestart}
use Rattle.restart_laws.specs.Rules.{BreaksRule, IsFirstBroken}
use Rattle.opened_images.specs.LogRecords.{body_of, bodies_of, HaveSpellings, AllFitLog, unended_by, unended_by_all, unended_behind, all_of, first_records, AreBatches, log_bytes, BeginsWithBody, IsOfVersion, IsRecordLog, IsDamagedLog, no_first, no_turn, not_alone, no_batch, no_record}
use Rattle.opened_images.specs.Replayed.{cells_of_log, IsDamagedPage, FitsCellsOf, AllFitCells}
use Rattle.opened_images.specs.Opened.{Outcome, NoStore, UnknownVersion, DamagedLog, DamagedPage, Unsound, OpensTo, KeepsRules, IsStuckAt, RestartsStuckAt, IsLogRead, ArePagesRead, AreCellsRead, Opened, no_store, damaged_log, unknown_version, damaged_page, unfit, unsound, stuck, opens}
use Rattle.opened_images.proofs.Bodies.{cons_same}
use Rattle.opened_images.proofs.LogWays.{front_byte}
use Rattle.opened_images.proofs.OneOutcome.{heads, tails, fits_same}

-- ---- the least number that has a property

none_below : (P : ℕ → Type 0) → ((k : ℕ) → P k → ((j : ℕ) → j < k → P j → ⊥) → ⊥) → (n k : ℕ) → k < n → P k → ⊥
none_below P none zero k low has = absurd (omega (arith, low))
none_below P none (suc n) k low has = none k has (λ j lower too. none_below P none n j (omega (arith, low, lower)) too)

-- where no number is the least that has it, none has it
pub no_least : (P : ℕ → Type 0) → ((k : ℕ) → P k → ((j : ℕ) → j < k → P j → ⊥) → ⊥) → (n : ℕ) → P n → ⊥
no_least P none n has = none n has (none_below P none n)

-- ---- the undo

changes_go : (slots : ℕ) (cells : List Cell) (pass : ℕ) (cs : List Change) → ((id : ℕ) → IsStuckAt slots cells pass cs id → ⊥) → (CanAllBeUndone slots cells pass cs → ⊥) → ⊥
changes_go slots cells pass [] halts can = can tt
changes_go slots cells pass (c ∷ cs) halts can =
    halts c.id (inl ((λ yes. changes_go slots (after_record slots cells (undo_of cells pass c)) pass cs (λ id s. halts id (inr (yes, s))) (λ all. can (yes, all))), refl))

restart_goes_on : (slots : ℕ) (cells : List Cell) (us : List (ℕ × Unended)) → ((id : ℕ) → RestartsStuckAt slots cells us id → ⊥) → (CanRestart slots cells us → ⊥) → ⊥
restart_goes_on slots cells [] halts can = can tt
restart_goes_on slots cells (e ∷ es) halts can =
    changes_go slots cells e.0 (reverse e.1.changes) (λ id s. halts id (inl s)) (
    λ all. restart_goes_on slots (after_records slots cells (undo_records slots cells e.0 (reverse e.1.changes))) es (λ id s. halts id (inr (all, s))) (λ rest. can (all, rest))
    )

-- ---- the rules

rules_kept : (cells : List Cell) → ((rule id : ℕ) → IsFirstBroken cells rule id → ⊥) → KeepsRules cells
rules_kept cells none rule id breaks =
    no_least (λ (r : ℕ). (x : ℕ) × BreaksRule cells r x) (
    λ r has lower. no_least (λ (x : ℕ). BreaksRule cells r x) (λ x is least. none r x (record { breaks = is; lower_kept = λ s y low too. lower s low (y, too); least = least })) has.0 has.1
    ) rule (id, breaks)

-- ---- records that fit the cells

records_go : {slots : ℕ} (pages : ℕ) (area : List ℕ) (done rs : List (Record slots))
    → ((before : List (Record slots)) (r : Record slots) (after : List (Record slots)) → rs ≡ before ++ r ∷ after → AllFitCells pages area done before (r ∷ after)
    → (FitsCellsOf pages area (done ++ before) r after → ⊥) → ⊥)
    → (AllFitCells pages area done rs [] → ⊥) → ⊥
records_go pages area done [] none all = all tt
records_go {slots} pages area done (q ∷ rs) none all =
    none [] q rs refl tt (
    λ fits.
    let yes : FitsCellsOf pages area done q (rs ++ []) = fits_same pages area (done ++ []) done q q rs (rs ++ []) (append-nil done) refl (sym (append-nil rs)) fits in
    records_go pages area (done ++ q ∷ []) rs (
    λ before r after e f denied. none (q ∷ before) r after (ap (λ (l : List (Record slots)). q ∷ l) e) (fits_same pages area done done q q (rs ++ []) (before ++ r ∷ after) refl refl (append-nil rs ∙ e) yes, f)
    (λ those. denied (fits_same pages area (done ++ q ∷ before) ((done ++ q ∷ []) ++ before) r r after after (sym (append_assoc done (q ∷ []) before)) refl refl those))
    ) (λ f. all (yes, f))
    )

-- a record of some batches stands in one of them
record Nested {slots : ℕ} (batches : List (List (Record slots))) (prior : List (Record slots)) (r : Record slots) (later : List (Record slots)) : Type 0 where
  front : List (List (Record slots))
  before : List (Record slots)
  after : List (Record slots)
  back : List (List (Record slots))
  split : batches ≡ front ++ (before ++ r ∷ after) ∷ back
  earlier : prior ≡ all_of front ++ before
  rest : later ≡ after ++ all_of back

record InFirst {slots : ℕ} (b rest prior : List (Record slots)) (r : Record slots) (later : List (Record slots)) : Type 0 where
  after : List (Record slots)
  split : b ≡ prior ++ r ∷ after
  behind : later ≡ after ++ rest

record InLater {slots : ℕ} (b rest prior : List (Record slots)) (r : Record slots) (later : List (Record slots)) : Type 0 where
  over : List (Record slots)
  split : prior ≡ b ++ over
  behind : rest ≡ over ++ r ∷ later

which_batch : {slots : ℕ} (b rest prior : List (Record slots)) (r : Record slots) (later : List (Record slots)) → b ++ rest ≡ prior ++ r ∷ later → InFirst b rest prior r later ⊎ InLater b rest prior r later
which_batch [] rest prior r later e = inr (record { over = prior; split = refl; behind = e })
which_batch (x ∷ b) rest [] r later e = inl (record { after = b; split = cons_same x r b b (heads x r (b ++ rest) later e) refl; behind = sym (tails x r (b ++ rest) later e) })
which_batch {slots} (x ∷ b) rest (p ∷ prior) r later e = on (which_batch b rest prior r later (tails x p (b ++ rest) (prior ++ r ∷ later) e))
  where
    same : x ≡ p
    same = heads x p (b ++ rest) (prior ++ r ∷ later) e

    on : InFirst b rest prior r later ⊎ InLater b rest prior r later → InFirst (x ∷ b) rest (p ∷ prior) r later ⊎ InLater (x ∷ b) rest (p ∷ prior) r later
    on (inl f) = inl (record { after = f.after; split = cons_same x p b (prior ++ r ∷ f.after) same f.split; behind = f.behind })
    on (inr l) = inr (record { over = l.over; split = cons_same p x prior (b ++ l.over) (sym same) l.split; behind = l.behind })

none_split : {X : Type 0} (prior : List X) (r : X) (later : List X) → [] ≡ prior ++ r ∷ later → ⊥
none_split prior r later e = absurd (omega (arith, ap length e, length-append prior (r ∷ later)))

nested_on : {slots : ℕ} (b : List (Record slots)) (bs : List (List (Record slots))) (prior : List (Record slots)) (r : Record slots) (later : List (Record slots))
    → ((over : List (Record slots)) → all_of bs ≡ over ++ r ∷ later → Nested bs over r later)
    → InFirst b (all_of bs) prior r later ⊎ InLater b (all_of bs) prior r later → Nested (b ∷ bs) prior r later
nested_on b bs prior r later on (inl f) =
    record { front = []; before = prior; after = f.after; back = bs; split = cons_same b (prior ++ r ∷ f.after) bs bs f.split refl; earlier = refl; rest = f.behind }
nested_on {slots} b bs prior r later on (inr l) =
    let n = on l.over l.behind in
    record {
      front = b ∷ n.front;
      before = n.before;
      after = n.after;
      back = n.back;
      split = cons_same b b bs (n.front ++ (n.before ++ r ∷ n.after) ∷ n.back) refl n.split;
      earlier = l.split ∙ ap (λ (x : List (Record slots)). b ++ x) n.earlier ∙ sym (append_assoc b (all_of n.front) n.before);
      rest = n.rest;
    }

nested : {slots : ℕ} (batches : List (List (Record slots))) (prior : List (Record slots)) (r : Record slots) (later : List (Record slots)) → all_of batches ≡ prior ++ r ∷ later → Nested batches prior r later
nested [] prior r later e = absurd (none_split prior r later e)
nested (b ∷ bs) prior r later e = nested_on b bs prior r later (λ over f. nested bs over r later f) (which_batch b (all_of bs) prior r later e)

-- ---- after a log

-- the image opens to nothing
abbrev OpensNowhere : ℕ → Bytes → Type 0
OpensNowhere slots image = (o : Outcome) → Opened slots image o → ⊥

cells_go : {slots : ℕ} (image : Bytes) (area : Area) (pages : ℕ) (batches : List (List (Record slots))) (cells : List Cell) → OpensNowhere slots image → AreCellsRead image area pages batches cells → ⊥
cells_go {slots} image area pages batches cells none read =
    let kept = rules_kept cells (λ rule id broken. none (Unsound id rule) (unsound area pages batches cells rule id read broken)) in
    restart_goes_on slots cells (unended_behind batches) (λ id is. none (Unsound id 5) (stuck area pages batches cells id read kept is)) (
    λ can. none (OpensTo (restored slots cells (unended_behind batches))) (opens area pages batches cells read kept can)
    )

unfit_nested : {slots : ℕ} (image : Bytes) (area : Area) (pages : ℕ) (batches : List (List (Record slots))) (before : List (Record slots)) (r : Record slots) (after : List (Record slots)) → OpensNowhere slots image
    → ArePagesRead image area pages batches → Nested batches before r after → AllFitCells pages image.pages [] before (r ∷ after) → (FitsCellsOf pages image.pages before r after → ⊥) → ⊥
unfit_nested {slots} image area pages batches before r after none read n fit denied =
    none _ (
    unfit area pages n.front n.before r n.after n.back (subst (λ (bs : List (List (Record slots))). ArePagesRead image area pages bs) n.split read)
    (subst (λ (l : List (Record slots)). AllFitCells pages image.pages [] (all_of n.front ++ n.before) (r ∷ l)) n.rest (subst (λ (l : List (Record slots)). AllFitCells pages image.pages [] l (r ∷ after)) n.earlier fit))
    (λ fits. denied (fits_same pages image.pages (all_of n.front ++ n.before) before r r (n.after ++ all_of n.back) after (sym n.earlier) refl (sym n.rest) fits))
    )

pages_go : {slots : ℕ} (image : Bytes) (area : Area) (pages : ℕ) (batches : List (List (Record slots))) → OpensNowhere slots image → ArePagesRead image area pages batches → ⊥
pages_go {slots} image area pages batches none read =
    records_go pages image.pages [] (all_of batches) (λ before r after e fit denied. unfit_nested image area pages batches before r after none read (nested batches before r after e) fit denied) (
    λ fit. cells_go image area pages batches (cells_of_log slots pages image.pages (all_of batches)) none (record { pages_read = read; fit = fit; are = refl })
    )

log_goes : {slots : ℕ} (image : Bytes) (area : Area) (pages : ℕ) (batches : List (List (Record slots))) → OpensNowhere slots image → IsLogRead image area pages batches → ⊥
log_goes {slots} image area pages batches none read = pages_go image area pages batches none (record { read = read; whole = whole })
  where
    whole : (page at : ℕ) → page < pages → IsDamagedPage image.pages (all_of batches) page at → ⊥
    whole page at low d =
        no_least (λ (p : ℕ). (p < pages) × ((place : ℕ) × IsDamagedPage image.pages (all_of batches) p place)) (
        λ p has lower. none (DamagedPage p has.1.0) (damaged_page area pages batches p has.1.0 read has.0 has.1.1 (λ k place low_too too. lower k low_too (omega (arith, low_too, has.0), (place, too))))
        ) page (low, (at, d))

-- ---- the log

spelled_more : {slots : ℕ} (rs : List (Record slots)) (r : Record slots) → HaveSpellings rs → HasSpelling r → IsTypedRecord r → HaveSpellings (rs ++ r ∷ [])
spelled_more [] r a rules typed = (rules, typed, tt)
spelled_more (q ∷ rs) r a rules typed = (a.0, a.1, spelled_more rs r a.2 rules typed)

spelled_both : {slots : ℕ} (rs ss : List (Record slots)) → HaveSpellings rs → HaveSpellings ss → HaveSpellings (rs ++ ss)
spelled_both [] ss a b = b
spelled_both (r ∷ rs) ss a b = (a.0, a.1, spelled_both rs ss a.2 b)

fit_more : {slots : ℕ} (pages : ℕ) (us : List (ℕ × Unended)) (rs ss : List (Record slots)) → AllFitLog pages us rs → AllFitLog pages (unended_by_all us rs) ss → AllFitLog pages us (rs ++ ss)
fit_more pages us [] ss f g = g
fit_more pages us (r ∷ rs) ss f g = (f.0, fit_more pages (unended_by us r) rs ss f.1 g)

batch_whole : (slots pages : ℕ) → IsBody (body_of (first_records slots pages))
batch_whole slots pages = record { some = omega arith; fits = omega arith }

body_more : {slots : ℕ} (rs : List (Record slots)) (r : Record slots) → body_of (rs ++ r ∷ []) ≡ body_of rs ++ record_bytes r
body_more [] r = append-nil (record_bytes r)
body_more (q ∷ rs) r = ap (λ (l : List ℕ). record_bytes q ++ l) (body_more rs r) ∙ sym (append_assoc (record_bytes q) (body_of rs) (record_bytes r))

bodies_more : {slots : ℕ} (batches : List (List (Record slots))) (rs : List (Record slots)) → bodies_of (batches ++ rs ∷ []) ≡ bodies_of batches ++ body_of rs ∷ []
bodies_more [] rs = refl
bodies_more (b ∷ bs) rs = cons_same (body_of b) (body_of b) (bodies_of (bs ++ rs ∷ [])) (bodies_of bs ++ body_of rs ∷ []) refl (bodies_more bs rs)

all_more : {slots : ℕ} (batches : List (List (Record slots))) (rs : List (Record slots)) → all_of (batches ++ rs ∷ []) ≡ all_of batches ++ rs
all_more [] rs = append-nil rs
all_more {slots} (b ∷ bs) rs = ap (λ (l : List (Record slots)). b ++ l) (all_more bs rs) ∙ sym (append_assoc b (all_of bs) rs)

log_more : {slots : ℕ} (pages : ℕ) (batches : List (List (Record slots))) (rs : List (Record slots)) → log_bytes pages (batches ++ rs ∷ []) ≡ log_bytes pages batches ++ batch_bytes (body_of rs)
log_more {slots} pages batches rs =
    ap (λ (bs : List (List ℕ)). batches_bytes (body_of (first_records slots pages) ∷ bs)) (bodies_more batches rs) ∙ bytes-push (body_of (first_records slots pages) ∷ bodies_of batches) (body_of rs)

batches_more : {slots : ℕ} (pages : ℕ) (batches : List (List (Record slots))) (rs : List (Record slots)) → AreBatches pages batches → IsBody (body_of rs) → HaveSpellings rs → AllFitLog pages (unended_behind batches) rs
    → AreBatches pages (batches ++ rs ∷ [])
batches_more {slots} pages batches rs are whole spelled fit =
    record {
      some = are.some;
      few = are.few;
      bodies = subst AreBodies (sym (bodies_more batches rs)) (bodies-push (bodies_of batches) (body_of rs) are.bodies whole);
      spelled = subst (λ (l : List (Record slots)). HaveSpellings l) (sym (all_more batches rs)) (spelled_both (all_of batches) rs are.spelled spelled);
      fit = subst (λ (l : List (Record slots)). AllFitLog pages [] l) (sym (all_more batches rs)) (fit_more pages [] (all_of batches) rs are.fit fit);
    }

-- what stands after a batch
behind_batch : (body bytes : List ℕ) → take (5 + length body) bytes ≡ batch_bytes body → bytes ≡ batch_bytes body ++ drop (5 + length body) bytes
behind_batch body bytes e = sym (take-append-drop (5 + length body) bytes) ∙ ap (λ (l : List ℕ). l ++ drop (5 + length body) bytes) e

-- it is shorter
shorter : (body bytes more : List ℕ) (n : ℕ) → bytes ≡ batch_bytes body ++ more → length bytes < suc n → length more < n
shorter body bytes more n e low = omega (arith, low, ap length e, length-append (batch_bytes body) more)

record_some : {slots : ℕ} (bytes : List ℕ) (r : Record slots) (len n : ℕ) (b : BeginsWith bytes r len) → length bytes < suc n → length b.rest < n
record_some bytes r len n b low =
    let own : BeginsWith (record_bytes r) r len = record { rules = b.rules; typed = b.typed; rest = []; are = sym (append-nil (record_bytes r)); takes = b.takes } in
    omega (arith, low, ap length b.are, length-append (record_bytes r) b.rest, some_bytes (record_bytes r) r len own)

module _ {slots : ℕ} (area : List ℕ) (pages : ℕ) (whole_area : (place : ℕ) → IsDamagedLog slots area place → ⊥) (no_log : (batches : List (List (Record slots))) → IsRecordLog pages batches area → ⊥) (short : length area ≤ most_bytes) where
  -- the records of a body, of which fewer than so many bytes are left
  body_goes : (batches : List (List (Record slots))) → AreBatches pages batches → (body rest : List ℕ) → IsBody body → area ≡ log_bytes pages batches ++ (batch_bytes body ++ rest)
      → ((rs : List (Record slots)) → HaveSpellings rs → AllFitLog pages (unended_behind batches) rs → body ≡ body_of rs → ⊥)
      → (n : ℕ) (rs : List (Record slots)) (left : List ℕ) → length left < n → HaveSpellings rs → AllFitLog pages (unended_behind batches) rs → body ≡ body_of rs ++ left → ⊥
  body_goes batches are body rest is e done zero rs left low spelled fit split = absurd (omega (arith, low))
  body_goes batches are body rest is e done (suc n) rs [] low spelled fit split = done rs spelled fit (split ∙ append-nil (body_of rs))
  body_goes batches are body rest is e done (suc n) rs (x ∷ xs) low spelled fit split =
      whole_area _ (
      no_record pages batches rs (record {
        read = are;
        spelled = spelled;
        fit = fit;
        left = x ∷ xs;
        some = omega arith;
        none = λ r len b fits. body_goes batches are body rest is e done n (rs ++ r ∷ []) b.rest (record_some (x ∷ xs) r len n b low)
            (spelled_more rs r spelled b.rules b.typed) (fit_more pages (unended_behind batches) rs (r ∷ []) fit (fits, tt))
            (split ∙ ap (λ (l : List ℕ). body_of rs ++ l) b.are ∙ sym (append_assoc (body_of rs) (record_bytes r) b.rest) ∙ ap (λ (l : List ℕ). l ++ b.rest) (sym (body_more rs r)));
        whole = subst IsBody split is;
        rest = rest;
        are = e ∙ ap (λ (b : List ℕ). log_bytes pages batches ++ (batch_bytes b ++ rest)) split;
        short = short;
      }) refl
      )

  -- the batches, after which stand fewer than so many bytes
  batches_go : (n : ℕ) (batches : List (List (Record slots))) (rest : List ℕ) → length rest < n → AreBatches pages batches → area ≡ log_bytes pages batches ++ rest → ⊥
  batches_go zero batches rest low are e = absurd (omega (arith, low))
  batches_go (suc n) batches [] low are e =
      whole_area _ (no_batch pages batches [] are e (no_commit_byte short (omega (arith, ap length e, length-append (log_bytes pages batches) [])) refl))
  batches_go (suc n) batches (x ∷ xs) low are e =
      let at : ℕ = length (log_bytes pages batches) in
      let inside : at < length area = omega (arith, ap length e, length-append (log_bytes pages batches) (x ∷ xs)) in
      let dropped : drop at area ≡ x ∷ xs = ap (λ (l : List ℕ). drop at l) e ∙ drop_at (log_bytes pages batches) (x ∷ xs) at refl in
      no_log batches (record {
        batches_are = are;
        log = record {
          bodies = (batch_whole slots pages, are.bodies);
          commit_byte = x;
          closed = λ one. whole_area _ (
              no_batch pages batches (x ∷ xs) are e (
              no_batch_behind short (record {
                inside = inside;
                is_open = front_byte (log_bytes pages batches) (x ∷ xs) area e ∙ one;
                none = λ body b.
                    let more : List ℕ = drop (5 + length body) (x ∷ xs) in
                    let split : x ∷ xs ≡ batch_bytes body ++ more = behind_batch body (x ∷ xs) (ap (λ (l : List ℕ). take (5 + length body) l) (sym dropped) ∙ b.there) in
                    let whole : area ≡ log_bytes pages batches ++ (batch_bytes body ++ more) = e ∙ ap (λ (l : List ℕ). log_bytes pages batches ++ l) split in
                    body_goes batches are body more b.whole whole (
                    λ rs spelled fit same. batches_go n (batches ++ rs ∷ []) more (shorter body (x ∷ xs) more n split low) (batches_more pages batches rs are (subst IsBody same b.whole) spelled fit)
                    (whole ∙ ap (λ (l : List ℕ). log_bytes pages batches ++ (batch_bytes l ++ more)) same ∙ sym (append_assoc (log_bytes pages batches) (batch_bytes (body_of rs)) more)
                    ∙ ap (λ (l : List ℕ). l ++ more) (sym (log_more pages batches rs)))
                    ) (suc (length body)) [] body (omega arith) tt tt refl;
              }) refl
              )
              );
          rest = xs;
          are = e;
          short = short;
        };
      })

module _ {slots : ℕ} (area : List ℕ) (whole_area : (place : ℕ) → IsDamagedLog slots area place → ⊥) (no_version : (number : ℕ) → IsOfVersion slots number area → ⊥)
    (no_log : (pages : ℕ) (batches : List (List (Record slots))) → IsRecordLog pages batches area → ⊥) (short : length area ≤ most_bytes) where
  -- after the first batch's `Turn`
  turn_goes : (pages : ℕ) (body : List ℕ) → BeginsWithBody body area → HasSpelling {slots = slots} (Turn (known_version slots) pages) → (left : List ℕ) → body ≡ body_of (first_records slots pages) ++ left → ⊥
  turn_goes pages body first rules [] e =
      batches_go {slots = slots} area pages whole_area (no_log pages) short (suc (length first.rest)) [] first.rest (omega arith)
      (record { some = rules.1; few = rules.2; bodies = tt; spelled = tt; fit = tt })
      (first.are ∙ ap (λ (b : List ℕ). batch_bytes b ++ first.rest) (e ∙ append-nil (body_of (first_records slots pages))) ∙ ap (λ (l : List ℕ). l ++ first.rest) (sym (append-nil (batch_bytes (body_of (first_records slots pages))))))
  turn_goes pages body first rules (x ∷ xs) e =
      whole_area 9 (not_alone pages (x ∷ xs) rules (omega arith) (subst (λ (b : List ℕ). BeginsWithBody b area) e first) refl)

  -- the first batch
  body_first : (body : List ℕ) → BeginsWithBody body area → ⊥
  body_first body first = whole_area 5 (no_turn body first no_version (λ pages len b. turn_goes pages body first b.rules b.rest b.are) refl)

first_goes : {slots : ℕ} (area : List ℕ) → ((place : ℕ) → IsDamagedLog slots area place → ⊥) → ((body : List ℕ) → BeginsWithBody body area → ⊥) → length area ≤ most_bytes → ⊥
first_goes [] whole_area first short = whole_area 0 (no_first (no_commit_byte short (omega arith) refl))
first_goes (x ∷ xs) whole_area first short =
    whole_area 0 (
    no_first (
    no_batches short (record {
      inside = omega arith;
      closed = λ one. whole_area 0 (
          no_first (
          no_batch_behind short (record {
            inside = omega arith;
            is_open = one;
            none = λ body b. first body (record { whole = b.whole; rest = drop (5 + length body) (x ∷ xs); are = behind_batch body (x ∷ xs) b.there; short = short });
          }) refl
          )
          );
    }) refl refl
    )
    )

area_goes : {slots : ℕ} (area : List ℕ) → ((place : ℕ) → IsDamagedLog slots area place → ⊥) → ((number : ℕ) → IsOfVersion slots number area → ⊥)
    → ((pages : ℕ) (batches : List (List (Record slots))) → IsRecordLog pages batches area → ⊥) → ⊥
area_goes {slots} area whole_area no_version no_log = by (cases_lt most_bytes (length area))
  where
    by : (most_bytes < length area) ⊎ (length area ≤ most_bytes) → ⊥
    by (inl long) = whole_area most_bytes (no_first (too_long long refl))
    by (inr short) = first_goes {slots = slots} area whole_area (body_first {slots = slots} area whole_area no_version no_log short) short

-- ---- the image

pub none_without : (slots : ℕ) (image : Bytes) → ((o : Outcome) → Opened slots image o → ⊥) → ⊥
none_without slots image none = by (named_by image.super_area) refl
  where
    by : (name : Option Area) → named_by image.super_area ≡ name → ⊥
    by None named = none NoStore (no_store named)
    by (Some area) named =
        area_goes {slots = slots} (in_area image area) (λ place d. none (DamagedLog area place) (damaged_log area place named d)) (λ number v. none (UnknownVersion number) (unknown_version area number named v))
        (λ pages batches log. log_goes image area pages batches none (record { named = named; log = log }))
