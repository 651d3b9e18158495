-- The records of a batch, done one after another.
use Rattle.std.proofs.Common.{◌≡◌, inl, inr, ℕ, ◌+◌, List, [], ◌∷◌, ◌++◌, length, Some, refl, sym, ap, subst, ◌∙◌, arith, append_assoc, length-append}
use Rattle.std.proofs.lemmas.List.{append-nil}
use Rattle.cell_page.specs.declared.cell.Cell.{Cell}
use Rattle.log_record.specs.declared.record.Record.{Record}
use Rattle.log_record.specs.Spelling.{record_bytes}
use Rattle.log_replay.specs.Replays.{Replaying, FitsReplay, after_taking}
use Rattle.opened_images.specs.LogRecords.{all_of}
use Rattle.ship_stream.specs.Runs.{RecordRun, AreRecords}
use Rattle.ship_stream.specs.Reading.{InLog}
use Rattle.standby.specs.Following.{AllFit, after_all, over_base, base_after, StopsFitting, Gathering, Has}
use Rattle.standby.specs.Taking.{TakesNext, StopsNext, HasNone}

-- What is left of these records: what holds of it here holds of them all there.
pub record IsLeft {slots : ℕ} (rs : List (Record slots)) (v : Replaying) (at : ℕ) (w : Replaying) (left : RecordRun) : Type 0 where
  pub later : List (Record slots)
  pub are : AreRecords later left
  pub fit : AllFit w later → AllFit v rs
  pub lead : after_all w later ≡ after_all v rs
  pub stop : (place : ℕ) → StopsFitting w later left.at place → StopsFitting v rs at place

pub left_first : {slots : ℕ} (rs : List (Record slots)) (v : Replaying) (records : RecordRun) → AreRecords rs records → IsLeft rs v records.at v records
left_first rs v records are = record { later = rs; are = are; fit = λ fit. fit; lead = refl; stop = λ place stop. stop }

pub left_next : {slots : ℕ} (rs : List (Record slots)) (v : Replaying) (at : ℕ) (w u : Replaying) (left next : RecordRun) (r : Record slots) (i : IsLeft rs v at w left) → (later : List (Record slots)) → i.later ≡ r ∷ later
    → AreRecords later next → next.at ≡ left.at + length (record_bytes r) → FitsReplay w r → u ≡ after_taking r w → IsLeft rs v at u next
left_next rs v at w u left next r i later split are placed fits came =
    record {
      later = later;
      are = are;
      fit = λ fit. i.fit (subst (λ l. AllFit w l) (sym split) (fits, subst (λ (x : Replaying). AllFit x later) came fit));
      lead = ap (λ (x : Replaying). after_all x later) came ∙ ap (λ l. after_all w l) (sym split) ∙ i.lead;
      stop = λ place stop. i.stop place (subst (λ l. StopsFitting w l left.at place) (sym split)
          (inr (fits, subst (λ (k : ℕ). StopsFitting (after_taking r w) later k place) placed (subst (λ (x : Replaying). StopsFitting x later next.at place) came stop))));
    }

pub left_stops : {slots : ℕ} (rs : List (Record slots)) (v : Replaying) (at : ℕ) (w : Replaying) (left : RecordRun) (r : Record slots) (i : IsLeft rs v at w left) → (later : List (Record slots)) → i.later ≡ r ∷ later
    → (FitsReplay w r → ⊥) → StopsFitting v rs at left.at
left_stops rs v at w left r i later split none = i.stop left.at (subst (λ l. StopsFitting w l left.at left.at) (sym split) (inl (none, refl)))

pub left_none : {slots : ℕ} (rs : List (Record slots)) (v : Replaying) (at : ℕ) (w : Replaying) (left : RecordRun) (i : IsLeft rs v at w left) → i.later ≡ [] → AllFit v rs × (w ≡ after_all v rs)
left_none rs v at w left i none = (i.fit (subst (λ l. AllFit w l) (sym none) tt), ap (λ l. after_all w l) (sym none) ∙ i.lead)

-- the next one was done
pub left_takes : {slots : ℕ} (rs : List (Record slots)) (v : Replaying) (at : ℕ) (w u : Replaying) (left next : RecordRun) → IsLeft rs v at w left → TakesNext slots w u left next → IsLeft rs v at u next
left_takes rs v at w u left next i t =
    let n = t.next i.later i.are in
    left_next rs v at w u left next t.r i n.0 n.1 n.2 t.place t.fits t.took

-- it doesn't fit
pub left_unfit : {slots : ℕ} (rs : List (Record slots)) (v : Replaying) (at place : ℕ) (w : Replaying) (left : RecordRun) → IsLeft rs v at w left → StopsNext slots w left place → StopsFitting v rs at place
left_unfit rs v at place w left i s =
    let n = s.next i.later i.are in
    subst (λ (k : ℕ). StopsFitting v rs at k) (sym n.2) (left_stops rs v at w left s.r i n.0 n.1 s.unfit)

-- there is none
pub left_ended : {slots : ℕ} (rs : List (Record slots)) (v : Replaying) (at : ℕ) (w u : Replaying) (left : RecordRun) → IsLeft rs v at w left → HasNone slots left → u ≡ w → AllFit v rs × (u ≡ after_all v rs)
left_ended rs v at w u left i none same =
    let all = left_none rs v at w left i (none i.later i.are) in
    (all.0, same ∙ all.1)

-- ---- one batch more

after_both : {slots : ℕ} (v : Replaying) (rs ss : List (Record slots)) → after_all v (rs ++ ss) ≡ after_all (after_all v rs) ss
after_both v [] ss = refl
after_both v (r ∷ rs) ss = after_both (after_taking r v) rs ss

fit_both : {slots : ℕ} (v : Replaying) (rs ss : List (Record slots)) → AllFit v rs → AllFit (after_all v rs) ss → AllFit v (rs ++ ss)
fit_both v [] ss fit more = more
fit_both v (r ∷ rs) ss fit more = (fit.0, fit_both (after_taking r v) rs ss fit.1 more)

all_push : {slots : ℕ} (batches : List (List (Record slots))) (rs : List (Record slots)) → all_of (batches ++ rs ∷ []) ≡ all_of batches ++ rs
all_push [] rs = append-nil rs
all_push (batch ∷ batches) rs = ap (λ l. batch ++ l) (all_push batches rs) ∙ sym (append_assoc batch (all_of batches) rs)

-- what is made of the stream, with the next batch, whose records fit
pub has_batch : {slots : ℕ} (pages : List (List (Cell slots))) (batches : List (List (Record slots))) (rs : List (Record slots)) (g h : Gathering slots) → Has (InLog pages batches) g
    → AllFit (base_after pages batches) rs → h.replaying ≡ Some (after_all (base_after pages batches) rs) → h.batches ≡ g.batches + 1 → Has (InLog pages (batches ++ rs ∷ [])) h
has_batch {slots} pages batches rs g h has fit is counted =
    let records = all_push batches rs in
    let led : after_all (base_after pages batches) rs ≡ base_after pages (batches ++ rs ∷ []) =
    sym (after_both (over_base pages) (all_of batches) rs) ∙ ap (λ (l : List (Record slots)). after_all (over_base pages) l) (sym records) in (
      subst (λ (l : List (Record slots)). AllFit (over_base pages) l) (sym records) (fit_both (over_base pages) (all_of batches) rs has.0 fit),
      is ∙ ap (λ (x : Replaying). Some x) led,
      omega (arith, counted, has.2, length-append batches (rs ∷ [])),
    )
