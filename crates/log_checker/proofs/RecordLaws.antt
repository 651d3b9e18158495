-- The records of a batch, told to the tally one after another.
use Rattle.std.proofs.Common.{◌≡◌, ℕ, ◌+◌, ◌-◌, ◌*◌, ◌<◌, ◌≤◌, ◌^◌, List, [], ◌∷◌, ◌++◌, length, Result, Ok, Err, refl, sym, ap, subst, ◌∙◌, arith, append_assoc, length-append, length-set}
use Rattle.std.specs.Prelude.{OnOk, slice_index, slice_set}
use Rattle.std.proofs.lemmas.List.{append-nil}
use Rattle.cell_model.specs.Cells.{Cell}
use Rattle.log_record.specs.declared.record.Record.{Record}
use Rattle.log_record.specs.declared.record.Record.TheVariants.{OfCells, Image, Turn}
use Rattle.log_replay.specs.Replays.{Replaying, FitsReplay, IsWithin, after_taking}
use Rattle.ship_stream.specs.Runs.{RecordRun, AreRecords}
use Rattle.standby.specs.Taking.{HasNone}
use Rattle.log_checker.specs.Tallies.{Tallying, Tells, IsWithinCells}
use Rattle.log_checker.specs.Taking.{IsBeside, TellsMore, TakesBoth}

-- Of these records the tally told of the first ones, and those are left.
pub record IsTold {slots : ℕ} (rs : List (Record slots)) (t u : Tallying) (left : RecordRun) : Type 0 where
  pub done : List (Record slots)
  pub later : List (Record slots)
  pub are : AreRecords later left
  pub split : rs ≡ done ++ later
  pub tells : TellsMore done t u

pub told_first : {slots : ℕ} (rs : List (Record slots)) (t : Tallying) (records : RecordRun) → AreRecords rs records → IsTold rs t t records
told_first {slots} rs t records are = record {
  done = [];
  later = rs;
  are = are;
  split = refl;
  tells = λ base before told. subst (λ (l : List (Record slots)). Tells base l t) (sym (append-nil before)) told;
}

pub told_next : {slots : ℕ} (rs : List (Record slots)) (t u w : Tallying) (left next : RecordRun) (r : Record slots) (i : IsTold rs t u left) (later : List (Record slots)) → i.later ≡ r ∷ later → AreRecords later next
    → ((base : List Cell) (before : List (Record slots)) → Tells base before u → Tells base (before ++ r ∷ []) w) → IsTold rs t w next
told_next {slots} rs t u w left next r i later is are took = record {
  done = i.done ++ r ∷ [];
  later = later;
  are = are;
  split = i.split ∙ ap (λ (l : List (Record slots)). i.done ++ l) is ∙ sym (append_assoc i.done (r ∷ []) later);
  tells = λ base before told. subst (λ (l : List (Record slots)). Tells base l w) (append_assoc before i.done (r ∷ [])) (took base (before ++ i.done) (i.tells base before told));
}

pub told_none : {slots : ℕ} (rs : List (Record slots)) (t u : Tallying) (left : RecordRun) (i : IsTold rs t u left) → i.later ≡ [] → TellsMore rs t u
told_none {slots} rs t u left i none =
    let all : i.done ≡ rs = sym (i.split ∙ ap (λ (l : List (Record slots)). i.done ++ l) none ∙ append-nil i.done) in
    subst (λ (l : List (Record slots)). TellsMore l t u) all i.tells

-- the next one was told
pub told_takes : {slots : ℕ} (rs : List (Record slots)) (v w : Replaying) (s t u : Tallying) (left next : RecordRun) → IsTold rs s t left → TakesBoth slots v w t u left next → IsTold rs s u next
told_takes rs v w s t u left next i b =
    let n = b.taken.next i.later i.are in
    told_next rs s t u left next b.taken.r i n.0 n.1 n.2 b.told

-- there is none
pub told_ended : {slots : ℕ} (rs : List (Record slots)) (t u w : Tallying) (left : RecordRun) → IsTold rs t u left → HasNone slots left → w ≡ u → TellsMore rs t w
told_ended {slots} rs t u w left i none same = subst (λ (x : Tallying). TellsMore rs t x) (sym same) (told_none rs t u left i (none i.later i.are))

-- ---- the tally beside the replay

pub within_cells : {slots : ℕ} (v : Replaying) (r : Record slots) (cells : ℕ) → cells ≡ 8 * length v.skips + 1 → FitsReplay v r → IsWithinCells cells r
within_cells v (OfCells r) cells sized fits =
    let ids : 8 * length v.skips ≡ cells - 1 = omega (arith, sized) in
    subst (λ (n : ℕ). IsWithin n r) ids fits.0
within_cells v (Image page held) cells sized fits = tt
within_cells v (Turn version pages) cells sized fits = tt

pub skips_kept : {slots : ℕ} (v : Replaying) (r : Record slots) → length (after_taking r v).skips ≡ length v.skips
skips_kept v (OfCells r) = refl
skips_kept v (Image page held) = length-set v.skips page (slice_index v.skips page - 1)
skips_kept v (Turn version pages) = refl

pub beside_next : {slots : ℕ} (v w : Replaying) (t u : Tallying) (left next : RecordRun) (r : Record slots) → w ≡ after_taking r v → length u.cells ≡ length t.cells → u.commits ≤ t.commits + 1 → length next.bytes < length left.bytes
    → IsBeside v t left → IsBeside w u next
beside_next v w t u left next r came sized counted fewer b =
    let skips : length w.skips ≡ length v.skips = ap (λ (x : Replaying). length x.skips) came ∙ skips_kept v r in
    record { sized = omega (arith, sized, b.sized, skips); room = omega (arith, counted, fewer, b.room) }

-- a call that told of the record
pub took_one : {slots : ℕ} {T E : Type 0} (o : Result T E) (x : T) (u w : Tallying) (r : Record slots) → o ≡ Ok x
    → ((base : List Cell) (before : List (Record slots)) → Tells base before u → OnOk o (Tells base (before ++ r ∷ []) w))
    → (base : List Cell) (before : List (Record slots)) → Tells base before u → Tells base (before ++ r ∷ []) w
took_one {slots} o x u w r is took base before told = subst (λ (y : Result _ _). OnOk y (Tells base (before ++ r ∷ []) w)) is (took base before told)
