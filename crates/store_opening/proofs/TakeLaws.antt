-- Records that a replay takes one after another.
use Rattle.std.proofs.Common.{◌≡◌, ℕ, ◌+◌, ◌<◌, ◌≤◌, List, [], ◌∷◌, ◌++◌, length, drop, refl, sym, ap, subst, ◌∙◌, arith, append_assoc, length-append}
use Rattle.std.specs.Prelude.{slice_index}
use Rattle.std.proofs.lemmas.List.{append-nil, drop_at, drop_all, length-drop}
use Rattle.std.proofs.lemmas.Grind.{flat_map-append}
use Rattle.log_record.specs.declared.record.Record.{Record}
use Rattle.log_record.specs.declared.record.Record.TheVariants.{OfCells, Image, Turn}
use Rattle.log_record.specs.Spelling.{record_bytes, BeginsWith}
use Rattle.log_record.proofs.ReadLaws.{some_bytes}
use Rattle.log_record.proofs.Apart.{one_record}
use Rattle.cell_page.specs.declared.cell.Cell.{Cell}
use Rattle.cell_page.specs.Format.{IsSlotCount}
use Rattle.log_replay.specs.Replays.{Replaying, FitsReplay, after_taking}
use Rattle.opened_images.specs.LogRecords.{body_of, HaveSpellings}
use Rattle.opened_images.proofs.Bodies.{begins}
use Rattle.page_marks.specs.declared.marks.PageMark.{PageMark}
use Rattle.page_marks.proofs.MarkLaws.{no-marks, one-record, both-marks}
use Rattle.store_opening.specs.Walks.{CanTake, CanTakeAll, taken_all, Takes, TakesFirst, TakesNone, TakesFront, TakesBody, StopsInBody}

-- ---- two runs of records

spelled_both : {slots : ℕ} (rs ss : List (Record slots)) → HaveSpellings rs → HaveSpellings ss → HaveSpellings (rs ++ ss)
spelled_both [] ss a b = b
spelled_both (r ∷ rs) ss a b = (a.0, a.1, spelled_both rs ss a.2 b)

can_take_both : {slots : ℕ} (v : Replaying) (rs ss : List (Record slots)) → CanTakeAll v rs → CanTakeAll (taken_all v rs) ss → CanTakeAll v (rs ++ ss)
can_take_both v [] ss a b = b
can_take_both v (r ∷ rs) ss a b = (a.0, can_take_both (after_taking r v) rs ss a.1 b)

pub taken_both : {slots : ℕ} (v : Replaying) (rs ss : List (Record slots)) → taken_all v (rs ++ ss) ≡ taken_all (taken_all v rs) ss
taken_both v [] ss = refl
taken_both v (r ∷ rs) ss = taken_both (after_taking r v) rs ss

pub takes_both : {slots : ℕ} (rs ss : List (Record slots)) (v w u : Replaying) → Takes rs v w → Takes ss w u → Takes (rs ++ ss) v u
takes_both rs ss v w u a b =
    record {
      spelled = spelled_both rs ss a.spelled b.spelled;
      fit = can_take_both v rs ss a.fit (subst (λ (x : Replaying). CanTakeAll x ss) a.are b.fit);
      are = b.are ∙ ap (λ (x : Replaying). taken_all x ss) a.are ∙ sym (taken_both v rs ss);
    }

pub takes_none : (slots : ℕ) (v : Replaying) → Takes {slots = slots} [] v v
takes_none slots v = record { spelled = tt; fit = tt; are = refl }

pub takes_one : {slots : ℕ} (bytes : List ℕ) (r : Record slots) (len : ℕ) (v w : Replaying) → BeginsWith bytes r len → CanTake v r → w ≡ after_taking r v → Takes (r ∷ []) v w
takes_one bytes r len v w b can are = record { spelled = (b.rules, b.typed, tt); fit = (can, tt); are = are }

-- ---- one record

-- a record has bytes, and they stand in the bytes that begin with it
pub first_within : {slots : ℕ} (bytes : List ℕ) (r : Record slots) (len : ℕ) → BeginsWith bytes r len → (1 ≤ len) × (len ≤ length bytes)
first_within bytes r len b =
    let some = some_bytes (record_bytes r) r (length (record_bytes r)) (begins r [] (record_bytes r) b.rules b.typed (sym (append-nil (record_bytes r)))) in (
      omega (arith, some, b.takes),
      omega (arith, b.takes, ap length b.are, length-append (record_bytes r) b.rest),
    )

-- what doesn't fit the replay can't be taken
pub refused : {slots : ℕ} (v : Replaying) (r : Record slots) → (FitsReplay v r → ⊥) → CanTake v r → ⊥
refused v (OfCells r) denied can = denied can
refused v (Image page cells) denied can = denied can.0
refused v (Turn version pages) denied can = can

-- an image that isn't awaited can't be taken
pub unawaited : {slots : ℕ} (v : Replaying) (r : Record slots) (page : ℕ) (cells : List (Cell slots)) → r ≡ Image page cells → ((page < length v.skips) × (1 ≤ slice_index v.skips page) → ⊥) → CanTake v r → ⊥
unawaited v r page cells is denied can = denied (subst (λ s. CanTake v s) is can)

pub turn_refused : {slots : ℕ} (v : Replaying) (r : Record slots) (version pages : ℕ) → r ≡ Turn version pages → CanTake v r → ⊥
turn_refused v r version pages is can = subst (λ s. CanTake v s) is can

-- the one record that the bytes begin with can't be taken
pub none_taken : {slots : ℕ} → IsSlotCount slots → (bytes : List ℕ) (r : Record slots) (len : ℕ) (v : Replaying) → BeginsWith bytes r len → (CanTake v r → ⊥) → TakesNone slots bytes v
none_taken known bytes r len v b denied s n c can = denied (subst (λ t. CanTake v t) (sym (one_record bytes r s len n known b c).0) can)

-- ---- the body of a batch

pub front_start : (slots : ℕ) (body : List ℕ) (v : Replaying) (marks : List PageMark) → TakesFront slots body 0 v v marks marks
front_start slots body v marks = record { rs = []; takes = takes_none slots v; so_far = refl; split = refl; marked = no-marks slots marks }

pub front_more : (slots : ℕ) (body : List ℕ) (at len : ℕ) (v w u : Replaying) (before mid now : List PageMark) → TakesFront slots body at v w before mid → TakesFirst slots (drop at body) len w u mid now
    → TakesFront slots body (at + len) v u before now
front_more slots body at len v w u before mid now front first =
    let bytes : body_of (front.rs ++ first.r ∷ []) ≡ body_of front.rs ++ record_bytes first.r =
    flat_map-append record_bytes front.rs (first.r ∷ []) ∙ ap (λ (l : List ℕ). body_of front.rs ++ l) (append-nil (record_bytes first.r)) in
    let split : body ≡ body_of (front.rs ++ first.r ∷ []) ++ first.begins.rest =
    front.split ∙ ap (λ (l : List ℕ). body_of front.rs ++ l) first.begins.are ∙ sym (append_assoc (body_of front.rs) (record_bytes first.r) first.begins.rest)
    ∙ ap (λ (l : List ℕ). l ++ first.begins.rest) (sym bytes) in
    let count : at + len ≡ length (body_of (front.rs ++ first.r ∷ [])) =
    omega (arith, front.so_far, first.begins.takes, ap length bytes, length-append (body_of front.rs) (record_bytes first.r)) in
    let behind : drop (at + len) body ≡ first.begins.rest =
    ap (λ (l : List ℕ). drop (at + len) l) split ∙ drop_at (body_of (front.rs ++ first.r ∷ [])) first.begins.rest (at + len) (sym count) in
    record {
      rs = front.rs ++ first.r ∷ [];
      takes = takes_both front.rs (first.r ∷ []) v w u front.takes (takes_one (drop at body) first.r len w u first.begins first.fits first.are);
      so_far = count;
      split = split ∙ ap (λ (l : List ℕ). body_of (front.rs ++ first.r ∷ []) ++ l) (sym behind);
      marked = both-marks front.rs (first.r ∷ []) before mid now front.marked (one-record first.r mid now first.marked);
    }

pub front_all : (slots : ℕ) (body : List ℕ) (at : ℕ) (v w : Replaying) (before now : List PageMark) → length body ≤ at → TakesFront slots body at v w before now → TakesBody slots body v w before now
front_all slots body at v w before now over front =
    record {
      rs = front.rs;
      takes = front.takes;
      split = front.split ∙ ap (λ (l : List ℕ). body_of front.rs ++ l) (drop_all at body over) ∙ append-nil (body_of front.rs);
      marked = front.marked;
    }

pub front_stops : (slots : ℕ) (body : List ℕ) (at : ℕ) (v w : Replaying) (before now : List PageMark) → at < length body → TakesFront slots body at v w before now → TakesNone slots (drop at body) w
    → StopsInBody slots body at v
front_stops slots body at v w before now within front none =
    record {
      rs = front.rs;
      w = w;
      takes = front.takes;
      so_far = front.so_far;
      left = drop at body;
      some = omega (arith, within, length-drop at body);
      none = none;
      split = front.split;
    }
