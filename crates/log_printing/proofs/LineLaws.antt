-- The lines that are left of a log.
use Rattle.std.proofs.Common.{◌≡◌, ◌≢◌, ℕ, ◌+◌, ◌-◌, ◌^◌, ◌<◌, ◌≤◌, List, [], ◌∷◌, ◌++◌, length, take, drop, refl, sym, ap, subst, ◌∙◌, arith, append_assoc, length-append, length-drop}
use Rattle.std.specs.Prelude.{slice_index}
use Rattle.std.specs.Int.{w32, to_be_bytes}
use Rattle.std.proofs.lemmas.List.{append-nil, take_at, drop_at, drop_more, drop-drop, get_or-drop}
use Rattle.cell_page.specs.Format.{IsSlotCount}
use Rattle.log_record.specs.declared.record.Record.{Record}
use Rattle.log_record.specs.Spelling.{record_bytes, BeginsWith}
use Rattle.log_record.proofs.ReadLaws.{some_bytes}
use Rattle.log_record.proofs.Apart.{one_record}
use Rattle.gate_log.specs.Batches.{sized, batch_bytes, batches_bytes, IsBody, AreBodies, IsLog, most_bytes}
use Rattle.gate_log.proofs.Logs.{length-sized}
use Rattle.opened_images.specs.LogRecords.{body_of, bodies_of, all_of, first_records, HaveSpellings, IsRecordLog}
use Rattle.opened_images.proofs.Bodies.{begins, spelled_front, spelled_back, turn_spelled}
use Rattle.log_printing.specs.Text.{located, located_in, lines_of, line_at, text_of}
use Rattle.log_printing.specs.Lines.{Place, AreLeft, GivesText, IsPlaceIn, KeepsLeft}
use Rattle.log_printing.proofs.AreaLaws.{same_size, long_sized}

-- ---- where the place is

pub left_within : {slots : ℕ} (area : List ℕ) (items : List (ℕ × Record slots)) (p : Place) → AreLeft area items p → (p.at ≤ p.end) × (p.end < length area)
left_within area items p left =
    let more : List ℕ = batches_bytes (bodies_of left.batches) ++ left.commit_byte ∷ left.rest in
    let long : length area - p.at ≡ length (body_of left.records) + length (batches_bytes (bodies_of left.batches)) + (1 + length left.rest) =
    omega (arith, ap length left.are, length-append (body_of left.records) more, length-append (batches_bytes (bodies_of left.batches)) (left.commit_byte ∷ left.rest), length-drop p.at area) in
    (omega (arith, left.within), omega (arith, left.within, long))

pub place_within : (slots : ℕ) (area : List ℕ) (p : Place) → IsPlaceIn slots area p → (p.at ≤ p.end) × (p.end < length area)
place_within slots area p place = left_within area place.0 p place.1

some_record : {slots : ℕ} (r : Record slots) (rs : List (Record slots)) → HaveSpellings (r ∷ rs) → 1 ≤ length (record_bytes r)
some_record r rs spelled = some_bytes (record_bytes r) r (length (record_bytes r)) (begins r [] (record_bytes r) spelled.0 spelled.1 (sym (append-nil (record_bytes r))))

none_left : {slots : ℕ} (rs : List (Record slots)) → HaveSpellings rs → length (body_of rs) ≤ 0 → rs ≡ []
none_left [] spelled none = refl
none_left (r ∷ rs) spelled none = absurd (omega (arith, none, some_record r rs spelled, length-append (record_bytes r) (body_of rs)))

byte_there : (at : ℕ) (area bytes : List ℕ) → drop at area ≡ bytes → slice_index area at ≡ slice_index bytes 0
byte_there at area bytes is =
    let none : at + 0 ≡ at = omega arith in
    ap (λ (n : ℕ). slice_index area n) (sym none) ∙ sym (get_or-drop at area 0 0) ∙ ap (λ (l : List ℕ). slice_index l 0) is

-- ---- at a commit byte

-- a place at whose commit byte a body has ended
pub record IsEnded {slots : ℕ} (area : List ℕ) (items : List (ℕ × Record slots)) (p : Place) : Type 0 where
  pub batches : List (List (Record slots))
  pub spelled : HaveSpellings (all_of batches)
  pub bodies : AreBodies (bodies_of batches)
  pub commit_byte : ℕ
  pub closed : commit_byte ≢ 1
  pub rest : List ℕ
  pub are : drop p.at area ≡ batches_bytes (bodies_of batches) ++ commit_byte ∷ rest
  pub items_are : items ≡ located_in p.at batches

pub ended : {slots : ℕ} (area : List ℕ) (items : List (ℕ × Record slots)) (p : Place) → p.at ≡ p.end → AreLeft area items p → IsEnded area items p
ended {slots} area items p is left =
    let none : left.records ≡ [] = none_left left.records left.spelled (omega (arith, is, left.within)) in
    record {
      batches = left.batches;
      spelled = left.later_spelled;
      bodies = left.later_bodies;
      commit_byte = left.commit_byte;
      closed = left.closed;
      rest = left.rest;
      are = left.are ∙ ap (λ (rs : List (Record slots)). body_of rs ++ (batches_bytes (bodies_of left.batches) ++ left.commit_byte ∷ left.rest)) none;
      items_are = left.items_are ∙ ap (λ (rs : List (Record slots)). located p.at rs ++ located_in p.end left.batches) none ∙ ap (λ (n : ℕ). located_in n left.batches) (sym is);
    }

-- a closed commit byte stands there, and nothing is left
none_behind : {slots : ℕ} (area : List ℕ) (items : List (ℕ × Record slots)) (at : ℕ) (batches : List (List (Record slots))) (commit_byte : ℕ) (rest : List ℕ)
    → drop at area ≡ batches_bytes (bodies_of batches) ++ commit_byte ∷ rest → items ≡ located_in at batches → slice_index area at ≢ 1 → items ≡ []
none_behind area items at [] commit_byte rest are is shut = is
none_behind area items at (b ∷ bs) commit_byte rest are is shut = absurd (shut (byte_there at area (batches_bytes (bodies_of (b ∷ bs)) ++ commit_byte ∷ rest) are))

pub ends_there : {slots : ℕ} (area : List ℕ) (items : List (ℕ × Record slots)) (p : Place) → p.at ≡ p.end → slice_index area p.at ≢ 1 → AreLeft area items p → items ≡ []
ends_there area items p is shut left =
    let e = ended area items p is left in
    none_behind area items p.at e.batches e.commit_byte e.rest e.are e.items_are shut

-- an open commit byte stands there, and a batch after it
pub record IsBatchLeft {slots : ℕ} (area : List ℕ) (items : List (ℕ × Record slots)) (at : ℕ) : Type 0 where
  pub batch : List (Record slots)
  pub later : List (List (Record slots))
  pub spelled : HaveSpellings batch
  pub later_spelled : HaveSpellings (all_of later)
  pub whole : IsBody (body_of batch)
  pub later_bodies : AreBodies (bodies_of later)
  pub commit_byte : ℕ
  pub closed : commit_byte ≢ 1
  pub rest : List ℕ
  pub are : drop at area ≡ batch_bytes (body_of batch) ++ (batches_bytes (bodies_of later) ++ commit_byte ∷ rest)
  pub items_are : items ≡ located (at + 5) batch ++ located_in (at + 5 + length (body_of batch)) later

one_behind : {slots : ℕ} (area : List ℕ) (items : List (ℕ × Record slots)) (at : ℕ) (batches : List (List (Record slots))) (commit_byte : ℕ) (rest : List ℕ)
    → HaveSpellings (all_of batches) → AreBodies (bodies_of batches) → commit_byte ≢ 1
    → drop at area ≡ batches_bytes (bodies_of batches) ++ commit_byte ∷ rest → items ≡ located_in at batches → slice_index area at ≡ 1 → IsBatchLeft area items at
one_behind area items at [] commit_byte rest spelled bodies closed are is opened = absurd (closed (sym (byte_there at area (commit_byte ∷ rest) are) ∙ opened))
one_behind area items at (b ∷ bs) commit_byte rest spelled bodies closed are is opened =
    record {
      batch = b;
      later = bs;
      spelled = spelled_front b (all_of bs) spelled;
      later_spelled = spelled_back b (all_of bs) spelled;
      whole = bodies.0;
      later_bodies = bodies.1;
      commit_byte = commit_byte;
      closed = closed;
      rest = rest;
      are = are ∙ append_assoc (batch_bytes (body_of b)) (batches_bytes (bodies_of bs)) (commit_byte ∷ rest);
      items_are = is;
    }

pub batch_left : {slots : ℕ} (area : List ℕ) (items : List (ℕ × Record slots)) (p : Place) → p.at ≡ p.end → slice_index area p.at ≡ 1 → AreLeft area items p → IsBatchLeft area items p.at
batch_left area items p is opened left =
    let e = ended area items p is left in
    one_behind area items p.at e.batches e.commit_byte e.rest e.spelled e.bodies e.closed e.are e.items_are opened

cons_tail : (x y : ℕ) (xs ys : List ℕ) → x ∷ xs ≡ y ∷ ys → xs ≡ ys
cons_tail x y xs ys e = cc

-- what stands after the commit byte
pub behind_byte : {slots : ℕ} (area : List ℕ) (items : List (ℕ × Record slots)) (at : ℕ) (b : IsBatchLeft area items at) → at < length area
    → drop (at + 1) area ≡ sized (body_of b.batch) ++ (batches_bytes (bodies_of b.later) ++ b.commit_byte ∷ b.rest)
behind_byte area items at b inside =
    cons_tail (slice_index area at) 1 (drop (at + 1) area) (sized (body_of b.batch) ++ (batches_bytes (bodies_of b.later) ++ b.commit_byte ∷ b.rest)) (sym (drop_more area at 0 inside) ∙ b.are)

-- the length in front of the body is there
pub has_size : {slots : ℕ} (area : List ℕ) (items : List (ℕ × Record slots)) (p : Place) → p.at ≡ p.end → slice_index area p.at ≡ 1 → AreLeft area items p → 4 ≤ length (drop (p.at + 1) area)
has_size area items p is opened left =
    let b = batch_left area items p is opened left in
    let inside = left_within area items p left in
    omega (arith, long_sized (body_of b.batch) (batches_bytes (bodies_of b.later) ++ b.commit_byte ∷ b.rest) (drop (p.at + 1) area) (behind_byte area items p.at b (omega (arith, inside, is))))

pub is_size : {slots : ℕ} (area : List ℕ) (items : List (ℕ × Record slots)) (at size : ℕ) (b : IsBatchLeft area items at) → at < length area → size < 2 ^ 32
    → to_be_bytes w32 size ≡ take 4 (drop (at + 1) area) → size ≡ length (body_of b.batch)
is_size area items at size b inside typed is =
    same_size size (body_of b.batch) (batches_bytes (bodies_of b.later) ++ b.commit_byte ∷ b.rest) (drop (at + 1) area) typed is b.whole (behind_byte area items at b inside)

-- the first record of the batch is next
pub entered : {slots : ℕ} (area : List ℕ) (items : List (ℕ × Record slots)) (p q : Place) (size : ℕ) → p.at ≡ p.end → slice_index area p.at ≡ 1 → size < 2 ^ 32
    → to_be_bytes w32 size ≡ take 4 (drop (p.at + 1) area) → q.at ≡ p.at + 5 → q.end ≡ p.at + 5 + size → AreLeft area items p → AreLeft area items q × (q.at < q.end)
entered area items p q size is opened typed spelled at_is end_is left =
    let b = batch_left area items p is opened left in
    let inside = left_within area items p left in
    let sized_is : size ≡ length (body_of b.batch) = is_size area items p.at size b (omega (arith, inside, is)) typed spelled in
    let more : List ℕ = batches_bytes (bodies_of b.later) ++ b.commit_byte ∷ b.rest in
    let front : List ℕ = 1 ∷ to_be_bytes w32 (length (body_of b.batch)) in
    let split : drop p.at area ≡ front ++ (body_of b.batch ++ more) = b.are ∙ ap (λ (l : List ℕ). 1 ∷ l) (append_assoc (to_be_bytes w32 (length (body_of b.batch))) (body_of b.batch) more) in
    let behind : drop q.at area ≡ body_of b.batch ++ more =
    ap (λ (n : ℕ). drop n area) at_is ∙ sym (drop-drop 5 p.at area) ∙ ap (λ (l : List ℕ). drop 5 l) split ∙ drop_at front (body_of b.batch ++ more) 5 refl in
    let some : 1 ≤ length (body_of b.batch) = b.whole.some in (
      record {
        records = b.batch;
        batches = b.later;
        spelled = b.spelled;
        later_spelled = b.later_spelled;
        later_bodies = b.later_bodies;
        commit_byte = b.commit_byte;
        closed = b.closed;
        rest = b.rest;
        are = behind;
        within = omega (arith, at_is, end_is, sized_is);
        items_are = b.items_are ∙ ap (λ (n : ℕ). located n b.batch ++ located_in (p.at + 5 + length (body_of b.batch)) b.later) (sym at_is)
            ∙ ap (λ (n : ℕ). located q.at b.batch ++ located_in n b.later) (ap (λ (n : ℕ). p.at + 5 + n) (sym sized_is) ∙ sym end_is);
      },
      omega (arith, at_is, end_is, sized_is, some),
    )

-- ---- at a record

-- this record stands there, and these are left after it
pub record IsHead {slots : ℕ} (area : List ℕ) (items : List (ℕ × Record slots)) (p : Place) : Type 0 where
  pub r : Record slots
  pub begins : BeginsWith (take (p.end - p.at) (drop p.at area)) r (length (record_bytes r))
  pub later : List (ℕ × Record slots)
  pub items_are : items ≡ (p.at, r) ∷ later
  pub left : (q : Place) → q.at ≡ p.at + length (record_bytes r) → q.end ≡ p.end → AreLeft area later q

head_of : {slots : ℕ} (area : List ℕ) (items : List (ℕ × Record slots)) (p : Place) → p.at < p.end → (left : AreLeft area items p) → (records : List (Record slots)) → left.records ≡ records → IsHead area items p
head_of area items p some left [] are = absurd (omega (arith, some, left.within, ap (λ l. length (body_of l)) are))
head_of {slots} area items p some left (r ∷ rs) are =
    let more : List ℕ = batches_bytes (bodies_of left.batches) ++ left.commit_byte ∷ left.rest in
    let spelled : HaveSpellings (r ∷ rs) = subst HaveSpellings are left.spelled in
    let here : drop p.at area ≡ body_of (r ∷ rs) ++ more = left.are ∙ ap (λ (l : List (Record slots)). body_of l ++ more) are in
    let long : length (body_of (r ∷ rs)) ≡ p.end - p.at = omega (arith, left.within, ap (λ (l : List (Record slots)). length (body_of l)) are) in
    let body : take (p.end - p.at) (drop p.at area) ≡ record_bytes r ++ body_of rs = ap (λ (l : List ℕ). take (p.end - p.at) l) here ∙ take_at (body_of (r ∷ rs)) more (p.end - p.at) long in
    let split : drop p.at area ≡ record_bytes r ++ (body_of rs ++ more) = here ∙ append_assoc (record_bytes r) (body_of rs) more in
    record {
      r = r;
      begins = begins r (body_of rs) (take (p.end - p.at) (drop p.at area)) spelled.0 spelled.1 body;
      later = located (p.at + length (record_bytes r)) rs ++ located_in p.end left.batches;
      items_are = left.items_are ∙ ap (λ (l : List (Record slots)). located p.at l ++ located_in p.end left.batches) are;
      left = λ q at_is end_is. record {
        records = rs;
        batches = left.batches;
        spelled = spelled.2;
        later_spelled = left.later_spelled;
        later_bodies = left.later_bodies;
        commit_byte = left.commit_byte;
        closed = left.closed;
        rest = left.rest;
        are = ap (λ (n : ℕ). drop n area) at_is ∙ sym (drop-drop (length (record_bytes r)) p.at area) ∙ ap (λ (l : List ℕ). drop (length (record_bytes r)) l) split
            ∙ drop_at (record_bytes r) (body_of rs ++ more) (length (record_bytes r)) refl;
        within = omega (arith, at_is, end_is, long, some, length-append (record_bytes r) (body_of rs));
        items_are = ap (λ (n : ℕ). located n rs ++ located_in p.end left.batches) (sym at_is) ∙ ap (λ (n : ℕ). located q.at rs ++ located_in n left.batches) (sym end_is);
      };
    }

pub head : {slots : ℕ} (area : List ℕ) (items : List (ℕ × Record slots)) (p : Place) → p.at < p.end → AreLeft area items p → IsHead area items p
head area items p some left = head_of area items p some left left.records refl

-- its line is next
pub line_next : {slots : ℕ} → IsSlotCount slots → (area text : List ℕ) (p q : Place) (r : Record slots) (len : ℕ) (line : List ℕ) → p.at < p.end → BeginsWith (take (p.end - p.at) (drop p.at area)) r len
    → q.at ≡ p.at + len → q.end ≡ p.end → line ≡ line_at p.at r → GivesText slots area text p → (rest : List ℕ) × (text ≡ line ++ rest) × GivesText slots area rest q
line_next {slots} known area text p q r len line some b at_is end_is line_is gives =
    let h = head area gives.0 p some gives.1 in
    let same = one_record (take (p.end - p.at) (drop p.at area)) r h.r len (length (record_bytes h.r)) known b h.begins in
    let on : q.at ≡ p.at + length (record_bytes h.r) = at_is ∙ ap (λ (n : ℕ). p.at + n) same.1 in (
      lines_of h.later,
      gives.2 ∙ ap (λ (l : List (ℕ × Record slots)). lines_of l) h.items_are ∙ ap (λ (l : List ℕ). l ++ lines_of h.later) (ap (λ (s : Record slots). line_at p.at s) (sym same.0) ∙ sym line_is),
      (h.later, h.left q on end_is, refl),
    )

-- ---- all lines

pub first_place : (slots : ℕ) (area : List ℕ) (p : Place) (pages : ℕ) (batches : List (List (Record slots))) → p.at ≡ 0 → p.end ≡ 0 → IsRecordLog pages batches area
    → GivesText slots area (text_of pages batches) p
first_place slots area p pages batches at_is end_is l =
    let are = l.batches_are in (
      located_in 0 (first_records slots pages ∷ batches),
      record {
        records = [];
        batches = first_records slots pages ∷ batches;
        spelled = tt;
        later_spelled = spelled_more (first_records slots pages) (all_of batches) (turn_spelled slots pages are.some are.few) are.spelled;
        later_bodies = l.log.bodies;
        commit_byte = l.log.commit_byte;
        closed = l.log.closed;
        rest = l.log.rest;
        are = ap (λ (n : ℕ). drop n area) at_is ∙ l.log.are;
        within = omega (arith, at_is, end_is);
        items_are = ap (λ (n : ℕ). located_in n (first_records slots pages ∷ batches)) (sym end_is);
      },
      refl,
    )
  where
    spelled_more : {slots : ℕ} (rs ss : List (Record slots)) → HaveSpellings rs → HaveSpellings ss → HaveSpellings (rs ++ ss)
    spelled_more [] ss a b = b
    spelled_more (r ∷ rs) ss a b = (a.0, a.1, spelled_more rs ss a.2 b)
